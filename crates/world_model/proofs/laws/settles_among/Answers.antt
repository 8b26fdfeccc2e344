use Rattle.world_model.proofs.Alone as alone
use Rattle.world_model.proofs.Meanwhile as meanwhile
use Rattle.world_model.proofs.Settling as laws
use Rattle.world_model.proofs.laws.settles_among.Goals as goal

pub returns-clause-by_three : goal.returns-clause-by_three
returns-clause-by_three c = laws.settles_among

pub returns-clause-stays : goal.returns-clause-stays
returns-clause-stays c = meanwhile.stays_settled

pub returns-clause-any_time : goal.returns-clause-any_time
returns-clause-any_time c = alone.act_any_time
