use Rattle.world_model.proofs.OneWay as ways
use Rattle.world_model.proofs.Settling as laws
use Rattle.world_model.proofs.laws.settles.Goals as goal

pub returns-clause-by_three : goal.returns-clause-by_three
returns-clause-by_three c = laws.settles

pub returns-clause-one_way : goal.returns-clause-one_way
returns-clause-one_way c = ways.one_way

pub returns-clause-leads_on : goal.returns-clause-leads_on
returns-clause-leads_on c = ways.leads_on
