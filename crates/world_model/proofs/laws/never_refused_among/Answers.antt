use Rattle.world_model.proofs.Alone as alone
use Rattle.world_model.proofs.Quiet as quiet
use Rattle.world_model.proofs.Room as room
use Rattle.world_model.proofs.laws.never_refused_among.Goals as goal

pub returns-clause-earlier : goal.returns-clause-earlier
returns-clause-earlier c = room.room_was_there

pub returns-clause-untroubled : goal.returns-clause-untroubled
returns-clause-untroubled c = quiet.never_refused_among

pub returns-clause-without : goal.returns-clause-without
returns-clause-without c = alone.room_without_others
