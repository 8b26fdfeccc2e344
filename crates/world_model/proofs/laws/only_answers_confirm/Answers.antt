use Rattle.world_model.proofs.Confirming as laws
use Rattle.world_model.proofs.laws.only_answers_confirm.Goals as goal

pub returns : goal.returns
returns c = laws.only_answers_confirm
