use Rattle.std.proofs.Common.{◌∙◌, sym}
use Rattle.provisioning.proofs.RestLemmas.{confirmed_stands, spent_stands}
use Rattle.provisioning.proofs.records.standing_after.Goals as goal

pub returns-then-is_done : goal.returns-then-is_done
returns-then-is_done g c = confirmed_stands _ _ _ _ _ c.confirmed.result c.confirmed.ensures (sym c.is_done.ensures ∙ c.if-is_done.true)

pub returns-else-is_done : goal.returns-else-is_done
returns-else-is_done g c = spent_stands _ _ _ _ (sym c.is_done.ensures ∙ c.if-is_done.false)
