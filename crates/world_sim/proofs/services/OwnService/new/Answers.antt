use Rattle.std.proofs.Common.{subst, sym}
use Rattle.scim_key.specs.Bases.{IsBase}
use Rattle.world_sim.proofs.services.OwnService.new.Goals as goal

pub invariant_of-result : goal.invariant_of-result
invariant_of-result c = subst IsBase (sym c.new.ensures) c.keeps_form.ensures
