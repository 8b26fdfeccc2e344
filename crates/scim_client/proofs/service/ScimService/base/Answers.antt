use Rattle.std.proofs.Common.{sym, subst, ◌∙◌}
use Rattle.scim_key.specs.Bases.{IsBase}
use Rattle.scim_client.proofs.ServicePathLemmas.{base_again}
use Rattle.scim_client.proofs.service.ScimService.base.Goals as goal

pub returns : goal.returns
returns c = λ lawful.
    base_again c.self.inside.base c.self.inside.path c.self.invariant (subst IsBase (sym c.self.view_is) lawful) ∙ c.self.view_is
