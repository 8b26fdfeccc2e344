use Rattle.std.proofs.Common.{ℕ, List, inr, subst}
use Rattle.scim_client.specs.Spelling.{SpellsRequest}
use Rattle.scim_client.proofs.service.ScimService.send_request.Goals as goal

pub returns-in-Ok-clause-spelled : goal.returns-in-Ok-clause-spelled
returns-in-Ok-clause-spelled g c =
    inr (λ writable limits. subst (λ (text : List ℕ). SpellsRequest text c.args.request.now) c.in-Ok.ensures.text (c.in-Ok.ensures.spelled writable limits))
