use Rattle.std.proofs.Common.{◌≡◌, List, ℕ, ap, sym, subst, ◌∙◌}
use Rattle.std.specs.Prelude.{IfOk}
use Rattle.scim_key.specs.Bases.{authority_of}
use Rattle.scim_client.specs.Requests.{text_at}
use Rattle.scim_client.specs.ServicePaths.{host_of, service_path_of}
use Rattle.scim_client.specs.Spelling.{IsWritable, KeepsLimitsAt, SpellsRequest}
use Rattle.scim_client.proofs.ServicePathLemmas.{address_host, address_path}
use Rattle.scim_client.proofs.service.ScimService.bytes_of.Goals as goal

pub returns : goal.returns
returns c =
    let request = c.args.request.now in
    let base = c.self.inside.base in
    let host : authority_of base ≡ host_of c.args.self.now =
    sym (address_host base c.self.inside.path c.self.invariant) ∙ ap host_of c.self.view_is in
    let path : c.path_text.result.now ≡ service_path_of c.args.self.now =
    c.path_text.ensures ∙ sym (address_path base c.self.inside.path c.self.invariant) ∙ ap service_path_of c.self.view_is in
    let spells : List ℕ → List ℕ → Type 0 = λ h p. IfOk c.bytes_of.result (λ text. IsWritable request → KeepsLimitsAt h p request → SpellsRequest text.items request) in
    record {
      text = subst (λ t. IfOk c.bytes_of.result (λ text. text.items ≡ t)) (λ i. text_at (host i) (path i) request) c.bytes_of.ensures.text;
      spelled = subst (λ p. spells (host_of c.args.self.now) p) path (subst (λ h. spells h c.path_text.result.now) host c.bytes_of.ensures.spelled);
    }
