use Rattle.std.proofs.Common.{◌≡◌, ◌∙◌, ℕ, List, Option, Some, ap, subst, sym}
use Rattle.std.specs.Option.{option_map}
use Rattle.std.specs.Result.{IfOk}
use Rattle.scim_resource.specs.Showing.{stated_tag, tag_of}
use Rattle.scim_resource.proofs.Tags.{stated_text, states_none}
use Rattle.scim_resource.proofs.showing.stated_tag.Goals as goal

pub returns-in-Ok-clause-given : goal.returns-in-Ok-clause-given
returns-in-Ok-clause-given c =
    let text = c.in-Ok.ensures.cases in
    let said : tag_of c.in-Ok.text.now ≡ stated_tag (option_map (λ e. e.now) c.args.etag) =
    stated_text c.in-Some.bytes.now c.in-Ok.text.now text.0 text.1 ∙ ap (λ o. stated_tag (option_map (λ e. e.now) o)) (sym c.in-Some.is) in
    let T : Option (List ℕ) → Type 0 = λ t. IfOk c.tag_of.result (λ tag. tag ≡ t) in
    subst T said c.tag_of.ensures.given

pub returns-in-Err-clause-given : goal.returns-in-Err-clause-given
returns-in-Err-clause-given c =
    states_none c.in-Some.bytes.now c.in-Err.ensures.cases.0 ∙ ap (λ o. stated_tag (option_map (λ e. e.now) o)) (sym c.in-Some.is)
