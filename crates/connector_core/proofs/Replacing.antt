-- What was seen is replaced as it was seen.
use Rattle.std.proofs.Common.{◌≡◌, Bool, true, false, cond, ℕ, List, Some, Result, Ok, Err, ap, sym, subst, ◌∙◌}
use Rattle.std.specs.Option.{option_map}
use Rattle.scim_key.specs.Revisions.{RevisionValue}
use Rattle.scim_message.specs.declared.messages.Request.{Request}
use Rattle.scim_resource.specs.declared.contents.Content.{Content}
use Rattle.mapping.specs.Images.{imaged}
use Rattle.mapping.specs.declared.groups.ImageFault.{ImageFault}
use Rattle.mapping.specs.declared.groups.ImageFault.TheVariants.{MemberWithoutId, Memory}
use Rattle.connector_core.specs.Asking.{asking, asking_of, asking_with, is_done, replacement, request_for}
use Rattle.connector_core.specs.Book.{known_id}
use Rattle.connector_core.specs.Laws.{ReplacesWhatWasSeen}
use Rattle.connector_core.specs.declared.asking.Ask.TheVariants.{Nothing, Send}
use Rattle.connector_core.specs.declared.knowledge.Known.{Known}
use Rattle.connector_core.specs.declared.knowledge.Seen.TheVariants.{At}

replaces-sent : (done : Bool) (found : Result Content ImageFault) (known : Known) (id tag : List ℕ) (revision : RevisionValue) (request : Request)
    → known.seen ≡ At id tag revision → cond done Nothing (asking_with found known) ≡ Send request → (content : Content) × (request ≡ replacement id tag content)
replaces-sent true found known id tag revision request seen is = absurd (cc)
replaces-sent false (Err (MemberWithoutId place)) known id tag revision request seen is = absurd (cc)
replaces-sent false (Err Memory) known id tag revision request seen is = absurd (cc)
replaces-sent false (Ok content) known id tag revision request seen is =
    let sent : request_for known.seen known.wanted content ≡ request = cc in
    (content, sym (subst (λ s. request_for s known.wanted content ≡ request) seen sent))

pub what_was_seen_is_replaced : ReplacesWhatWasSeen
what_was_seen_is_replaced book name known id tag revision request there seen is =
    let asked : asking book name ≡ Some (asking_of book known) = ap (option_map (asking_of book)) there in
    let both : Some (asking_of book known) ≡ Some (Send request) = sym asked ∙ is in
    let sends : asking_of book known ≡ Send request = cc in
    replaces-sent (is_done known) (imaged (known_id book) known.wanted) known id tag revision request seen sends
