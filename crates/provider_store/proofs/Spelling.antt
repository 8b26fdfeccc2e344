-- The text that is written of a content reads as that content.
use Rattle.std.proofs.Common.{◌≡◌, ℕ, List, Result, Ok, Err, IfOk, OnOk, subst}
use Rattle.std.specs.Str.{IsUtf8}
use Rattle.scim_resource.specs.declared.contents.Content.{Content}
use Rattle.scim_resource.specs.Contents.{IsContent, content_kind}
use Rattle.scim_resource.specs.Reading.{content_in}
use Rattle.scim_resource.proofs.RoundTrips.{content_sent}
use Rattle.provider_store.specs.Connections.{content_text}

pub text_spells : {X E : Type 0} (items : X → List ℕ) (r : Result X E) (content : Content) → OnOk r (IsContent content) → IfOk r (λ x. items x ≡ content_text content) → IfOk r (λ x. IsUtf8 (items x))
    → OnOk r (content_in (content_kind content) (content_text content) ≡ Ok content)
text_spells items (Ok x) content lawful spells utf8 = content_sent content lawful (subst IsUtf8 spells utf8)
text_spells items (Err e) content lawful spells utf8 = tt
