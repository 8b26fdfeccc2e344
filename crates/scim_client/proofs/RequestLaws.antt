-- A text spells one request.
use Rattle.std.proofs.Common.{◌≡◌, sym, [], refl, subst}
use Rattle.std.specs.Prelude.{Result, Ok}
use Rattle.scim_message.specs.declared.messages.Request.{Request}
use Rattle.scim_message.specs.declared.refusals.Refusal.{Refusal}
use Rattle.http_text.specs.Message.{Message}
use Rattle.http_text.specs.Forms.{request_form}
use Rattle.http_text.proofs.FormLaws.{request_laws}
use Rattle.http_text.proofs.MessageLemmas.{messages_same}
use Rattle.scim_http.specs.Meaning.{Asks}
use Rattle.scim_http.proofs.MeaningLaws.{one_meaning}
use Rattle.scim_client.specs.Spelling.{OneRequest}

pub one_request : OneRequest
one_request text one two a b =
    let same = messages_same request_form request_laws text [] text [] a.message b.message refl a.is b.is in
    let asks : Asks a.message (Ok two) = subst (λ (m : Message). Asks m (Ok two)) (sym same.2) b.asks in
    let e : ◌≡◌ {A = Result Request Refusal} (Ok one) (Ok two) = one_meaning a.message (Ok one) (Ok two) a.asks asks in cc
