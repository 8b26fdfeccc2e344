-- Refusals of a message, and the fixed reply, as a client reads them.
use Rattle.std.proofs.Common.{arith, ◌≡◌, ℕ, suc, ◌≤◌, false, List, Option, Some, None, length, option_map, refl, sym, subst, IsUtf8, codes}
use Rattle.std.proofs.lemmas.Fmt.{IsAscii-decimal, decimal_digit, decimal_step}
use Rattle.std.proofs.lemmas.Str.{IsUtf8-from_ascii}
use Rattle.std.specs.Fmt.{decimal}
use Rattle.serde_json.specs.Data.{object, string}
use Rattle.serde_json.specs.Written.{compact_text}
use Rattle.serde_json.proofs.OnLiterals.{serde_json_on_literals}
use Rattle.scim_json.specs.Writing.{members_from}
use Rattle.scim_json.proofs.Parts.{IsPlainIf, MembersArePlain-members_from}
use Rattle.scim_json.proofs.Utf8Texts.{HasUtf8If, IsUtf8-compact_text, IsUtf8-literal, MembersHaveUtf8-members_from}
use Rattle.scim_key.specs.Bases.{IsBase}
use Rattle.scim_message.specs.Bodies.{error_data, error_message, error_parts}
use Rattle.scim_message.specs.Fitting.{Fits.refused as refused_so, IsErrorOf}
use Rattle.scim_message.specs.Refusals.{ErrorRecord, error_of, refusal_detail, refusal_status, refusal_type}
use Rattle.scim_message.specs.declared.messages.Answer.TheVariants.{Error}
use Rattle.scim_message.specs.declared.messages.Request.{Request}
use Rattle.scim_message.specs.declared.refusals.Refusal.{Refusal}
use Rattle.scim_message.specs.declared.refusals.Refusal.TheVariants.{UnreadableBody, ValueNotAllowed, FilterNotSupported, NameFixed, NoSuchResource, NameTaken, OtherVersion, MethodNotSupported, LimitReached, Malformed, Host, LengthMissing, BodyTooLong, HeadTooLong, TransferCoding, Expectation, MediaType, NoSuchPath}
use Rattle.scim_http.specs.Laws.{fixed_error}
use Rattle.scim_http.specs.Replies.{answer_text}
use Rattle.scim_client.specs.Answers.{AnswersSo}
use Rattle.scim_client.specs.Spelling.{HasLawfulTarget, IsIdText}
use Rattle.scim_resource.proofs.Tags.{id_is_text}
use Rattle.scim_message.specs.declared.messages.Request.TheVariants.{Create, Retrieve, Search, Replace}
use Rattle.provider_core.specs.Stories.{Entry}
use Rattle.connector_core.specs.History.{History}
use Rattle.world_model.proofs.Durable.{AskedFairly}
use Rattle.world_sim.proofs.Fitting.{id_lawful}
use Rattle.scim_client.proofs.AnswerLaws.{answers_are_read}
use Rattle.scim_client.proofs.FilterLemmas.{any_filter}
use Rattle.world_sim.proofs.BodySizes.{error_lawful, error_most}
use Rattle.world_sim.proofs.HeadSizes.{keeps_answer_limits, length_within, nothing_within}

-- an error whose text a client reads
pub record IsReadable (error : ErrorRecord) : Type 0 where
  pub is_error : IsErrorOf error
  pub utf8 : IsUtf8 (compact_text (error_data error))
  pub short : length (compact_text (error_data error)) ≤ 30000

-- ---- an error is read

module _ (base : List ℕ) (is_base : IsBase base) (error : ErrorRecord) (r : IsReadable error) where
  by_target : (request : Request) → HasLawfulTarget request → AnswersSo (answer_text base false (Error error)) request (Error error)
  by_target request target =
      answers_are_read base request (Error error) is_base target (refused_so request error r.is_error) r.utf8
      (keeps_answer_limits base (Error error) (record { body = r.short; long = length_within (compact_text (error_data error)) r.short; location = nothing_within 226; tag = nothing_within 22 }))

  -- as the answer to a request that was sent in a run
  pub error_is_read : (history : History) (es : List Entry) (request : Request) → AskedFairly history es request → AnswersSo (answer_text base false (Error error)) request (Error error)
  error_is_read history es (Create content) asked = by_target (Create content) tt
  error_is_read history es (Retrieve kind id if_match if_none_match) asked = absurd asked
  error_is_read history es (Search kind wanted from count) asked = any_filter (answer_text base false (Error error)) kind None wanted from count (Error error) (by_target (Search kind None from count) tt)
  error_is_read history es (Replace id content if_match if_none_match) asked =
      let v = asked.version in
      by_target (Replace id content if_match if_none_match) (subst IsIdText (sym v.has_id) (id_is_text (suc v.place), id_lawful (suc v.place)))

-- ---- the fixed reply

five_hundred : decimal 500 ≡ codes "500"
five_hundred = rw (decimal_step 500 (omega arith) (omega arith), decimal_step 50 (omega arith) (omega arith), decimal_digit 5 (omega arith)) refl

fixed_body : List ℕ
fixed_body = codes "{\"detail\":\"the provider could not complete the request\",\"schemas\":[\"urn:ietf:params:scim:api:messages:2.0:Error\"],\"status\":\"500\"}"

body_is : compact_text (error_data fixed_error) ≡ fixed_body
unfolding error_data error_message serde_json_on_literals fixed_body
body_is = rw five_hundred refl

fixed_short : length fixed_body ≤ 30000
unfolding fixed_body
fixed_short = omega arith

fixed_utf8 : IsUtf8 fixed_body
unfolding fixed_body
fixed_utf8 = IsUtf8-literal _ refl

pub fixed_readable : IsReadable fixed_error
fixed_readable = record {
  is_error = record { status = (omega arith, omega arith); scim_type = tt; detail = omega arith };
  utf8 = subst IsUtf8 (sym body_is) fixed_utf8;
  short = subst (λ (b : List ℕ). length b ≤ 30000) (sym body_is) fixed_short;
}

-- ---- refusals

refusal_texts : (r : Refusal) → IsUtf8 (refusal_detail r) × HasUtf8If (option_map string (refusal_type r))
refusal_texts UnreadableBody = (IsUtf8-literal _ refl, IsUtf8-literal _ refl)
refusal_texts ValueNotAllowed = (IsUtf8-literal _ refl, IsUtf8-literal _ refl)
refusal_texts FilterNotSupported = (IsUtf8-literal _ refl, IsUtf8-literal _ refl)
refusal_texts NameFixed = (IsUtf8-literal _ refl, IsUtf8-literal _ refl)
refusal_texts NoSuchResource = (IsUtf8-literal _ refl, tt)
refusal_texts NameTaken = (IsUtf8-literal _ refl, IsUtf8-literal _ refl)
refusal_texts OtherVersion = (IsUtf8-literal _ refl, tt)
refusal_texts MethodNotSupported = (IsUtf8-literal _ refl, tt)
refusal_texts LimitReached = (IsUtf8-literal _ refl, tt)
refusal_texts Malformed = (IsUtf8-literal _ refl, tt)
refusal_texts Host = (IsUtf8-literal _ refl, tt)
refusal_texts LengthMissing = (IsUtf8-literal _ refl, tt)
refusal_texts BodyTooLong = (IsUtf8-literal _ refl, tt)
refusal_texts HeadTooLong = (IsUtf8-literal _ refl, tt)
refusal_texts TransferCoding = (IsUtf8-literal _ refl, tt)
refusal_texts Expectation = (IsUtf8-literal _ refl, tt)
refusal_texts MediaType = (IsUtf8-literal _ refl, tt)
refusal_texts NoSuchPath = (IsUtf8-literal _ refl, tt)

message_utf8 : IsUtf8 error_message
unfolding error_message
message_utf8 = IsUtf8-literal _ refl

text_plain : (o : Option (List ℕ)) → IsPlainIf (option_map string o)
text_plain None = tt
text_plain (Some text) = tt

refusal_utf8 : (r : Refusal) → IsUtf8 (compact_text (error_data (error_of r)))
unfolding error_data
refusal_utf8 r =
    let texts = refusal_texts r in
    let status = (error_lawful r).status in
    IsUtf8-compact_text (object (members_from (error_parts (error_of r))))
    (MembersArePlain-members_from (error_parts (error_of r)) refl (tt, ((tt, tt), (text_plain (refusal_type r), (tt, tt)))))
    (MembersHaveUtf8-members_from (error_parts (error_of r)) refl (texts.0, ((message_utf8, tt), (texts.1, (IsUtf8-from_ascii _ (IsAscii-decimal (refusal_status r) (omega (arith, status))), tt)))))

pub refusal_readable : (r : Refusal) → IsReadable (error_of r)
refusal_readable r = record { is_error = error_lawful r; utf8 = refusal_utf8 r; short = omega (arith, error_most r) }
