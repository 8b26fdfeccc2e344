-- What the server writes for an answer is read back.
use Rattle.std.proofs.Common.{◌≡◌, ◌∙◌, ℕ, List, ◌∷◌, Option, Some, None, Result, Ok, codes, refl, ap, sym, subst, false}
use Rattle.std.specs.Option.{option_or}
use Rattle.std.specs.Str.{IsUtf8}
use Rattle.scim_key.specs.Bases.{base_text, IsAuthority}
use Rattle.scim_key.proofs.BaseLemmas.{are_spelled}
use Rattle.scim_key.specs.Outcome.{◌>>=◌}
use Rattle.serde_json.specs.Data.{object, Members}
use Rattle.serde_json.specs.Written.{compact_text, members_text}
use Rattle.scim_json.specs.Writing.{members_from}
use Rattle.scim_resource.specs.Rows.{ShownRecord, completed}
use Rattle.scim_resource.specs.Showing.{stated_tag}
use Rattle.scim_resource.specs.Writing.{shown_data}
use Rattle.scim_resource.proofs.ShownTrips.{shown_object}
use Rattle.scim_message.specs.Answers.{read_body}
use Rattle.scim_message.specs.Bodies.{answer_location, body_text, error_data, error_parts, list_data, list_parts}
use Rattle.scim_message.specs.Messages.{answer_status}
use Rattle.scim_message.specs.Refusals.{ErrorRecord}
use Rattle.scim_message.specs.declared.answers.BodyFault.{BodyFault}
use Rattle.scim_message.specs.declared.lists.ListResponse.{ListResponse}
use Rattle.scim_message.specs.declared.messages.Request.TheVariants.{Create, Retrieve, Search, Replace}
use Rattle.http_text.specs.Message.{values}
use Rattle.http_text.specs.Response.{written_lines}
use Rattle.scim_message.specs.Fitting.{Fits, Fits.created, Fits.found, Fits.unmodified, Fits.listed, Fits.replaced, Fits.refused, HasTag}
use Rattle.scim_message.specs.declared.messages.Answer.{Answer}
use Rattle.scim_message.specs.declared.messages.Answer.TheVariants.{Created, Found, Replaced, NotModified, Error}
use Rattle.scim_message.specs.declared.messages.Answer.TheVariants as answers
use Rattle.scim_message.specs.declared.messages.Request.{Request}
use Rattle.scim_message.proofs.BodyTrips.{body_read}
use Rattle.scim_http.specs.Laws.{HasLawfulParts, response_message}
use Rattle.scim_http.specs.Replies.{answer_text, is_created, lines_of, stated_length}
use Rattle.scim_http.proofs.ResponseLaws.{answers_are_responses}
use Rattle.scim_client.specs.Answers.{answer_tagged, etag_of, only_value, said_by, AnswersSo}
use Rattle.scim_client.specs.Spelling.{HasLawfulTarget}
use Rattle.scim_client.proofs.Utf8Bytes.{utf8_bytes}
use Rattle.scim_client.specs.AnswerLaws.{KeepsAnswerLimits, AnswersAreRead}

-- a 304 states the tag
states_tag : (base : List ℕ) (a : Answer) → HasTag a (etag_of (response_message base a).head)
states_tag base (Created shown) = tt
states_tag base (Found shown) = tt
states_tag base (Replaced shown) = tt
states_tag base (answers.List list) = tt
states_tag base (NotModified kind id tag) = refl
states_tag base (Error error) = tt

-- ---- a body

-- an object's text isn't empty
begins : (ms : Members) → compact_text (object ms) ≡ 123 ∷ members_text false ms
begins ms = refl

abbrev IsFilled : List ℕ → Type 0
IsFilled body = (first : ℕ) × (rest : List ℕ) × (body ≡ first ∷ rest)

shown_filled : (base : List ℕ) (s : ShownRecord) → IsFilled (compact_text (shown_data base s))
shown_filled base s = let whole = shown_object base s in (123, members_text false whole.0, ap compact_text whole.1 ∙ begins whole.0)

list_filled : (base : List ℕ) (list : ListResponse) → IsFilled (compact_text (list_data base list))
unfolding list_data
list_filled base list = (123, members_text false (members_from (list_parts base list)), begins (members_from (list_parts base list)))

error_filled : (error : ErrorRecord) → IsFilled (compact_text (error_data error))
unfolding error_data
error_filled error = (123, members_text false (members_from (error_parts error)), begins (members_from (error_parts error)))

-- a body that isn't empty says what is read from it
module _ (request : Request) (status : ℕ) (etag : Option (List ℕ)) where
  says_its_body : (body : List ℕ) → IsFilled body → said_by request status etag body ≡ read_body request status etag body
  says_its_body body filled = ap (said_by request status etag) filled.2 ∙ sym (ap (read_body request status etag) filled.2)

says_body : (base : List ℕ) (status : ℕ) (etag : Option (List ℕ)) (request : Request) (a : Answer) → Fits request a
    → said_by request status etag (body_text base a) ≡ read_body request status etag (body_text base a)
says_body base status etag _ _ (created content s is) = says_its_body (Create content) status etag (compact_text (shown_data base s)) (shown_filled base s)
says_body base status etag _ _ (found kind id m n s is) = says_its_body (Retrieve kind id m n) status etag (compact_text (shown_data base s)) (shown_filled base s)
says_body base status etag _ _ (unmodified kind id m n tag is) = refl
says_body base status etag _ _ (listed kind wanted start count list is) =
    says_its_body (Search kind wanted start count) status etag (compact_text (list_data base list)) (list_filled base list)
says_body base status etag _ _ (replaced id content m n s is) = says_its_body (Replace id content m n) status etag (compact_text (shown_data base s)) (shown_filled base s)
says_body base status etag _ _ (refused request error is) = says_its_body request status etag (compact_text (error_data error)) (error_filled error)

-- ---- a tag

module _ (etag : Option (List ℕ)) (s : ShownRecord) (bare : s.version ≡ None → etag ≡ None) where
  has_its_own : (version : Option (List ℕ)) → s.version ≡ version → option_or s.version (stated_tag etag) ≡ s.version
  has_its_own (Some tag) is = ap (λ (o : Option (List ℕ)). option_or o (stated_tag etag)) is ∙ sym is
  has_its_own None is = ap (λ (o : Option (List ℕ)). option_or o (stated_tag etag)) is ∙ ap stated_tag (bare is) ∙ sym is

  completed_again : completed (stated_tag etag) s ≡ s
  completed_again = λ i. record s { version = has_its_own s.version refl i }

-- the server states the tag of what it shows, and no other
abbrev stated : List ℕ → Answer → Option (List ℕ)
stated base a = etag_of (response_message base a).head

abbrev with_tag : List ℕ → Answer → Option (List ℕ) → Option (List ℕ)
with_tag base a tag =
    only_value (values (codes "etag") (written_lines (lines_of (stated_length base a) (answer_location base a) tag (is_created a))))

tagged_again : (base : List ℕ) (a : Answer) → answer_tagged (stated_tag (stated base a)) a ≡ a
tagged_again base (Created s) = ap Created (completed_again (stated base (Created s)) s (ap (with_tag base (Created s))))
tagged_again base (Found s) = ap Found (completed_again (stated base (Found s)) s (ap (with_tag base (Found s))))
tagged_again base (Replaced s) = ap Replaced (completed_again (stated base (Replaced s)) s (ap (with_tag base (Replaced s))))
tagged_again base (answers.List list) = refl
tagged_again base (NotModified kind id tag) = refl
tagged_again base (Error error) = refl

at_authority : (authority : List ℕ) → IsAuthority authority → (request : Request) (a : Answer) → Fits request a → HasLawfulParts a
    → IsUtf8 (body_text (base_text authority) a) → KeepsAnswerLimits (base_text authority) a
    → AnswersSo (answer_text (base_text authority) false a) request a
at_authority authority lawful request a fits parts utf8 limits = record {
  message = response_message (base_text authority) a;
  is_message = answers_are_responses authority a lawful.bytes parts limits.head limits.body;
  says =
      let base = base_text authority in
      let etag = stated base a in
      let told : Result Answer BodyFault → Result Answer BodyFault = λ said. said >>= λ answer. Ok (answer_tagged (stated_tag etag) answer) in
      ap told (says_body base (answer_status a) etag request a fits ∙ body_read request a base etag fits (states_tag base a) utf8)
      ∙ ap Ok (tagged_again base a);
}

-- an answer that fits speaks of an id of bytes, and of an entity tag
speaks : (request : Request) (a : Answer) → HasLawfulTarget request → Fits request a → HasLawfulParts a
speaks _ _ target (created content s is) = (utf8_bytes s.id is.shown.id_text, is.shown.tag)
speaks _ _ target (found kind id if_match if_none_match s is) = (utf8_bytes s.id is.shown.id_text, is.shown.tag)
speaks _ _ target (unmodified kind id if_match if_none_match tag is) = (utf8_bytes id target.0, is)
speaks _ _ target (listed kind wanted start count list is) = tt
speaks _ _ target (replaced id content if_match if_none_match s is) = (utf8_bytes s.id is.shown.id_text, is.shown.tag)
speaks _ _ target (refused request error is) = is.status

pub answers_are_read : AnswersAreRead
answers_are_read base request a is_base target fits =
    let parts = speaks request a target fits in
    let spelled = (are_spelled.lawful base).0 is_base in
    subst (λ (b : List ℕ). IsUtf8 (body_text b a) → KeepsAnswerLimits b a → AnswersSo (answer_text b false a) request a) (sym spelled.2)
    (at_authority spelled.0 spelled.1 request a fits parts)
