-- Which answer the bytes of a response are.
use Rattle.std.specs.Prelude.{◌≡◌, ◌⊎◌, ℕ, ◌==◌, ◌||◌, if◌then◌else◌, List, [], ◌∷◌, Option, Some, None, Result, Ok, Err, ⊤, codes}
use Rattle.scim_key.specs.Outcome.{◌>>=◌}
use Rattle.scim_key.specs.Revisions.{RevisionValue}
use Rattle.scim_resource.specs.Contents.{content_revision}
use Rattle.scim_resource.specs.Rows.{completed, untagged}
use Rattle.scim_resource.specs.Showing.{stated_tag}
use Rattle.scim_resource.specs.declared.contents.Content.{Content}
use Rattle.scim_message.specs.Answers.{read_body}
use Rattle.scim_message.specs.Refusals.{bare_error}
use Rattle.scim_message.specs.declared.answers.BodyFault.{BodyFault}
use Rattle.scim_message.specs.declared.answers.BodyFault.TheVariants as bodies
use Rattle.scim_message.specs.declared.messages.Answer.{Answer}
use Rattle.scim_message.specs.declared.messages.Answer.TheVariants.{Created, Found, Replaced, NotModified, Error}
use Rattle.scim_message.specs.declared.messages.Answer.TheVariants as answers
use Rattle.scim_message.specs.declared.messages.Request.{Request}
use Rattle.scim_message.specs.declared.messages.Request.TheVariants.{Create, Retrieve, Search, Replace}
use Rattle.http_text.specs.Message.{Head, Message, code_of, values}
use Rattle.http_text.specs.Forms.{IsResponseMessage}
use Rattle.http_text.specs.Responses.{IsNoResponse}
use Rattle.scim_client.specs.declared.answers.AnswerFault.{AnswerFault}
use Rattle.scim_client.specs.declared.answers.AnswerFault.TheVariants.{NotOneResponse, NotJson, WrongShape, OutOfMemory}

-- the value of a field that is there exactly once
abbrev pub only_value : List (List ℕ) → Option (List ℕ)
only_value [] = None
only_value (value ∷ []) = Some value
only_value (value ∷ other ∷ others) = None

-- the entity tag that a response states
abbrev pub etag_of : Head → Option (List ℕ)
etag_of head = only_value (values (codes "etag") head.fields)

-- ---- answers without a body

-- A replacement without a source revision is done as it was asked: none is written at a provider that keeps none. If it
-- has one, the answer must show it
abbrev pub done_as_asked : Content → (id : List ℕ) → (revision : Option RevisionValue) → Option Answer
done_as_asked content id None = Some (Replaced (untagged id content))
done_as_asked content id (Some revision) = None

-- What a success without a body answers, if it answers anything. A replacement, with 200 or 204: what was asked is done.
-- A creation, with 201: the resource is there, under an id that isn't shown, so its name is taken
abbrev pub silent_answer : Request → (status : ℕ) → Option Answer
silent_answer (Create content) status = if status == 201 then Some (Error (bare_error 409)) else None
silent_answer (Retrieve kind id if_match if_none_match) status = None
silent_answer (Search kind wanted start count) status = None
silent_answer (Replace id content if_match if_none_match) status =
    if (status == 200) || (status == 204) then done_as_asked content id (content_revision content) else None

-- what an answer without a body says if there is such an answer, or else this
abbrev pub silent_or : Option Answer → Result Answer BodyFault → Result Answer BodyFault
silent_or None said = said
silent_or (Some answer) said = Ok answer

-- what a status, an entity tag and a body answer to a request
abbrev pub said_by : Request → (status : ℕ) → (etag : Option (List ℕ)) → (body : List ℕ) → Result Answer BodyFault
said_by request status etag [] = silent_or (silent_answer request status) (read_body request status etag [])
said_by request status etag (byte ∷ body) = read_body request status etag (byte ∷ body)

-- ---- all answers

-- The answer under the entity tag that its response states. It is the tag of a resource that stands alone and shows
-- none
abbrev pub answer_tagged : Option (List ℕ) → Answer → Answer
answer_tagged tag (Created s) = Created (completed tag s)
answer_tagged tag (Found s) = Found (completed tag s)
answer_tagged tag (Replaced s) = Replaced (completed tag s)
answer_tagged tag (answers.List list) = answers.List list
answer_tagged tag (NotModified kind id version) = NotModified kind id version
answer_tagged tag (Error error) = Error error

-- what a response answers to a request, by its status code, its entity tag and its body
abbrev pub answer_in : Request → Message → Result Answer BodyFault
answer_in request m =
    said_by request (code_of m.head.start) (etag_of m.head) m.body >>= λ answer.
    Ok (answer_tagged (stated_tag (etag_of m.head)) answer)

-- The bytes are one response, which is this answer to the request
pub record AnswersSo (text : List ℕ) (request : Request) (a : Answer) : Type 0 where
  pub message : Message
  pub is_message : IsResponseMessage text message
  pub says : answer_in request message ≡ Ok a

-- the bytes are one response, whose body is refused with this fault
pub record RefusesBody (text : List ℕ) (request : Request) (fault : BodyFault) : Type 0 where
  pub message : Message
  pub is_message : IsResponseMessage text message
  pub says : answer_in request message ≡ Err fault

-- Why the bytes aren't an answer
abbrev pub RefusesSo : List ℕ → Request → AnswerFault → Type 0
RefusesSo text request NotOneResponse = IsNoResponse text
RefusesSo text request NotJson = RefusesBody text request bodies.NotJson
RefusesSo text request WrongShape = RefusesBody text request bodies.WrongShape
RefusesSo text request OutOfMemory = ⊤

-- the result is this, or out of memory
abbrev pub IsOrMemory : Result Answer AnswerFault → Result Answer AnswerFault → Type 0
IsOrMemory said result = (result ≡ said) ⊎ (result ≡ Err OutOfMemory)

-- the result is what a response answers to a request, or out of memory
abbrev pub SaysSo : Request → Message → Result Answer AnswerFault → Type 0
SaysSo request m (Ok a) = answer_in request m ≡ Ok a
SaysSo request m (Err NotOneResponse) = ⊥
SaysSo request m (Err NotJson) = answer_in request m ≡ Err bodies.NotJson
SaysSo request m (Err WrongShape) = answer_in request m ≡ Err bodies.WrongShape
SaysSo request m (Err OutOfMemory) = ⊤
