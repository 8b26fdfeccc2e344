-- Whatever the provider's rows are and whatever is asked, its answer fits the request, and the client reads it back.
-- This is about every answer that a server writes, and not about those of a run alone.
use Rattle.std.specs.Prelude.{◌≡◌, ◌⊎◌, ℕ, ◌^◌, ◌<◌, false, List, length}
use Rattle.std.specs.List.{AllByRecursion}
use Rattle.std.specs.Str.{IsUtf8}
use Rattle.scim_key.specs.Bases.{IsBase}
use Rattle.scim_resource.specs.Contents.{IsContent}
use Rattle.scim_resource.specs.Rows.{StoredRecord, IsStored}
use Rattle.scim_message.specs.Bodies.{body_text}
use Rattle.scim_message.specs.Fitting.{Fits}
use Rattle.scim_message.specs.Refusals.{error_of}
use Rattle.scim_message.specs.declared.messages.Answer.{Answer}
use Rattle.scim_message.specs.declared.messages.Answer.TheVariants.{Error}
use Rattle.scim_message.specs.declared.messages.Request.{Request}
use Rattle.scim_message.specs.declared.messages.Request.TheVariants.{Create, Retrieve, Search, Replace}
use Rattle.scim_message.specs.declared.refusals.Refusal.{Refusal}
use Rattle.provider_core.specs.Outcomes.{outcome}
use Rattle.scim_http.specs.Laws.{fixed_error}
use Rattle.scim_http.specs.Replies.{answer_text}
use Rattle.scim_client.specs.AnswerLaws.{KeepsAnswerLimits}
use Rattle.scim_client.specs.Answers.{AnswersSo}
use Rattle.scim_client.specs.Spelling.{HasLawfulParts, IsShortNumber}

-- what the types of a row's parts guarantee
pub record IsHeld (row : StoredRecord) : Type 0 where
  pub stored : IsStored row
  pub content : IsContent row.content

-- the rows of a provider, whose number has at most 64 bits
pub record AreHeld (rows : List StoredRecord) : Type 0 where
  pub each : AllByRecursion IsHeld rows
  pub few : length rows < 2 ^ 64

-- the place where a page starts has at most 18 digits, as in every query that the server reads
abbrev pub HasShortStart : Request → Type 0
HasShortStart (Create content) = Unit {0}
HasShortStart (Retrieve kind id if_match if_none_match) = Unit {0}
HasShortStart (Search kind wanted start count) = IsShortNumber start
HasShortStart (Replace id content if_match if_none_match) = Unit {0}

-- what the types of a request's parts guarantee
pub record IsAskable (request : Request) : Type 0 where
  pub parts : HasLawfulParts request
  pub start : HasShortStart request

-- What a server answers if the provider has these rows: what follows from the rows; that it refuses the message; or the
-- fixed text, if the store fails or memory runs out
abbrev pub MayAnswer : List StoredRecord → Request → Answer → Type 0
MayAnswer rows request answer =
    (answer ≡ (outcome rows request).answer)
    ⊎ (((refusal : Refusal) × (answer ≡ Error (error_of refusal))) ⊎ (answer ≡ Error fixed_error))

-- Every such answer fits its request
abbrev pub AnswersFit : Type 0
AnswersFit = (rows : List StoredRecord) (request : Request) (answer : Answer) → AreHeld rows
    → IsAskable request → MayAnswer rows request answer → Fits request answer

-- and its text is read as that answer, if it is within the client's limits
abbrev pub AnswersAreReadBack : Type 0
AnswersAreReadBack =
    (base : List ℕ) (rows : List StoredRecord) (request : Request) (answer : Answer) → IsBase base
    → AreHeld rows → IsAskable request
    → MayAnswer rows request answer → IsUtf8 (body_text base answer) → KeepsAnswerLimits base answer
    → AnswersSo (answer_text base false answer) request answer
