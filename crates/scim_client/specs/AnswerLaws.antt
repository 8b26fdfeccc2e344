-- Laws of what the bytes of responses say.
use Rattle.std.specs.Prelude.{◌≡◌, ℕ, ◌+◌, ◌≤◌, false, List, length}
use Rattle.std.specs.Str.{IsUtf8}
use Rattle.scim_key.specs.Bases.{IsBase}
use Rattle.scim_message.specs.Bodies.{body_text}
use Rattle.scim_message.specs.Fitting.{Fits}
use Rattle.scim_message.specs.declared.messages.Answer.{Answer}
use Rattle.scim_message.specs.declared.messages.Request.{Request}
use Rattle.http_text.specs.Message.{head_limit, response_body_limit}
use Rattle.scim_http.specs.Replies.{answer_text}
use Rattle.scim_client.specs.Answers.{AnswersSo}
use Rattle.scim_client.specs.Spelling.{HasLawfulTarget}

-- Bytes are at most one answer to a request
abbrev pub OneAnswer : Type 0
OneAnswer = (text : List ℕ) (request : Request) (one two : Answer) → AnswersSo text request one
    → AnswersSo text request two → one ≡ two

-- the head and the body of an answer's text are within the limits of responses
pub record KeepsAnswerLimits (base : List ℕ) (a : Answer) : Type 0 where
  pub head : length (answer_text base false a) ≤ head_limit + length (body_text base a)
  pub body : length (body_text base a) ≤ response_body_limit

-- The text that a server at this base writes for an answer is that answer and no other, if it fits the request
abbrev pub AnswersAreRead : Type 0
AnswersAreRead =
    (base : List ℕ) (request : Request) (a : Answer) → IsBase base → HasLawfulTarget request
    → Fits request a → IsUtf8 (body_text base a)
    → KeepsAnswerLimits base a → AnswersSo (answer_text base false a) request a
