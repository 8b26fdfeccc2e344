-- An answer to a search is read without the search's filter.
use Rattle.std.proofs.Common.{◌≡◌, ◌∙◌, ℕ, ℤ, cond, List, [], ◌∷◌, Option, None, Some, Result, Ok, refl, ap}
use Rattle.scim_key.specs.Outcome.{◌>>=◌}
use Rattle.scim_key.specs.declared.records.Kind.{Kind}
use Rattle.scim_filter.specs.Expressions.{Expression}
use Rattle.serde_json.specs.Data.{Data}
use Rattle.scim_json.specs.Parsing.{json_of}
use Rattle.scim_resource.specs.Showing.{stated_tag}
use Rattle.http_text.specs.Message.{code_of}
use Rattle.scim_message.specs.Answers.{error_in, is_error_status, read_body, said_if}
use Rattle.scim_message.specs.declared.answers.BodyFault.{BodyFault}
use Rattle.scim_message.specs.declared.messages.Answer.{Answer}
use Rattle.scim_message.specs.declared.messages.Answer.TheVariants.{Error}
use Rattle.scim_message.specs.declared.messages.Request.TheVariants.{Search}
use Rattle.scim_client.specs.Answers.{AnswersSo, answer_tagged, etag_of, said_by}

module _ (kind : Kind) (one two : Option Expression) (start : ℤ) (count : Option ℤ) (status : ℕ) where
  said_alike : (o : Option Data) → said_if (Search kind one start count) status o ≡ said_if (Search kind two start count) status o
  said_alike None = refl
  said_alike (Some d) = refl

  module _ (etag : Option (List ℕ)) where
    read_alike : (body : List ℕ) → read_body (Search kind one start count) status etag body ≡ read_body (Search kind two start count) status etag body
    read_alike body = ap (λ (r : Result Answer BodyFault). cond (is_error_status status) (Ok (Error (error_in status body))) r) (said_alike (json_of body))

    said_by_alike : (body : List ℕ) → said_by (Search kind one start count) status etag body ≡ said_by (Search kind two start count) status etag body
    said_by_alike [] = read_alike []
    said_by_alike (byte ∷ body) = read_alike (byte ∷ body)

pub any_filter : (text : List ℕ) (kind : Kind) (one two : Option Expression) (start : ℤ) (count : Option ℤ) (answer : Answer) → AnswersSo text (Search kind one start count) answer
    → AnswersSo text (Search kind two start count) answer
any_filter text kind one two start count answer so =
    let head = so.message.head in
    let told : Result Answer BodyFault → Result Answer BodyFault = λ said. said >>= λ a. Ok (answer_tagged (stated_tag (etag_of head)) a) in
    record {
      message = so.message;
      is_message = so.is_message;
      says = ap told (said_by_alike kind two one start count (code_of head.start) (etag_of head) so.message.body) ∙ so.says;
    }
