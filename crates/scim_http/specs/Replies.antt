-- Answers as responses.
use Rattle.std.specs.Prelude.{ℕ, Bool, true, false, List, [], ◌∷◌, Option, Some, None, length, codes}
use Rattle.std.specs.Fmt.{decimal}
use Rattle.scim_message.specs.declared.messages.Answer.{Answer}
use Rattle.scim_message.specs.declared.messages.Answer.TheVariants.{Created, Found, Replaced, NotModified, Error}
use Rattle.scim_message.specs.declared.messages.Answer.TheVariants as answers
use Rattle.scim_message.specs.Messages.{answer_status}
use Rattle.http_text.specs.Response.{Line, written_lines, response_text}
use Rattle.scim_message.specs.Bodies.{answer_location, body_text}
use Rattle.scim_http.specs.Media.{media_type}

-- the entity tag of the resource that an answer is about, if it is known
abbrev pub shown_tag : Answer → Option (List ℕ)
shown_tag (Created shown) = shown.version
shown_tag (Found shown) = shown.version
shown_tag (Replaced shown) = shown.version
shown_tag (answers.List list) = None
shown_tag (NotModified kind id version) = Some version
shown_tag (Error error) = None

-- whether the answer's resource was created by this request
abbrev pub is_created : Answer → Bool
is_created (Created shown) = true
is_created (Found shown) = false
is_created (Replaced shown) = false
is_created (answers.List list) = false
is_created (NotModified kind id version) = false
is_created (Error error) = false

-- whether the answer has a body: only a 304 has none
abbrev pub has_body : Answer → Bool
has_body (Created shown) = true
has_body (Found shown) = true
has_body (Replaced shown) = true
has_body (answers.List list) = true
has_body (NotModified kind id version) = false
has_body (Error error) = true

abbrev pub value_if : Bool → Option (List ℕ) → Option (List ℕ)
value_if true value = value
value_if false value = None

-- the length of the body, if the answer has one
abbrev pub stated_length : List ℕ → Answer → Option (List ℕ)
stated_length base answer = value_if (has_body answer) (Some (decimal (length (body_text base answer))))

-- the media type is stated if the length is
abbrev pub stated_type : Option (List ℕ) → Option (List ℕ)
stated_type None = None
stated_type (Some length_) = Some media_type

-- the field lines of a response: the body's length, if there is a body; the URI and the tag of the resource; and its
-- URI once more if it was created
abbrev pub lines_of : Option (List ℕ) → Option (List ℕ) → Option (List ℕ) → Bool → List Line
lines_of length_ location tag created =
    (codes "Connection", Some (codes "close"))
    ∷ (codes "Content-Length", length_)
    ∷ (codes "Content-Location", location)
    ∷ (codes "Content-Type", stated_type length_)
    ∷ (codes "ETag", tag)
    ∷ (codes "Location", value_if created location)
    ∷ []

abbrev pub answer_lines : List ℕ → Answer → List Line
answer_lines base answer =
    lines_of (stated_length base answer) (answer_location base answer) (shown_tag answer) (is_created answer)

abbrev pub unless_left_out : Bool → List ℕ → List ℕ
unless_left_out true body = []
unless_left_out false body = body

-- The text of an answer. The answer to HEAD has the same head and no body
abbrev pub answer_text : List ℕ → (leaves_body_out : Bool) → Answer → List ℕ
answer_text base leaves_body_out answer =
    response_text (answer_status answer) (written_lines (answer_lines base answer))
    (unless_left_out leaves_body_out (body_text base answer))

-- a response as it is sent
pub record ReplyRecord : Type 0 where
  pub status : ℕ
  pub text : List ℕ

abbrev pub reply_of : List ℕ → (leaves_body_out : Bool) → Answer → ReplyRecord
reply_of base leaves_body_out answer =
    record { status = answer_status answer; text = answer_text base leaves_body_out answer }

-- The one text that is sent if the store failed or memory ran out
unfoldable pub fixed_text : List ℕ
fixed_text =
    response_text 500
    ((codes "Connection", codes "close") ∷ (codes "Content-Length", codes "129")
    ∷ (codes "Content-Type", codes "application/scim+json") ∷ [])
    (codes "{\"detail\":\"the provider could not complete the request\",\"schemas\":[\"urn:ietf:params:scim:api:messages:2.0:Error\"],\"status\":\"500\"}")

abbrev pub fixed_reply : ReplyRecord
fixed_reply = record { status = 500; text = fixed_text }
