-- Laws of the definitions of requests, replies, segments and paths.
use Rattle.std.specs.Prelude.{◌≡◌, ℕ, ◌+◌, ◌<◌, ◌≤◌, ◌++◌, Bool, true, false, List, [], ◌∷◌, length, Option, Some, None, IfSome, Result, codes, ⊤}
use Rattle.std.specs.List.{AllByRecursion, list_all}
use Rattle.std.specs.Str.{IsUtf8}
use Rattle.scim_key.specs.Bases.{base_text, is_authority_byte}
use Rattle.scim_key.specs.Identifiers.{IsId}
use Rattle.scim_key.specs.declared.records.Kind.{Kind}
use Rattle.scim_key.specs.declared.records.Kind.TheVariants as kinds
use Rattle.scim_resource.specs.Locations.{escaped, location_text}
use Rattle.scim_version.specs.Tags.{IsEntityTag}
use Rattle.scim_message.specs.declared.messages.Answer.{Answer}
use Rattle.scim_message.specs.declared.messages.Answer.TheVariants.{Created, Found, Replaced, NotModified, Error}
use Rattle.scim_message.specs.declared.messages.Answer.TheVariants as answers
use Rattle.scim_message.specs.Bodies.{body_text}
use Rattle.scim_message.specs.Messages.{answer_status}
use Rattle.scim_message.specs.declared.messages.Request.{Request}
use Rattle.scim_message.specs.declared.refusals.Refusal.{Refusal}
use Rattle.scim_message.specs.Refusals.{ErrorRecord}
use Rattle.http_text.specs.Message.{Message, status_line, head_limit, response_body_limit}
use Rattle.http_text.specs.Forms.{IsResponseMessage}
use Rattle.http_text.specs.Response.{response_text, written_lines}
use Rattle.scim_http.specs.declared.routes.Route.TheVariants.{Resource}
use Rattle.scim_http.specs.Routes.{route_of}
use Rattle.scim_http.specs.Segments.{SpellsText, unescaped}
use Rattle.scim_http.specs.Meaning.{Asks}
use Rattle.scim_http.specs.Replies.{answer_lines, answer_text, fixed_text}

-- A message has only one meaning: no text spells two filters, so the message alone decides what is asked
abbrev pub OneMeaning : Type 0
OneMeaning = (m : Message) (one two : Result Request Refusal) → Asks m one → Asks m two → one ≡ two

-- what the fixed text says
abbrev pub fixed_error : ErrorRecord
fixed_error =
    record { status = 500; scim_type = None; detail = Some (codes "the provider could not complete the request") }

-- the whole text of 304: no length, no media type and no body
abbrev pub not_modified_text : List ℕ → Kind → (id version : List ℕ) → List ℕ
not_modified_text base kind id version =
    response_text 304
    ((codes "Connection", codes "close") ∷ (codes "Content-Location", location_text base kind id)
    ∷ (codes "ETag", version) ∷ [])
    []

-- A 304 has only the resource's location and version; the fixed text is an ordinary error message, whatever the base
pub record RepliesAreLawful : Type 0 where
  pub not_modified : (base : List ℕ) (leaves_body_out : Bool) (kind : Kind) (id version : List ℕ)
      → answer_text base leaves_body_out (NotModified kind id version) ≡ not_modified_text base kind id version
  pub fixed : (base : List ℕ) → fixed_text ≡ answer_text base false (Error fixed_error)

-- The grammar decides which id a segment spells
pub record SegmentsAreSpelled : Type 0 where
  pub read : (segment text : List ℕ) → SpellsText segment text → unescaped segment ≡ Some text
  pub spelled : (segment text : List ℕ) → unescaped segment ≡ Some text → SpellsText segment text

abbrev pub resource_path : Kind → List ℕ → List ℕ
resource_path kinds.User id = codes "/v2/Users/" ++ escaped id
resource_path kinds.Group id = codes "/v2/Groups/" ++ escaped id

-- The location of a resource without its origin is a path that names this resource, whatever text the id is
pub record LocationsAreRouted : Type 0 where
  pub located : (origin : List ℕ) (kind : Kind) (id : List ℕ)
      → location_text (origin ++ codes "/v2") kind id ≡ origin ++ resource_path kind id
  pub routed : (kind : Kind) (id : List ℕ) → AllByRecursion (λ byte. byte < 256) id → IsUtf8 id → IsId id
      → route_of (resource_path kind id) ≡ Some (Resource kind id)

-- what the head of an answer contains: an id of bytes, and an entity tag if one is known
abbrev pub IsSpeakable : List ℕ → Option (List ℕ) → Type 0
IsSpeakable id version = AllByRecursion (λ byte. byte < 256) id × IfSome version IsEntityTag

abbrev pub HasLawfulParts : Answer → Type 0
HasLawfulParts (Created shown) = IsSpeakable shown.id shown.version
HasLawfulParts (Found shown) = IsSpeakable shown.id shown.version
HasLawfulParts (Replaced shown) = IsSpeakable shown.id shown.version
HasLawfulParts (answers.List list) = ⊤
HasLawfulParts (NotModified kind id version) = IsSpeakable id (Some version)
HasLawfulParts (Error error) = (400 ≤ error.status) × (error.status ≤ 599)

-- an answer as a message: its status, its field lines, and its body
abbrev pub response_message : List ℕ → Answer → Message
response_message base answer = record {
  head = record { start = status_line 1 (answer_status answer); fields = written_lines (answer_lines base answer) };
  body = body_text base answer;
}

-- The text of an answer is a response with exactly those parts, if its head and its body are within their limits
abbrev pub AnswersAreResponses : Type 0
AnswersAreResponses =
    (authority : List ℕ) (answer : Answer) → list_all is_authority_byte authority ≡ true → HasLawfulParts answer
    → length (answer_text (base_text authority) false answer) ≤ head_limit
    + length (body_text (base_text authority) answer)
    → length (body_text (base_text authority) answer) ≤ response_body_limit
    → IsResponseMessage (answer_text (base_text authority) false answer) (response_message (base_text authority) answer)
