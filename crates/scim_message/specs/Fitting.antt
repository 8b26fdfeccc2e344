-- The answers that fit a request, as a provider gives them.
use Rattle.std.specs.Prelude.{◌≡◌, ℕ, ℤ, ◌^◌, ◌<◌, ◌≤◌, List, [], ◌∷◌, length, Option, Some, None}
use Rattle.scim_key.specs.declared.records.Kind.{Kind}
use Rattle.scim_version.specs.Tags.{IsEntityTag}
use Rattle.scim_version.specs.declared.conditions.Condition.{Condition}
use Rattle.scim_filter.specs.Expressions.{Expression}
use Rattle.scim_resource.specs.Contents.{IsContent, content_kind}
use Rattle.scim_resource.specs.Rows.{ShownRecord, IsShown, IsShownOf}
use Rattle.scim_resource.specs.declared.contents.Content.{Content}
use Rattle.scim_message.specs.Refusals.{ErrorRecord, IsErrorStatus}
use Rattle.scim_message.specs.declared.lists.ListResponse.{ListResponse}
use Rattle.scim_message.specs.declared.messages.Answer.{Answer}
use Rattle.scim_message.specs.declared.messages.Answer.TheVariants.{Created, Found, Replaced, NotModified, Error}
use Rattle.scim_message.specs.declared.messages.Answer.TheVariants as answers
use Rattle.scim_message.specs.declared.messages.Request.{Request}
use Rattle.scim_message.specs.declared.messages.Request.TheVariants.{Create, Retrieve, Search, Replace}

-- a valid shown resource, as reading gives it, and a page of valid resources
pub record IsLawful (s : ShownRecord) : Type 0 where
  pub shown : IsShown s
  pub content : IsContent s.content

abbrev pub AreLawful : List ShownRecord → Type 0
AreLawful [] = Unit {0}
AreLawful (s ∷ page) = IsLawful s × AreLawful page

-- every resource that the answer shows is valid
abbrev pub ShowsLawfully : Answer → Type 0
ShowsLawfully (Created s) = IsLawful s
ShowsLawfully (Found s) = IsLawful s
ShowsLawfully (Replaced s) = IsLawful s
ShowsLawfully (answers.List list) = AreLawful list.resources
ShowsLawfully (NotModified kind id tag) = Unit {0}
ShowsLawfully (Error error) = Unit {0}

abbrev pub AreShownOf : Kind → List ShownRecord → Type 0
AreShownOf kind [] = Unit {0}
AreShownOf kind (s ∷ page) = IsShownOf kind s × AreShownOf kind page

-- a page of resources of this type, with numbers of 64 bits
pub record IsListOf (kind : Kind) (list : ListResponse) : Type 0 where
  pub page : AreShownOf kind list.resources
  pub on_page : length list.resources < 2 ^ 64
  pub total : list.total < 2 ^ 64
  pub from_one : 1 ≤ list.start
  pub start : list.start < 2 ^ 64

-- no text, or a text that isn't empty
abbrev pub IsTold : Option (List ℕ) → Type 0
IsTold None = Unit {0}
IsTold (Some text) = 1 ≤ length text

pub record IsErrorOf (error : ErrorRecord) : Type 0 where
  pub status : IsErrorStatus error.status
  pub scim_type : IsTold error.scim_type
  pub detail : IsTold error.detail

-- The answer fits the request: it shows resources of the requested type, or says that nothing was modified, or why the
-- request was refused
pub data Fits : Request → Answer → Type 0 where
  created : (content : Content) (s : ShownRecord) → IsShownOf (content_kind content) s
      → Fits (Create content) (Created s)
  found : (kind : Kind) (id : List ℕ) (if_match if_none_match : Condition) (s : ShownRecord)
      → IsShownOf kind s → Fits (Retrieve kind id if_match if_none_match) (Found s)
  unmodified : (kind : Kind) (id : List ℕ) (if_match if_none_match : Condition) (tag : List ℕ)
      → IsEntityTag tag → Fits (Retrieve kind id if_match if_none_match) (NotModified kind id tag)
  listed : (kind : Kind) (wanted : Option Expression) (start : ℤ) (count : Option ℤ)
      (list : ListResponse) → IsListOf kind list → Fits (Search kind wanted start count) (answers.List list)
  replaced : (id : List ℕ) (content : Content) (if_match if_none_match : Condition) (s : ShownRecord)
      → IsShownOf (content_kind content) s → Fits (Replace id content if_match if_none_match) (Replaced s)
  refused : (request : Request) (error : ErrorRecord) → IsErrorOf error → Fits request (Error error)

-- an answer without a body has the tag in its field `ETag`; other answers may have any field
abbrev pub HasTag : Answer → (etag : Option (List ℕ)) → Type 0
HasTag (Created s) etag = Unit {0}
HasTag (Found s) etag = Unit {0}
HasTag (Replaced s) etag = Unit {0}
HasTag (answers.List list) etag = Unit {0}
HasTag (NotModified kind id tag) etag = etag ≡ Some tag
HasTag (Error error) etag = Unit {0}
