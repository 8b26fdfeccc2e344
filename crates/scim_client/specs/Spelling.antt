-- Which texts spell a request, as the server reads them, and that the client's text does.
use Rattle.std.specs.Prelude.{◌≡◌, ℕ, ℤ, pos, negsuc, suc, ◌+◌, ◌^◌, ◌<◌, ◌≤◌, List, length, Ok, IfSome, codes, ⊤}
use Rattle.std.specs.List.{AllByRecursion}
use Rattle.std.specs.Str.{IsUtf8}
use Rattle.scim_key.specs.Bases.{IsBase}
use Rattle.scim_key.specs.Identifiers.{IsId}
use Rattle.scim_version.specs.declared.conditions.Condition.{Condition}
use Rattle.scim_version.specs.declared.conditions.Condition.TheVariants.{Always, AnyTag, Tags}
use Rattle.scim_version.specs.Tags.{IsEntityTag}
use Rattle.scim_resource.specs.Contents.{IsContent}
use Rattle.scim_resource.specs.declared.contents.Content.{Content}
use Rattle.scim_filter.specs.Expressions.{Expression}
use Rattle.scim_filter.specs.Grammar.{text_limit, depth_limit}
use Rattle.scim_filter.specs.Texts.{filter_text, nesting}
use Rattle.scim_message.specs.declared.messages.Request.{Request}
use Rattle.scim_message.specs.declared.messages.Request.TheVariants.{Create, Retrieve, Search, Replace}
use Rattle.http_text.specs.Message.{Message, head_limit, body_limit}
use Rattle.http_text.specs.Forms.{IsRequestMessage, IsAccepted}
use Rattle.scim_http.specs.Meaning.{Asks}
use Rattle.scim_client.specs.Requests.{content_sent, content_text, body_text, if_match_of, if_none_match_of, text_at, text_of}
use Rattle.scim_client.specs.ServicePaths.{host_of, service_path_of}

-- the text is a message that isn't refused, and it asks for this request
pub record SpellsRequest (text : List ℕ) (request : Request) : Type 0 where
  pub message : Message
  pub is : IsRequestMessage text message
  pub accepted : IsAccepted message
  pub asks : Asks message (Ok request)

-- ---- what the types of a request's parts guarantee

-- a valid content whose text is UTF-8
abbrev pub IsSentContent : Content → Type 0
IsSentContent content = IsContent content × IsUtf8 (content_text content)

-- a valid id in UTF-8
abbrev pub IsIdText : List ℕ → Type 0
IsIdText id = IsUtf8 id × IsId id

-- the tags of a list are entity tags
abbrev pub HasEntityTags : Condition → Type 0
HasEntityTags Always = ⊤
HasEntityTags AnyTag = ⊤
HasEntityTags (Tags tags) = AllByRecursion IsEntityTag tags

-- a filter whose text is UTF-8
abbrev pub IsFilterText : Expression → Type 0
IsFilterText filter = IsUtf8 (filter_text filter)

-- the id or the filter in the request's target is valid
abbrev pub HasLawfulTarget : Request → Type 0
HasLawfulTarget (Create content) = ⊤
HasLawfulTarget (Retrieve kind id if_match if_none_match) = IsIdText id
HasLawfulTarget (Search kind filter start count) = IfSome filter IsFilterText
HasLawfulTarget (Replace id content if_match if_none_match) = IsIdText id

abbrev pub HasLawfulParts : Request → Type 0
HasLawfulParts request =
    HasLawfulTarget request × IfSome (content_sent request) IsSentContent
    × HasEntityTags (if_match_of request) × HasEntityTags (if_none_match_of request)

-- ---- what the sender must ensure

-- a list of tags isn't empty
abbrev pub HasSomeTag : Condition → Type 0
HasSomeTag Always = ⊤
HasSomeTag AnyTag = ⊤
HasSomeTag (Tags tags) = 0 < length tags

-- a number of at most 18 digits
abbrev pub IsShortNumber : ℤ → Type 0
IsShortNumber (pos n) = n < 10 ^ 18
IsShortNumber (negsuc n) = suc n < 10 ^ 18

-- a filter's text is within the two limits of filters
abbrev pub KeepsFilterLimits : Expression → Type 0
KeepsFilterLimits filter = (length (filter_text filter) ≤ text_limit) × (nesting filter ≤ depth_limit)

abbrev pub IsWritable : Request → Type 0
IsWritable (Create content) = ⊤
IsWritable (Retrieve kind id if_match if_none_match) = HasSomeTag if_match × HasSomeTag if_none_match
IsWritable (Search kind filter start count) = IfSome filter KeepsFilterLimits × IsShortNumber start
    × IfSome count IsShortNumber
IsWritable (Replace id content if_match if_none_match) = HasSomeTag if_match × HasSomeTag if_none_match

-- the head and the body are within the limits of requests, and the path is the server's
abbrev pub KeepsLimitsAt : (host path : List ℕ) → Request → Type 0
KeepsLimitsAt host path request =
    (length (text_at host path request) ≤ head_limit + length (body_text request))
    × (length (body_text request) ≤ body_limit) × (path ≡ codes "/v2")

abbrev pub KeepsLimits : (address : List ℕ) → Request → Type 0
KeepsLimits address request = KeepsLimitsAt (host_of address) (service_path_of address) request

-- A request's text is a message that asks for that request
abbrev pub RequestsAreSpelled : Type 0
RequestsAreSpelled =
    (base : List ℕ) (request : Request) → IsBase base → HasLawfulParts request → IsWritable request
    → KeepsLimits base request
    → SpellsRequest (text_of base request) request

-- A text spells at most one request
abbrev pub OneRequest : Type 0
OneRequest = (text : List ℕ) (one two : Request) → SpellsRequest text one → SpellsRequest text two → one ≡ two
