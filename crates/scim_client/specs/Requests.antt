-- A request as the client writes it (RFC 7644 sections 3.3 to 3.5, RFC 9112).
use Rattle.std.specs.Prelude.{ℕ, ℤ, pos, ◌++◌, List, [], ◌∷◌, Option, Some, None, option_map, length, codes, if◌then◌else◌}
use Rattle.std.specs.Ordering.{int_eq}
use Rattle.std.specs.Fmt.{decimal, signed_decimal}
use Rattle.std.specs.List.{join_by}
use Rattle.std.specs.Option.{option_map_or}
use Rattle.form_urlencoded.specs.Form.{append_pair}
use Rattle.serde_json.specs.Written.{compact_text}
use Rattle.scim_key.specs.declared.records.Kind.{Kind}
use Rattle.scim_key.specs.declared.records.Kind.TheVariants as kinds
use Rattle.scim_version.specs.declared.conditions.Condition.{Condition}
use Rattle.scim_version.specs.declared.conditions.Condition.TheVariants.{Always, AnyTag, Tags}
use Rattle.scim_resource.specs.Contents.{content_kind}
use Rattle.scim_resource.specs.Locations.{location_text}
use Rattle.scim_resource.specs.Writing.{content_data}
use Rattle.scim_resource.specs.declared.contents.Content.{Content}
use Rattle.scim_filter.specs.Expressions.{Expression}
use Rattle.scim_filter.specs.Texts.{filter_text}
use Rattle.scim_message.specs.declared.messages.Request.{Request}
use Rattle.scim_message.specs.declared.messages.Request.TheVariants.{Create, Retrieve, Search, Replace}
use Rattle.http_text.specs.Response.{Line, written_lines}
use Rattle.http_text.specs.Texts.{request_text}
use Rattle.scim_http.specs.Media.{media_type}
use Rattle.scim_http.specs.Replies.{stated_type}
use Rattle.scim_client.specs.ServicePaths.{host_of, service_path_of}

-- ---- the target

-- a query with one more parameter, if that has a value
abbrev pub with_parameter : List ℕ → List ℕ → Option (List ℕ) → List ℕ
with_parameter query name None = query
with_parameter query name (Some value) = append_pair query name value

-- the start is written unless it is the first place
abbrev pub start_value : ℤ → Option (List ℕ)
start_value start = if int_eq start (pos 1) then None else Some (signed_decimal start)

-- the parameters of a search that have a value, as a form writes them
abbrev pub query_text : Option Expression → ℤ → Option ℤ → List ℕ
query_text filter start count =
    with_parameter
    (with_parameter (with_parameter [] (codes "filter") (option_map filter_text filter))
    (codes "startIndex") (start_value start))
    (codes "count") (option_map signed_decimal count)

-- a path, and the query after a `?` if it isn't empty
abbrev pub with_query : List ℕ → List ℕ → List ℕ
with_query path [] = path
with_query path (byte ∷ query) = path ++ (codes "?" ++ byte ∷ query)

-- the collection of a type below the path of a service
abbrev pub collection_in : (path : List ℕ) → Kind → List ℕ
collection_in path kinds.User = path ++ codes "/Users"
collection_in path kinds.Group = path ++ codes "/Groups"

-- a collection, one resource in it, or a search on a collection
abbrev pub target_text : (path : List ℕ) → Request → List ℕ
target_text path (Create content) = collection_in path (content_kind content)
target_text path (Retrieve kind id if_match if_none_match) = location_text path kind id
target_text path (Search kind filter start count) = with_query (collection_in path kind) (query_text filter start count)
target_text path (Replace id content if_match if_none_match) = location_text path (content_kind content) id

-- ---- the method and the body

abbrev pub method_text : Request → List ℕ
method_text (Create content) = codes "POST"
method_text (Retrieve kind id if_match if_none_match) = codes "GET"
method_text (Search kind filter start count) = codes "GET"
method_text (Replace id content if_match if_none_match) = codes "PUT"

-- the content that a request sends
abbrev pub content_sent : Request → Option Content
content_sent (Create content) = Some content
content_sent (Retrieve kind id if_match if_none_match) = None
content_sent (Search kind filter start count) = None
content_sent (Replace id content if_match if_none_match) = Some content

abbrev pub content_text : Content → List ℕ
content_text content = compact_text (content_data content)

-- the compact text of that content
abbrev pub body_sent : Request → Option (List ℕ)
body_sent request = option_map content_text (content_sent request)

-- a request that sends no content has an empty body
abbrev pub body_text : Request → List ℕ
body_text request = option_map_or (λ text. text) (body_sent request) []

-- a request that sends no content states no length
abbrev pub stated_length : Request → Option (List ℕ)
stated_length request = option_map (λ text. decimal (length text)) (body_sent request)

-- ---- the field lines

-- a condition as a field's value; a comma and a space separate the tags
abbrev pub condition_value : Condition → Option (List ℕ)
condition_value Always = None
condition_value AnyTag = Some (codes "*")
condition_value (Tags tags) = Some (join_by (λ tag. tag) (codes ", ") tags)

abbrev pub if_match_of : Request → Condition
if_match_of (Create content) = Always
if_match_of (Retrieve kind id if_match if_none_match) = if_match
if_match_of (Search kind filter start count) = Always
if_match_of (Replace id content if_match if_none_match) = if_match

abbrev pub if_none_match_of : Request → Condition
if_none_match_of (Create content) = Always
if_none_match_of (Retrieve kind id if_match if_none_match) = if_none_match
if_none_match_of (Search kind filter start count) = Always
if_none_match_of (Replace id content if_match if_none_match) = if_none_match

-- the field lines of a request to this host; each is there if it has a value
abbrev pub lines_of : List ℕ → Option (List ℕ) → Option (List ℕ) → Option (List ℕ) → List Line
lines_of host length_ if_match if_none_match =
    (codes "Host", Some host)
    ∷ (codes "Accept", Some media_type)
    ∷ (codes "Connection", Some (codes "close"))
    ∷ (codes "Content-Length", length_)
    ∷ (codes "Content-Type", stated_type length_)
    ∷ (codes "If-Match", if_match)
    ∷ (codes "If-None-Match", if_none_match)
    ∷ []

abbrev pub request_lines : (host : List ℕ) → Request → List Line
request_lines host request =
    lines_of host (stated_length request) (condition_value (if_match_of request))
    (condition_value (if_none_match_of request))

-- ---- the text

-- the text of a request to the service at this host with this path
abbrev pub text_at : (host path : List ℕ) → Request → List ℕ
text_at host path request =
    request_text (method_text request) (target_text path request)
    (written_lines (request_lines host request)) (body_text request)

-- The text of a request to the service at this address
abbrev pub text_of : (address : List ℕ) → Request → List ℕ
text_of address request = text_at (host_of address) (service_path_of address) request

-- a request that is being built, and the address of its service
pub record Planned : Type 0 where
  pub address : List ℕ
  pub request : Request

-- the condition of only this tag, if there is one
abbrev pub tag_alone : Option (List ℕ) → Condition
tag_alone None = Always
tag_alone (Some tag) = Tags (tag ∷ [])

-- a Replace with only this tag in `If-Match`
abbrev pub under_tag : List ℕ → Request → Request
under_tag tag (Create content) = Create content
under_tag tag (Retrieve kind id if_match if_none_match) = Retrieve kind id if_match if_none_match
under_tag tag (Search kind filter start count) = Search kind filter start count
under_tag tag (Replace id content if_match if_none_match) = Replace id content (tag_alone (Some tag)) if_none_match

-- a Search with this filter
abbrev pub through_filter : Expression → Request → Request
through_filter filter (Create content) = Create content
through_filter filter (Retrieve kind id if_match if_none_match) = Retrieve kind id if_match if_none_match
through_filter filter (Search kind other start count) = Search kind (Some filter) start count
through_filter filter (Replace id content if_match if_none_match) = Replace id content if_match if_none_match
