-- How long the bodies of answers are at most.
use Rattle.std.proofs.Common.{◌≡◌, ℕ, suc, ◌+◌, ◌*◌, ◌≤◌, Bool, true, false, List, [], ◌∷◌, ◌++◌, length, codes, Option, Some, None, option_map, refl, subst, arith, length-append, lit<}
use Rattle.std.proofs.lemmas.Fmt.{length-decimal-le}
use Rattle.std.specs.Fmt.{decimal}
use Rattle.json.specs.Print.{escape_byte, quoted}
use Rattle.serde_json.specs.Data.{unsigned, Data, number, string, array, object, no_items, item, Members, no_members, member}
use Rattle.serde_json.specs.Written.{compact_text, comma_if, members_text}
use Rattle.scim_json.specs.Writing.{Part, member_if, members_from}
use Rattle.scim_key.specs.declared.records.Kind.{Kind}
use Rattle.scim_key.specs.declared.records.Kind.TheVariants as kinds
use Rattle.scim_resource.specs.Contents.{content_kind}
use Rattle.scim_resource.specs.Groups.{GroupRecord}
use Rattle.scim_resource.specs.Locations.{type_name}
use Rattle.scim_resource.specs.Rows.{ShownRecord}
use Rattle.scim_resource.specs.Users.{UserRecord}
use Rattle.scim_resource.specs.Schemas.{core_group, source_extension}
use Rattle.scim_resource.specs.Writing.{user_data, user_front, user_back, group_data, group_extensions, schemas_data, source_data, group_members_data, resource_data, content_data, meta_data, meta_parts, shown_location, shown_data}
use Rattle.scim_resource.specs.declared.contents.Content.{Content}
use Rattle.scim_resource.specs.declared.contents.Content.TheVariants.{User, Group}
use Rattle.scim_message.specs.Bodies.{error_message, list_message, error_parts, error_data, list_data, page_data}
use Rattle.scim_message.specs.Fitting.{IsErrorOf, IsTold}
use Rattle.scim_message.specs.Refusals.{IsErrorStatus, refusal_status, refusal_type, refusal_detail, error_of}
use Rattle.scim_message.specs.declared.lists.ListResponse.{ListResponse}
use Rattle.scim_message.specs.declared.refusals.Refusal.{Refusal}
use Rattle.scim_message.specs.declared.refusals.Refusal.TheVariants.{UnreadableBody, ValueNotAllowed, FilterNotSupported, NameFixed, NoSuchResource, NameTaken, OtherVersion, MethodNotSupported, LimitReached, Malformed, Host, LengthMissing, BodyTooLong, HeadTooLong, TransferCoding, Expectation, MediaType, NoSuchPath}
use Rattle.world_model.proofs.Sizes.{quoted_most, no_more_members, with_part, object_most, ItemsWithin, no_more_items, with_item, array_most, just, key_schemas}
use Rattle.world_sim.proofs.TextSizes.{IsWithin, location_short}

-- ---- what an id and `meta` add to the text of a content

record IsLonger (ms ns : Members) (k : ℕ) : Type 0 where
  most : (later : Bool) → length (members_text later ms) ≤ length (members_text later ns) + k

same_members : (ms : Members) → IsLonger ms ms 0
same_members ms = record { most = λ later. omega arith }

-- a later member has a comma before it
later_most : (ns : Members) → length (members_text true ns) ≤ length (members_text false ns) + 1
later_most no_members = omega arith
later_most (member name d ns) = omega arith

with_both : (name : List ℕ) (o : Option Data) (ms ns : Members) (k : ℕ) → IsLonger ms ns k → IsLonger (member_if name o ms) (member_if name o ns) k
with_both name None ms ns k longer = longer
with_both name (Some d) ms ns k longer = record {
  most = λ later. omega (
    arith,
    longer.most true,
    length-append (comma_if later) (quoted name ++ 58 ∷ (compact_text d ++ members_text true ms)),
    length-append (quoted name) (58 ∷ (compact_text d ++ members_text true ms)),
    length-append (compact_text d) (members_text true ms),
    length-append (comma_if later) (quoted name ++ 58 ∷ (compact_text d ++ members_text true ns)),
    length-append (quoted name) (58 ∷ (compact_text d ++ members_text true ns)),
    length-append (compact_text d) (members_text true ns),
  );
}

-- the same parts in front
with_parts : (ps xs ys : List Part) (k : ℕ) → IsLonger (members_from xs) (members_from ys) k → IsLonger (members_from (ps ++ xs)) (members_from (ps ++ ys)) k
with_parts [] xs ys k longer = longer
with_parts (p ∷ ps) xs ys k longer = with_both p.0 p.1 (members_from (ps ++ xs)) (members_from (ps ++ ys)) k (with_parts ps xs ys k longer)

member_sum : (name : List ℕ) (d : Data) (ms : Members) → length (quoted name ++ 58 ∷ (compact_text d ++ members_text true ms)) ≡ length (quoted name) + (1 + (length (compact_text d) + length (members_text true ms)))
member_sum name d ms = omega (arith, length-append (quoted name) (58 ∷ (compact_text d ++ members_text true ms)), length-append (compact_text d) (members_text true ms))

with_more : (name : List ℕ) (d : Data) (ms ns : Members) (q v k : ℕ) → length (quoted name) ≡ q → length (compact_text d) ≤ v → IsLonger ms ns k → IsLonger (member_if name (Some d) ms) (member_if name None ns) (q + 2 + v + k)
with_more name d ms ns q v k key short longer = record { most = by }
  where
    by : (later : Bool) → length (members_text later (member name d ms)) ≤ length (members_text later ns) + (q + 2 + v + k)
    by true = omega (arith, key, short, longer.most true, member_sum name d ms)
    by false = omega (arith, key, short, longer.most true, later_most ns, member_sum name d ms)

key_id : length (quoted (codes "id")) ≡ 4
unfolding escape_byte
key_id = refl

key_meta : length (quoted (codes "meta")) ≡ 6
unfolding escape_byte
key_meta = refl

longer_object : (ms ns : Members) (k : ℕ) → IsLonger ms ns k → length (compact_text (object ms)) ≤ length (compact_text (object ns)) + k
longer_object ms ns k longer = omega (arith, longer.most false)

module _ (id meta : Data) (v w : ℕ) (id_short : length (compact_text id) ≤ v) (meta_short : length (compact_text meta) ≤ w) where
  user_more : (u : UserRecord) → length (compact_text (user_data (Some id) (Some meta) u)) ≤ length (compact_text (user_data None None u)) + (4 + 2 + v + (6 + 2 + w + 0))
  unfolding user_data
  user_more u =
      let rest : Members = members_from (user_back u) in
      longer_object _ _ _ (with_parts (user_front u) ((codes "id", Some id) ∷ (codes "meta", Some meta) ∷ user_back u) ((codes "id", None) ∷ (codes "meta", None) ∷ user_back u) _
      (with_more (codes "id") id (member_if (codes "meta") (Some meta) rest) rest 4 v _ key_id id_short (with_more (codes "meta") meta rest rest 6 w 0 key_meta meta_short (same_members rest))))

  group_more : (g : GroupRecord) → length (compact_text (group_data (Some id) (Some meta) g)) ≤ length (compact_text (group_data None None g)) + (4 + 2 + v + (6 + 2 + w + 0))
  unfolding group_data
  group_more g =
      let rest : Members = members_from ((codes "schemas", Some (array (schemas_data core_group (group_extensions g)))) ∷ (source_extension, source_data g.revision) ∷ []) in
      let with_meta : Members = member_if (codes "meta") (Some meta) rest in
      longer_object _ _ _ (with_both (codes "displayName") (Some (string g.display_name)) _ _ _ (with_both (codes "externalId") (option_map string g.external_id) _ _ _
      (with_more (codes "id") id (member_if (codes "members") (group_members_data g.members) with_meta) (member_if (codes "members") (group_members_data g.members) rest) 4 v _ key_id id_short
      (with_both (codes "members") (group_members_data g.members) with_meta rest _ (with_more (codes "meta") meta rest rest 6 w 0 key_meta meta_short (same_members rest))))))

  resource_more : (c : Content) → length (compact_text (resource_data (Some id) (Some meta) c)) ≤ length (compact_text (content_data c)) + (4 + 2 + v + (6 + 2 + w + 0))
  resource_more (User u) = user_more u
  resource_more (Group g) = group_more g

key_location : length (quoted (codes "location")) ≡ 10
unfolding escape_byte
key_location = refl

key_resource_type : length (quoted (codes "resourceType")) ≡ 14
unfolding escape_byte
key_resource_type = refl

key_version : length (quoted (codes "version")) ≡ 9
unfolding escape_byte
key_version = refl

-- a text with at most this many bytes, if there is one
text_part : (o : Option (List ℕ)) (n : ℕ) → IsWithin n o → (d : Data) → option_map string o ≡ Some d → length (compact_text d) ≤ 6 * n + 2
text_part None n within d is = absurd (cc)
text_part (Some text) n within d is = just (string text) d (6 * n + 2) (omega (arith, quoted_most text, within text refl)) is

within : (text : List ℕ) (n : ℕ) → length text ≤ n → IsWithin n (Some text)
within text n short other is = let same : text ≡ other = cc in subst (λ (t : List ℕ). length t ≤ n) same short

type_short : (kind : Kind) → length (type_name kind) ≤ 5
type_short kinds.User = omega arith
type_short kinds.Group = omega arith

-- a shown resource whose base, id and tag are short
pub record IsBrief (base : List ℕ) (s : ShownRecord) : Type 0 where
  pub at : length base ≤ 110
  pub id : length s.id ≤ 36
  pub tag : IsWithin 22 s.version

meta_most : (base : List ℕ) (s : ShownRecord) → IsBrief base s → length (compact_text (meta_data (shown_location base s) s)) ≤ 1565
unfolding meta_data
meta_most base s brief =
    let location : length (shown_location base s) ≤ 226 = omega (arith, brief.at, brief.id, location_short base (content_kind s.content) s.id) in
    object_most (members_from (meta_parts (shown_location base s) s)) 1564
    (with_part (codes "location") (Some (string (shown_location base s))) _ 10 1358 194 key_location (text_part (Some (shown_location base s)) 226 (within (shown_location base s) 226 location))
    (with_part (codes "resourceType") (Some (string (type_name (content_kind s.content)))) _ 14 32 146 key_resource_type
    (text_part (Some (type_name (content_kind s.content))) 5 (within (type_name (content_kind s.content)) 5 (type_short (content_kind s.content))))
    (with_part (codes "version") (option_map string s.version) no_members 9 134 1 key_version (text_part s.version 22 brief.tag) no_more_members)))

-- this many bytes are added to the text of a content
pub shown_most : (base : List ℕ) (s : ShownRecord) → IsBrief base s → length (compact_text (shown_data base s)) ≤ length (compact_text (content_data s.content)) + 1797
shown_most base s brief =
    let id : length (compact_text (string s.id)) ≤ 218 = omega (arith, quoted_most s.id, brief.id) in
    resource_more (string s.id) (meta_data (shown_location base s) s) 218 1565 id (meta_most base s brief) s.content

-- ---- lists

key_resources : length (quoted (codes "Resources")) ≡ 11
unfolding escape_byte
key_resources = refl

key_items : length (quoted (codes "itemsPerPage")) ≡ 14
unfolding escape_byte
key_items = refl

key_start : length (quoted (codes "startIndex")) ≡ 12
unfolding escape_byte
key_start = refl

key_total : length (quoted (codes "totalResults")) ≡ 14
unfolding escape_byte
key_total = refl

number_part : (n : ℕ) → n ≤ 1 → (d : Data) → Some (number (unsigned n)) ≡ Some d → length (compact_text d) ≤ 20
number_part n small d is = just (number (unsigned n)) d 20 (length-decimal-le 20 n (lit< tt) (omega (arith, small)) (omega (arith, small))) is

-- only one text in an array
one_text : (text : List ℕ) (n : ℕ) → length text ≤ n → (d : Data) → Some (array (item (string text) no_items)) ≡ Some d → length (compact_text d) ≤ 6 * n + 5
one_text text n short d is =
    just (array (item (string text) no_items)) d (6 * n + 5)
    (omega (arith, array_most (item (string text) no_items) (1 + (6 * n + 2) + 1) (with_item (string text) no_items (6 * n + 2) 1 (omega (arith, quoted_most text, short)) no_more_items))) is

page_most : (base : List ℕ) (page : List ShownRecord) (n : ℕ) → length page ≤ 1 → ((s : ShownRecord) → page ≡ s ∷ [] → length (compact_text (shown_data base s)) ≤ n) → ItemsWithin (page_data base page) (n + 2)
page_most base [] n few each = record { most = λ later. omega arith }
page_most base (s ∷ []) n few each = let one = with_item (shown_data base s) no_items n 1 (each s refl) no_more_items in record { most = λ later. omega (arith, one.most later) }
page_most base (s ∷ other ∷ more) n few each = absurd (omega (arith, few))

list_text_short : length list_message ≤ 50
unfolding list_message
list_text_short = omega arith

-- a list of one resource at most
pub list_most : (base : List ℕ) (list : ListResponse) (n : ℕ) → length list.resources ≤ 1 → list.start ≤ 1 → list.total ≤ 1
    → ((s : ShownRecord) → list.resources ≡ s ∷ [] → length (compact_text (shown_data base s)) ≤ n) → length (compact_text (list_data base list)) ≤ n + 500
unfolding list_data
list_most base list n few start total each =
    let page = page_data base list.resources in
    let whole : length (compact_text (list_data base list)) ≤ suc (11 + 2 + (n + 3) + (14 + 2 + 20 + (9 + 2 + 305 + (12 + 2 + 20 + (14 + 2 + 20 + 1))))) =
    object_most _ (11 + 2 + (n + 3) + (14 + 2 + 20 + (9 + 2 + 305 + (12 + 2 + 20 + (14 + 2 + 20 + 1)))))
    (with_part (codes "Resources") (Some (array page)) _ 11 (n + 3) (14 + 2 + 20 + (9 + 2 + 305 + (12 + 2 + 20 + (14 + 2 + 20 + 1)))) key_resources
    (λ d is. just (array page) d (n + 3) (omega (arith, array_most page (n + 2) (page_most base list.resources n few each))) is)
    (with_part (codes "itemsPerPage") (Some (number (unsigned (length list.resources)))) _ 14 20 (9 + 2 + 305 + (12 + 2 + 20 + (14 + 2 + 20 + 1))) key_items (number_part (length list.resources) few)
    (with_part (codes "schemas") (Some (array (item (string list_message) no_items))) _ 9 305 (12 + 2 + 20 + (14 + 2 + 20 + 1)) key_schemas (one_text list_message 50 list_text_short)
    (with_part (codes "startIndex") (Some (number (unsigned list.start))) _ 12 20 (14 + 2 + 20 + 1) key_start (number_part list.start start)
    (with_part (codes "totalResults") (Some (number (unsigned list.total))) no_members 14 20 1 key_total (number_part list.total total) no_more_members))))) in
    omega (arith, whole)

-- ---- error messages

key_detail : length (quoted (codes "detail")) ≡ 8
unfolding escape_byte
key_detail = refl

key_scim_type : length (quoted (codes "scimType")) ≡ 10
unfolding escape_byte
key_scim_type = refl

key_status : length (quoted (codes "status")) ≡ 8
unfolding escape_byte
key_status = refl

-- what a refusal says is short
record IsShortRefusal (r : Refusal) : Type 0 where
  status : IsErrorStatus (refusal_status r)
  told : IsTold (refusal_type r)
  named : IsWithin 13 (refusal_type r)
  some : 1 ≤ length (refusal_detail r)
  detail : length (refusal_detail r) ≤ 39

unnamed : IsWithin 13 None
unnamed text is = absurd (cc)

short_refusal : (r : Refusal) → IsShortRefusal r
short_refusal UnreadableBody = record { status = (omega arith, omega arith); told = omega arith; named = within (codes "invalidSyntax") 13 (omega arith); some = omega arith; detail = omega arith }
short_refusal ValueNotAllowed = record { status = (omega arith, omega arith); told = omega arith; named = within (codes "invalidValue") 13 (omega arith); some = omega arith; detail = omega arith }
short_refusal FilterNotSupported = record { status = (omega arith, omega arith); told = omega arith; named = within (codes "invalidFilter") 13 (omega arith); some = omega arith; detail = omega arith }
short_refusal NameFixed = record { status = (omega arith, omega arith); told = omega arith; named = within (codes "mutability") 13 (omega arith); some = omega arith; detail = omega arith }
short_refusal NoSuchResource = record { status = (omega arith, omega arith); told = tt; named = unnamed; some = omega arith; detail = omega arith }
short_refusal NameTaken = record { status = (omega arith, omega arith); told = omega arith; named = within (codes "uniqueness") 13 (omega arith); some = omega arith; detail = omega arith }
short_refusal OtherVersion = record { status = (omega arith, omega arith); told = tt; named = unnamed; some = omega arith; detail = omega arith }
short_refusal MethodNotSupported = record { status = (omega arith, omega arith); told = tt; named = unnamed; some = omega arith; detail = omega arith }
short_refusal LimitReached = record { status = (omega arith, omega arith); told = tt; named = unnamed; some = omega arith; detail = omega arith }
short_refusal Malformed = record { status = (omega arith, omega arith); told = tt; named = unnamed; some = omega arith; detail = omega arith }
short_refusal Host = record { status = (omega arith, omega arith); told = tt; named = unnamed; some = omega arith; detail = omega arith }
short_refusal LengthMissing = record { status = (omega arith, omega arith); told = tt; named = unnamed; some = omega arith; detail = omega arith }
short_refusal BodyTooLong = record { status = (omega arith, omega arith); told = tt; named = unnamed; some = omega arith; detail = omega arith }
short_refusal HeadTooLong = record { status = (omega arith, omega arith); told = tt; named = unnamed; some = omega arith; detail = omega arith }
short_refusal TransferCoding = record { status = (omega arith, omega arith); told = tt; named = unnamed; some = omega arith; detail = omega arith }
short_refusal Expectation = record { status = (omega arith, omega arith); told = tt; named = unnamed; some = omega arith; detail = omega arith }
short_refusal MediaType = record { status = (omega arith, omega arith); told = tt; named = unnamed; some = omega arith; detail = omega arith }
short_refusal NoSuchPath = record { status = (omega arith, omega arith); told = tt; named = unnamed; some = omega arith; detail = omega arith }

error_text_short : length error_message ≤ 43
unfolding error_message
error_text_short = omega arith

decimal_short : (n : ℕ) → n ≤ 599 → length (decimal n) ≤ 3
decimal_short n small = length-decimal-le 3 n (lit< tt) (omega (arith, small)) (omega (arith, small))

pub error_most : (r : Refusal) → length (compact_text (error_data (error_of r))) ≤ 800
unfolding error_data
error_most r =
    let short = short_refusal r in
    let whole : length (compact_text (error_data (error_of r))) ≤ 669 =
    object_most (members_from (error_parts (error_of r))) 668
    (with_part (codes "detail") (Some (string (refusal_detail r))) _ 8 236 422 key_detail (text_part (Some (refusal_detail r)) 39 (within (refusal_detail r) 39 short.detail))
    (with_part (codes "schemas") (Some (array (item (string error_message) no_items))) _ 9 263 148 key_schemas (one_text error_message 43 error_text_short)
    (with_part (codes "scimType") (option_map string (refusal_type r)) _ 10 80 56 key_scim_type (text_part (refusal_type r) 13 short.named)
    (with_part (codes "status") (Some (string (decimal (refusal_status r)))) no_members 8 45 1 key_status
    (λ d is. just (string (decimal (refusal_status r))) d 45 (omega (arith, quoted_most (decimal (refusal_status r)), decimal_short (refusal_status r) short.status.1)) is) no_more_members)))) in
    omega (arith, whole)

pub error_lawful : (r : Refusal) → IsErrorOf (error_of r)
error_lawful r = let short = short_refusal r in record { status = short.status; scim_type = short.told; detail = short.some }
