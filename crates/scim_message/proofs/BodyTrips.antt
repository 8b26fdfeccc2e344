-- An answer that fits its request is read back from its status and its body.
use Rattle.std.proofs.Common.{◌≡◌, ℕ, ◌≤◌, ◌==◌, List, [], ◌∷◌, length, true, false, Option, Some, None, Ok, IsUtf8, option_map, codes, refl, ap, ◌∙◌, arith, le-leb}
use Rattle.std.proofs.lemmas.Bool.{ne_eqb}
use Rattle.scim_key.specs.Outcome.{◌>>=◌}
use Rattle.scim_key.specs.declared.records.Kind.{Kind}
use Rattle.scim_version.specs.Tags.{IsEntityTag, tag_fault}
use Rattle.scim_version.proofs.Grammar.{test-from_IsEntityTag}
use Rattle.serde_json.specs.Data.{Data, unsigned, number, string, array, object, no_items, item, Members, depth, items_depth}
use Rattle.serde_json.specs.Written.{compact_text}
use Rattle.scim_json.specs.Attributes.{attribute, present, repeats}
use Rattle.scim_json.specs.Parsing.{json_of}
use Rattle.scim_json.specs.Plain.{IsPlain, ItemsArePlain}
use Rattle.scim_json.specs.Values.{some_text, lists_text, text_of}
use Rattle.scim_json.specs.Writing.{members_from}
use Rattle.scim_json.proofs.Parts.{part_named, named-members_from, repeats-members_from, IsPlainIf, MembersArePlain-members_from, depth_if, AreWithin, members_depth-members_from}
use Rattle.scim_json.proofs.Utf8Texts.{json_of-compact_text}
use Rattle.scim_resource.specs.Contents.{content_kind}
use Rattle.scim_resource.specs.Rows.{ShownRecord, IsShownOf}
use Rattle.scim_resource.specs.Showing.{read_shown}
use Rattle.scim_resource.specs.Writing.{shown_data}
use Rattle.scim_resource.proofs.RoundTrips.{shown_plain, shown_depth}
use Rattle.scim_resource.proofs.ShownTrips.{shown_read, shown_object}
use Rattle.scim_message.specs.Answers.{shaped, is_error_status, error_of_members, error_from, some_shown, shown_in, page_of, start_in, list_fields, unless_repeated, read_list, said_if, not_modified, read_body}
use Rattle.scim_message.specs.Bodies.{error_message, error_parts, error_data, page_data, list_parts, list_data, body_text}
use Rattle.scim_message.specs.Fitting.{AreShownOf, IsListOf, IsTold, IsErrorOf, Fits, created, found, unmodified, listed, replaced, refused, HasTag}
use Rattle.scim_message.specs.Messages.{answer_status}
use Rattle.scim_message.specs.Refusals.{ErrorRecord, IsErrorStatus}
use Rattle.scim_message.specs.declared.lists.ListResponse.{ListResponse}
use Rattle.scim_message.specs.declared.messages.Answer.{Answer}
use Rattle.scim_message.specs.declared.messages.Answer.TheVariants.{Created, Found, Replaced, NotModified, Error}
use Rattle.scim_message.specs.declared.messages.Answer.TheVariants as answers
use Rattle.scim_message.specs.declared.messages.Request.{Request}
use Rattle.scim_message.specs.declared.messages.Request.TheVariants.{Create, Retrieve, Search, Replace}

-- ---- one resource

shown_json : (kind : Kind) (base : List ℕ) (s : ShownRecord) → IsShownOf kind s → IsUtf8 (compact_text (shown_data base s)) → json_of (compact_text (shown_data base s)) ≡ Some (shown_data base s)
shown_json kind base s h text = json_of-compact_text _ (shown_plain base s h.content) (omega (arith, shown_depth base s)) text

shown_shaped : (kind : Kind) (base : List ℕ) (s : ShownRecord) → IsShownOf kind s → shaped (read_shown kind (shown_data base s)) ≡ Ok s
shown_shaped kind base s h = ap shaped (shown_read kind base s h)

-- ---- lists

as_object : (kind : Kind) (d : Data) (ms : Members) → d ≡ object ms → shown_in kind d ≡ some_shown (shaped (read_shown kind d))
as_object kind d ms is = rw is refl

shown_in_list : (kind : Kind) (base : List ℕ) (s : ShownRecord) → IsShownOf kind s → shown_in kind (shown_data base s) ≡ Ok (Some s)
shown_in_list kind base s h =
    let whole = shown_object base s in
    as_object kind (shown_data base s) whole.0 whole.1 ∙ ap some_shown (shown_shaped kind base s h)

page_read : (kind : Kind) (base : List ℕ) (page : List ShownRecord) → AreShownOf kind page → page_of kind (page_data base page) ≡ Ok page
unfolding page_of
page_read kind base [] h = refl
page_read kind base (s ∷ page) h = rw (shown_in_list kind base s h.0, page_read kind base page h.1)

list_found : (name base : List ℕ) (l : ListResponse) → attribute name (members_from (list_parts base l)) ≡ present (part_named name (list_parts base l))
list_found name base l = ap present (named-members_from name (list_parts base l) refl)

start_read : (n : ℕ) → 1 ≤ n → start_in (Some (number (unsigned n))) ≡ n
start_read n h = rw (le-leb 1 n h) refl

-- an object with these attributes is read as this list
record ListShows (ms : Members) (base : List ℕ) (l : ListResponse) : Type 0 where
  total : attribute (codes "totalResults") ms ≡ Some (number (unsigned l.total))
  start : attribute (codes "startIndex") ms ≡ Some (number (unsigned l.start))
  resources : attribute (codes "Resources") ms ≡ Some (array (page_data base l.resources))

list_fields_read : (kind : Kind) (ms : Members) (base : List ℕ) (l : ListResponse) → IsListOf kind l → ListShows ms base l → list_fields kind ms ≡ Ok l
unfolding list_fields
list_fields_read kind ms base l h s = rw (s.total, s.start, start_read l.start h.from_one, s.resources, page_read kind base l.resources h.page)

list_read : (kind : Kind) (base : List ℕ) (l : ListResponse) → IsListOf kind l → read_list kind (list_data base l) ≡ Ok l
unfolding list_data
list_read kind base l h =
    let ms = members_from (list_parts base l) in
    let shows : ListShows ms base l = record {
      total = list_found (codes "totalResults") base l;
      start = list_found (codes "startIndex") base l;
      resources = list_found (codes "Resources") base l;
    } in
    ap (λ b. unless_repeated b (list_fields kind ms)) (repeats-members_from (list_parts base l) refl) ∙ list_fields_read kind ms base l h shows

page_plain : (kind : Kind) (base : List ℕ) (page : List ShownRecord) → AreShownOf kind page → ItemsArePlain (page_data base page)
page_plain kind base [] h = tt
page_plain kind base (s ∷ page) h = (shown_plain base s h.0.content, page_plain kind base page h.1)

list_plain : (kind : Kind) (base : List ℕ) (l : ListResponse) → IsListOf kind l → IsPlain (list_data base l)
unfolding list_data
list_plain kind base l h =
    MembersArePlain-members_from (list_parts base l) refl (page_plain kind base l.resources h.page, (h.on_page, ((tt, tt), (h.start, (h.total, tt)))))

page_depth : (base : List ℕ) (page : List ShownRecord) → items_depth (page_data base page) ≤ 3
page_depth base [] = omega arith
page_depth base (s ∷ page) = omega (arith, shown_depth base s, page_depth base page)

list_depth : (base : List ℕ) (l : ListResponse) → depth (list_data base l) ≤ 5
unfolding list_data
list_depth base l =
    let within : AreWithin 4 (list_parts base l) =
    (omega (arith, page_depth base l.resources), (omega arith, (omega arith, (omega arith, (omega arith, tt))))) in
    omega (arith, members_depth-members_from 4 (list_parts base l) within)

list_json : (kind : Kind) (base : List ℕ) (l : ListResponse) → IsListOf kind l → IsUtf8 (compact_text (list_data base l)) → json_of (compact_text (list_data base l)) ≡ Some (list_data base l)
list_json kind base l h text = json_of-compact_text _ (list_plain kind base l h) (omega (arith, list_depth base l)) text

-- ---- errors

told_text : (text : List ℕ) → 1 ≤ length text → (length text == 0) ≡ false
told_text text h = ne_eqb (length text) 0 (λ e. omega arith)

told_read : (o : Option (List ℕ)) → IsTold o → text_of (present (option_map string o)) ≡ o
told_read None h = refl
told_read (Some text) h = rw (told_text text h) refl

error_found : (name : List ℕ) (e : ErrorRecord) → attribute name (members_from (error_parts e)) ≡ present (part_named name (error_parts e))
error_found name e = ap present (named-members_from name (error_parts e) refl)

error_schema_listed : lists_text error_message (Some (array (item (string error_message) no_items))) ≡ true
unfolding error_message some_text
error_schema_listed = refl

-- an object with these attributes is read as this error
record ErrorShows (ms : Members) (e : ErrorRecord) : Type 0 where
  clear : repeats ms ≡ false
  schemas : lists_text error_message (attribute (codes "schemas") ms) ≡ true
  scim_type : text_of (attribute (codes "scimType") ms) ≡ e.scim_type
  detail : text_of (attribute (codes "detail") ms) ≡ e.detail

error_fields_read : (ms : Members) (e : ErrorRecord) → ErrorShows ms e → error_of_members e.status ms ≡ e
error_fields_read ms e s = rw (s.clear, s.schemas, s.scim_type, s.detail)

error_read : (e : ErrorRecord) → IsErrorOf e → error_from e.status (Some (error_data e)) ≡ e
unfolding error_data
error_read e h =
    error_fields_read (members_from (error_parts e)) e
    (record {
      clear = repeats-members_from (error_parts e) refl;
      schemas = ap (lists_text error_message) (error_found (codes "schemas") e) ∙ error_schema_listed;
      scim_type = ap text_of (error_found (codes "scimType") e) ∙ told_read e.scim_type h.scim_type;
      detail = ap text_of (error_found (codes "detail") e) ∙ told_read e.detail h.detail;
    })

text_plain : (o : Option (List ℕ)) → IsPlainIf (option_map string o)
text_plain None = tt
text_plain (Some text) = tt

text_depth : (o : Option (List ℕ)) → depth_if (option_map string o) ≤ 0
text_depth None = omega arith
text_depth (Some text) = omega arith

error_plain : (e : ErrorRecord) → IsPlain (error_data e)
unfolding error_data
error_plain e = MembersArePlain-members_from (error_parts e) refl (text_plain e.detail, ((tt, tt), (text_plain e.scim_type, (tt, tt))))

error_depth : (e : ErrorRecord) → depth (error_data e) ≤ 3
unfolding error_data
error_depth e =
    let within : AreWithin 2 (error_parts e) = (omega (arith, text_depth e.detail), (omega arith, (omega (arith, text_depth e.scim_type), (omega arith, tt)))) in
    omega (arith, members_depth-members_from 2 (error_parts e) within)

error_json : (e : ErrorRecord) → IsUtf8 (compact_text (error_data e)) → json_of (compact_text (error_data e)) ≡ Some (error_data e)
error_json e text = json_of-compact_text _ (error_plain e) (omega (arith, error_depth e)) text

is_error : (status : ℕ) → IsErrorStatus status → is_error_status status ≡ true
is_error status h = rw (le-leb 400 status h.0, le-leb status 599 h.1)

-- ---- the law

tag_taken : (kind : Kind) (id tag : List ℕ) → IsEntityTag tag → not_modified kind id (Some tag) ≡ Ok (NotModified kind id tag)
unfolding tag_fault
tag_taken kind id tag h = rw (test-from_IsEntityTag tag h)

pub body_read : (r : Request) (a : Answer) (base : List ℕ) (etag : Option (List ℕ)) → Fits r a → HasTag a etag → IsUtf8 (body_text base a) → read_body r (answer_status a) etag (body_text base a) ≡ Ok a
body_read r a base etag (created content s h) tag text =
    ap (said_if (Create content) 201) (shown_json (content_kind content) base s h text) ∙ ap (λ p. p >>= (λ s. Ok (Created s))) (shown_shaped (content_kind content) base s h)
body_read r a base etag (found kind id if_match if_none_match s h) tag text =
    ap (said_if (Retrieve kind id if_match if_none_match) 200) (shown_json kind base s h text) ∙ ap (λ p. p >>= (λ s. Ok (Found s))) (shown_shaped kind base s h)
body_read r a base etag (unmodified kind id if_match if_none_match version h) tag text = ap (not_modified kind id) tag ∙ tag_taken kind id version h
body_read r a base etag (listed kind wanted start count list h) tag text =
    ap (said_if (Search kind wanted start count) 200) (list_json kind base list h text) ∙ ap (λ p. p >>= (λ list. Ok (answers.List list))) (list_read kind base list h)
body_read r a base etag (replaced id content if_match if_none_match s h) tag text =
    ap (said_if (Replace id content if_match if_none_match) 200) (shown_json (content_kind content) base s h text) ∙ ap (λ p. p >>= (λ s. Ok (Replaced s))) (shown_shaped (content_kind content) base s h)
body_read r a base etag (refused request error h) tag text =
    rw (is_error error.status h.status) (ap (λ e. Ok (Error e)) (ap (error_from error.status) (error_json error text) ∙ error_read error h))
