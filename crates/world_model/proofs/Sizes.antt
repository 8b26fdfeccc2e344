-- How long the text of an image is at most.
use Rattle.std.proofs.Common.{◌≡◌, ℕ, zero, suc, ◌+◌, ◌*◌, ◌^◌, ◌/◌, ◌%◌, ◌<◌, ◌≤◌, Bool, true, false, not, cond, List, [], ◌∷◌, ◌++◌, length, map, option_map, codes, Option, Some, None, refl, inl, inr, ap, ◌∙◌, subst, arith, length-append, lit<}
use Rattle.std.specs.Char.{digit_char}
use Rattle.std.specs.List.{AllByRecursion, filter, list_all}
use Rattle.std.specs.Prelude.{nat_le, nat_lt, ◌&&◌, ◌==◌}
use Rattle.std.specs.Str.{bytes_eq}
use Rattle.std.proofs.lemmas.Bool.{agree_below_at, and_parts, cases_Bool, eqb-true, leb-true, ltb-false}
use Rattle.std.proofs.lemmas.Fmt.{length-decimal-le}
use Rattle.std.proofs.lemmas.List.Concat.{flat_map-append}
use Rattle.std.proofs.lemmas.List.Sums.{length-filter, count_by-le-length}
use Rattle.std.proofs.lemmas.Nat.{mod_below}
use Rattle.json.specs.Print.{escape_letter, escape_byte, escape, quoted}
use Rattle.serde_json.specs.Data.{unsigned, Data, boolean, number, string, array, object, Items, no_items, item, Members, no_members, member}
use Rattle.serde_json.specs.View.{items_of}
use Rattle.serde_json.specs.Written.{compact_text, comma_if, items_text, members_text}
use Rattle.scim_key.specs.Identifiers.{hex_digit, lower_hex, id_text}
use Rattle.scim_key.specs.Names.{IsUserName, IsGroupName, is_user_name_byte, user_name_fault, group_name_fault}
use Rattle.scim_key.specs.declared.names.NameFault.TheVariants.{Empty, TooLong, Character}
use Rattle.scim_key.specs.declared.names.TheConstants.{NAME_LIMIT}
use Rattle.scim_key.specs.Revisions.{RevisionValue, IsRevision, revision_epoch, revision_number}
use Rattle.scim_key.proofs.RevisionLaws.{are_read_back}
use Rattle.scim_key.specs.declared.records.RecordName.{RecordName}
use Rattle.scim_json.specs.Writing.{Part, member_if, members_from}
use Rattle.scim_resource.specs.Contents.{content_kind}
use Rattle.scim_resource.specs.Schemas.{core_user, core_group, enterprise_extension, source_extension}
use Rattle.scim_resource.specs.Texts.{text_if}
use Rattle.scim_resource.specs.UserTexts.{has_some}
use Rattle.scim_resource.specs.Writing.{Extension, epoch_data, source_data, source_parts, schemas_data, object_if, email_data, email_parts, emails_data, user_data, user_front, user_back, member_data, group_members_data, group_data, content_data}
use Rattle.scim_resource.specs.declared.contents.Content.{Content}
use Rattle.scim_resource.specs.declared.user_texts.UserText.TheVariants.{Department}
use Rattle.source_csv.specs.Records.{IsRow}
use Rattle.mapping.proofs.RowLemmas.{short_text}
use Rattle.source_csv.specs.Rows.{UserFields, GroupFields, IsUserRow, IsGroupRow, text_of}
use Rattle.source_csv.specs.declared.texts.TextField.TheVariants as texts
use Rattle.source_csv.specs.declared.rows.Row.{Row}
use Rattle.source_csv.specs.declared.rows.Row.TheVariants.{User, Group}
use Rattle.mapping.specs.Readiness.{HaveIds}
use Rattle.mapping.proofs.ReadyLemmas.{means}
use Rattle.mapping.specs.Images.{image_texts, user_image, emails_of, work_email, once, group_image, image}
use Rattle.connector_core.specs.History.{user, members_of}
use Rattle.world_model.specs.Untroubled.{longest_body}
use Rattle.world_model.proofs.Imaging.{image_with, of_image}

-- ---- strings

cond_most : (p q : Bool) (a b c d e f g h i : ℕ) → length (cond p (a ∷ b ∷ []) (cond q (c ∷ d ∷ e ∷ f ∷ g ∷ h ∷ []) (i ∷ []))) ≤ 6
cond_most true q a b c d e f g h i = omega arith
cond_most false true a b c d e f g h i = omega arith
cond_most false false a b c d e f g h i = omega arith

byte_most : (b : ℕ) → length (escape_byte b) ≤ 6
unfolding escape_byte
byte_most b = cond_most (nat_lt 0 (escape_letter b)) (nat_lt b 32) 92 (escape_letter b) 92 117 48 48 (digit_char (b / 16)) (digit_char (b % 16)) b

escape_most : (text : List ℕ) → length (escape text) ≤ 6 * length text
escape_most [] = omega arith
escape_most (b ∷ text) = omega (arith, length-append (escape_byte b) (escape text), byte_most b, escape_most text)

quoted_length : (text : List ℕ) → length (quoted text) ≡ length (escape text) + 2
quoted_length text = omega (arith, length-append (escape text) (34 ∷ []))

pub quoted_most : (text : List ℕ) → length (quoted text) ≤ 6 * length text + 2
quoted_most text = omega (arith, quoted_length text, escape_most text)

-- ---- ids, in which nothing is escaped

hex_plain : (d : ℕ) → d < 16 → length (escape_byte (hex_digit d)) ≡ 1
unfolding escape_byte
hex_plain d small = eqb-true (length (escape_byte (hex_digit d))) 1 (agree_below_at (λ k. length (escape_byte (hex_digit k)) == 1) (λ k. true) 16 d refl small)

hex_length : (count n : ℕ) → length (escape (lower_hex count n)) ≡ count
unfolding lower_hex
hex_length zero n = refl
hex_length (suc count) n =
    let last = hex_plain (n % 16) (mod_below n 16 (lit< tt)) in
    let front = hex_length count (n / 16) in
    let split : length (escape (lower_hex count (n / 16) ++ hex_digit (n % 16) ∷ [])) ≡ length (escape (lower_hex count (n / 16)) ++ escape (hex_digit (n % 16) ∷ [])) =
    ap (λ (l : List ℕ). length l) (flat_map-append escape_byte (lower_hex count (n / 16)) (hex_digit (n % 16) ∷ [])) in
    omega (arith, split, front, last, length-append (escape (lower_hex count (n / 16))) (escape (hex_digit (n % 16) ∷ [])), length-append (escape_byte (hex_digit (n % 16))) [])

prefix_length : length (escape (codes "5c1a0000-0000-8000-8000-")) ≡ 24
unfolding escape_byte
prefix_length = refl

id_length : (n : ℕ) → length (quoted (id_text n)) ≡ 38
unfolding id_text
id_length n =
    let front = codes "5c1a0000-0000-8000-8000-" in
    let split : length (escape (front ++ lower_hex 12 n)) ≡ length (escape front ++ escape (lower_hex 12 n)) =
    ap (λ (l : List ℕ). length l) (flat_map-append escape_byte front (lower_hex 12 n)) in
    omega (arith, quoted_length (front ++ lower_hex 12 n), split, length-append (escape front) (escape (lower_hex 12 n)), prefix_length, hex_length 12 n)

-- ---- objects and arrays

-- at most n bytes with its closing bracket, wherever it is
pub record Within (ms : Members) (n : ℕ) : Type 0 where
  pub most : (later : Bool) → length (members_text later ms) ≤ n

pub comma_most : (later : Bool) → length (comma_if later) ≤ 1
comma_most true = omega arith
comma_most false = omega arith

pub no_more_members : Within no_members 1
no_more_members = record { most = λ later. omega arith }

pub with_member : (name : List ℕ) (d : Data) (ms : Members) (q v r : ℕ) → length (quoted name) ≡ q → length (compact_text d) ≤ v → Within ms r → Within (member name d ms) (q + 2 + v + r)
with_member name d ms q v r key value rest = record {
  most = λ later. omega (
    arith,
    key,
    value,
    rest.most true,
    comma_most later,
    length-append (comma_if later) (quoted name ++ 58 ∷ (compact_text d ++ members_text true ms)),
    length-append (quoted name) (58 ∷ (compact_text d ++ members_text true ms)),
    length-append (compact_text d) (members_text true ms),
  );
}

pub with_part : (name : List ℕ) (o : Option Data) (ms : Members) (q v r : ℕ) → length (quoted name) ≡ q → ((d : Data) → o ≡ Some d → length (compact_text d) ≤ v) → Within ms r
    → Within (member_if name o ms) (q + 2 + v + r)
with_part name None ms q v r key value rest = record { most = λ later. omega (arith, rest.most later) }
with_part name (Some d) ms q v r key value rest = with_member name d ms q v r key (value d refl) rest

pub object_most : (ms : Members) (n : ℕ) → Within ms n → length (compact_text (object ms)) ≤ suc n
object_most ms n within = omega (arith, within.most false)

pub record ItemsWithin (ds : Items) (n : ℕ) : Type 0 where
  pub most : (later : Bool) → length (items_text later ds) ≤ n

pub no_more_items : ItemsWithin no_items 1
no_more_items = record { most = λ later. omega arith }

pub with_item : (d : Data) (ds : Items) (v r : ℕ) → length (compact_text d) ≤ v → ItemsWithin ds r → ItemsWithin (item d ds) (1 + v + r)
with_item d ds v r value rest = record {
  most = λ later. omega (arith, value, rest.most true, comma_most later, length-append (comma_if later) (compact_text d ++ items_text true ds), length-append (compact_text d) (items_text true ds));
}

pub array_most : (ds : Items) (n : ℕ) → ItemsWithin ds n → length (compact_text (array ds)) ≤ suc n
array_most ds n within = omega (arith, within.most false)

boolean_most : (b : Bool) → length (compact_text (boolean b)) ≤ 5
boolean_most true = omega arith
boolean_most false = omega arith

-- ---- names and fields

cond_none : {X : Type 0} (b : Bool) (x : X) (rest : Option X) → cond b (Some x) rest ≡ None → (b ≡ false) × (rest ≡ None)
cond_none true x rest none = absurd (cc)
cond_none false x rest none = (refl, none)

pub user_name_short : (name : List ℕ) → IsUserName name → length name ≤ 128
unfolding user_name_fault
user_name_short name law = ltb-false 128 (length name) (cond_none _ _ _ (cond_none _ _ _ law).1).0

pub group_name_short : (name : List ℕ) → IsGroupName name → length name ≤ 128
unfolding group_name_fault
group_name_short name law = ltb-false 128 (length name) (cond_none _ _ _ (cond_none _ _ _ law).1).0

-- ---- names of users, in which nothing is escaped

if_plain : (b : ℕ) → Bool
unfolding escape_byte
if_plain b = cond (is_user_name_byte b) (length (escape_byte b) == 1) true

then_true : (p q : Bool) → cond p q true ≡ true → p ≡ true → q ≡ true
then_true true q h is = h
then_true false q h is = absurd (cc)

plain_byte : (b : ℕ) → is_user_name_byte b ≡ true → length (escape_byte b) ≡ 1
unfolding if_plain
plain_byte b is =
    let front = and_parts (nat_le 33 b && nat_le b 126 && not (b == 34)) (not (b == 92)) is in
    let range = and_parts (nat_le 33 b && nat_le b 126) (not (b == 34)) front.0 in
    let below = leb-true b 126 (and_parts (nat_le 33 b) (nat_le b 126) range.0).1 in
    eqb-true (length (escape_byte b)) 1 (then_true (is_user_name_byte b) (length (escape_byte b) == 1) (agree_below_at if_plain (λ k. true) 127 b refl (omega (arith, below))) is)

plain_length : (text : List ℕ) → list_all is_user_name_byte text ≡ true → length (escape text) ≡ length text
plain_length [] h = refl
plain_length (b ∷ text) h =
    let both = and_parts (is_user_name_byte b) (list_all is_user_name_byte text) h in
    omega (arith, length-append (escape_byte b) (escape text), plain_byte b both.0, plain_length text both.1)

third_false : {X : Type 0} (p q r : Bool) (x y z : X) → cond p (Some x) (cond q (Some y) (cond (not r) (Some z) None)) ≡ None → r ≡ true
third_false true q r x y z none = absurd (cc)
third_false false true r x y z none = absurd (cc)
third_false false false true x y z none = refl
third_false false false false x y z none = absurd (cc)

plain_name : (name : List ℕ) → IsUserName name → list_all is_user_name_byte name ≡ true
unfolding user_name_fault
plain_name name law = third_false (length name == 0) (nat_lt NAME_LIMIT (length name)) (list_all is_user_name_byte name) Empty TooLong Character law

login_most : (name : List ℕ) → IsUserName name → length (compact_text (string name)) ≤ 130
login_most name law = omega (arith, quoted_length name, plain_length name (plain_name name law), user_name_short name law)

text_most : (text : List ℕ) → length text ≤ 256 → length (compact_text (string text)) ≤ 1538
text_most text short = omega (arith, quoted_most text, short)

text_if_most : (text : List ℕ) → length text ≤ 256 → (d : Data) → option_map string (text_if text) ≡ Some d → length (compact_text d) ≤ 1538
text_if_most [] short d is = absurd (cc)
text_if_most (b ∷ text) short d is = let same : string (b ∷ text) ≡ d = cc in subst (λ (x : Data). length (compact_text x) ≤ 1538) same (text_most (b ∷ text) short)

-- the value that is there is this one
pub just : (x d : Data) (n : ℕ) → length (compact_text x) ≤ n → Some x ≡ Some d → length (compact_text d) ≤ n
just x d n most is = let same : x ≡ d = cc in subst (λ (y : Data). length (compact_text y) ≤ n) same most

whole_most : (n : ℕ) → n < 2 ^ 64 → length (compact_text (number (unsigned n))) ≤ 20
whole_most n fits = length-decimal-le 20 n (lit< tt) (omega (arith, fits)) fits

epoch_part : (n : ℕ) → n < 2 ^ 64 → (d : Data) → epoch_data n ≡ Some d → length (compact_text d) ≤ 20
epoch_part n fits d is = elim (cases_Bool (n == 0)) [
  | inl first ↦ absurd (cc (rw first at is))
  | inr not ↦ just (number (unsigned n)) d 20 (whole_most n fits) (rw not at is)
]

-- ---- keys

key_active : length (quoted (codes "active")) ≡ 8
unfolding escape_byte
key_active = refl

key_emails : length (quoted (codes "emails")) ≡ 8
unfolding escape_byte
key_emails = refl

key_external_id : length (quoted (codes "externalId")) ≡ 12
unfolding escape_byte
key_external_id = refl

key_name : length (quoted (codes "name")) ≡ 6
unfolding escape_byte
key_name = refl

pub key_schemas : length (quoted (codes "schemas")) ≡ 9
unfolding escape_byte
key_schemas = refl

key_user_name : length (quoted (codes "userName")) ≡ 10
unfolding escape_byte
key_user_name = refl

key_display_name : length (quoted (codes "displayName")) ≡ 13
unfolding escape_byte
key_display_name = refl

key_members : length (quoted (codes "members")) ≡ 9
unfolding escape_byte
key_members = refl

key_family : length (quoted (codes "familyName")) ≡ 12
unfolding escape_byte
key_family = refl

key_given : length (quoted (codes "givenName")) ≡ 11
unfolding escape_byte
key_given = refl

key_primary : length (quoted (codes "primary")) ≡ 9
unfolding escape_byte
key_primary = refl

key_type : length (quoted (codes "type")) ≡ 6
unfolding escape_byte
key_type = refl

key_value : length (quoted (codes "value")) ≡ 7
unfolding escape_byte
key_value = refl

key_department : length (quoted (codes "department")) ≡ 12
unfolding escape_byte
key_department = refl

key_revision : length (quoted (codes "revision")) ≡ 10
unfolding escape_byte
key_revision = refl

key_epoch : length (quoted (codes "epoch")) ≡ 7
unfolding escape_byte
key_epoch = refl

the_work : length (quoted (codes "work")) ≡ 6
unfolding escape_byte
the_work = refl

extension_length : length (quoted source_extension) ≡ 54
unfolding escape_byte source_extension
extension_length = refl

enterprise_length : length (quoted enterprise_extension) ≡ 60
unfolding escape_byte enterprise_extension
enterprise_length = refl

core_user_length : length (quoted core_user) ≡ 44
unfolding escape_byte core_user
core_user_length = refl

core_group_length : length (quoted core_group) ≡ 45
unfolding escape_byte core_group
core_group_length = refl

-- ---- parts

source_part : (r : RevisionValue) → IsRevision r → (d : Data) → source_data (Some r) ≡ Some d → length (compact_text d) ≤ 63
source_part r law d is =
    let fits = are_read_back.parts_fit r law in
    let its_number = number (unsigned (revision_number r)) in
    just (object (members_from (source_parts r))) d 63 (object_most (members_from (source_parts r)) 62 (with_part (codes "epoch") (epoch_data (revision_epoch r)) (member (codes "revision") its_number no_members) 7 20 33 key_epoch (epoch_part (revision_epoch r) fits.0)
    (with_member (codes "revision") its_number no_members 10 20 1 key_revision (whole_most (revision_number r) fits.1) no_more_members))) is

-- the enterprise extension with this department, if there is one
abbrev enterprise_data : Option (List ℕ) → Option Data
enterprise_data department = object_if (members_from ((codes "department", option_map string department) ∷ []))

enterprise_part : (text : List ℕ) → length text ≤ 256 → (d : Data) → enterprise_data (text_if text) ≡ Some d → length (compact_text d) ≤ 1554
enterprise_part [] short d is = absurd (cc)
enterprise_part (b ∷ text) short d is =
    just (object (member (codes "department") (string (b ∷ text)) no_members)) d 1554 (object_most (member (codes "department") (string (b ∷ text)) no_members) 1553 (with_member (codes "department") (string (b ∷ text)) no_members 12 1538 1 key_department (text_most (b ∷ text) short) no_more_members)) is

-- an image has the source extension
abbrev sourced : List Extension
sourced = (source_extension, true) ∷ []

-- the extensions of an image of a user, which has the enterprise extension if it has a department
abbrev extended : Bool → List Extension
extended has = (enterprise_extension, has) ∷ sourced

schemas_most : (core : List ℕ) (n : ℕ) → length (quoted core) ≤ n → length (compact_text (array (schemas_data core sourced))) ≤ n + 58
schemas_most core n short =
    let items = with_item (string core) (item (string source_extension) no_items) n 56 short (with_item (string source_extension) no_items 54 1 (omega (arith, extension_length)) no_more_items) in
    omega (arith, array_most (schemas_data core sourced) (1 + n + 56) items)

schemas_part : (core : List ℕ) (n : ℕ) → length (quoted core) ≤ n → (d : Data) → Some (array (schemas_data core sourced)) ≡ Some d → length (compact_text d) ≤ n + 58
schemas_part core n short d is = just (array (schemas_data core sourced)) d (n + 58) (schemas_most core n short) is

user_schemas_most : (has : Bool) → length (compact_text (array (schemas_data core_user (extended has)))) ≤ 163
user_schemas_most true =
    let source = with_item (string source_extension) no_items 54 1 (omega (arith, extension_length)) no_more_items in
    let urns = with_item (string enterprise_extension) (item (string source_extension) no_items) 60 56 (omega (arith, enterprise_length)) source in
    array_most (schemas_data core_user (extended true)) 162 (with_item (string core_user) (item (string enterprise_extension) (item (string source_extension) no_items)) 44 117 (omega (arith, core_user_length)) urns)
user_schemas_most false = omega (arith, schemas_most core_user 44 (omega (arith, core_user_length)))

user_schemas_part : (has : Bool) (d : Data) → Some (array (schemas_data core_user (extended has))) ≡ Some d → length (compact_text d) ≤ 163
user_schemas_part has d is = just (array (schemas_data core_user (extended has))) d 163 (user_schemas_most has) is

-- the parts of a name
abbrev name_parts : Option (List ℕ) → Option (List ℕ) → List Part
name_parts given family = (codes "familyName", option_map string family) ∷ (codes "givenName", option_map string given) ∷ []

name_most : (given family : Option (List ℕ)) → ((d : Data) → option_map string given ≡ Some d → length (compact_text d) ≤ 1538)
    → ((d : Data) → option_map string family ≡ Some d → length (compact_text d) ≤ 1538) → length (compact_text (object (members_from (name_parts given family)))) ≤ 3105
name_most given family short short' =
    object_most (members_from (name_parts given family)) 3104 (with_part (codes "familyName") (option_map string family) (member_if (codes "givenName") (option_map string given) no_members) 12 1538 1552 key_family short'
    (with_part (codes "givenName") (option_map string given) no_members 11 1538 1 key_given short no_more_members))

name_part : (given family : Option (List ℕ)) → ((d : Data) → option_map string given ≡ Some d → length (compact_text d) ≤ 1538)
    → ((d : Data) → option_map string family ≡ Some d → length (compact_text d) ≤ 1538) → (d : Data) → object_if (members_from (name_parts given family)) ≡ Some d → length (compact_text d) ≤ 3105
name_part None None short short' d is = absurd (cc)
name_part None (Some family) short short' d is = just (object (members_from (name_parts None (Some family)))) d 3105 (name_most None (Some family) short short') is
name_part (Some given) None short short' d is = just (object (members_from (name_parts (Some given) None))) d 3105 (name_most (Some given) None short short') is
name_part (Some given) (Some family) short short' d is = just (object (members_from (name_parts (Some given) (Some family)))) d 3105 (name_most (Some given) (Some family) short short') is

email_most : (mail : List ℕ) → length mail ≤ 256 → length (compact_text (email_data (work_email mail))) ≤ 1579
unfolding email_data
email_most mail short =
    object_most (members_from (email_parts (work_email mail))) 1578 (with_part (codes "primary") (Some (boolean true)) _ 9 5 1562 key_primary (λ d is. just (boolean true) d 5 (boolean_most true) is)
    (with_part (codes "type") (Some (string (codes "work"))) _ 6 6 1548 key_type (λ d is. just (string (codes "work")) d 6 (omega (arith, the_work)) is)
    (with_part (codes "value") (Some (string mail)) no_members 7 1538 1 key_value (λ d is. just (string mail) d 1538 (text_most mail short) is) no_more_members)))

emails_part : (mail : List ℕ) → length mail ≤ 256 → (d : Data) → emails_data (emails_of mail) ≡ Some d → length (compact_text d) ≤ 1582
emails_part [] short d is = absurd (cc)
emails_part (b ∷ mail) short d is = just (array (items_of (map email_data (emails_of (b ∷ mail))))) d 1582 (array_most (items_of (map email_data (emails_of (b ∷ mail)))) 1581 (with_item (email_data (work_email (b ∷ mail))) no_items 1579 1 (email_most (b ∷ mail) short) no_more_items)) is

pub no_part : (n : ℕ) (d : Data) → None ≡ Some d → length (compact_text d) ≤ n
no_part n d is = absurd (cc)

-- ---- a User

user_size : (row : UserFields) → IsUserRow row → length (compact_text (content_data (user_image row))) < 9_000
unfolding user_data user_front user_back
user_size row law =
    let department = text_of row texts.Department in
    let whole : length (compact_text (content_data (user_image row))) ≤ 8325 = object_most _ 8324 (with_part (codes "active") (Some (boolean row.active)) _ 8 5 8309 key_active (λ d is. just (boolean row.active) d 5 (boolean_most row.active) is)
    (with_part (codes "emails") (emails_data (emails_of (text_of row texts.Mail))) _ 8 1582 6717 key_emails (emails_part (text_of row texts.Mail) (short_text row law texts.Mail))
    (with_part (codes "externalId") (option_map string (text_if (text_of row texts.Number))) _ 12 1538 5165 key_external_id (text_if_most (text_of row texts.Number) (short_text row law texts.Number))
    (with_part (codes "name") (object_if (members_from (name_parts (text_if (text_of row texts.Given)) (text_if (text_of row texts.Family))))) _ 6 3105 2052 key_name
    (name_part (text_if (text_of row texts.Given)) (text_if (text_of row texts.Family)) (text_if_most (text_of row texts.Given) (short_text row law texts.Given)) (text_if_most (text_of row texts.Family) (short_text row law texts.Family)))
    (with_part (codes "schemas") (Some (array (schemas_data core_user (extended (has_some (image_texts row) (Department ∷ [])))))) _ 9 163 1878 key_schemas (user_schemas_part (has_some (image_texts row) (Department ∷ [])))
    (with_part source_extension (source_data (Some row.revision)) _ 54 63 1759 extension_length (source_part row.revision law.revision)
    (with_part enterprise_extension (enterprise_data (text_if department)) _ 60 1554 143 enterprise_length (enterprise_part department (short_text row law texts.Department))
    (with_part (codes "userName") (Some (string row.login)) no_members 10 130 1 key_user_name
    (λ d is. just (string row.login) d 130 (login_most row.login law.login) is) no_more_members)))))))) in
    omega (arith, whole)

-- ---- a Group

abbrev IsSpelled : List ℕ → Type 0
IsSpelled id = (n : ℕ) × (id ≡ id_text n)

spelled_length : (id : List ℕ) → IsSpelled id → length (quoted id) ≡ 38
spelled_length id spelled = ap (λ (text : List ℕ). length (quoted text)) spelled.1 ∙ id_length spelled.0

member_most : (id : List ℕ) → IsSpelled id → length (compact_text (member_data id)) ≤ 48
unfolding member_data
member_most id spelled =
    omega (arith, key_value, spelled_length id spelled, length-append (quoted (codes "value")) (58 ∷ (quoted id ++ 125 ∷ [])), length-append (quoted id) (125 ∷ []))

members_most : (ids : List (List ℕ)) → AllByRecursion IsSpelled ids → ItemsWithin (items_of (map member_data ids)) (49 * length ids + 1)
members_most [] all = record { most = λ later. omega arith }
members_most (id ∷ ids) all =
    let more = with_item (member_data id) (items_of (map member_data ids)) 48 (49 * length ids + 1) (member_most id all.0) (members_most ids all.1) in
    record { most = λ later. omega (arith, more.most later) }

members_part : (ids : List (List ℕ)) → AllByRecursion IsSpelled ids → length ids ≤ 400 → (d : Data) → group_members_data ids ≡ Some d → length (compact_text d) ≤ 19602
members_part [] all few d is = absurd (cc)
members_part (id ∷ ids) all few d is =
    just (array (items_of (map member_data (id ∷ ids)))) d 19602 (omega (arith, array_most (items_of (map member_data (id ∷ ids))) (49 * length (id ∷ ids) + 1) (members_most (id ∷ ids) all), few)) is

group_size : (row : GroupFields) (ids : List (List ℕ)) → IsGroupRow row → AllByRecursion IsSpelled (once ids) → length (once ids) ≤ 400
    → length (compact_text (content_data (group_image ids row))) < 21_000
unfolding group_data
group_size row ids law all few =
    let whole : length (compact_text (content_data (group_image ids row))) ≤ 20633 = object_most _ 20632 (with_part (codes "displayName") (Some (string row.name)) _ 13 770 19847 key_display_name
    (λ d is. just (string row.name) d 770 (omega (arith, quoted_most row.name, group_name_short row.name law.name)) is)
    (with_part (codes "members") (group_members_data (once ids)) _ 9 19602 234 key_members (members_part (once ids) all few)
    (with_part (codes "schemas") (Some (array (schemas_data core_group sourced))) _ 9 103 120 key_schemas (schemas_part core_group 45 (omega (arith, core_group_length)))
    (with_part source_extension (source_data (Some row.revision)) no_members 54 63 1 extension_length (source_part row.revision law.revision) no_more_members)))) in
    omega (arith, whole)

-- ---- the ids of members

cond_all : (P : List ℕ → Type 0) (b : Bool) (x : List ℕ) (rest : List (List ℕ)) → P x → AllByRecursion P rest → AllByRecursion P (cond b (x ∷ rest) rest)
cond_all P true x rest here all = (here, all)
cond_all P false x rest here all = all

filter_all : (P : List ℕ → Type 0) (p : List ℕ → Bool) (xs : List (List ℕ)) → AllByRecursion P xs → AllByRecursion P (filter p xs)
filter_all P p [] all = tt
filter_all P p (x ∷ xs) all = cond_all P (p x) x (filter p xs) all.0 (filter_all P p xs all.1)

once_all : (P : List ℕ → Type 0) (ids : List (List ℕ)) → AllByRecursion P ids → AllByRecursion P (once ids)
once_all P [] all = tt
once_all P (id ∷ ids) all = (all.0, filter_all P (λ other. not (bytes_eq id other)) (once ids) (once_all P ids all.1))

once_few : (ids : List (List ℕ)) → length (once ids) ≤ length ids
once_few [] = omega arith
once_few (id ∷ ids) =
    omega (arith, once_few ids, length-filter (λ other. not (bytes_eq id other)) (once ids), count_by-le-length (λ other. not (bytes_eq id other)) (once ids))

record AllReady (P : List ℕ → Type 0) (keys ids : List (List ℕ)) : Type 0 where
  all : AllByRecursion P ids
  count : length ids ≡ length keys

have_all : (P : List ℕ → Type 0) (f : RecordName → Option (List ℕ)) → ((name : RecordName) (id : List ℕ) → f name ≡ Some id → P id) → (keys ids : List (List ℕ)) → HaveIds f keys ids
    → AllReady P keys ids
have_all P f each [] [] all = record { all = tt; count = refl }
have_all P f each [] (id ∷ ids) all = absurd (cc all)
have_all P f each (key ∷ keys) [] all = absurd (cc all)
have_all P f each (key ∷ keys) (id ∷ ids) all =
    let more = have_all P f each keys ids (cc all) in
    record { all = (each (user key) id (cc all), more.all); count = ap suc more.count }

with_size : (row : Row) (ids : List (List ℕ)) → IsRow row → AllReady IsSpelled (members_of row) ids
    → length (compact_text (content_data (image_with ids row))) < longest_body (content_kind (image_with ids row))
with_size (User row) ids law all = user_size row law
with_size (Group row) ids law all = group_size row ids law (once_all IsSpelled ids all.all) (omega (arith, once_few ids, all.count, law.few))

-- an image whose members' ids are those that the provider makes
pub image_size : (f : RecordName → Option (List ℕ)) → ((name : RecordName) (id : List ℕ) → f name ≡ Some id → IsSpelled id) → (row : Row) (c : Content) → IsRow row → image f row ≡ Some c
    → length (compact_text (content_data c)) < longest_body (content_kind c)
image_size f each row c law is =
    let (ids, same, has_ids) = of_image f row c is in
    subst (λ (x : Content). length (compact_text (content_data x)) < longest_body (content_kind x)) same
    (with_size row ids law (have_all IsSpelled f each (members_of row) ids ((means.ids f (members_of row) ids).0 has_ids)))
