-- A user that is written is plain, and is read back as itself.
use Rattle.std.proofs.Common.{◌≡◌, ℕ, suc, ◌≤◌, ◌==◌, List, [], ◌∷◌, length, Bool, true, false, Option, Some, Ok, option_map, map, codes, refl, ap, ◌∙◌, arith}
use Rattle.std.proofs.lemmas.Bool.{ne_eqb}
use Rattle.scim_key.specs.Names.{user_name_fault, IsUserName}
use Rattle.serde_json.specs.Data.{Data, boolean, string, array, Members, depth, items_depth}
use Rattle.serde_json.specs.View.{items_of}
use Rattle.scim_key.specs.Outcome.{◌>>=◌}
use Rattle.scim_json.specs.Attributes.{attribute, present, repeats, value_repeats, items_repeat, list_repeats}
use Rattle.scim_json.specs.Values.{flag_or}
use Rattle.scim_json.specs.Plain.{IsPlain, ItemsArePlain}
use Rattle.scim_json.specs.Writing.{Part, members_from}
use Rattle.scim_json.proofs.Parts.{are_rising, are_apart, part_named, named-members_from, repeats-members_from, IsPlainIf, ArePlainIf, MembersArePlain-members_from, depth_if, AreWithin, members_depth-members_from}
use Rattle.scim_resource.specs.Emails.{IsEmail, AreEmails, IsEmailList, are_few}
use Rattle.scim_resource.specs.Reading.{user_name_in, part_of, object_at, value_of, texts_in, user_texts_in, email_of, email_in, emails_of, emails_in, few_emails, user_fields, user_repeats, read_user, unless_repeated}
use Rattle.scim_resource.specs.Schemas.{core_user, enterprise_extension, source_extension}
use Rattle.scim_resource.specs.UserTexts.{AreUserTexts, attribute_of, holder_of, name_of, text_at}
use Rattle.scim_resource.specs.Users.{UserRecord, IsUser}
use Rattle.scim_resource.specs.declared.emails.Email.{Email}
use Rattle.scim_resource.specs.declared.user_texts.Holder.{Holder}
use Rattle.scim_resource.specs.declared.user_texts.Holder.TheVariants as holder
use Rattle.scim_resource.specs.declared.user_texts.TheConstants.{ENTERPRISE_TEXTS, NAME_TEXTS, TOP_TEXTS, USER_TEXTS}
use Rattle.scim_resource.specs.Writing.{text_parts, held_data, primary_data, email_parts, email_data, emails_data, source_data, schemas_data, user_extensions, user_front, user_back, user_parts, user_data}
use Rattle.scim_resource.proofs.ExtensionTrips.{source_present, source_read, source_repeats, source_plain, source_depth, schemas_listed, schemas_plain, schemas_depth}
use Rattle.scim_resource.proofs.TextTrips.{map_same, each_text, text_present, text_read, given, texts_present, texts_read, part_found, text_plain, texts_plain, ArePlainIf-append, text_depth, texts_within, AreWithin-append, held_present, held_repeats, held_plain, held_depth}

-- ---- the names of a user's parts

rising : (id meta : Option Data) (u : UserRecord) → are_rising (user_parts id meta u) ≡ true
unfolding source_extension enterprise_extension user_front user_back
rising id meta u = refl

apart : (id meta : Option Data) (u : UserRecord) → are_apart (user_parts id meta u) ≡ true
unfolding source_extension enterprise_extension user_front user_back
apart id meta u = refl

-- ---- the parts of a user that are found

abbrev pub members : Option Data → Option Data → UserRecord → Members
members id meta u = members_from (user_parts id meta u)

found : (name : List ℕ) (id meta : Option Data) (u : UserRecord) → attribute name (members id meta u) ≡ present (part_named name (user_parts id meta u))
found name id meta u = ap present (named-members_from name (user_parts id meta u) (apart id meta u))

schemas_part : (id meta : Option Data) (u : UserRecord) → part_named (codes "schemas") (user_parts id meta u) ≡ Some (array (schemas_data core_user (user_extensions u)))
unfolding user_front user_back
schemas_part id meta u = refl

user_name_part : (id meta : Option Data) (u : UserRecord) → part_named (codes "userName") (user_parts id meta u) ≡ Some (string u.user_name)
unfolding source_extension enterprise_extension user_front user_back
user_name_part id meta u = refl

name_part : (id meta : Option Data) (u : UserRecord) → part_named (codes "name") (user_parts id meta u) ≡ held_data u.texts NAME_TEXTS
unfolding user_front user_back
name_part id meta u = refl

emails_part : (id meta : Option Data) (u : UserRecord) → part_named (codes "emails") (user_parts id meta u) ≡ emails_data u.emails
unfolding user_front
emails_part id meta u = refl

active_part : (id meta : Option Data) (u : UserRecord) → part_named (codes "active") (user_parts id meta u) ≡ Some (boolean u.active)
unfolding user_front
active_part id meta u = refl

source_part : (id meta : Option Data) (u : UserRecord) → part_named source_extension (user_parts id meta u) ≡ source_data u.revision
unfolding source_extension user_front user_back
source_part id meta u = refl

enterprise_part : (id meta : Option Data) (u : UserRecord) → part_named enterprise_extension (user_parts id meta u) ≡ held_data u.texts ENTERPRISE_TEXTS
unfolding source_extension enterprise_extension user_front user_back
enterprise_part id meta u = refl

-- the parts of the object that has a text
abbrev held_parts : Holder → Option Data → Option Data → UserRecord → List Part
held_parts holder.User id meta u = user_parts id meta u
held_parts holder.Name id meta u = text_parts u.texts NAME_TEXTS
held_parts holder.Enterprise id meta u = text_parts u.texts ENTERPRISE_TEXTS

name_found : (id meta : Option Data) (u : UserRecord) → attribute (codes "name") (members id meta u) ≡ held_data u.texts NAME_TEXTS
name_found id meta u = found (codes "name") id meta u ∙ ap present (name_part id meta u) ∙ held_present u.texts NAME_TEXTS

enterprise_found : (id meta : Option Data) (u : UserRecord) → attribute enterprise_extension (members id meta u) ≡ held_data u.texts ENTERPRISE_TEXTS
enterprise_found id meta u = found enterprise_extension id meta u ∙ ap present (enterprise_part id meta u) ∙ held_present u.texts ENTERPRISE_TEXTS

value_found : (h : Holder) (key : List ℕ) (id meta : Option Data) (u : UserRecord)
    → object_at (attribute_of h) (members id meta u) >>= (λ held. Ok (part_of key held)) ≡ Ok (present (part_named key (held_parts h id meta u)))
value_found holder.User key id meta u = ap Ok (found key id meta u)
value_found holder.Name key id meta u = part_found _ key (text_parts u.texts NAME_TEXTS) refl (name_found id meta u)
value_found holder.Enterprise key id meta u = part_found _ key (text_parts u.texts ENTERPRISE_TEXTS) refl (enterprise_found id meta u)

-- each text of the table is a part of its object
texts_held : (id meta : Option Data) (u : UserRecord)
    → map (λ which. given (present (part_named (name_of which) (held_parts (holder_of which) id meta u)))) USER_TEXTS ≡ map given (map present (map (option_map string) (map (λ which. text_at which u.texts) USER_TEXTS)))
unfolding user_front user_back source_extension enterprise_extension
texts_held id meta u = refl

texts_found : (id meta : Option Data) (u : UserRecord) → AreUserTexts u.texts → map (value_of (members id meta u)) USER_TEXTS ≡ map given (map (option_map string) u.texts)
texts_found id meta u h =
    map_same _ _ USER_TEXTS (λ which. value_found (holder_of which) (name_of which) id meta u) ∙ texts_held id meta u
    ∙ ap (λ texts. map given (map present (map (option_map string) texts))) (each_text u.texts h) ∙ ap (map given) (texts_present u.texts h.each)

-- ---- what they are read as

not_empty : (name : List ℕ) → IsUserName name → (length name == 0) ≡ false
unfolding user_name_fault
not_empty [] h = cc
not_empty (x ∷ xs) h = ne_eqb (suc (length xs)) 0 (λ e. omega arith)

name_present : (name : List ℕ) → IsUserName name → present (Some (string name)) ≡ Some (string name)
name_present name h = rw (not_empty name h)

emails_present : (es : List Email) → present (emails_data es) ≡ emails_data es
emails_present [] = refl
emails_present (e ∷ es) = refl

name_read : (name : List ℕ) → IsUserName name → user_name_in (Some (string name)) ≡ Ok name
name_read name h = rw h

primary_present : (p : Bool) → present (primary_data p) ≡ primary_data p
primary_present true = refl
primary_present false = refl

primary_read : (p : Bool) → flag_or false (primary_data p) ≡ Ok p
primary_read true = refl
primary_read false = refl

email_part : (name : List ℕ) (e : Email) → attribute name (members_from (email_parts e)) ≡ present (part_named name (email_parts e))
email_part name e = ap present (named-members_from name (email_parts e) refl)

members_read : (ms : Members) (e : Email) → IsEmail e → attribute (codes "value") ms ≡ Some (string e.value) → attribute (codes "type") ms ≡ option_map string e.type_text
    → attribute (codes "primary") ms ≡ primary_data e.primary → email_of ms ≡ Ok (Some e)
unfolding email_of
members_read ms e h value kind primary =
    rw (value, text_read (Some e.value) h.value, kind, text_read e.type_text h.type_text, primary, primary_read e.primary)

email_read : (e : Email) → IsEmail e → email_in (email_data e) ≡ Ok (Some e)
unfolding email_data
email_read e h =
    members_read (members_from (email_parts e)) e h (email_part (codes "value") e ∙ text_present (Some e.value) h.value)
    (email_part (codes "type") e ∙ text_present e.type_text h.type_text) (email_part (codes "primary") e ∙ primary_present e.primary)

emails_of_read : (es : List Email) → AreEmails es → emails_of (items_of (map email_data es)) ≡ Ok es
unfolding emails_of
emails_of_read [] h = refl
emails_of_read (e ∷ es) h = rw (email_read e h.0, emails_of_read es h.1)

few_read : (es : List Email) → are_few es ≡ true → few_emails es ≡ Ok es
few_read es h = rw h

emails_read : (es : List Email) → IsEmailList es → emails_in (emails_data es) ≡ Ok es
unfolding emails_of
emails_read [] h = few_read [] h.few
emails_read (e ∷ es) h = ap (λ o. o >>= few_emails) (emails_of_read (e ∷ es) h.each) ∙ few_read (e ∷ es) h.few

-- an object with these attributes is read as this user
pub record Shows (ms : Members) (u : UserRecord) : Type 0 where
  pub schemas : attribute (codes "schemas") ms ≡ Some (array (schemas_data core_user (user_extensions u)))
  pub user_name : attribute (codes "userName") ms ≡ Some (string u.user_name)
  pub name : attribute (codes "name") ms ≡ held_data u.texts NAME_TEXTS
  pub enterprise : attribute enterprise_extension ms ≡ held_data u.texts ENTERPRISE_TEXTS
  pub texts : map (value_of ms) USER_TEXTS ≡ map given (map (option_map string) u.texts)
  pub emails : attribute (codes "emails") ms ≡ emails_data u.emails
  pub active : attribute (codes "active") ms ≡ Some (boolean u.active)
  pub source : attribute source_extension ms ≡ source_data u.revision

texts_shown : (ms : Members) (u : UserRecord) → IsUser u → Shows ms u → user_texts_in ms ≡ Ok u.texts
unfolding user_texts_in
texts_shown ms u h s = ap texts_in s.texts ∙ texts_read u.texts h.texts.each

fields_read : (ms : Members) (u : UserRecord) → IsUser u → Shows ms u → user_fields ms ≡ Ok u
unfolding user_fields
fields_read ms u h s =
    rw (s.schemas, schemas_listed core_user (user_extensions u), s.user_name, name_read u.user_name h.user_name, texts_shown ms u h s, s.emails, emails_read u.emails h.emails, s.active, s.source, source_read u.revision h.revision)

email_repeats : (e : Email) → value_repeats (Some (email_data e)) ≡ false
unfolding email_data
email_repeats e = repeats-members_from (email_parts e) refl

items_repeat_none : (es : List Email) → items_repeat (items_of (map email_data es)) ≡ false
unfolding items_repeat
items_repeat_none [] = refl
items_repeat_none (e ∷ es) = rw (email_repeats e) (items_repeat_none es)

emails_repeat : (es : List Email) → list_repeats (emails_data es) ≡ false
emails_repeat [] = refl
emails_repeat (e ∷ es) = items_repeat_none (e ∷ es)

repeats_none : (ms : Members) (u : UserRecord) → repeats ms ≡ false → Shows ms u → user_repeats ms ≡ false
unfolding user_repeats
repeats_none ms u clear s =
    rw (clear, s.source, source_repeats u.revision, s.enterprise, held_repeats u.texts ENTERPRISE_TEXTS refl, s.name, held_repeats u.texts NAME_TEXTS refl, s.emails, emails_repeat u.emails)

pub user_data_read : (id meta : Option Data) (u : UserRecord) → IsUser u → read_user (user_data id meta u) ≡ Ok u
unfolding user_data
user_data_read id meta u h =
    let ms = members id meta u in
    let shows : Shows ms u = record {
      schemas = found (codes "schemas") id meta u ∙ ap present (schemas_part id meta u);
      user_name = found (codes "userName") id meta u ∙ ap present (user_name_part id meta u) ∙ name_present u.user_name h.user_name;
      name = name_found id meta u;
      enterprise = enterprise_found id meta u;
      texts = texts_found id meta u h.texts;
      emails = found (codes "emails") id meta u ∙ ap present (emails_part id meta u) ∙ emails_present u.emails;
      active = found (codes "active") id meta u ∙ ap present (active_part id meta u);
      source = found source_extension id meta u ∙ ap present (source_part id meta u) ∙ source_present u.revision;
    } in
    let clear = repeats-members_from (user_parts id meta u) (apart id meta u) in
    ap (λ b. unless_repeated b (user_fields ms)) (repeats_none ms u clear shows) ∙ fields_read ms u h shows

-- ---- plain data

primary_plain : (p : Bool) → IsPlainIf (primary_data p)
primary_plain true = tt
primary_plain false = tt

email_plain : (e : Email) → IsPlain (email_data e)
unfolding email_data
email_plain e = MembersArePlain-members_from (email_parts e) refl (primary_plain e.primary, (text_plain e.type_text, (tt, tt)))

email_items_plain : (es : List Email) → ItemsArePlain (items_of (map email_data es))
email_items_plain [] = tt
email_items_plain (e ∷ es) = (email_plain e, email_items_plain es)

emails_plain : (es : List Email) → IsPlainIf (emails_data es)
emails_plain [] = tt
emails_plain (e ∷ es) = email_items_plain (e ∷ es)

parts_plain : (id meta : Option Data) (u : UserRecord) → IsUser u → IsPlainIf id → IsPlainIf meta → ArePlainIf (user_parts id meta u)
unfolding user_front user_back
parts_plain id meta u h i m =
    let back : ArePlainIf (user_back u) = (held_plain u.texts NAME_TEXTS refl, (schemas_plain core_user (user_extensions u), (source_plain u.revision h.revision, (held_plain u.texts ENTERPRISE_TEXTS refl, (tt, tt))))) in
    (tt, (emails_plain u.emails, ArePlainIf-append (text_parts u.texts TOP_TEXTS) ((codes "id", id) ∷ (codes "meta", meta) ∷ user_back u) (texts_plain u.texts TOP_TEXTS) (i, (m, back))))

pub user_data_plain : (id meta : Option Data) (u : UserRecord) → IsUser u → IsPlainIf id → IsPlainIf meta → IsPlain (user_data id meta u)
unfolding user_data
user_data_plain id meta u h i m = MembersArePlain-members_from (user_parts id meta u) (rising id meta u) (parts_plain id meta u h i m)

primary_depth : (p : Bool) → depth_if (primary_data p) ≤ 0
primary_depth true = omega arith
primary_depth false = omega arith

email_depth : (e : Email) → depth (email_data e) ≤ 1
unfolding email_data
email_depth e = omega (arith, members_depth-members_from 0 (email_parts e) (primary_depth e.primary, (text_depth e.type_text, (omega arith, tt))))

email_items_depth : (es : List Email) → items_depth (items_of (map email_data es)) ≤ 1
email_items_depth [] = omega arith
email_items_depth (e ∷ es) = omega (arith, email_depth e, email_items_depth es)

emails_depth : (es : List Email) → depth_if (emails_data es) ≤ 2
emails_depth [] = omega arith
emails_depth (e ∷ es) = omega (arith, email_items_depth (e ∷ es))

parts_within : (id meta : Option Data) (u : UserRecord) → depth_if id ≤ 2 → depth_if meta ≤ 2 → AreWithin 2 (user_parts id meta u)
unfolding user_front user_back
parts_within id meta u i m =
    let back : AreWithin 2 (user_back u) = (omega (arith, held_depth u.texts NAME_TEXTS), (schemas_depth core_user (user_extensions u), (source_depth u.revision, (omega (arith, held_depth u.texts ENTERPRISE_TEXTS), (omega arith, tt))))) in
    (omega arith, (emails_depth u.emails, AreWithin-append 2 (text_parts u.texts TOP_TEXTS) ((codes "id", id) ∷ (codes "meta", meta) ∷ user_back u) (texts_within 2 u.texts TOP_TEXTS) (i, (m, back))))

pub user_data_depth : (id meta : Option Data) (u : UserRecord) → depth_if id ≤ 2 → depth_if meta ≤ 2 → depth (user_data id meta u) ≤ 3
unfolding user_data
user_data_depth id meta u i m = omega (arith, members_depth-members_from 2 (user_parts id meta u) (parts_within id meta u i m))

-- ---- an id and `meta`

pub user_shows : (id meta : Option Data) (u : UserRecord) → (attribute (codes "id") (members id meta u) ≡ present id) × (attribute (codes "meta") (members id meta u) ≡ present meta)
unfolding user_front
user_shows id meta u = (found (codes "id") id meta u, found (codes "meta") id meta u)
