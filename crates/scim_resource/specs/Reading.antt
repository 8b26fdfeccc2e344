-- Reading a resource from JSON.
use Rattle.std.specs.Prelude.{ℕ, Bool, true, false, List, [], ◌∷◌, ◌++◌, Option, None, Some, Result, Ok, Err, ◌&&◌, ◌||◌, if◌then◌else◌, is_none, codes, map}
use Rattle.std.specs.Option.{unwrap_or}
use Rattle.scim_key.specs.Names.{user_name_fault, group_name_fault}
use Rattle.scim_key.specs.Outcome.{◌>>=◌}
use Rattle.scim_key.specs.Revisions.{RevisionValue, revision_of_parts}
use Rattle.scim_key.specs.declared.records.Kind.{Kind}
use Rattle.scim_key.specs.declared.records.Kind.TheVariants as kinds
use Rattle.serde_json.specs.Data.{Data, null, boolean, number, string, array, object, Items, no_items, item, Members}
use Rattle.scim_json.specs.Attributes.{attribute, repeats, value_repeats, list_repeats}
use Rattle.scim_json.specs.Values.{some_text, flag_or, whole_in, items_in, members_in}
use Rattle.scim_json.specs.Parsing.{json_of}
use Rattle.scim_json.specs.declared.values.ValueFault.{ValueFault}
use Rattle.scim_resource.specs.Emails.{are_few}
use Rattle.scim_resource.specs.Groups.{GroupRecord, is_among, are_few_members}
use Rattle.scim_resource.specs.Schemas.{core_user, core_group, enterprise_extension, source_extension}
use Rattle.scim_resource.specs.Texts.{is_short_text}
use Rattle.scim_resource.specs.UserTexts.{UserTexts, attribute_of, holder_of, name_of}
use Rattle.scim_resource.specs.Users.{UserRecord}
use Rattle.scim_resource.specs.declared.contents.Content.{Content}
use Rattle.scim_resource.specs.declared.contents.Content.TheVariants.{User, Group}
use Rattle.scim_resource.specs.declared.emails.Email.{Email}
use Rattle.scim_resource.specs.declared.faults.ContentFault.{ContentFault}
use Rattle.scim_resource.specs.declared.faults.ContentFault.TheVariants.{InvalidSyntax, InvalidValue}
use Rattle.scim_resource.specs.declared.user_texts.TheConstants.{USER_TEXTS}
use Rattle.scim_resource.specs.declared.user_texts.UserText.{UserText}

-- a fault of a value is `InvalidValue`
abbrev pub checked : {X : Type 0} → Result X ValueFault → Result X ContentFault
checked (Ok x) = Ok x
checked (Err e) = Err InvalidValue

-- ---- schemas

abbrev pub is_text_or_null : Data → Bool
is_text_or_null null = true
is_text_or_null (boolean b) = false
is_text_or_null (number n) = false
is_text_or_null (string s) = true
is_text_or_null (array ds) = false
is_text_or_null (object ms) = false

-- the list contains only texts; a `null` is ignored
unfoldable pub all_texts : Items → Bool
all_texts no_items = true
all_texts (item d ds) = is_text_or_null d && all_texts ds

-- a list of texts that contains this URN, in any case
abbrev pub lists_schema : List ℕ → Option Data → Bool
lists_schema urn None = false
lists_schema urn (Some null) = false
lists_schema urn (Some (boolean b)) = false
lists_schema urn (Some (number n)) = false
lists_schema urn (Some (string s)) = false
lists_schema urn (Some (array ds)) = all_texts ds && some_text urn ds
lists_schema urn (Some (object ms)) = false

-- ---- the attributes of a user

-- a valid name
abbrev pub user_name_in : Option Data → Result (List ℕ) ContentFault
user_name_in None = Err InvalidValue
user_name_in (Some null) = Err InvalidValue
user_name_in (Some (boolean b)) = Err InvalidValue
user_name_in (Some (number n)) = Err InvalidValue
user_name_in (Some (string s)) = if is_none (user_name_fault s) then Ok s else Err InvalidValue
user_name_in (Some (array ds)) = Err InvalidValue
user_name_in (Some (object ms)) = Err InvalidValue

abbrev pub lawful_revision : Option RevisionValue → Result (Option RevisionValue) ContentFault
lawful_revision None = Err InvalidValue
lawful_revision (Some r) = Ok (Some r)

-- the revision with this number and this epoch; an absent epoch is 0
abbrev pub revision_with : ℕ → Option ℕ → Result (Option RevisionValue) ContentFault
revision_with n epoch = lawful_revision (revision_of_parts (unwrap_or epoch 0) n)

-- without a number there is no revision, whatever the epoch is
abbrev pub revision_of : Result (Option ℕ) ValueFault → Option ℕ → Result (Option RevisionValue) ContentFault
revision_of epoch None = Ok None
revision_of epoch (Some n) = checked epoch >>= revision_with n

abbrev pub source_revision : Option Members → Result (Option RevisionValue) ContentFault
source_revision None = Ok None
source_revision (Some ms) =
    checked (whole_in (attribute (codes "revision") ms)) >>= revision_of (whole_in (attribute (codes "epoch") ms))

-- the revision in the source extension, if there is one
abbrev pub revision_in : Option Data → Result (Option RevisionValue) ContentFault
revision_in extension = checked (members_in extension) >>= source_revision

-- a text of 1 to 256 bytes
abbrev pub text_in : Option Data → Result (Option (List ℕ)) ContentFault
text_in None = Ok None
text_in (Some null) = Err InvalidValue
text_in (Some (boolean b)) = Err InvalidValue
text_in (Some (number n)) = Err InvalidValue
text_in (Some (string s)) = if is_short_text s then Ok (Some s) else Err InvalidValue
text_in (Some (array ds)) = Err InvalidValue
text_in (Some (object ms)) = Err InvalidValue

-- an attribute of an object that may be absent
abbrev pub part_of : List ℕ → Option Members → Option Data
part_of name None = None
part_of name (Some ms) = attribute name ms

-- ---- the texts of a user

-- the members of the object under this attribute of a user, or those of the user itself; none if it is absent
abbrev pub object_at : Option (List ℕ) → Members → Result (Option Members) ValueFault
object_at None ms = Ok (Some ms)
object_at (Some name) ms = members_in (attribute name ms)

-- the value of a text, in the object that has it
abbrev pub value_of : Members → UserText → Result (Option Data) ValueFault
value_of ms which = object_at (attribute_of (holder_of which)) ms >>= (λ held. Ok (part_of (name_of which) held))

-- the text that is this value
abbrev pub text_of : Result (Option Data) ValueFault → Result (Option (List ℕ)) ContentFault
text_of value = checked value >>= text_in

unfoldable pub texts_in : List (Result (Option Data) ValueFault) → Result UserTexts ContentFault
texts_in [] = Ok []
texts_in (d ∷ ds) = text_of d >>= (λ text. texts_in ds >>= (λ texts. Ok (text ∷ texts)))

unfoldable pub user_texts_in : Members → Result UserTexts ContentFault
user_texts_in ms = texts_in (map (value_of ms) USER_TEXTS)

-- ---- emails

abbrev pub email_with : Members → Option (List ℕ) → Result (Option Email) ContentFault
email_with ms None = Ok None
email_with ms (Some value) =
    text_in (attribute (codes "type") ms) >>= (λ type_text.
    checked (flag_or false (attribute (codes "primary") ms)) >>= (λ primary.
    Ok (Some (record { value = value; type_text = type_text; primary = primary }))))

-- an email, or none if it has no value
unfoldable pub email_of : Members → Result (Option Email) ContentFault
email_of ms = text_in (attribute (codes "value") ms) >>= email_with ms

-- a `null` is ignored
abbrev pub email_in : Data → Result (Option Email) ContentFault
email_in null = Ok None
email_in (boolean b) = Err InvalidValue
email_in (number n) = Err InvalidValue
email_in (string s) = Err InvalidValue
email_in (array ds) = Err InvalidValue
email_in (object ms) = email_of ms

abbrev pub with_email : Option Email → List Email → List Email
with_email None es = es
with_email (Some e) es = e ∷ es

unfoldable pub emails_of : Items → Result (List Email) ContentFault
emails_of no_items = Ok []
emails_of (item d ds) = email_in d >>= (λ e. emails_of ds >>= (λ es. Ok (with_email e es)))

abbrev pub few_emails : List Email → Result (List Email) ContentFault
few_emails es = if are_few es then Ok es else Err InvalidValue

-- the emails that have a value, in order: at most ten, at most one of them primary
abbrev pub emails_in : Option Data → Result (List Email) ContentFault
emails_in value = (checked (items_in value) >>= emails_of) >>= few_emails

-- ---- the whole

abbrev pub if_listed : {X : Type 0} → Bool → Result X ContentFault → Result X ContentFault
if_listed true answer = answer
if_listed false answer = Err InvalidValue

-- a valid name of a group
abbrev pub display_name_in : Option Data → Result (List ℕ) ContentFault
display_name_in None = Err InvalidValue
display_name_in (Some null) = Err InvalidValue
display_name_in (Some (boolean b)) = Err InvalidValue
display_name_in (Some (number n)) = Err InvalidValue
display_name_in (Some (string s)) = if is_none (group_name_fault s) then Ok s else Err InvalidValue
display_name_in (Some (array ds)) = Err InvalidValue
display_name_in (Some (object ms)) = Err InvalidValue

-- the value of a member, or none; a `null` is ignored
abbrev pub member_in : Data → Result (Option (List ℕ)) ContentFault
member_in null = Ok None
member_in (boolean b) = Err InvalidValue
member_in (number n) = Err InvalidValue
member_in (string s) = Err InvalidValue
member_in (array ds) = Err InvalidValue
member_in (object ms) = text_in (attribute (codes "value") ms)

-- adds a value, unless it is there already
abbrev pub with_member : List (List ℕ) → Option (List ℕ) → List (List ℕ)
with_member vs None = vs
with_member vs (Some v) = if is_among v vs then vs else vs ++ v ∷ []

-- these values and then the values of a list, each kept once, at its first place
unfoldable pub members_after : List (List ℕ) → Items → Result (List (List ℕ)) ContentFault
members_after vs no_items = Ok vs
members_after vs (item d ds) = member_in d >>= (λ v. members_after (with_member vs v) ds)

abbrev pub few_members : List (List ℕ) → Result (List (List ℕ)) ContentFault
few_members vs = if are_few_members vs then Ok vs else Err InvalidValue

-- the values of a list of members, each kept once, at its first place: at most 400
abbrev pub members_of : Items → Result (List (List ℕ)) ContentFault
members_of ds = members_after [] ds >>= few_members

-- the values of a group's members
abbrev pub group_members_in : Option Data → Result (List (List ℕ)) ContentFault
group_members_in value = checked (items_in value) >>= members_of

-- a user with this name and these texts
abbrev pub user_with : List ℕ → UserTexts → Members → Result UserRecord ContentFault
user_with user_name texts ms =
    emails_in (attribute (codes "emails") ms) >>= (λ emails.
    checked (flag_or true (attribute (codes "active") ms)) >>= (λ active.
    revision_in (attribute source_extension ms) >>= (λ revision.
    Ok (record { user_name = user_name; texts = texts; emails = emails; active = active; revision = revision }))))

unfoldable pub user_fields : Members → Result UserRecord ContentFault
user_fields ms =
    if_listed (lists_schema core_user (attribute (codes "schemas") ms))
    (user_name_in (attribute (codes "userName") ms) >>= (λ user_name.
    user_texts_in ms >>= (λ texts.
    emails_in (attribute (codes "emails") ms) >>= (λ emails.
    checked (flag_or true (attribute (codes "active") ms)) >>= (λ active.
    revision_in (attribute source_extension ms) >>= (λ revision.
    Ok (record { user_name = user_name; texts = texts; emails = emails; active = active; revision = revision })))))))

unfoldable pub group_fields : Members → Result GroupRecord ContentFault
group_fields ms =
    if_listed (lists_schema core_group (attribute (codes "schemas") ms))
    (display_name_in (attribute (codes "displayName") ms) >>= (λ display_name.
    text_in (attribute (codes "externalId") ms) >>= (λ external_id.
    group_members_in (attribute (codes "members") ms) >>= (λ values.
    revision_in (attribute source_extension ms) >>= (λ revision.
    Ok (record { display_name = display_name; external_id = external_id; members = values; revision = revision }))))))

-- ---- resources

-- an object with texts, or an email, repeats a name
abbrev pub parts_repeat : Members → Bool
parts_repeat ms =
    value_repeats (attribute enterprise_extension ms) || value_repeats (attribute (codes "name") ms)
    || list_repeats (attribute (codes "emails") ms)

-- one of the objects that reading looks into repeats a name
unfoldable pub user_repeats : Members → Bool
user_repeats ms =
    repeats ms || value_repeats (attribute source_extension ms) || value_repeats (attribute enterprise_extension ms)
    || value_repeats (attribute (codes "name") ms) || list_repeats (attribute (codes "emails") ms)

abbrev pub unless_repeated : {X : Type 0} → Bool → Result X ContentFault → Result X ContentFault
unless_repeated true answer = Err InvalidSyntax
unless_repeated false answer = answer

abbrev pub read_user : Data → Result UserRecord ContentFault
read_user null = Err InvalidSyntax
read_user (boolean b) = Err InvalidSyntax
read_user (number n) = Err InvalidSyntax
read_user (string s) = Err InvalidSyntax
read_user (array ds) = Err InvalidSyntax
read_user (object ms) = unless_repeated (user_repeats ms) (user_fields ms)

unfoldable pub group_repeats : Members → Bool
group_repeats ms =
    repeats ms || value_repeats (attribute source_extension ms) || list_repeats (attribute (codes "members") ms)

abbrev pub read_group : Data → Result GroupRecord ContentFault
read_group null = Err InvalidSyntax
read_group (boolean b) = Err InvalidSyntax
read_group (number n) = Err InvalidSyntax
read_group (string s) = Err InvalidSyntax
read_group (array ds) = Err InvalidSyntax
read_group (object ms) = unless_repeated (group_repeats ms) (group_fields ms)

unfoldable pub read_content : Kind → Data → Result Content ContentFault
read_content kinds.User d = read_user d >>= (λ u. Ok (User u))
read_content kinds.Group d = read_group d >>= (λ g. Ok (Group g))

-- a text that isn't JSON is `InvalidSyntax`
abbrev pub content_from : Kind → Option Data → Result Content ContentFault
content_from kind None = Err InvalidSyntax
content_from kind (Some json) = read_content kind json

-- The content that bytes spell: the bytes must be JSON in UTF-8, and their value is read
abbrev pub content_in : Kind → List ℕ → Result Content ContentFault
content_in kind bytes = content_from kind (json_of bytes)
