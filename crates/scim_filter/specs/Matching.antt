-- What a filter means for a row of the provider.
use Rattle.std.specs.Prelude.{ℕ, List, [], ◌∷◌, length, map, Bool, true, false, not, ◌&&◌, ◌||◌, nat_lt}
use Rattle.std.specs.List.{list_any, filter_map}
use Rattle.std.specs.Option.{option_to_list}
use Rattle.scim_key.specs.Identifiers.{id_text}
use Rattle.scim_version.specs.Tags.{version_tag}
use Rattle.scim_resource.specs.UserTexts.{text_at}
use Rattle.scim_resource.specs.Users.{UserRecord}
use Rattle.scim_resource.specs.Groups.{GroupRecord}
use Rattle.scim_resource.specs.Rows.{StoredRecord}
use Rattle.scim_resource.specs.declared.contents.Content.{Content}
use Rattle.scim_resource.specs.declared.contents.Content.TheVariants.{User, Group}
use Rattle.scim_resource.specs.declared.user_texts.UserText.TheVariants as users
use Rattle.scim_filter.specs.Comparing.{folded, compares}
use Rattle.scim_filter.specs.Expressions.{Expression, Only, Both, Either, Negated}
use Rattle.scim_filter.specs.declared.terms.TextAttribute.{TextAttribute}
use Rattle.scim_filter.specs.declared.terms.TextAttribute.TheVariants.{UserName, DisplayName, GivenName, FamilyName, EmailValue, EmailType, Member, Id, ExternalId, Version}
use Rattle.scim_filter.specs.declared.terms.FlagAttribute.{FlagAttribute}
use Rattle.scim_filter.specs.declared.terms.FlagAttribute.TheVariants.{Active, EmailPrimary}
use Rattle.scim_filter.specs.declared.terms.Attribute.{Attribute}
use Rattle.scim_filter.specs.declared.terms.Attribute.TheVariants.{OfText, OfFlag}
use Rattle.scim_filter.specs.declared.terms.TextOperator.{TextOperator}
use Rattle.scim_filter.specs.declared.terms.TextOperator.TheVariants.{Equal, NotEqual, Contains, StartsWith, EndsWith}
use Rattle.scim_filter.specs.declared.terms.FlagOperator.{FlagOperator}
use Rattle.scim_filter.specs.declared.terms.FlagOperator.TheVariants.{Is, IsNot}
use Rattle.scim_filter.specs.declared.terms.Test.{Test}
use Rattle.scim_filter.specs.declared.terms.Test.TheVariants as tests

-- The values of an attribute. An attribute that the type of resource lacks has no value, and so is absent
abbrev pub user_texts : TextAttribute → UserRecord → List (List ℕ)
user_texts UserName u = u.user_name ∷ []
user_texts DisplayName u = []
user_texts GivenName u = option_to_list (text_at users.GivenName u.texts)
user_texts FamilyName u = option_to_list (text_at users.FamilyName u.texts)
user_texts EmailValue u = map (λ e. e.value) u.emails
user_texts EmailType u = filter_map (λ e. e.type_text) u.emails
user_texts Member u = []
user_texts Id u = []
user_texts ExternalId u = option_to_list (text_at users.ExternalId u.texts)
user_texts Version u = []

abbrev pub group_texts : TextAttribute → GroupRecord → List (List ℕ)
group_texts UserName g = []
group_texts DisplayName g = g.display_name ∷ []
group_texts GivenName g = []
group_texts FamilyName g = []
group_texts EmailValue g = []
group_texts EmailType g = []
group_texts Member g = g.members
group_texts Id g = []
group_texts ExternalId g = option_to_list g.external_id
group_texts Version g = []

abbrev pub content_texts : TextAttribute → Content → List (List ℕ)
content_texts a (User u) = user_texts a u
content_texts a (Group g) = group_texts a g

-- the id and the version are the row's
abbrev pub texts_of : TextAttribute → StoredRecord → List (List ℕ)
texts_of UserName s = content_texts UserName s.content
texts_of DisplayName s = content_texts DisplayName s.content
texts_of GivenName s = content_texts GivenName s.content
texts_of FamilyName s = content_texts FamilyName s.content
texts_of EmailValue s = content_texts EmailValue s.content
texts_of EmailType s = content_texts EmailType s.content
texts_of Member s = content_texts Member s.content
texts_of Id s = id_text s.number ∷ []
texts_of ExternalId s = content_texts ExternalId s.content
texts_of Version s = version_tag s.version ∷ []

abbrev pub content_flags : FlagAttribute → Content → List Bool
content_flags Active (User u) = u.active ∷ []
content_flags Active (Group g) = []
content_flags EmailPrimary (User u) = map (λ e. e.primary) u.emails
content_flags EmailPrimary (Group g) = []

-- whether an attribute is compared byte for byte, or in any case
abbrev pub is_exact : TextAttribute → Bool
is_exact UserName = false
is_exact DisplayName = false
is_exact GivenName = false
is_exact FamilyName = false
is_exact EmailValue = false
is_exact EmailType = false
is_exact Member = false
is_exact Id = true
is_exact ExternalId = true
is_exact Version = true

-- the comparison with the given text holds for some of these texts
unfoldable pub some_compares : Bool → TextOperator → List ℕ → List (List ℕ) → Bool
some_compares exact operator given texts =
    list_any (λ text. compares operator (folded exact text) (folded exact given)) texts

-- some value is equal to, contains, begins with or ends with the text; `ne` is the negation of `eq`
abbrev pub text_holds : TextOperator → Bool → List ℕ → List (List ℕ) → Bool
text_holds Equal exact given texts = some_compares exact Equal given texts
text_holds NotEqual exact given texts = not (some_compares exact Equal given texts)
text_holds Contains exact given texts = some_compares exact Contains given texts
text_holds StartsWith exact given texts = some_compares exact StartsWith given texts
text_holds EndsWith exact given texts = some_compares exact EndsWith given texts

abbrev pub same_flag : Bool → Bool → Bool
same_flag true flag = flag
same_flag false flag = not flag

-- some of these booleans is the value
unfoldable pub some_is : Bool → List Bool → Bool
some_is value flags = list_any (same_flag value) flags

abbrev pub flag_holds : FlagOperator → Bool → List Bool → Bool
flag_holds Is value flags = some_is value flags
flag_holds IsNot value flags = not (some_is value flags)

-- there is a value
abbrev pub is_present : Attribute → StoredRecord → Bool
is_present (OfText a) s = nat_lt 0 (length (texts_of a s))
is_present (OfFlag a) s = nat_lt 0 (length (content_flags a s.content))

abbrev pub test_holds : Test → StoredRecord → Bool
test_holds (tests.Present a) s = is_present a s
test_holds (tests.Text a o given) s = text_holds o (is_exact a) given (texts_of a s)
test_holds (tests.Flag a o value) s = flag_holds o value (content_flags a s.content)

-- Whether the row satisfies the filter
abbrev pub satisfies : Expression → StoredRecord → Bool
satisfies (Only t) s = test_holds t s
satisfies (Both a b) s = satisfies a s && satisfies b s
satisfies (Either a b) s = satisfies a s || satisfies b s
satisfies (Negated a) s = not (satisfies a s)
