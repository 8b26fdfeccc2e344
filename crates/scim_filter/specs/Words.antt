-- The words of a filter. A text is a word if both are equal in lower case.
use Rattle.std.specs.Prelude.{ℕ, List, Bool, true, false, Option, Some, None, option_map, if◌then◌else◌, codes}
use Rattle.std.specs.Str.{str_eq_ignore_ascii_case}
use Rattle.scim_filter.specs.declared.terms.TextAttribute.{TextAttribute}
use Rattle.scim_filter.specs.declared.terms.TextAttribute.TheVariants.{UserName, DisplayName, GivenName, FamilyName, EmailValue, EmailType, Member, Id, ExternalId, Version}
use Rattle.scim_filter.specs.declared.terms.FlagAttribute.{FlagAttribute}
use Rattle.scim_filter.specs.declared.terms.FlagAttribute.TheVariants.{Active, EmailPrimary}
use Rattle.scim_filter.specs.declared.terms.Attribute.TheVariants.{OfText, OfFlag}
use Rattle.scim_filter.specs.declared.terms.TextOperator.TheVariants.{Equal, NotEqual, Contains, StartsWith, EndsWith}
use Rattle.scim_filter.specs.declared.words.Word.{Word}
use Rattle.scim_filter.specs.declared.words.Word.TheVariants.{Not, And, Or, Present, Compare, Truth, Name}

-- letters in any case
abbrev pub is_named : List ℕ → List ℕ → Bool
is_named text name = str_eq_ignore_ascii_case text name

unfoldable pub joining_word : List ℕ → Option Word
joining_word text =
    if is_named text (codes "not") then Some Not
    else if is_named text (codes "and") then Some And
    else if is_named text (codes "or") then Some Or
    else if is_named text (codes "pr") then Some Present
    else if is_named text (codes "true") then Some (Truth true)
    else if is_named text (codes "false") then Some (Truth false)
    else None

unfoldable pub comparing_word : List ℕ → Option Word
comparing_word text =
    if is_named text (codes "eq") then Some (Compare Equal)
    else if is_named text (codes "ne") then Some (Compare NotEqual)
    else if is_named text (codes "co") then Some (Compare Contains)
    else if is_named text (codes "sw") then Some (Compare StartsWith)
    else if is_named text (codes "ew") then Some (Compare EndsWith)
    else None

unfoldable pub text_attribute_named : List ℕ → Option TextAttribute
text_attribute_named text =
    if is_named text (codes "userName") then Some UserName
    else if is_named text (codes "displayName") then Some DisplayName
    else if is_named text (codes "name.givenName") then Some GivenName
    else if is_named text (codes "name.familyName") then Some FamilyName
    else if is_named text (codes "emails") then Some EmailValue
    else if is_named text (codes "emails.value") then Some EmailValue
    else if is_named text (codes "emails.type") then Some EmailType
    else if is_named text (codes "members") then Some Member
    else if is_named text (codes "members.value") then Some Member
    else if is_named text (codes "id") then Some Id
    else if is_named text (codes "externalId") then Some ExternalId
    else if is_named text (codes "meta.version") then Some Version
    else None

unfoldable pub flag_attribute_named : List ℕ → Option FlagAttribute
flag_attribute_named text =
    if is_named text (codes "active") then Some Active
    else if is_named text (codes "emails.primary") then Some EmailPrimary
    else None

-- the first value, if there is one, else the other
abbrev pub or_else : {A : Type 0} → Option A → Option A → Option A
or_else None other = other
or_else (Some x) other = Some x

unfoldable pub attribute_word : List ℕ → Option Word
attribute_word text =
    or_else (option_map (λ a. Name (OfText a)) (text_attribute_named text))
    (option_map (λ a. Name (OfFlag a)) (flag_attribute_named text))

-- the word that a text is, in any case
unfoldable pub word_named : List ℕ → Option Word
word_named text = or_else (joining_word text) (or_else (comparing_word text) (attribute_word text))
