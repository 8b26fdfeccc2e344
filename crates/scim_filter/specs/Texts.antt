-- The text that is written for a filter.
use Rattle.std.specs.Prelude.{ℕ, suc, max, List, ◌++◌, Bool, true, false, codes}
use Rattle.json.specs.Print.{quoted}
use Rattle.scim_filter.specs.Expressions.{Expression, Only, Both, Either, Negated}
use Rattle.scim_filter.specs.Grammar.{as_text}
use Rattle.scim_filter.specs.declared.terms.TextAttribute.{TextAttribute}
use Rattle.scim_filter.specs.declared.terms.TextAttribute.TheVariants.{UserName, DisplayName, GivenName, FamilyName, EmailValue, EmailType, Member, Id, ExternalId, Version}
use Rattle.scim_filter.specs.declared.terms.FlagAttribute.{FlagAttribute}
use Rattle.scim_filter.specs.declared.terms.FlagAttribute.TheVariants.{Active, EmailPrimary}
use Rattle.scim_filter.specs.declared.terms.Attribute.{Attribute}
use Rattle.scim_filter.specs.declared.terms.Attribute.TheVariants.{OfText, OfFlag}
use Rattle.scim_filter.specs.declared.terms.TextOperator.{TextOperator}
use Rattle.scim_filter.specs.declared.terms.TextOperator.TheVariants.{Equal, NotEqual, Contains, StartsWith, EndsWith}
use Rattle.scim_filter.specs.declared.terms.Test.{Test}
use Rattle.scim_filter.specs.declared.terms.Test.TheVariants.{Present, Text, Flag}

abbrev pub text_attribute_name : TextAttribute → List ℕ
text_attribute_name UserName = codes "userName"
text_attribute_name DisplayName = codes "displayName"
text_attribute_name GivenName = codes "name.givenName"
text_attribute_name FamilyName = codes "name.familyName"
text_attribute_name EmailValue = codes "emails"
text_attribute_name EmailType = codes "emails.type"
text_attribute_name Member = codes "members"
text_attribute_name Id = codes "id"
text_attribute_name ExternalId = codes "externalId"
text_attribute_name Version = codes "meta.version"

abbrev pub flag_attribute_name : FlagAttribute → List ℕ
flag_attribute_name Active = codes "active"
flag_attribute_name EmailPrimary = codes "emails.primary"

abbrev pub attribute_name : Attribute → List ℕ
attribute_name (OfText a) = text_attribute_name a
attribute_name (OfFlag a) = flag_attribute_name a

abbrev pub operator_name : TextOperator → List ℕ
operator_name Equal = codes "eq"
operator_name NotEqual = codes "ne"
operator_name Contains = codes "co"
operator_name StartsWith = codes "sw"
operator_name EndsWith = codes "ew"

abbrev pub truth_name : Bool → List ℕ
truth_name true = codes "true"
truth_name false = codes "false"

-- one space where the grammar allows more, and strings as JSON writes them
abbrev pub test_text : Test → List ℕ
test_text (Present a) = attribute_name a ++ codes " pr"
test_text (Text a o s) = text_attribute_name a ++ (codes " " ++ (operator_name o ++ (codes " " ++ quoted s)))
test_text (Flag a o v) =
    flag_attribute_name a ++ (codes " " ++ (operator_name (as_text o) ++ (codes " " ++ truth_name v)))

abbrev pub is_either : Expression → Bool
is_either (Only t) = false
is_either (Both a b) = false
is_either (Either a b) = true
is_either (Negated a) = false

abbrev pub is_joined : Expression → Bool
is_joined (Only t) = false
is_joined (Both a b) = true
is_joined (Either a b) = true
is_joined (Negated a) = false

abbrev pub in_parentheses_if : Bool → List ℕ → List ℕ
in_parentheses_if true text = codes "(" ++ (text ++ codes ")")
in_parentheses_if false text = text

-- These operands are in parentheses: a left operand of `and` that is an `or`, a right operand of `and` that is an `and`
-- or an `or`, and a right operand of `or` that is an `or`
abbrev pub filter_text : Expression → List ℕ
filter_text (Only t) = test_text t
filter_text (Both a b) =
    in_parentheses_if (is_either a) (filter_text a)
    ++ (codes " and " ++ in_parentheses_if (is_joined b) (filter_text b))
filter_text (Either a b) = filter_text a ++ (codes " or " ++ in_parentheses_if (is_either b) (filter_text b))
filter_text (Negated a) = codes "not (" ++ (filter_text a ++ codes ")")

abbrev pub deeper_if : Bool → ℕ → ℕ
deeper_if true n = suc n
deeper_if false n = n

-- how deep the parentheses of that text go
abbrev pub nesting : Expression → ℕ
nesting (Only t) = 0
nesting (Both a b) = max (deeper_if (is_either a) (nesting a)) (deeper_if (is_joined b) (nesting b))
nesting (Either a b) = max (nesting a) (deeper_if (is_either b) (nesting b))
nesting (Negated a) = suc (nesting a)
