-- The record that a filter names, if the filter is one test of a name.
use Rattle.std.specs.Prelude.{ℕ, List, Bool, Option, Some, None, is_none, if◌then◌else◌}
use Rattle.std.specs.Option.{option_and_then}
use Rattle.scim_key.specs.Names.{key_of, user_name_fault, group_name_fault}
use Rattle.scim_key.specs.declared.records.Kind.{Kind}
use Rattle.scim_key.specs.declared.records.Kind.TheVariants.{User, Group}
use Rattle.scim_key.specs.declared.records.RecordName.{RecordName}
use Rattle.scim_filter.specs.Expressions.{Expression, Only, Both, Either, Negated}
use Rattle.scim_filter.specs.declared.terms.TextAttribute.{TextAttribute}
use Rattle.scim_filter.specs.declared.terms.TextAttribute.TheVariants.{UserName, DisplayName, GivenName, FamilyName, EmailValue, EmailType, Member, Id, ExternalId, Version}
use Rattle.scim_filter.specs.declared.terms.TextOperator.TheVariants.{Equal, NotEqual, Contains, StartsWith, EndsWith}
use Rattle.scim_filter.specs.declared.terms.Test.{Test}
use Rattle.scim_filter.specs.declared.terms.Test.TheVariants.{Present, Text, Flag}

-- the only test is that this attribute is equal to this name
abbrev pub name_filter : TextAttribute → List ℕ → Expression
name_filter a name = Only (Text a Equal name)

-- a valid name for this type
abbrev pub is_lawful : Kind → List ℕ → Bool
is_lawful User text = is_none (user_name_fault text)
is_lawful Group text = is_none (group_name_fault text)

abbrev pub record_named : List ℕ → Kind → Option RecordName
record_named text kind = if is_lawful kind text then Some (record { kind = kind; key = key_of text }) else None

-- the type whose records an attribute names
abbrev pub named_by : TextAttribute → Option Kind
named_by UserName = Some User
named_by DisplayName = Some Group
named_by GivenName = None
named_by FamilyName = None
named_by EmailValue = None
named_by EmailType = None
named_by Member = None
named_by Id = None
named_by ExternalId = None
named_by Version = None

abbrev pub test_key : Test → Option RecordName
test_key (Present a) = None
test_key (Text a Equal text) = option_and_then (record_named text) (named_by a)
test_key (Text a NotEqual text) = None
test_key (Text a Contains text) = None
test_key (Text a StartsWith text) = None
test_key (Text a EndsWith text) = None
test_key (Flag a o v) = None

-- the only test is `userName eq` or `displayName eq` with a valid name
abbrev pub single_key : Expression → Option RecordName
single_key (Only test) = test_key test
single_key (Both a b) = None
single_key (Either a b) = None
single_key (Negated a) = None
