-- A filter that names one record holds only for the rows of that record.
use Rattle.std.proofs.Common.{◌≡◌, ◌↔◌, ℕ, Bool, true, false, cond, List, [], ◌∷◌, Some, None, ◌||◌, refl, sym, ap, ◌∙◌}
use Rattle.std.specs.Str.{bytes_eq}
use Rattle.std.proofs.lemmas.Slice.Eq.{bytes_eq-Decides}
use Rattle.scim_key.specs.Names.{key_of}
use Rattle.scim_key.specs.declared.records.Kind.{Kind}
use Rattle.scim_key.specs.declared.records.Kind.TheVariants as kinds
use Rattle.scim_key.specs.declared.records.RecordName.{RecordName}
use Rattle.scim_resource.specs.declared.contents.Content.{Content}
use Rattle.scim_resource.specs.declared.contents.Content.TheVariants.{User, Group}
use Rattle.scim_resource.specs.Contents.{content_name}
use Rattle.scim_resource.specs.Rows.{StoredRecord}
use Rattle.scim_filter.specs.Expressions.{Only, Both, Either, Negated}
use Rattle.scim_filter.specs.Matching.{some_compares, content_texts, test_holds}
use Rattle.scim_filter.specs.Names.{test_key, record_named, is_lawful}
use Rattle.scim_filter.specs.Keys.{KeysDecide}
use Rattle.scim_filter.specs.declared.terms.TextAttribute.{TextAttribute}
use Rattle.scim_filter.specs.declared.terms.TextAttribute.TheVariants.{UserName, DisplayName, GivenName, FamilyName, EmailValue, EmailType, Member, Id, ExternalId, Version}
use Rattle.scim_filter.specs.declared.terms.TextOperator.TheVariants.{Equal, NotEqual, Contains, StartsWith, EndsWith}
use Rattle.scim_filter.specs.declared.terms.Test.TheVariants as tests

abbrev name_of : Kind → List ℕ → RecordName
name_of kind key = record { kind = kind; key = key }

or-false : (b : Bool) → (b || false) ≡ b
or-false true = refl
or-false false = refl

-- a text is equal to the given one if their keys are
one-compares : (given text : List ℕ) → some_compares false Equal given (text ∷ []) ≡ bytes_eq (key_of text) (key_of given)
unfolding some_compares
one-compares given text = or-false (bytes_eq (key_of text) (key_of given))

none-compares : (given : List ℕ) → some_compares false Equal given [] ≡ false
unfolding some_compares
none-compares given = refl

-- a record of this type is the named one if their names are equal
same-name : (kind : Kind) (given text : List ℕ) → (some_compares false Equal given (text ∷ []) ≡ true) ↔ (name_of kind (key_of text) ≡ name_of kind (key_of given))
same-name kind given text = (
  λ passes. ap (λ key. name_of kind key) ((bytes_eq-Decides (key_of text) (key_of given)).0 (sym (one-compares given text) ∙ passes)),
  λ same. one-compares given text ∙ (bytes_eq-Decides (key_of text) (key_of given)).1 (ap (λ name. name.key) same),
)

-- a record of the other type isn't
other-kind : (kind other : Kind) (given key : List ℕ) → (kind ≡ other → ⊥) → (some_compares false Equal given [] ≡ true) ↔ (name_of other key ≡ name_of kind (key_of given))
other-kind kind other given key apart = (
  λ passes. absurd (let clash : false ≡ true = sym (none-compares given) ∙ passes in cc),
  λ same. absurd (apart (sym (ap (λ name. name.kind) same))),
)

on-user : (given : List ℕ) (c : Content) → (some_compares false Equal given (content_texts UserName c) ≡ true) ↔ (content_name c ≡ name_of kinds.User (key_of given))
on-user given (User u) = same-name kinds.User given u.user_name
on-user given (Group g) = other-kind kinds.User kinds.Group given (key_of g.display_name) (λ same. cc)

on-group : (given : List ℕ) (c : Content) → (some_compares false Equal given (content_texts DisplayName c) ≡ true) ↔ (content_name c ≡ name_of kinds.Group (key_of given))
on-group given (User u) = other-kind kinds.Group kinds.User given (key_of u.user_name) (λ same. cc)
on-group given (Group g) = same-name kinds.Group given g.display_name

-- the record of a valid name
named : (kind : Kind) (given : List ℕ) (name : RecordName) → record_named given kind ≡ Some name → name_of kind (key_of given) ≡ name
named kind given name is = here (is_lawful kind given) is
  where
    here : (b : Bool) → cond b (Some (name_of kind (key_of given))) None ≡ Some name → name_of kind (key_of given) ≡ name
    here true was = cc
    here false was = absurd (cc)

then-is : (b : Bool) (held named name : RecordName) → (b ≡ true) ↔ (held ≡ named) → named ≡ name → (b ≡ true) ↔ (held ≡ name)
then-is b held named name same is = (λ passes. same.0 passes ∙ is, λ equal. same.1 (equal ∙ sym is))

by-attribute : (a : TextAttribute) (given : List ℕ) (name : RecordName) (row : StoredRecord) → test_key (tests.Text a Equal given) ≡ Some name
    → (test_holds (tests.Text a Equal given) row ≡ true) ↔ (content_name row.content ≡ name)
by-attribute UserName given name row is = then-is _ _ _ name (on-user given row.content) (named kinds.User given name is)
by-attribute DisplayName given name row is = then-is _ _ _ name (on-group given row.content) (named kinds.Group given name is)
by-attribute GivenName given name row is = absurd (cc)
by-attribute FamilyName given name row is = absurd (cc)
by-attribute EmailValue given name row is = absurd (cc)
by-attribute EmailType given name row is = absurd (cc)
by-attribute Member given name row is = absurd (cc)
by-attribute Id given name row is = absurd (cc)
by-attribute ExternalId given name row is = absurd (cc)
by-attribute Version given name row is = absurd (cc)

pub keys_decide : KeysDecide
keys_decide (Only (tests.Present a)) name row is = absurd (cc)
keys_decide (Only (tests.Text a Equal given)) name row is = by-attribute a given name row is
keys_decide (Only (tests.Text a NotEqual given)) name row is = absurd (cc)
keys_decide (Only (tests.Text a Contains given)) name row is = absurd (cc)
keys_decide (Only (tests.Text a StartsWith given)) name row is = absurd (cc)
keys_decide (Only (tests.Text a EndsWith given)) name row is = absurd (cc)
keys_decide (Only (tests.Flag a o v)) name row is = absurd (cc)
keys_decide (Both f g) name row is = absurd (cc)
keys_decide (Either f g) name row is = absurd (cc)
keys_decide (Negated f) name row is = absurd (cc)
