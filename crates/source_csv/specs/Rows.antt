-- The rows of the source, as contracts see them, and their limits.
use Rattle.std.specs.Prelude.{◌≡◌, ℕ, Bool, true, List, [], ◌∷◌, get_or, length, ◌≤◌, ◌&&◌}
use Rattle.std.specs.Bool.{beq}
use Rattle.std.specs.Cmp.Lexicographic.{pointwise, slice_cmp}
use Rattle.std.specs.Ordering.{nat_cmp, is_lt}
use Rattle.std.specs.List.{AllByRecursion, list_all}
use Rattle.std.specs.Str.{bytes_eq}
use Rattle.scim_key.specs.Names.{IsGroupName, IsKey, IsUserName}
use Rattle.scim_key.specs.Revisions.{RevisionValue, IsRevision, same_revision}
use Rattle.source_csv.specs.declared.groups.TheConstants.{MEMBER_LIMIT}
use Rattle.source_csv.specs.Texts.{is_short, place_of}
use Rattle.source_csv.specs.declared.texts.TheConstants.{TEXT_FIELD_COUNT}
use Rattle.source_csv.specs.declared.texts.TextField.{TextField}

-- a row of a user, with its texts in the order of `TextField`. An empty text means none
pub record UserFields : Type 0 where
  pub login : List ℕ
  pub revision : RevisionValue
  pub texts : List (List ℕ)
  pub active : Bool

-- what holds for every row of a user
pub record IsUserRow (row : UserFields) : Type 0 where
  pub login : IsUserName row.login
  pub revision : IsRevision row.revision
  pub count : length row.texts ≡ TEXT_FIELD_COUNT
  pub short : list_all is_short row.texts ≡ true

-- a text of a user
abbrev pub text_of : UserFields → TextField → List ℕ
text_of row text = get_or row.texts (place_of text) []

-- whether all fields of two rows of users but their revisions are equal, byte for byte: a login in another spelling is
-- another field
abbrev pub user_says_the_same : UserFields → UserFields → Bool
user_says_the_same a b =
    bytes_eq a.login b.login && beq a.active b.active && pointwise bytes_eq a.texts b.texts

-- the same with their revisions
abbrev pub same_user : UserFields → UserFields → Bool
same_user a b = user_says_the_same a b && same_revision a.revision b.revision

-- whether a key comes before another in byte order
unfoldable pub precedes : List ℕ → List ℕ → Bool
precedes key other = is_lt (slice_cmp nat_cmp key other)

-- keys in byte order, none of them repeated
abbrev pub are_rising : List (List ℕ) → Bool
are_rising [] = true
are_rising (key ∷ []) = true
are_rising (key ∷ next ∷ keys) = precedes key next && are_rising (next ∷ keys)

-- the key of a user: a `userName` without capitals
pub record IsUserKey (key : List ℕ) : Type 0 where
  pub named : IsUserName key
  pub lowered : IsKey key

abbrev pub AreUserKeys : List (List ℕ) → Type 0
AreUserKeys keys = AllByRecursion IsUserKey keys

-- a row of a group. Its members are the keys of their names, in byte order
pub record GroupFields : Type 0 where
  pub name : List ℕ
  pub revision : RevisionValue
  pub members : List (List ℕ)

-- what holds for every row of a group
pub record IsGroupRow (row : GroupFields) : Type 0 where
  pub name : IsGroupName row.name
  pub revision : IsRevision row.revision
  pub few : length row.members ≤ MEMBER_LIMIT
  pub rising : are_rising row.members ≡ true
  pub keys : AreUserKeys row.members

-- whether all fields of two rows of groups but their revisions are equal, byte for byte
abbrev pub group_says_the_same : GroupFields → GroupFields → Bool
group_says_the_same a b = bytes_eq a.name b.name && pointwise bytes_eq a.members b.members

-- the same with their revisions
abbrev pub same_group : GroupFields → GroupFields → Bool
same_group a b = group_says_the_same a b && same_revision a.revision b.revision
