-- Revisions of the source: their order, and how they are read and written.
use Rattle.std.specs.Prelude.{◌≡◌, ◌<◌, ◌+◌, ◌*◌, ◌^◌, ◌↔◌, ◌⊎◌, ℕ, List, ◌∷◌, ◌++◌, Bool, true, false, Option, Some, None, length, codes, nat_lt, nat_le, ◌==◌, ◌&&◌, ◌||◌, if◌then◌else◌}
use Rattle.std.specs.Char.{is_ascii_digit}
use Rattle.std.specs.Fmt.{decimal}
use Rattle.std.specs.List.{after_first, before_first, list_all, position_or_len}
use Rattle.std.specs.Option.{option_and_then}
use Rattle.std.specs.Str.Parse.{digits_value}
use Rattle.scim_key.specs.declared.revisions.TheConstants.{LAST_EPOCH, LAST_REVISION, REVISION_DIGITS}

-- what contracts see of a revision: its epoch, and its number in the epoch
pub record RevisionValue : Type 0 where
  pub epoch : ℕ
  pub number : ℕ

-- no revision; it comes before every other
unfoldable pub no_revision : RevisionValue
no_revision = record { epoch = 0; number = 0 }

unfoldable pub same_revision : RevisionValue → RevisionValue → Bool
same_revision a b = (a.epoch == b.epoch) && (a.number == b.number)

-- whether the first comes before the second: by their epochs, then by their numbers
unfoldable pub before : RevisionValue → RevisionValue → Bool
before a b = nat_lt a.epoch b.epoch || ((a.epoch == b.epoch) && nat_lt a.number b.number)

-- the later of the two
unfoldable pub later : RevisionValue → RevisionValue → RevisionValue
later a b = if before a b then b else a

-- a ≺ b: a comes before b; a ≼ b: b doesn't come before a
infix 40 ◌≺◌
abbrev pub ◌≺◌ : RevisionValue → RevisionValue → Type 0
a ≺ b = before a b ≡ true

infix 40 ◌≼◌
abbrev pub ◌≼◌ : RevisionValue → RevisionValue → Type 0
a ≼ b = before b a ≡ false

-- a revision that the source may give
unfoldable pub is_revision : RevisionValue → Bool
is_revision r = nat_le r.epoch LAST_EPOCH && nat_le 1 r.number && nat_le r.number LAST_REVISION

abbrev pub IsRevision : RevisionValue → Type 0
IsRevision r = is_revision r ≡ true

-- what may be confirmed of a record: none, or a revision that the source may give
abbrev pub IsNoneOrRevision : RevisionValue → Type 0
IsNoneOrRevision r = (r ≡ no_revision) ⊎ IsRevision r

-- ---- reading and writing

-- the epoch and the number that are written for a revision
unfoldable pub revision_epoch : RevisionValue → ℕ
revision_epoch r = r.epoch

unfoldable pub revision_number : RevisionValue → ℕ
revision_number r = r.number

-- the revision with this epoch and number
unfoldable pub revision_of_parts : (epoch number : ℕ) → Option RevisionValue
revision_of_parts epoch number =
    if is_revision (record { epoch = epoch; number = number })
    then Some (record { epoch = epoch; number = number }) else None

-- the revision after this one: the next number of its epoch, then number 1 of the next epoch; none after the last one
unfoldable pub next_revision : RevisionValue → Option RevisionValue
next_revision r =
    if nat_lt r.number LAST_REVISION then revision_of_parts r.epoch (r.number + 1)
    else revision_of_parts (r.epoch + 1) 1

-- the same, or none for 0 and 0
unfoldable pub confirmed_of_parts : (epoch number : ℕ) → Option RevisionValue
confirmed_of_parts epoch number =
    if same_revision (record { epoch = epoch; number = number }) no_revision then Some no_revision
    else revision_of_parts epoch number

-- 1 to 18 digits; leading zeros are allowed
abbrev pub is_numeral : List ℕ → Bool
is_numeral text = nat_le 1 (length text) && nat_le (length text) REVISION_DIGITS && list_all is_ascii_digit text

abbrev pub numeral_value : List ℕ → Option ℕ
numeral_value text = if is_numeral text then Some (digits_value 10 text) else None

abbrev pub is_colon : ℕ → Bool
is_colon b = b == 58

abbrev pub has_colon : List ℕ → Bool
has_colon text = nat_lt (position_or_len is_colon text) (length text)

-- what stands before the first colon and after it: the epoch and the number; with no colon the epoch is 0
abbrev pub spelled_parts : List ℕ → List ℕ × List ℕ
spelled_parts text =
    if has_colon text then (before_first is_colon text, after_first is_colon text) else (codes "0", text)

abbrev pub revision_spelled : Option ℕ → Option ℕ → Option RevisionValue
revision_spelled epoch number = option_and_then (λ e. option_and_then (λ n. revision_of_parts e n) number) epoch

-- the revision that a text spells, as `N` or `E:N`
unfoldable pub read_revision : List ℕ → Option RevisionValue
read_revision text = revision_spelled (numeral_value (spelled_parts text).0) (numeral_value (spelled_parts text).1)

-- the text that is written for a revision: the epoch only if it isn't 0
unfoldable pub revision_text : RevisionValue → List ℕ
revision_text r = if r.epoch == 0 then decimal r.number else decimal r.epoch ++ (58 ∷ decimal r.number)

-- A valid revision, once written, is read back as itself
pub record RevisionsAreReadBack : Type 0 where
  pub from_text : (r : RevisionValue) → IsRevision r → read_revision (revision_text r) ≡ Some r
  pub from_parts : (r : RevisionValue) → IsRevision r
      → revision_of_parts (revision_epoch r) (revision_number r) ≡ Some r
  pub confirmed_from_parts : (r : RevisionValue) → IsNoneOrRevision r
      → confirmed_of_parts (revision_epoch r) (revision_number r) ≡ Some r
  pub lawful_from_parts : (epoch number : ℕ) (r : RevisionValue)
      → revision_of_parts epoch number ≡ Some r → IsRevision r
  pub known_from_parts : (epoch number : ℕ) (r : RevisionValue)
      → confirmed_of_parts epoch number ≡ Some r → IsNoneOrRevision r
  pub parts_fit : (r : RevisionValue) → IsRevision r → (revision_epoch r < 2 ^ 64) × (revision_number r < 2 ^ 64)

-- ---- order

-- The place of a revision in the order, and how many revisions there are at most
unfoldable pub rank : RevisionValue → ℕ
rank r = r.epoch * LAST_REVISION + r.number

abbrev pub most_revisions : ℕ
most_revisions = (LAST_EPOCH + 1) * LAST_REVISION

-- The laws of the order of revisions that all other definitions rely on
pub record IsOrder : Type 0 where
  pub same : (a b : RevisionValue) → (same_revision a b ≡ true) ↔ (a ≡ b)
  pub irreflexive : (a : RevisionValue) → a ≺ a → ⊥
  pub transitive : (a b c : RevisionValue) → a ≺ b → b ≺ c → a ≺ c
  pub total : (a b : RevisionValue) → a ≼ b → b ≼ a → a ≡ b
  pub none_first : (a : RevisionValue) → no_revision ≼ a
  pub none_before : (a : RevisionValue) → IsRevision a → no_revision ≺ a
  pub rank_rises : (a b : RevisionValue) → IsNoneOrRevision a → IsRevision b → a ≺ b → nat_lt (rank a) (rank b) ≡ true
  pub rank_bounded : (a : RevisionValue) → IsRevision a → nat_le (rank a) most_revisions ≡ true
  pub reflexive_up_to : (a : RevisionValue) → a ≼ a
  pub transitive_up_to : (a b c : RevisionValue) → a ≼ b → b ≼ c → a ≼ c
  pub up_to_before : (a b : RevisionValue) → a ≺ b → a ≼ b
  pub later_above_first : (a b : RevisionValue) → a ≼ later a b
  pub later_above_second : (a b : RevisionValue) → b ≼ later a b
  pub later_is_one : (a b : RevisionValue) → (later a b ≡ a) ⊎ (later a b ≡ b)

-- what a revision has to do with the next one
pub record Follows (before_ after : RevisionValue) : Type 0 where
  pub rises : before_ ≺ after
  pub lawful : IsRevision after
  pub nothing_between : (other : RevisionValue) → IsRevision other → before_ ≺ other → after ≼ other
  pub ranked : before_.number < LAST_REVISION → rank after ≡ rank before_ + 1

-- the next revision follows, and there is one unless this is the last of all
pub record NextsFollow : Type 0 where
  pub next : (r after : RevisionValue) → next_revision r ≡ Some after → Follows r after
  pub last : (r other : RevisionValue) → IsNoneOrRevision r → next_revision r ≡ None → IsRevision other → other ≼ r
