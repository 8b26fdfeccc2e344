-- What a Group contains, as contracts see it (RFC 7643 section 4.2).
use Rattle.std.specs.Prelude.{◌≡◌, ℕ, Bool, true, false, not, ◌&&◌, ◌||◌, List, [], ◌∷◌, length, Option, nat_le}
use Rattle.std.specs.Str.{bytes_eq}
use Rattle.scim_key.specs.Names.{IsGroupName}
use Rattle.scim_key.specs.Revisions.{RevisionValue}
use Rattle.scim_resource.specs.declared.groups.TheConstants.{MEMBER_LIMIT}
use Rattle.scim_resource.specs.Texts.{IsText, IsTextIf}
use Rattle.scim_resource.specs.Users.{IsSourceRevision}

-- the value is among these, byte for byte
unfoldable pub is_among : List ℕ → List (List ℕ) → Bool
is_among v [] = false
is_among v (w ∷ ws) = bytes_eq w v || is_among v ws

abbrev pub AreTexts : List (List ℕ) → Type 0
AreTexts [] = Unit {0}
AreTexts (v ∷ vs) = IsText v × AreTexts vs

unfoldable pub are_distinct : List (List ℕ) → Bool
are_distinct [] = true
are_distinct (v ∷ vs) = not (is_among v vs) && are_distinct vs

-- at most 400
abbrev pub are_few_members : List (List ℕ) → Bool
are_few_members vs = nat_le (length vs) MEMBER_LIMIT

-- the values of a group's members: at most 400, none of them twice
pub record IsMemberList (vs : List (List ℕ)) : Type 0 where
  pub each : AreTexts vs
  pub distinct : are_distinct vs ≡ true
  pub few : are_few_members vs ≡ true

pub record GroupRecord : Type 0 where
  pub display_name : List ℕ
  pub external_id : Option (List ℕ)
  pub members : List (List ℕ)
  pub revision : Option RevisionValue

-- A valid group, as reading gives it
pub record IsGroup (g : GroupRecord) : Type 0 where
  pub display_name : IsGroupName g.display_name
  pub external_id : IsTextIf g.external_id
  pub members : IsMemberList g.members
  pub revision : IsSourceRevision g.revision
