-- Objects with optional members, and how they are written.
use Rattle.std.specs.Prelude.{◌≡◌, ℕ, List, [], ◌∷◌, ◌++◌, Option, None, Some}
use Rattle.json.specs.Token.{Token, key}
use Rattle.json.specs.Tree.{json_tokens}
use Rattle.json.specs.Written.{Written}
use Rattle.serde_json.specs.Data.{Data, Members, no_members, member}
use Rattle.serde_json.specs.Written.{outline}

-- a name, and its value if it has one
abbrev pub Part : Type 0
Part = List ℕ × Option Data

abbrev pub member_if : List ℕ → Option Data → Members → Members
member_if name None ms = ms
member_if name (Some d) ms = member name d ms

-- the members that have a value, in the order of the parts
abbrev pub members_from : List Part → Members
members_from [] = no_members
members_from (p ∷ ps) = member_if p.0 p.1 (members_from ps)

-- ---- the tokens that a writer writes for them

abbrev pub data_tokens : Data → List Token
data_tokens d = json_tokens (outline d)

abbrev pub part_tokens : List ℕ → Option Data → List Token
part_tokens name None = []
part_tokens name (Some d) = key name ∷ data_tokens d

abbrev pub parts_tokens : List Part → List Token
parts_tokens [] = []
parts_tokens (p ∷ ps) = part_tokens p.0 p.1 ++ parts_tokens ps

-- the writer appended these tokens
abbrev pub Adds : List Token → Written → Written → Type 0
Adds ts old new = (new.before ≡ old.before) × (new.tokens ≡ old.tokens ++ ts)

-- a value is written
abbrev pub Writes : Data → Written → Written → Type 0
Writes d = Adds (data_tokens d)

-- a member is written, if it has a value
abbrev pub WritesPart : List ℕ → Option Data → Written → Written → Type 0
WritesPart name value = Adds (part_tokens name value)

-- members are written, in the order of the parts
abbrev pub WritesParts : List Part → Written → Written → Type 0
WritesParts ps = Adds (parts_tokens ps)
