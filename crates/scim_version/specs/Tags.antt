-- Entity tags (RFC 7232 section 2.3), as their bytes.
use Rattle.std.specs.Prelude.{◌≡◌, ◌⊎◌, ℕ, Bool, List, [], ◌∷◌, ◌++◌, ◌==◌, ◌&&◌, ◌||◌, ◌-◌, not, length, take, drop, nat_le, nat_eq, slice_index, IsTrue, if◌then◌else◌, codes, Option, Some, None}
use Rattle.std.specs.List.{list_all, starts_with}
use Rattle.std.specs.Fmt.{decimal}
use Rattle.std.specs.Str.{bytes_eq}
use Rattle.scim_version.specs.declared.tags.TagFault.{TagFault}
use Rattle.scim_version.specs.declared.tags.TagFault.TheVariants.{Malformed}

-- a byte that may be between the quotes: 0x21, 0x23 to 0x7E or 0x80 to 0xFF
abbrev pub is_tag_byte : ℕ → Bool
is_tag_byte b = (b == 0x21) || (nat_le 0x23 b && nat_le b 0x7E) || (nat_le 0x80 b && nat_le b 0xFF)

-- a text between double quotes
abbrev pub quoted : List ℕ → List ℕ
quoted opaque = 0x22 ∷ opaque ++ 0x22 ∷ []

-- The grammar: an optional `W/`, a double quote, any number of tag bytes, and a double quote.
abbrev pub IsEntityTag : List ℕ → Type 0
IsEntityTag tag = (opaque : List ℕ) × IsTrue (list_all is_tag_byte opaque)
    × ((tag ≡ quoted opaque) ⊎ (tag ≡ codes "W/" ++ quoted opaque))

-- the tag of a version
abbrev pub version_tag : ℕ → List ℕ
version_tag version = quoted (decimal version)

-- a weak tag begins with `W/`
unfoldable pub is_weak : List ℕ → Bool
is_weak tag = starts_with nat_eq tag (codes "W/")

-- the tag without its `W/`, if it has one
unfoldable pub opaque_tag : List ℕ → List ℕ
opaque_tag tag = if is_weak tag then drop 2 tag else tag

-- whether a text is tag bytes between two double quotes
unfoldable pub is_quoted : List ℕ → Bool
is_quoted text =
    nat_le 2 (length text) && (slice_index text 0 == 0x22) && (slice_index text (length text - 1) == 0x22)
    && list_all is_tag_byte (take (length text - 2) (drop 1 text))

-- whether a text is an entity tag
unfoldable pub is_entity_tag : List ℕ → Bool
is_entity_tag tag = is_quoted (opaque_tag tag)

-- the fault of a text as an entity tag, if it has one
unfoldable pub tag_fault : List ℕ → Option TagFault
tag_fault tag = if is_entity_tag tag then None else Some Malformed

-- Strong comparison: both tags are strong and the same byte for byte, so a weak tag equals nothing.
unfoldable pub strong_eq : List ℕ → List ℕ → Bool
strong_eq a b = not (is_weak a) && not (is_weak b) && bytes_eq a b

-- Weak comparison: the tags are the same byte for byte if `W/` is ignored.
unfoldable pub weak_eq : List ℕ → List ℕ → Bool
weak_eq a b = bytes_eq (opaque_tag a) (opaque_tag b)
