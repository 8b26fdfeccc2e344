-- The URI of a resource.
use Rattle.std.specs.Prelude.{ℕ, ◌+◌, ◌/◌, ◌%◌, ◌==◌, ◌&&◌, ◌||◌, Bool, List, [], ◌∷◌, ◌++◌, nat_le, nat_lt, if◌then◌else◌, codes}
use Rattle.std.specs.List.{flat_map}
use Rattle.scim_key.specs.declared.records.Kind.{Kind}
use Rattle.scim_key.specs.declared.records.Kind.TheVariants as kinds

-- an ASCII letter or digit, or one of `-._~` (RFC 3986 section 2.3)
abbrev pub is_unreserved : ℕ → Bool
is_unreserved b =
    (nat_le 48 b && nat_le b 57) || (nat_le 65 b && nat_le b 90) || (nat_le 97 b && nat_le b 122)
    || (b == 45) || (b == 46) || (b == 95) || (b == 126)

-- an upper-case hexadecimal digit
abbrev pub upper_hex : ℕ → ℕ
upper_hex d = if nat_lt d 10 then 48 + d else 55 + d

unfoldable pub escaped_byte : ℕ → List ℕ
escaped_byte b = if is_unreserved b then b ∷ [] else 37 ∷ upper_hex (b / 16) ∷ upper_hex (b % 16) ∷ []

-- the text with every byte that isn't unreserved as `%` and two hexadecimal digits
abbrev pub escaped : List ℕ → List ℕ
escaped text = flat_map escaped_byte text

-- the word for a type of resource
abbrev pub type_name : Kind → List ℕ
type_name kinds.User = codes "User"
type_name kinds.Group = codes "Group"

-- the path of a collection, with a slash at its end
abbrev pub collection_path : Kind → List ℕ
collection_path kinds.User = codes "/Users/"
collection_path kinds.Group = codes "/Groups/"

unfoldable pub location_text : List ℕ → Kind → List ℕ → List ℕ
location_text base kind id = (base ++ collection_path kind) ++ escaped id
