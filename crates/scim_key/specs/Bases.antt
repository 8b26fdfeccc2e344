-- The base of a service: the text in front of every path.
use Rattle.std.specs.Prelude.{◌≡◌, ◌↔◌, ◌≤◌, ℕ, List, ◌++◌, Bool, Option, Some, None, ◌==◌, ◌&&◌, ◌||◌, ◌-◌, length, take, drop, nat_lt, nat_le, if◌then◌else◌, codes, nat_eq, IsTrue}
use Rattle.std.specs.List.{list_all, starts_with}
use Rattle.scim_key.specs.declared.bases.TheConstants.{AUTHORITY_LIMIT, BASE_LIMIT}
use Rattle.scim_key.specs.declared.names.NameFault.{NameFault}
use Rattle.scim_key.specs.declared.names.NameFault.TheVariants.{Empty, TooLong, Character}

-- an ASCII letter or digit, or one of `.-:[]`
abbrev pub is_authority_byte : ℕ → Bool
is_authority_byte b =
    (nat_le 48 b && nat_le b 57) || (nat_le 65 b && nat_le b 90) || (nat_le 97 b && nat_le b 122)
    || (b == 46) || (b == 45) || (b == 58) || (b == 91) || (b == 93)

-- the base of a service at this host and port
abbrev pub base_text : List ℕ → List ℕ
base_text authority = codes "http://" ++ authority ++ codes "/v2"

-- the bytes between `http://` and `/v2`
abbrev pub authority_of : List ℕ → List ℕ
authority_of bs = drop 7 (take (length bs - 3) bs)

-- whether a text is a base: `http://`, one authority byte or more, and `/v2`
unfoldable pub is_base : List ℕ → Bool
is_base bs = nat_lt 10 (length bs) && starts_with nat_eq bs (codes "http://")
    && starts_with nat_eq (drop (length bs - 3) bs) (codes "/v2") && list_all is_authority_byte (authority_of bs)

-- The first fault of a text as a base, if it has one
unfoldable pub base_fault : List ℕ → Option NameFault
base_fault bs =
    if length bs == 0 then Some Empty
    else if nat_lt BASE_LIMIT (length bs) then Some TooLong
    else if is_base bs then None
    else Some Character

abbrev pub IsBase : List ℕ → Type 0
IsBase bs = base_fault bs ≡ None

-- 1 to 100 authority bytes
pub record IsAuthority (authority : List ℕ) : Type 0 where
  pub some : 1 ≤ length authority
  pub short : length authority ≤ AUTHORITY_LIMIT
  pub bytes : IsTrue (list_all is_authority_byte authority)

-- The valid bases are the base texts of the valid authorities, and each authority is read back from its base
pub record BasesAreSpelled : Type 0 where
  pub lawful : (bs : List ℕ) → IsBase bs ↔ ((authority : List ℕ) × IsAuthority authority × (bs ≡ base_text authority))
  pub read_back : (authority : List ℕ) → authority_of (base_text authority) ≡ authority
