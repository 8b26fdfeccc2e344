-- The path of a service (RFC 3986 section 3.3), and the address that it is part of.
use Rattle.std.specs.Prelude.{◌≡◌, ℕ, Bool, true, false, List, [], ◌∷◌, ◌++◌, Option, Some, None, ◌==◌, ◌&&◌, ◌||◌, codes, drop, length, IfSome, nat_le, nat_lt, not, if◌then◌else◌}
use Rattle.std.specs.Char.{is_digit}
use Rattle.std.specs.List.{before_first}
use Rattle.scim_key.specs.Bases.{IsBase, authority_of}
use Rattle.scim_key.specs.declared.names.NameFault.{NameFault}
use Rattle.scim_key.specs.declared.names.NameFault.TheVariants.{Empty, TooLong, Character}
use Rattle.scim_resource.specs.Locations.{is_unreserved}
use Rattle.scim_client.specs.declared.service_paths.TheConstants.{SERVICE_PATH_LIMIT}

-- ---- which texts are paths of services

-- a byte of a segment that stands for itself: unreserved, a delimiter of parts, `:` or `@`
abbrev pub is_segment_byte : ℕ → Bool
is_segment_byte b =
    is_unreserved b || (b == 33) || (b == 36) || (nat_le 38 b && nat_le b 44) || (b == 58) || (b == 59) || (b == 61)
    || (b == 64)

-- a segment of one byte or more begins here
abbrev pub begins_segment : List ℕ → Bool
begins_segment [] = false
begins_segment (b ∷ bs) = not (b == 47)

-- two hexadecimal digits are here
abbrev pub begins_with_digits : List ℕ → Bool
begins_with_digits [] = false
begins_with_digits (high ∷ []) = false
begins_with_digits (high ∷ low ∷ bs) = is_digit high 16 && is_digit low 16

-- a byte in front of these: a segment follows each `/`, and two digits each `%`
abbrev pub is_placed : ℕ → List ℕ → Bool
is_placed b bs = if b == 47 then begins_segment bs else if b == 37 then begins_with_digits bs else is_segment_byte b

unfoldable pub are_placed : List ℕ → Bool
are_placed [] = true
are_placed (b ∷ bs) = is_placed b bs && are_placed bs

-- one segment or more, each behind a `/`
abbrev pub is_service_path : List ℕ → Bool
is_service_path [] = false
is_service_path (b ∷ bs) = b == 47 && are_placed (b ∷ bs)

-- The first fault of a text as the path of a service, if it has one
unfoldable pub service_path_fault : List ℕ → Option NameFault
service_path_fault path =
    if length path == 0 then Some Empty
    else if nat_lt SERVICE_PATH_LIMIT (length path) then Some TooLong
    else if is_service_path path then None
    else Some Character

abbrev pub IsServicePath : List ℕ → Type 0
IsServicePath path = service_path_fault path ≡ None

-- ---- addresses

-- a base, and a path if the service has one of its own
abbrev pub IsAddress : (base : List ℕ) → (path : Option (List ℕ)) → Type 0
IsAddress base path = IsBase base × IfSome path IsServicePath

-- the address of a service: its base, or, if it has a path of its own, the base with that in place of `/v2`
abbrev pub address_text : (base : List ℕ) → (path : Option (List ℕ)) → List ℕ
address_text base None = base
address_text base (Some path) = codes "http://" ++ authority_of base ++ path

-- the path of a service: its own, or else `/v2`
abbrev pub path_text : Option (List ℕ) → List ℕ
path_text None = codes "/v2"
path_text (Some path) = path

-- the host and port of an address: the bytes between `http://` and the next `/`
abbrev pub host_of : List ℕ → List ℕ
host_of address = before_first (λ byte. byte == 47) (drop 7 address)

-- its path: the bytes from that `/` on
abbrev pub service_path_of : List ℕ → List ℕ
service_path_of address = drop (length (host_of address)) (drop 7 address)
