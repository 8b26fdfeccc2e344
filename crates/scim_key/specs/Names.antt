-- Names of resources, and the keys under which they are unique.
use Rattle.std.specs.Prelude.{◌≡◌, ℕ, Bool, List, Option, Some, None, ◌==◌, ◌&&◌, ◌||◌, not, length, nat_lt, nat_le, if◌then◌else◌, slice_index, ◌-◌}
use Rattle.std.specs.List.{list_all}
use Rattle.std.specs.Str.{str_to_ascii_lowercase}
use Rattle.scim_key.specs.declared.names.TheConstants.{NAME_LIMIT}
use Rattle.scim_key.specs.declared.names.NameFault.{NameFault}
use Rattle.scim_key.specs.declared.names.NameFault.TheVariants.{Empty, TooLong, Character, SpaceAtEnd}

-- the key of a name: its text with ASCII letters in lower case
abbrev pub key_of : List ℕ → List ℕ
key_of name = str_to_ascii_lowercase name

-- a byte from 0x21 to 0x7E that is neither a double quote nor a backslash
abbrev pub is_user_name_byte : ℕ → Bool
is_user_name_byte b = nat_le 33 b && nat_le b 126 && not (b == 34) && not (b == 92)

-- the same bytes, and the space
abbrev pub is_group_name_byte : ℕ → Bool
is_group_name_byte b = nat_le 32 b && nat_le b 126 && not (b == 34) && not (b == 92)

-- whether a text that isn't empty begins or ends with a space
abbrev pub has_space_at_end : List ℕ → Bool
has_space_at_end bs = (slice_index bs 0 == 32) || (slice_index bs (length bs - 1) == 32)

-- The first fault of a text as a `userName`, if it has one
unfoldable pub user_name_fault : List ℕ → Option NameFault
user_name_fault bs =
    if length bs == 0 then Some Empty
    else if nat_lt NAME_LIMIT (length bs) then Some TooLong
    else if not (list_all is_user_name_byte bs) then Some Character
    else None

-- The first fault of a text as the `displayName` of a group, if it has one
unfoldable pub group_name_fault : List ℕ → Option NameFault
group_name_fault bs =
    if length bs == 0 then Some Empty
    else if nat_lt NAME_LIMIT (length bs) then Some TooLong
    else if not (list_all is_group_name_byte bs) then Some Character
    else if has_space_at_end bs then Some SpaceAtEnd
    else None

-- a valid `userName`, and a valid `displayName` of a group
abbrev pub IsUserName : List ℕ → Type 0
IsUserName bs = user_name_fault bs ≡ None

abbrev pub IsGroupName : List ℕ → Type 0
IsGroupName bs = group_name_fault bs ≡ None

-- a text without ASCII capitals
abbrev pub IsKey : List ℕ → Type 0
IsKey bs = key_of bs ≡ bs
