-- Texts of others, as they are printed.
use Rattle.std.specs.Prelude.{ℕ, Bool, true, not, ◌&&◌, ◌==◌, ◌/◌, ◌%◌, nat_le, List, ◌++◌, codes, if◌then◌else◌}
use Rattle.std.specs.Char.{encode_utf8}
use Rattle.std.specs.Fmt.{digit_glyph}
use Rattle.std.specs.List.{flat_map}

-- printable ASCII, but for the backslash
abbrev pub is_plain : (byte : ℕ) → Bool
is_plain byte = nat_le 0x20 byte && nat_le byte 0x7E && not (byte == 0x5C)

-- how a byte is printed: as it is, or as `\xNN`
abbrev pub printable_byte : (byte : ℕ) → List ℕ
printable_byte byte = if is_plain byte then encode_utf8 byte
    else codes "\\x" ++ (encode_utf8 (digit_glyph true (byte / 16)) ++ encode_utf8 (digit_glyph true (byte % 16)))

-- how a text is printed
abbrev pub printable_text : (text : List ℕ) → List ℕ
printable_text text = flat_map printable_byte text
