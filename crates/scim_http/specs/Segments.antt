-- The id that a segment of a path spells (RFC 3986 section 2.1).
use Rattle.std.specs.Prelude.{◌≡◌, ◌≢◌, ℕ, ◌+◌, ◌*◌, List, [], ◌∷◌, Option, Some, None, ◌==◌, if◌then◌else◌}
use Rattle.std.specs.Char.{is_digit, digit_value}
use Rattle.std.specs.List.{list_any}
use Rattle.std.specs.Str.{is_utf8}
use Rattle.scim_key.specs.declared.names.NameFault.{NameFault}
use Rattle.scim_key.specs.Identifiers.{id_fault}

-- the value of a hexadecimal digit, in any case
unfoldable pub hex_value : ℕ → Option ℕ
hex_value byte = if is_digit byte 16 then Some (digit_value byte) else None

-- The grammar: every byte except `%` stands for itself; `%` and two hexadecimal digits stand for the byte with that
-- number
pub data SpellsText : (segment text : List ℕ) → Type 0 where
  nothing : SpellsText [] []
  plain : (byte : ℕ) {segment text : List ℕ} → byte ≢ 37 → SpellsText segment text
      → SpellsText (byte ∷ segment) (byte ∷ text)
  escape : (high low a b : ℕ) {segment text : List ℕ} → hex_value high ≡ Some a → hex_value low ≡ Some b
      → SpellsText segment text
      → SpellsText (37 ∷ high ∷ low ∷ segment) ((16 * a + b) ∷ text)

-- The same as a function.

abbrev pub byte_of : Option ℕ → Option ℕ → Option ℕ
byte_of None low = None
byte_of (Some high) None = None
byte_of (Some high) (Some low) = Some (16 * high + low)

-- the byte that `%` and these two stand for, if they are hexadecimal digits
abbrev pub escaped_byte : ℕ → ℕ → Option ℕ
escaped_byte high low = byte_of (hex_value high) (hex_value low)

-- a byte in front of the rest, if both are there
abbrev pub put_before : Option ℕ → Option (List ℕ) → Option (List ℕ)
put_before None rest = None
put_before (Some byte) None = None
put_before (Some byte) (Some rest) = Some (byte ∷ rest)

-- the byte itself, if it isn't `%`
abbrev pub plain_byte : ℕ → Option ℕ
plain_byte byte = if byte == 37 then None else Some byte

-- The text with each `%` and two hexadecimal digits replaced by their byte; none if a `%` is followed by anything else
unfoldable pub unescaped : List ℕ → Option (List ℕ)
unescaped [] = Some []
unescaped (byte ∷ []) = put_before (plain_byte byte) (Some [])
unescaped (byte ∷ next ∷ []) = put_before (plain_byte byte) (unescaped (next ∷ []))
unescaped (byte ∷ high ∷ low ∷ rest) =
    if byte == 37 then put_before (escaped_byte high low) (unescaped rest)
    else put_before (Some byte) (unescaped (high ∷ low ∷ rest))

abbrev pub without_fault : Option NameFault → List ℕ → Option (List ℕ)
without_fault None text = Some text
without_fault (Some fault) text = None

-- the text, if there is one, it is UTF-8 and it is a valid id
abbrev pub lawful_id : Option (List ℕ) → Option (List ℕ)
lawful_id None = None
lawful_id (Some text) = if is_utf8 text then without_fault (id_fault text) text else None

-- The id that a segment without `/` spells
abbrev pub id_of : List ℕ → Option (List ℕ)
id_of segment = if list_any (λ byte. byte == 47) segment then None else lawful_id (unescaped segment)
