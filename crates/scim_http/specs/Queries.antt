-- The parameters of a query.
use Rattle.std.specs.Prelude.{ℕ, List, Option, option_map, map, find}
use Rattle.std.specs.Str.{bytes_eq}
use Rattle.std.specs.Str.Lossy.{utf8_lossy}
use Rattle.form_urlencoded.specs.Form.{decode, raw_pairs}

-- the text that a name or a value stands for: `+` and escapes are decoded, and bytes that aren't UTF-8 become U+FFFD
abbrev pub text_of : List ℕ → List ℕ
text_of written = utf8_lossy (decode written)

abbrev pub pair_of : List ℕ × List ℕ → List ℕ × List ℕ
pair_of written = (text_of written.0, text_of written.1)

-- the value of the first of these pairs with this name; names are compared byte for byte
abbrev pub value_in : List ℕ → List (List ℕ × List ℕ) → Option (List ℕ)
value_in name pairs = option_map (λ pair. pair.1) (find (λ pair. bytes_eq pair.0 name) pairs)

-- The value of the first parameter with this name, of a query that is read like an HTML form
abbrev pub parameter : List ℕ → List ℕ → Option (List ℕ)
parameter name query = value_in name (map pair_of (raw_pairs query))
