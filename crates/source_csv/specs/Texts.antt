-- The texts of a user, each at the place of its `TextField`.
use Rattle.std.specs.Prelude.{ℕ, Bool, List, codes, length, nat_le}
use denote.Enum.Declared.{tag_of}
use Rattle.source_csv.specs.contracts.texts.TextField.{the_type}
use Rattle.source_csv.specs.declared.texts.TheConstants.{VALUE_LIMIT}
use Rattle.source_csv.specs.declared.texts.TextField.{TextField}
use Rattle.source_csv.specs.declared.texts.TextField.TheVariants as text

-- the place of a text among those of a user: that of its variant in `TextField`
abbrev pub place_of : TextField → ℕ
place_of which = tag_of the_type which

-- the column of a text of a user
abbrev pub column_of : TextField → List ℕ
column_of text.Number = codes "number"
column_of text.Given = codes "given"
column_of text.Family = codes "family"
column_of text.Mail = codes "mail"
column_of text.Department = codes "department"

-- whether a text has at most `VALUE_LIMIT` bytes
abbrev pub is_short : List ℕ → Bool
is_short bytes = nat_le (length bytes) VALUE_LIMIT
