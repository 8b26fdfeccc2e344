-- Rows are the same exactly if all their fields are, and the texts of a row are short.
use Rattle.std.proofs.Common.{◌≡◌, ◌≤◌, ℕ, zero, suc, List, [], ◌∷◌, true, get_or, length, ap, arith}
use Rattle.std.proofs.lemmas.Bool.{and_parts, leb-true}
use Rattle.std.specs.List.{list_all}
use Rattle.source_csv.specs.Records.{same_row}
use Rattle.source_csv.specs.Rows.{IsUserRow, UserFields, text_of}
use Rattle.source_csv.specs.Texts.{is_short, place_of}
use Rattle.source_csv.specs.declared.rows.Row.{Row}
use Rattle.source_csv.specs.declared.rows.Row.TheVariants.{User, Group}
use Rattle.source_csv.specs.declared.texts.TextField.{TextField}
use Rattle.source_csv.specs.declared.texts.TheConstants.{VALUE_LIMIT}
use Rattle.source_csv.proofs.RowLemmas.{group_from_test, group_itself, user_from_test, user_itself}

pub row_from_test : (a b : Row) → same_row a b ≡ true → a ≡ b
row_from_test (User a) (User b) e = ap User (user_from_test a b e)
row_from_test (User a) (Group b) e = cc
row_from_test (Group a) (User b) e = cc
row_from_test (Group a) (Group b) e = ap Group (group_from_test a b e)

pub row_itself : (a : Row) → same_row a a ≡ true
row_itself (User a) = user_itself a
row_itself (Group a) = group_itself a

short_at : (texts : List (List ℕ)) (i : ℕ) → list_all is_short texts ≡ true → length (get_or texts i []) ≤ VALUE_LIMIT
short_at [] i all = omega arith
short_at (t ∷ texts) zero all = leb-true (length t) VALUE_LIMIT (and_parts (is_short t) (list_all is_short texts) all).0
short_at (t ∷ texts) (suc i) all = short_at texts i (and_parts (is_short t) (list_all is_short texts) all).1

pub short_text : (row : UserFields) → IsUserRow row → (text : TextField) → length (text_of row text) ≤ VALUE_LIMIT
short_text row lawful text = short_at row.texts (place_of text) lawful.short
