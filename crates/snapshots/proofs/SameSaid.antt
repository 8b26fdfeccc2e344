-- A row says the same as itself, at any revision.
use Rattle.std.proofs.Common.{◌≡◌, ℕ, Bool, true, false, List, refl}
use Rattle.std.proofs.lemmas.Slice.Eq.{bytes_eq-Decides, slice_eq-Decides}
use Rattle.std.specs.Bool.{beq}
use Rattle.std.specs.Cmp.Lexicographic.{pointwise}
use Rattle.std.specs.Str.{bytes_eq}
use Rattle.scim_key.specs.Revisions.{RevisionValue}
use Rattle.source_csv.specs.Records.{at_revision, says_the_same}
use Rattle.source_csv.specs.declared.rows.Row.{Row}
use Rattle.source_csv.specs.declared.rows.Row.TheVariants.{User, Group}

flag_itself : (a : Bool) → beq a a ≡ true
flag_itself true = refl
flag_itself false = refl

bytes_itself : (bytes : List ℕ) → bytes_eq bytes bytes ≡ true
bytes_itself bytes = (bytes_eq-Decides bytes bytes).1 refl

texts_itself : (texts : List (List ℕ)) → pointwise bytes_eq texts texts ≡ true
texts_itself texts = (slice_eq-Decides bytes_eq-Decides texts texts _ refl).1 refl

pub says_itself : (revision : RevisionValue) (row : Row) → says_the_same row (at_revision revision row) ≡ true
says_itself revision (User row) = rw (bytes_itself row.login, flag_itself row.active, texts_itself row.texts) refl
says_itself revision (Group row) = rw (bytes_itself row.name, texts_itself row.members) refl

pub says_own : (row : Row) → says_the_same row row ≡ true
says_own (User row) = rw (bytes_itself row.login, flag_itself row.active, texts_itself row.texts) refl
says_own (Group row) = rw (bytes_itself row.name, texts_itself row.members) refl
