-- A row of an older format is copied as its query shows it.
use Rattle.std.proofs.Common.{◌≡◌, List, ◌∷◌, ◌++◌, take, refl, ap}
use Rattle.sqlite_value.specs.declared.keys.Order.{Order}
use Rattle.sqlite_value.specs.declared.value.Value.{Value}
use Rattle.sqlite_value.specs.Order.{Row}
use Rattle.scim_key.specs.declared.records.Kind.TheVariants.{User, Group}
use Rattle.journal_store.specs.Older.Carrying.{ShowsEach, kept_row, moved_into, moved_kind, sent_row}
use Rattle.journal_store.specs.Tables.{table_of}
use Rattle.journal_store.specs.Older.Rows.{first_row, no_epochs, second_row}
use Rattle.journal_store.specs.declared.older.moving.Moved.{Moved}
use Rattle.journal_store.specs.declared.older.moving.Moved.TheVariants.{FirstUsers, SecondGroups, SecondUsers}
use Rattle.journal_store.proofs.OlderFormats.CarryTexts.{copy_terms}
use Rattle.journal_store.proofs.OlderFormats.Copying.{KeepsEach}
use Rattle.journal_store.proofs.Casting.{columns_kept}

pub unnumbered : (table : Moved) (v w : Value) (rest : Row) → kept_row table (v ∷ rest) ≡ kept_row table (w ∷ rest)
unnumbered FirstUsers v w rest = refl
unnumbered SecondUsers v w rest = refl
unnumbered SecondGroups v w rest = refl

-- what is copied of a table
pub keeps_each : (table : Moved) (order : Order) (params : Row) (rows : List Row) → ShowsEach (moved_kind table) (sent_row table) rows → KeepsEach (kept_row table) (unnumbered table) (table_of (moved_into table) order) (copy_terms table) (sent_row table) params rows
keeps_each FirstUsers order params rows show r there = let e = show r there in ap (λ l. take 11 l ++ no_epochs) (columns_kept User (first_row User r) e.0 e.1.entry_is)
keeps_each SecondUsers order params rows show r there = let e = show r there in columns_kept User (second_row User r) e.0 e.1.entry_is
keeps_each SecondGroups order params rows show r there = let e = show r there in columns_kept Group (second_row Group r) e.0 e.1.entry_is
