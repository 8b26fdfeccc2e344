-- What a fault reports about the rows.
use Rattle.std.proofs.Common.{◌≡◌, List, [], ◌∷◌, ℕ, Result, Ok, Err, IfErr, IsErrAnd, sym, subst}
use Rattle.sqlite_trees.specs.Tree.{rowid}
use Rattle.journal_core.specs.declared.entries.Entry.{Entry}
use Rattle.sqlite_value.specs.declared.value.Value.TheVariants.{Text}
use Rattle.sqlite_value.specs.Order.{Row, column}
use Rattle.sqlite.specs.State.{State}
use Rattle.scim_key.specs.declared.records.Kind.{Kind}
use Rattle.journal_store.specs.Connections.{AreNumbered, IsUnshownBy, Lists, ListsNoneBy}
use Rattle.sql_tables.specs.Layouts.{IsLaid as IsLaidBy}
use Rattle.sqlite_schema.specs.declared.schema.Schema.{Schema}
use Rattle.source_csv.specs.Records.{row_name}
use Rattle.sql_tables.specs.Statements.{Answers, IsGiven}
use Rattle.journal_store.specs.Faults.{HasCause}
use Rattle.journal_store.specs.Opening.{IsUnnumbered}
use Rattle.journal_store.proofs.Finding.{rows_listed}
use Rattle.journal_store.proofs.Repeating.{are_listed, are_numbers}
use Rattle.journal_store.specs.declared.statements.TableFault.{TableFault}
use Rattle.journal_store.specs.declared.statements.TableFault.TheVariants.{Store, Damaged, Memory}

-- ---- faults

pub cause_by : (D E : Type 0) → (D → E) → (fault : TableFault) → HasCause D fault → HasCause E fault
cause_by D E h Store it = tt
cause_by D E h Damaged it = h it
cause_by D E h Memory it = tt

-- a fault that is handed on
pub cause_of : {T : Type 0} (D E : Type 0) → (D → E) → (r : Result T TableFault) (fault : TableFault) → IsErrAnd r (λ given. given ≡ fault) → HasCause D fault → IfErr r (HasCause E)
cause_of D E h (Ok x) fault is it = tt
cause_of D E h (Err given) fault is it = subst (HasCause E) (sym is) (cause_by D E h fault it)

-- ---- tables

pub unlisted : {Form : Type 0} {layout : Form → Schema} (kind : Kind) (Valid : Row → Entry → Type 0) (keyed : (r : Row) (e : Entry) → Valid r e → (column r 0 ≡ Text (row_name e.row).key) × ((row_name e.row).kind ≡ kind))
    (tree : ℕ) (columns : Row → Row) (s : State) (sql : List ℕ) (rows given : List Row) → Lists layout tree columns sql → IsGiven layout sql [] → given ≡ rows → IsLaidBy layout s → Answers sql [] s rows → IsUnshownBy Valid given → ListsNoneBy Valid columns (s.now.trees tree)
unlisted kind Valid keyed tree columns s sql rows given means whole same laid answers unshown list lists =
    let all = rows_listed tree columns s sql rows means whole laid answers in
    are_listed kind Valid keyed columns (s.now.trees tree) rows all.0 list lists all.1 (subst (IsUnshownBy Valid) same unshown)

pub unnumbered : {Form : Type 0} {layout : Form → Schema} (tree : ℕ) (s : State) (sql : List ℕ) (rows given : List Row) → Lists layout tree (λ (r : Row). rowid r ∷ []) sql → IsGiven layout sql [] → given ≡ rows → IsLaidBy layout s → Answers sql [] s rows
    → IsUnnumbered given → AreNumbered (s.now.trees tree) → ⊥
unnumbered tree s sql rows given means whole same laid answers fails are =
    let all = rows_listed tree (λ (r : Row). rowid r ∷ []) s sql rows means whole laid answers in
    are_numbers (s.now.trees tree) rows all.0 are all.1 (subst IsUnnumbered same fails)
