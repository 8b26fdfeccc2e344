-- What the checks of an opening show, and what they leave.
use Rattle.std.proofs.Common.{ℕ, ◌≡◌, ◌≢◌, List, [], ◌∷◌, map, Result, Ok, Err, IsTrue, OnOk, IfErr, IsErrAnd, refl, sym, ◌∙◌, subst, inl, IsPermutation}
use Rattle.sqlite_value.specs.Order.{Row}
use Rattle.sqlite_trees.specs.Tree.{rowid}
use Rattle.sqlite.specs.Effect.{Database}
use Rattle.sqlite.specs.State.{State, HasCleanDisk}
use Rattle.scim_key.specs.declared.records.Kind.{Kind}
use Rattle.scim_key.specs.declared.records.Kind.TheVariants.{User, Group}
use Rattle.journal_core.specs.Entries.{EntryMap}
use Rattle.journal_core.specs.declared.entries.Entry.{Entry}
use Rattle.sql_tables.specs.Layouts.{no_schema, IsFormat, IsLaid as IsLaidBy}
use Rattle.sqlite_schema.specs.declared.schema.Schema.{Schema}
use Rattle.sql_tables.specs.Statements.{Answers, IsGiven, Looks}
use Rattle.journal_store.specs.Connections.{AreNumbered, HasNumbersBy, Lists, ListsAllBy, Shows}
use Rattle.journal_store.specs.Formats.{FormatData}
use Rattle.journal_store.specs.Rows.{entries_by}
use Rattle.journal_store.specs.Opening.{AreInOrder, AreLawful, AreRising, HasFormatTable, HoldsEntriesBy, IsCause, IsFirst, IsFor, IsJournal, IsNewer, IsOfRows, IsSecond, IsStoreBy, OpenFailsFor, keys_of, open_fault}
use Rattle.journal_store.specs.Faults.{FailsFor, HasCause}
use Rattle.journal_store.specs.declared.statements.TableFault.{TableFault}
use Rattle.journal_store.specs.declared.statements.TableFault.TheVariants as table
use Rattle.journal_store.specs.declared.opening.JournalOpenFault.{JournalOpenFault}
use Rattle.journal_store.specs.declared.opening.JournalOpenFault.TheVariants.{Store, Damaged, Newer, Memory}
use Rattle.journal_store.proofs.Finding.{rows_listed}
use Rattle.sql_tables.proofs.Looking.{laid_on, same_now, was_clean, was_laid}
use Rattle.sql_tables.proofs.Results.{if_err, on_both, on_ok}
use Rattle.journal_store.proofs.Numbering.{numbered}
use Rattle.journal_store.proofs.Holding.{keys_in_order, lawful_lists}

-- ---- results

pub is_for : {P Q D E : Type 0} (f : P → Q) (h : D → E) (fault : JournalOpenFault) → IsFor P D fault → IsFor Q E fault
is_for f h Store it = tt
is_for f h Damaged it = h it
is_for f h Newer it = f it
is_for f h Memory it = tt

-- a fault of a statement reports what it reported there
pub told : (P D E : Type 0) → (D → E) → (fault : TableFault) → HasCause D fault → IsFor P E (open_fault fault)
told P D E h table.Store it = tt
told P D E h table.Damaged it = h it
told P D E h table.Memory it = tt

-- and a fault that reports neither has every cause
pub no_damage : (P D : Type 0) (fault : JournalOpenFault) → IsFor ⊥ ⊥ fault → IsFor P D fault
no_damage P D = is_for {P = ⊥} {Q = P} {D = ⊥} {E = D} (λ none. absurd none) (λ none. absurd none)

pub told_of : {T : Type 0} (P D E : Type 0) → (D → E) → (r : Result T JournalOpenFault) (fault : TableFault) → IsErrAnd r (λ given. given ≡ open_fault fault) → HasCause D fault → IfErr r (IsFor P E)
told_of P D E h (Ok x) fault is it = tt
told_of P D E h (Err given) fault is it = subst (IsFor P E) (sym is) (told P D E h fault it)

-- a fault that reports no newer format
pub damage_on : {T : Type 0} (P D E : Type 0) → (D → E) → (r : Result T JournalOpenFault) → IfErr r (IsFor ⊥ D) → IfErr r (IsFor P E)
damage_on P D E h r = if_err r (λ fault. is_for {P = ⊥} {Q = P} (λ none. absurd none) h fault)

-- and if it is handed on
pub damage_of : {T : Type 0} (P D E : Type 0) → (D → E) → (r : Result T JournalOpenFault) (fault : JournalOpenFault) → IsErrAnd r (λ given. given ≡ fault) → IsFor ⊥ D fault → IfErr r (IsFor P E)
damage_of P D E h (Ok x) fault is it = tt
damage_of P D E h (Err given) fault is it = subst (IsFor P E) (sym is) (is_for {P = ⊥} {Q = P} (λ none. absurd none) h fault it)

pub handed_on : {T : Type 0} (P D E : Type 0) (h : D → E) (r : Result T JournalOpenFault) (fault : JournalOpenFault) → IsErrAnd r (λ given. given ≡ fault) → IsFor P D fault → IfErr r (IsFor P E)
handed_on P D E h (Ok x) fault is it = tt
handed_on P D E h (Err given) fault is it = subst (IsFor P E) (sym is) (is_for (λ p. p) h fault it)

-- ---- a store that fails

pub opens_by : (P Q : Type 0) → (P → Q) → (fault : JournalOpenFault) → OpenFailsFor P fault → OpenFailsFor Q fault
opens_by P Q h Store it = h it
opens_by P Q h Damaged it = tt
opens_by P Q h Newer it = tt
opens_by P Q h Memory it = tt

pub opens_so : (P : Type 0) → P → (fault : JournalOpenFault) → OpenFailsFor P fault
opens_so P it Store = it
opens_so P it Damaged = tt
opens_so P it Newer = tt
opens_so P it Memory = tt

-- a fault of a statement fails as it failed there
pub told_fails : (P Q : Type 0) → (P → Q) → (fault : TableFault) → FailsFor P fault → OpenFailsFor Q (open_fault fault)
told_fails P Q h table.Store it = h it
told_fails P Q h table.Damaged it = tt
told_fails P Q h table.Memory it = tt

-- what was read of rows is no fault of the store
pub rows_fail : (P : Type 0) (fault : JournalOpenFault) → IsOfRows fault → OpenFailsFor P fault
rows_fail P Store it = absurd it
rows_fail P Damaged it = tt
rows_fail P Newer it = tt
rows_fail P Memory it = tt

pub opens_of : {T : Type 0} (P Q : Type 0) → (P → Q) → (r : Result T JournalOpenFault) (fault : JournalOpenFault) → IsErrAnd r (λ given. given ≡ fault) → OpenFailsFor P fault → IfErr r (OpenFailsFor Q)
opens_of P Q h (Ok x) fault is it = tt
opens_of P Q h (Err given) fault is it = subst (OpenFailsFor Q) (sym is) (opens_by P Q h fault it)

pub fails_of : {T : Type 0} (P Q : Type 0) → (P → Q) → (r : Result T JournalOpenFault) (fault : TableFault) → IsErrAnd r (λ given. given ≡ open_fault fault) → FailsFor P fault → IfErr r (OpenFailsFor Q)
fails_of P Q h (Ok x) fault is it = tt
fails_of P Q h (Err given) fault is it = subst (OpenFailsFor Q) (sym is) (told_fails P Q h fault it)

-- ---- the numbers of the rows

pub numbers_found : {Form : Type 0} {layout : Form → Schema} (tree : ℕ) (s : State) (sql : List ℕ) (rows given : List Row) → Lists layout tree (λ (r : Row). rowid r ∷ []) sql → IsGiven layout sql [] → given ≡ rows → IsLaidBy layout s → Answers sql [] s rows
    → AreRising given → AreNumbered (s.now.trees tree)
numbers_found tree s sql rows given means whole same laid answers rising =
    let table = s.now.trees tree in
    numbered table given (subst (IsPermutation (map (λ (r : Row). rowid r ∷ []) table)) (sym same) (rows_listed tree (λ (r : Row). rowid r ∷ []) s sql rows means whole laid answers).0) rising

-- ---- one check after the other

module _ {Form : Type 0} {layout : Form → Schema} (old mid new : State) (first : Looks old mid) (laid : HasCleanDisk old → IsTrue old.is_open → IsLaidBy layout old) (second : Looks mid new) (clean : HasCleanDisk new) where
  abbrev mid_clean : HasCleanDisk mid
  mid_clean = was_clean mid new second (laid_on old mid first laid) clean

  pub mid_same : IsTrue new.is_open → mid.now ≡ old.now
  mid_same still = same_now old mid first laid mid_clean ((second.keeps clean).was_open still)

  pub numbers_both : {T F : Type 0} (tree : Kind → ℕ) (r : Result T F) → (HasCleanDisk mid → AreNumbered (old.now.trees (tree User))) → OnOk r (AreNumbered (mid.now.trees (tree Group))) → OnOk r (IsTrue new.is_open) → OnOk r (HasNumbersBy tree old.now.trees)
  numbers_both tree r users = on_both r (λ groups still. record { users = users mid_clean; groups = subst (λ (d : Database). AreNumbered (d.trees (tree Group))) (mid_same still) groups })

  -- given the format
  module _ (f : FormatData) where
    pub groups_listed : (groups : List Entry) → ListsAllBy (Shows Group) (f.columns Group) (mid.now.trees (f.tree Group)) groups → IsTrue new.is_open → ListsAllBy (Shows Group) (f.columns Group) (old.now.trees (f.tree Group)) groups
    groups_listed groups all still = subst (λ (d : Database). ListsAllBy (Shows Group) (f.columns Group) (d.trees (f.tree Group)) groups) (mid_same still) all

    pub entries_both : {T F : Type 0} (r : Result T F) (users groups : List Entry) → (HasCleanDisk mid → ListsAllBy (Shows User) (f.columns User) (old.now.trees (f.tree User)) users) → ListsAllBy (Shows Group) (f.columns Group) (mid.now.trees (f.tree Group)) groups
        → IsTrue new.is_open → OnOk r (AreLawful users groups) → OnOk r (HoldsEntriesBy f old.now.trees)
    entries_both r users groups all_users all_groups still =
        on_ok r (λ lawful. record { users = users; groups = groups; all_users = all_users mid_clean; all_groups = groups_listed groups all_groups still; lawful = lawful })

    pub lists_refused : (users groups : List Entry) → (HasCleanDisk mid → ListsAllBy (Shows User) (f.columns User) (old.now.trees (f.tree User)) users) → ListsAllBy (Shows Group) (f.columns Group) (mid.now.trees (f.tree Group)) groups
        → IsTrue new.is_open → (AreInOrder (keys_of users) → AreLawful users groups → ⊥) → HoldsEntriesBy f old.now.trees → ⊥
    lists_refused users groups all_users all_groups still unlawful holds =
        let lists_users = all_users mid_clean in
        unlawful (keys_in_order (f.columns User) (old.now.trees (f.tree User)) users lists_users) (lawful_lists f old.now.trees users groups lists_users (groups_listed groups all_groups still) holds)

pub store_found : {T F : Type 0} (f : FormatData) (old marked numbered new : State) (r : Result T F) → Looks old marked → (HasCleanDisk old → IsTrue old.is_open → IsLaidBy f.layout old)
    → Looks marked numbered → Looks numbered new → HasCleanDisk new → (HasCleanDisk marked → IsFormat old f.number) → (HasCleanDisk numbered → HasNumbersBy f.tree marked.now.trees) → OnOk r (HoldsEntriesBy f numbered.now.trees) → OnOk r (IsTrue new.is_open)
    → OnOk r ((entries : EntryMap) × IsStoreBy f old entries)
store_found f old marked numbered new r first laid second third clean format numbers = on_both r (λ holds still.
    let laid_marked = laid_on old marked first laid in
    let numbered_clean = was_clean numbered new third (laid_on marked numbered second laid_marked) clean in
    let numbered_open = (third.keeps clean).was_open still in
    let marked_clean = was_clean marked numbered second laid_marked numbered_clean in
    let marked_open = (second.keeps numbered_clean).was_open numbered_open in
    let to_old = same_now old marked first laid marked_clean marked_open in
    let to_marked = same_now marked numbered second laid_marked numbered_clean numbered_open in (
      entries_by f.tree f.columns old.now.trees,
      record {
        laid = was_laid old marked first laid marked_clean marked_open;
        format = format marked_clean;
        numbers = subst (λ (d : Database). HasNumbersBy f.tree d.trees) to_old (numbers numbered_clean);
        holds = subst (λ (d : Database). HoldsEntriesBy f d.trees) (to_marked ∙ to_old) holds;
        are = refl;
      },
    ))

-- ---- what is refused

-- tables that are of no format are foreign
pub foreign_cause : {T : Type 0} (s : State) (r : Result T JournalOpenFault) → s.now.schema ≢ no_schema → (IsJournal s.now.schema → ⊥) → (IsSecond s.now.schema → ⊥) → (IsFirst s.now.schema → ⊥)
    → IfErr r (IsFor (IsNewer s) (HasFormatTable s.now.schema → IsNewer s → ⊥)) → IfErr r (IsCause s)
foreign_cause s r stand other second first =
    if_err r (λ fault it. is_for {P = IsNewer s} {Q = IsNewer s} (λ newer. newer) (λ older. inl (record { stand = stand; other = other; second = second; first = first; older = older })) fault it)
