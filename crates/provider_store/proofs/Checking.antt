-- What the checks of an opening show, and what they leave.
use Rattle.std.proofs.Common.{◌≡◌, ◌≢◌, ◌⊎◌, ◌<◌, ℕ, zero, suc, ◌+◌, ◌-◌, ℤ, pos, false, List, [], ◌∷◌, ◌++◌, map, filter, length, length-append, Some, None, Result, Ok, Err, IsTrue, IfErr, IsErrAnd, refl, sym, ap, ◌∙◌, subst, inl, inr, arith, IsPermutation}
use Rattle.std.specs.Prelude.{slice_get}
use Rattle.std.proofs.lemmas.Option.{slice_get_within}
use Rattle.sqlite_value.specs.declared.value.Value.TheVariants.{Int}
use Rattle.sqlite_value.specs.Order.{Row, column}
use Rattle.sqlite_trees.specs.Tree.{rowid, has_rowid}
use Rattle.sqlite_rules.specs.Lists.{Has}
use Rattle.sqlite_rules.proofs.ListLemmas.{has_filtered}
use Rattle.sqlite.specs.Effect.{Database, IsDatabase}
use Rattle.sqlite.specs.State.{State, HasCleanDisk}
use Rattle.sqlite_trees.proofs.ListLemmas.{filter_same, all_of}
use Rattle.scim_resource.specs.Contents.{content_name}
use Rattle.scim_resource.specs.Rows.{StoredRecord}
use Rattle.provider_core.specs.Rows.{IsNumberedFrom, AreNamedApart, is_named, row_named}
use Rattle.scim_key.specs.declared.stores.StoreFault.{StoreFault}
use Rattle.scim_key.specs.declared.stores.StoreFault.TheVariants as store
use Rattle.provider_core.proofs.RowLaws.{same_name-eq, find-passes}
use Rattle.provider_core.proofs.MemoryLaws.{found-at, apart-none}
use Rattle.provider_core.proofs.TableLaws.{at_push}
use Rattle.scim_key.specs.declared.records.RecordName.{RecordName}
use Rattle.provider_store.specs.Format.{outside_text}
use Rattle.provider_store.specs.Rows.{shown_row, IsRowOf, number_at, Holds}
use Rattle.provider_store.specs.Connections.{IsLaid, FindsName, resources}
use Rattle.sql_tables.specs.Faults.{FailsFor}
use Rattle.provider_store.specs.Lawful.{AreLawfulTo, IsLawfulAt, is_outside, IsOutside, AreWithin}
use Rattle.provider_store.specs.Opening.{IsFor, IsAlone, IsNewer, IsNotLaid, IsSpoilt, IsDamaged, IsCause, IsOfRows, OpenFailsFor, open_fault}
use Rattle.provider_store.specs.declared.opening.RegistryOpenFault.{RegistryOpenFault}
use Rattle.provider_store.specs.declared.opening.RegistryOpenFault.TheVariants.{Store, Damaged, Newer, Memory}
use Rattle.provider_store.specs.declared.tables.Found.TheVariants.{There}
use Rattle.provider_store.proofs.Texts.{outside_term, outside_shown, outside_is}
use Rattle.provider_store.proofs.Outside.{outside_passes, none_passes, outside_tests}
use Rattle.provider_store.proofs.Finding.{only_one, has_named, found_alone}
use Rattle.provider_store.proofs.Holding.{numbered_append, apart_append, number_of}
use Rattle.sql_tables.proofs.Looking.{same_now, was_clean}
use Rattle.sql_tables.proofs.Results.{if_err}
use Rattle.sql_tables.specs.Layouts.{no_schema}
use Rattle.sql_tables.specs.Statements.{Answers, Looks}
use Rattle.sql_tables.proofs.Selecting.{passes, shows, from_answer}
use Rattle.sql_tables.proofs.Answering.{answered_by, empty}

-- ---- results

pub is_for : {P Q : Type 0} {D E : ℕ → Type 0} (f : P → Q) (h : (n : ℕ) → D n → E n) (fault : RegistryOpenFault) → IsFor P D fault → IsFor Q E fault
is_for f h Store it = tt
is_for f h (Damaged n) it = h n it
is_for f h Newer it = f it
is_for f h Memory it = tt

is_for_both : (P Q : Type 0) (D E F : ℕ → Type 0) (h : (n : ℕ) → D n → E n → F n) (fault : RegistryOpenFault) → IsFor P D fault → IsFor Q E fault → IsFor P F fault
is_for_both P Q D E F h Store it other = tt
is_for_both P Q D E F h (Damaged n) it other = h n it other
is_for_both P Q D E F h Newer it other = it
is_for_both P Q D E F h Memory it other = tt

is_damage : (P : Type 0) (D E : ℕ → Type 0) (h : (n : ℕ) → D n → E n) (fault : RegistryOpenFault) → IsFor ⊥ D fault → IsFor P E fault
is_damage P D E h Store it = tt
is_damage P D E h (Damaged n) it = h n it
is_damage P D E h Newer it = absurd it
is_damage P D E h Memory it = tt

-- a fault that is handed on reports both, if both hold
pub both_of : {T : Type 0} (P Q : Type 0) (D E F : ℕ → Type 0) (h : (n : ℕ) → D n → E n → F n) (r : Result T RegistryOpenFault) (fault : RegistryOpenFault) → IsErrAnd r (λ given. given ≡ fault) → IsFor P D fault → IsFor Q E fault → IfErr r (IsFor P F)
both_of P Q D E F h (Ok x) fault is it other = tt
both_of P Q D E F h (Err given) fault is it other = subst (IsFor P F) (sym is) (is_for_both P Q D E F h fault it other)

-- and a fault that reports no newer format reports this damage
pub damage_of : {T : Type 0} (P : Type 0) (D E : ℕ → Type 0) (h : (n : ℕ) → D n → E n) (r : Result T RegistryOpenFault) (fault : RegistryOpenFault) → IsErrAnd r (λ given. given ≡ fault) → IsFor ⊥ D fault → IfErr r (IsFor P E)
damage_of P D E h (Ok x) fault is it = tt
damage_of P D E h (Err given) fault is it = subst (IsFor P E) (sym is) (is_damage P D E h fault it)

pub told_any : {P : Type 0} (p : P) (fault : RegistryOpenFault) → IsFor P (λ _. P) fault
told_any p Store = tt
told_any p (Damaged n) = p
told_any p Newer = p
told_any p Memory = tt

pub no_cause : (P : Type 0) (D : ℕ → Type 0) (fault : StoreFault) → IsFor P D (open_fault fault)
no_cause P D store.Store = tt
no_cause P D store.Memory = tt

-- ---- a store that fails

pub opens_by : (P Q : Type 0) → (P → Q) → (fault : RegistryOpenFault) → OpenFailsFor P fault → OpenFailsFor Q fault
opens_by P Q h Store it = h it
opens_by P Q h (Damaged n) it = tt
opens_by P Q h Newer it = tt
opens_by P Q h Memory it = tt

pub opens_so : (P : Type 0) → P → (fault : RegistryOpenFault) → OpenFailsFor P fault
opens_so P it Store = it
opens_so P it (Damaged n) = tt
opens_so P it Newer = tt
opens_so P it Memory = tt

-- a fault of a look-up fails as it failed there
pub told_fails : (P : Type 0) (fault : StoreFault) → FailsFor P fault → OpenFailsFor P (open_fault fault)
told_fails P store.Store it = it
told_fails P store.Memory it = tt

-- what was read of rows is no fault of the store
pub rows_fail : (P : Type 0) (fault : RegistryOpenFault) → IsOfRows fault → OpenFailsFor P fault
rows_fail P Store it = absurd it
rows_fail P (Damaged n) it = tt
rows_fail P Newer it = tt
rows_fail P Memory it = tt

pub opens_of : {T : Type 0} (P Q : Type 0) → (P → Q) → (r : Result T RegistryOpenFault) (fault : RegistryOpenFault) → IsErrAnd r (λ given. given ≡ fault) → OpenFailsFor P fault → IfErr r (OpenFailsFor Q)
opens_of P Q h (Ok x) fault is it = tt
opens_of P Q h (Err given) fault is it = subst (OpenFailsFor Q) (sym is) (opens_by P Q h fault it)

pub fails_of : {T : Type 0} (P : Type 0) (r : Result T RegistryOpenFault) (fault : StoreFault) → IsErrAnd r (λ given. given ≡ open_fault fault) → FailsFor P fault → IfErr r (OpenFailsFor P)
fails_of P (Ok x) fault is it = tt
fails_of P (Err given) fault is it = subst (OpenFailsFor P) (sym is) (told_fails P fault it)

-- ---- looking

pub same_rows : (old new : State) → Looks old new → (HasCleanDisk old → IsTrue old.is_open → IsLaid old) → HasCleanDisk new → IsTrue new.is_open → resources new ≡ resources old
same_rows old new looks laid clean still = ap (λ (d : Database). d.trees 1) (same_now old new looks laid clean still)

pub sound_on : (old new : State) → Looks old new → (HasCleanDisk old → IsTrue old.is_open → IsLaid old) → (HasCleanDisk old → IsTrue old.is_open → IsDatabase old.now) → HasCleanDisk new → IsTrue new.is_open → IsDatabase new.now
sound_on old new looks laid sound clean still =
    subst IsDatabase (sym (same_now old new looks laid clean still)) (sound (was_clean old new looks laid clean) ((looks.keeps clean).was_open still))

-- ---- the rows outside

pub outside_found : (s : State) (number : ℤ) (count : ℕ) (rows given : List Row) → number ≡ pos count → given ≡ rows → IsLaid s → Answers outside_text (Int number ∷ []) s rows → given ≡ [] → (k : ℕ) → count < k → filter (has_rowid (pos k)) (resources s) ≡ []
outside_found s number count rows given is same laid answers none k far =
    let params : Row = Int (pos count) ∷ [] in
    let all = answered_by s params rows outside_is laid (subst (λ n. Answers outside_text (Int n ∷ []) s rows) is answers) (λ _. refl) in
    let nothing = empty (shows outside_shown params) (filter (passes (outside_term ∷ []) params) (resources s)) (subst (IsPermutation (map (shows outside_shown params) (filter (passes (outside_term ∷ []) params) (resources s)))) (sym same ∙ none) all) in
    none_passes (passes (outside_term ∷ []) params) (has_rowid (pos k)) (resources s) (λ r has. outside_passes count k r far has) nothing

module _ (s : State) (number : ℤ) (count : ℕ) (rows given : List Row) (is : number ≡ pos count) (same : given ≡ rows) (laid : IsLaid s) (answers : Answers outside_text (Int number ∷ []) s rows) where
  outside_all : IsPermutation (map (shows outside_shown (Int (pos count) ∷ [])) (filter (passes (outside_term ∷ []) (Int (pos count) ∷ [])) (resources s))) rows
  outside_all =
      let params : Row = Int (pos count) ∷ [] in
      answered_by s params rows outside_is laid (subst (λ n. Answers outside_text (Int n ∷ []) s rows) is answers) (λ _. refl)

  by_outside : filter (passes (outside_term ∷ []) (Int (pos count) ∷ [])) (resources s) ≡ filter (λ r. is_outside count (rowid r)) (resources s)
  by_outside = filter_same (passes (outside_term ∷ []) (Int (pos count) ∷ [])) (λ r. is_outside count (rowid r)) (resources s) (all_of (λ r. passes (outside_term ∷ []) (Int (pos count) ∷ []) r ≡ is_outside count (rowid r)) (λ r. outside_tests count r) (resources s))

  pub within_found : given ≡ [] → AreWithin (resources s) count
  within_found none = sym by_outside ∙ empty (shows outside_shown (Int (pos count) ∷ [])) _ (subst (IsPermutation (map (shows outside_shown (Int (pos count) ∷ [])) (filter (passes (outside_term ∷ []) (Int (pos count) ∷ [])) (resources s)))) (sym same ∙ none) outside_all)

  pub beside_found : (r : Row) (told : ℕ) → Has given r → told ≡ number_at (column r 0) → IsOutside (resources s) count told
  beside_found r told there is_told =
      let it = from_answer (passes (outside_term ∷ []) (Int (pos count) ∷ [])) (shows outside_shown (Int (pos count) ∷ [])) (resources s) rows outside_all r (subst (λ l. Has l r) same there) in
      record { row = it.0; there = it.1; outside = sym (outside_tests count it.0) ∙ it.2; told = is_told ∙ ap (λ (x : Row). number_at (column x 0)) it.3 }

-- ---- one row

pub alone_from : (table : List Row) (name : RecordName) (s : StoredRecord) → FindsName table name (There s) → IsAlone table name
alone_from table name s found q r t u first second = found_alone table name s found q t first ∙ sym (found_alone table name s found r u second)

alone_lawful : (table : List Row) (number : ℕ) (it : IsLawfulAt table number) → IsAlone table (content_name it.held.content)
alone_lawful table number it q r s t first second =
    let name = content_name it.held.content in
    ap shown_row (only_one _ it.row q it.named (has_named table name q s first) ∙ sym (only_one _ it.row r it.named (has_named table name r t second)))

-- ---- the rows in turn

-- the rows with the first numbers show these records, no two of them with the same name
pub record HoldsFirst (table : List Row) (rows : List StoredRecord) : Type 0 where
  pub numbered : IsNumberedFrom 1 rows
  pub apart : AreNamedApart rows
  pub each : (n : ℕ) (s : StoredRecord) → slice_get rows n ≡ Some s → (r : Row) × (filter (has_rowid (pos (suc n))) table ≡ r ∷ []) × IsRowOf (shown_row r) s

first_none : (table : List Row) → HoldsFirst table []
first_none table = record { numbered = tt; apart = apart-none; each = λ n s at. absurd (cc) }

module _ (table : List Row) (rows : List StoredRecord) (first : HoldsFirst table rows) (lawful : IsLawfulAt table (length rows + 1)) where
  abbrev new : StoredRecord
  new = lawful.held

  number_is : new.number ≡ suc (length rows)
  number_is =
      let at : rowid lawful.row ≡ Int (pos (length rows + 1)) = number_of lawful.row new (length rows + 1) table lawful.shows lawful.only in
      let own : Int (pos new.number) ≡ Int (pos (length rows + 1)) = sym (ap (λ row. column row 0) lawful.shows.shows) ∙ at in
      let same : new.number ≡ length rows + 1 = cc in
      omega (arith, same)

  here : (n : ℕ) (s : StoredRecord) (row : Row) → filter (has_rowid (pos n)) table ≡ row ∷ [] → Has table row
  here n s row only = (has_filtered (has_rowid (pos n)) table row (subst (λ l. Has l row) (sym only) (inl refl))).0

  other_name : row_named (content_name new.content) rows ≡ None
  other_name = elim (row_named (content_name new.content) rows) as (λ found. row_named (content_name new.content) rows ≡ found → found ≡ None) [
    | None ↦ λ _. refl
    | Some s ↦ λ is.
        let name = content_name new.content in
        let at = found-at (is_named name) 1 rows s first.numbered is in
        let same : name ≡ content_name s.content = same_name-eq name (content_name s.content) (find-passes (is_named name) rows s is) in
        let it = first.each (s.number - 1) s at.1 in
        let both = alone_lawful table (length rows + 1) lawful it.0 lawful.row s new
        (record { there = here (suc (s.number - 1)) s it.0 it.1; shows = it.2; named = sym same })
        (record { there = here (length rows + 1) new lawful.row lawful.only; shows = lawful.shows; named = refl }) in
        let numbers : Int (pos s.number) ≡ Int (pos new.number) = sym (ap (λ row. column row 0) it.2.shows) ∙ ap (λ row. column row 0) both ∙ ap (λ row. column row 0) lawful.shows.shows in
        let one : s.number ≡ new.number = cc in
        let near = slice_get_within rows (s.number - 1) s at.1 in
        absurd (omega (arith, one, near, number_is, at.0))
  ] refl

  first_next : HoldsFirst table (rows ++ new ∷ [])
  first_next = record {
    numbered = numbered_append 1 rows new first.numbered (omega (arith, number_is));
    apart = apart_append rows new first.apart other_name;
    each = λ n s at. elim (at_push rows new n s at) [
      | inl old ↦ first.each n s old
      | inr last ↦ (
        lawful.row,
        let e : length rows + 1 ≡ suc n = omega (arith, last.0) in subst (λ k. filter (has_rowid (pos k)) table ≡ lawful.row ∷ []) e lawful.only,
        subst (IsRowOf (shown_row lawful.row)) last.1 lawful.shows,
      )
    ];
  }

-- valid rows show records
pub first_of : (table : List Row) (count : ℕ) → AreLawfulTo table count → (rows : List StoredRecord) × HoldsFirst table rows × (length rows ≡ count)
first_of table zero lawful = ([], first_none table, refl)
first_of table (suc count) lawful =
    let first = first_of table count (λ n low high. lawful n low (omega (arith, high))) in
    let next : IsLawfulAt table (length first.0 + 1) = subst (IsLawfulAt table) (omega (arith, first.2)) (lawful (suc count) (omega arith) (omega arith)) in
    (first.0 ++ next.held ∷ [], first_next table first.0 first.1 next, omega (arith, first.2, length-append first.0 (next.held ∷ [])))

pub first_all : (table : List Row) (rows : List StoredRecord) → HoldsFirst table rows → ((n : ℕ) → length rows < n → filter (has_rowid (pos n)) table ≡ []) → Holds table rows
first_all table rows first none = record {
  numbered = first.numbered;
  apart = first.apart;
  each = first.each;
  none = λ n at. none (suc n) (past rows n at);
}
  where
    past : (xs : List StoredRecord) (n : ℕ) → slice_get xs n ≡ None → length xs < suc n
    past [] n none = omega arith
    past (x ∷ xs) zero none = absurd (cc)
    past (x ∷ xs) (suc n) none = omega (arith, past xs n none)

-- ---- the store

-- if there are tables and no transaction is open, tables that aren't laid out are foreign
pub opening_cause : {T : Type 0} (s : State) (r : Result T RegistryOpenFault) → s.now.schema ≢ no_schema → s.in_transaction ≡ false → IfErr r (IsFor (IsNewer s) (λ told. ((told ≡ 0) × IsNotLaid s) ⊎ IsSpoilt s told)) → IfErr r (IsCause s)
opening_cause s r stand outside = if_err r (λ fault it. is_for {P = IsNewer s} {Q = IsNewer s} (λ newer. newer) step fault it)
  where
    step : (told : ℕ) → ((told ≡ 0) × IsNotLaid s) ⊎ IsSpoilt s told → IsDamaged s told
    step told (inl other) = inl (other.0, record { stand = stand; other = λ provider. absurd (let clash = sym outside ∙ other.1 provider in cc) })
    step told (inr spoilt) = inr spoilt
