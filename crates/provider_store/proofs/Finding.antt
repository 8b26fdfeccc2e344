-- What the look-ups find, in the table and among the records that it holds.
use Rattle.std.proofs.Common.{◌≡◌, ℕ, zero, suc, ◌-◌, ◌<◌, ◌^◌, ℤ, pos, Bool, true, false, ◌&&◌, cond, List, [], ◌∷◌, map, filter, Some, None, refl, sym, ap, ◌∙◌, subst, inl, inr, arith, IsPermutation}
use Rattle.std.specs.Prelude.{slice_get}
use Rattle.std.specs.List.{AllByRecursion}
use Rattle.std.specs.Ordering.{int_eq}
use Rattle.std.specs.Str.{bytes_eq}
use Rattle.std.proofs.lemmas.Bool.{and_parts, and_from}
use Rattle.std.proofs.lemmas.Bool.Decides.{Decides-int_eq}
use Rattle.std.proofs.lemmas.Slice.Eq.{bytes_eq-Decides}
use Rattle.std.proofs.lemmas.Map.Keys.{IsDistinct-head, IsDistinct-tail}
use Rattle.sqlite_value.specs.declared.value.Value.TheVariants.{Int, Text}
use Rattle.sqlite_value.specs.Order.{Row, column}
use Rattle.sqlite_trees.specs.Tree.{rowid, has_rowid}
use Rattle.sqlite_trees.proofs.ListLemmas.{filter_same, all_of}
use Rattle.sqlite_sql.specs.Term.{Term}
use Rattle.sqlite_rules.specs.Lists.{Has}
use Rattle.sqlite_rules.proofs.ListLemmas.{has_kept, has_filtered}
use Rattle.sqlite.specs.State.{State}
use Rattle.sqlite.proofs.Callers.{one_permutation}
use Rattle.scim_key.specs.declared.records.Kind.{Kind}
use Rattle.scim_key.specs.declared.records.Kind.TheVariants.{User, Group}
use Rattle.scim_key.specs.declared.records.RecordName.{RecordName}
use Rattle.scim_resource.specs.Contents.{content_kind, content_name}
use Rattle.scim_resource.specs.Rows.{StoredRecord}
use Rattle.provider_core.specs.Rows.{same_name, is_named, row_named, names_of, AreNamedApart}
use Rattle.provider_core.proofs.RowLaws.{same_name-eq, same_name-self, same_name-sym, find-passes}
use Rattle.provider_core.proofs.MemoryLaws.{found-at}
use Rattle.provider_store.specs.Format.{provider_schema, named_text, numbered_text}
use Rattle.provider_store.specs.Rows.{kind_code, shown_row, IsRowOf, record_in, Holds}
use Rattle.provider_store.specs.Lawful.{has_name}
use Rattle.provider_store.specs.Connections.{IsLaid, AreDamaged, IsOnly, IsNamed, FindsName, FindsNumber, resources}
use Rattle.provider_store.specs.declared.tables.Found.{Found}
use Rattle.provider_store.specs.declared.tables.Found.TheVariants.{Nothing, Damaged, There}
use Rattle.provider_store.proofs.Texts.{shown_terms, names, number_is, name_terms, named_is, numbered_is}
use Rattle.provider_store.proofs.Selecting.{number_passes, name_passes, name_tests}
use Rattle.provider_store.proofs.Holding.{has_own, shown_record}
use Rattle.sql_tables.proofs.Queries.{IsSelect}
use Rattle.sql_tables.proofs.Answering.{answered_by, empty, nothing, single}
use Rattle.sql_tables.specs.Statements.{Answers}
use Rattle.sql_tables.proofs.Selecting.{passes}

-- ---- the rows of an answer

pub picked : (s : State) {sql : List ℕ} {terms : List Term} {count : ℕ} (params : Row) (rows : List Row) → IsSelect provider_schema sql 1 terms shown_terms [] names count → IsLaid s → Answers sql params s rows
    → IsPermutation (map shown_row (filter (passes terms params) (resources s))) rows
picked s params rows is laid answers = answered_by s params rows is laid answers (λ _. refl)

-- rows whose answer is damaged are
damaged : (xs rows : List Row) → IsPermutation (map shown_row xs) rows → IsOnly rows Damaged → AreDamaged xs
damaged xs rows same only = record {
  some = λ none. only.0 (nothing rows (subst (λ l. IsPermutation (map shown_row l) rows) none same));
  unread = λ r s one shows. only.1 (shown_row r) s (one_permutation (shown_row r) rows (subst (λ l. IsPermutation (map shown_row l) rows) one same)) shows;
}

-- ---- by number

pub finds_number : (table : List Row) (number : ℕ) (rows : List Row) (found : Found) → IsPermutation (map shown_row (filter (passes (number_is ∷ []) (Int (pos number) ∷ [])) table)) rows → IsOnly rows found
    → FindsNumber table number found
finds_number table number rows Nothing all none =
    let same = filter_same (passes (number_is ∷ []) (Int (pos number) ∷ [])) (has_rowid (pos number)) table (all_of (λ x. passes (number_is ∷ []) (Int (pos number) ∷ []) x ≡ has_rowid (pos number) x) (λ x. number_passes (pos number) [] x) table) in
    sym same ∙ empty shown_row _ (subst (IsPermutation (map shown_row (filter (passes (number_is ∷ []) (Int (pos number) ∷ [])) table))) none all)
finds_number table number rows Damaged all only =
    let same = filter_same (passes (number_is ∷ []) (Int (pos number) ∷ [])) (has_rowid (pos number)) table (all_of (λ x. passes (number_is ∷ []) (Int (pos number) ∷ []) x ≡ has_rowid (pos number) x) (λ x. number_passes (pos number) [] x) table) in
    subst AreDamaged same (damaged _ rows all only)
finds_number table number rows (There s) all only =
    let same = filter_same (passes (number_is ∷ []) (Int (pos number) ∷ [])) (has_rowid (pos number)) table (all_of (λ x. passes (number_is ∷ []) (Int (pos number) ∷ []) x ≡ has_rowid (pos number) x) (λ x. number_passes (pos number) [] x) table) in
    let one = single shown_row _ only.0 (subst (IsPermutation (map shown_row (filter (passes (number_is ∷ []) (Int (pos number) ∷ [])) table))) only.1 all) in
    (one.0, sym same ∙ one.1, subst (λ r. IsRowOf r s) one.2 only.2)

-- ---- by name

codes_apart : (k l : Kind) → int_eq (pos (kind_code k)) (pos (kind_code l)) ≡ true → k ≡ l
codes_apart User User same = refl
codes_apart User Group same = absurd (let e : pos 1 ≡ pos 2 = (Decides-int_eq (pos 1) (pos 2)).0 same in cc)
codes_apart Group User same = absurd (let e : pos 2 ≡ pos 1 = (Decides-int_eq (pos 2) (pos 1)).0 same in cc)
codes_apart Group Group same = refl

abbrev name_from : Kind → List ℕ → RecordName
name_from kind key = record { kind = kind; key = key }

name_eq : (a b : RecordName) → a.kind ≡ b.kind → a.key ≡ b.key → a ≡ b
name_eq a b kinds keys = ap (λ kind. name_from kind a.key) kinds ∙ ap (λ key. name_from b.kind key) keys

abbrev name_params : RecordName → Row
name_params name = Int (pos (kind_code name.kind)) ∷ Text name.key ∷ []

tested : (name : RecordName) (r : Row) (s : StoredRecord) → IsRowOf (shown_row r) s
    → passes name_terms (name_params name) r ≡ (int_eq (pos (kind_code (content_kind s.content))) (pos (kind_code name.kind)) && bytes_eq (content_name s.content).key name.key)
tested name r s it =
    name_passes (pos (kind_code name.kind)) (pos (kind_code (content_kind s.content))) name.key (content_name s.content).key r (ap (λ row. column row 1) it.shows) (ap (λ row. column row 2) it.shows)

named_passes : (table : List Row) (name : RecordName) (r : Row) (s : StoredRecord) → IsNamed table name r s → passes name_terms (name_params name) r ≡ true
named_passes table name r s it =
    tested name r s it.shows
    ∙ and_from _ _ ((Decides-int_eq (pos (kind_code (content_kind s.content))) (pos (kind_code name.kind))).1 (ap (λ (n : RecordName). pos (kind_code n.kind)) it.named))
    ((bytes_eq-Decides (content_name s.content).key name.key).1 (ap (λ (n : RecordName). n.key) it.named))

passes_named : (name : RecordName) (r : Row) (s : StoredRecord) → IsRowOf (shown_row r) s → passes name_terms (name_params name) r ≡ true → content_name s.content ≡ name
passes_named name r s it is =
    let parts = and_parts (int_eq (pos (kind_code (content_kind s.content))) (pos (kind_code name.kind))) (bytes_eq (content_name s.content).key name.key) (sym (tested name r s it) ∙ is) in
    name_eq (content_name s.content) name (codes_apart (content_kind s.content) name.kind parts.0) ((bytes_eq-Decides (content_name s.content).key name.key).0 parts.1)

pub only_one : {X : Type 0} (xs : List X) (x y : X) → xs ≡ x ∷ [] → Has xs y → y ≡ x
only_one xs x y is there = elim (subst (λ l. Has l y) is there) [ inl same ↦ same | inr none ↦ absurd none ]

by_name : (table : List Row) (name : RecordName) → filter (passes name_terms (name_params name)) table ≡ filter (has_name name) table
by_name table name = filter_same (passes name_terms (name_params name)) (has_name name) table (all_of (λ x. passes name_terms (name_params name) x ≡ has_name name x) (λ x. name_tests name x) table)

-- a row with this name is among those with its kind and its key
pub has_named : (table : List Row) (name : RecordName) (r : Row) (s : StoredRecord) → IsNamed table name r s → Has (filter (has_name name) table) r
has_named table name r s it = has_kept (has_name name) table r it.there (sym (name_tests name r) ∙ named_passes table name r s it)

pub finds_name : (table : List Row) (name : RecordName) (rows : List Row) (found : Found) → IsPermutation (map shown_row (filter (passes name_terms (Int (pos (kind_code name.kind)) ∷ Text name.key ∷ [])) table)) rows → IsOnly rows found
    → FindsName table name found
finds_name table name rows Nothing all none = sym (by_name table name) ∙ empty shown_row _ (subst (IsPermutation (map shown_row (filter (passes name_terms (name_params name)) table))) none all)
finds_name table name rows Damaged all only = subst AreDamaged (by_name table name) (damaged _ rows all only)
finds_name table name rows (There s) all only =
    let P = passes name_terms (name_params name) in
    let one = single shown_row _ only.0 (subst (IsPermutation (map shown_row (filter P table))) only.1 all) in
    let r = one.0 in
    let was = has_filtered P table r (subst (λ l. Has l r) (sym one.1) (inl refl)) in
    let shows_it : IsRowOf (shown_row r) s = subst (λ x. IsRowOf x s) one.2 only.2 in (r, sym (by_name table name) ∙ one.1, shows_it, passes_named name r s shows_it was.1)

-- what a look-up found is the one row of its name
module _ (table : List Row) (name : RecordName) (s : StoredRecord) (found : FindsName table name (There s)) where
  pub found_there : Has table found.0
  found_there = (has_filtered (has_name name) table found.0 (subst (λ l. Has l found.0) (sym found.1) (inl refl))).0

  pub found_alone : (q : Row) (t : StoredRecord) → IsNamed table name q t → shown_row q ≡ shown_row found.0
  found_alone q t it = ap shown_row (only_one (filter (has_name name) table) found.0 q found.1 (has_named table name q t it))

-- ---- the record that is found

pub same_some : {X : Type 0} (x y : X) → Some x ≡ Some y → x ≡ y
same_some x y e = cc

module _ (table : List Row) (rows : List StoredRecord) (holds : Holds table rows) where
  -- a row that shows a record is the row of that record
  row_held : (r : Row) (s : StoredRecord) → Has table r → IsRowOf (shown_row r) s → slice_get rows (s.number - 1) ≡ Some s
  row_held r s there it =
      let number : rowid r ≡ Int (pos s.number) = ap (λ row. column row 0) it.shows in
      let at : suc (s.number - 1) ≡ s.number = omega (arith, it.lawful.numbered) in
      let own : has_rowid (pos (suc (s.number - 1))) r ≡ true = subst (λ k. has_rowid (pos k) r ≡ true) (sym at) (has_own r s.number number) in
      let here = has_kept (has_rowid (pos (suc (s.number - 1)))) table r there own in
      elim (slice_get rows (s.number - 1)) as (λ found. slice_get rows (s.number - 1) ≡ found → found ≡ Some s) [
        | None ↦ λ none. absurd (subst (λ l. Has l r) (holds.none (s.number - 1) none) here)
        | Some t ↦ λ is.
            let held = holds.each (s.number - 1) t is in
            let same : r ≡ held.0 = only_one _ held.0 r held.1 here in
            let shown : IsRowOf (shown_row r) t = subst (λ x. IsRowOf (shown_row x) t) (sym same) held.2 in
            sym (shown_record (shown_row r) t shown) ∙ shown_record (shown_row r) s it
      ] refl

  pub none_at : (n : ℕ) → FindsNumber table (suc n) Nothing → slice_get rows n ≡ None
  none_at n nothing = elim (slice_get rows n) as (λ found. slice_get rows n ≡ found → found ≡ None) [
    | None ↦ λ _. refl
    | Some s ↦ λ is. absurd (let held = holds.each n s is in let clash : [] ≡ held.0 ∷ [] = sym nothing ∙ held.1 in cc)
  ] refl

  pub some_at : (n : ℕ) (s : StoredRecord) → FindsNumber table (suc n) (There s) → slice_get rows n ≡ Some s
  some_at n s found = elim (slice_get rows n) as (λ it. slice_get rows n ≡ it → it ≡ Some s) [
    | None ↦ λ is. absurd (let clash : found.0 ∷ [] ≡ [] = sym found.1 ∙ holds.none n is in cc)
    | Some t ↦ λ is.
        let held = holds.each n t is in
        let same : held.0 ≡ found.0 = (let e : held.0 ∷ [] ≡ found.0 ∷ [] = sym held.1 ∙ found.1 in cc) in
        sym (shown_record (shown_row held.0) t held.2) ∙ ap (λ r. record_in (shown_row r)) same ∙ shown_record (shown_row found.0) s found.2
  ] refl

  named_at : (n : ℕ) (s : StoredRecord) (name : RecordName) → slice_get rows n ≡ Some s → content_name s.content ≡ name → (r : Row) × IsNamed table name r s
  named_at n s name at is =
      let held = holds.each n s at in
      let was = has_filtered (has_rowid (pos (suc n))) table held.0 (subst (λ l. Has l held.0) (sym held.1) (inl refl)) in
      (held.0, record { there = was.0; shows = held.2; named = is })

  pub none_named : (name : RecordName) → FindsName table name Nothing → row_named name rows ≡ None
  none_named name nothing = elim (row_named name rows) as (λ found. row_named name rows ≡ found → found ≡ None) [
    | None ↦ λ _. refl
    | Some s ↦ λ is.
        let at = found-at (is_named name) 1 rows s holds.numbered is in
        let same : name ≡ content_name s.content = same_name-eq name (content_name s.content) (find-passes (is_named name) rows s is) in
        let it = named_at (s.number - 1) s name at.1 (sym same) in
        absurd (subst (λ l. Has l it.0) nothing (has_named table name it.0 s it.1))
  ] refl

  pub some_named : (name : RecordName) (s : StoredRecord) → FindsName table name (There s) → row_named name rows ≡ Some s
  some_named name s found = first rows (s.number - 1) holds.apart (row_held found.0 s (found_there table name s found) found.2)
    where
      within : (rs : List StoredRecord) (n : ℕ) (first : RecordName) → AllByRecursion (λ other. same_name first other ≡ false) (names_of rs) → slice_get rs n ≡ Some s → same_name first (content_name s.content) ≡ false
      within [] n first apart at = absurd (cc)
      within (r ∷ rs) zero first apart at = let e : r ≡ s = cc in ap (λ (x : StoredRecord). same_name first (content_name x.content)) (sym e) ∙ apart.0
      within (r ∷ rs) (suc n) first apart at = within rs n first apart.1 at

      here : (r : StoredRecord) (rs : List StoredRecord) (b : Bool) → b ≡ false → row_named name rs ≡ Some s → cond b (Some r) (row_named name rs) ≡ Some s
      here r rs true not_it later = absurd (cc)
      here r rs false not_it later = later

      first : (rs : List StoredRecord) (n : ℕ) → AreNamedApart rs → slice_get rs n ≡ Some s → row_named name rs ≡ Some s
      first [] n apart at = absurd (cc)
      first (r ∷ rs) zero apart at =
          let e : r ≡ s = cc in
          let passes_it : is_named name r ≡ true = ap (λ (x : StoredRecord). same_name name (content_name x.content)) e ∙ ap (same_name name) found.3 ∙ same_name-self name in
          rw passes_it (ap Some e)
      first (r ∷ rs) (suc n) apart at =
          let other = within rs n (content_name r.content) (IsDistinct-head same_name (content_name r.content) (names_of rs) apart) at in
          let not_it : is_named name r ≡ false = same_name-sym name (content_name r.content) ∙ ap (same_name (content_name r.content)) (sym found.3) ∙ other in
          here r rs (is_named name r) not_it (first rs n (IsDistinct-tail same_name (content_name r.content) (names_of rs) apart) at)

-- ---- of the values that a call gave

pub number_found : (s : State) (n : ℕ) (number : ℤ) (rows given : List Row) (found : Found) → number ≡ pos n → given ≡ rows → IsLaid s → Answers numbered_text (Int number ∷ []) s rows → IsOnly given found
    → FindsNumber (resources s) n found
number_found s n number rows given found is same laid answers only =
    finds_number (resources s) n rows found
    (picked s (Int (pos n) ∷ []) rows numbered_is laid (subst (λ k. Answers numbered_text (Int k ∷ []) s rows) is answers))
    (subst (λ l. IsOnly l found) same only)

pub name_found : (s : State) (name : RecordName) (code : ℤ) (key : List ℕ) (rows given : List Row) (found : Found) → code ≡ pos (kind_code name.kind) → key ≡ name.key → given ≡ rows → IsLaid s
    → Answers named_text (Int code ∷ Text key ∷ []) s rows → IsOnly given found → FindsName (resources s) name found
name_found s name code key rows given found kinds keys same laid answers only =
    finds_name (resources s) name rows found
    (picked s (Int (pos (kind_code name.kind)) ∷ Text name.key ∷ []) rows named_is laid
    (subst (λ k. Answers named_text (Int (pos (kind_code name.kind)) ∷ Text k ∷ []) s rows) keys (subst (λ k. Answers named_text (Int k ∷ Text key ∷ []) s rows) kinds answers)))
    (subst (λ l. IsOnly l found) same only)

pub code_small : (k : Kind) → kind_code k < 2 ^ 63
code_small User = omega arith
code_small Group = omega arith
