-- The rows that are copied into a table, and those that are deleted.
use Rattle.std.proofs.Common.{◌≡◌, ℤ, Bool, true, false, not, cond, List, [], ◌∷◌, ◌++◌, drop, map, filter, refl, sym, ap, ◌∙◌, subst, inl, inr, IsPermutation}
use Rattle.std.specs.List.{list_any}
use Rattle.std.proofs.lemmas.Bool.{and_parts, cases_Bool}
use Rattle.std.proofs.lemmas.List.{map-append}
use Rattle.std.proofs.lemmas.List.Sorted.{IsPermutation-append_comm, IsPermutation-append_left, IsPermutation-trans}
use Rattle.sqlite_value.specs.declared.value.Value.{Value}
use Rattle.sqlite_value.specs.declared.value.Value.TheVariants.{Null, Int, Real, Text, Blob}
use Rattle.sqlite_value.specs.Order.{Row, column}
use Rattle.sqlite_sql.specs.Term.{Term}
use Rattle.sqlite_trees.specs.Tree.{rowid, has_rowid, put_row, without_rowid}
use Rattle.sqlite_trees.specs.View.{is_int}
use Rattle.sqlite_schema.specs.declared.schema.Kind.TheVariants as column_kind
use Rattle.sqlite_schema.specs.declared.schema.Table.{Table}
use Rattle.sqlite_sql.specs.Ops.{is_null}
use Rattle.sqlite_rules.specs.Calls.{ids_of}
use Rattle.sqlite_rules.specs.Cast.{cast, cast_all, cast_row}
use Rattle.sqlite_rules.specs.Edit.{are_fresh, have_rowids, id_in as id_value_in, is_taken, numbered, put_all, with_rowid, without_all}
use Rattle.sqlite_rules.specs.declared.error.Rowids.TheVariants.{Chosen}
use Rattle.sqlite_rules.specs.Lists.{Has}
use Rattle.sql_tables.proofs.Selecting.{from_answer, in_answer, mapped, shows}
use Rattle.journal_store.specs.Connections.{AreNumbered}
use Rattle.journal_store.proofs.Loading.{has_map, map_has}
use Rattle.journal_store.proofs.Putting.{not_true, numbered_one, own_number, put_numbered, without_numbered}
use Rattle.journal_store.proofs.Resetting.{put_every}

-- ---- rows are taken out

-- a row is taken out if one of the numbers is its own
abbrev is_out : List ℤ → Row → Bool
is_out ids r = list_any (λ id. has_rowid id r) ids

out_of_both : (id : ℤ) (ids : List ℤ) (rows : List Row) → filter (λ r. not (is_out ids r)) (without_rowid id rows) ≡ filter (λ r. not (is_out (id ∷ ids) r)) rows
out_of_both id ids [] = refl
out_of_both id ids (r ∷ rows) = elim (cases_Bool (has_rowid id r)) [
  | inl own ↦ rw own (out_of_both id ids rows)
  | inr other ↦ rw other (ap (λ l. cond (not (is_out ids r)) (r ∷ l) l) (out_of_both id ids rows))
]

all_stay : (rows : List Row) → filter (λ r. not (is_out [] r)) rows ≡ rows
all_stay [] = refl
all_stay (r ∷ rows) = ap (λ l. r ∷ l) (all_stay rows)

without_all_is : (ids : List ℤ) (rows : List Row) → without_all rows ids ≡ filter (λ r. not (is_out ids r)) rows
without_all_is [] rows = sym (all_stay rows)
without_all_is (id ∷ ids) rows = without_all_is ids (without_rowid id rows) ∙ out_of_both id ids rows

any_is : (f : ℤ → Bool) (ids : List ℤ) (id : ℤ) → Has ids id → f id ≡ true → list_any f ids ≡ true
any_is f [] id there is = absurd there
any_is f (x ∷ ids) id (inl same) is = let here : f x ≡ true = sym (ap f same) ∙ is in rw here refl
any_is f (x ∷ ids) id (inr later) is = elim (cases_Bool (f x)) [ inl here ↦ rw here refl | inr other ↦ rw other (any_is f ids id later is) ]

none_is : (f : ℤ → Bool) (ids : List ℤ) → ((id : ℤ) → Has ids id → f id ≡ false) → list_any f ids ≡ false
none_is f [] none = refl
none_is f (x ∷ ids) none = rw (none x (inl refl)) (none_is f ids (λ id there. none id (inr there)))

same_filter : (p q : Row → Bool) (rows : List Row) → ((r : Row) → Has rows r → p r ≡ q r) → filter p rows ≡ filter q rows
same_filter p q [] same = refl
same_filter p q (r ∷ rows) same = (λ i. cond (same r (inl refl) i) (r ∷ filter p rows) (filter p rows)) ∙ ap (λ l. cond (q r) (r ∷ l) l) (same_filter p q rows (λ x there. same x (inr there)))

all_without_numbered : (ids : List ℤ) (rows : List Row) → AreNumbered rows → AreNumbered (without_all rows ids)
all_without_numbered [] rows numbered = numbered
all_without_numbered (id ∷ ids) rows numbered = all_without_numbered ids (without_rowid id rows) (without_numbered id rows numbered)

-- a query shows the number of each row of a table that passes a test
module _ (p : Row → Bool) (shown : Row → Row) (own : (r : Row) → rowid (shown r) ≡ rowid r) (table rows : List Row) (numbers : AreNumbered table) (all : IsPermutation (map shown (filter p table)) rows) where
  out_if : (r : Row) → Has table r → p r ≡ true → is_out (ids_of rows) r ≡ true
  out_if r there is =
      let number = numbers r there in
      let listed : Has (ids_of rows) (id_value_in (rowid (shown r))) = map_has (λ x. id_value_in (rowid x)) rows (shown r) (in_answer p shown table rows all r there is) in
      let id_is : id_value_in (rowid (shown r)) ≡ number.0 = ap id_value_in (own r ∙ number.1) in
      any_is (λ id. has_rowid id r) (ids_of rows) number.0 (subst (Has (ids_of rows)) id_is listed) (own_number r number.0 number.1)

  stays_if : (r : Row) → Has table r → p r ≡ false → is_out (ids_of rows) r ≡ false
  stays_if r there fails = none_is (λ id. has_rowid id r) (ids_of rows) (λ id listed.
      let found = has_map (λ (x : Row). id_value_in (rowid x)) rows id listed in
      let shows = from_answer p shown table rows all found.0 found.1 in
      let number = numbers shows.0 shows.1 in
      let id_is : id ≡ number.0 = found.2 ∙ ap (λ (x : Row). id_value_in (rowid x)) shows.3 ∙ ap id_value_in (own shows.0 ∙ number.1) in
      elim (cases_Bool (has_rowid id r)) [
        | inl has ↦
            let same : r ≡ shows.0 = numbered_one table shows.0 r number.0 numbers shows.1 number.1 there (subst (λ n. has_rowid n r ≡ true) id_is has) in
            let passed : p r ≡ true = ap p same ∙ shows.2 in
            absurd (let clash : true ≡ false = sym passed ∙ fails in cc)
        | inr other ↦ other
      ])

  pub rest_is : without_all table (ids_of rows) ≡ filter (λ r. not (p r)) table
  rest_is = without_all_is (ids_of rows) table ∙ same_filter (λ r. not (is_out (ids_of rows) r)) (λ r. not (p r)) table (λ r there. elim (cases_Bool (p r)) [
    | inl is ↦ ap not (out_if r there is) ∙ sym (ap not is)
    | inr fails ↦ ap not (stays_if r there fails) ∙ sym (ap not fails)
  ])

  pub rest_numbered : AreNumbered (filter (λ r. not (p r)) table)
  rest_numbered = subst AreNumbered rest_is (all_without_numbered (ids_of rows) table numbers)

-- ---- rows that are put have numbers

int_of : (v : Value) → is_int v ≡ true → (n : ℤ) × (v ≡ Int n)
int_of Null is = absurd (cc)
int_of (Int n) is = (n, refl)
int_of (Real x) is = absurd (cc)
int_of (Text t) is = absurd (cc)
int_of (Blob b) is = absurd (cc)

all_numbered : (rows news : List Row) → AreNumbered rows → have_rowids news ≡ true → are_fresh rows news ≡ true → AreNumbered (put_all rows news)
all_numbered rows [] numbered keyed fresh = numbered
all_numbered rows (new ∷ news) numbered keyed fresh =
    let here = and_parts (is_int (rowid new)) (have_rowids news) keyed in
    let parts = and_parts (not (is_taken rows new)) (are_fresh (put_row new rows) news) fresh in
    let number = int_of (rowid new) here.0 in
    all_numbered (put_row new rows) news (put_numbered new number.0 rows number.1 (not_true (is_taken rows new) parts.0) numbered) here.1 parts.1

-- ---- rows are copied

-- given what a query shows of a row whatever its number is
module _ (kept : Row → Row) (unnumbered : (v w : Value) (rest : Row) → kept (v ∷ rest) ≡ kept (w ∷ rest)) where
  shown_chosen : (rows : List Row) (v : Value) (rest : Row) → kept (with_rowid Chosen rows (v ∷ rest)) ≡ kept (v ∷ rest)
  shown_chosen rows v rest = elim (cases_Bool (is_null v)) [ inl none ↦ rw none (unnumbered _ v rest) | inr other ↦ rw other refl ]

  shown_numbered : (it : Table) (rows sources : List Row) → map kept (numbered Chosen rows (map (λ s. cast_row it (drop 0 s)) sources)) ≡ map (λ s. kept (cast_row it s)) sources
  shown_numbered it rows [] = refl
  shown_numbered it rows (s ∷ sources) =
      λ i. shown_chosen rows (cast column_kind.Integer (column s 0)) (cast_all it.columns (drop 1 s)) i ∷ shown_numbered it (put_row (with_rowid Chosen rows (cast_row it s)) rows) sources i

  -- and given terms that show the same of each row of a table, once their values are written
  module _ (it : Table) (terms : List Term) (sent : Row → Row) (params : Row) where
    abbrev pub KeepsEach : List Row → Type 0
    KeepsEach table = (r : Row) → Has table r → kept (cast_row it (shows terms params r)) ≡ sent r

    all_kept : (table : List Row) → KeepsEach table → map (λ s. kept (cast_row it s)) (map (shows terms params) table) ≡ map sent table
    all_kept [] same = refl
    all_kept (r ∷ table) same = λ i. same r (inl refl) i ∷ all_kept table (λ x there. same x (inr there)) i

    abbrev news : List Row → List Row → List Row
    news olds rows = numbered Chosen olds (map (λ s. cast_row it (drop 0 s)) rows)

    pub all_copied : (table rows olds : List Row) → KeepsEach table → IsPermutation (map (shows terms params) table) rows → AreNumbered olds → have_rowids (news olds rows) ≡ true → are_fresh olds (news olds rows) ≡ true
        → IsPermutation (map sent table ++ map kept olds) (map kept (put_all olds (news olds rows))) × AreNumbered (put_all olds (news olds rows))
    all_copied table rows olds same all numbers keyed fresh =
        let each = λ (s : Row). kept (cast_row it s) in
        let put = put_all olds (news olds rows) in
        let first : IsPermutation (map sent table) (map each rows) = subst (λ l. IsPermutation l (map each rows)) (all_kept table same) (mapped each (map (shows terms params) table) rows all) in
        let both : map kept (olds ++ news olds rows) ≡ map kept olds ++ map each rows = map-append kept olds (news olds rows) ∙ ap (λ l. map kept olds ++ l) (shown_numbered it olds rows) in
        let last : IsPermutation (map kept olds ++ map each rows) (map kept put) = subst (λ l. IsPermutation l (map kept put)) both (mapped kept (olds ++ news olds rows) put (put_every olds (news olds rows) fresh)) in (
          IsPermutation-trans (map sent table ++ map kept olds) (map each rows ++ map kept olds) (map kept put) (IsPermutation-append_left (map kept olds) (map sent table) (map each rows) first)
              (IsPermutation-trans (map each rows ++ map kept olds) (map kept olds ++ map each rows) (map kept put) (IsPermutation-append_comm (map each rows) (map kept olds)) last),
          all_numbered olds (news olds rows) numbers keyed fresh,
        )
