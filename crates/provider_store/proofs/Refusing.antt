-- Which rows an opening refuses, and that it takes no others.
use Rattle.std.proofs.Common.{◌≡◌, ◌≢◌, ◌⊎◌, ℕ, zero, suc, ◌+◌, ◌≤◌, pos, true, List, [], ◌∷◌, filter, length, Some, None, Result, Ok, Err, IfOk, OnOk, refl, sym, ap, ◌∙◌, subst, inl, inr, arith}
use Rattle.std.specs.Prelude.{slice_get}
use Rattle.std.proofs.lemmas.Bool.{cases_lt}
use Rattle.sqlite_value.specs.declared.value.Value.TheVariants.{Int}
use Rattle.sqlite_value.specs.Order.{Row, column}
use Rattle.sqlite_trees.specs.Tree.{rowid, has_rowid}
use Rattle.sqlite_rules.specs.Lists.{Has}
use Rattle.sqlite_rules.proofs.ListLemmas.{has_kept, has_filtered}
use Rattle.sqlite.specs.State.{State}
use Rattle.sqlite_schema.specs.declared.schema.Schema.{Schema}
use Rattle.scim_key.specs.declared.records.RecordName.{RecordName}
use Rattle.scim_resource.specs.Contents.{content_name}
use Rattle.scim_resource.specs.Rows.{StoredRecord}
use Rattle.provider_store.specs.Format.{format_number}
use Rattle.provider_store.specs.Rows.{shown_row, IsRowOf, record_in, Holds}
use Rattle.provider_store.specs.Lawful.{has_name, IsLawfulAt, IsWrong, NoneNamed, AreLawfulTo, is_outside, AreAllLawful, IsFirstWrong, IsAstray, IsUnlawfulAt}
use Rattle.provider_store.specs.Connections.{IsLaid, AreDamaged, FindsName, resources}
use Rattle.provider_store.specs.Opening.{IsProvider, IsStore, IsDamaged, IsSpoilt, IsUnmarked, Stands}
use Rattle.provider_store.specs.declared.tables.Found.{Found}
use Rattle.provider_store.specs.declared.tables.Found.TheVariants.{Nothing, Damaged}
use Rattle.provider_store.proofs.Finding.{same_some, only_one}
use Rattle.provider_store.proofs.Holding.{number_of, shown_record, few, none_past}
use Rattle.sql_tables.proofs.Looking.{one_of_laid}
use Rattle.provider_store.proofs.Outside.{outside_passes, outside_tests}
use Rattle.sql_tables.specs.Layouts.{IsFormat, IsBlank}

-- ---- one row

pub one_of : {X : Type 0} (xs : List X) (x y : X) → xs ≡ x ∷ [] → xs ≡ y ∷ [] → x ≡ y
one_of xs x y here there = let e : x ∷ [] ≡ y ∷ [] = sym here ∙ there in cc

-- the record that a row shows is the only one
pub one_record : (q r : Row) (s t : StoredRecord) → q ≡ r → IsRowOf (shown_row q) s → IsRowOf (shown_row r) t → s ≡ t
one_record q r s t same first second = same_some s t (sym (shown_record (shown_row q) s first) ∙ ap (λ x. record_in (shown_row x)) same ∙ shown_record (shown_row r) t second)

pub numbered_there : (table : List Row) (number : ℕ) (row : Row) → filter (has_rowid (pos number)) table ≡ row ∷ [] → Has table row
numbered_there table number row only = (has_filtered (has_rowid (pos number)) table row (subst (λ l. Has l row) (sym only) (inl refl))).0

none_none : (table : List Row) (name : RecordName) → FindsName table name Nothing → NoneNamed table name
none_none table name none r s one shows = absurd (let clash : [] ≡ r ∷ [] = sym none ∙ one in cc)

-- a look-up of a name that found no row, or found one that shows no record
pub none_by : (table : List Row) (name : RecordName) (found : Found) → (found ≡ Nothing) ⊎ (found ≡ Damaged) → FindsName table name found → NoneNamed table name
none_by table name found (inl nothing) it = none_none table name (subst (FindsName table name) nothing it)
none_by table name found (inr damaged) it = (let rows : AreDamaged (filter (has_name name) table) = subst (FindsName table name) damaged it in rows.unread)

module _ (table : List Row) (number : ℕ) (row : Row) (held : StoredRecord) (only : filter (has_rowid (pos number)) table ≡ row ∷ []) (shows : IsRowOf (shown_row row) held) where
  pub told_number : held.number ≡ number
  told_number =
      let at : rowid row ≡ Int (pos number) = number_of row held number table shows only in
      let own : Int (pos held.number) ≡ Int (pos number) = sym (ap (λ r. column r 0) shows.shows) ∙ at in
      cc

  pub wrong_shared : NoneNamed table (content_name held.content) → IsWrong table number
  wrong_shared none = record {
    stands = λ nothing. absurd (let clash : [] ≡ row ∷ [] = sym nothing ∙ only in cc);
    unlawful = λ it.
        let same : it.row ≡ row = one_of (filter (has_rowid (pos number)) table) it.row row it.only only in
        let held_is : it.held ≡ held = one_record it.row row it.held held same it.shows shows in
        none it.row it.held (ap (λ (h : StoredRecord). filter (has_name (content_name h.content)) table) (sym held_is) ∙ it.named) it.shows;
  }

  -- a row that is the only one with its name is valid
  pub lawful_alone : (r : Row) → Has (filter (has_name (content_name held.content)) table) row → filter (has_name (content_name held.content)) table ≡ r ∷ [] → IsLawfulAt table number
  lawful_alone r there alone = record { row = row; held = held; only = only; shows = shows; named = alone ∙ ap (λ x. x ∷ []) (sym (only_one _ r row alone there)) }

pub wrong_damaged : (table : List Row) (number : ℕ) → AreDamaged (filter (has_rowid (pos number)) table) → IsWrong table number
wrong_damaged table number it = record { stands = it.some; unlawful = λ l. it.unread l.row l.held l.only l.shows }

-- ---- the rows in turn

pub none_lawful : (table : List Row) → AreLawfulTo table 0
none_lawful table n low high = absurd (omega (arith, low, high))

pub next_lawful : (table : List Row) (count : ℕ) → AreLawfulTo table count → IsLawfulAt table (count + 1) → AreLawfulTo table (count + 1)
next_lawful table count before next n low high = elim (cases_lt n (count + 1)) [
  | inl below ↦ before n low (omega (arith, below))
  | inr above ↦ let same : count + 1 ≡ n = omega (arith, above, high) in subst (IsLawfulAt table) same next
]

pub first_wrong : (table : List Row) (count told : ℕ) → AreLawfulTo table count → told ≡ count + 1 → IsWrong table (count + 1) → IsFirstWrong table told
first_wrong table count told before is wrong = record {
  from_one = omega (arith, is);
  before = λ n low high. before n low (omega (arith, is, high));
  wrong = subst (IsWrong table) (sym is) wrong;
}

-- ---- the tables

pub spoilt_by : (s : State) (number : ℕ) → IsLaid s → IsFormat s format_number → IsUnlawfulAt (resources s) number → IsSpoilt s number
spoilt_by s number laid format row = (one_of_laid s laid, inr (record { format = format; row = row }))

-- ---- all rows

module _ (table : List Row) (rows : List StoredRecord) (holds : Holds table rows) (all : AreAllLawful table (length rows)) where
  stands_within : (n : ℕ) → 1 ≤ n → filter (has_rowid (pos n)) table ≢ [] → n ≤ length rows
  stands_within zero low stands = absurd (omega (arith, low))
  stands_within (suc n) low stands = elim (slice_get rows n) as (λ it. slice_get rows n ≡ it → suc n ≤ length rows) [
    | None ↦ λ none. absurd (stands (holds.none n none))
    | Some s ↦ λ is. elim (cases_lt n (length rows)) [ inl near ↦ omega (arith, near) | inr far ↦ absurd (let never = sym is ∙ none_past rows n far in cc) ]
  ] refl

  no_astray : (number : ℕ) → IsAstray table number → ⊥
  no_astray number it = elim (cases_lt it.count (length rows)) [
    | inl less ↦ elim (it.ends) [
      | inl free ↦ absurd (let next = all.each (suc it.count) (omega arith) (omega (arith, less)) in let clash : [] ≡ next.row ∷ [] = sym free ∙ next.only in cc)
      | inr last ↦ absurd (omega (arith, less, last, few table rows holds))
    ]
    | inr not_less ↦ elim (cases_lt (length rows) it.count) [
      | inl more ↦
          let next = it.before (suc (length rows)) (omega arith) (omega (arith, more)) in
          let was = has_filtered (has_rowid (pos (suc (length rows)))) table next.row (subst (λ l. Has l next.row) (sym next.only) (inl refl)) in
          let outside : is_outside (length rows) (rowid next.row) ≡ true = sym (outside_tests (length rows) next.row) ∙ outside_passes (length rows) (suc (length rows)) next.row (omega arith) was.1 in
          subst (λ l. Has l next.row) all.within (has_kept (λ r. is_outside (length rows) (rowid r)) table next.row was.0 outside)
      | inr not_more ↦
          let same : it.count ≡ length rows = omega (arith, not_less, not_more) in
          let beside = it.beside in
          let outside : is_outside (length rows) (rowid beside.row) ≡ true = subst (λ n. is_outside n (rowid beside.row) ≡ true) same beside.outside in
          subst (λ l. Has l beside.row) all.within (has_kept (λ r. is_outside (length rows) (rowid r)) table beside.row beside.there outside)
    ]
  ]

  first_within : (number : ℕ) → IsFirstWrong table number → ⊥
  first_within number it = it.wrong.unlawful (all.each number it.from_one (stands_within number it.from_one it.wrong.stands))

  pub no_unlawful : (number : ℕ) → IsUnlawfulAt table number → ⊥
  no_unlawful number (inl wrong) = first_within number wrong
  no_unlawful number (inr astray) = no_astray number astray

-- ---- the store

-- a store that an opening accepts isn't one that it refuses
module _ (s : State) (rows : List StoredRecord) (store : IsStore s rows) where
  provider : IsProvider s.now.schema
  provider = one_of_laid s store.laid

  marked : IsUnmarked s → ⊥
  marked none = none format_number (omega arith) store.format

  pub taken_sound : (number : ℕ) → IsDamaged s number → ⊥
  taken_sound number (inl foreign) = foreign.1.other provider
  taken_sound number (inr spoilt) = elim (spoilt.1) [ inl unmarked ↦ marked unmarked.1 | inr unlawful ↦ no_unlawful (resources s) rows store.holds store.lawful number unlawful.row ]

pub stands_sound : (s : State) (rows : List StoredRecord) → Stands s rows → (number : ℕ) → IsDamaged s number → ⊥
stands_sound s rows (inl store) number damaged = taken_sound s rows store number damaged
stands_sound s rows (inr blank) number (inl foreign) = foreign.1.stand blank.0.schema
stands_sound s rows (inr blank) number (inr spoilt) = absurd (let clash = ap (λ (x : Schema). x.tables) (sym blank.0.schema ∙ spoilt.0.is) in cc)

pub blank_sound : (s : State) → IsBlank s → (number : ℕ) → IsDamaged s number → ⊥
blank_sound s blank = stands_sound s [] (inr (blank, refl))

pub checked_sound : {F : Type 0} (s : State) (r : Result ℕ F) → IfOk r (λ count. (rows : List StoredRecord) × IsStore s rows × (length rows ≡ count)) → OnOk r ((number : ℕ) → IsDamaged s number → ⊥)
checked_sound s (Ok count) it = taken_sound s it.0 it.1
checked_sound s (Err fault) it = tt
