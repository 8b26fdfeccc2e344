-- All that is offered for a snapshot, of the parts that the code makes.
use Rattle.std.proofs.Common.{◌≡◌, ℕ, ◌+◌, suc, Bool, true, false, List, [], ◌∷◌, ◌++◌, length, Option, Some, None, is_some, Result, refl, ap, sym, subst, ◌∙◌}
use Rattle.std.proofs.lemmas.List.{append-nil}
use Rattle.scim_key.specs.declared.records.Kind.{Kind}
use Rattle.scim_key.specs.declared.records.RecordName.{RecordName}
use Rattle.source_csv.specs.declared.faults.RowFault.{RowFault}
use Rattle.source_csv.specs.declared.rows.Row.{Row}
use Rattle.snapshots.specs.Snapshots.{Said, Wanted, absent_if_sure, mentions_in, numbered, numbered_absent, numbered_file, unsure}
use Rattle.snapshots.specs.declared.doubts.Unsure.{Unsure}

file_length : (wanted : Wanted) (mentions : RecordName → ℕ) (place : ℕ) (records : List Said)
    → length (numbered_file wanted mentions place records) ≡ length records
file_length wanted mentions place [] = refl
file_length wanted mentions place (said ∷ records) = ap suc (file_length wanted mentions (place + 1) records)

is_none : (why : Option Unsure) → is_some why ≡ false → why ≡ None
is_none None e = refl
is_none (Some why) e = absurd (cc)

offers_none : (why : Option Unsure) (rows : List (Result Row RowFault)) → is_some why ≡ true → absent_if_sure why rows
    ≡ []
offers_none None rows e = absurd (cc)
offers_none (Some why) rows e = refl

module _ (wanted : Wanted) (names : List RecordName) (of : Kind) (records : List Said) (is_closed : Bool)
    (mentions : RecordName → ℕ)
    (file rows : List (Result Row RowFault)) (why : Option Unsure) (counted : (name : RecordName) → mentions name
    ≡ mentions_in records name)
    (made : file ≡ numbered_file wanted mentions 1 records) (reason : why ≡ unsure is_closed records) where
  same : mentions ≡ mentions_in records
  same = λ i name. counted name i

  of_file : file ≡ numbered_file wanted (mentions_in records) 1 records
  of_file = subst (λ m. file ≡ numbered_file wanted m 1 records) same made

  abbrev absent : ℕ → List (Result Row RowFault)
  absent place = numbered_absent wanted (mentions_in records) of place names

  pub unsure_whole : is_some why ≡ true → rows ≡ file → rows ≡ numbered wanted names of records is_closed
  unfolding numbered
  unsure_whole doubtful is =
      is ∙ of_file ∙ sym (append-nil (numbered_file wanted (mentions_in records) 1 records))
      ∙ ap (λ l. numbered_file wanted (mentions_in records) 1 records ++ l)
      (sym (offers_none (unsure is_closed records) (absent (length records + 1))
      (subst (λ w. is_some w ≡ true) reason doubtful)))

  pub sure_whole : is_some why ≡ false → rows ≡ file ++ numbered_absent wanted mentions of (length file + 1) names
      → rows ≡ numbered wanted names of records is_closed
  unfolding numbered
  sure_whole certain is =
      let length_is : length file ≡ length records = ap length of_file
      ∙ file_length wanted (mentions_in records) 1 records in
      let none : unsure is_closed records ≡ None = sym reason ∙ is_none why certain in
      subst (λ m. rows ≡ file ++ numbered_absent wanted m of (length file + 1) names) same is
      ∙ ap (λ l. l ++ absent (length file + 1)) of_file
      ∙ ap (λ n. numbered_file wanted (mentions_in records) 1 records ++ absent (n + 1)) length_is
      ∙ ap (λ w. numbered_file wanted (mentions_in records) 1 records ++ absent_if_sure w
      (absent (length records + 1))) (sym none)
