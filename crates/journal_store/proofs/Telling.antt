-- A row that shows an entry, once it has another confirmed revision and another id.
use Rattle.std.proofs.Common.{◌≡◌, ◌+◌, List, ℕ, [], ◌∷◌, ◌++◌, map, Option, Some, None, refl, ap, ◌∙◌, inl, inr}
use Rattle.std.specs.Option.{option_and_then}
use Rattle.std.proofs.lemmas.Bool.{cases_Bool}
use Rattle.sqlite_value.specs.Order.{Row, column}
use Rattle.sqlite_rules.specs.Cast.{cast_all}
use Rattle.scim_key.specs.Records.{same_name}
use Rattle.scim_key.specs.Revisions.{RevisionValue, confirmed_of_parts, revision_epoch, revision_number}
use Rattle.scim_key.specs.declared.records.Kind.{Kind}
use Rattle.scim_key.specs.declared.records.Kind.TheVariants.{User, Group}
use Rattle.source_csv.specs.Records.{row_name}
use Rattle.source_csv.specs.declared.rows.Row as source
use Rattle.journal_store.specs.declared.places.TheConstants.{CONFIRMED_EPOCH, GROUP_CONFIRMED, ID, KEY, USER_CONFIRMED}
use Rattle.journal_core.specs.declared.entries.Entry.{Entry}
use Rattle.journal_store.specs.Format.{entry_tables}
use Rattle.journal_store.specs.Tables.{places}
use Rattle.journal_store.specs.Resets.{kept_count}
use Rattle.journal_store.specs.Rows.{confirmed_in, entry_by, entry_in, epoch_value, fields_in, group_in, id_in, id_value, keyed, revision_value, text_columns, text_in, texts_in, texts_of, user_in}
use Rattle.journal_store.proofs.Casting.{columns_kept, some_then}
use Rattle.journal_store.proofs.Decoding.{id_back}

module _ (confirmed : RevisionValue) (id : Option (List ℕ)) where
  abbrev pub told : Entry → Entry
  told entry = record entry { confirmed = confirmed; id = id }

  -- what a query shows of the row
  abbrev pub told_shown : Kind → Row → Row
  told_shown kind s = map (column s) (places 0 (kept_count kind)) ++ revision_value confirmed ∷ id_value id ∷ column s (2 + kept_count kind) ∷ epoch_value confirmed ∷ []

  told_there : (type : Kind) (key : List ℕ) (row : Option source.Row) (old : Option RevisionValue) (old_id : Option (Option (List ℕ))) (e : Entry)
      → keyed type key (entry_by row old old_id) ≡ Some e → keyed type key (entry_by row (Some confirmed) (Some id)) ≡ Some (told e)
  told_there type key None old old_id e is = absurd (cc)
  told_there type key (Some row) None old_id e is = absurd (cc)
  told_there type key (Some row) (Some old) None e is = absurd (cc)
  told_there type key (Some row) (Some old) (Some old_id) e is = elim (cases_Bool (same_name (row_name row) (record { kind = type; key = key }))) [
    | inl same ↦
        let found : ◌≡◌ {A = Entry} (record { row = row; confirmed = old; id = old_id }) e = cc (rw same at is) in
        rw same (ap (λ (x : Entry). Some (told x)) found)
    | inr other ↦ absurd (cc (rw other at is))
  ]

  module _ (reads : confirmed_of_parts (revision_epoch confirmed) (revision_number confirmed) ≡ Some confirmed) where
    pub shows_told : (kind : Kind) (s : Row) (e : Entry) → entry_in kind s ≡ Some e → entry_in kind (told_shown kind s) ≡ Some (told e)
    unfolding texts_in text_columns
    shows_told User s e is =
        let key = some_then (text_in (column s KEY)) (λ k. keyed User k (fields_in User s)) e is in
        let given : keyed User key.0 (entry_by (user_in s) (confirmed_of_parts (revision_epoch confirmed) (revision_number confirmed)) (id_in (id_value id))) ≡ keyed User key.0 (entry_by (user_in s) (Some confirmed) (Some id)) =
        λ i. keyed User key.0 (entry_by (user_in s) (reads i) (id_back id i)) in
        ap (option_and_then (λ k. keyed User k (fields_in User (told_shown User s)))) key.1
        ∙ given ∙ told_there User key.0 (user_in s) (confirmed_in (column s (USER_CONFIRMED + CONFIRMED_EPOCH)) (column s USER_CONFIRMED)) (id_in (column s (USER_CONFIRMED + ID))) e key.2
    shows_told Group s e is =
        let key = some_then (text_in (column s KEY)) (λ k. keyed Group k (fields_in Group s)) e is in
        let given : keyed Group key.0 (entry_by (group_in s) (confirmed_of_parts (revision_epoch confirmed) (revision_number confirmed)) (id_in (id_value id))) ≡ keyed Group key.0 (entry_by (group_in s) (Some confirmed) (Some id)) =
        λ i. keyed Group key.0 (entry_by (group_in s) (reads i) (id_back id i)) in
        ap (option_and_then (λ k. keyed Group k (fields_in Group (told_shown Group s)))) key.1
        ∙ given ∙ told_there Group key.0 (group_in s) (confirmed_in (column s (GROUP_CONFIRMED + CONFIRMED_EPOCH)) (column s GROUP_CONFIRMED)) (id_in (column s (GROUP_CONFIRMED + ID))) e key.2

    -- the columns keep it
    pub told_kept : (kind : Kind) (s : Row) (e : Entry) → entry_in kind s ≡ Some e → cast_all (entry_tables kind).columns (told_shown kind s) ≡ told_shown kind s
    told_kept User s e is = columns_kept User (told_shown User s) (told e) (shows_told User s e is)
    told_kept Group s e is = columns_kept Group (told_shown Group s) (told e) (shows_told Group s e is)

  pub same_key : (kind : Kind) (s : Row) → column (told_shown kind s) 0 ≡ column s 0
  same_key User s = refl
  same_key Group s = refl

  pub same_texts : (kind : Kind) (s : Row) → texts_of kind (told_shown kind s) ≡ texts_of kind s
  unfolding text_columns
  same_texts User s = refl
  same_texts Group s = refl
