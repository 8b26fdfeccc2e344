-- What the statements mean over the tables.
use Rattle.std.proofs.Common.{ℕ, ◌+◌, List, [], ◌∷◌, codes, drop, map, false, refl}
use Rattle.sqlite_value.specs.declared.value.Value.TheVariants.{Null}
use Rattle.sqlite_value.specs.declared.keys.Key.{Key}
use Rattle.sqlite_value.specs.declared.keys.Collation.TheVariants.{Binary}
use Rattle.sqlite_sql.specs.Term.{Term, lit, col, op2}
use Rattle.sqlite_sql.specs.declared.ops.BinaryOp.TheVariants.{Compare}
use Rattle.sqlite_sql.specs.declared.ops.CompareOp.TheVariants.{Eq}
use Rattle.sqlite_schema.specs.declared.schema.Column.{Column}
use Rattle.sqlite_schema.specs.declared.command.Source.TheVariants.{Values}
use Rattle.sqlite_schema.specs.declared.command.Command.TheVariants.{Insert, Update}
use Rattle.sqlite_tied.specs.Compute.{everything}
use Rattle.sqlite.specs.Listing.{understood}
use Rattle.scim_key.specs.declared.records.Kind.{Kind}
use Rattle.scim_key.specs.declared.records.Kind.TheVariants.{User, Group}
use Rattle.sql_tables.proofs.Queries.{IsSelect, query}
use Rattle.sql_tables.proofs.Editing.{IsWrite}
use Rattle.sql_tables.proofs.Marking.{marked_shown}
use Rattle.journal_store.specs.Format.{all_text, column_count, entry_place, entry_tables, entry_tree, find_text, insert_text, journal_schema, marked_text, numbers_text, update_text}
use Rattle.journal_store.specs.Tables.{places}
use Rattle.sql_tables.specs.Layouts.{format_tree}

abbrev pub key_is : Term
key_is = op2 (Compare Eq Binary) (col 1 1) (col 0 0)

abbrev pub shown_terms : Kind → List Term
shown_terms kind = map (col 1) (places 1 (column_count kind))

abbrev pub names : Kind → List (List ℕ)
names kind = map (λ (c : Column). c.name) (entry_tables kind).columns

pub find_is : (kind : Kind) → IsSelect journal_schema (find_text kind) (entry_tree kind) (key_is ∷ []) (shown_terms kind) [] (names kind) 1
unfolding understood everything
find_is User = record { means = λ f. refl; reads = λ f. ((refl, refl), refl); fits = λ f. (refl, refl) }
find_is Group = record { means = λ f. refl; reads = λ f. ((refl, refl), refl); fits = λ f. (refl, refl) }

-- by the key
abbrev pub all_order : List (Term × Key)
all_order = (col 1 1, record { collation = Binary; descending = false }) ∷ []

pub all_is : (kind : Kind) → IsSelect journal_schema (all_text kind) (entry_tree kind) [] (shown_terms kind) all_order (names kind) 0
unfolding understood everything
all_is User = record { means = λ f. refl; reads = λ f. ((refl, refl), refl); fits = λ f. (refl, refl) }
all_is Group = record { means = λ f. refl; reads = λ f. ((refl, refl), refl); fits = λ f. (refl, refl) }

abbrev pub insert_terms : Kind → List Term
insert_terms kind = lit Null ∷ map (col 0) (places 0 (column_count kind))

abbrev pub insert_width : Kind → ℕ
insert_width kind = 1 + column_count kind

pub insert_is : (kind : Kind) → IsWrite journal_schema (insert_text kind) (Insert (entry_place kind) (Values (insert_terms kind) (insert_width kind)))
unfolding understood everything
insert_is User = record { means = λ f. refl; plain = λ f. (refl, refl) }
insert_is Group = record { means = λ f. refl; plain = λ f. (refl, refl) }

abbrev pub update_terms : Kind → List Term
update_terms kind = col 1 0 ∷ col 1 0 ∷ col 1 1 ∷ map (col 0) (drop 1 (places 0 (column_count kind)))

pub update_is : (kind : Kind) → IsWrite journal_schema (update_text kind) (Update (entry_place kind) (record { lets = []; body = query (entry_tree kind) (key_is ∷ []) (update_terms kind) [] }))
unfolding understood everything
update_is User = record { means = λ f. refl; plain = λ f. (refl, refl) }
update_is Group = record { means = λ f. refl; plain = λ f. (refl, refl) }

-- ---- the opening

pub marked_is : IsSelect journal_schema marked_text format_tree [] marked_shown [] (codes "number" ∷ []) 0
unfolding understood everything
marked_is = record { means = λ f. refl; reads = λ f. ((refl, refl), refl); fits = λ f. (refl, refl) }

-- the number of a row
abbrev pub number_shown : List Term
number_shown = col 1 0 ∷ []

abbrev pub number_order : List (Term × Key)
number_order = (col 1 0, record { collation = Binary; descending = false }) ∷ []

pub numbers_is : (kind : Kind) → IsSelect journal_schema (numbers_text kind) (entry_tree kind) [] number_shown number_order (codes "rowid" ∷ []) 0
unfolding understood everything
numbers_is User = record { means = λ f. refl; reads = λ f. ((refl, refl), refl); fits = λ f. (refl, refl) }
numbers_is Group = record { means = λ f. refl; reads = λ f. ((refl, refl), refl); fits = λ f. (refl, refl) }
