-- The queries over the tables of the first format.
use Rattle.std.proofs.Common.{◌≡◌, ℕ, true, List, [], ◌∷◌, ◌++◌, codes, map, refl}
use Rattle.sqlite_value.specs.declared.value.Value.TheVariants.{Text}
use Rattle.sqlite_value.specs.Order.{Row, column}
use Rattle.sqlite_sql.specs.Program.{overlay}
use Rattle.sqlite_sql.specs.Term.{Env, Term, col, eval, eval_all, lit}
use Rattle.sqlite_trees.specs.Tree.{Trees, rowid}
use Rattle.sqlite_tied.specs.Compute.{everything}
use Rattle.sqlite_typing.specs.Types.{accepts_program}
use Rattle.sqlite.specs.Listing.{understood}
use Rattle.scim_key.specs.declared.records.Kind.{Kind}
use Rattle.scim_key.specs.declared.records.Kind.TheVariants.{User, Group}
use Rattle.sql_tables.specs.Layouts.{format_tree}
use Rattle.sql_tables.specs.Statements.{IsGiven}
use Rattle.sql_tables.proofs.Marking.{marked_shown}
use Rattle.sql_tables.proofs.Queries.{IsSelect, given_by, query}
use Rattle.sql_tables.proofs.Selecting.{shows}
use Rattle.journal_store.specs.Connections.{Lists}
use Rattle.journal_store.specs.Older.Format.{FirstForm, first_all_text, first_numbers_text, first_schema, first_tree}
use Rattle.journal_store.specs.Format.{marked_text}
use Rattle.journal_store.specs.Tables.{places}
use Rattle.journal_store.specs.Older.Rows.{first_row}
use Rattle.journal_store.proofs.Finding.{lists_by}
use Rattle.journal_store.proofs.OlderFormats.Seconds.{no_epoch_heads, no_epoch_terms, second_heads, second_terms}
use Rattle.journal_store.proofs.Texts.{all_order, number_order, number_shown}

-- ---- what they mean

-- each row in the form of the current format
abbrev pub first_terms : Kind → List Term
first_terms User = map (col 1) (places 1 7) ++ lit (Text []) ∷ map (col 1) (places 8 3) ++ no_epoch_terms
first_terms Group = second_terms Group

abbrev first_heads : Kind → List (List ℕ)
first_heads User =
    codes "name_key" ∷ codes "login" ∷ codes "revision" ∷ codes "number" ∷ codes "given" ∷ codes "family" ∷ codes "mail" ∷ codes "''" ∷ codes "active"
    ∷ codes "confirmed" ∷ codes "id" ∷ no_epoch_heads
first_heads Group = second_heads Group

pub first_all_is : (kind : Kind) → IsSelect first_schema (first_all_text kind) (first_tree kind) [] (first_terms kind) all_order (first_heads kind) 0
unfolding understood everything
first_all_is User = record { means = λ f. refl; reads = λ f. ((refl, refl), refl); fits = λ f. (refl, refl) }
first_all_is Group = record { means = λ f. refl; reads = λ f. ((refl, refl), refl); fits = λ f. (refl, refl) }

pub first_numbers_is : (kind : Kind) → IsSelect first_schema (first_numbers_text kind) (first_tree kind) [] number_shown number_order (codes "rowid" ∷ []) 0
unfolding understood everything
first_numbers_is User = record { means = λ f. refl; reads = λ f. ((refl, refl), refl); fits = λ f. (refl, refl) }
first_numbers_is Group = record { means = λ f. refl; reads = λ f. ((refl, refl), refl); fits = λ f. (refl, refl) }

pub first_marked_is : IsSelect first_schema marked_text format_tree [] marked_shown [] (codes "number" ∷ []) 0
unfolding understood everything
first_marked_is = record { means = λ f. refl; reads = λ f. ((refl, refl), refl); fits = λ f. (refl, refl) }

-- ---- they are whole, and aren't refused

all_accepted : (kind : Kind) (f : FirstForm) → accepts_program (first_schema f) [] (query (first_tree kind) [] (first_terms kind) all_order) [] ≡ true
unfolding everything
all_accepted User f = refl
all_accepted Group f = refl

numbers_accepted : (kind : Kind) (f : FirstForm) → accepts_program (first_schema f) [] (query (first_tree kind) [] number_shown number_order) [] ≡ true
unfolding everything
numbers_accepted User f = refl
numbers_accepted Group f = refl

marked_accepted : (f : FirstForm) → accepts_program (first_schema f) [] (query format_tree [] marked_shown []) [] ≡ true
unfolding everything
marked_accepted f = refl

pub first_all_given : (kind : Kind) → IsGiven first_schema (first_all_text kind) []
first_all_given kind = given_by [] (first_all_is kind) refl (all_accepted kind)

pub first_numbers_given : (kind : Kind) → IsGiven first_schema (first_numbers_text kind) []
first_numbers_given kind = given_by [] (first_numbers_is kind) refl (numbers_accepted kind)

pub first_marked_given : IsGiven first_schema marked_text []
first_marked_given = given_by [] first_marked_is refl marked_accepted

-- ---- what they answer

own_tree : (kind : Kind) (db : Trees) → overlay db [] (first_tree kind) ≡ db (first_tree kind)
own_tree User db = refl
own_tree Group db = refl

shows_first : (kind : Kind) (r : Row) → shows (first_terms kind) [] r ≡ first_row kind r
shows_first User r = refl
shows_first Group r = refl

by_key : (kind : Kind) (env : Env) → eval (col 1 1) env ≡ column (eval_all (first_terms kind) env) 0
by_key User env = refl
by_key Group env = refl

pub first_listed : (kind : Kind) → Lists first_schema (first_tree kind) (first_row kind) (first_all_text kind)
first_listed kind = lists_by (first_tree kind) (own_tree kind) (first_all_text kind) (first_terms kind) (col 1 1) (first_heads kind) (first_row kind) (first_all_is kind) (shows_first kind) (by_key kind)

pub first_numbers_listed : (kind : Kind) → Lists first_schema (first_tree kind) (λ (r : Row). rowid r ∷ []) (first_numbers_text kind)
first_numbers_listed kind = lists_by (first_tree kind) (own_tree kind) (first_numbers_text kind) number_shown (col 1 0) (codes "rowid" ∷ []) (λ (r : Row). rowid r ∷ []) (first_numbers_is kind) (λ r. refl) (λ env. refl)
