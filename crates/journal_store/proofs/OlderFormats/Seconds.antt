-- The queries over the tables of the second format.
use Rattle.std.proofs.Common.{◌≡◌, ℕ, true, List, [], ◌∷◌, ◌++◌, codes, map, pos, refl}
use Rattle.sqlite_value.specs.declared.value.Value.TheVariants.{Int}
use Rattle.sqlite_value.specs.Order.{Row, column}
use Rattle.sqlite_schema.specs.declared.schema.Column.{Column}
use Rattle.sqlite_sql.specs.Program.{overlay}
use Rattle.sqlite_sql.specs.Term.{Env, Term, col, eval, eval_all, lit}
use Rattle.sqlite_trees.specs.Tree.{Trees, rowid}
use Rattle.sqlite_tied.specs.Compute.{everything}
use Rattle.sqlite_typing.specs.Types.{accepts_program}
use Rattle.sqlite.specs.Listing.{understood}
use Rattle.scim_key.specs.declared.records.Kind.{Kind}
use Rattle.scim_key.specs.declared.records.Kind.TheVariants.{User, Group}
use Rattle.sql_tables.specs.Layouts.{format_tree}
use Rattle.sql_tables.specs.Statements.{IsGiven}
use Rattle.sql_tables.proofs.Marking.{marked_shown}
use Rattle.sql_tables.proofs.Queries.{IsSelect, given_by, query}
use Rattle.sql_tables.proofs.Selecting.{shows}
use Rattle.journal_store.specs.Connections.{Lists}
use Rattle.journal_store.specs.Older.Format.{SecondForm, second_all_text, second_count, second_numbers_text, second_schema, second_tables, second_tree}
use Rattle.journal_store.specs.Format.{marked_text}
use Rattle.journal_store.specs.Tables.{places}
use Rattle.journal_store.specs.Older.Rows.{second_row}
use Rattle.journal_store.proofs.Finding.{lists_by}
use Rattle.journal_store.proofs.Texts.{all_order, number_order, number_shown}

-- ---- what they mean

-- the epochs, and the names of their columns
abbrev pub no_epoch_terms : List Term
no_epoch_terms = lit (Int (pos 0)) ∷ lit (Int (pos 0)) ∷ []

abbrev pub no_epoch_heads : List (List ℕ)
no_epoch_heads = codes "0" ∷ codes "0" ∷ []

-- each row in the form of the current format
abbrev pub second_terms : Kind → List Term
second_terms kind = map (col 1) (places 1 (second_count kind)) ++ no_epoch_terms

abbrev pub second_heads : Kind → List (List ℕ)
second_heads kind = map (λ (c : Column). c.name) (second_tables kind).columns ++ no_epoch_heads

pub second_all_is : (kind : Kind) → IsSelect second_schema (second_all_text kind) (second_tree kind) [] (second_terms kind) all_order (second_heads kind) 0
unfolding understood everything
second_all_is User = record { means = λ f. refl; reads = λ f. ((refl, refl), refl); fits = λ f. (refl, refl) }
second_all_is Group = record { means = λ f. refl; reads = λ f. ((refl, refl), refl); fits = λ f. (refl, refl) }

pub second_numbers_is : (kind : Kind) → IsSelect second_schema (second_numbers_text kind) (second_tree kind) [] number_shown number_order (codes "rowid" ∷ []) 0
unfolding understood everything
second_numbers_is User = record { means = λ f. refl; reads = λ f. ((refl, refl), refl); fits = λ f. (refl, refl) }
second_numbers_is Group = record { means = λ f. refl; reads = λ f. ((refl, refl), refl); fits = λ f. (refl, refl) }

pub second_marked_is : IsSelect second_schema marked_text format_tree [] marked_shown [] (codes "number" ∷ []) 0
unfolding understood everything
second_marked_is = record { means = λ f. refl; reads = λ f. ((refl, refl), refl); fits = λ f. (refl, refl) }

-- ---- they are whole, and aren't refused

all_accepted : (kind : Kind) (f : SecondForm) → accepts_program (second_schema f) [] (query (second_tree kind) [] (second_terms kind) all_order) [] ≡ true
unfolding everything
all_accepted User f = refl
all_accepted Group f = refl

numbers_accepted : (kind : Kind) (f : SecondForm) → accepts_program (second_schema f) [] (query (second_tree kind) [] number_shown number_order) [] ≡ true
unfolding everything
numbers_accepted User f = refl
numbers_accepted Group f = refl

marked_accepted : (f : SecondForm) → accepts_program (second_schema f) [] (query format_tree [] marked_shown []) [] ≡ true
unfolding everything
marked_accepted f = refl

pub second_all_given : (kind : Kind) → IsGiven second_schema (second_all_text kind) []
second_all_given kind = given_by [] (second_all_is kind) refl (all_accepted kind)

pub second_numbers_given : (kind : Kind) → IsGiven second_schema (second_numbers_text kind) []
second_numbers_given kind = given_by [] (second_numbers_is kind) refl (numbers_accepted kind)

pub second_marked_given : IsGiven second_schema marked_text []
second_marked_given = given_by [] second_marked_is refl marked_accepted

-- ---- what they answer

own_tree : (kind : Kind) (db : Trees) → overlay db [] (second_tree kind) ≡ db (second_tree kind)
own_tree User db = refl
own_tree Group db = refl

shows_second : (kind : Kind) (r : Row) → shows (second_terms kind) [] r ≡ second_row kind r
shows_second User r = refl
shows_second Group r = refl

by_key : (kind : Kind) (env : Env) → eval (col 1 1) env ≡ column (eval_all (second_terms kind) env) 0
by_key User env = refl
by_key Group env = refl

pub second_listed : (kind : Kind) → Lists second_schema (second_tree kind) (second_row kind) (second_all_text kind)
second_listed kind = lists_by (second_tree kind) (own_tree kind) (second_all_text kind) (second_terms kind) (col 1 1) (second_heads kind) (second_row kind) (second_all_is kind) (shows_second kind) (by_key kind)

pub second_numbers_listed : (kind : Kind) → Lists second_schema (second_tree kind) (λ (r : Row). rowid r ∷ []) (second_numbers_text kind)
second_numbers_listed kind = lists_by (second_tree kind) (own_tree kind) (second_numbers_text kind) number_shown (col 1 0) (codes "rowid" ∷ []) (λ (r : Row). rowid r ∷ []) (second_numbers_is kind) (λ r. refl) (λ env. refl)
