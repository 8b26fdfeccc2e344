-- What the rows of an answer are, over the tables of a layout.
use Rattle.std.proofs.Common.{◌≡◌, ℕ, List, [], ◌∷◌, map, filter, Ok, Err, Result, refl, ap, ◌∙◌, subst, arith, IsPermutation}
use Rattle.std.proofs.lemmas.List.Sorted.{length_permutation}
use Rattle.sqlite_value.specs.declared.keys.Key.{Key}
use Rattle.sqlite_value.specs.Order.{Row}
use Rattle.sqlite_sql.specs.Program.{overlay}
use Rattle.sqlite_sql.specs.Term.{Term}
use Rattle.sqlite_trees.specs.Tree.{Trees}
use Rattle.sqlite_schema.specs.declared.schema.Schema.{Schema}
use Rattle.sqlite_schema.specs.declared.command.Command.TheVariants.{Select}
use Rattle.sqlite_resolve.specs.declared.compiled.Compiled.{Compiled}
use Rattle.sqlite_resolve.specs.declared.error.CompileError.{CompileError}
use Rattle.sqlite.specs.Effect.{Database, Reads}
use Rattle.sqlite.specs.Given.{IsPlain}
use Rattle.sqlite.specs.Listing.{understood}
use Rattle.sqlite.specs.State.{State}
use Rattle.sqlite.proofs.Callers.{command_of, one_permutation}
use Rattle.sql_tables.specs.Layouts.{IsLaid}
use Rattle.sql_tables.specs.Statements.{Answers}
use Rattle.sql_tables.proofs.Queries.{IsSelect, query}
use Rattle.sql_tables.proofs.Selecting.{passes, selected_over, shows}

read_by : (r : Result Compiled CompileError) (db : Database) (params : Row) (rows : List Row) → IsPlain r → ((c : Compiled) → r ≡ Ok c → Reads c.command db params rows) → Reads (command_of r) db params rows
read_by (Ok c) db params rows plain reads = reads c refl
read_by (Err e) db params rows plain reads = absurd plain

module _ {Form : Type 0} {layout : Form → Schema} (s : State) {sql : List ℕ} {tree : ℕ} {terms shown : List Term} {order : List (Term × Key)} {heads : List (List ℕ)} {count : ℕ} (params : Row) (rows : List Row)
    (is : IsSelect layout sql tree terms shown order heads count) (laid : IsLaid layout s) (answers : Answers sql params s rows) where
  pub read_as : Reads (Select (record { lets = []; body = query tree terms shown order }) heads) s.now params rows
  read_as =
      let schema = layout laid.form in
      let reads = read_by (understood schema sql) s.now params rows (is.reads laid.form).0 (λ c known. answers c (ap (λ x. understood x sql) laid.schema ∙ known)) in
      subst (λ it. Reads it s.now params rows) (is.means laid.form) reads

  pub answered_by : ((db : Trees) → overlay db [] tree ≡ db tree) → IsPermutation (map (shows shown params) (filter (passes terms params) (s.now.trees tree))) rows
  answered_by own = selected_over tree terms shown order params own s.now rows read_as

-- ---- short answers

pub nothing : {A : Type 0} (xs : List A) → IsPermutation [] xs → xs ≡ []
nothing [] same = refl
nothing (x ∷ xs) same = absurd (omega (arith, length_permutation [] (x ∷ xs) same))

pub empty : {A B : Type 0} (f : A → B) (xs : List A) → IsPermutation (map f xs) [] → xs ≡ []
empty f [] same = refl
empty f (x ∷ xs) same = absurd (omega (arith, length_permutation (map f (x ∷ xs)) [] same))

pub single : {A B : Type 0} (f : A → B) (xs : List A) (y : B) → IsPermutation (map f xs) (y ∷ []) → (x : A) × (xs ≡ x ∷ []) × (y ≡ f x)
single f [] y same = absurd (omega (arith, length_permutation (map f []) (y ∷ []) same))
single f (x ∷ []) y same = (x, refl, let one : y ∷ [] ≡ f x ∷ [] = one_permutation (f x) (y ∷ []) same in cc)
single f (x ∷ z ∷ xs) y same = absurd (omega (arith, length_permutation (map f (x ∷ z ∷ xs)) (y ∷ []) same))

-- without a test every row passes
pub every : (table : List Row) (params : Row) → filter (passes [] params) table ≡ table
every [] params = refl
every (r ∷ table) params = ap (λ l. r ∷ l) (every table params)
