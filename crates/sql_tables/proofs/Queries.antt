-- What the text of a query over one table is, and what follows for it.
use Rattle.std.proofs.Common.{◌≡◌, ◌≤◌, ℕ, pos, negsuc, true, false, leb, List, [], length, None, Result, Ok, Err, refl, sym, ap, ◌∙◌, subst, inl, inr}
use Rattle.std.proofs.lemmas.Bool.{leb-true}
use Rattle.sqlite_value.specs.declared.value.Value.TheVariants.{Int}
use Rattle.sqlite_value.specs.declared.keys.Key.{Key}
use Rattle.sqlite_sql.specs.Term.{Term, lit}
use Rattle.sqlite_sql.specs.Query.{Query, inner, end}
use Rattle.sqlite_resolve.specs.declared.compiled.Compiled.{Compiled}
use Rattle.sqlite_resolve.specs.declared.error.CompileError.{CompileError}
use Rattle.sqlite_schema.specs.declared.command.Command.TheVariants.{Select}
use Rattle.sqlite_schema.specs.declared.schema.Schema.{Schema}
use Rattle.sqlite_typing.specs.Types.{accepts_program}
use Rattle.sqlite_value.specs.Order.{Row}
use Rattle.sqlite.specs.Effect.{Database, RefusesToRead}
use Rattle.sqlite.specs.Given.{IsPlain}
use Rattle.sqlite.specs.Listing.{understood}
use Rattle.sqlite.proofs.Callers.{command_of}
use Rattle.sql_tables.specs.Statements.{IsGiven, IsQuery}

-- where the statement of a text ends, and how many parameters it has
abbrev tail_of : Result Compiled CompileError → ℕ
tail_of (Ok c) = c.tail
tail_of (Err e) = 0

abbrev count_of : Result Compiled CompileError → ℕ
count_of (Ok c) = length c.names
count_of (Err e) = 0

-- a query over one table
abbrev pub query : ℕ → List Term → List Term → List (Term × Key) → Query
query tree terms shown order = record {
  from = inner tree end;
  filter = terms;
  group = None;
  project = shown;
  distinct = false;
  collations = [];
  order = order;
  limit = lit (Int (negsuc 0));
  offset = lit (Int (pos 0));
}

-- over each schema the whole text is this query with these names, has this many parameters, and doesn't read the time or
-- the list of tables
pub record IsSelect {Form : Type 0} (layout : Form → Schema) (sql : List ℕ) (tree : ℕ) (terms shown : List Term) (order : List (Term × Key)) (heads : List (List ℕ)) (count : ℕ) : Type 0 where
  pub means : (form : Form) → command_of (understood (layout form) sql) ≡ Select (record { lets = []; body = query tree terms shown order }) heads
  pub reads : IsQuery layout sql
  pub fits : (form : Form) → (leb (length sql) (tail_of (understood (layout form) sql)) ≡ true) × (count ≡ count_of (understood (layout form) sql))

whole_by : (r : Result Compiled CompileError) (size count : ℕ) → IsPlain r → leb size (tail_of r) ≡ true → count ≡ count_of r → (c : Compiled) × (r ≡ Ok c) × (size ≤ c.tail) × (count ≡ length c.names)
whole_by (Ok c) size count plain fits same = (c, refl, leb-true size c.tail fits, same)
whole_by (Err e) size count plain fits same = absurd plain

-- a query over one table has no sum that may be too great
pub given_by : {Form : Type 0} {layout : Form → Schema} {sql : List ℕ} {tree : ℕ} {terms shown : List Term} {order : List (Term × Key)} {heads : List (List ℕ)} {count : ℕ} (params : Row) → IsSelect layout sql tree terms shown order heads count
    → count ≡ length params → ((form : Form) → accepts_program (layout form) [] (query tree terms shown order) params ≡ true) → IsGiven layout sql params
given_by {layout = layout} {sql} {tree} {terms} {shown} {order} {heads} {count} params is same accepts = (
  λ form. subst (λ n. (c : Compiled) × (understood (layout form) sql ≡ Ok c) × (length sql ≤ c.tail) × (n ≡ length c.names)) same (whole_by (understood (layout form) sql) (length sql) count (is.reads form).0 (is.fits form).0 (is.fits form).1),
  λ form c limit trees error known refuses.
      let command : c.command ≡ Select (record { lets = []; body = query tree terms shown order }) heads = ap command_of (sym known) ∙ is.means form in
      let db : Database = record { schema = layout form; trees = trees } in
      elim (subst (λ k. RefusesToRead limit k db params error) command refuses) [
        | inl untyped ↦ absurd (let clash : true ≡ false = sym (accepts form) ∙ untyped.1 in cc)
        | inr (inl (is_error, inl none)) ↦ absurd none
        | inr (inl (is_error, inr fold)) ↦ absurd fold.4
        | inr (inr (is_error, set)) ↦ set
      ],
)
