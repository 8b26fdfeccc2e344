-- What the text of a write means, and the parts of what it does.
use Rattle.std.proofs.Common.{◌≡◌, ◌⊎◌, ℕ, List, [], None, Ok, Err, Result, sym, ap, ◌∙◌, subst, inl, inr}
use Rattle.sqlite_schema.specs.declared.schema.Schema.{Schema}
use Rattle.sqlite_schema.specs.declared.command.Command.{Command}
use Rattle.sqlite_resolve.specs.declared.compiled.Compiled.{Compiled}
use Rattle.sqlite_resolve.specs.declared.error.CompileError.{CompileError}
use Rattle.sqlite.specs.Given.{IsPlain}
use Rattle.sqlite.specs.Listing.{understood}
use Rattle.sqlite.specs.State.{State}
use Rattle.sqlite.proofs.Callers.{command_of}
use Rattle.sql_tables.specs.Layouts.{IsLaid}
use Rattle.sql_tables.specs.Statements.{IsEdit, IsEditText}

edit_of_plain : (r : Result Compiled CompileError) (c : Compiled) (command : Command) → IsPlain r → command_of r ≡ command → IsEdit command → r ≡ Ok c → (c.returning ≡ None) × (c.formats ≡ []) × IsEdit c.command
edit_of_plain (Ok d) c command plain means edit is =
    let same : d ≡ c = cc in
    subst (λ (x : Compiled). (x.returning ≡ None) × (x.formats ≡ []) × IsEdit x.command) same (plain.0, plain.1, subst IsEdit (sym means) edit)
edit_of_plain (Err e) c command plain means edit is = absurd plain

-- over each schema the text is this write, without RETURNING and without the time
pub record IsWrite {Form : Type 0} (layout : Form → Schema) (sql : List ℕ) (command : Command) : Type 0 where
  pub means : (form : Form) → command_of (understood (layout form) sql) ≡ command
  pub plain : (form : Form) → IsPlain (understood (layout form) sql)

module _ {Form : Type 0} {layout : Form → Schema} {sql : List ℕ} {command : Command} (is : IsWrite layout sql command) where
  pub edits_by : IsEdit command → IsEditText layout sql
  edits_by edit form c known = edit_of_plain (understood (layout form) sql) c command (is.plain form) (is.means form) edit known

  pub command_is : (s : State) (c : Compiled) → IsLaid layout s → understood s.now.schema sql ≡ Ok c → c.command ≡ command
  command_is s c laid known = ap command_of (sym known ∙ ap (λ (schema : Schema). understood schema sql) laid.schema) ∙ is.means laid.form

-- a part that gave a value did not stop on the way
pub went : {B E R : Type 0} {b : B} {Stops : E → Type 0} → ((stop : E) × Stops stop × (Ok b ≡ Err stop)) ⊎ R → R
went (inl stopped) = absurd (let e = stopped.2 in cc)
went (inr on) = on

pub same_value : {B E : Type 0} {a b : B} → ◌≡◌ {A = Result B E} (Ok a) (Ok b) → a ≡ b
same_value e = cc
