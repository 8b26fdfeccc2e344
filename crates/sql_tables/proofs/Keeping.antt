-- What a call leaves of a connection: it is unchanged if the call only reads or fails.
use Rattle.std.proofs.Common.{◌≡◌, ◌⊎◌, ℕ, false, List, Option, Some, None, Err, IsTrue, sym, ap, ◌∙◌, inl, inr}
use Rattle.sqlite_value.specs.Order.{Row}
use Rattle.sqlite_resolve.specs.declared.compiled.Compiled.{Compiled}
use Rattle.sqlite_schema.specs.declared.command.Returning.{Returning}
use Rattle.sqlite.specs.declared.error.Error.{Error}
use Rattle.sqlite.specs.Effect.{Database}
use Rattle.sqlite.specs.Clock.{timed}
use Rattle.sqlite.specs.State.{State, IsUnchanged, IsRolledBack, IsNotRun, FailsToShow, FailsToQuery, Executes}
use Rattle.sqlite.proofs.InsideLemmas.{fails_whole}
use Rattle.sqlite_schema.specs.declared.schema.Schema.{Schema}
use Rattle.sql_tables.specs.Layouts.{IsLaid}
use Rattle.sql_tables.specs.Statements.{Keeps}

pub unchanged_keeps : (old new : State) → IsUnchanged old new → Keeps old new
unchanged_keeps old new it = record {
  was_open = λ _. it.0.was_open;
  same = λ _ settled autocommit. (it.0.now_is, it.0.committed_is ∙ settled ∙ sym it.0.now_is, it.0.mode ∙ autocommit);
}

pub rolled_keeps : (old new : State) → IsRolledBack old new → Keeps old new
rolled_keeps old new it = record {
  was_open = it.was_open;
  same = λ still settled _. let back = it.undone still in (back.0 ∙ settled, back.1 ∙ sym back.0, it.autocommit);
}

-- tables that are laid out stay as they are
pub kept_now : {Form : Type 0} {layout : Form → Schema} (old new : State) → Keeps old new → IsTrue new.is_open → IsLaid layout old → (new.now ≡ old.now) × (new.committed ≡ new.now) × (new.in_transaction ≡ false)
kept_now old new keeps still laid = keeps.same still laid.committed laid.autocommit

pub laid_still : {Form : Type 0} {layout : Form → Schema} (old new : State) → Keeps old new → IsTrue new.is_open → IsLaid layout old → IsLaid layout new
laid_still old new keeps still laid =
    let same = kept_now old new keeps still laid in
    record {
      form = laid.form;
      schema = ap (λ (d : Database). d.schema) same.0 ∙ laid.schema;
      committed = same.1;
      autocommit = same.2;
    }

pub keeps_then : (a b c : State) → Keeps a b → Keeps b c → Keeps a c
keeps_then a b c first second = record {
  was_open = λ still. first.was_open (second.was_open still);
  same = λ still settled autocommit.
      let mid = second.was_open still in
      let one = first.same mid settled autocommit in
      let two = second.same still one.1 one.2 in
      (two.0 ∙ one.0, two.1, two.2);
}

-- ---- a call that fails

-- it did nothing, or undid the transaction
abbrev pub Ends : (old new : State) → Type 0
Ends old new = IsUnchanged old new ⊎ IsRolledBack old new

ends_keep : (old new : State) → Ends old new → Keeps old new
ends_keep old new (inl same) = unchanged_keeps old new same
ends_keep old new (inr undone) = rolled_keeps old new undone

pub not_run_ends : (old new : State) (sql : List ℕ) (params : Row) (e : Error) → IsNotRun old new sql params e → Ends old new
unfolding IsNotRun
not_run_ends old new sql params e (inl refused) = inl refused.1
not_run_ends old new sql params e (inr failed) = inr failed.3

show_ends : (old new : State) (sql : List ℕ) (c : Compiled) (params : Row) (e : Error) (o : Option Returning) → FailsToShow old new sql c params e o → Ends old new
show_ends old new sql c params e None it = inl it.3
show_ends old new sql c params e (Some what) (inl refused) = inl refused.1
show_ends old new sql c params e (Some what) (inr failed) = inr failed.3

pub query_ends : (old new : State) (sql : List ℕ) (params : Row) (e : Error) → FailsToQuery sql params old new e → Ends old new
unfolding FailsToQuery
query_ends old new sql params e (inl refused) = not_run_ends old new sql params e refused
query_ends old new sql params e (inr failed) = show_ends old new sql failed.0 (timed params failed.0.formats failed.1.now) e failed.0.returning failed.2

pub not_run_keeps : (old new : State) (sql : List ℕ) (params : Row) (e : Error) → IsNotRun old new sql params e → Keeps old new
not_run_keeps old new sql params e it = ends_keep old new (not_run_ends old new sql params e it)

pub query_keeps : (old new : State) (sql : List ℕ) (params : Row) (e : Error) → FailsToQuery sql params old new e → Keeps old new
query_keeps old new sql params e it = ends_keep old new (query_ends old new sql params e it)

pub execute_keeps : (old new : State) (sql : List ℕ) (params : Row) (e : Error) → Executes sql params old new (Err e) → Keeps old new
execute_keeps old new sql params e it = ends_keep old new (fails_whole old new false sql params e it)
