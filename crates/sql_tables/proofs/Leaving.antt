-- What a call leaves of what was committed, in a transaction and at its end.
use Rattle.std.proofs.Common.{ℕ, List, Ok, Err, IsTrue, Result, sym, ◌∙◌, inl, inr}
use Rattle.sqlite_value.specs.Order.{Row}
use Rattle.sqlite.specs.declared.error.Error.{Error}
use Rattle.sqlite.specs.State.{State, IsUnchanged, IsRolledBack, ExecutesInside}
use Rattle.sqlite.specs.Steps.{FailsToCommit}
use Rattle.sqlite_schema.specs.declared.schema.Schema.{Schema}
use Rattle.sql_tables.specs.Layouts.{IsLaid}
use Rattle.sql_tables.specs.Statements.{Keeps, LeavesStore}
use Rattle.sql_tables.proofs.Keeping.{Ends, kept_now}

pub unchanged_leaves : (old new : State) → IsUnchanged old new → LeavesStore old new
unchanged_leaves old new it = record { was_open = λ _. it.0.was_open; committed = λ _. it.0.committed_is }

pub rolled_leaves : (old new : State) → IsRolledBack old new → LeavesStore old new
rolled_leaves old new it = record { was_open = it.was_open; committed = λ still. (it.undone still).1 }

pub ends_leaves : (old new : State) → Ends old new → LeavesStore old new
ends_leaves old new (inl same) = unchanged_leaves old new same
ends_leaves old new (inr undone) = rolled_leaves old new undone

pub leaves_then : (a b c : State) → LeavesStore a b → LeavesStore b c → LeavesStore a c
leaves_then a b c first second = record {
  was_open = λ still. first.was_open (second.was_open still);
  committed = λ still. second.committed still ∙ first.committed (second.was_open still);
}

pub inside_leaves : (old new : State) (held : ℕ) (sql : List ℕ) (params : Row) (r : Result ℕ Error) → ExecutesInside held sql params old new r → LeavesStore old new
inside_leaves old new held sql params (Ok count) it = record { was_open = λ _. it.1.was_open; committed = λ _. it.1.committed_is }
inside_leaves old new held sql params (Err e) (inl (_, inl same)) = unchanged_leaves old new same
inside_leaves old new held sql params (Err e) (inl (_, inr back)) = rolled_leaves old new back
inside_leaves old new held sql params (Err e) (inr ends) = unchanged_leaves old new ends.2

pub commit_leaves : (old new : State) (e : Error) → FailsToCommit old new e → LeavesStore old new
commit_leaves old new e (inl failed) = rolled_leaves old new failed.3
commit_leaves old new e (inr late) = unchanged_leaves old new late.2

-- a call that keeps the tables
pub keeps_leaves : {Form : Type 0} {layout : Form → Schema} (old new : State) → Keeps old new → (IsTrue old.is_open → IsLaid layout old) → LeavesStore old new
keeps_leaves old new keeps laid = record {
  was_open = keeps.was_open;
  committed = λ still.
      let was = laid (keeps.was_open still) in
      let same = kept_now old new keeps still was in
      same.1 ∙ same.0 ∙ sym was.committed;
}
