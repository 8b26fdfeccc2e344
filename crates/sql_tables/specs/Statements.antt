-- What the statements require of a connection, and what they leave of it.
use Rattle.std.specs.Prelude.{◌≡◌, ◌≤◌, ℕ, false, List, [], ◌∷◌, Option, None, Result, Ok, IfErr, OnOk, IsSome, IsTrue, IsPermutation, length, map, unwrap_or}
use Rattle.sqlite_value.specs.Order.{Row, column}
use Rattle.sqlite_trees.specs.Tree.{Trees}
use Rattle.sqlite_resolve.specs.declared.compiled.Compiled.{Compiled}
use Rattle.sqlite_schema.specs.declared.schema.Keys.TheVariants.{Enforced}
use Rattle.sqlite_schema.specs.declared.schema.Schema.{Schema}
use Rattle.sqlite_schema.specs.declared.command.Command.{Command}
use Rattle.sqlite_schema.specs.declared.command.Command.TheVariants.{Insert, Update}
use Rattle.sqlite.specs.Effect.{Database, Reads, RefusesToRead}
use Rattle.sqlite.specs.Given.{IsPlain}
use Rattle.sqlite.specs.Listing.{understood, reads_listing}
use Rattle.sqlite.specs.State.{State, HasCleanDisk, Survives}
use Rattle.sqlite.specs.Does.{Tally, Does}
use Rattle.sqlite.specs.declared.error.Error.{Error}
use Rattle.sqlite.specs.declared.run.Mode.{Mode}
use Rattle.sql_tables.specs.Faults.{FailsFor, HasFailed, statement_fault}
use Rattle.sql_tables.specs.Layouts.{format_tree}

-- ---- what a call is given

-- this holds of a connection that is open, over a disk that returns what was written
abbrev pub WhileOpen : (State → Type 0) → State → Type 0
WhileOpen Holds s = HasCleanDisk s → IsTrue s.is_open → Holds s

-- a transaction is open, if the disk returns what was written
abbrev pub IsInside : State → Type 0
IsInside s = HasCleanDisk s → IsTrue s.in_transaction

-- ---- what a call leaves

-- the connection is unchanged, if it is still open and was outside a transaction
pub record Keeps (old new : State) : Type 0 where
  pub was_open : IsTrue new.is_open → IsTrue old.is_open
  pub same : IsTrue new.is_open → old.committed ≡ old.now → old.in_transaction ≡ false
      → (new.now ≡ old.now) × (new.committed ≡ new.now) × (new.in_transaction ≡ false)

-- a call that only looks: the connection is unchanged, and nothing is committed
pub record Looks (old new : State) : Type 0 where
  pub keeps : HasCleanDisk new → Keeps old new
  pub quiet : Survives old new (λ _. ⊥)

-- A call that only looks at the tables. If it succeeds, the connection is open; a fault that says that the store failed
-- has its cause. How a fault says so is given
pub record Checks {T F : Type 0} (FaultFailsFor : (failure : Type 0) → F → Type 0) (old new : State)
    (result : Result T F) : Type 0 where
  pub failed : HasCleanDisk new → IfErr result (FaultFailsFor (HasFailed old new))
  pub is_open : HasCleanDisk new → OnOk result (IsTrue new.is_open)
  pub looks : Looks old new

-- an error of SQLite that says that the store failed has this cause
abbrev pub ErrorFailsFor : (failure : Type 0) → Error → Type 0
ErrorFailsFor failure error = FailsFor failure (statement_fault error)

-- what was committed stays
pub record LeavesStore (old new : State) : Type 0 where
  pub was_open : IsTrue new.is_open → IsTrue old.is_open
  pub committed : IsTrue new.is_open → new.committed ≡ old.committed

-- A call inside a transaction. What was committed stays, also after a stop; if the call succeeds, the connection is
-- open, and the transaction goes on
pub record GoesOn {T F : Type 0} (old new : State) (result : Result T F) : Type 0 where
  pub is_open : HasCleanDisk new → OnOk result (IsTrue new.is_open)
  pub inside : HasCleanDisk new → OnOk result (IsTrue new.in_transaction)
  pub left : HasCleanDisk new → LeavesStore old new
  pub quiet : Survives old new (λ _. ⊥)

-- ---- a query

module _ {Form : Type 0} (layout : Form → Schema) where
  -- the text is a query that only reads the tables
  abbrev pub IsQuery : List ℕ → Type 0
  IsQuery sql = (form : Form) → IsPlain (understood (layout form) sql) × (reads_listing (layout form) sql ≡ false)

  -- the text is one statement over the tables, and has this many parameters
  abbrev pub IsWhole : List ℕ → ℕ → Type 0
  IsWhole sql count = (form : Form) → (c : Compiled) × (understood (layout form) sql ≡ Ok c)
      × (length sql ≤ c.tail) × (count ≡ length c.names)

  -- with these values the query is refused only over a limit on steps, whatever rows the tables have
  abbrev pub IsAnswered : List ℕ → Row → Type 0
  IsAnswered sql params = (form : Form) (c : Compiled) (limit : Option ℕ) (trees : Trees) (error : Error)
      → understood (layout form) sql ≡ Ok c
      → RefusesToRead limit c.command (record { schema = layout form; trees = trees }) params error → IsSome limit

  -- the query is whole with these values, and they aren't refused
  abbrev pub IsGiven : List ℕ → Row → Type 0
  IsGiven sql params = IsWhole sql (length params) × IsAnswered sql params

-- the rows are the result of the query
abbrev pub Answers : List ℕ → Row → State → List Row → Type 0
Answers sql params s rows = (c : Compiled) → understood s.now.schema sql ≡ Ok c → Reads c.command s.now params rows

-- the rows of the query are the numbers in the table of the format
abbrev pub ShowsFormat : {Form : Type 0} → (Form → Schema) → List ℕ → Type 0
ShowsFormat {Form} layout sql = (form : Form) (trees : Trees) (c : Compiled) (rows : List Row)
    → understood (layout form) sql ≡ Ok c
    → Reads c.command (record { schema = layout form; trees = trees }) [] rows
    → IsPermutation (map (λ (r : Row). column r 2 ∷ []) (trees format_tree)) rows

-- ---- a write

-- keys are checked at once, and none waits for a commit
abbrev pub plain_mode : Mode
plain_mode = record { keys = Enforced; in_doubt = false; may_wait = false }

abbrev pub IsEdit : Command → Type 0
IsEdit (Insert at from) = Unit {0}
IsEdit (Update at q) = Unit {0}
IsEdit command = ⊥

-- the text is one INSERT or one UPDATE, without RETURNING and without the time
abbrev pub IsEditText : {Form : Type 0} → (Form → Schema) → List ℕ → Type 0
IsEditText {Form} layout sql = (form : Form) (c : Compiled) → understood (layout form) sql ≡ Ok c
    → (c.returning ≡ None) × (c.formats ≡ []) × IsEdit c.command

-- the statement did this to the database, and outside a transaction committed it
pub record Ran (sql : List ℕ) (params : Row) (old new : State) : Type 0 where
  pub was_open : IsTrue old.is_open
  pub is_open : IsTrue new.is_open
  pub compiled : Compiled
  pub is : understood old.now.schema sql ≡ Ok compiled
  pub limit : Option ℕ
  pub tally : Tally
  pub text : List ℕ
  pub does : Does limit plain_mode params old.now text None compiled.command (Ok (tally, new.now))
  pub settled : old.in_transaction ≡ false → (new.committed ≡ new.now) × (new.in_transaction ≡ false)

-- the same, and it changed so many rows
pub record RanOn (sql : List ℕ) (params : Row) (old new : State) (count : ℕ) : Type 0 where
  pub ran : Ran sql params old new
  pub counted : count ≡ unwrap_or ran.tally.rows 0

-- what a stop during the statement may leave, other than what was there before
pub record MayLeave (sql : List ℕ) (params : Row) (s : State) (db : Trees) : Type 0 where
  pub was_open : IsTrue s.is_open
  pub compiled : Compiled
  pub is : understood s.now.schema sql ≡ Ok compiled
  pub limit : Option ℕ
  pub tally : Tally
  pub text : List ℕ
  pub after : Database
  pub does : Does limit plain_mode params s.now text None compiled.command (Ok (tally, after))
  pub trees : db ≡ after.trees
