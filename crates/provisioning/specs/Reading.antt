-- Reading the files of a run, which are snapshots if something numbers them.
use Rattle.std.specs.Prelude.{◌≡◌, ◌⊎◌, ⊤, ℕ, List, Option, Some, None, Result, Ok, Err}
use Rattle.std.specs.IoError.{error_kind}
use Rattle.std.specs.declared.io.Error.{Error}
use Rattle.std.specs.declared.io.ErrorKind.TheVariants as io
use Rattle.scim_key.specs.declared.records.Kind.{Kind}
use Rattle.scim_key.specs.declared.records.Kind.TheVariants as kinds
use Rattle.provisioning.specs.Sources.{Says}
use Rattle.provisioning.specs.Today.{Numbering, SaysToday}
use Rattle.provisioning.specs.declared.sources.Source.{Source}
use Rattle.provisioning.specs.declared.sources.Sources.{Sources}
use Rattle.provisioning.specs.declared.sources.UnreadFile.{UnreadFile}

-- these bytes say this of the records of a type, as a snapshot if something numbers it
abbrev pub SaysAs : Option Numbering → Kind → (bytes : List ℕ) → Source → Type 0
SaysAs None of bytes source = Says of bytes source
SaysAs (Some by) of bytes source = SaysToday by of bytes source

module _ {R : Type 0} (gives : R → (path : List ℕ) → Result (List ℕ) Error → Type 0) (place : R) where
  -- the file at this path was read, and its bytes say this
  abbrev pub IsReadFrom : Option Numbering → Kind → (path : List ℕ) → Source → Type 0
  IsReadFrom by of path source = (bytes : List ℕ) × gives place path (Ok bytes) × SaysAs by of bytes source

  -- the same of a file that may not be named; without a file there is nothing
  abbrev pub IsReadIfNamed : Option Numbering → Kind → Option (List ℕ) → Option Source → Type 0
  IsReadIfNamed by of None None = ⊤
  IsReadIfNamed by of (Some path) (Some source) = IsReadFrom by of path source
  IsReadIfNamed by of _ _ = ⊥

  -- the file at this path couldn't be read, for this reason; or memory ran out
  abbrev pub FailsBy : (path : List ℕ) → Error → Type 0
  FailsBy path error = gives place path (Err error) ⊎ (error_kind error ≡ io.OutOfMemory)

  abbrev pub FailsAt : Kind → (path : List ℕ) → UnreadFile → Type 0
  FailsAt of path unread = (unread.kind ≡ of) × FailsBy path unread.error

  abbrev pub FailsIfNamed : Kind → Option (List ℕ) → UnreadFile → Type 0
  FailsIfNamed of None unread = ⊥
  FailsIfNamed of (Some path) unread = FailsAt of path unread

  -- each source is of its own file; or one of the files couldn't be read
  abbrev pub ReadsSources : Option Numbering → (users : List ℕ) → (groups : Option (List ℕ))
      → Result Sources UnreadFile → Type 0
  ReadsSources by users groups (Ok sources) = IsReadFrom by kinds.User users sources.users
      × IsReadIfNamed by kinds.Group groups sources.groups
  ReadsSources by users groups (Err unread) =
      FailsAt kinds.User users unread ⊎ FailsIfNamed kinds.Group groups unread
