-- What an opening does about what is at its path.
use Rattle.std.specs.Prelude.{◌≡◌, ◌≤◌, ⊤, ℕ, Bool, true, false, List, Option, Some, None, Result, Ok, Err, nat_lt, ◌==◌, ◌&&◌, if◌then◌else◌}
use Rattle.std.specs.declared.io.Error.{Error}
use Rattle.storage.specs.declared.places.FileId.{FileId}
use Rattle.storage.specs.declared.places.Found.{Found}
use Rattle.storage.specs.declared.places.Found.TheVariants.{Nothing, Dangling, File, Other}
use Rattle.storage.specs.declared.places.Standing.{Standing}
use Rattle.storage.specs.declared.places.IfMissing.{IfMissing}
use Rattle.storage.specs.declared.places.IfMissing.TheVariants.{Make as MakeIt, Refuse}
use Rattle.storage.specs.declared.places.Step.{Step}
use Rattle.storage.specs.declared.places.Step.TheVariants.{Open, Make}
use Rattle.storage.specs.declared.reason.DatabaseReason.{DatabaseReason}
use Rattle.storage.specs.declared.reason.DatabaseReason.TheVariants as reason

abbrev pub same_file : FileId → FileId → Bool
same_file first second = (first.device == second.device) && (first.inode == second.inode)

-- a log that is longer than one without changes
abbrev pub has_changes : (log : ℕ) → Bool
has_changes log = nat_lt 41 log

-- ---- the first opening

-- no file is there, and its log has no changes: it is made, if the command makes files
abbrev pub judgement_on_none : IfMissing → (why : Error) → Result Step DatabaseReason
judgement_on_none MakeIt why = Ok Make
judgement_on_none Refuse why = Err (reason.Missing why)

-- without the file, or beside an empty one, the changes of a log would be lost
abbrev pub judgement_first : IfMissing → Found → (log : ℕ) → Result Step DatabaseReason
judgement_first missing (Nothing why) log =
    if has_changes log then Err reason.Parted else judgement_on_none missing why
judgement_first missing Dangling log = Err reason.Dangling
judgement_first missing (File file length) log =
    if (length == 0) && has_changes log then Err reason.Parted else Ok Open
judgement_first missing Other log = Ok Open

-- ---- each opening

-- this file is found. What isn't a file is refused as it is opened
abbrev pub is_there : (opened : FileId) → Found → Bool
is_there opened (File file length) = same_file opened file
is_there opened Other = true
is_there opened Dangling = false
is_there opened (Nothing why) = false

-- once a file was opened, no other one is, and none is made
abbrev pub judgement : (opened : Option FileId) → IfMissing → Standing → Result Step DatabaseReason
judgement (Some opened) missing standing =
    if is_there opened standing.found then judgement_first missing standing.found standing.log else Err reason.Moved
judgement None missing standing = judgement_first missing standing.found standing.log

-- ---- what may be done

abbrev pub IsNothing : Found → Type 0
IsNothing (Nothing why) = ⊤
IsNothing _ = ⊥

-- a file may be made
pub record IsVacant (standing : Standing) : Type 0 where
  pub nothing : IsNothing standing.found
  pub log : standing.log ≤ 41

-- a file may be opened: an empty one only if its log has no changes
abbrev pub MayBeOpened : Found → (log : ℕ) → Type 0
MayBeOpened (File file length) log = length ≡ 0 → log ≤ 41
MayBeOpened Other log = ⊤
MayBeOpened _ log = ⊥

abbrev pub Permits : Step → Standing → Type 0
Permits Open standing = MayBeOpened standing.found standing.log
Permits Make standing = IsVacant standing

-- a host says that there is no file, and that no log of one has changes
pub record IsMissingAt (says : List ℕ → Standing → Type 0) (path : List ℕ) : Type 0 where
  pub standing : Standing
  pub said : says path standing
  pub vacant : IsVacant standing

abbrev pub IsMissing : DatabaseReason → Type 0
IsMissing (reason.Missing why) = ⊤
IsMissing _ = ⊥
