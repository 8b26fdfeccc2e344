-- In which order records are pushed.
use Rattle.std.specs.Prelude.{◌≡◌, ◌++◌, Bool, true, false, not, List, filter}
use Rattle.std.specs.FinMap.{keys}
use Rattle.scim_key.specs.declared.records.RecordName.{RecordName}
use Rattle.mapping.specs.Settling.{IsSettleOrder}
use Rattle.connector_core.specs.Book.{Book}
use Rattle.connector_core.specs.Maps.{BookMap, book_of}
use Rattle.provisioning.specs.Leavers.{is_switched_off}

-- the users who left by their wanted rows, which aren't confirmed; then the others
abbrev pub leavers_first : Book → List RecordName → List RecordName
leavers_first book names =
    filter (is_switched_off book) names ++ filter (λ name. not (is_switched_off book name)) names

-- users by key and then groups by key; of the users, those who left may come first
abbrev pub IsPushOrder : (leavers_first : Bool) → BookMap → List RecordName → Type 0
IsPushOrder false book names = IsSettleOrder (keys book) names
IsPushOrder true book names = (settled : List RecordName) × IsSettleOrder (keys book) settled
    × (names ≡ leavers_first (book_of book) settled)
