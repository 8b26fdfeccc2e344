-- Accepting a row.
use Rattle.std.specs.Prelude.{◌≡◌, ◌≢◌, ◌↔◌, ℕ, true, false, List, [], ◌∷◌, ◌++◌, length, Option, Some, None, Result, Ok, Err, if◌then◌else◌}
use Rattle.std.specs.List.{list_all}
use Rattle.scim_key.specs.Revisions.{before, ◌≺◌, ◌≼◌}
use Rattle.scim_key.specs.declared.records.RecordName.{RecordName}
use Rattle.source_csv.specs.Records.{row_name, row_revision, same_row}
use Rattle.source_csv.specs.declared.rows.Row.{Row}
use Rattle.connector_core.specs.History.{AllAreUsers, AllRise, History, MembersAreUsers, is_user, last_row, members_of, missing_member, rows_of, wanted}
use Rattle.connector_core.specs.declared.accepting.BookFault.{BookFault}
use Rattle.connector_core.specs.declared.accepting.BookFault.TheVariants.{Differs, NoSuchMember}
use Rattle.connector_core.specs.declared.accepting.Verdict.{Verdict}
use Rattle.connector_core.specs.declared.accepting.Verdict.TheVariants.{New, Known, Older}

-- the verdict on a row with a new revision, by its first member that isn't a user record
abbrev pub newer : Option ℕ → Result Verdict BookFault
newer (Some place) = Err (NoSuchMember place)
newer None = Ok New

-- the verdict on a row, by the last row of its record and by its first member that isn't a user record
abbrev pub accepted : Option Row → Row → Option ℕ → Result Verdict BookFault
accepted None row missing = newer missing
accepted (Some held) row missing =
    if before (row_revision row) (row_revision held) then Ok Older
    else if before (row_revision held) (row_revision row) then newer missing
    else if same_row row held then Ok Known
    else Err Differs

-- Accepting a row into the history: the first case that applies

-- the row is the first of its record, or has a higher revision than the last
abbrev pub IsNewer : History → Row → Type 0
IsNewer history row = (held : Row) → last_row history (row_name row) ≡ Some held → row_revision held ≺ row_revision row

-- the member at this place isn't a user record, and every member before it is one
abbrev pub IsFirstMissing : History → Row → ℕ → Type 0
IsFirstMissing history row place = (earlier : List (List ℕ)) × (key : List ℕ) × (later : List (List ℕ))
    × (members_of row ≡ earlier ++ key ∷ later) × (length earlier ≡ place)
    × (list_all (is_user history) earlier ≡ true) × (is_user history key ≡ false)

pub data Accepts (history : History) (row : Row) : Result Verdict BookFault → Type 0 where
  older : (held : Row) → last_row history (row_name row) ≡ Some held
      → row_revision row ≺ row_revision held → Accepts history row (Ok Older)
  known : (held : Row) → last_row history (row_name row) ≡ Some held
      → row_revision row ≡ row_revision held → row ≡ held → Accepts history row (Ok Known)
  differs : (held : Row) → last_row history (row_name row) ≡ Some held
      → row_revision row ≡ row_revision held → row ≢ held → Accepts history row (Err Differs)
  missing : (place : ℕ) → IsNewer history row → IsFirstMissing history row place
      → Accepts history row (Err (NoSuchMember place))
  new : IsNewer history row → AllAreUsers history row → Accepts history row (Ok New)

-- the verdict on a row, decided by the history alone
abbrev pub accepting : History → Row → Result Verdict BookFault
accepting history row = accepted (last_row history (row_name row)) row (missing_member history row)

-- `accept` decides by the history, if it gets the last row of the record and the first member that isn't a user record
abbrev pub AcceptsByHistory : Type 0
AcceptsByHistory = (history : History) (row : Row) (answer : Result Verdict BookFault)
    → Accepts history row answer ↔ (answer ≡ accepting history row)

-- What a row that is accepted as new does to the history: it is appended
pub record GoesOn (history : History) (row : Row) : Type 0 where
  -- the rows of its record go on with it, and those of every other record stay
  pub of_record : rows_of (history ++ row ∷ []) (row_name row) ≡ rows_of history (row_name row) ++ row ∷ []
  pub others : (name : RecordName) → name ≢ row_name row → rows_of (history ++ row ∷ []) name ≡ rows_of history name
  -- it is what the source wants from now on, at a revision that is no earlier than before
  pub last : last_row (history ++ row ∷ []) (row_name row) ≡ Some row
  pub never_back : wanted history (row_name row) ≼ row_revision row
  -- the rows of each record still strictly rise, and members are still user records
  pub rises : AllRise history → AllRise (history ++ row ∷ [])
  pub members : MembersAreUsers history → MembersAreUsers (history ++ row ∷ [])

-- this holds for every row that is accepted as new
abbrev pub NewRowsGoOn : Type 0
NewRowsGoOn = (history : History) (row : Row) → accepting history row ≡ Ok New → GoesOn history row

-- the history after a row was offered: a new row is appended, and no other row changes it
abbrev pub after_verdict : History → Row → Result Verdict BookFault → History
after_verdict history row (Ok New) = history ++ row ∷ []
after_verdict history row (Ok Known) = history
after_verdict history row (Ok Older) = history
after_verdict history row (Err fault) = history

-- the history after rows were offered one by one
abbrev pub history_after : History → List Row → History
history_after history [] = history
history_after history (row ∷ rows) = history_after (after_verdict history row (accepting history row)) rows

-- whatever rows are offered, the accepted ones of each record strictly rise, none is lost or changed later,
-- and every member of an accepted row is a user record
pub record HistoriesRise : Type 0 where
  pub rises : (offered : List Row) → AllRise (history_after [] offered)
  pub members : (offered : List Row) → MembersAreUsers (history_after [] offered)
  pub stays : (history : History) (offered : List Row) (name : RecordName)
      → (later : List Row) × (rows_of (history_after history offered) name ≡ rows_of history name ++ later)
