-- The exchanges for one record, and its state after them.
use Rattle.std.specs.Prelude.{◌≡◌, ◌⊎◌, ◌<◌, ◌≤◌, ◌^◌, ◌-◌, ℕ, Bool, true, false, List, [], ◌∷◌, ◌++◌, length, Option}
use Rattle.std.specs.Prelude.{Some, None, Result, Ok, Err, IsOk}
use Rattle.std.specs.Option.{option_or}
use Rattle.scim_key.specs.declared.records.RecordName.{RecordName}
use Rattle.journal_core.specs.declared.journals.Journal.{Ghosts}
use Rattle.connector_core.specs.Asking.{asking, is_done_at}
use Rattle.connector_core.specs.Book.{Book, confirmed_of, wanted_of}
use Rattle.connector_core.specs.Maps.{book_of}
use Rattle.connector_core.specs.State.{State}
use Rattle.connector_core.specs.declared.asking.Ask.TheVariants as asks
use Rattle.provisioning.specs.Exchanges.{Exchange, IsExchange, IsUnmade, opening_of, openings_of, outcome}
use Rattle.provisioning.specs.Openings.{Opening}
use Rattle.provisioning.specs.Services.{Service, is_held_back}
use Rattle.provisioning.specs.declared.faults.RunFault.{RunFault}
use Rattle.provisioning.specs.declared.faults.RecordFault.{RecordFault}
use Rattle.provisioning.specs.declared.faults.RecordFault.TheVariants.{NoSuchRecord}
use Rattle.provisioning.specs.declared.records.Pushed.{Pushed}
use Rattle.provisioning.specs.declared.records.Standing.{Standing}
use Rattle.provisioning.specs.declared.records.Standing.TheVariants.{Confirmed, Waits, Unconfirmed}

-- the greatest number that a count has
abbrev pub greatest_count : ℕ
greatest_count = 2 ^ 32 - 1

-- ---- exchanges

-- the most exchanges for one record
abbrev pub most_exchanges : ℕ
most_exchanges = 3

module _ {I O J : Type 0} (remaining : I → Option (List ℕ)) (contents : O → Option (List ℕ))
    (g : Ghosts J) (service : Service) (name : RecordName) where
  -- exchanges for a record, one after another, each on the connector that the one before left; none of them ended the
  -- run
  abbrev pub AreExchanges : List (Exchange I O) → (old new : State J) → Type 0
  AreExchanges [] old new = new ≡ old
  AreExchanges (e ∷ es) old new = (between : State J)
      × IsExchange remaining contents g service name e old between × IsOk (outcome e.came) × AreExchanges es between new

-- the fault of the record
abbrev pub fault_in : Result (Option RecordFault) RunFault → Option RecordFault
fault_in (Ok fault) = fault
fault_in (Err end) = None

-- the last fault of these exchanges, even if a later one has none
abbrev pub last_fault : {I O : Type 0} → List (Exchange I O) → Option RecordFault
last_fault [] = None
last_fault (e ∷ es) = option_or (last_fault es) (fault_in (outcome e.came))

-- ---- the state of a record

-- There is nothing to ask for: the wanted revision, this one, is confirmed, and isn't doubted; or the record waits for
-- this member; or there is no such record
abbrev pub Rests : Book → RecordName → Standing → Type 0
Rests book name (Confirmed revision) = (asking book name ≡ Some asks.Nothing)
    × (revision ≡ confirmed_of book name) × (revision ≡ wanted_of book name)
Rests book name (Waits member) = asking book name ≡ Some (asks.Waits member)
Rests book name (Unconfirmed fault) = (asking book name ≡ None) × (fault ≡ Some NoSuchRecord)

-- All exchanges were made, or the record is held back after the last one. The wanted revision isn't confirmed, or is
-- doubted
pub record IsSpent (is_versioned : Bool) (book : Book) (name : RecordName) (count : ℕ) (last : Option RecordFault)
    (standing : Standing) : Type 0 where
  pub at_end : (count ≡ most_exchanges) ⊎ (is_held_back is_versioned last ≡ true)
  pub unconfirmed : is_done_at book name ≡ false
  pub last_is : standing ≡ Unconfirmed last

abbrev pub Stands : (is_versioned : Bool) → Book → RecordName → (count : ℕ) → (last : Option RecordFault) → Standing
    → Type 0
Stands is_versioned book name count last standing = Rests book name standing
    ⊎ IsSpent is_versioned book name count last standing

-- ---- a record

-- Exchanges for a record, each on a stream of its own, and the record's state after them
pub record IsPushed {I O J : Type 0} (remaining : I → Option (List ℕ)) (contents : O → Option (List ℕ))
    (g : Ghosts J) (service : Service) (name : RecordName) (opened : List (Opening I O)) (old new : State J)
    (pushed : Pushed) : Type 0 where
  pub exchanges : List (Exchange I O)
  pub are : AreExchanges remaining contents g service name exchanges old new
  pub opened_are : opened ≡ openings_of exchanges
  pub count : pushed.exchanges ≡ length exchanges
  pub most : length exchanges ≤ most_exchanges
  pub stands : Stands service.is_versioned (book_of new.book) name pushed.exchanges (last_fault exchanges)
      pushed.standing

-- the next exchange ended the run, or couldn't be made
abbrev pub Ends : {I O J : Type 0} → (I → Option (List ℕ)) → (O → Option (List ℕ)) → Ghosts J → Service
    → RecordName → (opened : List (Opening I O)) → (old new : State J) → RunFault → Type 0
Ends {I} {O} remaining contents g service name opened old new fault =
    ((e : Exchange I O) × (opened ≡ opening_of e ∷ [])
    × IsExchange remaining contents g service name e old new × (outcome e.came ≡ Err fault))
    ⊎ ((new ≡ old) × IsUnmade opened fault)

-- Exchanges for a record, until this fault ended the run
pub record EndsRun {I O J : Type 0} (remaining : I → Option (List ℕ)) (contents : O → Option (List ℕ))
    (g : Ghosts J) (service : Service) (name : RecordName) (opened : List (Opening I O)) (old new : State J)
    (fault : RunFault) : Type 0 where
  pub exchanges : List (Exchange I O)
  pub last : List (Opening I O)
  pub between : State J
  pub are : AreExchanges remaining contents g service name exchanges old between
  pub opened_are : opened ≡ openings_of exchanges ++ last
  pub most : length exchanges < most_exchanges
  pub ends : Ends remaining contents g service name last between new fault
