-- A check: one search for each record, and what its answer says.
use Rattle.std.specs.Prelude.{◌≡◌, ◌⊎◌, ℕ, List, [], ◌∷◌, ◌++◌, map, Option, None, Result, Ok, Err}
use Rattle.std.specs.FinMap.{keys}
use Rattle.std.specs.List.{AllByRecursion, flat_map}
use Rattle.std.specs.declared.io.Error.{Error}
use Rattle.scim_key.specs.declared.records.RecordName.{RecordName}
use Rattle.scim_message.specs.declared.messages.Answer.{Answer}
use Rattle.scim_message.specs.declared.messages.Request.{Request}
use Rattle.scim_resource.specs.declared.contents.Content.{Content}
use Rattle.scim_client.specs.declared.exchange.ExchangeFault.{ExchangeFault}
use Rattle.mapping.specs.Settling.{IsSettleOrder}
use Rattle.connector_core.specs.Book.{Book}
use Rattle.connector_core.specs.Maps.{BookMap, book_of}
use Rattle.provisioning.specs.Faults.{open_fault}
use Rattle.provisioning.specs.Lists.{Adds}
use Rattle.provisioning.specs.Openings.{Opening}
use Rattle.provisioning.specs.Runs.{IsUntold}
use Rattle.provisioning.specs.Tracks.{IsHeard, IsSetOut}
use Rattle.provisioning.specs.declared.faults.RunFault.{RunFault}
use Rattle.provisioning.specs.declared.faults.RunFault.TheVariants.{Memory}
use Rattle.provisioning.specs.declared.tracks.Flight.{Flight}
use Rattle.provisioning.specs.Services.{Service}
use Rattle.checking.specs.Counting.{counts_after, no_counts, with_finding}
use Rattle.checking.specs.Findings.{finding_of, looking}
use Rattle.checking.specs.declared.begun.Begun.{Begun}
use Rattle.checking.specs.declared.begun.Begun.TheVariants.{Asked, Hindered}
use Rattle.checking.specs.declared.begun.Pending.{Pending}
use Rattle.checking.specs.declared.counts.Counts.{Counts}
use Rattle.checking.specs.declared.findings.Finding.{Finding}
use Rattle.checking.specs.declared.findings.Finding.TheVariants.{Unchecked}

-- what is noted of the finding of a record
abbrev pub NotesOf : Type 0 → Type 0
NotesOf N = RecordName → Finding → List N

-- ---- a record that was begun

module _ {I O : Type 0} (contents : O → Option (List ℕ)) (service : Service) (book : Book) where
  -- the record's search was written to a stream of its own, beside what is wanted of the record and its known id
  pub record IsAsked (name : RecordName) (f : Flight I O) (wanted : Content) (known : Option (List ℕ))
      (opened : List (Opening I O)) : Type 0 where
    pub stream : I × O
    pub request : Request
    pub asked : looking service.keeps book name ≡ Ok (record { request = request; wanted = wanted; known = known })
    pub opened_are : opened ≡ Ok stream ∷ []
    pub set_out : IsSetOut contents service request stream f

  -- that; or it can't be asked about, and no stream was opened
  abbrev pub IsBegun : RecordName → (opened : List (Opening I O)) → Begun I O → Type 0
  IsBegun name opened (Asked f wanted known) = IsAsked name f wanted known opened
  IsBegun name opened (Hindered why) = (looking service.keeps book name ≡ Err why) × (opened ≡ [])

-- nothing was sent: the only opening failed, with this error; or memory ran out before any
abbrev pub IsUnsent : {I O : Type 0} → (opened : List (Opening I O)) → RunFault → Type 0
IsUnsent opened fault = ((error : Error) × (opened ≡ Err error ∷ []) × (fault ≡ open_fault error))
    ⊎ ((opened ≡ []) × (fault ≡ Memory))

-- a record was begun, or nothing was sent
abbrev pub Begins : {I O : Type 0} → (O → Option (List ℕ)) → Service → Book → RecordName
    → (opened : List (Opening I O)) → Result (Begun I O) RunFault → Type 0
Begins contents service book name opened (Ok begun) = IsBegun contents service book name opened begun
Begins contents service book name opened (Err fault) = IsUnsent opened fault

-- ---- its finding

-- what came on the stream of the search says this
pub record IsHeardAs {I O : Type 0} (remaining : I → Option (List ℕ)) (f : Flight I O)
    (found : Result Answer ExchangeFault → Finding) (finding : Finding) : Type 0 where
  pub came : Result Answer ExchangeFault
  pub heard : IsHeard remaining f.request f.reader f.sent came
  pub finding_is : finding ≡ found came

abbrev pub IsFound : {I O : Type 0} → (I → Option (List ℕ)) → Begun I O → Finding → Type 0
IsFound remaining (Asked f wanted known) finding = IsHeardAs remaining f (finding_of wanted known) finding
IsFound remaining (Hindered why) finding = finding ≡ Unchecked why

-- the counts with one record more, if it was reported
abbrev pub counted : Counts → Finding → Result (Unit {0}) RunFault → Result Counts RunFault
counted counts finding (Ok told) = Ok (with_finding counts finding)
counted counts finding (Err fault) = Err fault

-- a record that was begun has its finding, which was reported and counted
pub record ReportsOne {N I O : Type 0} (note : NotesOf N) (remaining : I → Option (List ℕ))
    (name : RecordName) (begun : Begun I O) (counts : Counts) (before after : Option (List N)) (more : Counts)
    : Type 0 where
  pub finding : Finding
  pub found : IsFound remaining begun finding
  pub noted : Adds before after (note name finding)
  pub counts_are : more ≡ with_finding counts finding

-- that; or a line couldn't be written, or memory ran out
abbrev pub Reports : {N I O : Type 0} → NotesOf N → (I → Option (List ℕ)) → RecordName → Begun I O
    → Counts → (before after : Option (List N)) → Result Counts RunFault → Type 0
Reports note remaining name begun counts before after (Ok more) =
    ReportsOne note remaining name begun counts before after more
Reports note remaining name begun counts before after (Err fault) = IsUntold fault

-- ---- records that are under way

-- the first was reported, if there is one
abbrev pub ReportsFirst : {N I O : Type 0} → NotesOf N → (I → Option (List ℕ))
    → (old new : List (Pending I O)) → Counts → (before after : Option (List N)) → (more : Counts) → Type 0
ReportsFirst note remaining [] new counts before after more = (new ≡ []) × (after ≡ before) × (more ≡ counts)
ReportsFirst note remaining (p ∷ ps) new counts before after more =
    (new ≡ ps) × ReportsOne note remaining p.name p.begun counts before after more

-- the first was reported, or none was; or a line couldn't be written, or memory ran out
abbrev pub MakesRoom : {N I O : Type 0} → NotesOf N → (I → Option (List ℕ)) → (old new : List (Pending I O))
    → Counts → (before after : Option (List N)) → Result Counts RunFault → Type 0
MakesRoom note remaining old new counts before after (Ok more) =
    ReportsFirst note remaining old new counts before after more
    ⊎ ((new ≡ old) × (after ≡ before) × (more ≡ counts))
MakesRoom note remaining old new counts before after (Err fault) = IsUntold fault

-- all were reported, in their order
abbrev pub ReportsAll : {N I O : Type 0} → NotesOf N → (I → Option (List ℕ)) → List (Pending I O) → Counts
    → (before after : Option (List N)) → (more : Counts) → Type 0
ReportsAll note remaining [] counts before after more = (after ≡ before) × (more ≡ counts)
ReportsAll {N} note remaining (p ∷ ps) counts before after more = (told : Option (List N)) × (next : Counts)
    × ReportsOne note remaining p.name p.begun counts before told next
    × ReportsAll note remaining ps next told after more

-- that; or a line couldn't be written, or memory ran out
abbrev pub ReportsRest : {N I O : Type 0} → NotesOf N → (I → Option (List ℕ)) → List (Pending I O) → Counts
    → (before after : Option (List N)) → Result Counts RunFault → Type 0
ReportsRest note remaining ps counts before after (Ok more) = ReportsAll note remaining ps counts before after more
ReportsRest note remaining ps counts before after (Err fault) = IsUntold fault

-- a record was begun, and is the last of those under way; or nothing was sent
abbrev pub Sends : {I O : Type 0} → (O → Option (List ℕ)) → Service → Book → RecordName
    → (opened : List (Opening I O)) → (old new : List (Pending I O)) → Result (Unit {0}) RunFault → Type 0
Sends {I} {O} contents service book name opened old new (Ok sent) = (begun : Begun I O)
    × IsBegun contents service book name opened begun × (new ≡ old ++ record { name = name; begun = begun } ∷ [])
Sends contents service book name opened old new (Err fault) = IsUnsent opened fault

-- ---- all records

-- a record, its stream if it was asked about, and its finding
pub record Checked (I O : Type 0) : Type 0 where
  pub name : RecordName
  pub opened : List (Opening I O)
  pub begun : Begun I O
  pub finding : Finding

-- a record that was begun, and its stream if it was asked about
pub record Sent (I O : Type 0) : Type 0 where
  pub name : RecordName
  pub opened : List (Opening I O)
  pub begun : Begun I O

abbrev pub names_of : {I O : Type 0} → List (Checked I O) → List RecordName
names_of cs = map (λ c. c.name) cs

abbrev pub openings_of : {I O : Type 0} → List (Checked I O) → List (Opening I O)
openings_of cs = flat_map (λ c. c.opened) cs

-- what is noted of all of these
abbrev pub notes_of : {N I O : Type 0} → NotesOf N → List (Checked I O) → List N
notes_of note cs = flat_map (λ c. note c.name c.finding) cs

abbrev pub findings_of : {I O : Type 0} → List (Checked I O) → List Finding
findings_of cs = map (λ c. c.finding) cs

module _ {I O : Type 0} (remaining : I → Option (List ℕ)) (contents : O → Option (List ℕ)) (service : Service)
    (book : Book) where
  -- the record's search was sent on its stream, and the finding is that of what came there
  pub record IsChecked (c : Checked I O) : Type 0 where
    pub begins : IsBegun contents service book c.name c.opened c.begun
    pub found : IsFound remaining c.begun c.finding

  abbrev pub IsSent : Sent I O → Type 0
  IsSent s = IsBegun contents service book s.name s.opened s.begun

  -- The records up to some of these were begun, and then the run ended: the next stream couldn't be opened, a line
  -- couldn't be written, or memory ran out
  pub record ChecksSome (names : List RecordName) (opened : List (Opening I O)) (fault : RunFault) : Type 0 where
    pub sent : List (Sent I O)
    pub rest : List RecordName
    pub last : List (Opening I O)
    pub names_are : names ≡ map (λ s. s.name) sent ++ rest
    pub opened_are : opened ≡ flat_map (λ s. s.opened) sent ++ last
    pub each : AllByRecursion IsSent sent
    pub ends : IsUnsent last fault ⊎ ((last ≡ []) × IsUntold fault)

module _ {N I O : Type 0} (note : NotesOf N) (remaining : I → Option (List ℕ)) (contents : O → Option (List ℕ))
    (service : Service) (book : Book) where
  -- each of these records was checked, reported, noted and counted
  pub record ChecksEach (names : List RecordName) (opened : List (Opening I O)) (before after : Option (List N))
      (counts : Counts) : Type 0 where
    pub checked : List (Checked I O)
    pub names_are : names ≡ names_of checked
    pub opened_are : opened ≡ openings_of checked
    pub each : AllByRecursion (IsChecked remaining contents service book) checked
    pub noted : Adds before after (notes_of note checked)
    pub counts_are : counts ≡ counts_after no_counts (findings_of checked)

  -- that; or a fault ended the run
  abbrev pub Checks : List RecordName → (opened : List (Opening I O)) → (before after : Option (List N))
      → Result Counts RunFault → Type 0
  Checks names opened before after (Ok counts) = ChecksEach names opened before after counts
  Checks names opened before after (Err fault) = ChecksSome remaining contents service book names opened fault

-- ---- the printed run

-- the result of a run is its counts if they could be printed; a fault that ended the run stays
abbrev pub Concludes : (checked result : Result Counts RunFault) → Type 0
Concludes (Ok counts) (Ok given) = given ≡ counts
Concludes (Ok counts) (Err fault) = IsUntold fault
Concludes (Err cause) result = result ≡ Err cause

-- what is printed isn't noted
abbrev pub nothing_noted : NotesOf (Unit {0})
nothing_noted name finding = []

-- the records of a connector were checked in the order of a push, and the last line was printed; or memory ran out
-- before the first of them. It isn't known which streams were opened before
abbrev pub ChecksAloud : {I O : Type 0} → (I → Option (List ℕ)) → (O → Option (List ℕ)) → Service
    → BookMap → Result Counts RunFault → Type 0
ChecksAloud {I} {O} remaining contents service book result = ((names : List RecordName) × (opened : List (Opening I O))
    × (checked : Result Counts RunFault) × IsSettleOrder (keys book) names
    × Checks nothing_noted remaining contents service (book_of book) names opened None None checked
    × Concludes checked result)
    ⊎ (result ≡ Err Memory)
