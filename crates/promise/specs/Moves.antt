-- What `push` and `serve` do, as lists of moves, and the two lists interleaved. The provider may serve connections of
-- somebody else too.
use Rattle.std.specs.Prelude.{◌≡◌, ◌≢◌, ◌⊎◌, ◌∷◌, ◌++◌, ℕ, Bool, true, false, List, [], Option, Some, None, Result, ⊤}
use Rattle.std.specs.List.{AllByRecursion}
use Rattle.scim_resource.specs.Rows.{StoredRecord}
use Rattle.scim_message.specs.declared.messages.Request.{Request}
use Rattle.provider_core.specs.declared.registry.Registry.{Ghosts as Registries}
use Rattle.http_text.specs.Forms.{IsRequestMessage}
use Rattle.http_text.specs.Message.{Message}
use Rattle.connection.specs.declared.answering.Served.{Served}
use Rattle.connection.specs.declared.serving.ConnectionFault.{ConnectionFault}
use Rattle.connection.specs.Listening.{Takes}
use Rattle.connection.specs.Turns.{IsServed, ServesTurns}
use Rattle.source_csv.specs.Records.{IsRow}
use Rattle.source_csv.specs.declared.rows.Row.{Row}
use Rattle.journal_core.specs.declared.journals.Journal.{Ghosts as Journals}
use Rattle.connector_core.specs.Asking.{asking}
use Rattle.connector_core.specs.Changing.{taking}
use Rattle.connector_core.specs.Maps.{BookMap, book_of}
use Rattle.connector_core.specs.State.{State as Connector}
use Rattle.connector_core.specs.declared.asking.Ask.TheVariants.{Send}
use Rattle.provisioning.specs.Carrying.{CarriesAt, CarriesBy}
use Rattle.provisioning.specs.Exchanges.{opening_of}
use Rattle.provisioning.specs.Offering.{rows_in}
use Rattle.provisioning.specs.Openings.{Opening}
use Rattle.provisioning.specs.Paces.{PushesInTurn}
use Rattle.provisioning.specs.Runs.{Done}
use Rattle.provisioning.specs.Services.{keeping_at}
use Rattle.provisioning.specs.Sources.{records_of}
use Rattle.provisioning.specs.Windows.{IsWith}
use Rattle.provisioning.specs.declared.carrying.Outcome.{Outcome}
use Rattle.provisioning.specs.declared.faults.RunFault.{RunFault}
use Rattle.provisioning.specs.declared.offering.Judged.{Judged}
use Rattle.provisioning.specs.declared.paces.Pace.{Pace}
use Rattle.provisioning.specs.declared.sources.Source.{Source}
use Rattle.provisioning.specs.declared.sources.Sources.{Sources}
use Rattle.world_model.specs.Invariant.{Names}
use Rattle.world_model.specs.Safe.{Has}
use Rattle.world_model.specs.World.{Asked}
use Rattle.world_sim.specs.Fitting.{IsFormed}
use Rattle.promise.specs.Among.{AsksAlone, TraceAmong}
use Rattle.promise.specs.Calls.{Asking, BringsReply, BringsRequest, HoldsMore, IsOver}
use Rattle.promise.specs.Traces.{Finds, IsAtFront, State, Written}

-- ---- moves

-- a connection, and what was written on it
pub record Connection (P Q : Type 0) : Type 0 where
  pub reader : P
  pub writer : Q
  pub served : Served
  pub out : List ℕ

pub data Move (I O P Q : Type 0) : Type 0 where
  -- a row is offered to the connector
  offers : Row → Move I O P Q
  -- the request of an exchange is sent
  asks : Asking I O → Move I O P Q
  -- the exchange is over
  hears : Asking I O → Move I O P Q
  -- the provider serves a connection
  serves : Connection P Q → Move I O P Q

-- the streams on which these moves make exchanges
abbrev pub streams_in : {I O P Q : Type 0} → List (Move I O P Q) → List (Opening I O)
streams_in [] = []
streams_in (offers row ∷ moves) = streams_in moves
streams_in (asks e ∷ moves) = opening_of e.1 ∷ streams_in moves
streams_in (hears e ∷ moves) = streams_in moves
streams_in (serves c ∷ moves) = streams_in moves

-- the connections that these moves serve
abbrev pub connections_in : {I O P Q : Type 0} → List (Move I O P Q) → List (P × Q)
connections_in [] = []
connections_in (offers row ∷ moves) = connections_in moves
connections_in (asks e ∷ moves) = connections_in moves
connections_in (hears e ∷ moves) = connections_in moves
connections_in (serves c ∷ moves) = (c.reader, c.writer) ∷ connections_in moves

-- these are among those, in their order
abbrev pub AreAmong : {X : Type 0} → List X → List X → Type 0
AreAmong [] all = ⊤
AreAmong {X} (x ∷ xs) all = (skipped : List X) × (rest : List X) × (all ≡ skipped ++ x ∷ rest) × AreAmong xs rest

-- the last list has what is in both, each in its order
abbrev pub Interleaves : {X : Type 0} → (ones others all : List X) → Type 0
Interleaves ones others [] = (ones ≡ []) × (others ≡ [])
Interleaves {X} ones others (x ∷ all) =
    ((rest : List X) × (ones ≡ x ∷ rest) × Interleaves rest others all)
    ⊎ ((rest : List X) × (others ≡ x ∷ rest) × Interleaves ones rest all)

-- ---- what each side does

-- the connector asks for this next by its book, in a text that spells it if it is within the limits
abbrev pub IsNext : {I O : Type 0} → (base : List ℕ) → BookMap → Asking I O → Type 0
IsNext base book e = (asking (book_of book) e.0 ≡ Some (Send e.1.request)) × IsFormed base (Asked e.1.request)

-- a request may be sent while these exchanges wait: if it is one exchange after another, none may; else none may for
-- this record
abbrev pub MayAsk : {I O : Type 0} → (in_turn : Bool) → Asking I O → (waits : List (Asking I O)) → Type 0
MayAsk true e waits = waits ≡ []
MayAsk false e waits = AllByRecursion (λ f. f.0 ≢ e.0) waits

module _ {J I O P Q : Type 0} (h : Journals J) (received : I → Option (List ℕ)) (posted : O → Option (List ℕ))
    (base : List ℕ) where
  -- The moves of a push, from one book to another, while these exchanges wait for their answers. It is offered valid
  -- rows while none waits. It sends what it asks for next, as its book is then. An exchange that waits is over at any
  -- later time, and changes the book as it is then. In the end none waits
  abbrev pub PushDoes : (in_turn : Bool) → List (Move I O P Q) → (waits : List (Asking I O)) → (book last : BookMap)
      → Type 0
  PushDoes in_turn [] waits book last = (waits ≡ []) × (last ≡ book)
  PushDoes in_turn (offers row ∷ moves) waits book last =
      (waits ≡ []) × IsRow row × PushDoes in_turn moves [] (taking book row) last
  PushDoes in_turn (asks e ∷ moves) waits book last =
      IsNext base book e × MayAsk in_turn e waits
      × ((longer : List (Asking I O)) × IsWith e waits longer × PushDoes in_turn moves longer book last)
  PushDoes in_turn (hears e ∷ moves) waits book last =
      (others : List (Asking I O)) × IsWith e others waits
      × ((before : Connector J) × (after : Connector J) × IsOver h received posted base e before after
      × (before.book ≡ book) × PushDoes in_turn moves others after.book last)
  PushDoes in_turn (serves c ∷ moves) waits book last = ⊥

  -- The moves of a connector, whichever exchanges are under way, if these requests were sent before. It learns at any
  -- later time from what came for a request that was sent
  abbrev pub ConnectorDoes : List (Move I O P Q) → List Request → (book last : BookMap) → Type 0
  ConnectorDoes [] sent book last = last ≡ book
  ConnectorDoes (offers row ∷ moves) sent book last = IsRow row × ConnectorDoes moves sent (taking book row) last
  ConnectorDoes (asks e ∷ moves) sent book last =
      IsNext base book e × ConnectorDoes moves (sent ++ e.1.request ∷ []) book last
  ConnectorDoes (hears e ∷ moves) sent book last =
      Has sent e.1.request
      × ((before : Connector J) × (after : Connector J) × IsOver h received posted base e before after
      × (before.book ≡ book) × ConnectorDoes moves sent after.book last)
  ConnectorDoes (serves c ∷ moves) sent book last = ⊥

-- one connection, from these rows to those that the next one finds
pub record IsConnection {R P Q : Type 0} (g : Registries R) (remaining : P → Option (List ℕ))
    (contents : Q → Option (List ℕ)) (base : List ℕ) (c : Connection P Q) (rows found : List StoredRecord)
    : Type 0 where
  pub before : R
  pub after : R
  pub is : IsServed remaining contents g base before after c.reader c.writer c.served
  pub was : g.rows before ≡ rows
  pub finds : Finds g before after found
  pub wrote : HoldsMore (contents c.writer) is.written.contents c.out

module _ {R I O P Q : Type 0} (g : Registries R) (remaining : P → Option (List ℕ)) (contents : Q → Option (List ℕ))
    (base : List ℕ) where
  -- The moves of a provider, from these rows to those: each connection starts from the rows that the one before left
  abbrev pub ServeDoes : List (Move I O P Q) → (rows last : List StoredRecord) → Type 0
  ServeDoes [] rows last = last ≡ rows
  ServeDoes (offers row ∷ moves) rows last = ⊥
  ServeDoes (asks e ∷ moves) rows last = ⊥
  ServeDoes (hears e ∷ moves) rows last = ⊥
  ServeDoes (serves c ∷ moves) rows last =
      (found : List StoredRecord) × IsConnection g remaining contents base c rows found × ServeDoes moves found last

-- ---- what the network does

-- What comes on a connection of somebody else is known; whichever message is at its front, what that asks for
-- leaves our records alone
abbrev pub BringsTheirs : {P : Type 0} → (P → Option (List ℕ)) → Names → (reader : P) → Type 0
BringsTheirs remaining ours reader =
    (came : List ℕ) × (remaining reader ≡ Some came)
    × ((m : Message) → IsAtFront IsRequestMessage came m → AsksAlone ours m)

module _ {I O P Q : Type 0} (received : I → Option (List ℕ)) (remaining : P → Option (List ℕ)) (base : List ℕ)
    (ours : Names) where
  -- while these moves are made, each connection brings a request of ours that was sent before, or is somebody else's;
  -- and each stream brings what was written before for its request; whole, cut off, late, again or not at all
  abbrev pub DeliversAmong : List (Move I O P Q) → List Request → List Written → Type 0
  DeliversAmong [] sent written = ⊤
  DeliversAmong (offers row ∷ moves) sent written = DeliversAmong moves sent written
  DeliversAmong (asks e ∷ moves) sent written = DeliversAmong moves (sent ++ e.1.request ∷ []) written
  DeliversAmong (hears e ∷ moves) sent written =
      BringsReply received written e.1.request e.1.reader × DeliversAmong moves sent written
  DeliversAmong (serves c ∷ moves) sent written =
      ((request : Request) × BringsRequest remaining base sent c.reader request
      × DeliversAmong moves sent (written ++ (request, c.out) ∷ []))
      ⊎ (BringsTheirs remaining ours c.reader × DeliversAmong moves sent written)

-- ---- laws

-- the rows of the files
abbrev pub rows_if : Option Source → List Row
rows_if None = []
rows_if (Some source) = rows_in (records_of source)

abbrev pub rows_of_files : Sources → List Row
rows_of_files sources = rows_in (records_of sources.users) ++ rows_if sources.groups

-- the moves of a push, on streams among those that it opened
pub record IsPush {J I O : Type 0} (P Q : Type 0) (h : Journals J) (received : I → Option (List ℕ))
    (posted : O → Option (List ℕ)) (base : List ℕ) (in_turn : Bool) (opened : List (Opening I O))
    (book last : BookMap) : Type 0 where
  pub moves : List (Move I O P Q)
  pub does : PushDoes h received posted base in_turn moves [] book last
  pub streams : AreAmong (streams_in moves) opened

-- the moves of a listener that took these connections
pub record IsListener {R P Q : Type 0} (I O : Type 0) (g : Registries R) (remaining : P → Option (List ℕ))
    (contents : Q → Option (List ℕ)) (base : List ℕ) (connections : List (P × Q))
    (rows last : List StoredRecord) : Type 0 where
  pub moves : List (Move I O P Q)
  pub does : ServeDoes g remaining contents base moves rows last
  pub connections_are : connections_in moves ≡ connections

-- it is known what each writer holds
abbrev pub AreKnown : {Q : Type 0} → (Q → Option (List ℕ)) → Type 0
AreKnown {Q} contents = (writer : Q) → (held : List ℕ) × (contents writer ≡ Some held)

module _ {R J I O P Q : Type 0} (g : Registries R) (h : Journals J) (received : I → Option (List ℕ))
    (posted : O → Option (List ℕ)) (remaining : P → Option (List ℕ)) (contents : Q → Option (List ℕ)) where
  -- a trace among others leads from this state to one with this book and these rows
  pub record ReachesAmong (base : List ℕ) (ours : Names) (old : State) (book : BookMap)
      (rows : List StoredRecord) : Type 0 where
    pub new : State
    pub trace : TraceAmong g h received posted remaining contents base ours old new
    pub book_is : new.book ≡ book
    pub rows_are : new.rows ≡ rows

  -- the moves of a push are moves of a connector, whichever requests were sent before
  abbrev pub PushesConnect : Type 0
  PushesConnect =
      (base : List ℕ) (in_turn : Bool) (moves : List (Move I O P Q)) (sent : List Request) (book last : BookMap)
      → PushDoes h received posted base in_turn moves [] book last
      → ConnectorDoes h received posted base moves sent book last

  -- The moves of a connector and those of a provider are one trace among others, in whichever order they come
  abbrev pub MovesAreTracesAmong : Type 0
  MovesAreTracesAmong =
      (base : List ℕ) (ours : Names) (old : State) (pushed served all : List (Move I O P Q)) (book : BookMap)
      (rows : List StoredRecord) → ConnectorDoes h received posted base pushed old.sent old.book book
      → ServeDoes g remaining contents base served old.rows rows → Interleaves pushed served all
      → DeliversAmong received remaining base ours all old.sent old.written → ReachesAmong base ours old book rows

  -- A push and the turns of a listener are one trace among others, in whichever order their moves come
  abbrev pub PushAndServeAreATraceAmong : Type 0
  PushAndServeAreATraceAmong =
      (base : List ℕ) (in_turn : Bool) (opened : List (Opening I O)) (connections : List (P × Q)) (book last : BookMap)
      (found rows : List StoredRecord) (push : IsPush P Q h received posted base in_turn opened book last)
      (serve : IsListener I O g remaining contents base connections found rows) (ours : Names) (s : State)
      (all : List (Move I O P Q)) → book ≡ s.book → found ≡ s.rows → Interleaves push.moves serve.moves all
      → DeliversAmong received remaining base ours all s.sent s.written → ReachesAmong base ours s last rows

  module _ {T L : Type 0} (heard : T → Option (List Judged)) (told : T → Option (List Done))
      (waiting : L → Option (List (P × Q))) where
    -- A push that makes one exchange after another does nothing else until an exchange is over, in whichever order its
    -- records come
    abbrev pub PushesInTurnAreMoves : Type 0
    PushesInTurnAreMoves =
        (base : List ℕ) (leavers_first : Bool) (limit : ℕ) (sources : Sources) (opened : List (Opening I O))
        (old new : Connector J) (before after : T) (result : Result Outcome RunFault)
        → CarriesBy (PushesInTurn received posted h (keeping_at base) leavers_first limit) h heard told sources opened
        old new before after result
        → AllByRecursion IsRow (rows_of_files sources)
        → IsPush P Q h received posted base true opened old.book new.book

    -- A push at any pace makes such moves: it offers the rows of its files, and then makes the exchanges for its
    -- records, several at once
    abbrev pub PushesAtPacesAreMoves : Type 0
    PushesAtPacesAreMoves =
        (base : List ℕ) (pace : Pace) (sources : Sources) (opened : List (Opening I O)) (old new : Connector J)
        (before after : T) (result : Result Outcome RunFault)
        → CarriesAt received posted h pace heard told (keeping_at base) sources opened old new before after result
        → AllByRecursion IsRow (rows_of_files sources)
        → IsPush P Q h received posted base false opened old.book new.book

    -- The turns of a listener are such moves, one for each connection that it took
    abbrev pub ListenersAreMoves : Type 0
    ListenersAreMoves =
        (base : List ℕ) (before after : L) (old new : R) (count : ℕ) (result : Result (Unit {0}) ConnectionFault)
        → ServesTurns waiting remaining contents g base before after old new count result
        → g.is_faithful new → AreKnown contents
        → (connections : List (P × Q)) × Takes (waiting before) (waiting after) connections
        × IsListener I O g remaining contents base connections (g.rows old) (g.rows new)
