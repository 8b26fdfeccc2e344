-- The moves of a push: the rows of its files, and exchanges one after another.
use Rattle.std.proofs.Common.{◌≡◌, ℕ, Bool, true, false, List, [], ◌∷◌, ◌++◌, map, Option, Some, None, Result, Ok, Err, refl, ap, sym, subst, ◌∙◌, append_assoc, inl, inr}
use Rattle.std.specs.List.{AllByRecursion}
use Rattle.scim_key.specs.declared.records.RecordName.{RecordName}
use Rattle.scim_key.specs.declared.records.Kind.{Kind}
use Rattle.scim_client.specs.Requests.{text_of}
use Rattle.source_csv.specs.Records.{IsRow}
use Rattle.source_csv.specs.declared.faults.RowFault.{RowFault}
use Rattle.source_csv.specs.declared.rows.Row.{Row}
use Rattle.journal_core.specs.declared.journals.Journal.{Ghosts as Journals}
use Rattle.connector_core.specs.Changing.{taking, taking_all}
use Rattle.connector_core.specs.Maps.{BookMap}
use Rattle.connector_core.specs.State.{State as Connector}
use Rattle.provisioning.specs.Carrying.{CarriesBy}
use Rattle.provisioning.specs.Exchanges.{Exchange, IsExchange, opening_of, openings_of}
use Rattle.provisioning.specs.Offering.{OffersAll, OffersFile, OffersGroups, rows_in}
use Rattle.provisioning.specs.Openings.{Opening}
use Rattle.provisioning.specs.Paces.{PushesInTurn}
use Rattle.provisioning.specs.Records.{AreExchanges, Ends, EndsRun, IsPushed}
use Rattle.provisioning.specs.Runs.{AreDone, Done, EndsAt, PushesEach}
use Rattle.provisioning.specs.Sources.{records_of}
use Rattle.provisioning.specs.declared.carrying.Outcome.{Outcome}
use Rattle.provisioning.specs.declared.faults.RunFault.{RunFault}
use Rattle.provisioning.specs.declared.offering.Judged.{Judged}
use Rattle.provisioning.specs.declared.pushing.Tally.{Tally}
use Rattle.provisioning.specs.declared.records.Pushed.{Pushed}
use Rattle.provisioning.specs.declared.sources.Source.{Source}
use Rattle.provisioning.specs.declared.sources.Sources.{Sources}
use Rattle.provisioning.specs.Services.{keeping_at}
use Rattle.world_sim.proofs.WholeRuns.{all_back, all_front}
use Rattle.promise.specs.Calls.{Asking}
use Rattle.promise.specs.Moves.{AreAmong, IsPush, MayAsk, Move, Move.offers, Move.asks, Move.hears, Move.serves, PushDoes, rows_if, rows_of_files, streams_in}
use Rattle.promise.proofs.Calls.{unsent}

-- ---- lists

pub among_skip : {X : Type 0} (first xs all : List X) → AreAmong xs all → AreAmong xs (first ++ all)
among_skip first [] all are = tt
among_skip first (x ∷ xs) all are = (first ++ are.0, are.1, ap (λ l. first ++ l) are.2 ∙ sym (append_assoc first are.0 (x ∷ are.1)), are.3)

pub among_then : {X : Type 0} (xs ys all more : List X) → AreAmong xs all → AreAmong ys more → AreAmong (xs ++ ys) (all ++ more)
among_then [] ys all more are others = among_skip all ys more others
among_then (x ∷ xs) ys all more are others =
    (are.0, are.1 ++ more, ap (λ l. l ++ more) are.2 ∙ append_assoc are.0 (x ∷ are.1) more, among_then xs ys are.1 more are.3 others)

pub streams_then : {I O P Q : Type 0} (ms ns : List (Move I O P Q)) → streams_in (ms ++ ns) ≡ streams_in ms ++ streams_in ns
streams_then [] ns = refl
streams_then (offers row ∷ ms) ns = streams_then ms ns
streams_then (asks e ∷ ms) ns = ap (λ l. opening_of e.1 ∷ l) (streams_then ms ns)
streams_then (hears e ∷ ms) ns = streams_then ms ns
streams_then (serves c ∷ ms) ns = streams_then ms ns

may_first : {I O : Type 0} (in_turn : Bool) (e : Asking I O) → MayAsk in_turn e []
may_first true e = refl
may_first false e = tt

module _ {J I O : Type 0} (P Q : Type 0) (h : Journals J) (received : I → Option (List ℕ)) (posted : O → Option (List ℕ)) (base : List ℕ) (in_turn : Bool) where
  abbrev Does : List (Move I O P Q) → List (Asking I O) → (book last : BookMap) → Type 0
  Does moves waits book last = PushDoes h received posted base in_turn moves waits book last

  abbrev Makes : List (Opening I O) → (book last : BookMap) → Type 0
  Makes opened book last = IsPush P Q h received posted base in_turn opened book last

  push_then : (ms ns : List (Move I O P Q)) (waits : List (Asking I O)) (a b c : BookMap) → Does ms waits a b → Does ns [] b c → Does (ms ++ ns) waits a c
  push_then [] ns waits a b c one more = subst (λ (l : List (Asking I O)). Does ns l a c) (sym one.0) (subst (λ (x : BookMap). Does ns [] x c) one.1 more)
  push_then (offers row ∷ ms) ns waits a b c one more = (one.0, one.1, push_then ms ns [] (taking a row) b c one.2 more)
  push_then (asks e ∷ ms) ns waits a b c one more = (one.0, one.1, (one.2.0, one.2.1, push_then ms ns one.2.0 a b c one.2.2 more))
  push_then (hears e ∷ ms) ns waits a b c one more = (one.0, one.1, (one.2.0, one.2.1, one.2.2, one.2.3, push_then ms ns one.0 one.2.1.book b c one.2.4 more))
  push_then (serves d ∷ ms) ns waits a b c one more = absurd one

  both : (opened others : List (Opening I O)) (a b c : BookMap) → Makes opened a b → Makes others b c → Makes (opened ++ others) a c
  both opened others a b c one more = record {
    moves = one.moves ++ more.moves;
    does = push_then one.moves more.moves [] a b c one.does more.does;
    streams = subst (λ (l : List (Opening I O)). AreAmong l (opened ++ others)) (sym (streams_then one.moves more.moves))
        (among_then (streams_in one.moves) (streams_in more.moves) opened others one.streams more.streams);
  }

  no_moves : (opened : List (Opening I O)) (a b : BookMap) → b ≡ a → Makes opened a b
  no_moves opened a b same = record { moves = []; does = (refl, same); streams = tt }

  unchanged : (opened : List (Opening I O)) (old new : Connector J) → new ≡ old → Makes opened old.book new.book
  unchanged opened old new same = no_moves opened old.book new.book (ap (λ (c : Connector J). c.book) same)

  on_streams : (opened others : List (Opening I O)) (a b : BookMap) → opened ≡ others → Makes others a b → Makes opened a b
  on_streams opened others a b same makes = subst (λ (l : List (Opening I O)). Makes l a b) (sym same) makes

  -- ---- exchanges

  exchange_made : (name : RecordName) (e : Exchange I O) (old new : Connector J) → IsExchange received posted h (keeping_at base) name e old new → Makes (opening_of e ∷ []) old.book new.book
  exchange_made name e old new is = elim (is.sent.spelled) [
    | inl none ↦ no_moves (opening_of e ∷ []) old.book new.book (unsent h base (text_of base e.request) e.request e.came (posted e.writer) is.sent.written old new is.sent.sent none is.becomes)
    | inr spells ↦ record {
      moves = asks (name, e) ∷ hears (name, e) ∷ [];
      does = (
        (is.asked, spells),
        may_first in_turn (name, e),
        ((name, e) ∷ [], ([], [], refl, refl), ([], ([], [], refl, refl), (old, new, record { sent = is.sent; becomes = is.becomes }, refl, (refl, refl)))),
      );
      streams = ([], [], refl, tt);
    }
  ]

  exchanges_made : (name : RecordName) (es : List (Exchange I O)) (old new : Connector J) → AreExchanges received posted h (keeping_at base) name es old new → Makes (openings_of es) old.book new.book
  exchanges_made name [] old new are = unchanged [] old new are
  exchanges_made name (e ∷ es) old new are =
      both (opening_of e ∷ []) (openings_of es) old.book are.0.book new.book (exchange_made name e old are.0 are.1) (exchanges_made name es are.0 new are.3)

  record_made : (name : RecordName) (opened : List (Opening I O)) (old new : Connector J) (pushed : Pushed) → IsPushed received posted h (keeping_at base) name opened old new pushed → Makes opened old.book new.book
  record_made name opened old new pushed is = on_streams opened (openings_of is.exchanges) old.book new.book is.opened_are (exchanges_made name is.exchanges old new is.are)

  ends_made : (name : RecordName) (opened : List (Opening I O)) (old new : Connector J) (fault : RunFault) → Ends received posted h (keeping_at base) name opened old new fault → Makes opened old.book new.book
  ends_made name opened old new fault ends = elim ends [
    | inl made ↦ on_streams opened (opening_of made.0 ∷ []) old.book new.book made.1 (exchange_made name made.0 old new made.2)
    | inr unmade ↦ unchanged opened old new unmade.0
  ]

  run_made : (name : RecordName) (opened : List (Opening I O)) (old new : Connector J) (fault : RunFault) → EndsRun received posted h (keeping_at base) name opened old new fault → Makes opened old.book new.book
  run_made name opened old new fault e =
      on_streams opened (openings_of e.exchanges ++ e.last) old.book new.book e.opened_are
      (both (openings_of e.exchanges) e.last old.book e.between.book new.book (exchanges_made name e.exchanges old e.between e.are) (ends_made name e.last e.between new fault e.ends))

  -- ---- records

  done_made : (done : List Done) (opened : List (Opening I O)) (old new : Connector J) → AreDone received posted h (keeping_at base) done opened old new → Makes opened old.book new.book
  done_made [] opened old new are = unchanged opened old new are.1
  done_made (d ∷ done) opened old new are =
      on_streams opened (are.0 ++ are.1) old.book new.book are.3
      (both are.0 are.1 old.book are.2.book new.book (record_made d.0 are.0 old are.2 d.1 are.4) (done_made done are.1 are.2 new are.5))

  at_made : (names : List RecordName) (opened : List (Opening I O)) (old new : Connector J) (fault : RunFault) → EndsAt received posted h (keeping_at base) names opened old new fault → Makes opened old.book new.book
  at_made [] opened old new fault ends = absurd ends
  at_made (name ∷ names) opened old new fault ends = run_made name opened old new fault ends

  each_made : (limit : ℕ) (names : List RecordName) (opened : List (Opening I O)) (old new : Connector J) (before after : Option (List Done)) (result : Result Tally RunFault)
      → PushesEach received posted h (keeping_at base) limit names opened old new before after result → Makes opened old.book new.book
  each_made limit names opened old new before after (Ok tally) all = done_made all.done opened old new all.are
  each_made limit names opened old new before after (Err fault) part =
      on_streams opened (part.first ++ part.last) old.book new.book part.opened_are
      (both part.first part.last old.book part.between.book new.book (done_made part.done part.first old part.between part.are) the_last)
    where
      the_last : Makes part.last part.between.book new.book
      the_last = elim (part.ends) [
        | inl ends ↦ at_made part.rest part.last part.between new fault ends
        | inr untold ↦ unchanged part.last part.between new untold.1
      ]

  pub in_turn_made : (leavers_first : Bool) (limit : ℕ) (opened : List (Opening I O)) (old new : Connector J) (before after : Option (List Done)) (result : Result Tally RunFault)
      → PushesInTurn received posted h (keeping_at base) leavers_first limit opened old new before after result → Makes opened old.book new.book
  in_turn_made leavers_first limit opened old new before after result pushes = elim pushes [
    | inl some ↦ each_made limit some.0 opened old new before after result some.2
    | inr none ↦ unchanged opened old new none.2
  ]

  -- ---- rows

  abbrev offering : Row → Move I O P Q
  offering row = offers row

  offered : (rows : List Row) (book : BookMap) → AllByRecursion IsRow rows → Does (map offering rows) [] book (taking_all book rows)
  offered [] book all = (refl, refl)
  offered (row ∷ rows) book all = (refl, all.0, offered rows (taking book row) all.1)

  no_streams : (rows : List Row) (opened : List (Opening I O)) → AreAmong (streams_in (map offering rows)) opened
  no_streams [] opened = tt
  no_streams (row ∷ rows) opened = no_streams rows opened

  rows_made : (rows : List Row) (book : BookMap) → AllByRecursion IsRow rows → Makes [] book (taking_all book rows)
  rows_made rows book all = record { moves = map offering rows; does = offered rows book all; streams = no_streams rows [] }

  file_made : (kind : Kind) (records : List (Result Row RowFault)) (old new : Connector J) (before after : Option (List Judged)) (result : Result Bool RunFault)
      → OffersFile h kind records old new before after result → AllByRecursion IsRow (rows_in records) → Makes [] old.book new.book
  file_made kind records old new before after result offers_so all = elim offers_so [
    | inl taken ↦ subst (λ (b : BookMap). Makes [] old.book b) (sym taken.1.book) (rows_made (rows_in records) old.book all)
    | inr stopped ↦ elim (stopped.1) [
      | inl refused ↦ no_moves [] old.book new.book refused.1.book
      | inr none ↦ unchanged [] old new none.0
    ]
  ]

  groups_made : (groups : Option Source) (old new : Connector J) (before after : Option (List Judged)) (result : Result Bool RunFault)
      → OffersGroups h groups old new before after result → AllByRecursion IsRow (rows_if groups) → Makes [] old.book new.book
  groups_made None old new before after result none all = unchanged [] old new none.0
  groups_made (Some source) old new before after result so all = file_made source.kind (records_of source) old new before after result so all

  offers_made : (sources : Sources) (old new : Connector J) (before after : Option (List Judged)) (result : Result Bool RunFault)
      → OffersAll h sources old new before after result → AllByRecursion IsRow (rows_of_files sources) → Makes [] old.book new.book
  offers_made sources old new before after result so all =
      let users = all_front IsRow (rows_in (records_of sources.users)) (rows_if sources.groups) all in
      let groups = all_back IsRow (rows_in (records_of sources.users)) (rows_if sources.groups) all in
      elim so [
        | inl two ↦ both [] [] old.book two.0.book new.book
            (file_made sources.users.kind (records_of sources.users) old two.0 before two.1 (Ok two.2) two.4 users)
            (groups_made sources.groups two.0 new two.1 after two.3 two.5 groups)
        | inr one ↦ file_made sources.users.kind (records_of sources.users) old new before after (Err one.0) one.1 users
      ]

  -- ---- the rows, and then the exchanges

  pub carries_made : {T : Type 0} (pushes : List (Opening I O) → Connector J → Connector J → Option (List Done) → Option (List Done) → Result Tally RunFault → Type 0)
      (made : (opened : List (Opening I O)) (old new : Connector J) (before after : Option (List Done)) (result : Result Tally RunFault) → pushes opened old new before after result → Makes opened old.book new.book)
      (heard : T → Option (List Judged)) (told : T → Option (List Done)) (sources : Sources) (opened : List (Opening I O)) (old new : Connector J) (before after : T) (result : Result Outcome RunFault)
      → CarriesBy pushes h heard told sources opened old new before after result → AllByRecursion IsRow (rows_of_files sources) → Makes opened old.book new.book
  carries_made pushes made heard told sources opened old new before after result carries all = elim carries [
    | inl c ↦ both [] opened old.book c.0.book new.book
        (offers_made sources old c.0 (heard before) (heard c.1) (Ok c.2) c.4 all)
        (made opened c.0 new (told c.1) (told after) c.3 c.5)
    | inr f ↦ on_streams opened [] old.book new.book f.1 (offers_made sources old new (heard before) (heard after) (Err f.0) f.2 all)
  ]
