-- The moves of a push and of a listener, and the trace that they make, in whichever order they come.
use Rattle.std.proofs.Common.{ℕ, Bool, true, false, List, [], ◌∷◌, ◌++◌, Option, refl, ap, sym, subst, inl, inr}
use Rattle.std.proofs.lemmas.List.{append-nil}
use Rattle.std.specs.List.{AllByRecursion}
use Rattle.scim_resource.specs.Rows.{StoredRecord}
use Rattle.scim_message.specs.declared.messages.Request.{Request}
use Rattle.provider_core.specs.declared.registry.Registry.{Ghosts as Registries}
use Rattle.http_text.specs.Counts.{fresh_writing}
use Rattle.connection.specs.Turns.{AreTurns, Turn, all_opened, taken, unopened}
use Rattle.journal_core.specs.declared.journals.Journal.{Ghosts as Journals}
use Rattle.connector_core.specs.Changing.{history_after, judged, taking}
use Rattle.connector_core.specs.Maps.{BookMap}
use Rattle.provisioning.specs.Paces.{PushesAt, PushesInTurn}
use Rattle.provisioning.specs.Runs.{Done}
use Rattle.provisioning.specs.Services.{keeping_at}
use Rattle.provisioning.specs.Windows.{window_of}
use Rattle.provisioning.specs.declared.offering.Judged.{Judged}
use Rattle.world_model.specs.Invariant.{Names}
use Rattle.world_model.specs.Safe.{Has}
use Rattle.promise.specs.Among.{StepAmong.mine, StepAmong.theirs, TraceAmong, TraceAmong.here, TraceAmong.next}
use Rattle.promise.specs.Calls.{Asking}
use Rattle.promise.specs.Moves.{AreKnown, Connection, ConnectorDoes, DeliversAmong, Interleaves, IsListener, ListenersAreMoves, Move, Move.offers, Move.asks, Move.hears, Move.serves, MovesAreTracesAmong, PushAndServeAreATraceAmong, PushDoes, PushesAtPacesAreMoves, PushesConnect, PushesInTurnAreMoves, ReachesAmong, ServeDoes}
use Rattle.promise.specs.Traces.{State, Step.offers as offers_step, Step.asks as asks_step}
use Rattle.promise.proofs.Abreast.{abreast_made}
use Rattle.promise.proofs.AmongTraces.{alone_if}
use Rattle.promise.proofs.Bags.{all_of, all_weaker, holds_of, one_of}
use Rattle.promise.proofs.Calls.{brought, over_step, reply_grows, served_step}
use Rattle.promise.proofs.Lists.{has_last, has_more}
use Rattle.promise.proofs.Pushes.{carries_made, in_turn_made}

-- ---- the turns of a listener

module _ {R P Q : Type 0} (I O : Type 0) (g : Registries R) (remaining : P → Option (List ℕ)) (contents : Q → Option (List ℕ)) (base : List ℕ) where
  -- a store that is faithful in the end was faithful before
  was_faithful : (turns : List (Turn P Q)) (before after : R) → AreTurns remaining contents g base turns before after → g.is_faithful after → g.is_faithful before
  was_faithful [] before after are faithful = subst g.is_faithful are faithful
  was_faithful (taken reader writer served ∷ turns) before after are faithful = are.1.quiet.was (was_faithful turns are.0 after are.2 faithful)
  was_faithful (unopened ∷ turns) before after are faithful = subst g.is_faithful are.1 (was_faithful turns are.0 after are.2 faithful)

  turns_made : AreKnown contents → (turns : List (Turn P Q)) (old new : R) → AreTurns remaining contents g base turns old new → g.is_faithful new
      → IsListener I O g remaining contents base (all_opened turns) (g.rows old) (g.rows new)
  turns_made known [] old new are faithful = record { moves = []; does = ap g.rows are; connections_are = refl }
  turns_made known (taken reader writer served ∷ turns) old new are faithful =
      let between = are.0 in
      let is = are.1 in
      let later = turns_made known turns between new are.2 faithful in
      let held = known writer in
      let more = reply_grows held.0 (fresh_writing (contents writer)) is.written is.replied.reply is.replied.read served held.1 is.replied.sends in
      let c : Connection P Q = record { reader = reader; writer = writer; served = served; out = more.0 } in
      record {
        moves = serves c ∷ later.moves;
        does = (
          g.rows between,
          record {
            before = old;
            after = between;
            is = is;
            was = refl;
            finds = inl (was_faithful turns between new are.2 faithful, refl);
            wrote = (held.0, held.1, more.1);
          },
          later.does,
        );
        connections_are = ap (λ (l : List (P × Q)). (reader, writer) ∷ l) later.connections_are;
      }
  turns_made known (unopened ∷ turns) old new are faithful =
      subst (λ (r : R). IsListener I O g remaining contents base (all_opened turns) (g.rows r) (g.rows new)) are.1 (turns_made known turns are.0 new are.2 faithful)

-- ---- one trace

module _ {R J I O P Q : Type 0} (g : Registries R) (h : Journals J) (received : I → Option (List ℕ)) (posted : O → Option (List ℕ)) (remaining : P → Option (List ℕ)) (contents : Q → Option (List ℕ)) where
  module _ (base : List ℕ) (in_turn : Bool) (last : BookMap) where
    abbrev Awaits : List (Asking I O) → List Request → Type 0
    Awaits waits sent = AllByRecursion (λ (e : Asking I O). Has sent e.1.request) waits

    connects : (moves : List (Move I O P Q)) (waits : List (Asking I O)) (sent : List Request) (book : BookMap) → Awaits waits sent → PushDoes h received posted base in_turn moves waits book last
        → ConnectorDoes h received posted base moves sent book last
    connects [] waits sent book awaits push = push.1
    connects (offers row ∷ moves) waits sent book awaits push = (push.1, connects moves [] sent (taking book row) tt push.2)
    connects (asks e ∷ moves) waits sent book awaits push =
        let more = sent ++ e.1.request ∷ [] in
        let still = all_weaker (λ (f : Asking I O). Has sent f.1.request) (λ (f : Asking I O). Has more f.1.request) (λ f has. has_more sent (e.1.request ∷ []) f.1.request has) waits awaits in
        (push.0, connects moves push.2.0 more book (all_of (λ (f : Asking I O). Has more f.1.request) e waits push.2.0 (holds_of e waits push.2.0 push.2.1) (has_last sent e.1.request) still) push.2.2)
    connects (hears e ∷ moves) waits sent book awaits push =
        let has = one_of (λ (f : Asking I O). Has sent f.1.request) e push.0 waits (holds_of e push.0 waits push.1) awaits in
        (has.0, (push.2.0, push.2.1, push.2.2, push.2.3, connects moves push.0 sent push.2.1.book has.1 push.2.4))
    connects (serves c ∷ moves) waits sent book awaits push = absurd push

  pub pushes_connect : PushesConnect g h received posted remaining contents
  pushes_connect base in_turn moves sent book last push = connects base in_turn last moves [] sent book tt push

  -- from the state to which the trace leads so far
  module _ (base : List ℕ) (ours : Names) (old : State) (book : BookMap) (rows : List StoredRecord) where
    abbrev So_far : State → Type 0
    So_far s = TraceAmong g h received posted remaining contents base ours old s

    abbrev Connects : List (Move I O P Q) → State → Type 0
    Connects moves s = ConnectorDoes h received posted base moves s.sent s.book book

    abbrev Answers : List (Move I O P Q) → State → Type 0
    Answers moves s = ServeDoes g remaining contents base moves s.rows rows

    abbrev Brings : List (Move I O P Q) → State → Type 0
    Brings all s = DeliversAmong received remaining base ours all s.sent s.written

    abbrev Leads : List (Move I O P Q) → Type 0
    Leads all = (pushed served : List (Move I O P Q)) (s : State) → So_far s → Connects pushed s → Answers served s → Interleaves pushed served all → Brings all s → ReachesAmong g h received posted remaining contents base ours old book rows

    by_push : (all : List (Move I O P Q)) → Leads all → (x : Move I O P Q) (rest served : List (Move I O P Q)) (s : State) → So_far s → Connects (x ∷ rest) s → Answers served s → Interleaves rest served all → Brings (x ∷ all) s
        → ReachesAmong g h received posted remaining contents base ours old book rows
    by_push all later (offers row) rest served s trace does serve order brings =
        let t : State = record s { history = history_after s.history row (judged s.book row); book = taking s.book row } in
        later rest served t (next trace (mine (offers_step row does.0))) does.1 serve order brings
    by_push all later (asks e) rest served s trace does serve order brings =
        let t : State = record s { sent = s.sent ++ e.1.request ∷ [] } in
        later rest served t (next trace (mine (asks_step e.0 e.1.request does.0.0 does.0.1))) does.1 serve order brings
    by_push all later (hears e) rest served s trace does serve order brings =
        let its = does.1 in
        let t : State = record s { book = its.1.book } in
        later rest served t (next trace (mine (over_step g h received posted remaining contents base s e its.0 its.1 its.2 its.3 does.0 brings.0 its.1.book (inl refl)))) its.4 serve order brings.1
    by_push all later (serves c) rest served s trace does serve order brings = absurd does

    by_serve : (all : List (Move I O P Q)) → Leads all → (x : Move I O P Q) (pushed rest : List (Move I O P Q)) (s : State) → So_far s → Connects pushed s → Answers (x ∷ rest) s → Interleaves pushed rest all → Brings (x ∷ all) s
        → ReachesAmong g h received posted remaining contents base ours old book rows
    by_serve all later (serves c) pushed rest s trace does serve order brings =
        let one = serve.1 in
        let is = one.is in
        elim brings [
          | inl ours_too ↦
              let t : State = record s { rows = serve.0; written = s.written ++ (ours_too.0, c.out) ∷ [] } in
              later pushed rest t (next trace (mine (served_step g h received posted remaining contents base s one.before one.after c.reader c.writer c.served is one.was ours_too.0 ours_too.1 serve.0 one.finds c.out one.wrote)))
              does serve.2 order ours_too.2
          | inr elsewhere ↦
              let others = elsewhere.0 in
              later pushed rest (record s { rows = serve.0 }) (next trace (theirs serve.0 (record {
                before = one.before;
                after = one.after;
                reader = c.reader;
                writer = c.writer;
                served = c.served;
                is = is;
                was = one.was;
                alone = alone_if ours others.0 is.replied.read others.2
                    (brought others.0 others.0 (remaining c.reader) is.left.remaining is.replied.read others.1 ([], sym (append-nil others.0)) is.replied.has_read.message);
                finds = one.finds;
              }))) does serve.2 order elsewhere.1
        ]
    by_serve all later (offers row) pushed rest s trace does serve order brings = absurd serve
    by_serve all later (asks e) pushed rest s trace does serve order brings = absurd serve
    by_serve all later (hears e) pushed rest s trace does serve order brings = absurd serve

    leads : (all : List (Move I O P Q)) → Leads all
    leads [] pushed served s trace does serve order brings =
        let push = subst (λ (l : List (Move I O P Q)). Connects l s) order.0 does in
        let answers = subst (λ (l : List (Move I O P Q)). Answers l s) order.1 serve in
        record { new = s; trace = trace; book_is = sym push; rows_are = sym answers }
    leads (x ∷ all) pushed served s trace does serve order brings = elim order [
      | inl mine_too ↦ by_push all (leads all) x mine_too.0 served s trace (subst (λ (l : List (Move I O P Q)). Connects l s) mine_too.1 does) serve mine_too.2 brings
      | inr its ↦ by_serve all (leads all) x pushed its.0 s trace does (subst (λ (l : List (Move I O P Q)). Answers l s) its.1 serve) its.2 brings
    ]

  pub moves_are_traces_among : MovesAreTracesAmong g h received posted remaining contents
  moves_are_traces_among base ours old pushed served all book rows does serve order brings = leads base ours old book rows all pushed served old here does serve order brings

  pub push_and_serve_are_a_trace_among : PushAndServeAreATraceAmong g h received posted remaining contents
  push_and_serve_are_a_trace_among base in_turn opened connections book last found rows push serve ours s all was were order brings =
      moves_are_traces_among base ours s push.moves serve.moves all last rows
      (subst (λ (b : BookMap). ConnectorDoes h received posted base push.moves s.sent b last) was (pushes_connect base in_turn push.moves s.sent book last push.does))
      (subst (λ (r : List StoredRecord). ServeDoes g remaining contents base serve.moves r rows) were serve.does) order brings

  module _ {T L : Type 0} (heard : T → Option (List Judged)) (told : T → Option (List Done)) (waiting : L → Option (List (P × Q))) where
    pub pushes_in_turn_are_moves : PushesInTurnAreMoves g h received posted remaining contents heard told waiting
    pushes_in_turn_are_moves base leavers_first limit sources opened old new before after result carries all =
        carries_made P Q h received posted base true (PushesInTurn received posted h (keeping_at base) leavers_first limit) (in_turn_made P Q h received posted base true leavers_first limit)
        heard told sources opened old new before after result carries all

    pub pushes_at_paces_are_moves : PushesAtPacesAreMoves g h received posted remaining contents heard told waiting
    pushes_at_paces_are_moves base pace sources opened old new before after result carries all =
        carries_made P Q h received posted base false (PushesAt received posted h (keeping_at base) pace) (abreast_made P Q h received posted base (window_of pace.streams) pace.give_up_after pace.leavers_first)
        heard told sources opened old new before after result carries all

    pub listeners_are_moves : ListenersAreMoves g h received posted remaining contents heard told waiting
    listeners_are_moves base before after old new count result turns faithful known =
        (all_opened turns.turns, turns.takes, turns_made I O g remaining contents base known turns.turns old new turns.served faithful)
