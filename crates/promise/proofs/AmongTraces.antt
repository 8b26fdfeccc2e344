-- Each step of a trace among others over bytes is at most one step of requests and answers among others.
use Rattle.std.proofs.Common.{◌≡◌, ℕ, List, ◌++◌, Option, Some, None, Result, Ok, Err, refl, ap, sym, subst, ◌∙◌, inl, inr}
use Rattle.std.specs.Prelude.{IfOk}
use Rattle.std.specs.FinMap.{keys}
use Rattle.std.specs.Option.{option_map}
use Rattle.scim_key.specs.Bases.{IsBase}
use Rattle.scim_key.specs.Identifiers.{id_text}
use Rattle.scim_key.specs.declared.records.RecordName.{RecordName}
use Rattle.scim_resource.specs.Rows.{StoredRecord}
use Rattle.scim_message.specs.declared.messages.Request.{Request}
use Rattle.provider_core.specs.Outcomes.{outcome, changed_rows}
use Rattle.provider_core.specs.Stories.{Entry, Numbered, row_of, rows_of}
use Rattle.provider_core.specs.Tables.{IsWholeTable, entry_named}
use Rattle.provider_core.specs.declared.registry.Registry.{Ghosts as Registries}
use Rattle.provider_core.proofs.TableLaws.{found_by_name}
use Rattle.http_text.specs.declared.fault.ReadFault.{ReadFault}
use Rattle.http_text.specs.Forms.{IsRequestMessage}
use Rattle.http_text.specs.Message.{Message}
use Rattle.scim_http.specs.Replies.{ReplyRecord}
use Rattle.connection.specs.Serving.{LeavesRows, Replies}
use Rattle.mapping.specs.Images.{image}
use Rattle.journal_core.specs.declared.journals.Journal.{Ghosts as Journals}
use Rattle.connector_core.specs.Book.{Book}
use Rattle.connector_core.specs.Changing.{judged, names_of}
use Rattle.connector_core.specs.History.{History}
use Rattle.connector_core.specs.Maps.{BookMap, book_of}
use Rattle.connector_core.specs.State.{State as Connector}
use Rattle.provisioning.specs.Exchanges.{Becomes, Came, answered, lost}
use Rattle.provisioning.specs.Services.{keeping_at}
use Rattle.world_model.specs.World.{Asked, Answered, World, empty}
use Rattle.world_model.specs.Invariant.{AllOurs, Names, all_names}
use Rattle.world_model.specs.Others.{HeadlineAmong, LeavesAlone, run_among}
use Rattle.world_model.specs.Safe.{id_in, rows as world_rows}
use Rattle.world_model.proofs.Headlines.{apart_early}
use Rattle.world_model.proofs.Invariant.{always_inv_among}
use Rattle.world_sim.proofs.Fitting.{messages_are_read_among}
use Rattle.world_sim.proofs.Given.{asked_fairly}
use Rattle.promise.specs.Among.{AreRunsAmong, AsksAlone, PromisedAmong, ServesTheirs, StepAmong, StepAmong.mine, StepAmong.theirs, TraceAmong, TraceAmong.here, TraceAmong.next, TracesAreRunsAmong, TracesWithoutOthers}
use Rattle.promise.specs.AmongTyped as typed
use Rattle.promise.specs.AmongTyped.{HasOurs}
use Rattle.promise.specs.Traces.{AreRuns, IsAt, IsAtFront, LeavesBook, Promised, State, Step, Step.offers, Step.asks, Step.serves, Step.hears, Step.doubts, Step.reopens, Step.rests, Trace, Trace.here as alone_here, Trace.next as alone_next, TracesAreRuns, id_among, start}
use Rattle.promise.specs.Typed as own
use Rattle.promise.proofs.AmongTyped.{Keeps, all_named, are_ours, changes_keep, ran, rows_ours, typed_traces_are_runs_among}
use Rattle.promise.proofs.Traces.{Did, Did.gave_up, Did.refused, Did.answered_it, Did.stopped, IsRead, Settles, Spoken, did, goes, mirrored, spoken_start, unread}
use Rattle.promise.proofs.Typed.{at_start, changed_names, keys-empty}

-- ---- the promise for our records

number_of : (o : Option Numbered) → option_map (λ (row : StoredRecord). id_text row.number) (option_map (λ (n : Numbered). row_of n.number n.entry) o) ≡ option_map (λ (n : Numbered). id_text n.number) o
number_of None = refl
number_of (Some n) = refl

-- ids are those of the rows
ids_same : (es : List Entry) → IsWholeTable es → id_in es ≡ id_among (rows_of es)
ids_same es whole = λ i name. same name i
  where
    same : (name : RecordName) → id_in es name ≡ id_among (rows_of es) name
    same name = sym (number_of (entry_named name es)) ∙ sym (ap (option_map (λ (row : StoredRecord). id_text row.number)) (found_by_name name es whole))

of_worlds : (ours : Names) (w v : World) → IsWholeTable w.entries → HeadlineAmong ours w v → PromisedAmong ours w.history (world_rows w) w.book (world_rows v)
of_worlds ours w v whole h = record {
  one_per_name = h.one_per_name;
  its_image = λ s has mine.
      let i = h.its_image s (has, mine) in
      record { row = i.row; accepted = i.accepted; revision = i.revision; image = ap (λ ids. image ids i.row) (sym (ids_same w.entries whole)) ∙ i.image };
  never_back = λ s has mine. h.never_back s (has, mine);
  reached = h.reached;
}

pub promised_among : (ours : Names) (w v : World) (s t : State) → IsWholeTable w.entries → IsAt s w → IsAt t v → HeadlineAmong ours w v → PromisedAmong ours s.history s.rows (book_of s.book) t.rows
promised_among ours w v s t whole before after headline =
    subst (λ (h : History). PromisedAmong ours h s.rows (book_of s.book) t.rows) (sym before.history)
    (subst (λ (rows : List StoredRecord). PromisedAmong ours w.history rows (book_of s.book) t.rows) (sym before.rows)
    (subst (λ (b : Book). PromisedAmong ours w.history (world_rows w) b t.rows) (sym before.book)
    (subst (λ (later : List StoredRecord). PromisedAmong ours w.history (world_rows w) w.book later) (sym after.rows) (of_worlds ours w v whole headline))))

-- ---- what was said is read as it was said

read_among : (base : List ℕ) (ours : Names) (u : own.State) → IsBase base → AllOurs ours u.history → typed.TraceAmong ours own.start u → IsRead base u
read_among base ours u is_base all trace =
    let r = ran ours own.start u empty all trace at_start in
    let w = run_among empty r.led in
    record {
      history = w.history;
      entries = w.entries;
      asked = λ request has. let there = r.mirrors.sent request has in asked_fairly w.history w.entries request ((always_inv_among ours r.led r.apart).told there.0 (Asked request) there.1);
      spelled = λ request has formed. messages_are_read_among base ours r.led (Asked request) is_base r.apart r.lawful (r.mirrors.sent request has) formed;
      answers = λ request answer has formed.
          messages_are_read_among base ours r.led (Answered request answer) is_base r.apart r.lawful (r.mirrors.replies (request, answer) has) formed;
    }

-- ---- one step

-- the trace goes on
pub record GoesAmong (base : List ℕ) (ours : Names) (u : own.State) (t : State) : Type 0 where
  pub later : own.State
  pub trace : typed.TraceAmong ours u later
  pub spoken : Spoken base t later

-- what was not accepted earlier is accepted later alone
module _ {R J I O P Q : Type 0} (g : Registries R) (h : Journals J) (received : I → Option (List ℕ)) (posted : O → Option (List ℕ)) (remaining : P → Option (List ℕ)) (contents : Q → Option (List ℕ)) (base : List ℕ) where
  pub mine_keeps : (old new : State) → Step g h received posted remaining contents base old new → Keeps old.history new.history
  mine_keeps old new (offers row law) = changes_keep old.history row (judged old.book row)
  mine_keeps old new (asks name request is formed) = λ row has. has
  mine_keeps old new (serves request rows out s) = λ row has. has
  mine_keeps old new (hears request book x) = λ row has. has
  mine_keeps old new (doubts name book is names) = λ row has. has
  mine_keeps old new (reopens found book are is) = λ row has. has
  mine_keeps old new rests = λ row has. has

  step_keeps : (ours : Names) (old new : State) → StepAmong g h received posted remaining contents base ours old new → Keeps old.history new.history
  step_keeps ours old new (mine step) = mine_keeps old new step
  step_keeps ours old new (theirs rows s) = λ row has. has

  trace_keeps : (ours : Names) (old new : State) → TraceAmong g h received posted remaining contents base ours old new → Keeps old.history new.history
  trace_keeps ours old new here row has = has
  trace_keeps ours old new (next {mid = mid} more step) row has = step_keeps ours mid new step row (trace_keeps ours old mid more row has)

  -- the connector has a record for each name of an accepted row
  abbrev pub IsNamed : State → Type 0
  IsNamed s = keys s.book ≡ names_of s.history

  came_same : (request : Request) (came : Came) (before after : Connector J) (book : BookMap) → Becomes h (keeping_at base) request came before after → LeavesBook request came before after book
      → keys book ≡ keys before.book
  came_same request (answered answer learnt) before after book becomes leaves = elim leaves [
    | inl same ↦ ap keys same ∙ becomes.names
    | inr found ↦ found.5.names ∙ found.4.listed
  ]
  came_same request (lost fault) before after book becomes leaves = elim leaves [
    | inl same ↦ ap keys same ∙ ap (λ (c : Connector J). keys c.book) becomes
    | inr found ↦ found.5.names ∙ found.4.listed
  ]

  pub mine_named : (old new : State) → Step g h received posted remaining contents base old new → IsNamed old → IsNamed new
  mine_named old new (offers row law) named = changed_names old.book old.history row (judged old.book row) named
  mine_named old new (asks name request is formed) named = named
  mine_named old new (serves request rows out s) named = named
  mine_named old new (hears request book x) named = came_same request x.came x.before x.after book x.becomes x.leaves ∙ ap keys x.was ∙ named
  mine_named old new (doubts name book is names) named = names ∙ named
  mine_named old new (reopens found book are is) named = is.names ∙ are.listed ∙ named
  mine_named old new rests named = named

  trace_named : (ours : Names) (old new : State) → IsNamed old → TraceAmong g h received posted remaining contents base ours old new → IsNamed new
  trace_named ours old new named here = named
  trace_named ours old new named (next {mid = mid} more (mine step)) = mine_named mid new step (trace_named ours old mid named more)
  trace_named ours old new named (next {mid = mid} more (theirs rows s)) = trace_named ours old mid named more

-- ---- somebody else's connection

-- what is read of what comes leaves our records alone
pub alone_if : (ours : Names) (came : List ℕ) (read : Result Message ReadFault) → ((m : Message) → IsAtFront IsRequestMessage came m → AsksAlone ours m) → IfOk read (IsAtFront IsRequestMessage came) → IfOk read (AsksAlone ours)
alone_if ours came (Ok m) alone front = alone m front
alone_if ours came (Err fault) alone front = tt

module _ (base : List ℕ) (ours : Names) (old : State) (u : own.State) (spoken : Spoken base old u) where
  -- it changed no row
  unchanged : (rows : List StoredRecord) → rows ≡ old.rows → GoesAmong base ours u (record old { rows = rows })
  unchanged rows same = record {
    later = u;
    trace = typed.here;
    spoken = record { rows = same ∙ spoken.rows; history = spoken.history; book = spoken.book; sent = spoken.sent; formed = spoken.formed; written = spoken.written };
  }

  -- a request was carried out there
  carried_out : (rows : List StoredRecord) (request : Request) → LeavesAlone ours request → rows ≡ changed_rows old.rows (outcome old.rows request).change
      → GoesAmong base ours u (record old { rows = rows })
  carried_out rows request alone done = record {
    later = record u { rows = changed_rows u.rows (outcome u.rows request).change };
    trace = typed.next typed.here (typed.theirs request alone);
    spoken = record {
      rows = done ∙ ap (λ r. changed_rows r (outcome r request).change) spoken.rows;
      history = spoken.history;
      book = spoken.book;
      sent = spoken.sent;
      formed = spoken.formed;
      written = spoken.written;
    };
  }

  module _ {R J I O P Q : Type 0} (g : Registries R) (h : Journals J) (received : I → Option (List ℕ)) (posted : O → Option (List ℕ)) (remaining : P → Option (List ℕ)) (contents : Q → Option (List ℕ)) (settled : Settles g) where
    module _ (rows : List StoredRecord) (s : ServesTheirs g h received posted remaining contents base ours old rows) where
      abbrev after_serving : State
      after_serving = record old { rows = rows }

      as_before : rows ≡ g.rows s.before → GoesAmong base ours u after_serving
      as_before same = unchanged rows (same ∙ s.was)

      as_asked : (request : Request) → LeavesAlone ours request → rows ≡ changed_rows (g.rows s.before) (outcome (g.rows s.before) request).change → GoesAmong base ours u after_serving
      as_asked request alone done = carried_out rows request alone (done ∙ ap (λ r. changed_rows r (outcome r request).change) s.was)

      by_did : (m : Message) (reply : ReplyRecord) → AsksAlone ours m → Did g settled base s.before s.after rows s.finds m reply → GoesAmong base ours u after_serving
      by_did m reply alone (gave_up fixed same) = as_before same
      by_did m reply alone (refused refusal means same) = as_before same
      by_did m reply alone (answered_it request means faithful is done) = as_asked request (alone request means) done
      by_did m reply alone (stopped request means fixed done) = as_asked request (alone request means) done

      by_read : (read : Result Message ReadFault) (reply : Option ReplyRecord) → IfOk read (AsksAlone ours) → Replies g base s.before s.after read reply → LeavesRows g s.before s.after read
          → GoesAmong base ours u after_serving
      by_read (Ok m) reply alone replies leaves = by_did m replies.0 alone (did g settled base s.before s.after rows s.finds m replies.0 leaves replies.2)
      by_read (Err fault) reply alone replies leaves = as_before (unread g settled base s.before s.after rows s.finds replies.1)

      pub theirs_step : GoesAmong base ours u after_serving
      theirs_step = by_read s.is.replied.read s.is.replied.reply s.alone s.is.replied.replies s.is.replied.leaves

-- ---- every trace

and_then : (ours : Names) (a b c : own.State) → typed.TraceAmong ours a b → typed.TraceAmong ours b c → typed.TraceAmong ours a c
and_then ours a b c first typed.here = first
and_then ours a b c first (typed.next {mid = mid} more step) = typed.next (and_then ours a b mid first more) step

module _ {R J I O P Q : Type 0} (g : Registries R) (h : Journals J) (received : I → Option (List ℕ)) (posted : O → Option (List ℕ)) (remaining : P → Option (List ℕ)) (contents : Q → Option (List ℕ)) where
  abbrev Goes : (base : List ℕ) (ours : Names) → State → State → Type 0
  Goes base ours old new = TraceAmong g h received posted remaining contents base ours old new

  module _ (settled : Settles g) (base : List ℕ) (ours : Names) (is_base : IsBase base) where
    one : (old new : State) (u : own.State) → AllOurs ours old.history → typed.TraceAmong ours own.start u → Spoken base old u
        → StepAmong g h received posted remaining contents base ours old new → GoesAmong base ours u new
    one old new u all trace spoken (mine step) =
        let said = read_among base ours u is_base (subst (AllOurs ours) spoken.history all) trace in
        let on = goes base is_base u said old spoken g h received posted remaining contents settled new step in
        record { later = on.later; trace = typed.next typed.here (typed.mine on.step); spoken = on.spoken }
    one old new u all trace spoken (theirs rows s) = theirs_step base ours old u spoken g h received posted remaining contents settled rows s

    pub along : (old new : State) (u : own.State) → AllOurs ours new.history → typed.TraceAmong ours own.start u → Spoken base old u → Goes base ours old new → GoesAmong base ours u new
    along old new u all trace spoken here = record { later = u; trace = typed.here; spoken = spoken }
    along old new u all trace spoken (next {mid = mid} more step) =
        let so_far : AllOurs ours mid.history = λ row has. all row (step_keeps g h received posted remaining contents base ours mid new step row has) in
        let first = along old mid u so_far trace spoken more in
        let last = one mid new first.later so_far (and_then ours own.start u first.later trace first.trace) first.spoken step in
        record { later = last.later; trace = and_then ours u first.later last.later first.trace last.trace; spoken = last.spoken }

  pub traces_are_runs_among : Settles g → TracesAreRunsAmong g h received posted remaining contents
  traces_are_runs_among settled base ours s t is_base known trace more =
      let names = trace_named g h received posted remaining contents base ours s t (trace_named g h received posted remaining contents base ours start s keys-empty trace) more in
      let all : AllOurs ours t.history = rows_ours ours t.book t.history names known in
      let early : AllOurs ours s.history = λ row has. all row (trace_keeps g h received posted remaining contents base ours s t more row has) in
      let first = along settled base ours is_base start s own.start early typed.here (spoken_start base) trace in
      let last = along settled base ours is_base s t first.later all first.trace first.spoken more in
      let runs = typed_traces_are_runs_among ours first.later last.later (subst (HasOurs ours) last.spoken.book known) first.trace last.trace in
      let w = run_among empty runs.early in
      let v = run_among empty (runs.early ++ runs.late) in
      let before = mirrored base s first.later w first.spoken runs.before in
      let after = mirrored base t last.later v last.spoken runs.after in
      record {
        early = runs.early;
        late = runs.late;
        apart = runs.apart;
        lawful = runs.lawful;
        before = before;
        after = after;
        headline = runs.headline;
        promised = promised_among ours w v s t (always_inv_among ours runs.early (apart_early ours runs.early runs.late runs.apart)).kept.whole before after runs.headline;
      }

  -- ---- without others

  all_of_us : (base : List ℕ) (ours : Names) (s t : State) → Trace g h received posted remaining contents base s t → Goes base ours s t
  all_of_us base ours s t alone_here = here
  all_of_us base ours s t (alone_next {mid = mid} more step) = next (all_of_us base ours s mid more) (mine step)

  for_all : (history : History) (rows : List StoredRecord) (book : Book) (later : List StoredRecord) → PromisedAmong all_names history rows book later → Promised history rows book later
  for_all history rows book later p = record {
    one_per_name = p.one_per_name;
    its_image = λ s has. p.its_image s has refl;
    never_back = λ s has. p.never_back s has refl;
    reached = p.reached;
  }

  of_all : (history : History) (rows : List StoredRecord) (book : Book) (later : List StoredRecord) → Promised history rows book later → PromisedAmong all_names history rows book later
  of_all history rows book later p = record {
    one_per_name = p.one_per_name;
    its_image = λ s has own. p.its_image s has;
    never_back = λ s has own. p.never_back s has;
    reached = p.reached;
  }

  runs_of_ours : (s t : State) → AreRunsAmong all_names s t → AreRuns s t
  runs_of_ours s t r =
      let o = are_ours r.early r.late r.apart r.lawful in
      record {
        early = o.first;
        late = o.more;
        lawful = o.lawful;
        before = subst (IsAt s) o.before r.before;
        after = subst (IsAt t) o.after r.after;
        headline = o.headline;
        promised = for_all s.history s.rows (book_of s.book) t.rows r.promised;
      }

  pub without_others : TracesWithoutOthers g h received posted remaining contents
  without_others = record {
    traces = all_of_us;
    all_ours = λ book. all_named (keys book);
    runs = runs_of_ours;
    promised = λ history rows book later. (for_all history rows book later, of_all history rows book later);
  }

  pub traces_are_runs : Settles g → TracesAreRuns g h received posted remaining contents
  traces_are_runs settled base s t is_base trace more =
      runs_of_ours s t (traces_are_runs_among settled base all_names s t is_base (all_named (keys t.book)) (all_of_us base all_names start s trace) (all_of_us base all_names s t more))
