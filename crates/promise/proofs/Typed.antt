-- Each step of a trace is at most one event of the model.
use Rattle.std.proofs.Common.{arith, ◌≡◌, ◌≢◌, ℕ, ◌==◌, true, suc, List, [], ◌∷◌, ◌++◌, Option, Some, None, Result, Ok, Err, length, map, refl, ap, sym, subst, ◌∙◌}
use Rattle.std.proofs.lemmas.Bool.{false_from_ne_true}
use Rattle.std.proofs.lemmas.Bool.Decides.{nat_tests}
use Rattle.std.specs.BTreeSet.{insert_key}
use Rattle.std.specs.FinMap.{get, get-empty, keys}
use Rattle.std.specs.FinMap as fin
use Rattle.std.specs.List.{AllByRecursion}
use Rattle.std.specs.Option.{option_map}
use Rattle.scim_key.specs.Outcome.{◌>>=◌}
use Rattle.scim_key.specs.Records.{name_cmp}
use Rattle.scim_key.specs.declared.records.RecordName.{RecordName}
use Rattle.scim_message.specs.Refusals.{ErrorRecord}
use Rattle.scim_message.specs.declared.messages.Answer.{Answer}
use Rattle.scim_message.specs.declared.messages.Answer.TheVariants.{Error}
use Rattle.scim_message.specs.declared.messages.Request.{Request}
use Rattle.scim_message.specs.declared.messages.Request.TheVariants.{Create, Retrieve, Search, Replace}
use Rattle.provider_core.specs.Outcomes.{outcome, changed_rows}
use Rattle.provider_core.specs.Stories.{IsTable, rows_of, step}
use Rattle.provider_core.proofs.StoryLaws.{rows_follow_stories}
use Rattle.source_csv.specs.Records.{row_name}
use Rattle.source_csv.specs.declared.rows.Row.{Row}
use Rattle.journal_core.specs.Entries.{EntryMap}
use Rattle.connector_core.specs.Asking.{asking}
use Rattle.connector_core.specs.Book.{Book, doubted, reopened, undoubted, wanting}
use Rattle.connector_core.specs.Changing.{accepted_map, book_after, history_after, judged, judging, names_of, taking}
use Rattle.connector_core.specs.History.{History}
use Rattle.connector_core.specs.Learning.{Finding, Taken, Stale, after_learning, finding, learn, lesson, noted, or_fault, refused_by, subject}
use Rattle.connector_core.specs.Maps.{BookMap, book_of}
use Rattle.connector_core.specs.State.{AreOf, IsOpened, entry_of, opened}
use Rattle.connector_core.specs.declared.accepting.Verdict.{Verdict}
use Rattle.connector_core.specs.declared.accepting.Verdict.TheVariants as verdicts
use Rattle.connector_core.specs.declared.asking.Ask.TheVariants.{Send}
use Rattle.connector_core.specs.declared.changing.ChangeFault.{ChangeFault}
use Rattle.connector_core.specs.declared.knowledge.Known.{Known}
use Rattle.connector_core.specs.declared.learning.LearnFault.{LearnFault}
use Rattle.connector_core.specs.declared.learning.LearnFault.TheVariants as faults
use Rattle.connector_core.proofs.Keeping.{names-put}
use Rattle.connector_core.proofs.LawProofs.{maps_accept}
use Rattle.world_model.specs.World.{World, Message, Asked, Answered, Event, Changes, Sends, Delivers, Doubts, Restarts_connector, arrives, changes, delivers, empty, happens, judged as world_judged, run, sends}
use Rattle.world_model.specs.Safe.{Has}
use Rattle.world_model.specs.Untroubled.{IsLawful}
use Rattle.world_model.proofs.Counting.{names_push}
use Rattle.promise.specs.Typed.{IsOtherError, Mirrors, Reply, State, Step, Step.offers, Step.asks, Step.answers, Step.learns, Step.refused, Step.doubts, Step.reopens, Step.relearns, Step.rests, start}
use Rattle.promise.proofs.Lists.{each_more, has_last, has_more}

-- ---- the names of the records

pub changed_names : (m : BookMap) (history : History) (row : Row) (verdict : Result Verdict ChangeFault) → keys m ≡ names_of history → keys (accepted_map m row verdict) ≡ names_of (history_after history row verdict)
changed_names m history row (Ok verdicts.New) same = names-put m (row_name row) (wanting (get m (row_name row)) row) ∙ ap (λ names. insert_key name_cmp names (row_name row)) same ∙ sym (names_push [] history row)
changed_names m history row (Ok verdicts.Known) same = same
changed_names m history row (Ok verdicts.Older) same = same
changed_names m history row (Err fault) same = same

-- nothing was seen of what was just opened
opened_known : (known : Option Known) → option_map opened (option_map entry_of known) ≡ option_map undoubted known
opened_known None = refl
opened_known (Some known) = refl

-- ---- one step, from a world that the state mirrors

-- events lead from one world to one that the state mirrors
pub record Leads (w : World) (new : State) : Type 0 where
  pub events : List Event
  pub lawful : AllByRecursion IsLawful events
  pub mirrors : Mirrors new (run w events)

module _ (old : State) (w : World) (m : Mirrors old w) where
  stays : Leads w old
  stays = record { events = []; lawful = tt; mirrors = m }

  one : (event : Event) (new : State) → IsLawful event → Mirrors new (happens w event) → Leads w new
  one event new law after = record { events = event ∷ []; lawful = (law, tt); mirrors = after }

  -- ---- a row is offered

  judged_same : (row : Row) → judged old.book row ≡ world_judged w row
  judged_same row = ap (λ b. judging b (keys old.book) row) m.book ∙ ap (λ names. judging w.book names row) m.names

  offered : (row : Row) → Mirrors (record old { history = history_after old.history row (judged old.book row); book = taking old.book row }) (changes w row (world_judged w row))
  offered row = record {
    rows = m.rows;
    table = m.table;
    history = ap (λ h. history_after h row (judged old.book row)) m.history ∙ ap (history_after w.history row) (judged_same row);
    book = maps_accept old.book row (judged old.book row) ∙ ap (λ b. book_after b row (judged old.book row)) m.book ∙ ap (book_after w.book row) (judged_same row);
    names = changed_names old.book w.history row (judged old.book row) m.names ∙ ap (λ v. names_of (history_after w.history row v)) (judged_same row);
    sent = m.sent;
    replies = m.replies;
  }

  -- ---- a request is sent

  asked : (name : RecordName) (request : Request) → asking (book_of old.book) name ≡ Some (Send request) → Mirrors (record old { sent = old.sent ++ request ∷ [] }) (sends w (asking w.book name))
  asked name request is =
      let there : asking w.book name ≡ Some (Send request) = ap (λ b. asking b name) (sym m.book) ∙ is in
      subst (λ o. Mirrors (record old { sent = old.sent ++ request ∷ [] }) (sends w o)) (sym there) (record {
        rows = m.rows;
        table = m.table;
        history = m.history;
        book = m.book;
        names = m.names;
        sent = each_more (λ r. Has (w.messages ++ Asked request ∷ []) (Asked r)) old.sent request (λ r has. has_more w.messages (Asked request ∷ []) (Asked r) (m.sent r has))
            (has_last w.messages (Asked request));
        replies = λ reply has. has_more w.messages (Asked request ∷ []) (Answered reply.0 reply.1) (m.replies reply has);
      })

  -- ---- a message arrives

  arrived : (message : Message) (new : State) → Has w.messages message → Mirrors new (arrives w message) → Leads w new
  arrived message new has after = one (Delivers (suc has.0)) new tt (subst (λ o. Mirrors new (delivers w o)) (sym has.1) after)

  answered : (request : Request)
      → Mirrors (record old { rows = changed_rows old.rows (outcome old.rows request).change; replies = old.replies ++ (request, (outcome old.rows request).answer) ∷ [] }) (arrives w (Asked request))
  answered request =
      let agrees = rows_follow_stories w.entries request m.table in
      let said = Answered request (step w.entries request).answer in
      let answer : (outcome old.rows request).answer ≡ (step w.entries request).answer = ap (λ rows. (outcome rows request).answer) m.rows ∙ agrees.answer in
      record {
        rows = ap (λ rows. changed_rows rows (outcome rows request).change) m.rows ∙ agrees.rows;
        table = agrees.table;
        history = m.history;
        book = m.book;
        names = m.names;
        sent = λ r has. has_more w.messages (said ∷ []) (Asked r) (m.sent r has);
        replies = each_more (λ (reply : Reply). Has (w.messages ++ said ∷ []) (Answered reply.0 reply.1)) old.replies (request, (outcome old.rows request).answer)
            (λ reply has. has_more w.messages (said ∷ []) (Answered reply.0 reply.1) (m.replies reply has))
            (subst (λ (a : Answer). Has (w.messages ++ said ∷ []) (Answered request a)) (sym answer) (has_last w.messages said));
      }

  -- the book becomes another, and the names stay
  pub rebooked : (v : World) (book : BookMap) → book_of book ≡ v.book → keys book ≡ keys old.book → v.history ≡ w.history → v.entries ≡ w.entries → v.messages ≡ w.messages
      → Mirrors (record old { book = book }) v
  rebooked v book is names history entries messages = record {
    rows = m.rows ∙ ap rows_of (sym entries);
    table = subst IsTable (sym entries) m.table;
    history = m.history ∙ sym history;
    book = is;
    names = names ∙ m.names ∙ ap names_of (sym history);
    sent = λ r has. subst (λ all. Has all (Asked r)) (sym messages) (m.sent r has);
    replies = λ reply has. subst (λ all. Has all (Answered reply.0 reply.1)) (sym messages) (m.replies reply has);
  }

  learnt : (request : Request) (answer : Answer) (book : BookMap) → book_of book ≡ after_learning (book_of old.book) (learn (book_of old.book) request answer) → keys book ≡ keys old.book
      → Mirrors (record old { book = book }) (arrives w (Answered request answer))
  learnt request answer book is names =
      rebooked (arrives w (Answered request answer)) book (is ∙ ap (λ b. after_learning b (learn b request answer)) m.book) names refl refl refl

  -- ---- the connector is opened again

  reopened_by : (v : World) (found : EntryMap) (book : BookMap) (is_book : Book) → is_book ≡ v.book → AreOf found is_book (keys old.book) → IsOpened found book
      → v.history ≡ w.history → v.entries ≡ w.entries → v.messages ≡ w.messages → Mirrors (record old { book = book }) (happens v Restarts_connector)
  reopened_by v found book is_book there are is history entries messages = rebooked (happens v Restarts_connector) book (λ i name. same name i) (is.names ∙ are.listed) history entries messages
    where
      same : (name : RecordName) → book_of book name ≡ reopened v.book name
      same name = is.entries name ∙ ap (option_map opened) (are.same name) ∙ opened_known (is_book name) ∙ ap (λ (b : Book). reopened b name) there

  relearnt : (request : Request) (answer : Answer) (found : EntryMap) (book : BookMap) → Has old.replies (request, answer)
      → AreOf found (after_learning (book_of old.book) (learn (book_of old.book) request answer)) (keys old.book) → IsOpened found book → Leads w (record old { book = book })
  relearnt request answer found book has are is =
      let there = m.replies (request, answer) has in
      let v = arrives w (Answered request answer) in
      let after = reopened_by v found book (after_learning (book_of old.book) (learn (book_of old.book) request answer)) (ap (λ b. after_learning b (learn b request answer)) m.book) are is refl refl refl in
      record {
        events = Delivers (suc there.0) ∷ Restarts_connector ∷ [];
        lawful = (tt, (tt, tt));
        mirrors = subst (λ o. Mirrors (record old { book = book }) (happens (delivers w o) Restarts_connector)) (sym there.1) after;
      }

-- ---- other errors teach nothing

nothing_said : (book : Book) (request : Request) (answer : Answer) (fault : LearnFault) → finding request answer ≡ Err fault → (o : Option RecordName)
    → after_learning book (or_fault faults.Unfit o >>= (λ name. or_fault faults.NoSuchRecord (book name) >>= (λ known. finding request answer >>= (λ said. lesson book name known said >>= (λ l. Ok (noted book name l)))))) ≡ book
nothing_said book request answer fault is None = refl
nothing_said book request answer fault is (Some name) = go (book name)
  where
    go : (o : Option Known) → after_learning book (or_fault faults.NoSuchRecord o >>= (λ known. finding request answer >>= (λ said. lesson book name known said >>= (λ l. Ok (noted book name l))))) ≡ book
    go None = refl
    go (Some known) = rw is refl

no_other : (status expected : ℕ) (said : Finding) → status ≢ expected → refused_by status expected said ≡ Err (faults.Refused status)
no_other status expected said other = rw (false_from_ne_true (status == expected) (λ same. other (nat_eq_decides same))) refl
  where
    nat_eq_decides : (status == expected) ≡ true → status ≡ expected
    nat_eq_decides same = grind (arith, nat_tests, same)

other_finding : (request : Request) (error : ErrorRecord) → IsOtherError error → (fault : LearnFault) × (finding request (Error error) ≡ Err fault)
other_finding (Create content) error is = (faults.Refused error.status, no_other error.status 409 Taken is.taken)
other_finding (Retrieve kind id if_match if_none_match) error is = (faults.Unfit, refl)
other_finding (Search kind wanted from count) error is = (faults.Refused error.status, refl)
other_finding (Replace id content if_match if_none_match) error is = (faults.Refused error.status, no_other error.status 412 (Stale if_match) is.stale)

-- the book stays
pub other_error : (book : Book) (request : Request) (error : ErrorRecord) → IsOtherError error → after_learning book (learn book request (Error error)) ≡ book
other_error book request error is =
    let f = other_finding request error is in
    nothing_said book request (Error error) f.0 f.1 (subject request)

-- ---- every step

pub leads : (old new : State) (w : World) → Step old new → Mirrors old w → Leads w new
leads old new w (offers row law) m = one old w m (Changes row) _ law (offered old w m row)
leads old new w (asks name request is) m = one old w m (Sends name) _ tt (asked old w m name request is)
leads old new w (answers request has) m = arrived old w m (Asked request) _ (m.sent request has) (answered old w m request)
leads old new w (learns request answer book has is names) m = arrived old w m (Answered request answer) _ (m.replies (request, answer) has) (learnt old w m request answer book is names)
leads old new w (refused request error book is_other is names) m =
    record { events = []; lawful = tt; mirrors = rebooked old w m w book (is ∙ other_error (book_of old.book) request error is_other ∙ m.book) names refl refl refl }
leads old new w (doubts name book is names) m =
    one old w m (Doubts name) _ tt (rebooked old w m (happens w (Doubts name)) book (is ∙ ap (λ b. doubted b name) m.book) names refl refl refl)
leads old new w (reopens found book are is) m = one old w m Restarts_connector _ tt (reopened_by old w m w found book (book_of old.book) m.book are is refl refl refl)
leads old new w (relearns request answer found book has are is) m = relearnt old w m request answer found book has are is
leads old new w rests m = stays old w m

-- ---- the start

nothing : {X Y : Type 0} (f : X → Y) (xs : List X) → length xs ≡ 0 → map f xs ≡ []
nothing f [] none = refl
nothing f (x ∷ xs) none = absurd (cc)

pub keys-empty : keys (fin.empty {X = Known} {R = name_cmp}) ≡ []
keys-empty = nothing (λ e. e.0) (fin.entries (fin.empty {X = Known} {R = name_cmp})) (sym (fin.len-entries (fin.empty {X = Known} {R = name_cmp})) ∙ fin.len-empty name_cmp Known)

pub at_start : Mirrors start empty
at_start = record {
  rows = refl;
  table = tt;
  history = refl;
  book = λ i name. get-empty name_cmp name i;
  names = keys-empty;
  sent = λ request has. absurd (cc has.1);
  replies = λ reply has. absurd (cc has.1);
}
