-- What a restart makes of a world that runs, and what a fault leaves of it.
use Rattle.std.proofs.Common.{◌≡◌, ℕ, Bool, true, false, inl, inr, List, Option, Some, None, Result, Ok, Err, IfErr, OnErr, map, refl, ap, sym, subst, ◌∙◌}
use Rattle.std.specs.FinMap.{keys}
use Rattle.std.specs.Option.{option_map}
use Rattle.scim_client.specs.Answers.{AnswersSo}
use Rattle.scim_key.specs.declared.records.RecordName.{RecordName}
use Rattle.scim_message.specs.declared.messages.Answer.{Answer}
use Rattle.scim_message.specs.declared.messages.Request.{Request}
use Rattle.scim_resource.specs.Rows.{StoredRecord}
use Rattle.provider_core.specs.Outcomes.{Outcome, changed_rows, outcome}
use Rattle.provider_core.specs.Stores.{CountsProviderFault, LeavesNoMore, LeavesOr}
use Rattle.provider_core.specs.Stories.{rows_of, step}
use Rattle.provider_core.specs.declared.provider.ProviderFault.{ProviderFault}
use Rattle.provider_core.specs.declared.provider.ProviderFault.TheVariants as providers
use Rattle.provider_core.specs.declared.registry.Registry.{Ghosts as Registries}
use Rattle.provider_core.proofs.StoryLaws.{rows_follow_stories}
use Rattle.source_csv.specs.declared.rows.Row.{Row}
use Rattle.journal_core.specs.Entries.{EntryMap}
use Rattle.journal_core.specs.declared.journals.Journal.{Ghosts as Journals}
use Rattle.connector_core.specs.Book.{Book, reopened, undoubted}
use Rattle.connector_core.specs.Changing.{accepted_map, book_after, judging}
use Rattle.connector_core.specs.Learning.{after_learning, learn}
use Rattle.connector_core.specs.Maps.{book_of}
use Rattle.connector_core.specs.State.{AreOf, IsOpened, Leaves, LeavesBook, LeavesOneOf, State, entry_of, opened}
use Rattle.connector_core.specs.declared.knowledge.Known.{Known}
use Rattle.world_model.specs.World.{World, Event, Asked, Answered, Changes, Delivers, Restarts_provider, Restarts_connector, arrives, delivers, happens, message_at, names as world_names}
use Rattle.world_model.specs.Reports as model
use Rattle.world_model.specs.Safe.{rows as world_rows}
use Rattle.world_sim.specs.Events.{report_of, world_fault}
use Rattle.world_sim.specs.Messages.{messages_of, text_at, texts_of, message_text}
use Rattle.world_sim.specs.Running.{Fails, FailsToArrive, Happens, HasBook, HoldsOneOf, IsAmong, IsExcused, IsKnown, IsOpenTo, IsShutOff, Scope, Stays, is_open, journal_in, if_restart}
use Rattle.world_sim.specs.Sides.{CountsWorldFault, IsOpenedIn}
use Rattle.world_sim.specs.declared.reports.Report.{Report}
use Rattle.world_sim.specs.declared.reports.WorldFault.{WorldFault}
use Rattle.world_sim.specs.declared.reports.WorldFault.TheVariants.{Memory, Store}
use Rattle.world_sim.specs.declared.sides.Side.{Side}
use Rattle.world_sim.specs.declared.sides.Side.TheVariants.{Open, Shut}
use Rattle.world_sim.specs.declared.worlds.World.{World as Running}
use Rattle.world_sim.proofs.Reaching.{formed_same, is_after, is_at, is_still}
use Rattle.world_sim.proofs.Steps.{answer_read, are_moved, changed_book, here_book, here_leaves, here_names, learnt_book, message_same, names_after_row, was_honest}

-- nothing was seen of what was just opened
opened_known : (known : Option Known) → option_map opened (option_map entry_of known) ≡ option_map undoubted known
opened_known None = refl
opened_known (Some known) = refl

pub forgotten_twice : (known : Option Known) → option_map undoubted (option_map undoubted known) ≡ option_map undoubted known
forgotten_twice None = refl
forgotten_twice (Some known) = refl

forgotten_entry : (known : Option Known) → option_map entry_of known ≡ option_map entry_of (option_map undoubted known)
forgotten_entry None = refl
forgotten_entry (Some known) = refl

-- the entries of a book are also those of the book of which nothing was seen
are_reopened : (found : EntryMap) (book : Book) (names : List RecordName) → AreOf found book names → AreOf found (reopened book) names
are_reopened found book names are = record { same = λ name. are.same name ∙ forgotten_entry (book name); listed = are.listed }

-- a fault of the provider counts as the world's
pub provider_counts : (before mid after : ℕ) (fault : ProviderFault) → mid ≡ before → CountsProviderFault mid after fault → CountsWorldFault before after (world_fault fault)
provider_counts before mid after providers.Store same counts = subst (λ n. CountsWorldFault n after Store) same counts
provider_counts before mid after providers.Memory same counts = counts ∙ same

module _ {R J : Type 0} (g : Registries R) (h : Journals J) (old : Running R J) where
  -- ---- restarts

  -- what runs is the world after a restart of the connector, if the side has its book
  pub restarted : (side : Side J) {scope : Scope} (w : World) → IsAmong g h scope old w → HasBook side (reopened w.book) (world_names w)
      → ((found : EntryMap) → h.may_hold (journal_in side) found → h.may_hold (journal_in old.connector) found)
      → IsAmong g h scope (record old { connector = side }) (happens w Restarts_connector)
  restarted side w is book leaves = is_after g h old (record old { connector = side }) w Restarts_connector tt tt refl is (record {
    rows = is.mirrors.rows;
    found = is.mirrors.found;
    table = is.mirrors.table;
    book = book;
    kept = λ found holds. are_reopened found w.book (world_names w) (is.mirrors.kept found (leaves found holds));
    messages = is.mirrors.messages;
    texts = is.mirrors.texts;
    formed = is.mirrors.formed;
  })

  -- an opened connector has the book of the entries that were found
  opened_book : (connector : State J) {scope : Scope} (w : World) → IsAmong g h scope old w → IsOpened (h.entries connector.journal) connector.book → h.may_hold (journal_in old.connector) (h.entries connector.journal)
      → HasBook (Open connector) (reopened w.book) (world_names w)
  opened_book connector w is found holds = (λ i name. same name i, found.names ∙ are.listed)
    where
      are : AreOf (h.entries connector.journal) w.book (world_names w)
      are = is.mirrors.kept (h.entries connector.journal) holds

      same : (name : RecordName) → book_of connector.book name ≡ reopened w.book name
      same name = found.entries name ∙ ap (option_map opened) (are.same name) ∙ opened_known (w.book name)

  pub reopens_connector : (side : Side J) (told : Report) → is_open side ≡ true → IsOpenedIn h side
      → (h.is_honest (journal_in side) → h.is_honest (journal_in old.connector))
      → (h.is_honest (journal_in side) → h.is_faithful (journal_in side))
      → (h.is_honest (journal_in side) → h.may_hold (journal_in old.connector) (h.entries (journal_in side)))
      → (h.is_honest (journal_in side) → (found : EntryMap) → h.may_hold (journal_in side) found → h.may_hold (journal_in old.connector) found)
      → report_of told ≡ model.Restarted
      → Happens g h old (record old { connector = side }) Restarts_connector told
  reopens_connector (Shut journal) told is_so found was opens holds leaves said = absurd (cc)
  reopens_connector (Open connector) told is_so found was opens holds leaves said = record {
    was = λ sound. record { registry = sound.registry; journal = was sound.journal };
    base = refl;
    stays_open = λ sound faithful. faithful;
    journal_open = λ sound faithful. opens sound.journal;
    is = λ sound w is own. restarted (Open connector) w is (opened_book connector w is (found (opens sound.journal)) (holds sound.journal)) (leaves sound.journal);
    report = λ sound w is. said;
  }

  counted_excuse : (side : Side J) (event : Event) (fault : WorldFault) → CountsWorldFault (h.faults (journal_in old.connector)) (h.faults (journal_in side)) fault → IsExcused g h old (record old { connector = side }) event fault
  counted_excuse side event Store counted = inr (inr counted.1)
  counted_excuse side event Memory counted = (refl, counted)

  -- what may be found was there before
  holds_before : {scope : Scope} (new : Running R J) (w v : World) → ((found : List StoredRecord) → g.may_hold new.provider found → g.may_hold old.provider found)
      → ((found : EntryMap) → h.may_hold (journal_in new.connector) found → h.may_hold (journal_in old.connector) found) → IsAmong g h scope old w → HoldsOneOf g h new w v
  holds_before new w v rows entries is = record {
    rows = λ found holds. inl (is.mirrors.found found (rows found holds));
    entries = λ found holds. inl (is.mirrors.kept found (entries found holds));
  }

  pub fails_to_reopen_connector : (side : Side J) (fault : WorldFault) → is_open side ≡ false
      → (h.is_honest (journal_in side) → h.is_honest (journal_in old.connector))
      → (h.is_honest (journal_in side) → (found : EntryMap) → h.may_hold (journal_in side) found → h.may_hold (journal_in old.connector) found)
      → CountsWorldFault (h.faults (journal_in old.connector)) (h.faults (journal_in side)) fault
      → Fails g h old (record old { connector = side }) Restarts_connector fault
  fails_to_reopen_connector (Open connector) fault is_so was leaves counted = absurd (cc)
  fails_to_reopen_connector (Shut journal) fault is_so was leaves counted = record {
    was = λ sound. record { registry = sound.registry; journal = was sound.journal };
    base = refl;
    sent = refl;
    is = λ sound known w is. restarted (Shut journal) w is (λ i name. forgotten_twice (w.book name) i) (leaves sound.journal);
    leaves = λ sound w is. holds_before (record old { connector = Shut journal }) w (happens w Restarts_connector) (λ found holds. holds) (leaves sound.journal) is;
    excused = counted_excuse (Shut journal) Restarts_connector fault counted;
  }

  -- the registry was opened again, or was tried to be: it holds the rows of the world
  reopened_registry : {scope : Scope} (registry : R) → ((found : List StoredRecord) → g.may_hold registry found → (w : World) → IsAmong g h scope old w → found ≡ world_rows w)
      → (g.is_faithful registry → g.may_hold registry (g.rows registry))
      → (openness : Bool) → (w : World) → IsAmong g h scope old w → IsAmong g h scope (record old { provider = registry; is_provider_open = openness }) w
  reopened_registry registry finds stays openness w is = is_still g h old (record old { provider = registry; is_provider_open = openness }) w refl is (record {
    rows = λ faithful. finds (g.rows registry) (stays faithful) w is;
    found = λ found holds. finds found holds w is;
    table = is.mirrors.table;
    book = is.mirrors.book;
    kept = is.mirrors.kept;
    messages = is.mirrors.messages;
    texts = is.mirrors.texts;
    formed = is.mirrors.formed;
  })

  pub reopens_provider : (registry : R) (told : Report) → (g.is_honest registry → g.is_honest old.provider) → (g.is_honest registry → g.is_faithful registry)
      → (g.is_honest registry → g.may_hold old.provider (g.rows registry))
      → ((found : List StoredRecord) → g.is_faithful registry → g.may_hold registry found → found ≡ g.rows registry)
      → (g.is_faithful registry → g.may_hold registry (g.rows registry))
      → report_of told ≡ model.Restarted
      → Happens g h old (record old { provider = registry; is_provider_open = true }) Restarts_provider told
  reopens_provider registry told was opened holds settled stays said = record {
    was = λ sound. record { registry = was sound.registry; journal = sound.journal };
    base = refl;
    stays_open = λ sound faithful. opened sound.registry;
    journal_open = λ sound faithful. faithful;
    is = λ sound w is own. reopened_registry registry (λ found at v here. settled found (opened sound.registry) at ∙ here.mirrors.found (g.rows registry) (holds sound.registry)) stays true w is;
    report = λ sound w is. said;
  }

  pub fails_to_reopen_provider : (registry : R) (fault : WorldFault) → (g.is_honest registry → g.is_honest old.provider)
      → (g.is_honest registry → (found : List StoredRecord) → g.may_hold registry found → g.may_hold old.provider found)
      → (g.is_faithful registry → g.may_hold registry (g.rows registry))
      → CountsWorldFault (g.faults old.provider) (g.faults registry) fault
      → Fails g h old (record old { provider = registry; is_provider_open = false }) Restarts_provider fault
  fails_to_reopen_provider registry fault was leaves stays counted = record {
    was = λ sound. record { registry = was sound.registry; journal = sound.journal };
    base = refl;
    sent = refl;
    is = λ sound known w is. reopened_registry registry (λ found at v here. here.mirrors.found found (leaves sound.registry found at)) stays false w is;
    leaves = λ sound w is. holds_before (record old { provider = registry; is_provider_open = false }) w w (leaves sound.registry) (λ found holds. holds) is;
    excused = excuse fault counted;
  }
    where
      excuse : (fault : WorldFault) → CountsWorldFault (g.faults old.provider) (g.faults registry) fault → IsExcused g h old (record old { provider = registry; is_provider_open = false }) Restarts_provider fault
      excuse Store counted = inr (inl counted.1)
      excuse Memory counted = (counted, refl)

  -- ---- faults

  pub staying : (new : Running R J) → Stays old new → {scope : Scope} (w : World) → IsAmong g h scope old w → IsAmong g h scope new w
  staying new s w is = is_still g h old new w s.base is (record {
    rows = subst (λ p. g.is_faithful p → g.rows p ≡ world_rows w) (sym s.provider) is.mirrors.rows;
    found = subst (λ p. (found : List StoredRecord) → g.may_hold p found → found ≡ world_rows w) (sym s.provider) is.mirrors.found;
    table = is.mirrors.table;
    book = subst (λ side. HasBook side w.book (world_names w)) (sym s.connector) is.mirrors.book;
    kept = λ found holds. is.mirrors.kept found (subst (λ side. h.may_hold (journal_in side) found) s.connector holds);
    messages = ap messages_of s.sent ∙ is.mirrors.messages;
    texts = ap texts_of s.sent ∙ is.mirrors.texts ∙ ap (λ b. map (message_text b) w.messages) (sym s.base);
    formed = formed_same old.service new.service w.messages s.base is.mirrors.formed;
  })

  pub fails_staying : (new : Running R J) (event : Event) (fault : WorldFault) → Stays old new → ((w : World) → if_restart w event ≡ w) → IsExcused g h old new event fault → Fails g h old new event fault
  fails_staying new event fault s still excused = record {
    was = λ sound. record { registry = subst g.is_honest s.provider sound.registry; journal = subst (λ side. h.is_honest (journal_in side)) s.connector sound.journal };
    base = s.base;
    sent = s.sent;
    is = λ sound known w is. is_at g h new w (if_restart w event) (still w) (staying new s w is);
    leaves = λ sound w is. holds_before new w (happens w event) (λ found holds. subst (λ p. g.may_hold p found) s.provider holds)
        (λ found holds. subst (λ side. h.may_hold (journal_in side) found) s.connector holds) is;
    excused = excused;
  }

  pub fails_for_memory : (new : Running R J) (event : Event) → Stays old new → ((w : World) → if_restart w event ≡ w) → Fails g h old new event Memory
  fails_for_memory new event s still = fails_staying new event Memory s still (ap g.faults s.provider, ap (λ side. h.faults (journal_in side)) s.connector)

  pub fails_when_shut : (event : Event) → ((w : World) → if_restart w event ≡ w) → IsShutOff old event → Fails g h old old event Store
  fails_when_shut event still shut = fails_staying old event Store (record { provider = refl; provider_open = refl; connector = refl; base = refl; sent = refl }) still (inl shut)

  -- a write of the journal failed: if it was made, the book is `later`
  module _ (before after : State J) (event : Event) (fault : WorldFault) (later : Book) (more : List RecordName) (e : old.connector ≡ Open before) (same : after.book ≡ before.book) where
    fails_at_journal : ((w : World) → if_restart w event ≡ w) → (h.is_honest after.journal → h.is_honest before.journal)
        → (h.is_faithful after.journal → LeavesBook h before → LeavesBook h after)
        → (h.is_honest after.journal → LeavesBook h before → LeavesOneOf h after.journal (book_of before.book) later (keys before.book) more)
        → CountsWorldFault (h.faults before.journal) (h.faults after.journal) fault
        → (IsKnown g h old (record old { connector = Open after }) event → h.is_faithful after.journal)
        → ((scope : Scope) (w : World) → IsAmong g h scope old w → later ≡ (happens w event).book) → ((scope : Scope) (w : World) → IsAmong g h scope old w → more ≡ world_names (happens w event))
        → Fails g h old (record old { connector = Open after }) event fault
    fails_at_journal still was stays leaves counted known_open book_is names_are = record {
      was = λ sound. record { registry = sound.registry; journal = was_honest g h old before e (was sound.journal) };
      base = refl;
      sent = refl;
      is = λ sound known w is.
          let book = ap book_of same ∙ here_book g h old before e w is in
          let names = ap keys same ∙ here_names g h old before e w is in
          let faithful = known_open known in
          is_at g h (record old { connector = Open after }) w (if_restart w event) (still w) (is_still g h old (record old { connector = Open after }) w refl is (record {
            rows = is.mirrors.rows;
            found = is.mirrors.found;
            table = is.mirrors.table;
            book = (book, names);
            kept = λ found holds. are_moved found (book_of after.book) w.book (keys after.book) (world_names w) book names
                (stays faithful (here_leaves g h old before e w is) found holds);
            messages = is.mirrors.messages;
            texts = is.mirrors.texts;
            formed = is.mirrors.formed;
          }));
      leaves = λ sound w is. record {
        rows = λ found holds. inl (is.mirrors.found found holds);
        entries = λ found holds. elim (leaves sound.journal (here_leaves g h old before e w is) found holds) [
          | inl was ↦ inl (are_moved found (book_of before.book) w.book (keys before.book) (world_names w) (here_book g h old before e w is) (here_names g h old before e w is) was)
          | inr made ↦ inr (are_moved found later (happens w event).book more (world_names (happens w event)) (book_of_world w is) (names_of_world w is) made)
        ];
      };
      excused = counted_excuse (Open after) event fault (subst (λ side. CountsWorldFault (h.faults (journal_in side)) (h.faults after.journal) fault) (sym e) counted);
    }
      where
        book_of_world : {scope : Scope} (w : World) → IsAmong g h scope old w → later ≡ (happens w event).book
        book_of_world {scope} w is = book_is scope w is

        names_of_world : {scope : Scope} (w : World) → IsAmong g h scope old w → more ≡ world_names (happens w event)
        names_of_world {scope} w is = names_are scope w is

  -- a row wasn't accepted for a fault
  pub fails_to_change : (before after : State J) (row copy : Row) (result : Result Report WorldFault) → copy ≡ row → old.connector ≡ Open before → OnErr result (after.book ≡ before.book)
      → (h.is_honest after.journal → h.is_honest before.journal)
      → (h.is_faithful after.journal → LeavesBook h before → OnErr result (LeavesBook h after))
      → (h.is_honest after.journal → LeavesBook h before
      → Leaves h before after (book_after (book_of before.book) copy (judging (book_of before.book) (keys before.book) copy)) (keys (accepted_map before.book copy (judging (book_of before.book) (keys before.book) copy))) result)
      → IfErr result (CountsWorldFault (h.faults before.journal) (h.faults after.journal))
      → IfErr result (Fails g h old (record old { connector = Open after }) (Changes row))
  fails_to_change before after row copy (Ok told) is e same was stays leaves counted = tt
  fails_to_change before after row copy (Err fault) is e same was stays leaves counted =
      subst (λ r. Fails g h old (record old { connector = Open after }) (Changes r) fault) is
      (fails_at_journal before after (Changes copy) fault (book_after (book_of before.book) copy (judging (book_of before.book) (keys before.book) copy))
      (keys (accepted_map before.book copy (judging (book_of before.book) (keys before.book) copy))) e same (λ w. refl) was stays (λ honest left. (leaves honest left).failed) counted (λ known. known)
      (λ scope w is. changed_book g h old before copy e w is) (λ scope w is. names_after_row g h old before copy e w is))

  -- nothing was learnt from an answer for a fault
  pub fails_to_learn : (before after : State J) (number : ℕ) (request : Request) (answer : Answer) (bytes : List ℕ) (result : Result Report WorldFault)
      → message_at (messages_of old.sent.items) number ≡ Some (Answered request answer) → text_at (texts_of old.sent.items) number ≡ Some bytes
      → old.connector ≡ Open before → OnErr result (after.book ≡ before.book)
      → (h.is_honest after.journal → h.is_honest before.journal)
      → (h.is_faithful after.journal → LeavesBook h before → OnErr result (LeavesBook h after))
      → ((a : Answer) → AnswersSo bytes request a → h.is_honest after.journal → LeavesBook h before
      → Leaves h before after (after_learning (book_of before.book) (learn (book_of before.book) request a)) (keys before.book) result)
      → IfErr result (CountsWorldFault (h.faults before.journal) (h.faults after.journal))
      → IfErr result (Fails g h old (record old { connector = Open after }) (Delivers number))
  fails_to_learn before after number request answer bytes (Ok told) sent text e same was stays leaves counted = tt
  fails_to_learn before after number request answer bytes (Err fault) sent text e same was stays leaves counted = record {
    was = λ sound. record { registry = sound.registry; journal = was_honest g h old before e (was sound.journal) };
    base = refl;
    sent = refl;
    is = λ sound known w is. (given w is).is sound known w is;
    leaves = λ sound w is. (given w is).leaves sound w is;
    excused = counted_excuse (Open after) (Delivers number) fault (subst (λ side. CountsWorldFault (h.faults (journal_in side)) (h.faults after.journal) fault) (sym e) counted);
  }
    where
      said_at : {scope : Scope} (w : World) → IsAmong g h scope old w → message_at w.messages number ≡ Some (Answered request answer)
      said_at w is = message_same g h old number (Some (Answered request answer)) sent w is

      given : {scope : Scope} (w : World) → IsAmong g h scope old w → Fails g h old (record old { connector = Open after }) (Delivers number) fault
      given w is = fails_at_journal before after (Delivers number) fault (after_learning (book_of before.book) (learn (book_of before.book) request answer)) (keys before.book) e same (λ v. refl) was stays
          (λ honest left. (leaves answer (answer_read g h old number request answer bytes sent text w is) honest left).failed) counted
          (λ known. subst (λ m. IsOpenTo g h (record old { connector = Open after }) m) sent known)
          (λ scope v here. learnt_book g h old before request answer e v here ∙ ap (λ m. (delivers v m).book) (sym (said_at v here)))
          (λ scope v here. here_names g h old before e v here ∙ ap (λ m. world_names (delivers v m)) (sym (said_at v here)))

  -- ---- a request isn't answered

  excuse : (new : Running R J) (number : ℕ) (fault : WorldFault) → new.connector ≡ old.connector → CountsWorldFault (g.faults old.provider) (g.faults new.provider) fault → IsExcused g h old new (Delivers number) fault
  excuse new number Store connector counted = inr (inl counted.1)
  excuse new number Memory connector counted = (counted, ap (λ side. h.faults (journal_in side)) connector)

  -- the world is as it was, if its rows are
  pub still_there : {scope : Scope} (new : Running R J) (w : World) → new.connector ≡ old.connector → new.service ≡ old.service → new.sent.items ≡ old.sent.items
      → (g.is_faithful new.provider → g.rows new.provider ≡ world_rows w) → ((found : List StoredRecord) → g.may_hold new.provider found → found ≡ world_rows w)
      → IsAmong g h scope old w → IsAmong g h scope new w
  still_there new w connector base sent rows finds is = is_still g h old new w base is (record {
    rows = rows;
    found = finds;
    table = is.mirrors.table;
    book = subst (λ side. HasBook side w.book (world_names w)) (sym connector) is.mirrors.book;
    kept = λ found holds. is.mirrors.kept found (subst (λ side. h.may_hold (journal_in side) found) connector holds);
    messages = ap messages_of sent ∙ is.mirrors.messages;
    texts = ap texts_of sent ∙ is.mirrors.texts ∙ ap (λ b. map (message_text b) w.messages) (sym base);
    formed = formed_same old.service new.service w.messages base is.mirrors.formed;
  })

  -- the registry was only read
  pub fails_to_read : (new : Running R J) (request : Request) (fault : WorldFault) → new.connector ≡ old.connector → new.service ≡ old.service → new.sent.items ≡ old.sent.items
      → (g.is_honest new.provider → g.is_honest old.provider) → (g.is_faithful new.provider → g.is_faithful old.provider)
      → (g.is_faithful new.provider → g.rows new.provider ≡ g.rows old.provider)
      → (g.is_honest new.provider → LeavesNoMore (g.may_hold old.provider) (g.may_hold new.provider))
      → CountsWorldFault (g.faults old.provider) (g.faults new.provider) fault
      → FailsToArrive g h old new (Asked request) fault
  fails_to_read new request fault connector base sent was was_open same stop counted = record {
    was = λ sound. record { registry = was sound.registry; journal = subst (λ s. h.is_honest (journal_in s)) connector sound.journal };
    base = base;
    sent = sent;
    is = λ sound known w is. still_there new w connector base sent (λ faithful. same faithful ∙ is.mirrors.rows (was_open faithful)) (λ found holds. is.mirrors.found found (stop sound.registry found holds)) is;
    leaves = λ sound w is. holds_before new w (arrives w (Asked request)) (stop sound.registry) (λ found holds. subst (λ side. h.may_hold (journal_in side) found) connector holds) is;
    excused = λ number. excuse new number fault connector counted;
  }

  -- the registry was read, and its write failed
  pub fails_to_write : (new : Running R J) (mid : R) (pending : Outcome) (request : Request) (fault : WorldFault) → new.connector ≡ old.connector → new.service ≡ old.service → new.sent.items ≡ old.sent.items
      → (g.is_honest mid → g.is_honest old.provider) → (g.is_honest new.provider → g.is_honest mid)
      → (g.is_faithful mid → g.is_faithful old.provider) → (g.is_faithful mid → g.rows mid ≡ g.rows old.provider) → (g.is_faithful mid → pending ≡ outcome (g.rows old.provider) request)
      → (g.is_honest mid → LeavesNoMore (g.may_hold old.provider) (g.may_hold mid))
      → (g.is_honest new.provider → LeavesOr (g.may_hold mid) (g.may_hold new.provider) (λ found. g.is_faithful mid × (found ≡ changed_rows (g.rows mid) pending.change)))
      → (g.is_faithful new.provider → g.is_faithful mid) → (g.is_faithful new.provider → g.rows new.provider ≡ g.rows mid)
      → ((found : List StoredRecord) → g.is_faithful new.provider → g.may_hold new.provider found → found ≡ g.rows new.provider)
      → CountsWorldFault (g.faults old.provider) (g.faults new.provider) fault
      → FailsToArrive g h old new (Asked request) fault
  fails_to_write new mid pending request fault connector base sent was_old was_mid was_open same out stop_mid stop mid_open unwritten settled counted = record {
    was = λ sound. record { registry = was_old (was_mid sound.registry); journal = subst (λ s. h.is_honest (journal_in s)) connector sound.journal };
    base = base;
    sent = sent;
    is = λ sound known w is. still_there new w connector base sent (λ faithful. unwritten faithful ∙ held (mid_open faithful) w is)
        (λ found holds. settled found known holds ∙ unwritten known ∙ held (mid_open known) w is) is;
    leaves = λ sound w is. record {
      rows = λ found holds. elim (stop sound.registry found holds) [
        | inl was ↦ inl (is.mirrors.found found (stop_mid (was_mid sound.registry) found was))
        | inr made ↦ inr (made.1 ∙ rows_same made.0 w is)
      ];
      entries = λ found holds. inl (is.mirrors.kept found (subst (λ side. h.may_hold (journal_in side) found) connector holds));
    };
    excused = λ number. excuse new number fault connector counted;
  }
    where
      held : g.is_faithful mid → {scope : Scope} (w : World) → IsAmong g h scope old w → g.rows mid ≡ rows_of w.entries
      held faithful w is = same faithful ∙ is.mirrors.rows (was_open faithful)

      rows_same : g.is_faithful mid → {scope : Scope} (w : World) → IsAmong g h scope old w → changed_rows (g.rows mid) pending.change ≡ rows_of (step w.entries request).entries
      rows_same faithful w is = ap (λ rows. changed_rows rows pending.change) (held faithful w is)
          ∙ ap (λ p. changed_rows (rows_of w.entries) p.change) (out faithful ∙ ap (λ rows. outcome rows request) (is.mirrors.rows (was_open faithful)))
          ∙ (rows_follow_stories w.entries request is.mirrors.table).rows
