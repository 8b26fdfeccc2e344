-- An event goes on as before, whatever a store holds that it doesn't read: what is proved of every store is proved of one of
-- which nothing is known.
use Rattle.std.proofs.Common.{◌≡◌, ℕ, true, false, inl, List, Option, Some, None, Result, Ok, Err, IfErr, IfOk, OnErr, OnOk, map, refl, ap, sym, subst, ◌∙◌}
use Rattle.std.specs.FinMap.{get, keys}
use Rattle.scim_client.specs.Answers.{AnswersSo}
use Rattle.scim_client.specs.Spelling.{SpellsRequest}
use Rattle.scim_key.specs.declared.records.RecordName.{RecordName}
use Rattle.scim_message.specs.declared.messages.Answer.{Answer}
use Rattle.scim_message.specs.declared.messages.Request.{Request}
use Rattle.scim_resource.specs.Rows.{StoredRecord}
use Rattle.provider_core.specs.declared.registry.Registry.{Ghosts as Registries}
use Rattle.source_csv.specs.Records.{IsRow}
use Rattle.source_csv.specs.declared.rows.Row.{Row}
use Rattle.journal_core.specs.Entries.{EntryMap}
use Rattle.journal_core.specs.declared.journals.Journal.{Ghosts as Journals}
use Rattle.connector_core.specs.Asking.{asking}
use Rattle.connector_core.specs.Book.{Book, doubted}
use Rattle.connector_core.specs.Changing.{accepted_map, book_after, judging}
use Rattle.connector_core.specs.Learning.{after_learning, learn}
use Rattle.connector_core.specs.Maps.{book_of}
use Rattle.connector_core.specs.declared.knowledge.Known.{Known}
use Rattle.connector_core.specs.State.{Leaves, LeavesBook, State}
use Rattle.connector_core.specs.declared.asking.Ask.{Ask}
use Rattle.connector_core.specs.declared.asking.Ask.TheVariants as asks
use Rattle.world_model.specs.World.{World, Event, Asked, Answered, Changes, Delivers, Doubts, Restarts_provider, Restarts_connector, Sends, arrives, message_at, names as world_names, sends}
use Rattle.world_model.specs.Reports as model
use Rattle.world_model.specs.Safe.{rows as world_rows}
use Rattle.world_sim.specs.Events.{report_of}
use Rattle.world_sim.specs.GoingOn.{FailsOn, GoesOn, IsButForEntries, IsButForRows, unknown_entries, unknown_rows}
use Rattle.world_sim.specs.Messages.{messages_of, message_text, text_at, texts_of}
use Rattle.world_sim.specs.Reading.{IsOrMemory}
use Rattle.world_sim.specs.Running.{Apart, Arrives, FailsToArrive, Happens, HasBook, IsAmong, IsExcused, IsRequest, IsShutOff, IsSound, Mirrors, Posts, ReadsRegistry, Scope, Stays, if_restart, is_open, journal_in, known_in}
use Rattle.world_sim.specs.Sides.{CountsWorldFault, IsOpenedIn}
use Rattle.world_sim.specs.declared.reading.ReadingFault.TheVariants.{Unread}
use Rattle.world_sim.specs.declared.reports.Report.{Report}
use Rattle.world_sim.specs.declared.reports.WorldFault.{WorldFault}
use Rattle.world_sim.specs.declared.reports.WorldFault.TheVariants.{Memory, Store}
use Rattle.world_sim.specs.declared.sides.Side.{Side}
use Rattle.world_sim.specs.declared.sides.Side.TheVariants.{Open, Shut}
use Rattle.world_sim.specs.declared.worlds.World.{World as Running}
use Rattle.world_sim.proofs.Reaching.{formed_same, is_at, is_still}
use Rattle.world_sim.proofs.Restarts.{fails_staying, fails_to_change, fails_to_learn, fails_to_reopen_connector, fails_to_reopen_provider, forgotten_twice, reopens_connector, reopens_provider, restarted, staying, still_there}
use Rattle.world_sim.proofs.Steps.{are_moved, changes_told, delivers_nothing, delivers_unread, doubts_none, doubts_record, fails_numbered, learns_told, request_told, sends_nothing, sends_told}

-- a connector that knows the same has the same book
book_known : {J : Type 0} (was is : Side J) (book : Book) (names : List RecordName) → known_in is ≡ known_in was → HasBook was book names → HasBook is book names
book_known (Open before) (Open after) book names same has = let e : after.book ≡ before.book = cc same in (ap book_of e ∙ has.0, ap keys e ∙ has.1)
book_known (Open before) (Shut journal) book names same has = absurd (cc same)
book_known (Shut journal) (Open after) book names same has = absurd (cc same)
book_known (Shut journal) (Shut left) book names same has = has

module _ {R J : Type 0} (old : Running R J) where
  pub apart_still : (event : Event) → Apart old old event
  apart_still event = record { connector = λ _. refl; provider = λ _. refl }

  pub apart_connector : (new : Running R J) (event : Event) → ReadsRegistry old event → new.connector ≡ old.connector → Apart old new event
  apart_connector new event reads same = record { connector = λ _. same; provider = λ none. absurd (none reads) }

  pub apart_provider : (new : Running R J) (event : Event) → (ReadsRegistry old event → ⊥) → new.provider ≡ old.provider → Apart old new event
  apart_provider new event none same = record { connector = λ reads. absurd (none reads); provider = λ _. same }

  -- a request reads the registry, and an answer doesn't
  pub request_reads : (number : ℕ) (asked : Request) → message_at (messages_of old.sent.items) number ≡ Some (Asked asked) → ReadsRegistry old (Delivers number)
  request_reads number asked said = subst IsRequest (sym said) tt

  pub answer_reads : (number : ℕ) (request : Request) (answer : Answer) → message_at (messages_of old.sent.items) number ≡ Some (Answered request answer) → ReadsRegistry old (Delivers number) → ⊥
  answer_reads number request answer said reads = subst IsRequest said reads

module _ {R J : Type 0} (g : Registries R) (h : Journals J) (old : Running R J) where
  -- what an event does over any stores
  pub on_all : (new : Running R J) (event : Event) (told : Report) → ((k : Registries R) (l : Journals J) → Happens k l old new event told) → GoesOn g h old new event told
  on_all new event told does = record { but_for_rows = λ _. does (unknown_rows g) h; but_for_entries = λ _. does g (unknown_entries h) }

  -- ---- the world as it was, but for what a store holds

  rows_unknown : {scope : Scope} (new : Running R J) (w : World) → new.connector ≡ old.connector → new.service ≡ old.service → new.sent.items ≡ old.sent.items → IsButForRows g h scope old w → IsButForRows g h scope new w
  rows_unknown new w connector base sent is = still_there (unknown_rows g) h old new w connector base sent (λ none. absurd none) (λ found none. absurd none) is

  entries_unknown : {scope : Scope} (new : Running R J) (w : World) → new.provider ≡ old.provider → known_in new.connector ≡ known_in old.connector → new.service ≡ old.service → new.sent.items ≡ old.sent.items
      → IsButForEntries g h scope old w → IsButForEntries g h scope new w
  entries_unknown new w provider known base sent is = is_still g (unknown_entries h) old new w base is (record {
    rows = subst (λ p. g.is_faithful p → g.rows p ≡ world_rows w) (sym provider) is.mirrors.rows;
    found = subst (λ p. (found : List StoredRecord) → g.may_hold p found → found ≡ world_rows w) (sym provider) is.mirrors.found;
    table = is.mirrors.table;
    book = book_known old.connector new.connector w.book (world_names w) known is.mirrors.book;
    kept = λ found none. absurd none;
    messages = ap messages_of sent ∙ is.mirrors.messages;
    texts = ap texts_of sent ∙ is.mirrors.texts ∙ ap (λ b. map (message_text b) w.messages) (sym base);
    formed = formed_same old.service new.service w.messages base is.mirrors.formed;
  })

  -- ---- the connector is unchanged, so its journal holds what it held

  forget : {scope : Scope} (w : World) → IsAmong g h scope old w → IsButForEntries g h scope old w
  forget w is = record {
    mirrors = record {
      rows = is.mirrors.rows;
      found = is.mirrors.found;
      table = is.mirrors.table;
      book = is.mirrors.book;
      kept = λ found none. absurd none;
      messages = is.mirrors.messages;
      texts = is.mirrors.texts;
      formed = is.mirrors.formed;
    };
    base = is.base;
    reached = is.reached;
  }

  remember : {scope : Scope} (new : Running R J) (w v : World) → new.connector ≡ old.connector → v.book ≡ w.book → world_names v ≡ world_names w → IsAmong g h scope old w → Mirrors g (unknown_entries h) new v → Mirrors g h new v
  remember new w v connector book names is m = record {
    rows = m.rows;
    found = m.found;
    table = m.table;
    book = m.book;
    kept = λ found holds. are_moved found w.book v.book (world_names w) (world_names v) (sym book) (sym names) (is.mirrors.kept found (subst (λ s. h.may_hold (journal_in s) found) connector holds));
    messages = m.messages;
    texts = m.texts;
    formed = m.formed;
  }

  but : (new : Running R J) → IsSound g h new → IsSound g (unknown_entries h) new
  but new sound = record { registry = sound.registry; journal = tt }

  pub arrives_whole : (new : Running R J) (request : Request) (result : Result Report WorldFault) → new.connector ≡ old.connector
      → IfOk result (Arrives g (unknown_entries h) old new (Asked request)) → IfOk result (Arrives g h old new (Asked request))
  arrives_whole new request (Ok told) connector m = record {
    was = λ sound. record { registry = (m.was (but new sound)).registry; journal = subst (λ s. h.is_honest (journal_in s)) connector sound.journal };
    base = m.base;
    stays_open = λ sound faithful. m.stays_open (but new sound) faithful;
    journal_open = λ sound faithful. subst (λ s. h.is_faithful (journal_in s)) (sym connector) faithful;
    is = λ sound w is. remember new w (arrives w (Asked request)) connector refl refl is (m.is (but new sound) w (forget w is));
    report = λ sound w is. m.report (but new sound) w (forget w is);
  }
  arrives_whole new request (Err fault) connector m = tt

  pub fails_whole : (new : Running R J) (request : Request) (result : Result Report WorldFault) → new.connector ≡ old.connector
      → IfErr result (FailsToArrive g (unknown_entries h) old new (Asked request)) → IfErr result (FailsToArrive g h old new (Asked request))
  fails_whole new request (Ok told) connector fails = tt
  fails_whole new request (Err fault) connector fails = record {
    was = λ sound. record { registry = (fails.was (but new sound)).registry; journal = subst (λ s. h.is_honest (journal_in s)) connector sound.journal };
    base = fails.base;
    sent = fails.sent;
    is = λ sound known w is. is_still g h old new w fails.base is (remember new w w connector refl refl is (fails.is (but new sound) known w (forget w is)).mirrors);
    leaves = λ sound w is. record {
      rows = (fails.leaves (but new sound) w (forget w is)).rows;
      entries = λ found holds. inl (is.mirrors.kept found (subst (λ s. h.may_hold (journal_in s) found) connector holds));
    };
    excused = fails.excused;
  }

  -- ---- nothing changed

  fails_on_staying : (new : Running R J) (event : Event) (fault : WorldFault) → Stays old new → ((w : World) → if_restart w event ≡ w) → IsExcused g h old new event fault → FailsOn g h old new event fault
  fails_on_staying new event fault s still excused = record {
    but_for_rows = λ _. fails_staying (unknown_rows g) h old new event fault s still excused;
    but_for_entries = λ _. fails_staying g (unknown_entries h) old new event fault s still excused;
    rows_unknown = λ _ w is. staying (unknown_rows g) h old new s w is;
    entries_unknown = λ _ w is. is_at g (unknown_entries h) new w (if_restart w event) (still w) (staying g (unknown_entries h) old new s w is);
  }

  pub fails_on_memory : (new : Running R J) (event : Event) → Stays old new → ((w : World) → if_restart w event ≡ w) → FailsOn g h old new event Memory
  fails_on_memory new event s still = fails_on_staying new event Memory s still (ap g.faults s.provider, ap (λ side. h.faults (journal_in side)) s.connector)

  pub fails_on_shut : (event : Event) → ((w : World) → if_restart w event ≡ w) → IsShutOff old event → FailsOn g h old old event Store
  fails_on_shut event still shut = fails_on_staying old event Store (record { provider = refl; provider_open = refl; connector = refl; base = refl; sent = refl }) still (inl shut)

  -- ---- rows that are offered

  pub changes_on : (before after : State J) (row copy : Row) (result : Result Report WorldFault) → IsRow row → copy ≡ row → old.connector ≡ Open before
      → (h.is_honest after.journal → h.is_honest before.journal)
      → (h.is_honest after.journal → h.is_faithful before.journal → OnOk result (h.is_faithful after.journal))
      → (h.is_honest after.journal → LeavesBook h before
      → Leaves h before after (book_after (book_of before.book) copy (judging (book_of before.book) (keys before.book) copy)) (keys (accepted_map before.book copy (judging (book_of before.book) (keys before.book) copy))) result)
      → OnOk result (after.book ≡ accepted_map before.book copy (judging (book_of before.book) (keys before.book) copy))
      → IfOk result (λ told. report_of told ≡ model.Judged (judging (book_of before.book) (keys before.book) copy))
      → IfOk result (GoesOn g h old (record old { connector = Open after }) (Changes row))
  changes_on before after row copy (Ok told) law same e was stays leaves made said = record {
    but_for_rows = λ _. changes_told (unknown_rows g) h old before after row copy (Ok told) law same e was stays leaves made said;
    but_for_entries = λ _. changes_told g (unknown_entries h) old before after row copy (Ok told) law same e (λ _. tt) (λ _ none. none) (λ _ _. record { done = λ found none. absurd none; failed = tt }) made said;
  }
  changes_on before after row copy (Err fault) law same e was stays leaves made said = tt

  pub fails_on_change : (before after : State J) (row copy : Row) (result : Result Report WorldFault) → copy ≡ row → old.connector ≡ Open before → OnErr result (after.book ≡ before.book)
      → (h.is_honest after.journal → h.is_honest before.journal)
      → (h.is_faithful after.journal → LeavesBook h before → OnErr result (LeavesBook h after))
      → (h.is_honest after.journal → LeavesBook h before
      → Leaves h before after (book_after (book_of before.book) copy (judging (book_of before.book) (keys before.book) copy)) (keys (accepted_map before.book copy (judging (book_of before.book) (keys before.book) copy))) result)
      → IfErr result (CountsWorldFault (h.faults before.journal) (h.faults after.journal))
      → IfErr result (FailsOn g h old (record old { connector = Open after }) (Changes row))
  fails_on_change before after row copy (Ok told) is e same was stays leaves counted = tt
  fails_on_change before after row copy (Err fault) is e same was stays leaves counted = record {
    but_for_rows = λ _. fails_to_change (unknown_rows g) h old before after row copy (Err fault) is e same was stays leaves counted;
    but_for_entries = λ _. fails_to_change g (unknown_entries h) old before after row copy (Err fault) is e same (λ _. tt) (λ none _. absurd none) (λ _ _. record { done = tt; failed = λ found none. absurd none }) counted;
    rows_unknown = λ reads w is. absurd reads;
    entries_unknown = λ _ w is. entries_unknown (record old { connector = Open after }) w refl (ap Some same ∙ sym (ap known_in e)) refl refl is;
  }

  -- ---- requests that are sent

  pub sends_nothing_on : (before : State J) (name : RecordName) (ask : Option Ask) (told : Report) → old.connector ≡ Open before → asking (book_of before.book) name ≡ ask → ((w : World) → sends w ask ≡ w)
      → ((n : ℕ) → report_of told ≡ model.ask_report n ask) → GoesOn g h old old (Sends name) told
  sends_nothing_on before name ask told at e same said = on_all old (Sends name) told (λ k l. sends_nothing k l old before name ask told at e same said)

  pub sends_on : (new : Running R J) (before : State J) (name : RecordName) (request : Request) (result : Result Report WorldFault) → old.connector ≡ Open before → asking (book_of before.book) name ≡ Some (asks.Send request)
      → IfOk result (Posts old new request) → IfOk result (GoesOn g h old new (Sends name))
  sends_on new before name request (Ok told) at e p = on_all new (Sends name) told (λ k l. sends_told k l old new before name request (Ok told) at e p)
  sends_on new before name request (Err fault) at e p = tt

  pub fails_on_send : (new : Running R J) (name : RecordName) (result : Result Report WorldFault) → IfErr result (λ fault. fault ≡ Memory) → OnErr result (Stays old new) → IfErr result (FailsOn g h old new (Sends name))
  fails_on_send new name (Ok told) memory stays = tt
  fails_on_send new name (Err fault) memory stays = subst (λ f. FailsOn g h old new (Sends name) f) (sym memory) (fails_on_memory new (Sends name) stays (λ w. refl))

  -- ---- records that are doubted

  pub doubts_on : (before after : State J) (name : RecordName) (known : Known) (told : Report) → old.connector ≡ Open before
      → get before.book name ≡ Some known → after.journal ≡ before.journal → book_of after.book ≡ doubted (book_of before.book) name → keys after.book ≡ keys before.book
      → report_of told ≡ model.Doubted → GoesOn g h old (record old { connector = Open after }) (Doubts name) told
  doubts_on before after name known told e there journal made named said =
      on_all (record old { connector = Open after }) (Doubts name) told (λ k l. doubts_record k l old before after name known told e there journal made named said)

  pub doubts_none_on : (before : State J) (name : RecordName) (told : Report) → old.connector ≡ Open before → get before.book name ≡ None
      → report_of told ≡ model.Unknown_record → GoesOn g h old old (Doubts name) told
  doubts_none_on before name told e none said = on_all old (Doubts name) told (λ k l. doubts_none k l old before name told e none said)

  -- ---- messages that arrive

  pub delivers_nothing_on : (number : ℕ) (told : Report) → message_at (messages_of old.sent.items) number ≡ None → report_of told ≡ model.No_message → GoesOn g h old old (Delivers number) told
  delivers_nothing_on number told none said = on_all old (Delivers number) told (λ k l. delivers_nothing k l old number told none said)

  pub delivers_unread_on : (number : ℕ) (asked : Request) (bytes : List ℕ) (told : Report)
      → message_at (messages_of old.sent.items) number ≡ Some (Asked asked) → text_at (texts_of old.sent.items) number ≡ Some bytes
      → ((request : Request) → SpellsRequest bytes request → IsOrMemory request (Err Unread)) → GoesOn g h old old (Delivers number) told
  delivers_unread_on number asked bytes told said text only = on_all old (Delivers number) told (λ k l. delivers_unread k l old number asked bytes told said text only)

  pub request_on : (new : Running R J) (number : ℕ) (asked heard : Request) (bytes : List ℕ) (result : Result Report WorldFault)
      → message_at (messages_of old.sent.items) number ≡ Some (Asked asked) → text_at (texts_of old.sent.items) number ≡ Some bytes
      → ((request : Request) → SpellsRequest bytes request → IsOrMemory request (Ok heard))
      → IfOk result (Arrives g (unknown_entries h) old new (Asked heard)) → IfOk result (GoesOn g h old new (Delivers number))
  request_on new number asked heard bytes (Ok told) said text only m = record {
    but_for_rows = λ none. absurd (none (request_reads old number asked said));
    but_for_entries = λ _. request_told g (unknown_entries h) old new number asked heard bytes (Ok told) said text only m;
  }
  request_on new number asked heard bytes (Err fault) said text only m = tt

  pub fails_on_request : (new : Running R J) (number : ℕ) (asked heard : Request) (bytes : List ℕ) (result : Result Report WorldFault)
      → message_at (messages_of old.sent.items) number ≡ Some (Asked asked) → text_at (texts_of old.sent.items) number ≡ Some bytes
      → ((request : Request) → SpellsRequest bytes request → IsOrMemory request (Ok heard)) → new.connector ≡ old.connector
      → IfErr result (FailsToArrive g (unknown_entries h) old new (Asked heard)) → IfErr result (FailsOn g h old new (Delivers number))
  fails_on_request new number asked heard bytes (Ok told) said text only connector fails = tt
  fails_on_request new number asked heard bytes (Err fault) said text only connector fails = record {
    but_for_rows = λ none. absurd (none (request_reads old number asked said));
    but_for_entries = λ _. fails_numbered g (unknown_entries h) old new number asked heard bytes (Err fault) said text only fails;
    rows_unknown = λ _ w is. rows_unknown new w connector fails.base fails.sent is;
    entries_unknown = λ none w is. absurd (none (request_reads old number asked said));
  }

  pub learns_on : (before after : State J) (number : ℕ) (request : Request) (answer : Answer) (bytes : List ℕ) (result : Result Report WorldFault)
      → message_at (messages_of old.sent.items) number ≡ Some (Answered request answer) → text_at (texts_of old.sent.items) number ≡ Some bytes
      → old.connector ≡ Open before
      → ((a : Answer) → AnswersSo bytes request a → IfOk result (λ told. report_of told ≡ model.Taught (model.learnt_of (learn (book_of before.book) request a))))
      → ((a : Answer) → AnswersSo bytes request a → OnOk result (book_of after.book ≡ after_learning (book_of before.book) (learn (book_of before.book) request a)))
      → keys after.book ≡ keys before.book
      → (h.is_honest after.journal → h.is_honest before.journal)
      → (h.is_honest after.journal → h.is_faithful before.journal → OnOk result (h.is_faithful after.journal))
      → ((a : Answer) → AnswersSo bytes request a → h.is_honest after.journal → LeavesBook h before
      → Leaves h before after (after_learning (book_of before.book) (learn (book_of before.book) request a)) (keys before.book) result)
      → IfOk result (GoesOn g h old (record old { connector = Open after }) (Delivers number))
  learns_on before after number request answer bytes (Ok told) sent text e said made named was stays leaves = record {
    but_for_rows = λ _. learns_told (unknown_rows g) h old before after number request answer bytes (Ok told) sent text e said made named was stays leaves;
    but_for_entries = λ _. learns_told g (unknown_entries h) old before after number request answer bytes (Ok told) sent text e said made named (λ _. tt) (λ _ none. none)
        (λ a read _ _. record { done = λ found none. absurd none; failed = tt });
  }
  learns_on before after number request answer bytes (Err fault) sent text e said made named was stays leaves = tt

  pub fails_on_learning : (before after : State J) (number : ℕ) (request : Request) (answer : Answer) (bytes : List ℕ) (result : Result Report WorldFault)
      → message_at (messages_of old.sent.items) number ≡ Some (Answered request answer) → text_at (texts_of old.sent.items) number ≡ Some bytes
      → old.connector ≡ Open before → OnErr result (after.book ≡ before.book)
      → (h.is_honest after.journal → h.is_honest before.journal)
      → (h.is_faithful after.journal → LeavesBook h before → OnErr result (LeavesBook h after))
      → ((a : Answer) → AnswersSo bytes request a → h.is_honest after.journal → LeavesBook h before
      → Leaves h before after (after_learning (book_of before.book) (learn (book_of before.book) request a)) (keys before.book) result)
      → IfErr result (CountsWorldFault (h.faults before.journal) (h.faults after.journal))
      → IfErr result (FailsOn g h old (record old { connector = Open after }) (Delivers number))
  fails_on_learning before after number request answer bytes (Ok told) sent text e same was stays leaves counted = tt
  fails_on_learning before after number request answer bytes (Err fault) sent text e same was stays leaves counted = record {
    but_for_rows = λ _. fails_to_learn (unknown_rows g) h old before after number request answer bytes (Err fault) sent text e same was stays leaves counted;
    but_for_entries = λ _. fails_to_learn g (unknown_entries h) old before after number request answer bytes (Err fault) sent text e same (λ _. tt) (λ none _. absurd none)
        (λ a read _ _. record { done = tt; failed = λ found none. absurd none }) counted;
    rows_unknown = λ reads w is. absurd (answer_reads old number request answer sent reads);
    entries_unknown = λ _ w is. entries_unknown (record old { connector = Open after }) w refl (ap Some same ∙ sym (ap known_in e)) refl refl is;
  }

  -- ---- restarts

  pub restarts_provider_on : (registry : R) (told : Report) → (g.is_honest registry → g.is_honest old.provider) → (g.is_honest registry → g.is_faithful registry)
      → (g.is_honest registry → g.may_hold old.provider (g.rows registry))
      → ((found : List StoredRecord) → g.is_faithful registry → g.may_hold registry found → found ≡ g.rows registry)
      → (g.is_faithful registry → g.may_hold registry (g.rows registry))
      → report_of told ≡ model.Restarted
      → GoesOn g h old (record old { provider = registry; is_provider_open = true }) Restarts_provider told
  restarts_provider_on registry told was opened holds settled stays said = record {
    but_for_rows = λ none. absurd (none tt);
    but_for_entries = λ _. reopens_provider g (unknown_entries h) old registry told was opened holds settled stays said;
  }

  pub fails_on_restarting_provider : (registry : R) (fault : WorldFault) → (g.is_honest registry → g.is_honest old.provider)
      → (g.is_honest registry → (found : List StoredRecord) → g.may_hold registry found → g.may_hold old.provider found)
      → (g.is_faithful registry → g.may_hold registry (g.rows registry))
      → CountsWorldFault (g.faults old.provider) (g.faults registry) fault
      → FailsOn g h old (record old { provider = registry; is_provider_open = false }) Restarts_provider fault
  fails_on_restarting_provider registry fault was leaves stays counted = record {
    but_for_rows = λ none. absurd (none tt);
    but_for_entries = λ _. fails_to_reopen_provider g (unknown_entries h) old registry fault was leaves stays counted;
    rows_unknown = λ _ w is. rows_unknown (record old { provider = registry; is_provider_open = false }) w refl refl refl is;
    entries_unknown = λ none w is. absurd (none tt);
  }

  pub restarts_connector_on : (side : Side J) (told : Report) → is_open side ≡ true → IsOpenedIn h side
      → (h.is_honest (journal_in side) → h.is_honest (journal_in old.connector))
      → (h.is_honest (journal_in side) → h.is_faithful (journal_in side))
      → (h.is_honest (journal_in side) → h.may_hold (journal_in old.connector) (h.entries (journal_in side)))
      → (h.is_honest (journal_in side) → (found : EntryMap) → h.may_hold (journal_in side) found → h.may_hold (journal_in old.connector) found)
      → report_of told ≡ model.Restarted
      → GoesOn g h old (record old { connector = side }) Restarts_connector told
  restarts_connector_on side told is_so found was opens holds leaves said = record {
    but_for_rows = λ _. reopens_connector (unknown_rows g) h old side told is_so found was opens holds leaves said;
    but_for_entries = λ none. absurd (none tt);
  }

  pub fails_on_restarting_connector : (side : Side J) (fault : WorldFault) → is_open side ≡ false
      → (h.is_honest (journal_in side) → h.is_honest (journal_in old.connector))
      → (h.is_honest (journal_in side) → (found : EntryMap) → h.may_hold (journal_in side) found → h.may_hold (journal_in old.connector) found)
      → CountsWorldFault (h.faults (journal_in old.connector)) (h.faults (journal_in side)) fault
      → FailsOn g h old (record old { connector = side }) Restarts_connector fault
  fails_on_restarting_connector (Open connector) fault is_so was leaves counted = absurd (cc)
  fails_on_restarting_connector (Shut journal) fault is_so was leaves counted = record {
    but_for_rows = λ _. fails_to_reopen_connector (unknown_rows g) h old (Shut journal) fault is_so was leaves counted;
    but_for_entries = λ none. absurd (none tt);
    rows_unknown = λ reads w is. absurd reads;
    entries_unknown = λ _ w is. restarted g (unknown_entries h) old (Shut journal) w is (λ i name. forgotten_twice (w.book name) i) (λ found none. none);
  }
