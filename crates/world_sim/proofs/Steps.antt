-- What happens to the running world if a row is offered, a request is sent, or a message arrives.
use Rattle.std.proofs.Common.{arith, ◌≡◌, ◌≢◌, ℕ, Bool, true, false, cond, is_none, zero, suc, ◌-◌, ◌<◌, ◌≤◌, nat_lt, take, List, [], ◌∷◌, ◌++◌, Option, Some, None, Result, Ok, Err, map, length, refl, ap, sym, subst, ◌∙◌}
use Rattle.std.proofs.lemmas.Bool.{false_from_ne_true}
use Rattle.std.proofs.lemmas.Bool.Decides.{Decides-ltb}
use Rattle.std.proofs.lemmas.List.{length-map, map_push}
use Rattle.std.specs.BTreeSet.{insert_key}
use Rattle.std.specs.FinMap.{get, keys}
use Rattle.std.specs.List.{slice_get}
use Rattle.std.specs.Option.{option_map}
use Rattle.std.specs.Prelude.{IfErr, IfOk, OnOk}
use Rattle.scim_key.specs.Records.{name_cmp}
use Rattle.scim_key.specs.declared.records.RecordName.{RecordName}
use Rattle.scim_resource.specs.Rows.{StoredRecord}
use Rattle.scim_message.specs.Messages.{answer_status}
use Rattle.scim_message.specs.declared.messages.Request.{Request}
use Rattle.scim_message.specs.declared.messages.Answer.{Answer}
use Rattle.provider_core.specs.Outcomes.{Outcome, outcome, changed_rows}
use Rattle.provider_core.specs.Stories.{step, rows_of}
use Rattle.provider_core.specs.declared.registry.Registry.{Ghosts as Registries}
use Rattle.provider_core.proofs.StoryLaws.{rows_follow_stories}
use Rattle.scim_client.specs.Answers.{AnswersSo}
use Rattle.scim_client.specs.Spelling.{SpellsRequest}
use Rattle.source_csv.specs.Records.{IsRow, row_name}
use Rattle.source_csv.specs.declared.rows.Row.{Row}
use Rattle.journal_core.specs.declared.journals.Journal.{Ghosts as Journals}
use Rattle.journal_core.specs.Entries.{EntryMap}
use Rattle.connector_core.specs.History.{History, same_name}
use Rattle.connector_core.specs.declared.knowledge.Known.{Known}
use Rattle.connector_core.proofs.Lessons.{none-doubted}
use Rattle.connector_core.specs.declared.accepting.Verdict.{Verdict}
use Rattle.connector_core.specs.declared.accepting.Verdict.TheVariants as verdicts
use Rattle.connector_core.proofs.Keeping.{names-put}
use Rattle.connector_core.proofs.LawProofs.{maps_accept}
use Rattle.connector_core.specs.Asking.{asking}
use Rattle.connector_core.specs.Book.{Book, doubted, doubting, wanting}
use Rattle.connector_core.specs.Changing.{names_of, names_with, judging, history_after, book_after, accepted_map}
use Rattle.connector_core.specs.Learning.{learn, after_learning}
use Rattle.connector_core.specs.Maps.{BookMap, book_of}
use Rattle.connector_core.specs.State.{AreOf, Leaves, LeavesBook, State, entry_of}
use Rattle.connector_core.specs.declared.asking.Ask.{Ask}
use Rattle.connector_core.specs.declared.asking.Ask.TheVariants as asks
use Rattle.connector_core.specs.declared.changing.ChangeFault.{ChangeFault}
use Rattle.world_model.specs.World.{World, Message, names as world_names, Asked, Answered, Changes, Sends, Delivers, Cuts, Doubts, judged, sends, delivers, message_at, with_message}
use Rattle.world_model.specs.Reports as model
use Rattle.world_model.specs.Safe.{rows as world_rows}
use Rattle.world_sim.specs.Events.{report_of}
use Rattle.world_sim.specs.Fitting.{IsFormed}
use Rattle.world_sim.specs.Messages.{IsMessage, messages_of, text_at, texts_of, message_text, message_size, says}
use Rattle.world_sim.specs.Running.{Arrives, Fails, FailsToArrive, Happens, HasBook, HoldsOneOf, IsAmong, IsOpenTo, Makes, Mirrors, Posts, Scope, journal_in}
use Rattle.world_sim.specs.Reading.{IsReadAs, IsOrMemory}
use Rattle.world_sim.specs.declared.messages.Sent.{Sent}
use Rattle.world_sim.specs.declared.reading.ReadingFault.TheVariants.{Unread}
use Rattle.world_sim.specs.declared.reports.Report.{Report}
use Rattle.world_sim.specs.declared.reports.Report.TheVariants.{CutShort}
use Rattle.world_sim.specs.declared.reports.WorldFault.{WorldFault}
use Rattle.world_sim.specs.declared.sides.Side.TheVariants.{Open}
use Rattle.world_sim.specs.declared.worlds.World.{World as Running}
use Rattle.world_sim.proofs.Reaching.{at_map, formed_more, is_after, is_at, is_still, sent_is_read, text_is}
use Rattle.world_sim.proofs.Readings.{cut_read, no_unread, one_read}

-- ---- the names of the records

names_push : (names : List RecordName) (history : History) (row : Row) → names_with names (history ++ row ∷ []) ≡ insert_key name_cmp (names_with names history) (row_name row)
names_push names [] row = refl
names_push names (r ∷ history) row = names_push (insert_key name_cmp names (row_name r)) history row

changed_names : (m : BookMap) (history : History) (row : Row) (verdict : Result Verdict ChangeFault) → keys m ≡ names_of history → keys (accepted_map m row verdict) ≡ names_of (history_after history row verdict)
changed_names m history row (Ok verdicts.New) same = names-put m (row_name row) (wanting (get m (row_name row)) row) ∙ ap (λ names. insert_key name_cmp names (row_name row)) same ∙ sym (names_push [] history row)
changed_names m history row (Ok verdicts.Known) same = same
changed_names m history row (Ok verdicts.Older) same = same
changed_names m history row (Err fault) same = same

-- ---- what was sent

less_one : (place : ℕ) → suc place - 1 ≡ place
less_one place = omega arith

pub said_at : (sent : List Sent) (number : ℕ) (found : Option Sent) → number ≢ 0 → found ≡ slice_get sent (number - 1) → option_map (λ s. says s.said) found ≡ message_at (messages_of sent) number
said_at sent zero found some e = absurd (some refl)
said_at sent (suc place) found some e = ap (option_map (λ s. says s.said)) (e ∙ ap (slice_get sent) (less_one place)) ∙ at_map (λ s. says s.said) sent place

pub bytes_at : (sent : List Sent) (number : ℕ) (found : Option Sent) → number ≢ 0 → found ≡ slice_get sent (number - 1) → option_map (λ s. s.bytes.items) found ≡ text_at (texts_of sent) number
bytes_at sent zero found some e = absurd (some refl)
bytes_at sent (suc place) found some e = ap (option_map (λ s. s.bytes.items)) (e ∙ ap (slice_get sent) (less_one place)) ∙ at_map (λ s. s.bytes.items) sent place

-- ---- what a stop leaves

-- the same of the same book with the same names
pub are_moved : (found : EntryMap) (book later : Book) (names more : List RecordName) → book ≡ later → names ≡ more → AreOf found book names → AreOf found later more
are_moved found book later names more same alike are = record { same = λ name. are.same name ∙ ap (λ (b : Book). option_map entry_of (b name)) same; listed = are.listed ∙ alike }

-- the entries stay if a record is doubted
doubted_entry : (b : Bool) (o : Option Known) → option_map entry_of o ≡ option_map entry_of (cond b (option_map doubting o) o)
doubted_entry true None = refl
doubted_entry true (Some known) = refl
doubted_entry false o = refl

doubted_kept : (found : EntryMap) (book : Book) (name : RecordName) (names : List RecordName) → AreOf found book names → AreOf found (doubted book name) names
doubted_kept found book name names are = record { same = λ other. are.same other ∙ doubted_entry (same_name name other) (book other); listed = are.listed }

pub row_none : (o : Option Known) → option_map (λ (known : Known). known.wanted) o ≡ None → o ≡ None
row_none None e = refl
row_none (Some known) e = absurd (cc)

pub row_some : (o : Option Known) → is_none (option_map (λ (known : Known). known.wanted) o) ≡ false → (known : Known) × (o ≡ Some known)
row_some None e = absurd (cc)
row_some (Some known) e = (known, refl)

-- ---- rows that are offered, and requests that are sent

module _ {R J : Type 0} (g : Registries R) (h : Journals J) (old : Running R J) where
  -- the book and the names of an open connector are those of the world
  pub here_book : (before : State J) → old.connector ≡ Open before → {scope : Scope} (w : World) → IsAmong g h scope old w → book_of before.book ≡ w.book
  here_book before e w is = (subst (λ s. HasBook s w.book (world_names w)) e is.mirrors.book).0

  pub here_names : (before : State J) → old.connector ≡ Open before → {scope : Scope} (w : World) → IsAmong g h scope old w → keys before.book ≡ world_names w
  here_names before e w is = (subst (λ s. HasBook s w.book (world_names w)) e is.mirrors.book).1

  -- a stop leaves its book
  pub here_leaves : (before : State J) → old.connector ≡ Open before → {scope : Scope} (w : World) → IsAmong g h scope old w → LeavesBook h before
  here_leaves before e w is found holds = are_moved found w.book (book_of before.book) (world_names w) (keys before.book) (sym (here_book before e w is)) (sym (here_names before e w is))
      (is.mirrors.kept found (subst (λ s. h.may_hold (journal_in s) found) (sym e) holds))

  pub was_honest : (before : State J) → old.connector ≡ Open before → h.is_honest before.journal → h.is_honest (journal_in old.connector)
  was_honest before e honest = subst (λ s. h.is_honest (journal_in s)) (sym e) honest

  pub here_faithful : (before : State J) → old.connector ≡ Open before → h.is_faithful (journal_in old.connector) → h.is_faithful before.journal
  here_faithful before e faithful = subst (λ s. h.is_faithful (journal_in s)) e faithful

  -- the connector says the same of a row by the book of the world
  judged_same : (before : State J) → old.connector ≡ Open before → (row : Row) {scope : Scope} (w : World) → IsAmong g h scope old w → judging (book_of before.book) (keys before.book) row ≡ judged w row
  judged_same before e row w is = ap (λ b. judging b (keys before.book) row) (here_book before e w is) ∙ ap (λ names. judging w.book names row) (here_names before e w is)

  -- the book and the names after a row, which are those of the world after it
  pub changed_book : (before : State J) (row : Row) → old.connector ≡ Open before → {scope : Scope} (w : World) → IsAmong g h scope old w
      → book_after (book_of before.book) row (judging (book_of before.book) (keys before.book) row) ≡ book_after w.book row (judged w row)
  changed_book before row e w is = ap (λ b. book_after b row (judging (book_of before.book) (keys before.book) row)) (here_book before e w is) ∙ ap (book_after w.book row) (judged_same before e row w is)

  pub names_after_row : (before : State J) (row : Row) → old.connector ≡ Open before → {scope : Scope} (w : World) → IsAmong g h scope old w
      → keys (accepted_map before.book row (judging (book_of before.book) (keys before.book) row)) ≡ names_of (history_after w.history row (judged w row))
  names_after_row before row e w is = changed_names before.book w.history row (judging (book_of before.book) (keys before.book) row) (here_names before e w is)
      ∙ ap (λ v. names_of (history_after w.history row v)) (judged_same before e row w is)

  pub changes_row : (before after : State J) (row : Row) (told : Report) → IsRow row → old.connector ≡ Open before
      → (h.is_honest after.journal → h.is_honest before.journal)
      → (h.is_honest after.journal → h.is_faithful before.journal → h.is_faithful after.journal)
      → (h.is_honest after.journal → LeavesBook h before → LeavesBook h after)
      → after.book ≡ accepted_map before.book row (judging (book_of before.book) (keys before.book) row)
      → report_of told ≡ model.Judged (judging (book_of before.book) (keys before.book) row)
      → Happens g h old (record old { connector = Open after }) (Changes row) told
  changes_row before after row told law e was stays leaves made said = record {
    was = λ sound. record { registry = sound.registry; journal = was_honest before e (was sound.journal) };
    base = refl;
    stays_open = λ sound faithful. faithful;
    journal_open = λ sound faithful. stays sound.journal (here_faithful before e faithful);
    is = λ sound w is own.
        let book = ap book_of made ∙ maps_accept before.book row (judging (book_of before.book) (keys before.book) row) ∙ changed_book before row e w is in
        let names = ap keys made ∙ names_after_row before row e w is in
        is_after g h old (record old { connector = Open after }) w (Changes row) own law refl is (record {
          rows = is.mirrors.rows;
          found = is.mirrors.found;
          table = is.mirrors.table;
          book = (book, names);
          kept = λ found holds. are_moved found (book_of after.book) (book_after w.book row (judged w row)) (keys after.book) (names_of (history_after w.history row (judged w row))) book names
              (leaves sound.journal (here_leaves before e w is) found holds);
          messages = is.mirrors.messages;
          texts = is.mirrors.texts;
          formed = is.mirrors.formed;
        });
    report = λ sound w is. said ∙ ap model.Judged (judged_same before e row w is);
  }

  -- the same of what the connector said, if it said something
  pub changes_told : (before after : State J) (row copy : Row) (result : Result Report WorldFault) → IsRow row → copy ≡ row → old.connector ≡ Open before
      → (h.is_honest after.journal → h.is_honest before.journal)
      → (h.is_honest after.journal → h.is_faithful before.journal → OnOk result (h.is_faithful after.journal))
      → (h.is_honest after.journal → LeavesBook h before
      → Leaves h before after (book_after (book_of before.book) copy (judging (book_of before.book) (keys before.book) copy)) (keys (accepted_map before.book copy (judging (book_of before.book) (keys before.book) copy))) result)
      → OnOk result (after.book ≡ accepted_map before.book copy (judging (book_of before.book) (keys before.book) copy))
      → IfOk result (λ told. report_of told ≡ model.Judged (judging (book_of before.book) (keys before.book) copy))
      → IfOk result (λ told. Happens g h old (record old { connector = Open after }) (Changes row) told)
  changes_told before after row copy (Ok told) law same e was stays leaves made said =
      subst (λ r. Happens g h old (record old { connector = Open after }) (Changes r) told) same
      (changes_row before after copy told (subst IsRow (sym same) law) e was stays (λ honest left. (leaves honest left).done) made said)
  changes_told before after row copy (Err fault) law same e was stays leaves made said = tt

  -- a record is doubted
  pub doubts_record : (before after : State J) (name : RecordName) (known : Known) (told : Report) → old.connector ≡ Open before
      → get before.book name ≡ Some known → after.journal ≡ before.journal → book_of after.book ≡ doubted (book_of before.book) name → keys after.book ≡ keys before.book
      → report_of told ≡ model.Doubted → Happens g h old (record old { connector = Open after }) (Doubts name) told
  doubts_record before after name known told e there journal made named said = record {
    was = λ sound. record { registry = sound.registry; journal = was_honest before e (subst (λ j. h.is_honest j) journal sound.journal) };
    base = refl;
    stays_open = λ sound faithful. faithful;
    journal_open = λ sound faithful. subst (λ j. h.is_faithful j) (sym journal) (here_faithful before e faithful);
    is = λ sound w is own.
        let book = made ∙ ap (λ b. doubted b name) (here_book before e w is) in
        let names = named ∙ here_names before e w is in
        is_after g h old (record old { connector = Open after }) w (Doubts name) own tt refl is (record {
          rows = is.mirrors.rows;
          found = is.mirrors.found;
          table = is.mirrors.table;
          book = (book, names);
          kept = λ found holds. doubted_kept found w.book name (world_names w)
              (is.mirrors.kept found (subst (λ s. h.may_hold (journal_in s) found) (sym e) (subst (λ j. h.may_hold j found) journal holds)));
          messages = is.mirrors.messages;
          texts = is.mirrors.texts;
          formed = is.mirrors.formed;
        });
    report = λ sound w is. said ∙ sym (ap model.doubt_report (ap (λ b. b name) (sym (here_book before e w is)) ∙ there));
  }

  -- a record that isn't there
  pub doubts_none : (before : State J) (name : RecordName) (told : Report) → old.connector ≡ Open before → get before.book name ≡ None
      → report_of told ≡ model.Unknown_record → Happens g h old old (Doubts name) told
  doubts_none before name told e none said = record {
    was = λ sound. sound;
    base = refl;
    stays_open = λ sound faithful. faithful;
    journal_open = λ sound faithful. faithful;
    is = λ sound w is own.
        let same : w.book ≡ doubted w.book name = subst (λ b. b ≡ doubted b name) (here_book before e w is) (none-doubted before.book name none) in
        is_at g h old w (record w { book = doubted w.book name }) (ap (λ b. record w { book = b }) (sym same)) is;
    report = λ sound w is. said ∙ sym (ap model.doubt_report (ap (λ b. b name) (sym (here_book before e w is)) ∙ none));
  }

  asked_same : (before : State J) → old.connector ≡ Open before → (name : RecordName) (ask : Option Ask) → asking (book_of before.book) name ≡ ask → {scope : Scope} (w : World) → IsAmong g h scope old w → asking w.book name ≡ ask
  asked_same before at name ask e w is = ap (λ b. asking b name) (sym (here_book before at w is)) ∙ e

  -- nothing is sent
  pub sends_nothing : (before : State J) (name : RecordName) (ask : Option Ask) (told : Report) → old.connector ≡ Open before → asking (book_of before.book) name ≡ ask → ((w : World) → sends w ask ≡ w)
      → ((n : ℕ) → report_of told ≡ model.ask_report n ask) → Happens g h old old (Sends name) told
  sends_nothing before name ask told at e same said = record {
    was = λ sound. sound;
    base = refl;
    stays_open = λ sound faithful. faithful;
    journal_open = λ sound faithful. faithful;
    is = λ sound w is own. is_at g h old w (sends w (asking w.book name)) (ap (sends w) (asked_same before at name ask e w is) ∙ same w) is;
    report = λ sound w is. said (model.next_number w) ∙ sym (ap (model.ask_report (model.next_number w)) (asked_same before at name ask e w is));
  }

  more_messages : {scope : Scope} (w : World) (sent : Sent) (message : Message) → IsMessage old.service sent message → IsAmong g h scope old w → messages_of (old.sent.items ++ sent ∷ []) ≡ w.messages ++ message ∷ []
  more_messages w sent message in_bytes is = map_push (λ (s : Sent). says s.said) old.sent.items sent ∙ ap (λ ms. ms ++ says sent.said ∷ []) is.mirrors.messages ∙ ap (λ m. w.messages ++ m ∷ []) in_bytes.is

  more_texts : {scope : Scope} (w : World) (sent : Sent) (message : Message) → IsMessage old.service sent message → IsAmong g h scope old w → texts_of (old.sent.items ++ sent ∷ []) ≡ map (message_text old.service) (w.messages ++ message ∷ [])
  more_texts w sent message in_bytes is = map_push (λ (s : Sent). s.bytes.items) old.sent.items sent ∙ ap (λ ts. ts ++ sent.bytes.items ∷ []) is.mirrors.texts ∙ ap (λ t. map (message_text old.service) w.messages ++ t ∷ []) in_bytes.text
      ∙ sym (map_push (message_text old.service) w.messages message)

  pub as_many : {scope : Scope} (w : World) → IsAmong g h scope old w → length old.sent.items ≡ length w.messages
  as_many w is = sym (length-map old.sent.items (λ (s : Sent). says s.said)) ∙ ap length is.mirrors.messages

  -- the request is sent
  posts : (new : Running R J) (request : Request) (told : Report) → Posts old new request told
      → Makes g h old new (λ scope w. Mirrors g h new (with_message w (Asked request))) (λ w. model.sending_report (model.next_number w) request) report_of told
  posts new request told p = record {
    was = λ sound. record { registry = subst g.is_honest p.provider sound.registry; journal = subst (λ s. h.is_honest (journal_in s)) p.connector sound.journal };
    base = p.base;
    stays_open = λ sound faithful. subst g.is_faithful (sym p.provider) faithful;
    journal_open = λ sound faithful. subst (λ s. h.is_faithful (journal_in s)) (sym p.connector) faithful;
    is = λ sound w is. record {
      rows = subst (λ r. g.is_faithful r → g.rows r ≡ world_rows w) (sym p.provider) is.mirrors.rows;
      found = subst (λ r. (found : List StoredRecord) → g.may_hold r found → found ≡ world_rows w) (sym p.provider) is.mirrors.found;
      table = is.mirrors.table;
      book = subst (λ s. HasBook s w.book (world_names w)) (sym p.connector) is.mirrors.book;
      kept = λ found holds. is.mirrors.kept found (subst (λ s. h.may_hold (journal_in s) found) p.connector holds);
      messages = ap messages_of p.sent ∙ more_messages w p.message (Asked request) p.is is;
      texts = ap texts_of p.sent ∙ more_texts w p.message (Asked request) p.is is ∙ ap (λ b. map (message_text b) (w.messages ++ Asked request ∷ [])) (sym p.base);
      formed = formed_more old.service new.service w.messages (Asked request) p.base is.mirrors.formed p.formed;
    };
    report = λ sound w is. p.report ∙ ap (λ n. model.sending_report (suc n) request) (as_many w is);
  }

  pub sends_request : (new : Running R J) (before : State J) (name : RecordName) (request : Request) (told : Report) → old.connector ≡ Open before → asking (book_of before.book) name ≡ Some (asks.Send request)
      → Posts old new request told → Happens g h old new (Sends name) told
  sends_request new before name request told at e p = let m = posts new request told p in record {
    was = m.was;
    base = m.base;
    stays_open = m.stays_open;
    journal_open = m.journal_open;
    is = λ sound w is own. is_after g h old new w (Sends name) own tt m.base is
        (subst (λ v. Mirrors g h new v) (sym (ap (sends w) (asked_same before at name (Some (asks.Send request)) e w is))) (m.is sound w is));
    report = λ sound w is. m.report sound w is ∙ sym (ap (model.ask_report (model.next_number w)) (asked_same before at name (Some (asks.Send request)) e w is));
  }

  pub sends_told : (new : Running R J) (before : State J) (name : RecordName) (request : Request) (result : Result Report WorldFault) → old.connector ≡ Open before → asking (book_of before.book) name ≡ Some (asks.Send request)
      → IfOk result (Posts old new request) → IfOk result (Happens g h old new (Sends name))
  sends_told new before name request (Ok told) at e p = sends_request new before name request told at e p
  sends_told new before name request (Err fault) at e p = tt

  -- ---- messages that arrive

  pub message_same : (number : ℕ) (message : Option Message) → message_at (messages_of old.sent.items) number ≡ message → {scope : Scope} (w : World) → IsAmong g h scope old w → message_at w.messages number ≡ message
  message_same number message e w is = ap (λ ms. message_at ms number) (sym is.mirrors.messages) ∙ e

  pub delivers_nothing : (number : ℕ) (told : Report) → message_at (messages_of old.sent.items) number ≡ None → report_of told ≡ model.No_message → Happens g h old old (Delivers number) told
  delivers_nothing number told e said = record {
    was = λ sound. sound;
    base = refl;
    stays_open = λ sound faithful. faithful;
    journal_open = λ sound faithful. faithful;
    is = λ sound w is own. is_at g h old w (delivers w (message_at w.messages number)) (ap (delivers w) (message_same number None e w is)) is;
    report = λ sound w is. said ∙ sym (ap (model.delivery_report w) (message_same number None e w is));
  }

  -- the request that is read from the bytes with a number is the one that was sent
  same_asked : (number : ℕ) (asked heard : Request) (bytes : List ℕ) → message_at (messages_of old.sent.items) number ≡ Some (Asked asked) → text_at (texts_of old.sent.items) number ≡ Some bytes
      → ((request : Request) → SpellsRequest bytes request → IsOrMemory request (Ok heard)) → {scope : Scope} (w : World) → IsAmong g h scope old w → heard ≡ asked
  same_asked number asked heard bytes said text only w is = one_read asked heard (only asked (sent_is_read g h old number (Asked asked) bytes said text w is))

  pub delivers_request : (new : Running R J) (number : ℕ) (asked heard : Request) (bytes : List ℕ) (told : Report)
      → message_at (messages_of old.sent.items) number ≡ Some (Asked asked) → text_at (texts_of old.sent.items) number ≡ Some bytes
      → ((request : Request) → SpellsRequest bytes request → IsOrMemory request (Ok heard))
      → Arrives g h old new (Asked heard) told → Happens g h old new (Delivers number) told
  delivers_request new number asked heard bytes told said text only m = record {
    was = m.was;
    base = m.base;
    stays_open = m.stays_open;
    journal_open = m.journal_open;
    is = λ sound w is own. is_after g h old new w (Delivers number) own tt m.base is (subst (λ v. Mirrors g h new v) (sym (ap (delivers w) (heard_at w is))) (m.is sound w is));
    report = λ sound w is. m.report sound w is ∙ sym (ap (model.delivery_report w) (heard_at w is));
  }
    where
      heard_at : {scope : Scope} (w : World) → IsAmong g h scope old w → message_at w.messages number ≡ Some (Asked heard)
      heard_at w is = message_same number (Some (Asked asked)) said w is ∙ ap (λ r. Some (Asked r)) (sym (same_asked number asked heard bytes said text only w is))

  pub request_told : (new : Running R J) (number : ℕ) (asked heard : Request) (bytes : List ℕ) (result : Result Report WorldFault)
      → message_at (messages_of old.sent.items) number ≡ Some (Asked asked) → text_at (texts_of old.sent.items) number ≡ Some bytes
      → ((request : Request) → SpellsRequest bytes request → IsOrMemory request (Ok heard))
      → IfOk result (Arrives g h old new (Asked heard)) → IfOk result (Happens g h old new (Delivers number))
  request_told new number asked heard bytes (Ok told) said text only m = delivers_request new number asked heard bytes told said text only m
  request_told new number asked heard bytes (Err fault) said text only m = tt

  -- bytes that aren't read as a request aren't those of one
  pub delivers_unread : (number : ℕ) (asked : Request) (bytes : List ℕ) (told : Report)
      → message_at (messages_of old.sent.items) number ≡ Some (Asked asked) → text_at (texts_of old.sent.items) number ≡ Some bytes
      → ((request : Request) → SpellsRequest bytes request → IsOrMemory request (Err Unread)) → Happens g h old old (Delivers number) told
  delivers_unread number asked bytes told said text only = record {
    was = λ sound. sound;
    base = refl;
    stays_open = λ sound faithful. faithful;
    journal_open = λ sound faithful. faithful;
    is = λ sound w is own. absurd (never w is);
    report = λ sound w is. absurd (never w is);
  }
    where
      never : {scope : Scope} (w : World) → IsAmong g h scope old w → ⊥
      never w is = no_unread asked (only asked (sent_is_read g h old number (Asked asked) bytes said text w is))

  -- the bytes of an answer are read as it
  pub answer_read : (number : ℕ) (request : Request) (answer : Answer) (bytes : List ℕ) → message_at (messages_of old.sent.items) number ≡ Some (Answered request answer) → text_at (texts_of old.sent.items) number ≡ Some bytes
      → {scope : Scope} (w : World) → IsAmong g h scope old w → AnswersSo bytes request answer
  answer_read number request answer bytes sent text w is = sent_is_read g h old number (Answered request answer) bytes sent text w is

  pub learnt_book : (before : State J) (request : Request) (answer : Answer) → old.connector ≡ Open before → {scope : Scope} (w : World) → IsAmong g h scope old w
      → after_learning (book_of before.book) (learn (book_of before.book) request answer) ≡ after_learning w.book (learn w.book request answer)
  learnt_book before request answer e w is = ap (λ b. after_learning b (learn b request answer)) (here_book before e w is)

  pub learns : (before after : State J) (number : ℕ) (request : Request) (answer : Answer) (bytes : List ℕ) (told : Report)
      → message_at (messages_of old.sent.items) number ≡ Some (Answered request answer) → text_at (texts_of old.sent.items) number ≡ Some bytes
      → old.connector ≡ Open before
      → ((a : Answer) → AnswersSo bytes request a → report_of told ≡ model.Taught (model.learnt_of (learn (book_of before.book) request a)))
      → ((a : Answer) → AnswersSo bytes request a → book_of after.book ≡ after_learning (book_of before.book) (learn (book_of before.book) request a))
      → keys after.book ≡ keys before.book
      → (h.is_honest after.journal → h.is_honest before.journal)
      → (h.is_honest after.journal → h.is_faithful before.journal → h.is_faithful after.journal)
      → ((a : Answer) → AnswersSo bytes request a → h.is_honest after.journal → LeavesBook h before → LeavesBook h after)
      → Happens g h old (record old { connector = Open after }) (Delivers number) told
  learns before after number request answer bytes told sent text e said made named was stays leaves = record {
    was = λ sound. record { registry = sound.registry; journal = was_honest before e (was sound.journal) };
    base = refl;
    stays_open = λ sound faithful. faithful;
    journal_open = λ sound faithful. stays sound.journal (here_faithful before e faithful);
    is = λ sound w is own.
        let read = answer_read number request answer bytes sent text w is in
        let book = made answer read ∙ learnt_book before request answer e w is in
        let names = named ∙ here_names before e w is in
        is_after g h old (record old { connector = Open after }) w (Delivers number) own tt refl is
        (subst (λ v. Mirrors g h (record old { connector = Open after }) v) (sym (ap (delivers w) (message_same number (Some (Answered request answer)) sent w is))) (record {
          rows = is.mirrors.rows;
          found = is.mirrors.found;
          table = is.mirrors.table;
          book = (book, names);
          kept = λ found holds. are_moved found (book_of after.book) (after_learning w.book (learn w.book request answer)) (keys after.book) (world_names w) book names
              (leaves answer read sound.journal (here_leaves before e w is) found holds);
          messages = is.mirrors.messages;
          texts = is.mirrors.texts;
          formed = is.mirrors.formed;
        }));
    report = λ sound w is. said answer (answer_read number request answer bytes sent text w is) ∙ ap (λ b. model.Taught (model.learnt_of (learn b request answer))) (here_book before e w is)
        ∙ sym (ap (model.delivery_report w) (message_same number (Some (Answered request answer)) sent w is));
  }

  pub learns_told : (before after : State J) (number : ℕ) (request : Request) (answer : Answer) (bytes : List ℕ) (result : Result Report WorldFault)
      → message_at (messages_of old.sent.items) number ≡ Some (Answered request answer) → text_at (texts_of old.sent.items) number ≡ Some bytes
      → old.connector ≡ Open before
      → ((a : Answer) → AnswersSo bytes request a → IfOk result (λ told. report_of told ≡ model.Taught (model.learnt_of (learn (book_of before.book) request a))))
      → ((a : Answer) → AnswersSo bytes request a → OnOk result (book_of after.book ≡ after_learning (book_of before.book) (learn (book_of before.book) request a)))
      → keys after.book ≡ keys before.book
      → (h.is_honest after.journal → h.is_honest before.journal)
      → (h.is_honest after.journal → h.is_faithful before.journal → OnOk result (h.is_faithful after.journal))
      → ((a : Answer) → AnswersSo bytes request a → h.is_honest after.journal → LeavesBook h before
      → Leaves h before after (after_learning (book_of before.book) (learn (book_of before.book) request a)) (keys before.book) result)
      → IfOk result (Happens g h old (record old { connector = Open after }) (Delivers number))
  learns_told before after number request answer bytes (Ok told) sent text e said made named was stays leaves =
      learns before after number request answer bytes told sent text e said made named was stays (λ a read honest left. (leaves a read honest left).done)
  learns_told before after number request answer bytes (Err fault) sent text e said made named was stays leaves = tt

  -- the request with a number didn't arrive
  pub fails_numbered : (new : Running R J) (number : ℕ) (asked heard : Request) (bytes : List ℕ) (result : Result Report WorldFault)
      → message_at (messages_of old.sent.items) number ≡ Some (Asked asked) → text_at (texts_of old.sent.items) number ≡ Some bytes
      → ((request : Request) → SpellsRequest bytes request → IsOrMemory request (Ok heard))
      → IfErr result (FailsToArrive g h old new (Asked heard)) → IfErr result (Fails g h old new (Delivers number))
  fails_numbered new number asked heard bytes (Ok told) said text only fails = tt
  fails_numbered new number asked heard bytes (Err fault) said text only fails = record {
    was = fails.was;
    base = fails.base;
    sent = fails.sent;
    is = λ sound known w is. fails.is sound (subst (λ m. IsOpenTo g h new m) said known) w is;
    leaves = λ sound w is. subst (λ v. HoldsOneOf g h new w v) (sym (ap (delivers w) (heard_at w is))) (fails.leaves sound w is);
    excused = fails.excused number;
  }
    where
      heard_at : {scope : Scope} (w : World) → IsAmong g h scope old w → message_at w.messages number ≡ Some (Asked heard)
      heard_at w is = message_same number (Some (Asked asked)) said w is ∙ ap (λ r. Some (Asked r)) (sym (same_asked number asked heard bytes said text only w is))

  -- without a message, or with all bytes of one, nothing is cut
  pub cuts_none : (number count : ℕ) (told : Report) → message_at (messages_of old.sent.items) number ≡ None → report_of told ≡ model.No_message → Happens g h old old (Cuts number count) told
  cuts_none number count told none said = record {
    was = λ sound. sound;
    base = refl;
    stays_open = λ sound faithful. faithful;
    journal_open = λ sound faithful. faithful;
    is = λ sound w is own. is_still g h old old w refl is is.mirrors;
    report = λ sound w is. said ∙ sym (ap (λ m. model.cut_report (message_size old.service) m count) (message_same number None none w is));
  }

  pub cuts_whole : (number count : ℕ) (message : Message) (bytes : List ℕ) (told : Report)
      → message_at (messages_of old.sent.items) number ≡ Some message → text_at (texts_of old.sent.items) number ≡ Some bytes
      → length bytes ≤ count → report_of told ≡ model.No_message → Happens g h old old (Cuts number count) told
  cuts_whole number count message bytes told said text whole none = record {
    was = λ sound. sound;
    base = refl;
    stays_open = λ sound faithful. faithful;
    journal_open = λ sound faithful. faithful;
    is = λ sound w is own. is_still g h old old w refl is is.mirrors;
    report = λ sound w is. none ∙ sym (ap (λ m. model.cut_report (message_size old.service) m count) (message_same number (Some message) said w is) ∙ ap model.cut_at (is_whole w is));
  }
    where
      not_less : nat_lt count (length bytes) ≡ false
      not_less = false_from_ne_true _ (λ (less : nat_lt count (length bytes) ≡ true). absurd (omega (arith, (Decides-ltb count (length bytes)).0 less, whole)))

      is_whole : {scope : Scope} (w : World) → IsAmong g h scope old w → nat_lt count (message_size old.service message) ≡ false
      is_whole w is = ap (λ (t : List ℕ). nat_lt count (length t)) (sym (text_is g h old number message bytes said text w is)) ∙ not_less

  -- the first bytes of a message aren't read as one
  pub cuts_message : (number count : ℕ) (message : Message) (bytes front : List ℕ) (told : Report)
      → message_at (messages_of old.sent.items) number ≡ Some message → text_at (texts_of old.sent.items) number ≡ Some bytes
      → count < length bytes → front ≡ take count bytes
      → ((more : List ℕ) → 0 < length more → IsReadAs (front ++ more) message → told ≡ CutShort)
      → Happens g h old old (Cuts number count) told
  cuts_message number count message bytes front told said text less first cut = record {
    was = λ sound. sound;
    base = refl;
    stays_open = λ sound faithful. faithful;
    journal_open = λ sound faithful. faithful;
    is = λ sound w is own. is_still g h old old w refl is is.mirrors;
    report = λ sound w is.
        let short : told ≡ CutShort = cut_read bytes count front message less first (told ≡ CutShort) cut (sent_is_read g h old number message bytes said text w is) in
        ap report_of short ∙ sym (ap (λ m. model.cut_report (message_size old.service) m count) (message_same number (Some message) said w is)
        ∙ ap model.cut_at (is_short w is));
  }
    where
      is_short : {scope : Scope} (w : World) → IsAmong g h scope old w → nat_lt count (message_size old.service message) ≡ true
      is_short w is = ap (λ (t : List ℕ). nat_lt count (length t)) (sym (text_is g h old number message bytes said text w is)) ∙ (Decides-ltb count (length bytes)).1 less

  -- a request is answered: the registry is read, and then written
  pub answers : (new : Running R J) (mid : R) (pending : Outcome) (request : Request) (message : Sent) (told : Report)
      → new.connector ≡ old.connector → new.service ≡ old.service → new.sent.items ≡ old.sent.items ++ message ∷ []
      → (g.is_honest mid → g.is_honest old.provider) → (g.is_honest new.provider → g.is_honest mid)
      → (g.is_faithful mid → g.is_faithful old.provider)
      → (g.is_honest mid → g.is_faithful mid) → (g.is_honest new.provider → g.is_faithful mid → g.is_faithful new.provider)
      → (g.is_faithful mid → g.rows mid ≡ g.rows old.provider) → (g.is_faithful mid → pending ≡ outcome (g.rows old.provider) request)
      → (g.is_faithful new.provider → g.rows new.provider ≡ changed_rows (g.rows mid) pending.change)
      → ((found : List StoredRecord) → g.is_faithful new.provider → g.may_hold new.provider found → found ≡ g.rows new.provider)
      → IsMessage old.service message (Answered request pending.answer) → IsFormed old.service (Answered request pending.answer)
      → report_of told ≡ model.Answering (suc (length old.sent.items)) (answer_status pending.answer)
      → Arrives g h old new (Asked request) told
  answers new mid pending request message told connector base sent was_old was_mid was_open opened stays same out done settled in_bytes formed said = record {
    was = λ sound. record { registry = was_old (was_mid sound.registry); journal = subst (λ s. h.is_honest (journal_in s)) connector sound.journal };
    base = base;
    stays_open = λ sound faithful. is_open_now sound.registry;
    journal_open = λ sound faithful. subst (λ s. h.is_faithful (journal_in s)) (sym connector) faithful;
    is = λ sound w is. let step_is = answer_same sound.registry w is in record {
      rows = λ faithful. done faithful ∙ rows_same sound.registry w is;
      found = λ found holds. settled found (is_open_now sound.registry) holds ∙ done (is_open_now sound.registry) ∙ rows_same sound.registry w is;
      table = (rows_follow_stories w.entries request is.mirrors.table).table;
      book = subst (λ s. HasBook s w.book (world_names w)) (sym connector) is.mirrors.book;
      kept = λ found holds. is.mirrors.kept found (subst (λ s. h.may_hold (journal_in s) found) connector holds);
      messages = ap messages_of sent ∙ more_messages w message (Answered request pending.answer) in_bytes is ∙ ap (λ a. w.messages ++ Answered request a ∷ []) step_is;
      texts = ap texts_of sent ∙ more_texts w message (Answered request pending.answer) in_bytes is
          ∙ ap (λ a. map (message_text old.service) (w.messages ++ Answered request a ∷ [])) step_is
          ∙ ap (λ b. map (message_text b) (w.messages ++ Answered request (step w.entries request).answer ∷ [])) (sym base);
      formed = formed_more old.service new.service w.messages (Answered request (step w.entries request).answer) base is.mirrors.formed (subst (λ a. IsFormed old.service (Answered request a)) step_is formed);
    };
    report = λ sound w is. said ∙ ap (λ n. model.Answering (suc n) (answer_status pending.answer)) (as_many w is)
        ∙ ap (λ a. model.Answering (model.next_number w) (answer_status a)) (answer_same sound.registry w is);
  }
    where
      is_open_now : g.is_honest new.provider → g.is_faithful new.provider
      is_open_now honest = stays honest (opened (was_mid honest))

      held_same : g.is_honest new.provider → {scope : Scope} (w : World) → IsAmong g h scope old w → g.rows old.provider ≡ rows_of w.entries
      held_same honest w is = is.mirrors.rows (was_open (opened (was_mid honest)))

      pending_same : g.is_honest new.provider → {scope : Scope} (w : World) → IsAmong g h scope old w → pending ≡ outcome (rows_of w.entries) request
      pending_same honest w is = out (opened (was_mid honest)) ∙ ap (λ rows. outcome rows request) (held_same honest w is)

      answer_same : g.is_honest new.provider → {scope : Scope} (w : World) → IsAmong g h scope old w → pending.answer ≡ (step w.entries request).answer
      answer_same honest w is = ap (λ p. p.answer) (pending_same honest w is) ∙ (rows_follow_stories w.entries request is.mirrors.table).answer

      rows_same : g.is_honest new.provider → {scope : Scope} (w : World) → IsAmong g h scope old w → changed_rows (g.rows mid) pending.change ≡ rows_of (step w.entries request).entries
      rows_same honest w is = ap (λ rows. changed_rows rows pending.change) (same (opened (was_mid honest)) ∙ held_same honest w is)
          ∙ ap (λ p. changed_rows (rows_of w.entries) p.change) (pending_same honest w is) ∙ (rows_follow_stories w.entries request is.mirrors.table).rows
