-- The book judges each row as the history alone does.
use Rattle.std.proofs.Common.{◌≡◌, ℕ, ◌+◌, Bool, true, false, not, cond, List, [], ◌∷◌, ◌++◌, Option, Some, None, Result, Ok, Err, is_some, is_none, refl, ap, sym, ◌∙◌, inl, inr}
use Rattle.std.proofs.lemmas.Bool.{cases_Bool}
use Rattle.std.proofs.lemmas.List.{append-nil}
use Rattle.std.proofs.lemmas.List.Elements.{filter-append}
use Rattle.std.specs.List.{last_or, position_from}
use Rattle.std.specs.Option.{option_map}
use Rattle.scim_key.proofs.RecordLaws.{same as same_names}
use Rattle.scim_key.specs.declared.records.RecordName.{RecordName}
use Rattle.scim_resource.specs.Rows.{ShownRecord, shown_under}
use Rattle.scim_message.specs.declared.messages.Request.{Request}
use Rattle.scim_message.specs.declared.messages.Answer.{Answer}
use Rattle.source_csv.specs.Records.{row_name}
use Rattle.source_csv.specs.declared.rows.Row.{Row}
use Rattle.connector_core.specs.History.{History, same_name, rows_of, last_row, user, members_of, missing_member}
use Rattle.connector_core.specs.declared.accepting.Verdict.{Verdict}
use Rattle.connector_core.specs.declared.accepting.Verdict.TheVariants as verdicts
use Rattle.connector_core.specs.Book.{Book, put, wanting, with_row, undoubted, doubting, wanted_row}
use Rattle.connector_core.specs.Asking.{asking}
use Rattle.connector_core.specs.declared.asking.Ask.{Ask}
use Rattle.connector_core.specs.declared.asking.Ask.TheVariants.{Nothing, Waits, Send}
use Rattle.connector_core.specs.declared.knowledge.Known.{Known}
use Rattle.connector_core.specs.declared.learning.LearnFault.{LearnFault}
use Rattle.connector_core.specs.Keeps.{learn_at, no_version}
use Rattle.connector_core.specs.declared.keeps.Keeps.{Keeps}
use Rattle.connector_core.specs.declared.keeps.Keeps.TheVariants.{Revisions}
use Rattle.connector_core.specs.Learning.{Finding, absent, nothing_new, none_sighted, forgetting, is_absent, is_under, Lesson, Learning, after_learning}
use Rattle.connector_core.specs.declared.changing.ChangeFault.{ChangeFault}
use Rattle.connector_core.specs.Changing.{verdict, unknown_member, is_full, history_after, book_after}
use Rattle.world_model.proofs.Learned.{LearnsShown, LearnsShown.sees, LearnsShown.agrees, LearnsShown.differs, LearnsShown.only, LearnsShown.hides, Learns, Learns.shows, Learns.misses, Learns.is_taken, Learns.is_stale, learnt_by}
use Rattle.world_model.specs.World.{World, Message, Asked, Answered, Event, Changes, Sends, Delivers, Cuts, Restarts_provider, Restarts_connector, Doubts, sends, delivers, message_at, happens, empty, names, judged, run}
use Rattle.world_model.specs.Safe.{JudgesBySource}
use Rattle.world_model.specs.Providers.{delivers_at, happens_at, run_at, JudgesBySourceAt}
use Rattle.world_model.specs.Invariant.{Follows}
use Rattle.world_model.specs.Others.{Act, Ours, Theirs, acts, run_among, JudgesBySourceAmong}

-- ---- the wanted row is the last of its record

abbrev wants : Option Known → Option Row
wants known = option_map (λ k. k.wanted) known

-- what is put in the place of a record
put_wants : (book : Book) (name : RecordName) (known : Known) (q : RecordName) → wanted_row (put book name known) q ≡ cond (same_name name q) (Some known.wanted) (wanted_row book q)
put_wants book name known q = elim (cases_Bool (same_name name q)) [
  | inl e ↦ rw e refl
  | inr e ↦ rw e refl
]

last_of_more : (o : Option Row) (rows : List Row) (row : Row) → last_or o (rows ++ row ∷ []) ≡ Some row
last_of_more o [] row = refl
last_of_more o (r ∷ rows) row = last_of_more (Some r) rows row

push_last : (history : History) (row : Row) (q : RecordName) → last_row (history ++ row ∷ []) q ≡ cond (same_name (row_name row) q) (Some row) (last_row history q)
push_last history row q = rw (filter-append (λ r. same_name (row_name r) q) history (row ∷ [])) (elim (cases_Bool (same_name (row_name row) q)) [
  | inl e ↦ rw e (last_of_more None (rows_of history q) row)
  | inr e ↦ rw (e, append-nil (rows_of history q)) refl
])

wanting_wants : (o : Option Known) (row : Row) → (wanting o row).wanted ≡ row
wanting_wants None row = refl
wanting_wants (Some known) row = refl

new_follows : (book : Book) (history : History) (row : Row) → Follows book history → Follows (with_row book row) (history ++ row ∷ [])
new_follows book history row follows q =
    put_wants book (row_name row) (wanting (book (row_name row)) row) q
    ∙ rw (wanting_wants (book (row_name row)) row, follows q) (sym (push_last history row q))

change_follows : (book : Book) (history : History) (row : Row) (v : Result Verdict ChangeFault) → Follows book history → Follows (book_after book row v) (history_after history row v)
change_follows book history row (Ok verdicts.New) follows = new_follows book history row follows
change_follows book history row (Ok verdicts.Known) follows = follows
change_follows book history row (Ok verdicts.Older) follows = follows
change_follows book history row (Err fault) follows = follows

-- ---- learning and a restart keep what is wanted

reopened_wants : (o : Option Known) → wants (option_map undoubted o) ≡ wants o
reopened_wants None = refl
reopened_wants (Some known) = refl

pub doubted_wants : (b : Bool) (o : Option Known) → wants (cond b (option_map doubting o) o) ≡ wants o
doubted_wants true None = refl
doubted_wants true (Some known) = refl
doubted_wants false o = refl

some_sighted_wants : (id : List ℕ) (doubted : Bool) (known : Known) → (cond doubted (absent known) (nothing_new known)).known.wanted ≡ known.wanted
some_sighted_wants id true known = refl
some_sighted_wants id false known = refl

pub none_sighted_wants : (id : Option (List ℕ)) (known : Known) → (none_sighted id known).known.wanted ≡ known.wanted
none_sighted_wants None known = refl
none_sighted_wants (Some id) known = some_sighted_wants id known.is_doubted known

pub forgetting_wants : (concerned : Bool) (known : Known) → (forgetting concerned known).known.wanted ≡ known.wanted
forgetting_wants true known = refl
forgetting_wants false known = refl

shown_wants : {keeps : Keeps} (book : Book) (name : RecordName) (known : Known) (s : ShownRecord) {l : Lesson} → LearnsShown keeps book name known s l → l.known.wanted ≡ known.wanted
shown_wants book name known s (sees sight fits) = refl
shown_wants book name known s (agrees tag is tagged) = refl
shown_wants book name known s (differs sight differing) = refl
shown_wants book name known s (only tag unshown) = refl
shown_wants book name known s (hides u learns) = shown_wants book name known (shown_under no_version s) learns

pub lesson_wants : {keeps : Keeps} (book : Book) (name : RecordName) (known : Known) {said : Finding} {l : Lesson} → Learns keeps book name known said l → l.known.wanted ≡ known.wanted
lesson_wants book name known (shows s l learns) = shown_wants book name known s learns
lesson_wants book name known misses = none_sighted_wants known.id known
lesson_wants book name known is_taken = forgetting_wants (is_absent known.seen) known
lesson_wants book name known (is_stale if_match) = forgetting_wants (is_under if_match known.seen) known

pub put_keeps : (book : Book) (name : RecordName) (known now : Known) (q : RecordName) → book name ≡ Some known → now.wanted ≡ known.wanted → wanted_row (put book name now) q ≡ wanted_row book q
put_keeps book name known now q here same = put_wants book name now q ∙ elim (cases_Bool (same_name name q)) [
  | inl e ↦ rw e (ap Some same ∙ sym (ap wants (ap book (sym ((same_names name q).0 e)) ∙ here)))
  | inr e ↦ rw e refl
]

pub learn_keeps : (keeps : Keeps) (book : Book) (request : Request) (answer : Answer) (q : RecordName) → wanted_row (after_learning book (learn_at keeps book request answer)) q ≡ wanted_row book q
learn_keeps keeps book request answer q = go (learn_at keeps book request answer) refl
  where
    go : (r : Result Learning LearnFault) → learn_at keeps book request answer ≡ r → wanted_row (after_learning book r) q ≡ wanted_row book q
    go (Err fault) is = refl
    go (Ok learning) is =
        let t = learnt_by keeps book request answer learning is in
        ap (λ (b : Book). wanted_row b q) t.book_after ∙ put_keeps book t.name t.known t.teaches.known q t.in_book (lesson_wants book t.name t.known t.learns)

-- ---- every event

send_follows : (w : World) (o : Option Ask) → Follows w.book w.history → Follows (sends w o).book (sends w o).history
send_follows w None follows = follows
send_follows w (Some Nothing) follows = follows
send_follows w (Some (Waits member)) follows = follows
send_follows w (Some (Send request)) follows = follows

deliver_follows : (w : World) (o : Option Message) → Follows w.book w.history → Follows (delivers w o).book (delivers w o).history
deliver_follows w None follows = follows
deliver_follows w (Some (Asked request)) follows = follows
deliver_follows w (Some (Answered request answer)) follows = λ q. learn_keeps Revisions w.book request answer q ∙ follows q

pub event_follows : (w : World) (event : Event) → Follows w.book w.history → Follows (happens w event).book (happens w event).history
event_follows w (Changes row) follows = change_follows w.book w.history row (judged w row) follows
event_follows w (Sends name) follows = send_follows w (asking w.book name) follows
event_follows w (Delivers number) follows = deliver_follows w (message_at w.messages number) follows
event_follows w (Cuts number length) follows = follows
event_follows w Restarts_provider follows = follows
event_follows w Restarts_connector follows = λ q. reopened_wants (w.book q) ∙ follows q
event_follows w (Doubts name) follows = λ q. doubted_wants (same_name name q) (w.book q) ∙ follows q

pub event_follows_at : (keeps : Keeps) (w : World) (event : Event) → Follows w.book w.history → Follows (happens_at keeps w event).book (happens_at keeps w event).history
event_follows_at keeps w (Changes row) follows = event_follows w (Changes row) follows
event_follows_at keeps w (Sends name) follows = event_follows w (Sends name) follows
event_follows_at keeps w (Delivers number) follows = go (message_at w.messages number)
  where
    go : (o : Option Message) → Follows (delivers_at keeps w o).book (delivers_at keeps w o).history
    go None = follows
    go (Some (Asked request)) = follows
    go (Some (Answered request answer)) = λ q. learn_keeps keeps w.book request answer q ∙ follows q
event_follows_at keeps w (Cuts number length) follows = follows
event_follows_at keeps w Restarts_provider follows = follows
event_follows_at keeps w Restarts_connector follows = event_follows w Restarts_connector follows
event_follows_at keeps w (Doubts name) follows = event_follows w (Doubts name) follows

run_follows_at : (keeps : Keeps) (w : World) (events : List Event) → Follows w.book w.history → Follows (run_at keeps w events).book (run_at keeps w events).history
run_follows_at keeps w [] follows = follows
run_follows_at keeps w (event ∷ events) follows = run_follows_at keeps (happens_at keeps w event) events (event_follows_at keeps w event follows)

pub run_follows : (w : World) (events : List Event) → Follows w.book w.history → Follows (run w events).book (run w events).history
run_follows w [] follows = follows
run_follows w (event ∷ events) follows = run_follows (happens w event) events (event_follows w event follows)

-- ---- the verdicts

lacks : (o : Option Known) → is_none o ≡ not (is_some (wants o))
lacks None = refl
lacks (Some known) = refl

same_place : (p q : List ℕ → Bool) → ((key : List ℕ) → p key ≡ q key) → (start : ℕ) (keys : List (List ℕ)) → position_from p start keys ≡ position_from q start keys
same_place p q same start [] = refl
same_place p q same start (key ∷ keys) = rw (same key, same_place p q same (start + 1) keys) refl

same_missing : (book : Book) (history : History) (row : Row) → Follows book history → unknown_member book row ≡ missing_member history row
same_missing book history row follows =
    same_place _ _ (λ key. lacks (book (user key)) ∙ ap (λ o. not (is_some o)) (follows (user key))) 0 (members_of row)

pub judged_by_source : (w : World) (row : Row) → Follows w.book w.history → judged w row ≡ verdict (last_row w.history (row_name row)) (missing_member w.history row) (is_full (row_name row).kind (names w)) row
judged_by_source w row follows =
    ap (λ last. verdict last (unknown_member w.book row) (is_full (row_name row).kind (names w)) row) (follows (row_name row))
    ∙ ap (λ missing. verdict (last_row w.history (row_name row)) missing (is_full (row_name row).kind (names w)) row) (same_missing w.book w.history row follows)

pub judges_by_source : JudgesBySource
judges_by_source events row = judged_by_source (run empty events) row (run_follows empty events (λ name. refl))

pub judges_by_source_at : JudgesBySourceAt
judges_by_source_at keeps events row = judged_by_source (run_at keeps empty events) row (run_follows_at keeps empty events (λ name. refl))

-- ---- among others

act_follows : (w : World) (act : Act) → Follows w.book w.history → Follows (acts w act).book (acts w act).history
act_follows w (Ours event) follows = event_follows w event follows
act_follows w (Theirs request) follows = follows

among_follows : (w : World) (later : List Act) → Follows w.book w.history → Follows (run_among w later).book (run_among w later).history
among_follows w [] follows = follows
among_follows w (act ∷ later) follows = among_follows (acts w act) later (act_follows w act follows)

pub judges_by_source_among : JudgesBySourceAmong
judges_by_source_among all row = judged_by_source (run_among empty all) row (among_follows empty all (λ name. refl))
