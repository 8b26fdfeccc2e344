-- Nothing that was accepted, held or sent is lost or changed, and no confirmed revision falls.
use Rattle.std.proofs.Common.{◌≡◌, ℕ, Bool, true, false, cond, List, [], ◌∷◌, ◌++◌, Option, Some, None, Result, Ok, Err, refl, ap, sym, ◌∙◌, subst, inl, inr, append_assoc}
use Rattle.std.proofs.lemmas.Bool.{cases_Bool}
use Rattle.std.proofs.lemmas.List.{append-nil}
use Rattle.std.proofs.lemmas.List.Elements.{filter-append}
use Rattle.std.specs.Option.{option_map}
use Rattle.scim_key.proofs.RevisionLaws.{reflexive_up_to, transitive_up_to, later_above_first}
use Rattle.scim_key.proofs.RecordLaws.{same as same_names}
use Rattle.scim_key.specs.Revisions.{◌≼◌}
use Rattle.scim_key.specs.declared.records.RecordName.{RecordName}
use Rattle.scim_resource.specs.Rows.{ShownRecord, shown_under}
use Rattle.scim_message.specs.declared.messages.Request.{Request}
use Rattle.scim_message.specs.declared.messages.Answer.{Answer}
use Rattle.provider_core.specs.Stories.{step}
use Rattle.provider_core.proofs.StoryLaws.{stories_only_grow}
use Rattle.provider_core.proofs.TableLaws.{go_on_staying, go_on_further}
use Rattle.source_csv.specs.Records.{row_name, row_revision}
use Rattle.source_csv.specs.declared.rows.Row.{Row}
use Rattle.connector_core.specs.History.{History, same_name, rows_of}
use Rattle.connector_core.specs.declared.accepting.Verdict.{Verdict}
use Rattle.connector_core.specs.declared.accepting.Verdict.TheVariants as verdicts
use Rattle.connector_core.specs.Book.{Book, put, wanting, undoubted, doubting}
use Rattle.connector_core.specs.Asking.{asking}
use Rattle.connector_core.specs.declared.asking.Ask.{Ask}
use Rattle.connector_core.specs.declared.asking.Ask.TheVariants.{Nothing, Waits, Send}
use Rattle.connector_core.specs.declared.knowledge.Known.{Known}
use Rattle.connector_core.specs.declared.learning.LearnFault.{LearnFault}
use Rattle.connector_core.specs.Keeps.{learn_at, no_version}
use Rattle.connector_core.specs.declared.keeps.Keeps.{Keeps}
use Rattle.connector_core.specs.declared.keeps.Keeps.TheVariants.{Revisions}
use Rattle.connector_core.specs.Learning.{Finding, absent, nothing_new, none_sighted, forgetting, is_absent, is_under, Lesson, Learning, after_learning}
use Rattle.connector_core.specs.declared.changing.ChangeFault.{ChangeFault}
use Rattle.connector_core.specs.Changing.{history_after, book_after}
use Rattle.world_model.proofs.Learned.{LearnsShown, LearnsShown.sees, LearnsShown.agrees, LearnsShown.differs, LearnsShown.only, LearnsShown.hides, Learns, Learns.shows, Learns.misses, Learns.is_taken, Learns.is_stale, learnt_by}
use Rattle.world_model.specs.World.{World, Message, Asked, Answered, Event, Changes, Sends, Delivers, Cuts, Restarts_provider, Restarts_connector, Doubts, sends, delivers, message_at, happens, empty, judged, run}
use Rattle.world_model.specs.Safe.{IsPrefixOf, Onward, AlwaysOnward}
use Rattle.world_model.specs.Providers.{answered, delivers_at, happens_at, run_at, AlwaysOnwardAt}
use Rattle.world_model.specs.Others.{Act, Ours, Theirs, acts, acts_at, run_among, run_among_at, AlwaysOnwardAmong}

-- ---- lists

pub stays : {X : Type 0} (xs : List X) → IsPrefixOf xs xs
stays xs = ([], sym (append-nil xs))

further : {X : Type 0} (xs ys zs : List X) → IsPrefixOf xs ys → IsPrefixOf ys zs → IsPrefixOf xs zs
further {X} xs ys zs p q = (p.0 ++ q.0, q.1 ∙ ap (λ (l : List X). l ++ q.0) p.1 ∙ append_assoc xs p.0 q.0)

-- ---- confirmed revisions

abbrev StaysConfirmed : Known → Option Known → Type 0
StaysConfirmed known o = (after : Known) × (o ≡ Some after) × (known.confirmed ≼ after.confirmed)

abbrev NoneFalls : Book → Book → Type 0
NoneFalls early late = (name : RecordName) (known : Known) → early name ≡ Some known → StaysConfirmed known (late name)

pub none_falls : (book : Book) → NoneFalls book book
none_falls book name known is = (known, is, reflexive_up_to known.confirmed)

none_falls_further : (a b c : Book) → NoneFalls a b → NoneFalls b c → NoneFalls a c
none_falls_further a b c p q name known is =
    let (mid, here, up) = p name known is in
    let (after, there, more) = q name mid here in
    (after, there, transitive_up_to known.confirmed mid.confirmed after.confirmed up more)

put_raises : (book : Book) (name : RecordName) (now : Known) → ((known : Known) → book name ≡ Some known → known.confirmed ≼ now.confirmed) → NoneFalls book (put book name now)
put_raises book name now up q known is = elim (cases_Bool (same_name name q)) [
  | inl e ↦ (now, rw e refl, up known (ap book ((same_names name q).0 e) ∙ is))
  | inr e ↦ (known, rw e is, reflexive_up_to known.confirmed)
]

wanting_keeps : (o : Option Known) (row : Row) (known : Known) → o ≡ Some known → known.confirmed ≼ (wanting o row).confirmed
wanting_keeps None row known is = absurd (cc)
wanting_keeps (Some k) row known is = let same : k ≡ known = cc in subst (λ x. x.confirmed ≼ k.confirmed) same (reflexive_up_to k.confirmed)

change_raises : (book : Book) (row : Row) (v : Result Verdict ChangeFault) → NoneFalls book (book_after book row v)
change_raises book row (Ok verdicts.New) = put_raises book (row_name row) (wanting (book (row_name row)) row) (wanting_keeps (book (row_name row)) row)
change_raises book row (Ok verdicts.Known) = none_falls book
change_raises book row (Ok verdicts.Older) = none_falls book
change_raises book row (Err fault) = none_falls book

abbrev Raises : Known → Lesson → Type 0
Raises known l = known.confirmed ≼ l.known.confirmed

some_sighted_raises : (doubted : Bool) (known : Known) → Raises known (cond doubted (absent known) (nothing_new known))
some_sighted_raises true known = reflexive_up_to known.confirmed
some_sighted_raises false known = reflexive_up_to known.confirmed

none_sighted_raises : (id : Option (List ℕ)) (known : Known) → Raises known (none_sighted id known)
none_sighted_raises None known = reflexive_up_to known.confirmed
none_sighted_raises (Some id) known = some_sighted_raises known.is_doubted known

forgetting_raises : (concerned : Bool) (known : Known) → Raises known (forgetting concerned known)
forgetting_raises true known = reflexive_up_to known.confirmed
forgetting_raises false known = reflexive_up_to known.confirmed

shown_raises : {keeps : Keeps} (book : Book) (name : RecordName) (known : Known) (s : ShownRecord) {l : Lesson} → LearnsShown keeps book name known s l → Raises known l
shown_raises book name known s (sees sight fits) = later_above_first known.confirmed sight.revision
shown_raises book name known s (agrees tag is tagged) = later_above_first known.confirmed (row_revision known.wanted)
shown_raises book name known s (differs sight differing) = reflexive_up_to known.confirmed
shown_raises book name known s (only tag unshown) = reflexive_up_to known.confirmed
shown_raises book name known s (hides u learns) = shown_raises book name known (shown_under no_version s) learns

lesson_raises : {keeps : Keeps} (book : Book) (name : RecordName) (known : Known) {said : Finding} {l : Lesson} → Learns keeps book name known said l → Raises known l
lesson_raises book name known (shows s l learns) = shown_raises book name known s learns
lesson_raises book name known misses = none_sighted_raises known.id known
lesson_raises book name known is_taken = forgetting_raises (is_absent known.seen) known
lesson_raises book name known (is_stale if_match) = forgetting_raises (is_under if_match known.seen) known

noted_raises : (book : Book) (name : RecordName) (known : Known) (l : Lesson) → book name ≡ Some known → Raises known l → NoneFalls book (put book name l.known)
noted_raises book name known l here up = put_raises book name l.known (λ k is.
    let same : known ≡ k = cc (sym here ∙ is) in subst (λ x. x.confirmed ≼ l.known.confirmed) same up)

learn_raises : (keeps : Keeps) (book : Book) (request : Request) (answer : Answer) → NoneFalls book (after_learning book (learn_at keeps book request answer))
learn_raises keeps book request answer = go (learn_at keeps book request answer) refl
  where
    go : (r : Result Learning LearnFault) → learn_at keeps book request answer ≡ r → NoneFalls book (after_learning book r)
    go (Err fault) is = none_falls book
    go (Ok learning) is =
        let t = learnt_by keeps book request answer learning is in
        subst (λ (b : Book). NoneFalls book b) (sym t.book_after) (noted_raises book t.name t.known t.teaches t.in_book (lesson_raises book t.name t.known t.learns))

reopened_raises : (o : Option Known) (known : Known) → o ≡ Some known → StaysConfirmed known (option_map undoubted o)
reopened_raises None known is = absurd (cc)
reopened_raises (Some k) known is = let same : k ≡ known = cc in (undoubted k, refl, subst (λ x. x.confirmed ≼ k.confirmed) same (reflexive_up_to k.confirmed))

-- a doubt leaves the confirmed revision
doubted_raises : (b : Bool) (o : Option Known) (known : Known) → o ≡ Some known → StaysConfirmed known (cond b (option_map doubting o) o)
doubted_raises b None known is = absurd (cc)
doubted_raises true (Some k) known is = let same : k ≡ known = cc in (doubting k, refl, subst (λ x. x.confirmed ≼ k.confirmed) same (reflexive_up_to k.confirmed))
doubted_raises false (Some k) known is = (known, is, reflexive_up_to known.confirmed)

-- ---- every event

change_adds : (history : History) (row : Row) (v : Result Verdict ChangeFault) (name : RecordName) → IsPrefixOf (rows_of history name) (rows_of (history_after history row v) name)
change_adds history row (Ok verdicts.New) name = (rows_of (row ∷ []) name, filter-append (λ r. same_name (row_name r) name) history (row ∷ []))
change_adds history row (Ok verdicts.Known) name = stays (rows_of history name)
change_adds history row (Ok verdicts.Older) name = stays (rows_of history name)
change_adds history row (Err fault) name = stays (rows_of history name)

pub here_still : (w : World) → Onward w w
here_still w = record { rows = λ name. stays (rows_of w.history name); stories = go_on_staying w.entries; messages = stays w.messages; confirmed = none_falls w.book }

pub and_on : (u v w : World) → Onward u v → Onward v w → Onward u w
and_on u v w p q = record {
  rows = λ name. further (rows_of u.history name) (rows_of v.history name) (rows_of w.history name) (p.rows name) (q.rows name);
  stories = go_on_further u.entries v.entries w.entries p.stories q.stories;
  messages = further u.messages v.messages w.messages p.messages q.messages;
  confirmed = none_falls_further u.book v.book w.book p.confirmed q.confirmed;
}

sends_on : (w : World) (o : Option Ask) → Onward w (sends w o)
sends_on w None = here_still w
sends_on w (Some Nothing) = here_still w
sends_on w (Some (Waits member)) = here_still w
sends_on w (Some (Send request)) = record {
  rows = λ name. stays (rows_of w.history name);
  stories = go_on_staying w.entries;
  messages = (Asked request ∷ [], refl);
  confirmed = none_falls w.book;
}

delivers_on : (w : World) (o : Option Message) → Onward w (delivers w o)
delivers_on w None = here_still w
delivers_on w (Some (Asked request)) = record {
  rows = λ name. stays (rows_of w.history name);
  stories = stories_only_grow w.entries request;
  messages = (Answered request (step w.entries request).answer ∷ [], refl);
  confirmed = none_falls w.book;
}
delivers_on w (Some (Answered request answer)) = record {
  rows = λ name. stays (rows_of w.history name);
  stories = go_on_staying w.entries;
  messages = stays w.messages;
  confirmed = learn_raises Revisions w.book request answer;
}

pub event_on : (w : World) (event : Event) → Onward w (happens w event)
event_on w (Changes row) = record {
  rows = change_adds w.history row (judged w row);
  stories = go_on_staying w.entries;
  messages = stays w.messages;
  confirmed = change_raises w.book row (judged w row);
}
event_on w (Sends name) = sends_on w (asking w.book name)
event_on w (Delivers number) = delivers_on w (message_at w.messages number)
event_on w (Cuts number length) = here_still w
event_on w Restarts_provider = here_still w
event_on w Restarts_connector = record {
  rows = λ name. stays (rows_of w.history name);
  stories = go_on_staying w.entries;
  messages = stays w.messages;
  confirmed = λ name. reopened_raises (w.book name);
}
event_on w (Doubts name) = record {
  rows = λ q. stays (rows_of w.history q);
  stories = go_on_staying w.entries;
  messages = stays w.messages;
  confirmed = λ q. doubted_raises (same_name name q) (w.book q);
}

pub run_on : (w : World) (events : List Event) → Onward w (run w events)
run_on w [] = here_still w
run_on w (event ∷ events) = and_on w (happens w event) (run (happens w event) events) (event_on w event) (run_on (happens w event) events)

run-append : (w : World) (early late : List Event) → run w (early ++ late) ≡ run (run w early) late
run-append w [] late = refl
run-append w (event ∷ early) late = run-append (happens w event) early late

pub always_onward : AlwaysOnward
always_onward early late = subst (Onward (run empty early)) (sym (run-append empty early late)) (run_on (run empty early) late)

-- ---- with each kind of provider

pub delivers_on_at : (keeps : Keeps) (w : World) (o : Option Message) → Onward w (delivers_at keeps w o)
delivers_on_at keeps w None = here_still w
delivers_on_at keeps w (Some (Asked request)) = record {
  rows = λ name. stays (rows_of w.history name);
  stories = stories_only_grow w.entries request;
  messages = (Answered request (answered keeps (step w.entries request).answer) ∷ [], refl);
  confirmed = none_falls w.book;
}
delivers_on_at keeps w (Some (Answered request answer)) = record {
  rows = λ name. stays (rows_of w.history name);
  stories = go_on_staying w.entries;
  messages = stays w.messages;
  confirmed = learn_raises keeps w.book request answer;
}

pub event_on_at : (keeps : Keeps) (w : World) (event : Event) → Onward w (happens_at keeps w event)
event_on_at keeps w (Changes row) = event_on w (Changes row)
event_on_at keeps w (Sends name) = event_on w (Sends name)
event_on_at keeps w (Delivers number) = delivers_on_at keeps w (message_at w.messages number)
event_on_at keeps w (Cuts number length) = here_still w
event_on_at keeps w Restarts_provider = here_still w
event_on_at keeps w Restarts_connector = event_on w Restarts_connector
event_on_at keeps w (Doubts name) = event_on w (Doubts name)

pub run_on_at : (keeps : Keeps) (w : World) (events : List Event) → Onward w (run_at keeps w events)
run_on_at keeps w [] = here_still w
run_on_at keeps w (event ∷ events) =
    and_on w (happens_at keeps w event) (run_at keeps (happens_at keeps w event) events) (event_on_at keeps w event) (run_on_at keeps (happens_at keeps w event) events)

run-append-at : (keeps : Keeps) (w : World) (early late : List Event) → run_at keeps w (early ++ late) ≡ run_at keeps (run_at keeps w early) late
run-append-at keeps w [] late = refl
run-append-at keeps w (event ∷ early) late = run-append-at keeps (happens_at keeps w event) early late

pub always_onward_at : AlwaysOnwardAt
always_onward_at keeps early late = subst (Onward (run_at keeps empty early)) (sym (run-append-at keeps empty early late)) (run_on_at keeps (run_at keeps empty early) late)

-- ---- every act

pub act_on : (w : World) (act : Act) → Onward w (acts w act)
act_on w (Ours event) = event_on w event
act_on w (Theirs request) = record {
  rows = λ name. stays (rows_of w.history name);
  stories = stories_only_grow w.entries request;
  messages = stays w.messages;
  confirmed = none_falls w.book;
}

pub among_on : (w : World) (later : List Act) → Onward w (run_among w later)
among_on w [] = here_still w
among_on w (act ∷ later) = and_on w (acts w act) (run_among (acts w act) later) (act_on w act) (among_on (acts w act) later)

pub among-append : (w : World) (early late : List Act) → run_among w (early ++ late) ≡ run_among (run_among w early) late
among-append w [] late = refl
among-append w (act ∷ early) late = among-append (acts w act) early late

pub always_onward_among : AlwaysOnwardAmong
always_onward_among early late = subst (Onward (run_among empty early)) (sym (among-append empty early late)) (among_on (run_among empty early) late)

-- with each kind of provider
act_on_at : (keeps : Keeps) (w : World) (act : Act) → Onward w (acts_at keeps w act)
act_on_at keeps w (Ours event) = event_on_at keeps w event
act_on_at keeps w (Theirs request) = act_on w (Theirs request)

among_on_at : (keeps : Keeps) (w : World) (later : List Act) → Onward w (run_among_at keeps w later)
among_on_at keeps w [] = here_still w
among_on_at keeps w (act ∷ later) =
    and_on w (acts_at keeps w act) (run_among_at keeps (acts_at keeps w act) later) (act_on_at keeps w act) (among_on_at keeps (acts_at keeps w act) later)

among-append-at : (keeps : Keeps) (w : World) (early late : List Act) → run_among_at keeps w (early ++ late) ≡ run_among_at keeps (run_among_at keeps w early) late
among-append-at keeps w [] late = refl
among-append-at keeps w (act ∷ early) late = among-append-at keeps (acts_at keeps w act) early late

pub onward_among_at : (keeps : Keeps) (early late : List Act) → Onward (run_among_at keeps empty early) (run_among_at keeps empty (early ++ late))
onward_among_at keeps early late =
    subst (Onward (run_among_at keeps empty early)) (sym (among-append-at keeps empty early late)) (among_on_at keeps (run_among_at keeps empty early) late)
