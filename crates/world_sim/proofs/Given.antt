-- What is asked and answered in a run, also among others: no request is bound to the absence of a version, each reply is the answer
-- of a whole table to a request that was asked before, and each accepted row is valid.
use Rattle.std.proofs.Common.{arith, ◌≡◌, ℕ, ◌≤◌, Bool, true, false, cond, List, [], ◌∷◌, ◌++◌, length, map, Option, Some, None, Result, Ok, Err, inl, inr, refl, ap, sym, ◌∙◌, subst}
use Rattle.std.specs.List.{AllByRecursion}
use Rattle.std.specs.Option.{option_map}
use Rattle.scim_key.proofs.RevisionLaws.{up_to_before}
use Rattle.scim_key.specs.Revisions.{RevisionValue, ◌≼◌}
use Rattle.scim_key.specs.Identifiers.{id_text}
use Rattle.scim_key.specs.declared.records.Kind.{Kind}
use Rattle.scim_key.specs.declared.records.Kind.TheVariants as kinds
use Rattle.scim_key.specs.declared.records.RecordName.{RecordName}
use Rattle.serde_json.specs.Written.{compact_text}
use Rattle.scim_resource.specs.Contents.{content_kind, content_name}
use Rattle.scim_resource.specs.Writing.{content_data}
use Rattle.scim_version.specs.declared.conditions.Condition.TheVariants.{Always}
use Rattle.scim_resource.specs.declared.contents.Content.{Content}
use Rattle.scim_message.specs.declared.messages.Answer.{Answer}
use Rattle.scim_message.specs.declared.messages.Request.{Request}
use Rattle.scim_message.specs.declared.messages.Request.TheVariants.{Create, Retrieve, Search, Replace}
use Rattle.provider_core.specs.Stories.{Entry, Numbered, story, step}
use Rattle.provider_core.specs.Tables.{IsWholeTable, entry_named}
use Rattle.provider_core.proofs.TableLaws.{at_push, at_more}
use Rattle.source_csv.specs.Records.{IsRow}
use Rattle.source_csv.specs.declared.rows.Row.{Row}
use Rattle.source_csv.specs.declared.rows.Row.TheVariants.{User, Group}
use Rattle.mapping.specs.declared.groups.ImageFault.{ImageFault}
use Rattle.mapping.specs.declared.groups.ImageFault.TheVariants.{MemberWithoutId, Memory}
use Rattle.connector_core.specs.Book.{Book}
use Rattle.connector_core.specs.Asking.{asking, asking_of, asking_with, request_for, search_for}
use Rattle.connector_core.specs.Changing.{history_after}
use Rattle.connector_core.specs.History.{History}
use Rattle.connector_core.specs.Learning.{or_no_revision, shown_revision}
use Rattle.connector_core.specs.declared.accepting.Verdict.{Verdict}
use Rattle.connector_core.specs.declared.accepting.Verdict.TheVariants as verdicts
use Rattle.connector_core.specs.declared.asking.Ask.{Ask}
use Rattle.connector_core.specs.declared.asking.Ask.TheVariants.{Nothing, Waits, Send}
use Rattle.connector_core.specs.declared.changing.ChangeFault.{ChangeFault}
use Rattle.connector_core.specs.declared.knowledge.Known.{Known}
use Rattle.connector_core.specs.declared.knowledge.Seen.{Seen}
use Rattle.connector_core.specs.declared.knowledge.Seen.TheVariants.{Unknown, Absent, At}
use Rattle.world_model.specs.World.{World, Message, Asked, Answered, Event, Changes, Sends, Delivers, Cuts, Restarts_provider, Restarts_connector, Doubts, sends, delivers, message_at, happens, judged, empty, run}
use Rattle.world_model.specs.Safe.{IsAt, Has, IsImage, IsVersion, id_in}
use Rattle.world_model.specs.Untroubled.{IsLawful, longest_body}
use Rattle.world_model.specs.Invariant.{AllOurs, AskedTruly, Names, InvariantOf, ShowsTruly, all_names}
use Rattle.world_model.specs.Others.{Act, Ours, Theirs, acts, run_among, OfOurs, IsApart, KeepsApart}
use Rattle.world_model.specs.Room.{IsLawfulAct}
use Rattle.world_model.specs.Resetting.{Happening, Does, Forgets, undergoes, run_through, StayApart, IsLawfulHappening}
use Rattle.world_model.proofs.Invariant.{act_inv, all_of_ours, message_there, none_inv}
use Rattle.world_model.proofs.Durable.{AllAsked, AskedFairly, Durable, IsShownVersion, start_durable}
use Rattle.world_model.proofs.Faring.{AllShort}
use Rattle.world_model.proofs.InOrder.{empty_is_start}
use Rattle.world_model.proofs.Ranking.{AllLawful, row_lawful}
use Rattle.world_model.proofs.Resetting.{through_durable, through_fares, undergoes_durable}
use Rattle.world_model.proofs.Sizes.{image_size}
use Rattle.world_model.proofs.Starting.{through_ours, without_resets}
use Rattle.world_sim.specs.Fitting.{IsFitStart, IsShort}

-- ---- what is asked

-- a Replace has no `If-None-Match`
abbrev pub IsPlain : Request → Type 0
IsPlain (Create content) = Unit {0}
IsPlain (Retrieve kind id if_match if_none_match) = Unit {0}
IsPlain (Search kind wanted start count) = Unit {0}
IsPlain (Replace id content if_match if_none_match) = if_none_match ≡ Always

search_plain : (row : Row) → IsPlain (search_for row)
search_plain (User row) = tt
search_plain (Group row) = tt

request_plain : (seen : Seen) (row : Row) (content : Content) → IsPlain (request_for seen row content)
request_plain Unknown row content = search_plain row
request_plain Absent row content = tt
request_plain (At id tag revision) row content = refl

image_plain : (found : Result Content ImageFault) (known : Known) (request : Request) → asking_with found known ≡ Send request → IsPlain request
image_plain (Ok content) known request is =
    let same : request_for known.seen known.wanted content ≡ request = cc in
    subst (λ (r : Request). IsPlain r) same (request_plain known.seen known.wanted content)
image_plain (Err (MemberWithoutId place)) known request is = absurd (cc)
image_plain (Err Memory) known request is = absurd (cc)

unless_done : (done : Bool) (found : Result Content ImageFault) (known : Known) (request : Request) → cond done Nothing (asking_with found known) ≡ Send request → IsPlain request
unless_done true found known request is = absurd (cc)
unless_done false found known request is = image_plain found known request is

known_plain : (book : Book) (o : Option Known) (request : Request) → option_map (asking_of book) o ≡ Some (Send request) → IsPlain request
known_plain book None request is = absurd (cc)
known_plain book (Some known) request is = let asks : asking_of book known ≡ Send request = cc in unless_done _ _ known request asks

-- ---- what is answered

-- the request was asked, and the answer is that of some whole table
pub record IsGiven (messages : List Message) (request : Request) (answer : Answer) : Type 0 where
  pub asked : Has messages (Asked request)
  pub entries : List Entry
  pub whole : IsWholeTable entries
  pub is : answer ≡ (step entries request).answer

abbrev IsSaid : List Message → Message → Type 0
IsSaid messages (Asked request) = IsPlain request
IsSaid messages (Answered request answer) = IsGiven messages request answer

-- of every message
abbrev pub AllSaid : List Message → Type 0
AllSaid messages = (i : ℕ) (message : Message) → IsAt messages i message → IsSaid messages message

said_stays : (messages : List Message) (last message : Message) → IsSaid messages message → IsSaid (messages ++ last ∷ []) message
said_stays messages last (Asked request) said = said
said_stays messages last (Answered request answer) said =
    record { asked = (said.asked.0, at_more messages (last ∷ []) said.asked.0 (Asked request) said.asked.1); entries = said.entries; whole = said.whole; is = said.is }

said_push : (messages : List Message) (last : Message) → AllSaid messages → IsSaid messages last → AllSaid (messages ++ last ∷ [])
said_push messages last said new i message at = elim (at_push messages last i message at) [
  | inl old ↦ said_stays messages last message (said i message old)
  | inr end ↦ said_stays messages last message (subst (IsSaid messages) end.1 new)
]

-- ---- every event

sends_said : (w : World) (o : Option Ask) → ((request : Request) → o ≡ Some (Send request) → IsPlain request) → AllSaid w.messages → AllSaid (sends w o).messages
sends_said w None plain said = said
sends_said w (Some Nothing) plain said = said
sends_said w (Some (Waits member)) plain said = said
sends_said w (Some (Send request)) plain said = said_push w.messages (Asked request) said (plain request refl)

delivers_said : (w : World) (number : ℕ) (o : Option Message) → message_at w.messages number ≡ o → IsWholeTable w.entries → AllSaid w.messages → AllSaid (delivers w o).messages
delivers_said w number None is whole said = said
delivers_said w number (Some (Asked request)) is whole said =
    let there = message_there w.messages number (Asked request) is in
    said_push w.messages (Answered request (step w.entries request).answer) said (record { asked = there; entries = w.entries; whole = whole; is = refl })
delivers_said w number (Some (Answered request answer)) is whole said = said

event_said : (w : World) (event : Event) → IsWholeTable w.entries → AllSaid w.messages → AllSaid (happens w event).messages
event_said w (Changes row) whole said = said
event_said w (Sends name) whole said = sends_said w (asking w.book name) (λ request is. known_plain w.book (w.book name) request is) said
event_said w (Delivers number) whole said = delivers_said w number (message_at w.messages number) refl whole said
event_said w (Cuts number length) whole said = said
event_said w Restarts_provider whole said = said
event_said w Restarts_connector whole said = said
event_said w (Doubts name) whole said = said

-- ---- valid rows

row_added : (history : History) (row : Row) (verdict : Result Verdict ChangeFault) → IsRow row → AllLawful history → AllLawful (history_after history row verdict)
row_added history row (Ok verdicts.New) law lawful = added
  where
    added : AllLawful (history ++ row ∷ [])
    added i r at = elim (at_push history row i r at) [
      | inl old ↦ lawful i r old
      | inr new ↦ subst IsRow new.1 law
    ]
row_added history row (Ok verdicts.Known) law lawful = lawful
row_added history row (Ok verdicts.Older) law lawful = lawful
row_added history row (Err fault) law lawful = lawful

-- sending and delivering accept no row
sends_history : (w : World) (o : Option Ask) → (sends w o).history ≡ w.history
sends_history w None = refl
sends_history w (Some Nothing) = refl
sends_history w (Some (Waits member)) = refl
sends_history w (Some (Send request)) = refl

delivers_history : (w : World) (o : Option Message) → (delivers w o).history ≡ w.history
delivers_history w None = refl
delivers_history w (Some (Asked request)) = refl
delivers_history w (Some (Answered request answer)) = refl

event_lawful : (w : World) (event : Event) → IsLawful event → AllLawful w.history → AllLawful (happens w event).history
event_lawful w (Changes row) law lawful = row_added w.history row (judged w row) law lawful
event_lawful w (Sends name) law lawful = subst AllLawful (sym (sends_history w (asking w.book name))) lawful
event_lawful w (Delivers number) law lawful = subst AllLawful (sym (delivers_history w (message_at w.messages number))) lawful
event_lawful w (Cuts number length) law lawful = lawful
event_lawful w Restarts_provider law lawful = lawful
event_lawful w Restarts_connector law lawful = lawful
event_lawful w (Doubts name) law lawful = lawful

-- ---- what it takes

body_small : (kind : Kind) → longest_body kind ≤ 21000
body_small kinds.User = omega arith
body_small kinds.Group = omega arith

short_most : (c : Content) → IsShort c → length (compact_text (content_data c)) ≤ 21000
short_most c short = omega (arith, short, body_small (content_kind c))

-- the ids of a table are spelled from numbers
id_spelled : (es : List Entry) (name : RecordName) (id : List ℕ) → id_in es name ≡ Some id → (n : ℕ) × (id ≡ id_text n)
id_spelled es name id is = go (entry_named name es) is
  where
    go : (o : Option Numbered) → option_map (λ n. id_text n.number) o ≡ Some id → (n : ℕ) × (id ≡ id_text n)
    go None was = absurd (cc)
    go (Some n) was = (n.number, cc)

pub image_most : (history : History) (es : List Entry) (name : RecordName) (c : Content) → AllLawful history → IsImage history es name c → length (compact_text (content_data c)) ≤ 21000
image_most history es name c lawful is = short_most c (image_size (id_in es) (id_spelled es) is.row c (row_lawful history lawful name is.row is.accepted) is.image)

-- What it takes for the messages to be read, if these records are ours: whatever was asked is fair, and what answers
-- show is a content of a story; each content of ours is as short as images are
pub record IsHeard (ours : Names) (w : World) : Type 0 where
  pub mine : AllOurs ours w.history
  pub lawful : AllLawful w.history
  pub said : AllSaid w.messages
  pub whole : IsWholeTable w.entries
  pub asked : AllAsked w.history w.entries w.messages
  pub shown : (i : ℕ) (request : Request) (answer : Answer) → IsAt w.messages i (Answered request answer) → ShowsTruly w.entries answer
  pub sized : (i j : ℕ) (e : Entry) (c : Content) → IsAt w.entries i e → ours e.name ≡ true → IsAt (story e) j c → length (compact_text (content_data c)) ≤ 21000
  pub short : AllShort w.entries

-- a version with a revision shows that revision
shown_version : (es : List Entry) (name : RecordName) (id tag : List ℕ) (revision : RevisionValue) → IsVersion es name id tag revision → IsShownVersion es name id tag revision
shown_version es name id tag revision v = record {
  place = v.place;
  turn = v.turn;
  entry = v.entry;
  content = v.content;
  here = v.here;
  of_record = v.of_record;
  held = v.held;
  has_id = v.has_id;
  has_tag = v.has_tag;
  at_revision = ap or_no_revision v.at_revision;
}

-- what was asked truly was asked fairly
pub asked_fairly : (history : History) (es : List Entry) (request : Request) → AskedTruly history es request → AskedFairly history es request
asked_fairly history es (Create content) asked = asked
asked_fairly history es (Retrieve kind id if_match if_none_match) asked = asked
asked_fairly history es (Search kind wanted start count) asked = asked
asked_fairly history es (Replace id content if_match if_none_match) asked = record {
  image = asked.image;
  tag = asked.tag;
  alone = asked.alone;
  older = asked.older;
  version = shown_version es (content_name content) id asked.tag asked.older asked.version;
  not_below = subst (λ (r : RevisionValue). asked.older ≼ r) (sym (ap or_no_revision asked.revision)) (up_to_before asked.older asked.newer asked.rises);
}

-- ---- through resets

through_said : (w : World) (all : List Happening) → Durable w → AllSaid w.messages → AllSaid (run_through w all).messages
through_said w [] t said = said
through_said w (Does (Ours event) ∷ later) t said =
    through_said (happens w event) later (undergoes_durable w (Does (Ours event)) t) (event_said w event t.whole said)
through_said w (Does (Theirs request) ∷ later) t said = through_said (acts w (Theirs request)) later (undergoes_durable w (Does (Theirs request)) t) said
through_said w (Forgets these ∷ later) t said = through_said (undergoes w (Forgets these)) later (undergoes_durable w (Forgets these) t) said

through_lawful : (w : World) (all : List Happening) → AllByRecursion IsLawfulHappening all → AllLawful w.history → AllLawful (run_through w all).history
through_lawful w [] law lawful = lawful
through_lawful w (Does (Ours event) ∷ later) law lawful = through_lawful (happens w event) later law.1 (event_lawful w event law.0 lawful)
through_lawful w (Does (Theirs request) ∷ later) law lawful = through_lawful (acts w (Theirs request)) later law.1 lawful
through_lawful w (Forgets these ∷ later) law lawful = through_lawful (undergoes w (Forgets these)) later law.1 lawful

none_said : (messages : List Message) → messages ≡ [] → AllSaid messages
none_said messages none i message at = absurd (none_there (subst (λ (all : List Message). IsAt all i message) none at))
  where
    none_there : IsAt [] i message → ⊥
    none_there there = cc

pub heard_through : (ours : Names) (start : World) (all : List Happening) → IsFitStart ours start → StayApart ours all → AllByRecursion IsLawfulHappening all → IsHeard ours (run_through start all)
heard_through ours start all fit apart law =
    let w = run_through start all in
    let first = start_durable start fit.is_start in
    let t = through_durable start all first in
    let fares = through_fares ours start all apart first in
    let lawful : AllLawful w.history = through_lawful start all law (λ i row at. fit.is_start.in_order.lawful row (i, at)) in
    record {
      mine = through_ours ours start all apart fit.mine;
      lawful = lawful;
      said = through_said start all first (none_said start.messages fit.is_start.unsent);
      whole = t.whole;
      asked = t.asked;
      shown = t.shown;
      sized = λ i j e c at mine held. elim (fares.stories i e j c at mine held) [
        | inl old ↦ short_most c (fit.short old.0 c (i, old.1) (ap ours old.2 ∙ mine) (j, old.3))
        | inr image ↦ image_most w.history w.entries e.name c lawful image
      ];
      short = fares.short (λ i e at. fit.few e (i, at));
    }

pub does_apart : (ours : Names) (all : List Act) → KeepsApart ours all → StayApart ours (map Does all)
does_apart ours [] apart = tt
does_apart ours (act ∷ all) apart = (apart.0, does_apart ours all apart.1)

does_lawful : (all : List Act) → AllByRecursion IsLawfulAct all → AllByRecursion IsLawfulHappening (map Does all)
does_lawful [] law = tt
does_lawful (act ∷ all) law = (law.0, does_lawful all law.1)

-- through acts alone
pub heard_from : (ours : Names) (start : World) (all : List Act) → IsFitStart ours start → KeepsApart ours all → AllByRecursion IsLawfulAct all → IsHeard ours (run_among start all)
heard_from ours start all fit apart law =
    subst (λ (v : World). IsHeard ours v) (without_resets start all) (heard_through ours start (map Does all) fit (does_apart ours all apart) (does_lawful all law))

-- nothing at all is such a start
pub fit_empty : (ours : Names) → IsFitStart ours empty
fit_empty ours = record {
  is_start = empty_is_start;
  mine = λ row none. absurd (cc none.1);
  short = λ e c none mine held. absurd (cc none.1);
  few = λ e none. absurd (cc none.1);
}

-- ---- every act

-- what it rests on that the messages are read, if these records are ours
pub record IsSpoken (ours : Names) (w : World) : Type 0 where
  pub inv : InvariantOf ours w
  pub lawful : AllLawful w.history
  pub said : AllSaid w.messages

none_spoken : (ours : Names) → IsSpoken ours empty
none_spoken ours = record { inv = none_inv ours; lawful = λ i row at. absurd (cc); said = λ i message at. absurd (cc) }

event_spoken : {ours : Names} (w : World) (event : Event) → OfOurs ours event → IsLawful event → IsSpoken ours w → IsSpoken ours (happens w event)
event_spoken w event own law r =
    record { inv = act_inv w (Ours event) own r.inv; lawful = event_lawful w event law r.lawful; said = event_said w event r.inv.kept.whole r.said }

act_spoken : {ours : Names} (w : World) (act : Act) → IsApart ours act → IsLawfulAct act → IsSpoken ours w → IsSpoken ours (acts w act)
act_spoken w (Ours event) apart law r = event_spoken w event apart law r
act_spoken w (Theirs request) apart law r = record { inv = act_inv w (Theirs request) apart r.inv; lawful = r.lawful; said = r.said }

run_spoken : (w : World) (events : List Event) → AllByRecursion IsLawful events → IsSpoken all_names w → IsSpoken all_names (run w events)
run_spoken w [] law r = r
run_spoken w (event ∷ events) law r = run_spoken (happens w event) events law.1 (event_spoken w event (all_of_ours event) law.0 r)

among_spoken : {ours : Names} (w : World) (later : List Act) → KeepsApart ours later → AllByRecursion IsLawfulAct later → IsSpoken ours w → IsSpoken ours (run_among w later)
among_spoken w [] apart law r = r
among_spoken w (act ∷ later) apart law r = among_spoken (acts w act) later apart.1 law.1 (act_spoken w act apart.0 law.0 r)

pub always_spoken : (events : List Event) → AllByRecursion IsLawful events → IsSpoken all_names (run empty events)
always_spoken events law = run_spoken empty events law (none_spoken all_names)

pub always_spoken_among : (ours : Names) (all : List Act) → KeepsApart ours all → AllByRecursion IsLawfulAct all → IsSpoken ours (run_among empty all)
always_spoken_among ours all apart law = among_spoken empty all apart law (none_spoken ours)

-- what was spoken is heard
pub heard : {ours : Names} (w : World) → IsSpoken ours w → IsHeard ours w
heard w q = record {
  mine = q.inv.mine;
  lawful = q.lawful;
  said = q.said;
  whole = q.inv.kept.whole;
  asked = λ i request at. asked_fairly w.history w.entries request (q.inv.told i (Asked request) at);
  shown = λ i request answer at. q.inv.told i (Answered request answer) at;
  sized = λ i j e c at mine held. image_most w.history w.entries e.name c q.lawful (q.inv.kept.imaged i j e c at mine held);
  short = q.inv.kept.short;
}
