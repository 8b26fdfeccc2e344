-- Where every row that is offered keeps the limits of the source, no reply is refused and no limit is met.
use Rattle.std.proofs.Common.{◌<◌, ◌≡◌, ℕ, ◌≤◌, ◌&&◌, Bool, true, false, List, [], ◌∷◌, ◌++◌, length, Option, Some, None, Result, Ok, Err, is_none, ◌⊎◌, inl, inr, refl, ap, sym, ◌∙◌, subst, arith}
use Rattle.std.specs.List.{AllByRecursion}
use Rattle.std.specs.Option.{option_map}
use Rattle.serde_json.specs.Written.{compact_text}
use Rattle.scim_key.specs.declared.records.RecordName.{RecordName}
use Rattle.scim_key.specs.Identifiers.{id_text}
use Rattle.scim_resource.specs.Contents.{content_kind, content_name}
use Rattle.scim_resource.specs.Writing.{content_data}
use Rattle.scim_resource.specs.declared.contents.Content.{Content}
use Rattle.scim_message.specs.declared.messages.Answer.{Answer}
use Rattle.scim_message.specs.declared.messages.Request.{Request}
use Rattle.scim_message.specs.declared.messages.Request.TheVariants.{Create, Retrieve, Search, Replace}
use Rattle.provider_core.specs.Outcomes.{most_resources}
use Rattle.provider_core.specs.Stories.{Entry, step, Numbered}
use Rattle.provider_core.proofs.TableLaws.{at_push, held_at}
use Rattle.provider_core.specs.Tables.{entry_named}
use Rattle.source_csv.specs.Records.{IsRow, row_name}
use Rattle.source_csv.specs.declared.rows.Row.{Row}
use Rattle.connector_core.specs.Accepting.{accepting}
use Rattle.connector_core.specs.History.{History, rows_of, last_row}
use Rattle.connector_core.specs.declared.accepting.BookFault.{BookFault}
use Rattle.connector_core.specs.declared.accepting.BookFault.TheVariants as faults
use Rattle.connector_core.specs.declared.accepting.Verdict.{Verdict}
use Rattle.connector_core.specs.declared.accepting.Verdict.TheVariants as verdicts
use Rattle.connector_core.specs.Asking.{asking}
use Rattle.connector_core.specs.Changing.{limited, is_full, names_of}
use Rattle.connector_core.specs.declared.asking.Ask.{Ask}
use Rattle.connector_core.specs.declared.asking.Ask.TheVariants.{Nothing, Waits, Send}
use Rattle.connector_core.specs.declared.changing.ChangeFault.{ChangeFault}
use Rattle.world_model.specs.World.{World, Message, Asked, Answered, Event, Changes, Sends, Delivers, Cuts, Restarts_provider, Restarts_connector, Doubts, changes, sends, delivers, message_at, happens, empty, names, judged, run}
use Rattle.world_model.specs.Safe.{IsAt, Has, id_in, IsImage}
use Rattle.world_model.specs.Untroubled.{IsLawful, request_content, longest_body, most_entries, NeverRefused}
use Rattle.world_model.specs.Others.{Act, Ours, Theirs, acts, run_among, OfOurs, IsApart, KeepsApart}
use Rattle.world_model.specs.Room.{places, HasRoom, IsLawfulAct, UntroubledAmong, NeverRefusedAmong}
use Rattle.world_model.proofs.Judging.{judged_by_source}
use Rattle.world_model.proofs.Lists.{last_has}
use Rattle.world_model.proofs.Accepting.{rows_stay}
use Rattle.world_model.proofs.Sending.{row_of_record}
use Rattle.world_model.proofs.Counting.{Counted, none_counted, push_counted}
use Rattle.world_model.proofs.Ranking.{AllLawful, row_there, row_lawful, versions_few_of}
use Rattle.world_model.proofs.Room.{room_was_there, free_place, places_few}
use Rattle.world_model.proofs.Sizes.{image_size}
use Rattle.world_model.proofs.Answering.{Answers, HasPlaces, request_answers, no_limit}
use Rattle.world_model.proofs.Learning.{learns}
use Rattle.world_model.specs.Invariant.{Names, all_names, Follows, InvariantOf, AskedTruly}
use Rattle.world_model.proofs.Invariant.{act_inv, all_of_ours, none_inv, message_there}

abbrev AllAnswered : History → List Message → Type 0
AllAnswered history messages = (i : ℕ) (request : Request) (answer : Answer) → IsAt messages i (Answered request answer) → Answers history request answer

pub record QuietAmong (ours : Names) (w : World) : Type 0 where
  pub inv : InvariantOf ours w
  pub lawful : AllLawful w.history
  pub counted : Counted w.history
  pub answered : AllAnswered w.history w.messages

abbrev pub Quiet : World → Type 0
Quiet w = QuietAmong all_names w

-- ---- numbers

-- the record of an accepted row is one of the source
pub row_counted : (history : History) → Counted history → (name : RecordName) (row : Row) → Has (rows_of history name) row → Has (names_of history) name
row_counted history counted name row has =
    let there = row_there history name row has in
    subst (λ (n : RecordName). Has (names_of history) n) (row_of_record history name row has) (counted.every there.0 row there.1)

pub few_entries : (w : World) → HasRoom w → length w.entries ≤ most_resources
few_entries w room = omega (arith, room)

module _ {ours : Names} (w : World) (q : QuietAmong ours w) (room : HasRoom w) where
  has_places : HasPlaces w.history w.entries
  has_places name row has = free_place w room name (row_counted w.history q.counted name row has)

  pub answers_now : (i : ℕ) (request : Request) → IsAt w.messages i (Asked request) → Answers w.history request (step w.entries request).answer
  answers_now i request at =
      request_answers w.history w.entries q.inv.kept q.inv.mine q.lawful (few_entries w room) has_places request (q.inv.told i (Asked request) at)

-- without others there is always room
module _ (w : World) (q : Quiet w) where
  -- each entry's record is one of the source
  entry_counted : (i : ℕ) (e : Entry) → IsAt w.entries i e → Has (names w) e.name
  entry_counted i e at =
      let image = q.inv.kept.imaged i (length e.earlier) e e.held at refl (held_at e) in
      row_counted w.history q.counted e.name image.row image.accepted

  pub few_places : places w ≤ most_entries
  few_places = places_few w q.counted q.inv.kept.whole entry_counted

  pub room_alone : HasRoom w
  room_alone = omega (arith, few_places)

abbrev IsShort : Content → Type 0
IsShort c = length (compact_text (content_data c)) < longest_body (content_kind c)

-- the ids of the table are spelled from numbers
id_spelled : (es : List Entry) (name : RecordName) (id : List ℕ) → id_in es name ≡ Some id → (n : ℕ) × (id ≡ id_text n)
id_spelled es name id is = go (entry_named name es) is
  where
    go : (o : Option Numbered) → option_map (λ n. id_text n.number) o ≡ Some id → (n : ℕ) × (id ≡ id_text n)
    go None was = absurd (cc)
    go (Some n) was = (n.number, cc)

pub image_short : {ours : Names} (w : World) → QuietAmong ours w → (name : RecordName) (c : Content) → IsImage w.history w.entries name c → length (compact_text (content_data c)) < longest_body (content_kind c)
image_short w q name c is = image_size (id_in w.entries) (id_spelled w.entries) is.row c (row_lawful w.history q.lawful name is.row is.accepted) is.image

body_size : {ours : Names} (w : World) → QuietAmong ours w → (request : Request) (content : Content) → AskedTruly w.history w.entries request → request_content request ≡ Some content
    → length (compact_text (content_data content)) < longest_body (content_kind content)
body_size w q (Create c) content asked is = let same : c ≡ content = cc in subst IsShort same (image_short w q (content_name c) c asked)
body_size w q (Retrieve kind id m n) content asked is = absurd asked
body_size w q (Search kind wanted start count) content asked is = absurd (cc)
body_size w q (Replace id c m n) content asked is = let same : c ≡ content = cc in subst IsShort same (image_short w q (content_name c) c asked.image)

pub untroubled : {ours : Names} (w : World) → QuietAmong ours w → HasRoom w → UntroubledAmong ours w
untroubled w q room = record {
  learns = λ request answer has. learns w request answer q.inv (q.inv.told has.0 (Answered request answer) has.1) (q.answered has.0 request answer has.1);
  room = λ request has. no_limit w.history request (step w.entries request).answer (answers_now w q room has.0 request has.1);
  versions = λ e has mine. versions_few_of w.history w.entries q.inv.kept q.lawful has.0 e has.1 mine;
  bodies = λ request content has is. body_size w q request content (q.inv.told has.0 (Asked request) has.1) is;
}

-- ---- a row is offered

limited_room : (no_room : Bool) (row : Row) (v : Result Verdict BookFault) → limited no_room row v ≡ Ok verdicts.New → no_room ≡ false
limited_room true row (Ok verdicts.New) is = absurd (cc)
limited_room false row (Ok verdicts.New) is = refl
limited_room no_room row (Ok verdicts.Known) is = absurd (cc)
limited_room no_room row (Ok verdicts.Older) is = absurd (cc)
limited_room no_room row (Err faults.Differs) is = absurd (cc)
limited_room no_room row (Err (faults.NoSuchMember place)) is = absurd (cc)

-- a new row is of a record that is there, or there is room for its record
pub room_for : (w : World) (row : Row) → Follows w.book w.history → Counted w.history → judged w row ≡ Ok verdicts.New → Has (names_of w.history) (row_name row) ⊎ (is_full (row_name row).kind (names_of w.history) ≡ false)
room_for w row follows counted is = go (last_row w.history (row_name row)) refl
  where
    room : (is_none (last_row w.history (row_name row)) && is_full (row_name row).kind (names_of w.history)) ≡ false
    room = limited_room _ row (accepting w.history row) (sym (judged_by_source w row follows) ∙ is)

    go : (o : Option Row) → last_row w.history (row_name row) ≡ o → Has (names_of w.history) (row_name row) ⊎ (is_full (row_name row).kind (names_of w.history) ≡ false)
    go None none = inr (ap (λ o. is_none o && is_full (row_name row).kind (names_of w.history)) (sym none) ∙ room)
    go (Some last) some =
        inl (row_counted w.history counted (row_name row) last (last_has (rows_of w.history (row_name row)) last some))

pub lawful_push : (history : History) (row : Row) → IsRow row → AllLawful history → AllLawful (history ++ row ∷ [])
lawful_push history row law lawful i r at = elim (at_push history row i r at) [
  | inl old ↦ lawful i r old
  | inr new ↦ subst IsRow new.1 law
]

answers_stay : (history : History) (row : Row) (messages : List Message) → AllAnswered history messages → AllAnswered (history ++ row ∷ []) messages
answers_stay history row messages answered i request answer at =
    let a = answered i request answer at in
    record { name = a.name; about = a.about; row = a.row; accepted = rows_stay history row a.name a.row a.accepted; said = a.said; says = a.says }

changes_quiet : {ours : Names} (w : World) (row : Row) (v : Result Verdict ChangeFault) → IsRow row → QuietAmong ours w → judged w row ≡ v → InvariantOf ours (changes w row v)
    → QuietAmong ours (changes w row v)
changes_quiet w row (Ok verdicts.New) law q is inv = record {
  inv = inv;
  lawful = lawful_push w.history row law q.lawful;
  counted = push_counted w.history row q.counted (room_for w row q.inv.follows q.counted is);
  answered = answers_stay w.history row w.messages q.answered;
}
changes_quiet w row (Ok verdicts.Known) law q is inv = q
changes_quiet w row (Ok verdicts.Older) law q is inv = q
changes_quiet w row (Err fault) law q is inv = q

-- ---- messages

asked_push : (history : History) (messages : List Message) (request : Request) → AllAnswered history messages → AllAnswered history (messages ++ Asked request ∷ [])
asked_push history messages request answered i r a at = elim (at_push messages (Asked request) i (Answered r a) at) [
  | inl old ↦ answered i r a old
  | inr new ↦ absurd (cc new.1)
]

both_same : (history : History) (q r : Request) (a b : Answer) → Answered q a ≡ Answered r b → Answers history q a → Answers history r b
both_same history q r a b same answers =
    let requests : q ≡ r = cc in
    let replies : a ≡ b = cc in
    subst (λ (x : Answer). Answers history r x) replies (subst (λ (x : Request). Answers history x a) requests answers)

answered_push : (history : History) (messages : List Message) (request : Request) (answer : Answer) → AllAnswered history messages → Answers history request answer
    → AllAnswered history (messages ++ Answered request answer ∷ [])
answered_push history messages request answer answered new_answers i r a at = elim (at_push messages (Answered request answer) i (Answered r a) at) [
  | inl old ↦ answered i r a old
  | inr new ↦ both_same history request r answer a new.1 new_answers
]

sends_quiet : {ours : Names} (w : World) (o : Option Ask) → QuietAmong ours w → InvariantOf ours (sends w o) → QuietAmong ours (sends w o)
sends_quiet w None q inv = q
sends_quiet w (Some Nothing) q inv = q
sends_quiet w (Some (Waits member)) q inv = q
sends_quiet w (Some (Send request)) q inv =
    record { inv = inv; lawful = q.lawful; counted = q.counted; answered = asked_push w.history w.messages request q.answered }

delivers_quiet : {ours : Names} (w : World) (number : ℕ) (o : Option Message) → HasRoom w → QuietAmong ours w → message_at w.messages number ≡ o → InvariantOf ours (delivers w o)
    → QuietAmong ours (delivers w o)
delivers_quiet w number None room q is inv = q
delivers_quiet w number (Some (Asked request)) room q is inv =
    let (i, at) = message_there w.messages number (Asked request) is in
    record {
      inv = inv;
      lawful = q.lawful;
      counted = q.counted;
      answered = answered_push w.history w.messages request (step w.entries request).answer q.answered (answers_now w q room i request at);
    }
delivers_quiet w number (Some (Answered request answer)) room q is inv = record { inv = inv; lawful = q.lawful; counted = q.counted; answered = q.answered }

-- ---- every event

pub event_quiet : {ours : Names} (w : World) (event : Event) → OfOurs ours event → IsLawful event → HasRoom w → QuietAmong ours w → QuietAmong ours (happens w event)
event_quiet w (Changes row) own law room q = changes_quiet w row (judged w row) law q refl (act_inv w (Ours (Changes row)) own q.inv)
event_quiet w (Sends name) own law room q = sends_quiet w (asking w.book name) q (act_inv w (Ours (Sends name)) own q.inv)
event_quiet w (Delivers number) own law room q = delivers_quiet w number (message_at w.messages number) room q refl (act_inv w (Ours (Delivers number)) own q.inv)
event_quiet w (Cuts number length) own law room q = q
event_quiet w Restarts_provider own law room q = q
event_quiet w Restarts_connector own law room q =
    record { inv = act_inv w (Ours Restarts_connector) own q.inv; lawful = q.lawful; counted = q.counted; answered = q.answered }
event_quiet w (Doubts name) own law room q =
    record { inv = act_inv w (Ours (Doubts name)) own q.inv; lawful = q.lawful; counted = q.counted; answered = q.answered }

pub none_quiet : (ours : Names) → QuietAmong ours empty
none_quiet ours = record { inv = none_inv ours; lawful = λ i row at. absurd (cc); counted = none_counted; answered = λ i request answer at. absurd (cc) }

pub run_quiet : (w : World) (events : List Event) → AllByRecursion IsLawful events → Quiet w → Quiet (run w events)
run_quiet w [] law q = q
run_quiet w (event ∷ events) law q = run_quiet (happens w event) events law.1 (event_quiet w event (all_of_ours event) law.0 (room_alone w q) q)

pub always_quiet : (events : List Event) → AllByRecursion IsLawful events → Quiet (run empty events)
always_quiet events law = run_quiet empty events law (none_quiet all_names)

pub never_refused : NeverRefused
never_refused events law =
    let w = run empty events in
    let q = always_quiet events law in
    let among = untroubled w q (room_alone w q) in
    record {
      learns = among.learns;
      room = among.room;
      versions = λ e has. among.versions e has refl;
      entries = omega (arith, few_places w q);
      bodies = among.bodies;
    }

-- ---- among others

act_quiet : {ours : Names} (w : World) (act : Act) → IsApart ours act → IsLawfulAct act → HasRoom w → QuietAmong ours w → QuietAmong ours (acts w act)
act_quiet w (Ours event) apart law room q = event_quiet w event apart law room q
act_quiet w (Theirs request) apart law room q = record { inv = act_inv w (Theirs request) apart q.inv; lawful = q.lawful; counted = q.counted; answered = q.answered }

pub among_quiet : {ours : Names} (w : World) (later : List Act) → KeepsApart ours later → AllByRecursion IsLawfulAct later → HasRoom (run_among w later) → QuietAmong ours w
    → QuietAmong ours (run_among w later)
among_quiet w [] apart law room q = q
among_quiet w (act ∷ later) apart law room q =
    among_quiet (acts w act) later apart.1 law.1 room (act_quiet w act apart.0 law.0 (room_was_there w (act ∷ later) room) q)

pub never_refused_among : NeverRefusedAmong
never_refused_among ours acts apart law room = untroubled (run_among empty acts) (among_quiet empty acts apart law room (none_quiet ours)) room
