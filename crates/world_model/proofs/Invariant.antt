-- What is true after every event, and after every act of ours and others.
use Rattle.std.proofs.Common.{◌≡◌, ℕ, zero, suc, true, false, List, [], ◌∷◌, Option, Some, None, Result, Ok, Err, inl, inr, refl, ap, sym, ◌∙◌, subst}
use Rattle.std.specs.Option.{option_map}
use Rattle.scim_key.proofs.RevisionLaws.{reflexive_up_to, up_to_before}
use Rattle.scim_key.specs.Revisions.{RevisionValue, ◌≺◌, ◌≼◌}
use Rattle.scim_key.specs.declared.records.RecordName.{RecordName}
use Rattle.scim_message.specs.declared.messages.Request.{Request}
use Rattle.scim_message.specs.declared.messages.Answer.{Answer}
use Rattle.scim_resource.specs.Contents.{content_name}
use Rattle.scim_resource.specs.Rows.{ShownRecord}
use Rattle.mapping.specs.Images.{image}
use Rattle.provider_core.specs.Stories.{step}
use Rattle.provider_core.specs.Tables.{IsFact}
use Rattle.provider_core.proofs.StoryLaws.{stories_only_grow}
use Rattle.provider_core.proofs.TableLaws.{at_more, at_push, go_on_staying, tables_stay_whole}
use Rattle.source_csv.specs.Records.{row_name, row_revision}
use Rattle.source_csv.specs.declared.rows.Row.{Row}
use Rattle.connector_core.proofs.Acceptance.{new_is_newer}
use Rattle.connector_core.proofs.Rising.{goes_on}
use Rattle.connector_core.specs.Accepting.{accepting}
use Rattle.connector_core.specs.declared.accepting.Verdict.{Verdict}
use Rattle.connector_core.specs.declared.accepting.Verdict.TheVariants as verdicts
use Rattle.connector_core.specs.Asking.{asking}
use Rattle.connector_core.specs.declared.asking.Ask.{Ask}
use Rattle.connector_core.specs.declared.asking.Ask.TheVariants.{Nothing, Waits, Send}
use Rattle.connector_core.specs.declared.changing.ChangeFault.{ChangeFault}
use Rattle.connector_core.specs.Book.{known_id, doubted, reopened}
use Rattle.connector_core.specs.History.{last_row, rows_of}
use Rattle.connector_core.specs.Keeps.{learn_at}
use Rattle.connector_core.specs.declared.keeps.Keeps.{Keeps}
use Rattle.connector_core.specs.declared.keeps.Keeps.TheVariants.{Revisions}
use Rattle.connector_core.specs.Learning.{content_revision, is_wanted, after_learning}
use Rattle.connector_core.specs.declared.knowledge.Known.{Known}
use Rattle.world_model.specs.World.{World, Message, Asked, Answered, Event, Changes, Sends, Delivers, Cuts, Restarts_provider, Restarts_connector, Doubts, changes, sends, message_at, happens, empty, judged, run}
use Rattle.world_model.specs.Providers.{answered, arrives_at, delivers_at, happens_at, run_at}
use Rattle.world_model.specs.Untroubled.{request_content}
use Rattle.world_model.specs.Safe.{IsAt, Has}
use Rattle.world_model.specs.Invariant.{Names, all_names, AllOurs, Follows, KeptAt, RepliesTrulyAt, InvariantAt, InvariantOf, Invariant, EventsKeepItAt, EventsKeepIt, AlwaysKept, FactsStay}
use Rattle.world_model.specs.Others.{Act, Ours, Theirs, acts, acts_at, run_among, run_among_at, OfOurs, IsApart, KeepsApart, ActsKeepIt}
use Rattle.world_model.proofs.Onwards.{run_on}
use Rattle.world_model.proofs.Judging.{event_follows_at, judged_by_source}
use Rattle.world_model.proofs.Accepting.{rows_stay, new_by_source}
use Rattle.world_model.proofs.Comparing.{image_wanted, imaged_if}
use Rattle.world_model.proofs.Imaging.{image_revision}
use Rattle.world_model.proofs.Growing.{Grows, image_grows}
use Rattle.world_model.proofs.Hearing.{answered_truly, same_event}
use Rattle.world_model.proofs.Keeping.{WritesTrulyAt, if_asked_at, if_alone, if_alone_at, step_grows, step_keeps_at}
use Rattle.world_model.proofs.Lists.{last_has}
use Rattle.world_model.proofs.Making.{all_made_more, with_row_ids, reopened_ids, doubted_ids, asks_made, sent_made, WritesMade, alone_made, step_made}
use Rattle.world_model.proofs.Noting.{Compares, all_noted_grow, row_noted, reopened_noted, doubted_noted, learning_noted_at, learning_keeps_ids_at}
use Rattle.world_model.proofs.Ranking.{record_ours}
use Rattle.world_model.proofs.Rows.{last_or_below}
use Rattle.world_model.proofs.Sending.{what_is_asked_at, row_of_record, wanted_of}
use Rattle.world_model.proofs.Telling.{all_told_grow_at, told_push_at}

-- ---- a row is offered

abbrev with_new : World → Row → World
with_new w row = changes w row (Ok verdicts.New)

module _ {keeps : Keeps} {ours : Names} (w : World) (row : Row) (its : ours (row_name row) ≡ true) (inv : InvariantAt keeps ours w) (new : accepting w.history row ≡ Ok verdicts.New)
    (follows : Follows (with_new w row).book (with_new w row).history) where
  new_grows : Grows w.history w.entries (with_new w row).history w.entries
  new_grows = record { rows = λ name r has. rows_stay w.history row name r has; entries = go_on_staying w.entries; whole = inv.kept.whole }

  new_mine : AllOurs ours (with_new w row).history
  new_mine r has = elim (at_push w.history row has.0 r has.1) [
    | inl old ↦ inv.mine r (has.0, old)
    | inr new ↦ subst (λ (x : Row). ours (row_name x) ≡ true) new.1 its
  ]

  new_kept : KeptAt keeps ours (with_new w row).history w.entries
  new_kept = record {
    whole = inv.kept.whole;
    rises = inv.kept.rises;
    imaged = λ i j e c at mine held. image_grows w.history w.entries (with_new w row).history w.entries new_grows e.name c (inv.kept.imaged i j e c at mine held);
    short = inv.kept.short;
  }

  above : (known : Known) → w.book (row_name row) ≡ Some known → row_revision known.wanted ≺ row_revision row
  above known in_book = new_is_newer w.history row new known.wanted (sym (inv.follows (row_name row)) ∙ ap (option_map (λ k. k.wanted)) in_book)

  new_inv : InvariantAt keeps ours (with_new w row)
  new_inv = record {
    mine = new_mine;
    rising = (goes_on w.history row new).rises inv.rising;
    follows = follows;
    kept = new_kept;
    noted = row_noted w.entries w.book row above inv.noted;
    told = all_told_grow_at keeps w.history w.entries (with_new w row).history w.entries new_grows w.messages inv.told;
    made = all_made_more w.history (with_new w row).history w.entries w.book (with_new w row).book w.messages (λ name r has. rows_stay w.history row name r has) (with_row_ids w.book row) inv.made;
  }

changes_inv : {keeps : Keeps} {ours : Names} (w : World) (row : Row) (v : Result Verdict ChangeFault) → ours (row_name row) ≡ true → InvariantAt keeps ours w → judged w row ≡ v
    → Follows (changes w row v).book (changes w row v).history → InvariantAt keeps ours (changes w row v)
changes_inv w row (Ok verdicts.New) its inv is follows = new_inv w row its inv (new_by_source w.history row (sym (judged_by_source w row inv.follows) ∙ is)) follows
changes_inv w row (Ok verdicts.Known) its inv is follows = inv
changes_inv w row (Ok verdicts.Older) its inv is follows = inv
changes_inv w row (Err fault) its inv is follows = inv

-- ---- a message is sent, and arrives

sends_inv : {keeps : Keeps} {ours : Names} (w : World) (name : RecordName) (o : Option Ask) → InvariantAt keeps ours w → asking w.book name ≡ o → InvariantAt keeps ours (sends w o)
sends_inv w name None inv is = inv
sends_inv w name (Some Nothing) inv is = inv
sends_inv w name (Some (Waits member)) inv is = inv
sends_inv {keeps} w name (Some (Send request)) inv is = record {
  mine = inv.mine;
  rising = inv.rising;
  follows = inv.follows;
  kept = inv.kept;
  noted = inv.noted;
  told = told_push_at keeps w.history w.entries w.messages (Asked request) inv.told (what_is_asked_at keeps w.history w.entries w.book inv.follows inv.noted name request is);
  made = sent_made w.history w.entries w.book w.messages (Asked request) (λ r content same asked.
      let equal : request ≡ r = cc in
      asks_made w.history w.book inv.follows name request content is (ap request_content equal ∙ asked)) inv.made;
}

-- the table after a request
step_inv : {keeps : Keeps} {ours : Names} (w : World) (request : Request) → InvariantAt keeps ours w → WritesTrulyAt keeps ours w.history w.entries request → WritesMade ours w.history w.book request → InvariantAt keeps ours (acts w (Theirs request))
step_inv {keeps} {ours} w request inv asked made =
    let after = step w.entries request in
    record {
      mine = inv.mine;
      rising = inv.rising;
      follows = inv.follows;
      kept = step_keeps_at keeps w.history w.entries request inv.kept asked;
      noted = all_noted_grow w.entries after.entries w.book (stories_only_grow w.entries request) (tables_stay_whole w.entries request inv.kept.whole) inv.noted;
      told = all_told_grow_at keeps w.history w.entries w.history after.entries (step_grows w.history w.entries request inv.kept.whole) w.messages inv.told;
      made = step_made ours w.history w.book w.entries w.messages request made inv.made;
    }

request_inv : {keeps : Keeps} {ours : Names} (w : World) (request : Request) → InvariantAt keeps ours w → Has w.messages (Asked request) → InvariantAt keeps ours (arrives_at keeps w (Asked request))
request_inv {keeps} {ours} w request inv there =
    let after = step w.entries request in
    let asked = inv.told there.0 (Asked request) there.1 in
    let on = step_inv w request inv (if_asked_at keeps ours w.history w.entries request asked) (λ content is mine. inv.made.asked request content there is) in
    record {
      mine = on.mine;
      rising = on.rising;
      follows = on.follows;
      kept = on.kept;
      noted = on.noted;
      told = told_push_at keeps w.history after.entries w.messages (Answered request (answered keeps after.answer)) on.told (answered_truly keeps w.entries request);
      made = sent_made w.history after.entries w.book w.messages (Answered request (answered keeps after.answer)) (λ r content same asked. absurd (cc)) on.made;
    }

-- what is shown of a record may be compared with its wanted row
pub compares_of : {keeps : Keeps} {ours : Names} (w : World) → InvariantAt keeps ours w → (name : RecordName) (known : Known) → w.book name ≡ Some known → Compares w.entries w.book name known
compares_of {keeps} {ours} w inv name known in_book = record { named = its_name; below = below; up = up }
  where
    is_last : last_row w.history name ≡ Some known.wanted
    is_last = sym (inv.follows name) ∙ wanted_of (w.book name) known in_book

    accepted : Has (rows_of w.history name) known.wanted
    accepted = last_has (rows_of w.history name) known.wanted is_last

    its_name : row_name known.wanted ≡ name
    its_name = row_of_record w.history name known.wanted accepted

    -- what is shown of the record was made from an accepted row of it
    its_row : (s : ShownRecord) → IsFact w.entries s → name ≡ content_name s.content → (row : Row) × Has (rows_of w.history name) row × (image (known_id w.book) row ≡ Some s.content)
    its_row s fact named =
        let of_record : fact.entry.name ≡ name = sym (named ∙ inv.kept.whole.named fact.place fact.turn fact.entry s.content fact.here fact.held) in
        let mine : ours fact.entry.name ≡ true = ap ours of_record ∙ record_ours ours w.history inv.mine name known.wanted accepted in
        let made = inv.made.held fact.entry s.content (fact.place, fact.here) mine (fact.turn, fact.held) in
        (made.row, subst (λ (n : RecordName). Has (rows_of w.history n) made.row) of_record made.accepted, made.image)

    below : (s : ShownRecord) → IsFact w.entries s → name ≡ content_name s.content → is_wanted w.book known s.content ≡ false
        → (r : RevisionValue) × (content_revision s.content ≡ Some r) × (r ≺ row_revision known.wanted)
    below s fact named other =
        let (row, there, made) = its_row s fact named in
        elim (last_or_below (rows_of w.history name) there.0 row known.wanted (inv.rising name) there.1 is_last) [
          | inl same ↦
              let test = image_wanted w.book known s.content (imaged_if (known_id w.book) known.wanted s.content (ap (image (known_id w.book)) (sym same) ∙ made)) in
              let clash : true ≡ false = sym test ∙ other in
              absurd (cc)
          | inr lower ↦ (row_revision row, image_revision (known_id w.book) row s.content made, lower)
        ]

    up : (s : ShownRecord) → IsFact w.entries s → name ≡ content_name s.content → (r : RevisionValue) × (content_revision s.content ≡ Some r) × (r ≼ row_revision known.wanted)
    up s fact named =
        let (row, there, made) = its_row s fact named in (
          row_revision row,
          image_revision (known_id w.book) row s.content made,
          elim (last_or_below (rows_of w.history name) there.0 row known.wanted (inv.rising name) there.1 is_last) [
            | inl same ↦ subst (λ (x : Row). row_revision row ≼ row_revision x) same (reflexive_up_to (row_revision row))
            | inr lower ↦ up_to_before (row_revision row) (row_revision known.wanted) lower
          ],
        )

reply_inv : {keeps : Keeps} {ours : Names} (w : World) (request : Request) (answer : Answer) → InvariantAt keeps ours w → RepliesTrulyAt keeps w.entries request answer
    → Follows (arrives_at keeps w (Answered request answer)).book w.history → InvariantAt keeps ours (arrives_at keeps w (Answered request answer))
reply_inv {keeps} w request answer inv stands follows =
    record {
      mine = inv.mine;
      rising = inv.rising;
      follows = follows;
      kept = inv.kept;
      noted = learning_noted_at keeps w.entries w.book request answer inv.kept.whole stands (compares_of w inv) inv.noted;
      told = inv.told;
      made = all_made_more w.history w.history w.entries w.book (after_learning w.book (learn_at keeps w.book request answer)) w.messages (λ name row has. has)
          (learning_keeps_ids_at keeps w.entries w.book request answer inv.kept.whole stands (compares_of w inv) inv.noted) inv.made;
    }

pub message_there : (messages : List Message) (number : ℕ) (message : Message) → message_at messages number ≡ Some message → (i : ℕ) × IsAt messages i message
message_there messages zero message is = absurd (cc)
message_there messages (suc place) message is = (place, is)

delivers_inv : {keeps : Keeps} {ours : Names} (w : World) (number : ℕ) (o : Option Message) → InvariantAt keeps ours w → message_at w.messages number ≡ o
    → Follows (delivers_at keeps w o).book (delivers_at keeps w o).history → InvariantAt keeps ours (delivers_at keeps w o)
delivers_inv w number None inv is follows = inv
delivers_inv w number (Some (Asked request)) inv is follows =
    let (i, at) = message_there w.messages number (Asked request) is in request_inv w request inv (i, at)
delivers_inv w number (Some (Answered request answer)) inv is follows =
    let (i, at) = message_there w.messages number (Answered request answer) is in reply_inv w request answer inv (inv.told i (Answered request answer) at) follows

-- ---- every event

pub of_ours_inv_at : (keeps : Keeps) {ours : Names} (w : World) (event : Event) → OfOurs ours event → InvariantAt keeps ours w → InvariantAt keeps ours (happens_at keeps w event)
of_ours_inv_at keeps w (Changes row) its inv = changes_inv w row (judged w row) its inv refl (event_follows_at keeps w (Changes row) inv.follows)
of_ours_inv_at keeps w (Sends name) its inv = sends_inv w name (asking w.book name) inv refl
of_ours_inv_at keeps w (Delivers number) its inv = delivers_inv w number (message_at w.messages number) inv refl (event_follows_at keeps w (Delivers number) inv.follows)
of_ours_inv_at keeps w (Cuts number length) its inv = inv
of_ours_inv_at keeps w Restarts_provider its inv = inv
of_ours_inv_at keeps w Restarts_connector its inv = record {
  mine = inv.mine;
  rising = inv.rising;
  follows = event_follows_at keeps w Restarts_connector inv.follows;
  kept = inv.kept;
  noted = reopened_noted w.entries w.book inv.noted;
  told = inv.told;
  made = all_made_more w.history w.history w.entries w.book (reopened w.book) w.messages (λ name row has. has) (reopened_ids w.book) inv.made;
}
of_ours_inv_at keeps w (Doubts name) its inv = record {
  mine = inv.mine;
  rising = inv.rising;
  follows = event_follows_at keeps w (Doubts name) inv.follows;
  kept = inv.kept;
  noted = doubted_noted w.entries w.book name inv.noted;
  told = inv.told;
  made = all_made_more w.history w.history w.entries w.book (doubted w.book name) w.messages (λ q row has. has) (doubted_ids w.book name) inv.made;
}

-- with a provider that keeps revisions
of_ours_inv : {ours : Names} (w : World) (event : Event) → OfOurs ours event → InvariantOf ours w → InvariantOf ours (happens w event)
of_ours_inv {ours} w event its inv = subst (InvariantOf ours) (same_event w event) (of_ours_inv_at Revisions w event its inv)

-- every event is of ours if every record is
pub all_of_ours : (event : Event) → OfOurs all_names event
all_of_ours (Changes row) = refl
all_of_ours (Sends name) = tt
all_of_ours (Delivers number) = tt
all_of_ours (Cuts number length) = tt
all_of_ours Restarts_provider = tt
all_of_ours Restarts_connector = tt
all_of_ours (Doubts name) = tt

pub event_inv : (w : World) (event : Event) → Invariant w → Invariant (happens w event)
event_inv w event inv = of_ours_inv w event (all_of_ours event) inv

pub event_inv_at : EventsKeepItAt
event_inv_at keeps w event inv = of_ours_inv_at keeps w event (all_of_ours event) inv

pub none_inv_at : (keeps : Keeps) (ours : Names) → InvariantAt keeps ours empty
none_inv_at keeps ours = record {
  mine = λ row has. absurd (cc has.1);
  rising = λ name. tt;
  follows = λ name. refl;
  kept = record {
    whole = record { named = λ i j e c at held. absurd (cc); distinct = λ i j d e at_d at_e same. absurd (cc) };
    rises = λ i e at mine. absurd (cc);
    imaged = λ i j e c at mine held. absurd (cc);
    short = λ i e at. absurd (cc);
  };
  noted = λ name known is. absurd (cc);
  told = λ i message at. absurd (cc);
  made = record { asked = λ request content has is. absurd (cc has.1); held = λ e content has mine in_story. absurd (cc has.1) };
}

pub none_inv : (ours : Names) → InvariantOf ours empty
none_inv = none_inv_at Revisions

pub empty_inv : Invariant empty
empty_inv = none_inv all_names

pub run_inv : (w : World) (events : List Event) → Invariant w → Invariant (run w events)
run_inv w [] inv = inv
run_inv w (event ∷ events) inv = run_inv (happens w event) events (event_inv w event inv)

pub always_inv : (events : List Event) → Invariant (run empty events)
always_inv events = run_inv empty events empty_inv

pub run_inv_at : (keeps : Keeps) (w : World) (events : List Event) → InvariantAt keeps all_names w → InvariantAt keeps all_names (run_at keeps w events)
run_inv_at keeps w [] inv = inv
run_inv_at keeps w (event ∷ events) inv = run_inv_at keeps (happens_at keeps w event) events (event_inv_at keeps w event inv)

pub always_inv_at : (keeps : Keeps) (events : List Event) → InvariantAt keeps all_names (run_at keeps empty events)
always_inv_at keeps events = run_inv_at keeps empty events (none_inv_at keeps all_names)

-- ---- every act

pub act_inv : {ours : Names} (w : World) (act : Act) → IsApart ours act → InvariantOf ours w → InvariantOf ours (acts w act)
act_inv w (Ours event) its inv = of_ours_inv w event its inv
act_inv {ours} w (Theirs request) alone inv = step_inv w request inv (if_alone ours w.history w.entries request alone) (alone_made ours w.history w.book request alone)

pub among_inv : {ours : Names} (w : World) (later : List Act) → KeepsApart ours later → InvariantOf ours w → InvariantOf ours (run_among w later)
among_inv w [] apart inv = inv
among_inv w (act ∷ later) apart inv = among_inv (acts w act) later apart.1 (act_inv w act apart.0 inv)

pub always_inv_among : (ours : Names) (all : List Act) → KeepsApart ours all → InvariantOf ours (run_among empty all)
always_inv_among ours all apart = among_inv empty all apart (none_inv ours)

-- with each kind of provider
pub act_inv_at : (keeps : Keeps) {ours : Names} (w : World) (act : Act) → IsApart ours act → InvariantAt keeps ours w → InvariantAt keeps ours (acts_at keeps w act)
act_inv_at keeps w (Ours event) its inv = of_ours_inv_at keeps w event its inv
act_inv_at keeps {ours} w (Theirs request) alone inv =
    step_inv w request inv (if_alone_at keeps ours w.history w.entries request alone) (alone_made ours w.history w.book request alone)

among_inv_at : (keeps : Keeps) {ours : Names} (w : World) (later : List Act) → KeepsApart ours later → InvariantAt keeps ours w → InvariantAt keeps ours (run_among_at keeps w later)
among_inv_at keeps w [] apart inv = inv
among_inv_at keeps w (act ∷ later) apart inv = among_inv_at keeps (acts_at keeps w act) later apart.1 (act_inv_at keeps w act apart.0 inv)

pub always_inv_among_at : (keeps : Keeps) (ours : Names) (all : List Act) → KeepsApart ours all → InvariantAt keeps ours (run_among_at keeps empty all)
always_inv_among_at keeps ours all apart = among_inv_at keeps empty all apart (none_inv_at keeps ours)

-- ---- the laws

pub acts_keep_it : ActsKeepIt
acts_keep_it ours = act_inv

pub events_keep_it : EventsKeepIt
events_keep_it = event_inv

pub always_kept : AlwaysKept
always_kept = always_inv

pub facts_stay : FactsStay
facts_stay w events message inv has =
    let on = (run_on w events).messages in
    let there : IsAt (run w events).messages has.0 message = subst (λ (all : List Message). IsAt all has.0 message) (sym on.1) (at_more w.messages on.0 has.0 message has.1) in
    record { sent = (has.0, there); told = (run_inv w events inv).told has.0 message there }
