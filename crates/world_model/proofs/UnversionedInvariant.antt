-- What is true at a provider without versions after every event, and after every act of ours and others: under the tags of
-- some versions, source, connector and table are as they are with versions.
use Rattle.std.proofs.Common.{◌≡◌, ℕ, zero, suc, true, List, [], ◌∷◌, ◌++◌, map, Option, Some, None, Result, Ok, Err, refl, ap, sym, ◌∙◌, subst}
use Rattle.std.specs.Option.{option_map}
use Rattle.scim_key.specs.Identifiers.{id_text}
use Rattle.scim_key.specs.Revisions.{RevisionValue, ◌≼◌}
use Rattle.scim_key.specs.declared.records.RecordName.{RecordName}
use Rattle.scim_version.specs.Tags.{version_tag}
use Rattle.scim_resource.specs.Contents.{content_name}
use Rattle.scim_resource.specs.declared.contents.Content.{Content}
use Rattle.scim_message.specs.Messages.{unconditional}
use Rattle.scim_message.specs.declared.messages.Request.{Request}
use Rattle.scim_message.specs.declared.messages.Request.TheVariants.{Create, Retrieve, Search, Replace}
use Rattle.scim_message.specs.declared.messages.Answer.{Answer}
use Rattle.provider_core.specs.Stories.{Step, step}
use Rattle.provider_core.specs.Tables.{IsFact}
use Rattle.provider_core.proofs.StoryLaws.{stories_only_grow}
use Rattle.provider_core.proofs.TableLaws.{steps_write}
use Rattle.source_csv.specs.Records.{row_name, row_revision}
use Rattle.source_csv.specs.declared.rows.Row.{Row}
use Rattle.mapping.specs.Images.{image, imaged}
use Rattle.mapping.specs.Readiness.{GoesOn}
use Rattle.connector_core.specs.Asking.{asking, asking_of, is_done}
use Rattle.connector_core.specs.Book.{Book, known_id, doubted, put, reopened}
use Rattle.connector_core.specs.Keeps.{heard, learn_at}
use Rattle.connector_core.specs.Learning.{Learning, after_learning}
use Rattle.connector_core.specs.declared.accepting.Verdict.{Verdict}
use Rattle.connector_core.specs.declared.accepting.Verdict.TheVariants as verdicts
use Rattle.connector_core.specs.declared.asking.Ask.{Ask}
use Rattle.connector_core.specs.declared.asking.Ask.TheVariants.{Nothing, Waits, Send}
use Rattle.connector_core.specs.declared.changing.ChangeFault.{ChangeFault}
use Rattle.connector_core.specs.declared.keeps.Keeps.TheVariants.{Versions}
use Rattle.connector_core.specs.declared.knowledge.Known.{Known}
use Rattle.connector_core.specs.declared.learning.LearnFault.{LearnFault}
use Rattle.world_model.specs.World.{World, Message, Asked, Answered, Event, Changes, Sends, Delivers, Cuts, Restarts_provider, Restarts_connector, Doubts, changes, sends, message_at, empty, judged}
use Rattle.world_model.specs.Safe.{IsAt, Has, IsImage, id_in}
use Rattle.world_model.specs.Untroubled.{request_content}
use Rattle.world_model.specs.Invariant.{Names, all_names, AllMade, Follows, InvariantAt}
use Rattle.world_model.specs.Others.{Act, Ours, Theirs, IsApart, KeepsApart, LeavesAlone, OfOurs}
use Rattle.world_model.specs.Unversioned.{IsActInOrder, IsInOrder, IsLastOf, KeepsOrder, KeepsOrderAmong, acts_without_versions, arrives_without_versions, delivers_without_versions, happens_without_versions, run_without_versions, run_without_versions_among, taken_for}
use Rattle.world_model.proofs.Accepting.{rows_stay}
use Rattle.world_model.proofs.Growing.{Grows}
use Rattle.world_model.proofs.Imaging.{image_name, image_more, image_revision}
use Rattle.world_model.proofs.Invariant.{act_inv_at, compares_of, none_inv_at, of_ours_inv_at}
use Rattle.world_model.proofs.Judging.{judged_by_source, lesson_wants, put_keeps}
use Rattle.world_model.proofs.Keeping.{step_grows}
use Rattle.world_model.proofs.Learned.{learnt_by, shows_first}
use Rattle.world_model.proofs.Making.{all_made_more, with_row_ids, reopened_ids, doubted_ids, put_ids, asks_made, its_content, sent_made, step_made, writes_none, WritesMade}
use Rattle.world_model.proofs.Noting.{all_noted_grow, put_noted}
use Rattle.world_model.proofs.Others.{without_others}
use Rattle.world_model.proofs.Ranking.{record_ours}
use Rattle.world_model.proofs.Sending.{asked_of, knows, sends_of}
use Rattle.world_model.proofs.UnversionedKeeping.{IsTop, LastAreTop, WritesAtTop, top_after, top_beside, top_kept, top_push}
use Rattle.world_model.proofs.UnversionedLearning.{AllReplyTruly, IsTaught, RepliesTruly, Tagging, doubted_retagged, lesson_taught, put_retagged, replies_grow, replies_push, reopened_retagged, retagged, retagged_book, row_retagged, same_ids, same_wanted, taken_truly, with_tag}

-- the world with these tags in sight, and no message
abbrev pub tagged : Tagging → World → World
tagged tags w = record w { book = retagged_book tags w.book; messages = [] }

-- if these records are ours: what is true of source, connector and table with versions is true under some tags; each content
-- that was asked for is an image of an accepted row; replies are true; and what is asked last of a record is of no lower
-- revision than what it holds
pub record InvariantWithoutVersions (ours : Names) (w : World) : Type 0 where
  pub tags : Tagging
  pub inv : InvariantAt Versions ours (tagged tags w)
  pub made : AllMade ours w.history [] w.book w.messages
  pub replies : AllReplyTruly w.entries w.messages
  pub tops : LastAreTop w.entries w.messages

-- ---- what follows

module _ {ours : Names} (w : World) (i : InvariantWithoutVersions ours w) where
  pub follows_history : Follows w.book w.history
  follows_history name = sym (same_wanted i.tags w.book name) ∙ i.inv.follows name

  pub tagged_known : (name : RecordName) (known : Known) → w.book name ≡ Some known → (tagged i.tags w).book name ≡ Some (retagged (i.tags name) known)
  tagged_known name known in_book = ap (option_map (retagged (i.tags name))) in_book

  -- an image of what is asked is an image by the ids of the table
  asked_image : (request : Request) (content : Content) → Has w.messages (Asked request) → request_content request ≡ Some content → IsImage w.history w.entries (content_name content) content
  asked_image request content has writes =
      let made = i.made.asked request content has writes in
      let ids : GoesOn (known_id w.book) (id_in w.entries) = subst (λ (f : RecordName → Option (List ℕ)). GoesOn f (id_in w.entries)) (same_ids i.tags w.book)
      (knows Versions w.history w.entries (tagged i.tags w).book i.inv.follows i.inv.noted) in
      record {
        row = made.row;
        accepted = made.accepted;
        revision = image_revision (known_id w.book) made.row content made.image;
        image = image_more (known_id w.book) (id_in w.entries) ids made.row content made.image;
      }

  -- no content of a record is of a higher revision than what is asked for
  asked_top : (name : RecordName) (request : Request) (content : Content) → asking w.book name ≡ Some (Send request) → request_content request ≡ Some content → IsTop w.entries content
  asked_top name request content is writes e c r s has named in_story has_r has_s =
      let (known, in_book, asks) = asked_of (w.book name) (asking_of w.book) (Send request) is in
      let sends = sends_of w.book known (is_done known) (imaged (known_id w.book) known.wanted) request refl refl asks in
      let same : sends.content ≡ content = its_content w.history w.book follows_history known.seen known.wanted sends.content content (ap request_content sends.is ∙ writes) in
      let image : image (known_id w.book) known.wanted ≡ Some content = sends.has_image ∙ ap Some same in
      let compares = compares_of (tagged i.tags w) i.inv name (retagged (i.tags name) known) (tagged_known name known in_book) in
      let its : name ≡ content_name c = sym (i.inv.kept.whole.named has.0 in_story.0 e c has.1 in_story.1 ∙ named ∙ image_name (known_id w.book) known.wanted content image ∙ compares.named) in
      let fact : IsFact w.entries (record { id = id_text (suc has.0); version = Some (version_tag (suc in_story.0)); content = c }) =
      record { place = has.0; turn = in_story.0; entry = e; here = has.1; held = in_story.1; id = refl; version = refl } in
      let (held, has_held, up) = compares.up _ fact its in
      let lower : Some held ≡ Some r = sym has_held ∙ has_r in
      let upper : Some (row_revision known.wanted) ≡ Some s = sym (image_revision (known_id w.book) known.wanted content image) ∙ has_s in
      let lower_same : held ≡ r = cc in
      let upper_same : row_revision known.wanted ≡ s = cc in
      subst (λ (x : RevisionValue). r ≼ x) upper_same (subst (λ (x : RevisionValue). x ≼ row_revision known.wanted) lower_same up)

-- ---- a row is offered

changed : {ours : Names} (w : World) (i : InvariantWithoutVersions ours w) (row : Row) (v : Result Verdict ChangeFault) → InvariantAt Versions ours (changes (tagged i.tags w) row v) → InvariantWithoutVersions ours (changes w row v)
changed {ours} w i row (Ok verdicts.New) inv = record {
  tags = with_tag i.tags (row_name row) (i.tags (row_name row));
  inv = subst (λ (b : Book). InvariantAt Versions ours (record { history = w.history ++ row ∷ []; entries = w.entries; book = b; messages = [] })) (row_retagged i.tags w.book row (row_name row)) inv;
  made = all_made_more w.history (w.history ++ row ∷ []) [] w.book _ w.messages (λ name r has. rows_stay w.history row name r has) (with_row_ids w.book row) i.made;
  replies = i.replies;
  tops = i.tops;
}
changed w i row (Ok verdicts.Known) inv = i
changed w i row (Ok verdicts.Older) inv = i
changed w i row (Err fault) inv = i

changes_inv : {ours : Names} (w : World) (row : Row) → ours (row_name row) ≡ true → InvariantWithoutVersions ours w → InvariantWithoutVersions ours (changes w row (judged w row))
changes_inv {ours} w row its i =
    let same : judged (tagged i.tags w) row ≡ judged w row = judged_by_source (tagged i.tags w) row i.inv.follows ∙ sym (judged_by_source w row (follows_history w i)) in
    changed w i row (judged w row)
    (subst (λ (v : Result Verdict ChangeFault). InvariantAt Versions ours (changes (tagged i.tags w) row v)) same (of_ours_inv_at Versions (tagged i.tags w) (Changes row) its i.inv))

-- ---- a message is sent

sends_inv : {ours : Names} (w : World) (name : RecordName) (o : Option Ask) → InvariantWithoutVersions ours w → asking w.book name ≡ o → InvariantWithoutVersions ours (sends w o)
sends_inv w name None i is = i
sends_inv w name (Some Nothing) i is = i
sends_inv w name (Some (Waits member)) i is = i
sends_inv w name (Some (Send request)) i is = record {
  tags = i.tags;
  inv = i.inv;
  made = sent_made w.history [] w.book w.messages (Asked request) (λ r content same writes.
      let equal : request ≡ r = cc in
      asks_made w.history w.book (follows_history w i) name request content is (ap request_content equal ∙ writes)) i.made;
  replies = replies_push w.entries w.messages (Asked request) i.replies (λ r answer same. absurd (cc));
  tops = top_push w.entries w.messages (Asked request) i.tops (λ r content same writes.
      let equal : request ≡ r = cc in
      asked_top w i name request content is (ap request_content equal ∙ writes));
}

-- ---- a request arrives in order

same_written : (request : Request) → request_content (unconditional request) ≡ request_content request
same_written (Create c) = refl
same_written (Retrieve kind id m n) = refl
same_written (Search kind wanted start count) = refl
same_written (Replace id c m n) = refl

module _ {ours : Names} (w : World) (place : ℕ) (request : Request) (i : InvariantWithoutVersions ours w) (at : IsAt w.messages place (Asked request)) (last : IsLastOf w.messages place request) where
  abbrev asked : Request
  asked = unconditional request

  abbrev after : Step
  after = step w.entries asked

  grows : Grows w.history w.entries w.history after.entries
  grows = step_grows w.history w.entries asked i.inv.kept.whole

  -- what is written is an image at the top
  writes_at_top : WritesAtTop w.history w.entries asked
  writes_at_top content is =
      let its : request_content request ≡ Some content = sym (same_written request) ∙ is in
      (asked_image w i request content (place, at) its, i.tops place request content at its last)

  -- it was made by the ids that are known, whatever is in sight
  writes_made : WritesMade ours w.history (tagged i.tags w).book asked
  writes_made content is mine =
      let same : GoesOn (known_id w.book) (known_id (tagged i.tags w).book) = λ name id has. ap (λ (f : RecordName → Option (List ℕ)). f name) (same_ids i.tags w.book) ∙ has in
      let there = all_made_more w.history w.history [] w.book (tagged i.tags w).book w.messages (λ name row has. has) same i.made in
      there.asked request content (place, at) (sym (same_written request) ∙ is)

  table_inv : InvariantAt Versions ours (record (tagged i.tags w) { entries = after.entries })
  table_inv = record {
    mine = i.inv.mine;
    rising = i.inv.rising;
    follows = i.inv.follows;
    kept = top_kept w.history (steps_write w.entries asked) i.inv.kept writes_at_top grows;
    noted = all_noted_grow w.entries after.entries (tagged i.tags w).book grows.entries grows.whole i.inv.noted;
    told = λ j message there. absurd (cc);
    made = step_made ours w.history (tagged i.tags w).book w.entries [] asked writes_made i.inv.made;
  }

  reply_truly : (r : Request) (answer : Answer) → Answered request (taken_for after.answer) ≡ Answered r answer → RepliesTruly after.entries r answer
  reply_truly r answer same =
      let requests : request ≡ r = cc in
      let answers : taken_for after.answer ≡ answer = cc in
      subst (λ (a : Answer). RepliesTruly after.entries r a) answers (subst (λ (q : Request). RepliesTruly after.entries q (taken_for after.answer)) requests (taken_truly w.entries request))

  request_inv : InvariantWithoutVersions ours (arrives_without_versions w (Asked request))
  request_inv = record {
    tags = i.tags;
    inv = table_inv;
    made = sent_made w.history [] w.book w.messages (Answered request (taken_for after.answer)) (λ r content same is. absurd (cc)) i.made;
    replies = replies_push after.entries w.messages (Answered request (taken_for after.answer)) (replies_grow w.entries after.entries w.messages grows.entries i.replies) reply_truly;
    tops = top_push after.entries w.messages (Answered request (taken_for after.answer))
        (top_after w.messages (steps_write w.entries asked) grows.whole i.tops place request (same_written request) at last) (λ r content same is. absurd (cc));
  }

-- ---- a reply arrives

module _ {ours : Names} (w : World) (request : Request) (answer : Answer) (i : InvariantWithoutVersions ours w) (truly : RepliesTruly w.entries request answer) where
  -- what is known of one record changes
  taught_inv : (name : RecordName) (known now : Known) → w.book name ≡ Some known → now.wanted ≡ known.wanted → IsTaught w.entries name known now
      → InvariantWithoutVersions ours (record w { book = put w.book name now })
  taught_inv name known now in_book wanted t =
      let after = retagged t.tag now in
      let before = retagged (i.tags name) known in
      let there = tagged_known w i name known in_book in
      record {
        tags = with_tag i.tags name t.tag;
        inv = subst (λ (b : Book). InvariantAt Versions ours (record { history = w.history; entries = w.entries; book = b; messages = [] })) (put_retagged i.tags w.book name t.tag now) (record {
          mine = i.inv.mine;
          rising = i.inv.rising;
          follows = λ q. put_keeps (tagged i.tags w).book name before after q there wanted ∙ i.inv.follows q;
          kept = i.inv.kept;
          noted = put_noted w.entries (tagged i.tags w).book name after i.inv.noted t.noted;
          told = λ j message at. absurd (cc);
          made = all_made_more w.history w.history w.entries (tagged i.tags w).book _ [] (λ q row has. has) (put_ids (tagged i.tags w).book name before after there t.keeps) i.inv.made;
        });
        made = all_made_more w.history w.history [] w.book _ w.messages (λ q row has. has) (put_ids w.book name known now in_book t.keeps) i.made;
        replies = i.replies;
        tops = i.tops;
      }

  reply_inv : InvariantWithoutVersions ours (arrives_without_versions w (Answered request answer))
  reply_inv = go (learn_at Versions w.book request answer) refl
    where
      go : (r : Result Learning LearnFault) → learn_at Versions w.book request answer ≡ r → InvariantWithoutVersions ours (record w { book = after_learning w.book r })
      go (Err fault) is = i
      go (Ok learning) is =
          let t = learnt_by Versions w.book request answer learning is in
          let there = tagged_known w i t.name t.known t.in_book in
          let taught = lesson_taught w.entries i.tags w.book t.name t.known i.inv.kept.whole (i.tags t.name) (i.inv.noted t.name (retagged (i.tags t.name) t.known) there)
          (compares_of (tagged i.tags w) i.inv t.name (retagged (i.tags t.name) t.known) there)
          (λ s said. truly 0 s (shows_first request (heard Versions request answer) s (t.says ∙ ap Ok said))) t.learns in
          subst (λ (b : Book). InvariantWithoutVersions ours (record w { book = b })) (sym t.book_after)
          (taught_inv t.name t.known t.teaches.known t.in_book (lesson_wants w.book t.name t.known t.learns) taught)

numbered : (messages : List Message) (number : ℕ) (message : Message) → message_at messages number ≡ Some message → (place : ℕ) × (number ≡ suc place) × IsAt messages place message
numbered messages zero message is = absurd (cc)
numbered messages (suc place) message is = (place, refl, is)

delivers_inv : {ours : Names} (w : World) (number : ℕ) (o : Option Message) → IsInOrder w (Delivers number) → InvariantWithoutVersions ours w → message_at w.messages number ≡ o
    → InvariantWithoutVersions ours (delivers_without_versions w o)
delivers_inv w number None order i is = i
delivers_inv w number (Some (Asked request)) order i is =
    let (place, counted, at) = numbered w.messages number (Asked request) is in request_inv w place request i at (order place request counted at)
delivers_inv w number (Some (Answered request answer)) order i is =
    let (place, counted, at) = numbered w.messages number (Answered request answer) is in reply_inv w request answer i (i.replies place request answer at)

-- ---- every event

-- an event that changes only the book, and no id
book_inv : {ours : Names} (w : World) (b : Book) (i : InvariantWithoutVersions ours w) → GoesOn (known_id w.book) (known_id b) → InvariantAt Versions ours (tagged i.tags (record w { book = b }))
    → InvariantWithoutVersions ours (record w { book = b })
book_inv w b i ids inv = record {
  tags = i.tags;
  inv = inv;
  made = all_made_more w.history w.history [] w.book b w.messages (λ name row has. has) ids i.made;
  replies = i.replies;
  tops = i.tops;
}

pub event_without_versions : {ours : Names} (w : World) (event : Event) → OfOurs ours event → IsInOrder w event → InvariantWithoutVersions ours w → InvariantWithoutVersions ours (happens_without_versions w event)
event_without_versions w (Changes row) its order i = changes_inv w row its i
event_without_versions w (Sends name) its order i = sends_inv w name (asking w.book name) i refl
event_without_versions w (Delivers number) its order i = delivers_inv w number (message_at w.messages number) order i refl
event_without_versions w (Cuts number length) its order i = i
event_without_versions w Restarts_provider its order i = i
event_without_versions {ours} w Restarts_connector its order i = book_inv w (reopened w.book) i (reopened_ids w.book)
    (subst (λ (b : Book). InvariantAt Versions ours (record { history = w.history; entries = w.entries; book = b; messages = [] })) (reopened_retagged i.tags w.book)
    (of_ours_inv_at Versions (tagged i.tags w) Restarts_connector its i.inv))
event_without_versions {ours} w (Doubts name) its order i = book_inv w (doubted w.book name) i (doubted_ids w.book name)
    (subst (λ (b : Book). InvariantAt Versions ours (record { history = w.history; entries = w.entries; book = b; messages = [] })) (doubted_retagged i.tags w.book name)
    (of_ours_inv_at Versions (tagged i.tags w) (Doubts name) its i.inv))

-- ---- somebody else's request

alone_unconditional : (ours : Names) (request : Request) → LeavesAlone ours request → LeavesAlone ours (unconditional request)
alone_unconditional ours (Create c) alone = alone
alone_unconditional ours (Retrieve kind id m n) alone = tt
alone_unconditional ours (Search kind wanted start count) alone = tt
alone_unconditional ours (Replace id c m n) alone = alone

pub theirs_without_versions : {ours : Names} (w : World) (request : Request) → LeavesAlone ours request → InvariantWithoutVersions ours w
    → InvariantWithoutVersions ours (acts_without_versions w (Theirs request))
theirs_without_versions {ours} w request alone i =
    let asked = unconditional request in
    let inv = act_inv_at Versions (tagged i.tags w) (Theirs asked) (alone_unconditional ours request alone) i.inv in
    record {
      tags = i.tags;
      inv = inv;
      made = i.made;
      replies = replies_grow w.entries (step w.entries asked).entries w.messages (stories_only_grow w.entries asked) i.replies;
      tops = top_beside w.messages (steps_write w.entries asked) inv.kept.whole i.tops (λ c is q d has writes names.
          let made = i.made.asked q d has writes in
          let mine = record_ours ours w.history i.inv.mine (content_name d) made.row made.accepted in
          writes_none ours asked (alone_unconditional ours request alone) c is (ap ours names ∙ mine));
    }

-- ---- every act

pub act_without_versions : {ours : Names} (w : World) (act : Act) → IsApart ours act → IsActInOrder w act → InvariantWithoutVersions ours w → InvariantWithoutVersions ours (acts_without_versions w act)
act_without_versions w (Ours event) apart order i = event_without_versions w event apart order i
act_without_versions w (Theirs request) apart order i = theirs_without_versions w request apart i

pub none_without_versions : (ours : Names) → InvariantWithoutVersions ours empty
none_without_versions ours = record {
  tags = λ name. [];
  inv = none_inv_at Versions ours;
  made = record { asked = λ request content has is. absurd (cc has.1); held = λ e content has mine in_story. absurd (cc has.1) };
  replies = λ i request answer at. absurd (cc);
  tops = λ place request content at. absurd (cc);
}

pub among_keeps : {ours : Names} (w : World) (later : List Act) → KeepsApart ours later → KeepsOrderAmong w later → InvariantWithoutVersions ours w
    → InvariantWithoutVersions ours (run_without_versions_among w later)
among_keeps w [] apart order i = i
among_keeps w (act ∷ later) apart order i = among_keeps (acts_without_versions w act) later apart.1 order.1 (act_without_versions w act apart.0 order.0 i)

pub always_without_versions_among : (ours : Names) (all : List Act) → KeepsApart ours all → KeepsOrderAmong empty all → InvariantWithoutVersions ours (run_without_versions_among empty all)
always_without_versions_among ours all apart order = among_keeps empty all apart order (none_without_versions ours)

-- ---- without others

pub runs_alone : (w : World) (events : List Event) → run_without_versions_among w (map Ours events) ≡ run_without_versions w events
runs_alone w [] = refl
runs_alone w (event ∷ events) = runs_alone (happens_without_versions w event) events

pub order_alone : (w : World) (events : List Event) → KeepsOrder w events → KeepsOrderAmong w (map Ours events)
order_alone w [] order = tt
order_alone w (event ∷ events) order = (order.0, order_alone (happens_without_versions w event) events order.1)

pub run_keeps : (w : World) (events : List Event) → KeepsOrder w events → InvariantWithoutVersions all_names w → InvariantWithoutVersions all_names (run_without_versions w events)
run_keeps w events order i =
    subst (InvariantWithoutVersions all_names) (runs_alone w events) (among_keeps w (map Ours events) (without_others.apart events) (order_alone w events order) i)

pub always_without_versions : (events : List Event) → KeepsOrder empty events → InvariantWithoutVersions all_names (run_without_versions empty events)
always_without_versions events order = run_keeps empty events order (none_without_versions all_names)
