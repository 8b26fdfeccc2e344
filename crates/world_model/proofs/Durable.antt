-- What is true of book, table and messages whatever anybody does: ids and what was seen, and what was asked.
use Rattle.std.proofs.Common.{◌≡◌, ℕ, suc, Bool, true, false, cond, List, [], ◌∷◌, ◌++◌, length, Option, Some, None, Result, Ok, Err, inl, inr, refl, ap, sym, ◌∙◌, subst}
use Rattle.std.proofs.lemmas.Bool.{cases_Bool, not-true}
use Rattle.std.specs.Option.{option_map}
use Rattle.scim_key.proofs.RecordLaws.{same as same_names}
use Rattle.scim_key.proofs.RevisionLaws.{reflexive_up_to, transitive_up_to, up_to_before}
use Rattle.scim_key.specs.Identifiers.{id_text}
use Rattle.scim_key.specs.Revisions.{RevisionValue, ◌≺◌, ◌≼◌}
use Rattle.scim_key.specs.declared.records.RecordName.{RecordName}
use Rattle.scim_version.specs.Tags.{version_tag}
use Rattle.scim_version.specs.declared.conditions.Condition.{Condition}
use Rattle.scim_version.specs.declared.conditions.Condition.TheVariants.{Tags}
use Rattle.scim_resource.specs.Contents.{content_name}
use Rattle.scim_resource.specs.Rows.{ShownRecord}
use Rattle.scim_resource.specs.declared.contents.Content.{Content}
use Rattle.scim_message.specs.declared.messages.Answer.{Answer}
use Rattle.scim_message.specs.declared.messages.Request.{Request}
use Rattle.scim_message.specs.declared.messages.Request.TheVariants.{Create, Retrieve, Search, Replace}
use Rattle.provider_core.specs.Stories.{Entry, story, step, AllGoOn}
use Rattle.provider_core.specs.Tables.{IsWholeTable, IsFact}
use Rattle.provider_core.proofs.StoryLaws.{stories_only_grow}
use Rattle.provider_core.proofs.TableLaws.{answers_show_facts, at_more, at_push, go_on_at, go_on_staying, tables_stay_whole}
use Rattle.source_csv.specs.Records.{row_name, row_revision}
use Rattle.source_csv.specs.declared.rows.Row.{Row}
use Rattle.source_csv.specs.declared.rows.Row.TheVariants.{User, Group}
use Rattle.mapping.specs.Images.{image, imaged}
use Rattle.mapping.specs.Readiness.{GoesOn}
use Rattle.connector_core.proofs.Acceptance.{new_is_newer}
use Rattle.connector_core.specs.Accepting.{accepting}
use Rattle.connector_core.specs.History.{History, rows_of, same_name}
use Rattle.connector_core.specs.Asking.{asking, asking_of, is_done, request_for, search_for}
use Rattle.connector_core.specs.Book.{Book, known_id, put, wanting, undoubted, doubting}
use Rattle.connector_core.specs.declared.keeps.Keeps.TheVariants.{Revisions}
use Rattle.connector_core.specs.Learning.{Finding, Shows, Sight, Lesson, seen_at, sighted, absent, nothing_new, none_sighted, forgetting, is_absent, is_under, differing, or_no_revision, shown_revision, Learning, learn, after_learning}
use Rattle.connector_core.specs.declared.accepting.Verdict.{Verdict}
use Rattle.connector_core.specs.declared.accepting.Verdict.TheVariants as verdicts
use Rattle.connector_core.specs.declared.asking.Ask.{Ask}
use Rattle.connector_core.specs.declared.asking.Ask.TheVariants.{Nothing, Waits, Send}
use Rattle.connector_core.specs.declared.changing.ChangeFault.{ChangeFault}
use Rattle.connector_core.specs.declared.knowledge.Known.{Known}
use Rattle.connector_core.specs.declared.knowledge.Seen.{Seen}
use Rattle.connector_core.specs.declared.knowledge.Seen.TheVariants.{Unknown, Absent, At}
use Rattle.connector_core.specs.declared.learning.LearnFault.{LearnFault}
use Rattle.world_model.specs.Healing.{IsStart}
use Rattle.world_model.specs.Invariant.{Follows, ShowsTruly, Sought}
use Rattle.world_model.specs.Others.{Act, Ours, Theirs, acts, run_among}
use Rattle.world_model.specs.Safe.{IsAt, Has, IsImage, id_in}
use Rattle.world_model.specs.World.{World, Message, Asked, Answered, Event, Changes, Sends, Delivers, Cuts, Restarts_provider, Restarts_connector, Doubts, changes, sends, arrives, delivers, message_at, happens, judged}
use Rattle.world_model.proofs.Accepting.{new_by_source, rows_stay}
use Rattle.world_model.proofs.Comparing.{wanted_named, wanted_revised}
use Rattle.world_model.proofs.Growing.{Grows, image_grows, id_at, ids_grow, fact_grows}
use Rattle.world_model.proofs.Healed.{known_with_id}
use Rattle.world_model.proofs.Making.{put_one}
use Rattle.world_model.proofs.Imaging.{image_more, image_name, image_revision}
use Rattle.world_model.proofs.Invariant.{message_there}
use Rattle.world_model.proofs.Judging.{event_follows, judged_by_source}
use Rattle.world_model.proofs.Keeping.{step_grows}
use Rattle.world_model.proofs.Learned.{LearnsShown, LearnsShown.sees, LearnsShown.agrees, LearnsShown.differs, LearnsShown.only, LearnsShown.hides, Learns, Learns.shows, Learns.misses, Learns.is_taken, Learns.is_stale, learnt_by, never_hidden, never_only, shows_first}
use Rattle.world_model.proofs.Lists.{last_has}
use Rattle.world_model.proofs.Noting.{none_sighted_id, forgetting_id}
use Rattle.world_model.proofs.Sending.{asked_of, sends_of, row_of_record, wanted_of}

-- ---- versions that were seen

-- the tag is that of a version of the record's entry, whose content shows this revision
pub record IsShownVersion (es : List Entry) (name : RecordName) (id tag : List ℕ) (revision : RevisionValue) : Type 0 where
  pub place : ℕ
  pub turn : ℕ
  pub entry : Entry
  pub content : Content
  pub here : IsAt es place entry
  pub of_record : entry.name ≡ name
  pub held : IsAt (story entry) turn content
  pub has_id : id ≡ id_text (suc place)
  pub has_tag : tag ≡ version_tag (suc turn)
  pub at_revision : shown_revision content ≡ revision

version_on : (es fs : List Entry) (name : RecordName) (id tag : List ℕ) (r : RevisionValue) → AllGoOn es fs → IsShownVersion es name id tag r → IsShownVersion fs name id tag r
version_on es fs name id tag r all v =
    let (f, at, goes) = go_on_at es fs v.place v.entry all v.here in
    record {
      place = v.place;
      turn = v.turn;
      entry = f;
      content = v.content;
      here = at;
      of_record = goes.name ∙ v.of_record;
      held = subst (λ (contents : List Content). IsAt contents v.turn v.content) (sym goes.story) (at_more (story v.entry) goes.more v.turn v.content v.held);
      has_id = v.has_id;
      has_tag = v.has_tag;
      at_revision = v.at_revision;
    }

-- what was seen is a version, and its revision isn't above the wanted one
pub record SeenTrue (es : List Entry) (name : RecordName) (known : Known) (id tag : List ℕ) (r : RevisionValue) : Type 0 where
  pub version : IsShownVersion es name id tag r
  pub up : r ≼ row_revision known.wanted

abbrev pub IsSeenTrue : List Entry → RecordName → Known → Type 0
IsSeenTrue es name known = (id tag : List ℕ) (r : RevisionValue) → known.seen ≡ At id tag r → SeenTrue es name known id tag r

abbrev pub IsIdIn : List Entry → RecordName → Known → Type 0
IsIdIn es name known = (id : List ℕ) → known.id ≡ Some id → id_in es name ≡ Some id

-- what is known of the record is true
pub record IsTrue (es : List Entry) (name : RecordName) (known : Known) : Type 0 where
  pub its_id : IsIdIn es name known
  pub seen : IsSeenTrue es name known

abbrev pub AllTrue : List Entry → Book → Type 0
AllTrue es book = (name : RecordName) (known : Known) → book name ≡ Some known → IsTrue es name known

-- ---- what was asked

-- a Replace carries an image, and the tag of a version that shows no higher revision
pub record Renews (history : History) (es : List Entry) (id : List ℕ) (content : Content) (if_match : Condition) : Type 0 where
  pub image : IsImage history es (content_name content) content
  pub tag : List ℕ
  pub alone : if_match ≡ Tags (tag ∷ [])
  pub older : RevisionValue
  pub version : IsShownVersion es (content_name content) id tag older
  pub not_below : older ≼ shown_revision content

abbrev pub AskedFairly : History → List Entry → Request → Type 0
AskedFairly history es (Create content) = IsImage history es (content_name content) content
AskedFairly history es (Retrieve kind id if_match if_none_match) = ⊥
AskedFairly history es (Search kind wanted start count) = Sought history (Search kind wanted start count)
AskedFairly history es (Replace id content if_match if_none_match) = Renews history es id content if_match

fairly_on : (history : History) (es : List Entry) (history' : History) (fs : List Entry) → Grows history es history' fs → (request : Request) → AskedFairly history es request → AskedFairly history' fs request
fairly_on history es history' fs grows (Create content) asked = image_grows history es history' fs grows (content_name content) content asked
fairly_on history es history' fs grows (Retrieve kind id if_match if_none_match) asked = asked
fairly_on history es history' fs grows (Search kind wanted start count) asked = record { row = asked.row; accepted = grows.rows (row_name asked.row) asked.row asked.accepted; is = asked.is }
fairly_on history es history' fs grows (Replace id content if_match if_none_match) asked = record {
  image = image_grows history es history' fs grows (content_name content) content asked.image;
  tag = asked.tag;
  alone = asked.alone;
  older = asked.older;
  version = version_on es fs (content_name content) id asked.tag asked.older grows.entries asked.version;
  not_below = asked.not_below;
}

abbrev pub AllAsked : History → List Entry → List Message → Type 0
AllAsked history es messages = (i : ℕ) (request : Request) → IsAt messages i (Asked request) → AskedFairly history es request

-- every answer that was ever given shows versions that are there
abbrev pub AllShown : List Entry → List Message → Type 0
AllShown es messages = (i : ℕ) (request : Request) (answer : Answer) → IsAt messages i (Answered request answer) → ShowsTruly es answer

-- what holds whatever anybody does
pub record Durable (w : World) : Type 0 where
  pub follows : Follows w.book w.history
  pub whole : IsWholeTable w.entries
  pub known : AllTrue w.entries w.book
  pub asked : AllAsked w.history w.entries w.messages
  pub shown : AllShown w.entries w.messages

true_on : (es fs : List Entry) (book : Book) → AllGoOn es fs → IsWholeTable fs → AllTrue es book → AllTrue fs book
true_on es fs book all whole known name k is =
    let t = known name k is in
    record {
      its_id = λ id has. ids_grow es fs all whole name id (t.its_id id has);
      seen = λ id tag r at. let s = t.seen id tag r at in record { version = version_on es fs name id tag r all s.version; up = s.up };
    }

put_true : (es : List Entry) (book : Book) (name : RecordName) (now : Known) → AllTrue es book → IsTrue es name now → AllTrue es (put book name now)
put_true es book name now known its q k is = elim (cases_Bool (same_name name q)) [
  | inl same ↦
      let equal : now ≡ k = put_one (same_name name q) now k (book q) same is in
      subst (λ (n : RecordName). IsTrue es n k) ((same_names name q).0 same) (subst (λ (x : Known). IsTrue es name x) equal its)
  | inr other ↦ known q k (sym (ap (λ (b : Bool). cond b (Some now) (book q)) other) ∙ is)
]

-- ---- what is sent

search_fair : (history : History) (es : List Entry) (row : Row) → Has (rows_of history (row_name row)) row → AskedFairly history es (search_for row)
search_fair history es (User row) accepted = record { row = User row; accepted = accepted; is = refl }
search_fair history es (Group row) accepted = record { row = Group row; accepted = accepted; is = refl }

module _ (w : World) (t : Durable w) where
  knows : GoesOn (known_id w.book) (id_in w.entries)
  knows name id is = let (known, in_book, has) = known_with_id (w.book name) id is in (t.known name known in_book).its_id id has

  module _ (name : RecordName) (known : Known) (in_book : w.book name ≡ Some known) where
    accepted : Has (rows_of w.history name) known.wanted
    accepted = last_has (rows_of w.history name) known.wanted (sym (t.follows name) ∙ wanted_of (w.book name) known in_book)

    pub its_name : row_name known.wanted ≡ name
    its_name = row_of_record w.history name known.wanted accepted

    module _ (content : Content) (has : image (known_id w.book) known.wanted ≡ Some content) where
      revised : shown_revision content ≡ row_revision known.wanted
      revised = ap or_no_revision (image_revision (known_id w.book) known.wanted content has)

      named : name ≡ content_name content
      named = sym (image_name (known_id w.book) known.wanted content has ∙ its_name)

      its_image : IsImage w.history w.entries (content_name content) content
      its_image = subst (λ (n : RecordName). IsImage w.history w.entries n content) named (record {
        row = known.wanted;
        accepted = accepted;
        revision = image_revision (known_id w.book) known.wanted content has;
        image = image_more (known_id w.book) (id_in w.entries) knows known.wanted content has;
      })

      request_fair : (seen : Seen) → known.seen ≡ seen → AskedFairly w.history w.entries (request_for seen known.wanted content)
      request_fair Unknown is_seen = search_fair w.history w.entries known.wanted (subst (λ (n : RecordName). Has (rows_of w.history n) known.wanted) (sym its_name) accepted)
      request_fair Absent is_seen = its_image
      request_fair (At id tag r) is_seen =
          let s = (t.known name known in_book).seen id tag r is_seen in
          record {
            image = its_image;
            tag = tag;
            alone = refl;
            older = r;
            version = subst (λ (n : RecordName). IsShownVersion w.entries n id tag r) named s.version;
            not_below = subst (λ (x : RevisionValue). r ≼ x) (sym revised) s.up;
          }

  sent_fair : (name : RecordName) (request : Request) → asking w.book name ≡ Some (Send request) → AskedFairly w.history w.entries request
  sent_fair name request is =
      let (known, in_book, asks) = asked_of (w.book name) (asking_of w.book) (Send request) is in
      let s = sends_of w.book known (is_done known) (imaged (known_id w.book) known.wanted) request refl refl asks in
      subst (λ (r : Request). AskedFairly w.history w.entries r) s.is (request_fair name known in_book s.content s.has_image known.seen refl)

-- ---- what is learnt

module _ (es : List Entry) (whole : IsWholeTable es) (book : Book) (name : RecordName) (known : Known) (its : IsTrue es name known) (of_record : row_name known.wanted ≡ name) where
  module _ (s : ShownRecord) (fact : IsFact es s) (named : name ≡ content_name s.content) where
    entry_named : fact.entry.name ≡ name
    entry_named = sym (named ∙ whole.named fact.place fact.turn fact.entry s.content fact.here fact.held)

    fact_id : id_in es name ≡ Some s.id
    fact_id = id_at es name fact.place fact.entry whole fact.here entry_named ∙ ap Some (sym fact.id)

    seen_fact : (sight : Sight) → s.version ≡ Some sight.tag → sight.id ≡ s.id → shown_revision s.content ≡ sight.revision → IsShownVersion es name sight.id sight.tag sight.revision
    seen_fact sight tagged same_id revised =
        let tags : Some sight.tag ≡ Some _ = sym tagged ∙ fact.version in
        record {
          place = fact.place;
          turn = fact.turn;
          entry = fact.entry;
          content = s.content;
          here = fact.here;
          of_record = entry_named;
          held = fact.held;
          has_id = same_id ∙ fact.id;
          has_tag = cc;
          at_revision = revised;
        }

  -- the sight is what was seen
  at_sight : (now : Known) (sight : Sight) → IsShownVersion es name sight.id sight.tag sight.revision → sight.revision ≼ row_revision now.wanted → now.seen ≡ seen_at sight → IsSeenTrue es name now
  at_sight now sight version up is_seen id tag r at =
      let seens : At sight.id sight.tag sight.revision ≡ At id tag r = sym is_seen ∙ at in
      let same_id : sight.id ≡ id = cc in
      let same_tag : sight.tag ≡ tag = cc in
      let same_revision : sight.revision ≡ r = cc in
      subst (λ (i : List ℕ). SeenTrue es name now i tag r) same_id
      (subst (λ (x : List ℕ). SeenTrue es name now sight.id x r) same_tag
      (subst (λ (x : RevisionValue). SeenTrue es name now sight.id sight.tag x) same_revision (record { version = version; up = up })))

  sighted_true : (s : ShownRecord) (sight : Sight) → IsFact es s → name ≡ content_name s.content → s.version ≡ Some sight.tag → sight.id ≡ s.id → shown_revision s.content ≡ sight.revision
      → sight.revision ≼ row_revision known.wanted → IsTrue es name (sighted known sight).known
  sighted_true s sight fact named tagged same_id revised up = record {
    its_id = λ id has. fact_id s fact named ∙ ap Some (sym same_id) ∙ has;
    seen = at_sight (sighted known sight).known sight (seen_fact s fact named sight tagged same_id revised) up refl;
  }

  shown_true : (s : ShownRecord) {l : Lesson} → IsFact es s → LearnsShown Revisions book name known s l → IsTrue es name l.known
  shown_true s fact (sees sight fits) =
      sighted_true s sight fact ((same_names name (content_name s.content)).0 fits.named) fits.tag fits.id (ap or_no_revision fits.revision) (not-true _ fits.within)
  shown_true s fact (agrees tag wanted tagged) =
      sighted_true s (record { id = s.id; revision = row_revision known.wanted; tag = tag }) fact (sym (wanted_named book known s.content wanted ∙ of_record)) tagged refl
      (ap or_no_revision (wanted_revised book known s.content wanted)) (reflexive_up_to (row_revision known.wanted))
  shown_true s fact (differs sight d) = record {
    its_id = its.its_id;
    seen = at_sight (differing known sight).known sight (seen_fact s fact ((same_names name (content_name s.content)).0 d.named) sight d.tag d.id (sym d.revision))
        (subst (λ (r : RevisionValue). r ≼ row_revision known.wanted) (sym d.revision) (not-true _ d.within)) refl;
  }
  shown_true s fact (only tag o) = never_only o
  shown_true s fact (hides u learns) = never_hidden u

  absent_seen : IsSeenTrue es name (absent known).known
  absent_seen id tag r at = absurd (cc)

  some_sighted_seen : (doubted : Bool) → IsSeenTrue es name (cond doubted (absent known) (nothing_new known)).known
  some_sighted_seen true = absent_seen
  some_sighted_seen false = its.seen

  none_seen : (id : Option (List ℕ)) → IsSeenTrue es name (none_sighted id known).known
  none_seen None = absent_seen
  none_seen (Some id) = some_sighted_seen known.is_doubted

  forgetting_seen : (b : Bool) → IsSeenTrue es name (forgetting b known).known
  forgetting_seen true id tag r at = absurd (cc)
  forgetting_seen false id tag r at = its.seen id tag r at

  lesson_true : {said : Finding} {l : Lesson} → ((s : ShownRecord) → said ≡ Shows s → IsFact es s) → Learns Revisions book name known said l → IsTrue es name l.known
  lesson_true facts (shows s l learns) = shown_true s (facts s refl) learns
  lesson_true facts misses = record { its_id = λ id has. its.its_id id (sym (none_sighted_id known.id known) ∙ has); seen = none_seen known.id }
  lesson_true facts is_taken = record { its_id = λ id has. its.its_id id (sym (forgetting_id (is_absent known.seen) known) ∙ has); seen = forgetting_seen (is_absent known.seen) }
  lesson_true facts (is_stale if_match) =
      record { its_id = λ id has. its.its_id id (sym (forgetting_id (is_under if_match known.seen) known) ∙ has); seen = forgetting_seen (is_under if_match known.seen) }

learnt_true : (w : World) (request : Request) (answer : Answer) → Durable w → ShowsTruly w.entries answer → AllTrue w.entries (after_learning w.book (learn w.book request answer))
learnt_true w request answer t truly = go (learn w.book request answer) refl
  where
    go : (r : Result Learning LearnFault) → learn w.book request answer ≡ r → AllTrue w.entries (after_learning w.book r)
    go (Err fault) is = t.known
    go (Ok learning) is =
        let x = learnt_by Revisions w.book request answer learning is in
        subst (λ (b : Book). AllTrue w.entries b) (sym x.book_after)
        (put_true w.entries w.book x.name x.teaches.known t.known
        (lesson_true w.entries t.whole w.book x.name x.known (t.known x.name x.known x.in_book) (its_name w t x.name x.known x.in_book)
        (λ s said. truly 0 s (shows_first request answer s (x.says ∙ ap Ok said))) x.learns))

-- ---- every act

push_other : (history : History) (es : List Entry) (messages : List Message) (request : Request) (answer : Answer) → AllAsked history es messages → AllAsked history es (messages ++ Answered request answer ∷ [])
push_other history es messages request answer asked i r at = elim (at_push messages (Answered request answer) i (Asked r) at) [
  | inl old ↦ asked i r old
  | inr new ↦ absurd (cc new.1)
]

asked_same : (q r : Request) → Asked q ≡ Asked r → q ≡ r
asked_same q r same = cc

push_asked : (history : History) (es : List Entry) (messages : List Message) (request : Request) → AllAsked history es messages → AskedFairly history es request → AllAsked history es (messages ++ Asked request ∷ [])
push_asked history es messages request asked fair i r at = elim (at_push messages (Asked request) i (Asked r) at) [
  | inl old ↦ asked i r old
  | inr new ↦ subst (λ (x : Request). AskedFairly history es x) (asked_same request r new.1) fair
]

asked_on : (w : World) (request : Request) → Durable w → AllAsked w.history (step w.entries request).entries w.messages
asked_on w request t i r at = fairly_on w.history w.entries w.history (step w.entries request).entries (step_grows w.history w.entries request t.whole) r (t.asked i r at)

shown_on : (w : World) (request : Request) → Durable w → AllShown (step w.entries request).entries w.messages
shown_on w request t i q a at = λ j s there. fact_grows w.entries (step w.entries request).entries s (stories_only_grow w.entries request) (t.shown i q a at j s there)

step_true : (w : World) (request : Request) → Durable w → AllTrue (step w.entries request).entries w.book
step_true w request t = true_on w.entries (step w.entries request).entries w.book (stories_only_grow w.entries request) (tables_stay_whole w.entries request t.whole) t.known

wanting_true : (es : List Entry) (name : RecordName) (o : Option Known) (row : Row) → ((known : Known) → o ≡ Some known → row_revision known.wanted ≺ row_revision row) → ((known : Known) → o ≡ Some known → IsTrue es name known)
    → IsTrue es name (wanting o row)
wanting_true es name None row above was = record { its_id = λ id has. absurd (cc); seen = λ id tag r at. absurd (cc) }
wanting_true es name (Some known) row above was =
    let t = was known refl in
    record {
      its_id = t.its_id;
      seen = λ id tag r at.
          let s = t.seen id tag r at in
          record { version = s.version; up = transitive_up_to r (row_revision known.wanted) (row_revision row) s.up (up_to_before _ _ (above known refl)) };
    }

changes_durable : (w : World) (row : Row) (v : Result Verdict ChangeFault) → judged w row ≡ v → Durable w → Follows (changes w row v).book (changes w row v).history → Durable (changes w row v)
changes_durable w row (Ok verdicts.New) is t follows =
    let new : accepting w.history row ≡ Ok verdicts.New = new_by_source w.history row (sym (judged_by_source w row t.follows) ∙ is) in
    let grows : Grows w.history w.entries (changes w row (Ok verdicts.New)).history w.entries = record { rows = λ name r has. rows_stay w.history row name r has; entries = go_on_staying w.entries; whole = t.whole } in
    record {
      follows = follows;
      whole = t.whole;
      known = put_true w.entries w.book (row_name row) (wanting (w.book (row_name row)) row) t.known (wanting_true w.entries (row_name row) (w.book (row_name row)) row
          (λ known in_book. new_is_newer w.history row new known.wanted (sym (t.follows (row_name row)) ∙ ap (option_map (λ (k : Known). k.wanted)) in_book)) (t.known (row_name row)));
      asked = λ i r at. fairly_on w.history w.entries (changes w row (Ok verdicts.New)).history w.entries grows r (t.asked i r at);
      shown = t.shown;
    }
changes_durable w row (Ok verdicts.Known) is t follows = t
changes_durable w row (Ok verdicts.Older) is t follows = t
changes_durable w row (Err fault) is t follows = t

sends_durable : (w : World) (name : RecordName) (o : Option Ask) → asking w.book name ≡ o → Durable w → Durable (sends w o)
sends_durable w name None is t = t
sends_durable w name (Some Nothing) is t = t
sends_durable w name (Some (Waits member)) is t = t
sends_durable w name (Some (Send request)) is t = record {
  follows = t.follows;
  whole = t.whole;
  known = t.known;
  asked = push_asked w.history w.entries w.messages request t.asked (sent_fair w t name request is);
  shown = λ i q a at. elim (at_push w.messages (Asked request) i (Answered q a) at) [
    | inl old ↦ t.shown i q a old
    | inr new ↦ absurd (cc new.1)
  ];
}

theirs_durable : (w : World) (request : Request) → Durable w → Durable (acts w (Theirs request))
theirs_durable w request t =
    record { follows = t.follows; whole = tables_stay_whole w.entries request t.whole; known = step_true w request t; asked = asked_on w request t; shown = shown_on w request t }

replied_durable : (w : World) (request : Request) → Durable w → Durable (arrives w (Asked request))
replied_durable w request t = record {
  follows = t.follows;
  whole = tables_stay_whole w.entries request t.whole;
  known = step_true w request t;
  asked = push_other w.history (step w.entries request).entries w.messages request (step w.entries request).answer (asked_on w request t);
  shown = λ i q a at. elim (at_push w.messages (Answered request (step w.entries request).answer) i (Answered q a) at) [
    | inl old ↦ shown_on w request t i q a old
    | inr new ↦ new_answer q a new.1
  ];
}
  where
    new_answer : (q : Request) (a : Answer) → Answered request (step w.entries request).answer ≡ Answered q a → ShowsTruly (step w.entries request).entries a
    new_answer q a same =
        let answers : (step w.entries request).answer ≡ a = cc in
        subst (λ (x : Answer). ShowsTruly (step w.entries request).entries x) answers (answers_show_facts w.entries request)

delivers_durable : (w : World) (number : ℕ) (o : Option Message) → message_at w.messages number ≡ o → Follows (delivers w o).book (delivers w o).history → Durable w → Durable (delivers w o)
delivers_durable w number None is follows t = t
delivers_durable w number (Some (Asked request)) is follows t = replied_durable w request t
delivers_durable w number (Some (Answered request answer)) is follows t =
    let (i, at) = message_there w.messages number (Answered request answer) is in
    record { follows = follows; whole = t.whole; known = learnt_true w request answer t (t.shown i request answer at); asked = t.asked; shown = t.shown }

reopened_true : (es : List Entry) (name : RecordName) (o : Option Known) (k : Known) → ((known : Known) → o ≡ Some known → IsTrue es name known) → option_map undoubted o ≡ Some k → IsTrue es name k
reopened_true es name None k was is = absurd (cc)
reopened_true es name (Some known) k was is =
    let same : undoubted known ≡ k = cc in
    subst (λ (x : Known). IsTrue es name x) same (record { its_id = (was known refl).its_id; seen = λ id tag r at. absurd (cc) })

doubted_true : (es : List Entry) (name : RecordName) (b : Bool) (o : Option Known) (k : Known) → ((known : Known) → o ≡ Some known → IsTrue es name known) → cond b (option_map doubting o) o ≡ Some k → IsTrue es name k
doubted_true es name true None k was is = absurd (cc)
doubted_true es name true (Some known) k was is =
    let same : doubting known ≡ k = cc in
    subst (λ (x : Known). IsTrue es name x) same (record { its_id = (was known refl).its_id; seen = λ id tag r at. absurd (cc) })
doubted_true es name false o k was is = was k is

event_durable : (w : World) (event : Event) → Durable w → Durable (happens w event)
event_durable w (Changes row) t = changes_durable w row (judged w row) refl t (event_follows w (Changes row) t.follows)
event_durable w (Sends name) t = sends_durable w name (asking w.book name) refl t
event_durable w (Delivers number) t = delivers_durable w number (message_at w.messages number) refl (event_follows w (Delivers number) t.follows) t
event_durable w (Cuts number length) t = t
event_durable w Restarts_provider t = t
event_durable w Restarts_connector t = record {
  follows = event_follows w Restarts_connector t.follows;
  whole = t.whole;
  known = λ q k is. reopened_true w.entries q (w.book q) k (t.known q) is;
  asked = t.asked;
  shown = t.shown;
}
event_durable w (Doubts name) t = record {
  follows = event_follows w (Doubts name) t.follows;
  whole = t.whole;
  known = λ q k is. doubted_true w.entries q (same_name name q) (w.book q) k (t.known q) is;
  asked = t.asked;
  shown = t.shown;
}

pub act_durable : (w : World) (act : Act) → Durable w → Durable (acts w act)
act_durable w (Ours event) t = event_durable w event t
act_durable w (Theirs request) t = theirs_durable w request t

pub run_durable : (w : World) (later : List Act) → Durable w → Durable (run_among w later)
run_durable w [] t = t
run_durable w (act ∷ later) t = run_durable (acts w act) later (act_durable w act t)

pub start_durable : (w : World) → IsStart w → Durable w
start_durable w s = record {
  follows = s.in_order.follows;
  whole = s.in_order.whole;
  known = λ name known is. record { its_id = λ id has. s.ids name known id is has; seen = λ id tag r at. absurd (unseen name known is id tag r at) };
  asked = λ i request at. absurd (unsent i (Asked request) at);
  shown = λ i request answer at. absurd (unsent i (Answered request answer) at);
}
  where
    unseen : (name : RecordName) (known : Known) → w.book name ≡ Some known → (id tag : List ℕ) (r : RevisionValue) → known.seen ≡ At id tag r → ⊥
    unseen name known is id tag r at = let clash : Unknown ≡ At id tag r = sym (s.unseen name known is) ∙ at in cc

    unsent : (i : ℕ) (message : Message) → IsAt w.messages i message → ⊥
    unsent i message at = let there : IsAt [] i message = subst (λ (all : List Message). IsAt all i message) s.unsent at in cc
