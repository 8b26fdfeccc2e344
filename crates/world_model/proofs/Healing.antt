-- One record, whatever the provider holds of it: at most two exchanges after it is doubted heal it.
use Rattle.std.proofs.Common.{◌≡◌, ℕ, suc, ◌<◌, ◌≤◌, Bool, true, false, cond, not, ◌&&◌, List, [], ◌∷◌, length, map, Option, Some, None, Result, Ok, inl, inr, refl, ap, sym, ◌∙◌, subst, arith}
use Rattle.std.proofs.lemmas.Bool.{cases_Bool, not_from_false}
use Rattle.std.specs.Option.{option_map}
use Rattle.std.specs.Result.{result_ok}
use Rattle.scim_key.proofs.RecordLaws.{same as same_names}
use Rattle.scim_key.proofs.RevisionLaws.{reflexive_up_to}
use Rattle.scim_key.specs.Identifiers.{id_text}
use Rattle.scim_key.specs.Outcome.{◌>>=◌}
use Rattle.scim_key.specs.Revisions.{RevisionValue, before, same_revision, ◌≼◌}
use Rattle.scim_key.specs.declared.records.RecordName.{RecordName}
use Rattle.scim_version.specs.Tags.{version_tag}
use Rattle.scim_resource.specs.Contents.{content_name}
use Rattle.scim_resource.specs.Rows.{ShownRecord, shown, last_version}
use Rattle.scim_resource.specs.declared.contents.Content.{Content}
use Rattle.scim_message.specs.declared.messages.Request.{Request}
use Rattle.scim_message.specs.declared.messages.Request.TheVariants.{Create}
use Rattle.provider_core.specs.Stories.{Entry, story, first_entry, renewed, row_of, Step, step, AllGoOn}
use Rattle.provider_core.proofs.StoryLaws.{stories_only_grow}
use Rattle.provider_core.proofs.TableLaws.{at_end, held_at, same_if_eq, tables_stay_whole}
use Rattle.source_csv.specs.Records.{IsRow, row_name, row_revision}
use Rattle.source_csv.specs.declared.rows.Row.{Row}
use Rattle.source_csv.specs.declared.rows.Row.TheVariants.{User, Group}
use Rattle.comparing.proofs.SameLemmas.{agrees_with_itself}
use Rattle.comparing.specs.Aspects.{is_same}
use Rattle.mapping.specs.Images.{image, imaged}
use Rattle.mapping.specs.Readiness.{GoesOn}
use Rattle.mapping.specs.declared.groups.ImageFault.{ImageFault}
use Rattle.connector_core.specs.History.{last_row, rows_of, same_name}
use Rattle.connector_core.specs.Asking.{asking, is_done, request_for, replacement, search_for}
use Rattle.connector_core.specs.Book.{Book, known_id, put, wanted_row}
use Rattle.connector_core.specs.Learning.{or_fault, fault_unless, Finding, Shows, Shows_none, finding, subject, Sight, sighted, absent, nothing_new, none_sighted, fit, is_image, is_wanted, shown_revision, differing, agreeing, compared, Lesson, noted, after_learning}
use Rattle.connector_core.specs.declared.asking.Ask.TheVariants.{Send}
use Rattle.connector_core.specs.declared.knowledge.Known.{Known}
use Rattle.connector_core.specs.declared.knowledge.Seen.{Seen}
use Rattle.connector_core.specs.declared.knowledge.Seen.TheVariants.{Unknown, Absent, At}
use Rattle.connector_core.specs.declared.learning.LearnFault.{LearnFault}
use Rattle.connector_core.specs.declared.learning.LearnFault.TheVariants.{Unfit, Unversioned}
use Rattle.world_model.specs.Healing.{Healable, HealableOf, IsHealedOf}
use Rattle.world_model.specs.Invariant.{Names}
use Rattle.world_model.specs.Others.{Theirs, acts}
use Rattle.world_model.specs.Room.{HasRoom, Meanwhile, after_them, LeavesRoom, ExchangesAmong}
use Rattle.world_model.specs.Safe.{IsAt, Has, IsEntryOf, id_in}
use Rattle.world_model.specs.Settled.{exchange, Rests}
use Rattle.world_model.specs.World.{World, Asked, names, with_message}
use Rattle.world_model.proofs.Asked.{IsDone, done_if, later_top, HasImage, image_named, asked, asks_nothing}
use Rattle.world_model.proofs.Comparing.{image_wanted, imaged_if}
use Rattle.world_model.proofs.Exchanging.{answer_to, replied, exchange_is}
use Rattle.world_model.proofs.Finding.{Finds, Finds.finds, Finds.lacks, search_finds, search_keeps}
use Rattle.world_model.proofs.Growing.{id_at, ids_grow}
use Rattle.world_model.proofs.Imaging.{image_more}
use Rattle.world_model.proofs.InOrder.{act_in_order}
use Rattle.world_model.proofs.Leading.{learn_is}
use Rattle.world_model.proofs.Leaving.{every_name, LeavesOthers, leaves_all, renewing_leaves, adding_leaves, LeavesOurs, ours_further, leaves_ours, them_leave}
use Rattle.world_model.proofs.Learned.{at_tag, differing_named, differing_within, taught}
use Rattle.world_model.proofs.Lists.{last_has}
use Rattle.world_model.proofs.Making.{put_ids, put_one}
use Rattle.world_model.proofs.Ranking.{row_there}
use Rattle.world_model.proofs.Meanwhile.{SameOf, all_alone, same_history, same_book}
use Rattle.world_model.proofs.Onwards.{among_on}
use Rattle.world_model.proofs.Room.{Lacks, free_place, own_room, room_was_there}
use Rattle.world_model.proofs.Searched.{search_subject}
use Rattle.world_model.proofs.Sending.{row_of_record}
use Rattle.world_model.proofs.Settling.{put_here, put_others}
use Rattle.world_model.proofs.Stepping.{replace_does, renewed_here, create_does}

-- an image stays if the known ids stay
pub image_stays : (f g : RecordName → Option (List ℕ)) (row : Row) (content : Content) → GoesOn f g → imaged f row ≡ Ok content → imaged g row ≡ Ok content
image_stays f g row content on has = imaged_if g row content (image_more f g on row content (ap result_ok has))

-- ---- what is learnt of a doubted record

module _ (book : Book) (name : RecordName) (known : Known) (doubted : known.is_doubted ≡ true) where
  -- from a shown resource
  pub shown_taught : (s : ShownRecord) (b : Bool) (l : Lesson) → is_wanted book known s.content ≡ b → compared b name known s ≡ Ok l
      → after_learning book (taught book name known (Shows s)) ≡ put book name l.known
  shown_taught s b l test is =
      ap (λ (d : Bool). after_learning book (cond d (compared (is_wanted book known s.content) name known s) (fit name known s >>= λ sight. Ok (sighted known sight)) >>= λ x. Ok (noted book name x))) doubted
      ∙ ap (λ (x : Bool). after_learning book (compared x name known s >>= λ y. Ok (noted book name y))) test
      ∙ ap (λ (r : Result Lesson LearnFault). after_learning book (r >>= λ x. Ok (noted book name x))) is

  -- if none is shown
  none_taught : (id : Option (List ℕ)) → (none_sighted id known).known ≡ (absent known).known
  none_taught None = refl
  none_taught (Some id) = ap (λ (d : Bool). (cond d (absent known) (nothing_new known)).known) doubted

-- one that is as it is wanted
pub agreeing_is : (name : RecordName) (known : Known) (s : ShownRecord) (tag : List ℕ) → s.version ≡ Some tag → compared true name known s ≡ Ok (agreeing known s.id tag)
agreeing_is name known s tag tagged = ap (λ (o : Option (List ℕ)). or_fault Unversioned o >>= λ t. Ok (agreeing known s.id t)) tagged

-- or another one
differing_is : (name : RecordName) (known : Known) (s : ShownRecord) (tag : List ℕ) → same_name name (content_name s.content) ≡ true
    → not (before (row_revision known.wanted) (shown_revision s.content)) ≡ true → s.version ≡ Some tag
    → compared false name known s ≡ Ok (differing known (record { id = s.id; revision = shown_revision s.content; tag = tag }))
differing_is name known s tag named within tagged = ap (λ (r : Result Sight LearnFault). r >>= λ sight. Ok (differing known sight)) (
    ap (λ (b : Bool). fault_unless Unfit b >>= differing_named known s) named
    ∙ ap (λ (b : Bool). fault_unless Unfit b >>= differing_within s) within
    ∙ ap (λ (o : Option (List ℕ)). or_fault Unversioned o >>= at_tag s (shown_revision s.content)) tagged)

module _ (known : Known) (id tag : List ℕ) (up : known.confirmed ≼ row_revision known.wanted) where
  agreeing_confirms : (agreeing known id tag).known.confirmed ≡ row_revision known.wanted
  agreeing_confirms = later_top known.confirmed (row_revision known.wanted) up

  pub agreeing_done : IsDone (agreeing known id tag).known
  agreeing_done = done_if (agreeing known id tag).known refl agreeing_confirms

  agreeing_within : (agreeing known id tag).known.confirmed ≼ row_revision known.wanted
  agreeing_within = subst (λ (r : RevisionValue). r ≼ row_revision known.wanted) (sym agreeing_confirms) (reflexive_up_to (row_revision known.wanted))

-- ---- where an exchange leads

-- the world after an exchange in which this was sent, and after which this is known of the record
abbrev pub exchanged_to : World → Request → RecordName → Known → World
exchanged_to w request name now = record (replied w request) { book = put w.book name now }

pub leads_is : (w : World) (name : RecordName) (request : Request) (known now : Known) (said : Finding) → asking w.book name ≡ Some (Send request) → subject request ≡ Some name → w.book name ≡ Some known
    → finding request (answer_to w request) ≡ Ok said → after_learning w.book (taught w.book name known said) ≡ put w.book name now → exchange w name ≡ exchanged_to w request name now
leads_is w name request known now said asks about in_book says after =
    exchange_is w name request asks
    ∙ ap (λ (b : Book). record (replied w request) { book = b })
    (ap (after_learning w.book) (learn_is w.book request (answer_to w request) name known said about in_book says) ∙ after)

-- ---- one record

module _ (w : World) (h : Healable w) (name : RecordName) (known : Known) (in_book : w.book name ≡ Some known) where
  is_last : last_row w.history name ≡ Some known.wanted
  is_last = sym (h.in_order.follows name) ∙ ap (option_map (λ (k : Known). k.wanted)) in_book

  pub accepted : Has (rows_of w.history name) known.wanted
  accepted = last_has (rows_of w.history name) known.wanted is_last

  law : IsRow known.wanted
  law = h.in_order.lawful known.wanted (row_there w.history name known.wanted accepted)

  pub its_name : row_name known.wanted ≡ name
  its_name = row_of_record w.history name known.wanted accepted

  pub its_place : Has (names w) name
  its_place =
      let there = row_there w.history name known.wanted accepted in
      subst (λ (n : RecordName). Has (names w) n) its_name (every_name [] w.history there.0 known.wanted there.1)

  -- whatever is sent of the record and learnt of it
  module _ (request : Request) (now : Known) (own : (content : Content) → request ≡ Create content → content_name content ≡ name) (same_wanted : now.wanted ≡ known.wanted)
      (up : now.confirmed ≼ row_revision now.wanted) where
    abbrev then : World
    then = exchanged_to w request name now

    then_follows : (q : RecordName) → wanted_row then.book q ≡ last_row w.history q
    then_follows q = elim (cases_Bool (same_name name q)) [
      | inl same ↦
          ap (λ (b : Bool). option_map (λ (k : Known). k.wanted) (cond b (Some now) (w.book q))) same
          ∙ ap Some same_wanted ∙ sym is_last ∙ ap (last_row w.history) ((same_names name q).0 same)
      | inr other ↦ ap (option_map (λ (k : Known). k.wanted)) (put_others w.book name q now other) ∙ h.in_order.follows q
    ]

    then_within : (q : RecordName) (k : Known) → then.book q ≡ Some k → k.confirmed ≼ row_revision k.wanted
    then_within q k is = elim (cases_Bool (same_name name q)) [
      | inl same ↦ subst (λ (x : Known). x.confirmed ≼ row_revision x.wanted) (put_one (same_name name q) now k (w.book q) same is) up
      | inr other ↦ h.in_order.within q k (sym (put_others w.book name q now other) ∙ is)
    ]

    then_room : HasRoom then
    then_room = own_room (with_message w (Asked request)) request (λ content is. subst (λ (n : RecordName). Has (names w) n) (sym (own content is)) its_place) h.room

    pub still : Healable then
    still = record {
      in_order = record { follows = then_follows; within = then_within; lawful = h.in_order.lawful; members = h.in_order.members; whole = tables_stay_whole w.entries request h.in_order.whole };
      room = then_room;
    }

-- ---- the last exchange

-- an exchange after which the record is done, and its entry holds what is wanted
pub record Last (w : World) (name : RecordName) (known : Known) (content : Content) : Type 0 where
  pub id : List ℕ
  pub tag : List ℕ
  pub request : Request
  pub wants : asking w.book name ≡ Some (Send request)
  pub is : exchange w name ≡ exchanged_to w request name (agreeing known id tag).known
  pub own : (c : Content) → request ≡ Create c → content_name c ≡ name
  pub place : ℕ
  pub entry : Entry
  pub here : IsAt (step w.entries request).entries place entry
  pub of_record : entry.name ≡ name
  pub held : is_same content entry.held ≡ true
  pub has_id : id ≡ id_text (suc place)
  pub leaves : LeavesOthers w.entries (step w.entries request).entries name

module _ (w : World) (h : Healable w) (name : RecordName) (known : Known) (in_book : w.book name ≡ Some known) (doubted : known.is_doubted ≡ true) (content : Content) (has : HasImage w.book known content) where
  undone : is_done known ≡ false
  undone = ap (λ (b : Bool). not b && same_revision known.confirmed (row_revision known.wanted)) doubted

  asks : asking w.book name ≡ Some (Send (request_for known.seen known.wanted content))
  asks = asked w.book name known content in_book undone has

  named : content_name content ≡ name
  named = image_named w.book known content has ∙ its_name w h name known in_book

  -- the image is shown
  image_taught : (s : ShownRecord) (tag : List ℕ) → s.content ≡ content → s.version ≡ Some tag → after_learning w.book (taught w.book name known (Shows s)) ≡ put w.book name (agreeing known s.id tag).known
  image_taught s tag same tagged =
      shown_taught w.book name known doubted s true (agreeing known s.id tag) (ap (is_wanted w.book known) same ∙ image_wanted w.book known content has) (agreeing_is name known s tag tagged)

  -- the record is created
  made : known.seen ≡ Absent → Lacks w.entries name → Last w name known content
  made absent nowhere =
      let request = Create content in
      let s = shown (row_of (suc (length w.entries)) (first_entry content)) in
      let lacking : Lacks w.entries (content_name content) = subst (λ (n : RecordName). Lacks w.entries n) (sym named) nowhere in
      let free = free_place w h.room name (its_place w h name known in_book) nowhere in
      let does = create_does w.entries content lacking free in
      let sends : asking w.book name ≡ Some (Send request) = asks ∙ ap (λ (seen : Seen). Some (Send (request_for seen known.wanted content))) absent in
      let says : finding request (answer_to w request) ≡ Ok (Shows s) = ap (λ (x : Step). finding request x.answer) does in
      record {
        id = s.id;
        tag = version_tag 1;
        request = request;
        wants = sends;
        is = leads_is w name request known (agreeing known s.id (version_tag 1)).known (Shows s) sends (ap Some named) in_book says (image_taught s (version_tag 1) refl refl);
        own = λ c is. let same : content ≡ c = cc in sym (ap content_name same) ∙ named;
        place = length w.entries;
        entry = first_entry content;
        here = subst (λ (x : Step). IsAt x.entries (length w.entries) (first_entry content)) (sym does) (at_end w.entries (first_entry content));
        of_record = named;
        held = agrees_with_itself content;
        has_id = refl;
        leaves = subst (λ (x : Step). LeavesOthers w.entries x.entries name) (sym does)
            (adding_leaves w.entries content name named (subst (λ (x : Step). AllGoOn w.entries x.entries) does (stories_only_grow w.entries request)));
      }

  -- the entry's current version is replaced
  written : (i : ℕ) (e : Entry) (revision : RevisionValue) → IsAt w.entries i e → e.name ≡ name → length (story e) < last_version
      → known.seen ≡ At (id_text (suc i)) (version_tag (suc (length e.earlier))) revision → Last w name known content
  written i e revision at e_named short is_seen =
      let id = id_text (suc i) in
      let tag = version_tag (suc (length e.earlier)) in
      let request = replacement id tag content in
      let s = shown (row_of (suc i) (renewed e content)) in
      let t = version_tag (suc (length (story e))) in
      let does = replace_does w.entries i e id tag content (omega (arith, h.room)) at refl (e_named ∙ sym named) short refl in
      let sends : asking w.book name ≡ Some (Send request) = asks ∙ ap (λ (seen : Seen). Some (Send (request_for seen known.wanted content))) is_seen in
      let says : finding request (answer_to w request) ≡ Ok (Shows s) = ap (λ (x : Step). finding request x.answer) does in
      record {
        id = id;
        tag = t;
        request = request;
        wants = sends;
        is = leads_is w name request known (agreeing known id t).known (Shows s) sends (ap Some named) in_book says (image_taught s t refl refl);
        own = λ c is. absurd (cc);
        place = i;
        entry = renewed e content;
        here = subst (λ (x : Step). IsAt x.entries i (renewed e content)) (sym does) (renewed_here w.entries i e content at);
        of_record = e_named;
        held = agrees_with_itself content;
        has_id = refl;
        leaves = subst (λ (x : Step). LeavesOthers w.entries x.entries name) (sym does)
            (renewing_leaves w.entries i e content name at e_named (subst (λ (x : Step). AllGoOn w.entries x.entries) does (stories_only_grow w.entries request)));
      }

-- ---- what the last exchange begins with

-- what was seen is true: there is no entry, or the id and the tag are those of the entry's current version
pub data Sees (es : List Entry) (name : RecordName) (known : Known) : Type 0 where
  sees_none : known.seen ≡ Absent → Lacks es name → Sees es name known
  sees_one : (i : ℕ) (e : Entry) (revision : RevisionValue) → IsAt es i e → e.name ≡ name → length (story e) < last_version
      → known.seen ≡ At (id_text (suc i)) (version_tag (suc (length e.earlier))) revision → Sees es name known

last_seen : (w : World) (h : Healable w) (name : RecordName) (known : Known) (in_book : w.book name ≡ Some known) → known.is_doubted ≡ true → (content : Content) → HasImage w.book known content
    → Sees w.entries name known → Last w name known content
last_seen w h name known in_book doubted content has (sees_none absent nowhere) = made w h name known in_book doubted content has absent nowhere
last_seen w h name known in_book doubted content has (sees_one i e revision at named short is_seen) =
    written w h name known in_book doubted content has i e revision at named short is_seen

-- ---- the search

-- an exchange in which it is searched for, and after which what was seen is true
pub record Seeks (w : World) (name : RecordName) (known : Known) (content : Content) : Type 0 where
  pub now : Known
  pub wants : asking w.book name ≡ Some (Send (search_for known.wanted))
  pub is : exchange w name ≡ exchanged_to w (search_for known.wanted) name now
  pub healable : Healable (exchanged_to w (search_for known.wanted) name now)
  pub wanted : now.wanted ≡ known.wanted
  pub doubted : now.is_doubted ≡ true
  pub image : HasImage (exchanged_to w (search_for known.wanted) name now).book now content
  pub sees : Sees (exchanged_to w (search_for known.wanted) name now).entries name now

-- the entry holds what is wanted; or it holds something else, or there is none, and the next exchange is the last
pub data Searched (w : World) (name : RecordName) (known : Known) (content : Content) : Type 0 where
  agreed : (last : Last w name known content) → Searched w name known content
  goes_on : Seeks w name known content → Searched w name known content

search_creates_none : (row : Row) (content : Content) → search_for row ≡ Create content → ⊥
search_creates_none (User row) content is = cc
search_creates_none (Group row) content is = cc

module _ (w : World) (h : Healable w) (name : RecordName) (known : Known) (in_book : w.book name ≡ Some known) (doubted : known.is_doubted ≡ true) (content : Content) (has : HasImage w.book known content)
    (unknown : known.seen ≡ Unknown) where
  abbrev sought : Request
  sought = search_for known.wanted

  pub sends : asking w.book name ≡ Some (Send sought)
  sends = asks w h name known in_book doubted content has ∙ ap (λ (seen : Seen). Some (Send (request_for seen known.wanted content))) unknown

  pub about : subject sought ≡ Some name
  about = search_subject known.wanted (law w h name known in_book) ∙ ap Some (its_name w h name known in_book)

  pub no_create : (c : Content) → sought ≡ Create c → content_name c ≡ name
  no_create c is = absurd (search_creates_none known.wanted c is)

  pub keeps : (step w.entries sought).entries ≡ w.entries
  keeps = search_keeps w.entries known.wanted

  -- what is known afterwards has the same row, the same id and the same confirmed revision
  image_then : (now : Known) → now.wanted ≡ known.wanted → now.id ≡ known.id → HasImage (put w.book name now) now content
  image_then now wanted same_id =
      let ids : GoesOn (known_id w.book) (known_id (put w.book name now)) = put_ids w.book name known now in_book (λ id is. same_id ∙ is) in
      ap (imaged (known_id (put w.book name now))) wanted ∙ image_stays (known_id w.book) (known_id (put w.book name now)) known.wanted content ids has

  -- an entry was found
  module _ (i : ℕ) (e : Entry) (at : IsAt w.entries i e) (e_named : e.name ≡ name) (says : finding sought (answer_to w sought) ≡ Ok (Shows (shown (row_of (suc i) e)))) where
    abbrev s : ShownRecord
    s = shown (row_of (suc i) e)

    abbrev tag : List ℕ
    tag = version_tag (suc (length e.earlier))

    abbrev sight : Sight
    sight = record { id = s.id; revision = shown_revision s.content; tag = tag }

    held_name : content_name e.held ≡ name
    held_name = h.in_order.whole.named i (length e.earlier) e e.held at (held_at e) ∙ e_named

    pub test_is : (b : Bool) → is_same content e.held ≡ b → is_wanted w.book known e.held ≡ b
    test_is b test = ap (λ (r : Result Content ImageFault). is_image r e.held) has ∙ test

    abbrev pub holds_it : is_same content e.held ≡ true → Last w name known content
    holds_it test = record {
      id = s.id;
      tag = tag;
      request = sought;
      wants = sends;
      is = leads_is w name sought known (agreeing known s.id tag).known (Shows s) sends about in_book says
          (shown_taught w.book name known doubted s true (agreeing known s.id tag) (test_is true test) (agreeing_is name known s tag refl));
      own = no_create;
      place = i;
      entry = e;
      here = subst (λ (es : List Entry). IsAt es i e) (sym keeps) at;
      of_record = e_named;
      held = test;
      has_id = refl;
      leaves = subst (λ (es : List Entry). LeavesOthers w.entries es name) (sym keeps) (leaves_all w.entries name);
    }

    found_other : HealableOf w name → is_same content e.held ≡ false → Seeks w name known content
    found_other ho test =
        let now = (differing known sight).known in
        let within = not_from_false _ (ho.not_above e known ((i, at), e_named) in_book) in
        let learnt = differing_is name known s tag (same_if_eq name (content_name e.held) (sym held_name)) within refl in
        record {
          now = now;
          wants = sends;
          is = leads_is w name sought known now (Shows s) sends about in_book says (shown_taught w.book name known doubted s false (differing known sight) (test_is false test) learnt);
          healable = still w h name known in_book sought now no_create refl (h.in_order.within name known in_book);
          wanted = refl;
          doubted = doubted;
          image = image_then now refl refl;
          sees = sees_one i e sight.revision (subst (λ (es : List Entry). IsAt es i e) (sym keeps) at) e_named (ho.short e ((i, at), e_named)) refl;
        }

    found : HealableOf w name → Searched w name known content
    found ho = elim (cases_Bool (is_same content e.held)) [
      | inl test ↦ agreed (holds_it test)
      | inr test ↦ goes_on (found_other ho test)
    ]

  -- there is none
  lost : Lacks w.entries name → finding sought (answer_to w sought) ≡ Ok Shows_none → Searched w name known content
  lost nowhere says =
      let now = (absent known).known in
      goes_on (record {
        now = now;
        wants = sends;
        is = leads_is w name sought known now Shows_none sends about in_book says (ap (put w.book name) (none_taught w.book name known doubted known.id));
        healable = still w h name known in_book sought now no_create refl (h.in_order.within name known in_book);
        wanted = refl;
        doubted = doubted;
        image = image_then now refl refl;
        sees = sees_none refl (λ i e at named. nowhere i e (subst (λ (es : List Entry). IsAt es i e) keeps at) named);
      })

  searched_for : HealableOf w name → Finds w.entries name sought (answer_to w sought) → Searched w name known content
  searched_for ho (finds i e at e_named says) = found i e at e_named says ho
  searched_for ho (lacks nowhere says) = lost nowhere says

  pub finding_is : Finds w.entries name sought (answer_to w sought)
  finding_is = subst (λ (n : RecordName). Finds w.entries n sought (answer_to w sought)) (its_name w h name known in_book) (search_finds w.entries known.wanted (law w h name known in_book) h.in_order.whole)

  pub searched : HealableOf w name → Searched w name known content
  searched ho = searched_for ho finding_is

-- ---- others act

-- a request of theirs
step_healable : (w : World) (request : Request) → Healable w → HasRoom (acts w (Theirs request)) → Healable (acts w (Theirs request))
step_healable w request h room =
    record { in_order = act_in_order w (Theirs request) tt h.in_order; room = room }

healable_them : (w : World) (requests : List Request) → Healable w → HasRoom (after_them w requests) → Healable (after_them w requests)
healable_them w [] h room = h
healable_them w (request ∷ requests) h room =
    healable_them (acts w (Theirs request)) requests (step_healable w request h (room_was_there (acts w (Theirs request)) (map Theirs requests) room)) room

module _ (es fs : List Entry) (name : RecordName) (same : SameOf name es fs) where
  its_entry : (e : Entry) → IsEntryOf fs name e → IsEntryOf es name e
  its_entry e has = ((has.0.0, same.back has.0.0 e has.1 has.0.1), has.1)

  sees_on : (known : Known) → Sees es name known → Sees fs name known
  sees_on known (sees_none absent nowhere) = sees_none absent (λ i e at named. nowhere i e (same.back i e named at) named)
  sees_on known (sees_one i e revision at named short is_seen) = sees_one i e revision (same.onward i e named at) named short is_seen

-- ---- a record in turn

module _ {ours : Names} (theirs : Meanwhile) (leave : LeavesRoom ours theirs) where
  -- the world when the next exchange begins
  abbrev pub next : World → World
  next w = after_them w (theirs w)

  pub next_healable : (w : World) → Healable w → Healable (next w)
  next_healable w h = healable_them w (theirs w) h (leave.room w h.room)

  next_same : (w : World) (name : RecordName) → ours name ≡ true → SameOf name w.entries (next w).entries
  next_same w name mine = all_alone ours name mine w (theirs w) (leave.alone w)

  next_book : (w : World) (name : RecordName) → (next w).book name ≡ w.book name
  next_book w name = ap (λ (b : Book). b name) (same_book w (theirs w))

  next_of : (w : World) (name : RecordName) → ours name ≡ true → HealableOf w name → HealableOf (next w) name
  next_of w name mine ho = record {
    not_above = λ e known has in_book. ho.not_above e known (its_entry w.entries (next w).entries name (next_same w name mine) e has) (sym (next_book w name) ∙ in_book);
    short = λ e has. ho.short e (its_entry w.entries (next w).entries name (next_same w name mine) e has);
  }

  next_image : (w : World) (known : Known) (content : Content) → HasImage w.book known content → HasImage (next w).book known content
  next_image w known content has = ap (λ (b : Book). imaged (known_id b) known.wanted) (same_book w (theirs w)) ∙ has

  next_true : (w : World) → Healable w → (row : Row) (content : Content) → image (id_in w.entries) row ≡ Some content → image (id_in (next w).entries) row ≡ Some content
  next_true w h row content is =
      image_more (id_in w.entries) (id_in (next w).entries) (ids_grow w.entries (next w).entries (among_on w (map Theirs (theirs w))).stories (next_healable w h).in_order.whole) row content is

  -- at most so many exchanges, after which the record is healed, and our other records are as they were
  pub record Turn (w : World) (name : RecordName) (most : ℕ) : Type 0 where
    pub count : ℕ
    pub after : World
    pub within : count ≤ most
    pub exchanges : ExchangesAmong theirs w name count after
    pub rests : Rests after name
    pub healable : Healable after
    pub history : after.history ≡ w.history
    pub others : (q : RecordName) → same_name name q ≡ false → after.book q ≡ w.book q
    pub leaves : LeavesOurs ours w.entries after.entries name
    pub healed : IsHealedOf after name

  module _ (w : World) (hu : Healable (next w)) (name : RecordName) (known : Known) (in_book : (next w).book name ≡ Some known) (content : Content)
      (is_true : image (id_in (next w).entries) known.wanted ≡ Some content) (l : Last (next w) name known content) where
    abbrev now : Known
    now = (agreeing known l.id l.tag).known

    abbrev last_world : World
    last_world = exchanged_to (next w) l.request name now

    up : known.confirmed ≼ row_revision known.wanted
    up = hu.in_order.within name known in_book

    last_healable : Healable last_world
    last_healable = still (next w) hu name known in_book l.request now l.own refl (agreeing_within known l.id l.tag up)

    last_healed : IsHealedOf last_world name
    last_healed = record {
      known = now;
      entry = l.entry;
      content = content;
      in_book = put_here (next w).book name now;
      wanted = sym (last_healable.in_order.follows name) ∙ ap (option_map (λ (k : Known). k.wanted)) (put_here (next w).book name now);
      confirmed = agreeing_confirms known l.id l.tag up;
      sure = refl;
      of_record = ((l.place, l.here), l.of_record);
      its_id = ap Some l.has_id ∙ sym (id_at last_world.entries name l.place l.entry last_healable.in_order.whole l.here l.of_record);
      imaged = image_more (id_in (next w).entries) (id_in last_world.entries) (ids_grow (next w).entries last_world.entries (stories_only_grow (next w).entries l.request) last_healable.in_order.whole) known.wanted content is_true;
      held = l.held;
    }

    last_turn : Turn w name 1
    last_turn = record {
      count = 1;
      after = last_world;
      within = omega arith;
      exchanges = ((l.request, l.wants), sym l.is);
      rests = asks_nothing last_world.book name now (put_here (next w).book name now) (agreeing_done known l.id l.tag up);
      healable = last_healable;
      history = same_history w (theirs w);
      others = λ q other. put_others (next w).book name q now other ∙ next_book w q;
      leaves = ours_further ours w.entries (next w).entries last_world.entries name (them_leave ours w (theirs w) name (leave.alone w)) (leaves_ours ours (next w).entries last_world.entries name l.leaves);
      healed = last_healed;
    }

  no_longer : (w : World) (name : RecordName) → Turn w name 1 → Turn w name 2
  no_longer w name t = record {
    count = t.count;
    after = t.after;
    within = omega (arith, t.within);
    exchanges = t.exchanges;
    rests = t.rests;
    healable = t.healable;
    history = t.history;
    others = t.others;
    leaves = t.leaves;
    healed = t.healed;
  }

  module _ (w : World) (name : RecordName) (known : Known) (content : Content) (g : Seeks (next w) name known content) where
    abbrev between : World
    between = exchanged_to (next w) (search_for known.wanted) name g.now

    left_between : LeavesOurs ours w.entries between.entries name
    left_between =
        ours_further ours w.entries (next w).entries between.entries name (them_leave ours w (theirs w) name (leave.alone w))
        (leaves_ours ours (next w).entries between.entries name (subst (λ (es : List Entry). LeavesOthers (next w).entries es name) (sym (search_keeps (next w).entries known.wanted)) (leaves_all (next w).entries name)))

    longer : Turn between name 1 → Turn w name 2
    longer t = record {
      count = suc t.count;
      after = t.after;
      within = omega (arith, t.within);
      exchanges = ((search_for known.wanted, g.wants), subst (λ (u : World). ExchangesAmong theirs u name t.count t.after) (sym g.is) t.exchanges);
      rests = t.rests;
      healable = t.healable;
      history = t.history ∙ same_history w (theirs w);
      others = λ q other. t.others q other ∙ put_others (next w).book name q g.now other ∙ next_book w q;
      leaves = ours_further ours w.entries between.entries t.after.entries name left_between t.leaves;
      healed = t.healed;
    }

  pub one_record : (w : World) (h : Healable w) (name : RecordName) (known : Known) → ours name ≡ true → w.book name ≡ Some known → known.is_doubted ≡ true → known.seen ≡ Unknown → (content : Content)
      → HasImage w.book known content → image (id_in w.entries) known.wanted ≡ Some content → HealableOf w name → Turn w name 2
  one_record w h name known mine in_book doubted unknown content has is_true ho =
      go (searched (next w) hu name known its doubted content (next_image w known content has) unknown (next_of w name mine ho))
    where
      hu : Healable (next w)
      hu = next_healable w h

      its : (next w).book name ≡ Some known
      its = next_book w name ∙ in_book

      true_then : image (id_in (next w).entries) known.wanted ≡ Some content
      true_then = next_true w h known.wanted content is_true

      go : Searched (next w) name known content → Turn w name 2
      go (agreed last) = no_longer w name (last_turn w hu name known its content true_then last)
      go (goes_on g) =
          let v = exchanged_to (next w) (search_for known.wanted) name g.now in
          let hv = next_healable v g.healable in
          let there = next_book v name ∙ put_here (next w).book name g.now in
          let same = search_keeps (next w).entries known.wanted in
          let in_v : image (id_in v.entries) g.now.wanted ≡ Some content = ap (λ (es : List Entry). image (id_in es) g.now.wanted) same ∙ ap (image (id_in (next w).entries)) g.wanted ∙ true_then in
          let last = last_seen (next v) hv name g.now there g.doubted content (next_image v g.now content g.image) (sees_on v.entries (next v).entries name (next_same v name mine) g.now g.sees) in
          longer w name known content g (last_turn v hv name g.now there content (next_true v g.healable g.now.wanted content in_v) last)
