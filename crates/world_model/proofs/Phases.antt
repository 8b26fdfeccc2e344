-- The phases of a record on the way to its wanted revision: each exchange goes one phase on.
use Rattle.std.proofs.Common.{◌≡◌, ℕ, suc, ◌<◌, Bool, true, false, List, [], ◌∷◌, length, Option, Some, None, refl, ap, sym, ◌∙◌, subst, arith, length-append}
use Rattle.std.proofs.lemmas.Slice.Eq.{bytes_eq-Decides}
use Rattle.std.specs.List.{slice_get}
use Rattle.std.specs.Option.{option_map}
use Rattle.scim_key.specs.Identifiers.{id_text}
use Rattle.scim_key.proofs.RevisionLaws.{irreflexive, none_before}
use Rattle.scim_key.specs.Revisions.{RevisionValue, later, no_revision, ◌≺◌}
use Rattle.scim_key.specs.declared.records.RecordName.{RecordName}
use Rattle.scim_version.proofs.Versions.{has_version-alone}
use Rattle.scim_version.specs.Conditions.{holds_match}
use Rattle.scim_version.specs.Tags.{version_tag}
use Rattle.scim_version.specs.declared.conditions.Condition.TheVariants.{Always, Tags}
use Rattle.scim_resource.specs.Contents.{content_name}
use Rattle.scim_resource.specs.Rows.{ShownRecord, shown, shown_under, last_version}
use Rattle.scim_resource.specs.declared.contents.Content.{Content}
use Rattle.scim_message.specs.declared.messages.Request.{Request}
use Rattle.scim_message.specs.declared.messages.Request.TheVariants.{Create}
use Rattle.provider_core.specs.Stories.{Entry, story, Numbered, row_of, step}
use Rattle.provider_core.specs.Tables.{entry_named}
use Rattle.provider_core.proofs.TableLaws.{held_at, named_found}
use Rattle.source_csv.specs.Records.{IsRow, row_name, row_revision}
use Rattle.connector_core.specs.History.{rows_of, last_row}
use Rattle.connector_core.specs.Asking.{asking, is_done, request_for, search_for, replacement}
use Rattle.connector_core.specs.Keeps.{carried, no_version}
use Rattle.connector_core.specs.declared.keeps.Keeps.{Keeps}
use Rattle.connector_core.specs.declared.keeps.Keeps.TheVariants.{Revisions, Versions}
use Rattle.connector_core.specs.Learning.{Shows_none, Taken, Stale, subject, Lesson, Sight, seen_at, sighted, differing, is_wanted, none_sighted, forgetting, is_absent, is_under, content_revision}
use Rattle.connector_core.specs.declared.asking.Ask.TheVariants.{Send}
use Rattle.connector_core.specs.declared.knowledge.Known.{Known}
use Rattle.connector_core.specs.declared.knowledge.Seen.{Seen}
use Rattle.connector_core.specs.declared.knowledge.Seen.TheVariants.{Unknown, Absent, At}
use Rattle.world_model.specs.Safe.{IsAt, Has, id_in, IsVersion}
use Rattle.world_model.specs.World.{World, names}
use Rattle.world_model.specs.Room.{HasRoom}
use Rattle.world_model.proofs.Answering.{below_last}
use Rattle.world_model.proofs.Asked.{IsDone, done_if, later_top, HasImage, image_named, image_revised, asked}
use Rattle.world_model.proofs.Counting.{Counted}
use Rattle.world_model.proofs.Exchanging.{answer_to}
use Rattle.world_model.proofs.Finding.{Finds, Finds.finds, Finds.lacks, search_finds, search_keeps, Creates, Creates.creates, Creates.meets, create_answers, Replaces, Replaces.renews, Replaces.misses, replace_answers}
use Rattle.world_model.proofs.Comparing.{image_wanted}
use Rattle.world_model.proofs.Hearing.{hearing, hearing_version, hearing_name, hearing_created, hearing_replaced}
use Rattle.world_model.proofs.Leading.{Leads, leads_to, seen_in, misses_at, taken_at, stale_at}
use Rattle.world_model.proofs.Learned.{LearnsShown, LearnsShown.sees, LearnsShown.agrees, LearnsShown.differs, LearnsShown.only, LearnsShown.hides}
use Rattle.world_model.proofs.Lists.{last_has}
use Rattle.world_model.specs.Invariant.{Names, InSightAt, InvariantAt, NotedAt}
use Rattle.world_model.proofs.Quiet.{QuietAmong, row_counted, few_entries}
use Rattle.world_model.proofs.Ranking.{AllLawful, lawful_revision, row_lawful, record_ours, versions_few_of}
use Rattle.world_model.proofs.Room.{Lacks, free_place}
use Rattle.world_model.proofs.Searched.{search_subject}
use Rattle.world_model.proofs.Sending.{row_of_record}

-- what was seen is true: there is no entry, or the tag is that of the entry's current version
pub data Near (es : List Entry) (name : RecordName) (known : Known) : Type 0 where
  truly_absent : known.seen ≡ Absent → Lacks es name → Near es name known
  at_current : (i : ℕ) (e : Entry) (id : List ℕ) (revision : RevisionValue) → IsAt es i e → e.name ≡ name → known.seen ≡ At id (version_tag (suc (length e.earlier))) revision → Near es name known

-- how an exchange changes what was known: the wanted revision is confirmed; or, if nothing was seen, the truth was
-- seen; or what was seen and isn't true is forgotten
pub data Goes (es : List Entry) (name : RecordName) (known : Known) (fs : List Entry) (now : Known) : Type 0 where
  ends : IsDone now → Goes es name known fs now
  nears : known.seen ≡ Unknown → Near fs name now → Goes es name known fs now
  forgets : now.seen ≡ Unknown → (known.seen ≡ Unknown → ⊥) → (Near es name known → ⊥) → Goes es name known fs now

pub record Advance (keeps : Keeps) (w : World) (name : RecordName) (known : Known) : Type 0 where
  pub now : Known
  pub request : Request
  pub leads : Leads keeps w name request now
  pub goes : Goes w.entries name known (step w.entries request).entries now

-- what an exchange rests on, with each kind of provider
pub record SoundAt (keeps : Keeps) (ours : Names) (w : World) : Type 0 where
  pub inv : InvariantAt keeps ours w
  pub lawful : AllLawful w.history
  pub counted : Counted w.history
  pub short : (i : ℕ) (e : Entry) → IsAt w.entries i e → ours e.name ≡ true → length (story e) < last_version

pub sound_of : {ours : Names} (w : World) → QuietAmong ours w → SoundAt Revisions ours w
sound_of w q = record {
  inv = q.inv;
  lawful = q.lawful;
  counted = q.counted;
  short = λ i e at mine. below_last (length (story e)) (versions_few_of w.history w.entries q.inv.kept q.lawful i e at mine);
}

-- a record with a known id has an entry
pub id_entry : (es : List Entry) (name : RecordName) (id : List ℕ) → id_in es name ≡ Some id → Lacks es name → ⊥
id_entry es name id is none = go (entry_named name es) refl is
  where
    go : (o : Option Numbered) → entry_named name es ≡ o → option_map (λ n. id_text n.number) o ≡ Some id → ⊥
    go None found was = cc
    go (Some n) found was = let (i, number, at, named) = named_found name es n found in none i n.entry at named

-- the tag of a version is under itself
alone_under : (id tag : List ℕ) (revision : RevisionValue) → is_under (Tags (tag ∷ [])) (At id tag revision) ≡ true
alone_under id tag revision = (bytes_eq-Decides tag tag).1 refl

-- the tag of an entry's current version holds of it
pub current_holds : (e : Entry) (tag : List ℕ) → length (story e) < last_version → tag ≡ version_tag (suc (length e.earlier)) → holds_match (Tags (tag ∷ [])) (Some (length (story e))) ≡ true
current_holds e tag short is =
    let count : suc (length e.earlier) ≡ length (story e) = omega (arith, length-append e.earlier (e.held ∷ [])) in
    let P : List ℕ → Type 0 = λ t. holds_match (Tags (t ∷ [])) (Some (length (story e))) ≡ true in
    subst P (sym is) ((has_version-alone (suc (length e.earlier)) (length (story e)) (omega (arith, short, count)) (omega (arith, short))).1 count)

module _ {keeps : Keeps} {ours : Names} (w : World) (q : SoundAt keeps ours w) (name : RecordName) (known : Known) (in_book : w.book name ≡ Some known) where
  pub is_last : last_row w.history name ≡ Some known.wanted
  is_last = sym (q.inv.follows name) ∙ ap (option_map (λ k. k.wanted)) in_book

  pub accepted : Has (rows_of w.history name) known.wanted
  accepted = last_has (rows_of w.history name) known.wanted is_last

  pub its_law : IsRow known.wanted
  its_law = row_lawful w.history q.lawful name known.wanted accepted

  pub its_name : row_name known.wanted ≡ name
  its_name = row_of_record w.history name known.wanted accepted

  -- the record is ours
  pub its_ours : ours name ≡ true
  its_ours = record_ours ours w.history q.inv.mine name known.wanted accepted

  noted : NotedAt keeps w.entries name known
  noted = q.inv.noted name known in_book

  -- the wanted revision in sight is confirmed
  sight_ends : (sight : Sight) → sight.revision ≡ row_revision known.wanted → IsDone (sighted known sight).known
  sight_ends sight same =
      done_if (sighted known sight).known refl (ap (later known.confirmed) same ∙ later_top known.confirmed (row_revision known.wanted) noted.within)

version_seen : (keeps : Keeps) (es : List Entry) (name : RecordName) (known : Known) (id tag : List ℕ) (r : RevisionValue) → InSightAt keeps es name known id tag r → (held : RevisionValue) × IsVersion es name id tag held
version_seen Revisions es name known id tag r sight = (r, sight.version)
version_seen Versions es name known id tag r sight = (sight.held, sight.version)

module _ {keeps : Keeps} {ours : Names} (w : World) (room : HasRoom w) (q : SoundAt keeps ours w) (name : RecordName) (known : Known) (in_book : w.book name ≡ Some known) where
  law : IsRow known.wanted
  law = its_law w q name known in_book

  truth : NotedAt keeps w.entries name known
  truth = noted w q name known in_book

  -- ---- nothing was seen

  module _ (unknown : known.seen ≡ Unknown) (i : ℕ) (e : Entry) (at : IsAt w.entries i e) (named : e.name ≡ name) where
    -- the entry's current version is in sight
    current : (now : Known) (sight : Sight) → Some (version_tag (suc (length e.earlier))) ≡ Some sight.tag → now.seen ≡ seen_at sight
        → Goes w.entries name known (step w.entries (search_for known.wanted)).entries now
    current now sight tags is_seen =
        let tag : sight.tag ≡ version_tag (suc (length e.earlier)) = cc in
        let near : Near w.entries name now = at_current i e sight.id sight.revision at named (is_seen ∙ ap (λ (t : List ℕ). At sight.id t sight.revision) tag) in
        nears unknown (subst (λ (es : List Entry). Near es name now) (sym (search_keeps w.entries known.wanted)) near)

    found_goes : (s : ShownRecord) {l : Lesson} → s.version ≡ Some (version_tag (suc (length e.earlier))) → LearnsShown keeps w.book name known s l
        → Goes w.entries name known (step w.entries (search_for known.wanted)).entries l.known
    found_goes s tags (sees sight fits) = current (sighted known sight).known sight (sym tags ∙ fits.tag) refl
    found_goes s tags (agrees tag wanted tagged) = ends (sight_ends w q name known in_book (record { id = s.id; revision = row_revision known.wanted; tag = tag }) refl)
    found_goes s tags (differs sight d) = current (differing known sight).known sight (sym tags ∙ d.tag) refl
    found_goes s tags (only tag o) =
        let sight : Sight = record { id = s.id; revision = no_revision; tag = tag } in
        current (differing known sight).known sight (sym tags ∙ o.tagged) refl
    found_goes s tags (hides u learns) = let none : None ≡ Some (version_tag (suc (length e.earlier))) = sym u.untagged ∙ tags in absurd (cc)

  found : known.seen ≡ Unknown → asking w.book name ≡ Some (Send (search_for known.wanted))
      → Finds w.entries name (search_for known.wanted) (answer_to w (search_for known.wanted)) → Advance keeps w name known
  found unknown asks (finds i e at named says) =
      let request = search_for known.wanted in
      let s = shown (row_of (suc i) e) in
      let about : subject request ≡ Some name = search_subject known.wanted law ∙ ap Some (its_name w q name known in_book) in
      let shows : content_name s.content ≡ name = q.inv.kept.whole.named i (length e.earlier) e e.held at (held_at e) ∙ named in
      let seen = seen_in keeps w q.inv name known request s asks about in_book says (hearing_name keeps known.wanted s ∙ shows) in
      record { now = seen.lesson.known; request = request; leads = seen.leads; goes = found_goes unknown i e at named (hearing keeps request s) (hearing_version keeps request s) seen.learns }
  found unknown asks (lacks none says) =
      let request = search_for known.wanted in
      let about : subject request ≡ Some name = search_subject known.wanted law ∙ ap Some (its_name w q name known in_book) in
      let after = leads_to keeps w name known request Shows_none asks about in_book says (none_sighted known.id known) (misses_at keeps w.book name known (carried request)) in
      go known.id refl after
    where
      go : (id : Option (List ℕ)) → known.id ≡ id → Leads keeps w name (search_for known.wanted) (none_sighted id known).known → Advance keeps w name known
      go None is leads = record {
        now = (none_sighted None known).known;
        request = search_for known.wanted;
        leads = leads;
        goes = nears unknown (subst (λ (es : List Entry). Near es name (none_sighted None known).known) (sym (search_keeps w.entries known.wanted)) (truly_absent refl none));
      }
      go (Some id) is leads = absurd (id_entry w.entries name id (truth.id id is) none)

  -- ---- the record was seen absent

  module _ (content : Content) (named : content_name content ≡ name) (revised : content_revision content ≡ Some (row_revision known.wanted)) where
    of_revision : (s : ShownRecord) (sight : Sight) → s.content ≡ content → content_revision s.content ≡ Some sight.revision → sight.revision ≡ row_revision known.wanted
    of_revision s sight same has =
        let revisions : Some sight.revision ≡ Some (row_revision known.wanted) = sym has ∙ ap content_revision same ∙ revised in
        cc

    -- the image of the wanted row in sight ends it
    image_ends : (s : ShownRecord) {l : Lesson} → HasImage w.book known content → s.content ≡ content → LearnsShown keeps w.book name known s l → IsDone l.known
    image_ends s has same (sees sight fits) = sight_ends w q name known in_book sight (of_revision s sight same fits.revision)
    image_ends s has same (agrees tag wanted tagged) = sight_ends w q name known in_book (record { id = s.id; revision = row_revision known.wanted; tag = tag }) refl
    image_ends s has same (differs sight d) =
        let test : is_wanted w.book known s.content ≡ true = ap (is_wanted w.book known) same ∙ image_wanted w.book known content has in
        let clash : true ≡ false = sym test ∙ d.other in
        absurd (cc)
    image_ends s has same (only tag o) =
        let revisions : Some no_revision ≡ Some (row_revision known.wanted) = sym o.revision ∙ ap content_revision same ∙ revised in
        let none : no_revision ≡ row_revision known.wanted = cc in
        absurd (irreflexive no_revision (subst (λ (r : RevisionValue). no_revision ≺ r) (sym none) (none_before (row_revision known.wanted) (lawful_revision known.wanted law))))
    image_ends s has same (hides u learns) = image_ends (shown_under no_version s) has same learns

    made : HasImage w.book known content → known.seen ≡ Absent → asking w.book name ≡ Some (Send (Create content)) → Creates w.entries content (answer_to w (Create content)) → Advance keeps w name known
    made has absent asks (creates s same says) =
        let is = hearing_created keeps content s same in
        let seen = seen_in keeps w q.inv name known (Create content) s asks (ap Some named) in_book says (ap content_name is ∙ named) in
        record { now = seen.lesson.known; request = Create content; leads = seen.leads; goes = ends (image_ends (hearing keeps (Create content) s) has is seen.learns) }
    made has absent asks (meets i e at e_named says) =
        let l = forgetting (is_absent known.seen) known in
        record {
          now = l.known;
          request = Create content;
          leads = leads_to keeps w name known (Create content) Taken asks (ap Some named) in_book says l (taken_at keeps w.book name known (Some content));
          goes = forgets (ap (λ (s : Seen). (forgetting (is_absent s) known).known.seen) absent) (λ unknown. absurd (cc)) not_near;
        }
      where
        not_near : Near w.entries name known → ⊥
        not_near (truly_absent is none) = none i e at (e_named ∙ named)
        not_near (at_current j f id r there f_named is) = absurd (cc)

    -- ---- the record was seen at a version

    module _ (has : HasImage w.book known content) (id tag : List ℕ) (revision held : RevisionValue) (is_seen : known.seen ≡ At id tag revision) (v : IsVersion w.entries name id tag held)
        (asks : asking w.book name ≡ Some (Send (replacement id tag content))) where
      short : length (story v.entry) < last_version
      short = q.short v.place v.entry v.here (ap ours v.of_record ∙ its_ours w q name known in_book)

      stale_not_near : holds_match (Tags (tag ∷ [])) (Some (length (story v.entry))) ≡ false → Near w.entries name known → ⊥
      stale_not_near fails (truly_absent is none) = absurd (cc)
      stale_not_near fails (at_current j f i r there named_f is) =
          let seens : At i (version_tag (suc (length f.earlier))) r ≡ At id tag revision = sym is ∙ is_seen in
          let tags : tag ≡ version_tag (suc (length f.earlier)) = cc in
          let place : j ≡ v.place = q.inv.kept.whole.distinct j v.place f v.entry there v.here (named_f ∙ sym v.of_record) in
          let entries : Some f ≡ Some v.entry = sym there ∙ ap (slice_get w.entries) place ∙ v.here in
          let same : f ≡ v.entry = cc in
          let holds = current_holds v.entry tag short (tags ∙ ap (λ (e : Entry). version_tag (suc (length e.earlier))) same) in
          absurd (cc)

      written : Replaces (replacement id tag content) (Tags (tag ∷ [])) content v.entry (answer_to w (replacement id tag content)) → Advance keeps w name known
      written (renews s same says) =
          let request = replacement id tag content in
          let is = hearing_replaced keeps id content (Tags (tag ∷ [])) Always s same in
          let seen = seen_in keeps w q.inv name known request s asks (ap Some named) in_book says (ap content_name is ∙ named) in
          record { now = seen.lesson.known; request = request; leads = seen.leads; goes = ends (image_ends (hearing keeps request s) has is seen.learns) }
      written (misses fails says) =
          let request = replacement id tag content in
          let l = forgetting (is_under (Tags (tag ∷ [])) known.seen) known in
          record {
            now = l.known;
            request = request;
            leads = leads_to keeps w name known request (Stale (Tags (tag ∷ []))) asks (ap Some named) in_book says l (stale_at keeps w.book name known (Some content) (Tags (tag ∷ [])));
            goes = forgets
                (ap (λ (s : Seen). (forgetting (is_under (Tags (tag ∷ [])) s) known).known.seen) is_seen
                ∙ ap (λ (b : Bool). (forgetting b known).known.seen) (alone_under id tag revision))
                (λ unknown. absurd (cc)) (stale_not_near fails);
          }

  -- ---- whatever was seen

  module _ (undone : is_done known ≡ false) (content : Content) (has : HasImage w.book known content) where
    its_content : content_name content ≡ name
    its_content = image_named w.book known content has ∙ its_name w q name known in_book

    its_revision : content_revision content ≡ Some (row_revision known.wanted)
    its_revision = image_revised w.book known content has

    -- one of the source
    its_place : Has (names w) name
    its_place = row_counted w.history q.counted name known.wanted (accepted w q name known in_book)

    by_seen : (seen : Seen) → known.seen ≡ seen → asking w.book name ≡ Some (Send (request_for seen known.wanted content)) → Advance keeps w name known
    by_seen Unknown is_seen asks =
        found is_seen asks (subst (λ (n : RecordName). Finds w.entries n (search_for known.wanted) (answer_to w (search_for known.wanted))) (its_name w q name known in_book)
        (search_finds w.entries known.wanted law q.inv.kept.whole))
    by_seen Absent is_seen asks = made content its_content its_revision has is_seen asks (create_answers w.entries content (λ lacks. free_place w room (content_name content) (subst (λ (n : RecordName). Has (names w) n) (sym its_content) its_place) lacks))
    by_seen (At id tag revision) is_seen asks =
        let (held, v) = version_seen keeps w.entries name known id tag revision (truth.seen id tag revision is_seen) in
        written content its_content its_revision has id tag revision held is_seen v asks
        (replace_answers w.entries v.place v.entry id content (Tags (tag ∷ [])) (few_entries w room) v.here v.has_id (v.of_record ∙ sym its_content)
        (short content its_content its_revision has id tag revision held is_seen v asks))

    pub one_exchange : Advance keeps w name known
    one_exchange = by_seen known.seen refl (asked w.book name known content in_book undone has)
