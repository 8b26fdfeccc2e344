-- One exchange with a provider without versions: what was seen is found, or the wanted revision is confirmed, or what was
-- seen and isn't true is forgotten.
use Rattle.std.proofs.Common.{◌≡◌, ℕ, suc, Bool, true, false, not, cond, List, [], ◌∷◌, length, Option, Some, None, Result, Ok, refl, ap, sym, ◌∙◌, subst, arith, length-append}
use Rattle.std.proofs.lemmas.Slice.Eq.{bytes_eq-Decides}
use Rattle.std.proofs.lemmas.Option.{slice_get_within}
use Rattle.std.specs.List.{slice_get}
use Rattle.scim_key.proofs.RevisionLaws.{reflexive_up_to}
use Rattle.scim_key.specs.Outcome.{◌>>=◌}
use Rattle.scim_key.specs.Revisions.{RevisionValue, before, no_revision}
use Rattle.scim_key.specs.declared.records.RecordName.{RecordName}
use Rattle.scim_version.specs.Tags.{version_tag}
use Rattle.scim_version.specs.declared.conditions.Condition.{Condition}
use Rattle.scim_version.specs.declared.conditions.Condition.TheVariants.{Always, Tags}
use Rattle.scim_resource.specs.Contents.{content_name, content_with}
use Rattle.scim_resource.specs.Rows.{ShownRecord, shown, shown_under}
use Rattle.scim_resource.specs.declared.contents.Content.{Content}
use Rattle.scim_message.specs.Messages.{unconditional}
use Rattle.scim_message.specs.declared.messages.Request.{Request}
use Rattle.scim_message.specs.declared.messages.Request.TheVariants.{Create, Replace}
use Rattle.scim_message.specs.declared.messages.Answer.{Answer}
use Rattle.scim_message.specs.declared.messages.Answer.TheVariants.{Created, Found, Replaced, NotModified, Error}
use Rattle.scim_message.specs.declared.messages.Answer.TheVariants as answers
use Rattle.provider_core.specs.Stories.{Entry, row_of, step}
use Rattle.provider_core.specs.Tables.{shown_in}
use Rattle.provider_core.proofs.StoryLaws.{stories_only_grow}
use Rattle.provider_core.proofs.TableLaws.{answers_show_facts, at_end, held_at, same_if_eq, tables_stay_whole}
use Rattle.source_csv.specs.Records.{row_name, row_revision}
use Rattle.source_csv.specs.declared.rows.Row.{Row}
use Rattle.source_csv.specs.declared.rows.Row.TheVariants.{User, Group}
use Rattle.connector_core.specs.Asking.{asking, is_done, request_for, search_for, replacement}
use Rattle.connector_core.specs.Book.{Book, put}
use Rattle.connector_core.specs.Keeps.{carried, forgot, learn_at, lesson_at, lesson_under, no_version, only_seen, shown_with, standing_for}
use Rattle.connector_core.specs.declared.keeps.Keeps.TheVariants.{Versions}
use Rattle.connector_core.specs.Learning.{Finding, Shows, Shows_none, Taken, Stale, Sight, Lesson, absent, after_learning, compared, differing, fault_unless, finding, fit, fits_id, forgetting, is_absent, is_wanted, none_sighted, noted, or_fault, sighted, subject}
use Rattle.connector_core.specs.declared.asking.Ask.{Ask}
use Rattle.connector_core.specs.declared.asking.Ask.TheVariants.{Send}
use Rattle.connector_core.specs.declared.knowledge.Known.{Known}
use Rattle.connector_core.specs.declared.knowledge.Seen.{Seen}
use Rattle.connector_core.specs.declared.knowledge.Seen.TheVariants.{Unknown, Absent, At}
use Rattle.connector_core.specs.declared.learning.LearnFault.{LearnFault}
use Rattle.connector_core.specs.declared.learning.LearnFault.TheVariants.{Unfit}
use Rattle.connector_core.proofs.Standing as standing
use Rattle.connector_core.proofs.Standing.{finding_with, said_with}
use Rattle.world_model.specs.World.{World, Message, Asked, Answered, Sends, Delivers, names, sends, with_message}
use Rattle.world_model.specs.Safe.{IsAt, Has}
use Rattle.world_model.specs.Settled.{Wants}
use Rattle.world_model.specs.Room.{HasRoom}
use Rattle.world_model.specs.Invariant.{all_names}
use Rattle.world_model.specs.Unversioned.{IsInOrder, KeepsOrder, delivers_without_versions, exchange_without_versions, happens_without_versions, replies_without_versions, taken_for}
use Rattle.world_model.proofs.Asked.{done_if, later_top, HasImage, image_named, image_revised, asked}
use Rattle.world_model.proofs.Comparing.{image_wanted}
use Rattle.world_model.proofs.Finding.{Finds, Finds.finds, Finds.lacks, search_finds, search_keeps, Creates, Creates.creates, Creates.meets, create_answers, Replaces, Replaces.renews, Replaces.misses, replace_answers}
use Rattle.world_model.proofs.Growing.{id_at, ids_grow}
use Rattle.world_model.proofs.Hearing.{name_with, says_itself}
use Rattle.world_model.proofs.Learned.{at_name, at_id, at_revision, at_within, refusal_shows_none, shows_first}
use Rattle.world_model.proofs.Phases.{Goes, Goes.ends, Goes.nears, Goes.forgets, Near, Near.truly_absent, Near.at_current, SoundAt, accepted, id_entry, its_law, its_name}
use Rattle.world_model.proofs.Quiet.{few_entries, row_counted}
use Rattle.world_model.proofs.Room.{free_place}
use Rattle.world_model.proofs.Searched.{search_subject}
use Rattle.world_model.proofs.UnversionedInvariant.{InvariantWithoutVersions, run_keeps, tagged, tagged_known}
use Rattle.world_model.proofs.UnversionedLearning.{retagged, under_tag}

-- ---- what an exchange is

abbrev reply_to : World → Request → Answer
reply_to w request = (step w.entries (unconditional request)).answer

abbrev replied : World → Request → World
replied w request = replies_without_versions (with_message w (Asked request)) request (step w.entries (unconditional request))

abbrev exchanged : World → Request → World
exchanged w request = record (replied w request) { book = after_learning w.book (learn_at Versions w.book request (taken_for (reply_to w request))) }

-- what the connector takes a resource for
abbrev taken : ShownRecord → ShownRecord
taken s = shown_under no_version (shown_with None s)

abbrev taken_said : Finding → Finding
taken_said said = said_with (shown_under no_version) (said_with (shown_with None) said)

-- after an exchange in which this request was sent, this is known of the record
pub record LedTo (w : World) (name : RecordName) (request : Request) (now : Known) : Type 0 where
  pub wants : Wants w name
  pub book : (exchange_without_versions w name).book ≡ put w.book name now
  pub history : (exchange_without_versions w name).history ≡ w.history
  pub entries : (exchange_without_versions w name).entries ≡ (step w.entries (unconditional request)).entries

module _ (w : World) (name : RecordName) (request : Request) (asks : asking w.book name ≡ Some (Send request)) where
  abbrev sent : World
  sent = with_message w (Asked request)

  abbrev first : ℕ
  first = suc (length w.messages)

  at_reply : IsAt (replied w request).messages first (Answered request (taken_for (reply_to w request)))
  at_reply =
      let count : length sent.messages ≡ first = omega (arith, length-append w.messages (Asked request ∷ [])) in
      ap (slice_get (replied w request).messages) (sym count) ∙ at_end sent.messages (Answered request (taken_for (reply_to w request)))

  sent_is : happens_without_versions (happens_without_versions w (Sends name)) (Delivers first) ≡ replied w request
  sent_is = ap (λ (o : Option Ask). happens_without_versions (sends w o) (Delivers first)) asks ∙ ap (λ (o : Option Message). delivers_without_versions sent o) (at_end w.messages (Asked request))

  exchange_is : exchange_without_versions w name ≡ exchanged w request
  exchange_is = ap (λ (u : World). happens_without_versions u (Delivers (suc first))) sent_is ∙ ap (λ (o : Option Message). delivers_without_versions (replied w request) o) at_reply

  -- what was just sent is the last of its record
  in_order : KeepsOrder w (Sends name ∷ Delivers first ∷ Delivers (suc first) ∷ [])
  in_order = (tt, (request_last, (reply_last, tt)))
    where
      request_last : IsInOrder (happens_without_versions w (Sends name)) (Delivers first)
      request_last place r counted at later other c d after at_other is_c is_d alike =
          let there : IsAt sent.messages later (Asked other) = subst (λ (o : Option Ask). IsAt (sends w o).messages later (Asked other)) asks at_other in
          let within = slice_get_within sent.messages later (Asked other) there in
          absurd (omega (arith, counted, after, within, length-append w.messages (Asked request ∷ [])))

      reply_last : IsInOrder (happens_without_versions (happens_without_versions w (Sends name)) (Delivers first)) (Delivers (suc first))
      reply_last place r counted at =
          let here : first ≡ place = omega (arith, counted) in
          let there : IsAt (replied w request).messages place (Asked r) = subst (λ (u : World). IsAt u.messages place (Asked r)) sent_is at in
          let clash : Some (Answered request (taken_for (reply_to w request))) ≡ Some (Asked r) = sym at_reply ∙ ap (slice_get (replied w request).messages) here ∙ there in
          absurd (cc)

  pub exchange_keeps : InvariantWithoutVersions all_names w → InvariantWithoutVersions all_names (exchange_without_versions w name)
  exchange_keeps i = run_keeps w (Sends name ∷ Delivers first ∷ Delivers (suc first) ∷ []) in_order i

  module _ (known : Known) (said : Finding) (about : subject request ≡ Some name) (in_book : w.book name ≡ Some known) (told : finding request (reply_to w request) ≡ Ok said) where
    told_taken : finding request (taken_for (reply_to w request)) ≡ Ok (taken_said said)
    told_taken = finding_with (shown_under no_version) request (forgot (reply_to w request)) (said_with (shown_with None) said) (finding_with (shown_with None) request (reply_to w request) said told)

    led_to : (l : Lesson) → lesson_at Versions w.book name known (carried request) (taken_said said) ≡ Ok l → LedTo w name request l.known
    led_to l is = record {
      wants = (request, asks);
      book = ap (λ (u : World). u.book) exchange_is
          ∙ ap (after_learning w.book) (standing.learn_is Versions w.book request (taken_for (reply_to w request)) name known (taken_said said) about in_book told_taken)
          ∙ ap (λ (r : Result Lesson LearnFault). after_learning w.book (r >>= λ l. Ok (noted w.book name l))) is;
      history = ap (λ (u : World). u.history) exchange_is;
      entries = ap (λ (u : World). u.entries) exchange_is;
    }

-- ---- what is learnt

-- a resource that is only seen
only_is : (name : RecordName) (known : Known) (s : ShownRecord) → name ≡ content_name s.content
    → only_seen name known (taken s) ≡ Ok (differing known (record { id = s.id; revision = no_revision; tag = no_version }))
only_is name known s named =
    let last : Bool → Result Lesson LearnFault = λ b. Ok (differing known (record { id = s.id; revision = no_revision; tag = no_version })) in
    ap (λ (b : Bool). fault_unless Unfit b >>= last) (same_if_eq name (content_name (content_with None s.content)) (named ∙ sym (name_with None s.content)))

fits_known : (known : Option (List ℕ)) (id : List ℕ) → ((k : List ℕ) → known ≡ Some k → k ≡ id) → fits_id known id ≡ true
fits_known None id same = refl
fits_known (Some k) id same = (bytes_eq-Decides k id).1 (same k refl)

not_false : (b : Bool) → b ≡ false → not b ≡ true
not_false true is = absurd (cc)
not_false false is = refl

-- what was written as it is wanted is confirmed
module _ (book : Book) (name : RecordName) (known : Known) (c : Content) (s : ShownRecord) (has : HasImage book known c) (named : content_name c ≡ name) (written : c ≡ s.content)
    (its_id : fits_id known.id s.id ≡ true) where
  abbrev as_asked : ShownRecord
  as_asked = standing_for c (taken s)

  abbrev confirms : Sight
  confirms = record { id = s.id; revision = row_revision known.wanted; tag = no_version }

  fit_is : fit name known as_asked ≡ Ok confirms
  fit_is =
      ap (λ (b : Bool). fault_unless Unfit b >>= at_name known as_asked) (same_if_eq name (content_name c) (sym named))
      ∙ ap (λ (b : Bool). fault_unless Unfit b >>= at_id known as_asked) its_id
      ∙ ap (λ (o : Option RevisionValue). or_fault Unfit o >>= at_revision known as_asked) (image_revised book known c has)
      ∙ ap (λ (b : Bool). fault_unless Unfit b >>= at_within as_asked (row_revision known.wanted)) (not_false (before (row_revision known.wanted) (row_revision known.wanted)) (reflexive_up_to (row_revision known.wanted)))

  confirmed_by : (doubted : Bool) → cond doubted (compared (is_wanted book known c) name known as_asked) (fit name known as_asked >>= λ sight. Ok (sighted known sight)) ≡ Ok (sighted known confirms)
  confirmed_by true = ap (λ (b : Bool). compared b name known as_asked) (image_wanted book known c has)
  confirmed_by false = ap (λ (r : Result Sight LearnFault). r >>= λ sight. Ok (sighted known sight)) fit_is

  asked_is : (o : Option Content) → o ≡ Some c → lesson_at Versions book name known o (Shows (taken s)) ≡ Ok (sighted known confirms)
  asked_is o carries =
      ap (λ (x : Option Content). lesson_at Versions book name known x (Shows (taken s))) carries
      ∙ ap (λ (b : Bool). fault_unless Unfit b >>= λ _. lesson_under (Some no_version) book name known as_asked) (says_itself name c s named written)
      ∙ confirmed_by known.is_doubted

-- what shows a resource doesn't depend on conditions
shows_alike : (id : List ℕ) (c : Content) (k m n : Condition) (answer : Answer) (s : ShownRecord) → finding (Replace id c k n) answer ≡ Ok (Shows s) → finding (Replace id c m n) answer ≡ Ok (Shows s)
shows_alike id c k m n (Created x) s is = absurd (cc)
shows_alike id c k m n (Found x) s is = absurd (cc)
shows_alike id c k m n (Replaced x) s is = is
shows_alike id c k m n (answers.List list) s is = absurd (cc)
shows_alike id c k m n (NotModified kind i version) s is = absurd (cc)
shows_alike id c k m n (Error error) s is = absurd (refusal_shows_none _ (Stale k) _ s (λ e. cc) is)

search_alike : (row : Row) → unconditional (search_for row) ≡ search_for row
search_alike (User row) = refl
search_alike (Group row) = refl

search_carries : (row : Row) → carried (search_for row) ≡ None
search_carries (User row) = refl
search_carries (Group row) = refl

search_stays : (es : List Entry) (row : Row) → (step es (unconditional (search_for row))).entries ≡ es
search_stays es row = ap (λ (r : Request). (step es r).entries) (search_alike row) ∙ search_keeps es row

-- ---- an exchange

-- where a record is on its way, under this tag
pub record AdvanceWithoutVersions (w : World) (name : RecordName) (known : Known) (old : List ℕ) : Type 0 where
  pub now : Known
  pub tag : List ℕ
  pub request : Request
  pub led : LedTo w name request now
  pub goes : Goes w.entries name (retagged old known) (step w.entries (unconditional request)).entries (retagged tag now)

module _ (w : World) (i : InvariantWithoutVersions all_names w) (room : HasRoom w) (q : SoundAt Versions all_names (tagged i.tags w)) (name : RecordName) (known : Known) (in_book : w.book name ≡ Some known)
    (old : List ℕ) where
  abbrev there : World
  there = tagged i.tags w

  abbrev known_there : Known
  known_there = retagged (i.tags name) known

  there_known : there.book name ≡ Some known_there
  there_known = tagged_known w i name known in_book

  row_named : row_name known.wanted ≡ name
  row_named = its_name there q name known_there there_known

  -- what an answer shows of the record has the record's id
  shows_id : (request : Request) (s : ShownRecord) → IsAt (shown_in (reply_to w request)) 0 s → content_name s.content ≡ name → fits_id known.id s.id ≡ true
  shows_id request s at named = fits_known known.id s.id (λ k has.
      let after = step w.entries (unconditional request) in
      let whole = tables_stay_whole w.entries (unconditional request) i.inv.kept.whole in
      let fact = answers_show_facts w.entries (unconditional request) 0 s at in
      let of_record : fact.entry.name ≡ name = sym (whole.named fact.place fact.turn fact.entry s.content fact.here fact.held) ∙ named in
      let known_id = ids_grow w.entries after.entries (stories_only_grow w.entries (unconditional request)) whole name k ((i.inv.noted name known_there there_known).id k has) in
      let same : Some k ≡ Some s.id = sym known_id ∙ id_at after.entries name fact.place fact.entry whole fact.here of_record ∙ ap Some (sym fact.id) in
      cc)

  -- a search
  found : known.seen ≡ Unknown → asking w.book name ≡ Some (Send (search_for known.wanted)) → Finds w.entries name (search_for known.wanted) (step w.entries (search_for known.wanted)).answer
      → AdvanceWithoutVersions w name known old
  found unknown asks (finds place e at named told) =
      let request = search_for known.wanted in
      let s = shown (row_of (suc place) e) in
      let about : subject request ≡ Some name = search_subject known.wanted (its_law there q name known_there there_known) ∙ ap Some row_named in
      let shows : name ≡ content_name s.content = sym (i.inv.kept.whole.named place (length e.earlier) e e.held at (held_at e) ∙ named) in
      let said : finding request (reply_to w request) ≡ Ok (Shows s) = ap (λ (r : Request). finding request (step w.entries r).answer) (search_alike known.wanted) ∙ told in
      let l = differing known (record { id = s.id; revision = no_revision; tag = no_version }) in
      let tag = version_tag (suc (length e.earlier)) in
      let near : Near w.entries name (retagged tag l.known) = at_current place e s.id no_revision at named refl in
      record {
        now = l.known;
        tag = tag;
        request = request;
        led = led_to w name request asks known (Shows s) about in_book said l (ap (λ (o : Option Content). lesson_at Versions w.book name known o (Shows (taken s))) (search_carries known.wanted) ∙ only_is name known s shows);
        goes = nears (ap (under_tag old) unknown) (subst (λ (es : List Entry). Near es name (retagged tag l.known)) (sym (search_stays w.entries known.wanted)) near);
      }
  found unknown asks (lacks none told) =
      let request = search_for known.wanted in
      let about : subject request ≡ Some name = search_subject known.wanted (its_law there q name known_there there_known) ∙ ap Some row_named in
      let said : finding request (reply_to w request) ≡ Ok Shows_none = ap (λ (r : Request). finding request (step w.entries r).answer) (search_alike known.wanted) ∙ told in
      let led = led_to w name request asks known Shows_none about in_book said (none_sighted known.id known) refl in
      go known.id refl led
    where
      go : (id : Option (List ℕ)) → known.id ≡ id → LedTo w name (search_for known.wanted) (none_sighted id known).known → AdvanceWithoutVersions w name known old
      go None is led = record {
        now = (none_sighted None known).known;
        tag = old;
        request = search_for known.wanted;
        led = led;
        goes = nears (ap (under_tag old) unknown)
            (subst (λ (es : List Entry). Near es name (retagged old (none_sighted None known).known)) (sym (search_stays w.entries known.wanted)) (truly_absent refl none));
      }
      go (Some id) is led = absurd (id_entry w.entries name id ((i.inv.noted name known_there there_known).id id is) none)

  module _ (content : Content) (has : HasImage w.book known content) where
    of_record : content_name content ≡ name
    of_record = image_named w.book known content has ∙ row_named

    -- what was written is confirmed
    wrote : (request : Request) (s : ShownRecord) → asking w.book name ≡ Some (Send request) → carried request ≡ Some content → subject request ≡ Some name → s.content ≡ content
        → finding request (reply_to w request) ≡ Ok (Shows s) → AdvanceWithoutVersions w name known old
    wrote request s asks carries about same told =
        let at = shows_first request (reply_to w request) s told in
        let its_id = shows_id request s at (ap content_name same ∙ of_record) in
        let l = sighted known (record { id = s.id; revision = row_revision known.wanted; tag = no_version }) in
        record {
          now = l.known;
          tag = old;
          request = request;
          led = led_to w name request asks known (Shows s) about in_book told l (asked_is w.book name known content s has of_record (sym same) its_id (carried request) carries);
          goes = ends (done_if l.known refl (later_top known.confirmed (row_revision known.wanted) (i.inv.noted name known_there there_known).within));
        }

    -- a creation
    made : known.seen ≡ Absent → asking w.book name ≡ Some (Send (Create content)) → Creates w.entries content (reply_to w (Create content)) → AdvanceWithoutVersions w name known old
    made absent asks (creates s same told) = wrote (Create content) s asks refl (ap Some of_record) same told
    made absent asks (meets place e at named told) =
        let l = forgetting (is_absent known.seen) known in
        record {
          now = l.known;
          tag = old;
          request = Create content;
          led = led_to w name (Create content) asks known Taken (ap Some of_record) in_book told l refl;
          goes = forgets (ap (λ (s : Seen). under_tag old (forgetting (is_absent s) known).known.seen) absent)
              (λ unknown. let wrong : Absent ≡ Unknown = sym (ap (under_tag old) absent) ∙ unknown in absurd (cc)) (not_near place e at (named ∙ of_record));
        }
      where
        not_near : (place : ℕ) (e : Entry) → IsAt w.entries place e → e.name ≡ name → Near w.entries name (retagged old known) → ⊥
        not_near place e at named (truly_absent is none) = none place e at named
        not_near place e at named (at_current j f id r here f_named is) = let wrong : Absent ≡ At id (version_tag (suc (length f.earlier))) r = sym (ap (under_tag old) absent) ∙ is in absurd (cc)

    -- a replacement of what was seen
    replaced : (id tag : List ℕ) (revision : RevisionValue) → known.seen ≡ At id tag revision → asking w.book name ≡ Some (Send (replacement id tag content)) → AdvanceWithoutVersions w name known old
    replaced id tag revision is_seen asks =
        let v = ((i.inv.noted name known_there there_known).seen id (i.tags name) revision (ap (under_tag (i.tags name)) is_seen)).version in
        let named : v.entry.name ≡ content_name content = v.of_record ∙ sym of_record in
        go (replace_answers w.entries v.place v.entry id content Always (few_entries w room) v.here v.has_id named (q.short v.place v.entry v.here refl))
      where
        go : {e : Entry} → Replaces (Replace id content Always Always) Always content e (reply_to w (replacement id tag content)) → AdvanceWithoutVersions w name known old
        go (renews s same told) =
            wrote (replacement id tag content) s asks refl (ap Some of_record) same (shows_alike id content Always (Tags (tag ∷ [])) Always (reply_to w (replacement id tag content)) s told)
        go (misses fails told) = absurd (cc)

    by_seen : (seen : Seen) → known.seen ≡ seen → asking w.book name ≡ Some (Send (request_for seen known.wanted content)) → AdvanceWithoutVersions w name known old
    by_seen Unknown is_seen asks =
        found is_seen asks (subst (λ (n : RecordName). Finds w.entries n (search_for known.wanted) (step w.entries (search_for known.wanted)).answer) row_named
        (search_finds w.entries known.wanted (its_law there q name known_there there_known) i.inv.kept.whole))
    by_seen Absent is_seen asks =
        let place : Has (names w) name = row_counted w.history q.counted name known.wanted (accepted there q name known_there there_known) in
        made is_seen asks (create_answers w.entries content (λ lacks. free_place w room (content_name content) (subst (λ (n : RecordName). Has (names w) n) (sym of_record) place) lacks))
    by_seen (At id tag revision) is_seen asks = replaced id tag revision is_seen asks

    pub advance : is_done known ≡ false → AdvanceWithoutVersions w name known old
    advance undone = by_seen known.seen refl (asked w.book name known content in_book undone has)
