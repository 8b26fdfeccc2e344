-- Once healed, records keep the promise: what we write is an image, and no lower revision than what it replaces.
use Rattle.std.proofs.Common.{◌≡◌, ℕ, suc, ◌<◌, Bool, true, false, List, [], ◌∷◌, ◌++◌, length, Option, Some, None, Result, Ok, Err, ◌⊎◌, inl, inr, refl, ap, sym, ◌∙◌, subst, arith, length-append}
use Rattle.std.proofs.lemmas.Option.{slice_get_within}
use Rattle.std.specs.List.{slice_get}
use Rattle.scim_key.proofs.RevisionLaws.{reflexive_up_to, transitive_up_to}
use Rattle.scim_key.specs.Identifiers.{id_text}
use Rattle.scim_key.specs.Revisions.{RevisionValue, ◌≼◌}
use Rattle.scim_key.specs.declared.records.RecordName.{RecordName}
use Rattle.scim_version.specs.Conditions.{holds_match}
use Rattle.scim_version.specs.declared.conditions.Condition.{Condition}
use Rattle.scim_resource.specs.Contents.{content_name}
use Rattle.scim_resource.specs.Rows.{last_version}
use Rattle.scim_resource.specs.declared.contents.Content.{Content}
use Rattle.scim_message.specs.declared.messages.Request.{Request}
use Rattle.scim_message.specs.declared.messages.Request.TheVariants.{Create, Retrieve, Search, Replace}
use Rattle.provider_core.specs.Stories.{Entry, story, first_entry, renewed, renew_at, step}
use Rattle.provider_core.specs.Tables.{IsWholeTable, Writes, Writes.nothing, Writes.created, Writes.replaced}
use Rattle.provider_core.proofs.TableLaws.{at_more, at_push, at_renew, go_on_at, go_on_staying, held_at, steps_write}
use Rattle.source_csv.specs.declared.rows.Row.{Row}
use Rattle.comparing.proofs.SameLemmas.{agrees_with_itself}
use Rattle.comparing.specs.Aspects.{is_same}
use Rattle.connector_core.specs.History.{History, rows_of}
use Rattle.connector_core.specs.Asking.{asking}
use Rattle.connector_core.specs.Book.{Book}
use Rattle.connector_core.specs.Learning.{shown_revision, learn, after_learning}
use Rattle.connector_core.specs.declared.accepting.Verdict.{Verdict}
use Rattle.connector_core.specs.declared.accepting.Verdict.TheVariants as verdicts
use Rattle.connector_core.specs.declared.asking.Ask.{Ask}
use Rattle.connector_core.specs.declared.asking.Ask.TheVariants.{Nothing, Waits, Send}
use Rattle.connector_core.specs.declared.changing.ChangeFault.{ChangeFault}
use Rattle.world_model.specs.Healing.{IsHealed, IsImageInAnyOrder, PromisedAgain}
use Rattle.world_model.specs.Invariant.{Names}
use Rattle.world_model.specs.Others.{Act, Ours, Theirs, acts, run_among, LeavesAlone, IsApart, KeepsApart}
use Rattle.world_model.specs.Safe.{IsAt, Has, IsImage, id_in}
use Rattle.world_model.specs.World.{World, Message, Asked, Answered, Event, Changes, Sends, Delivers, Cuts, Restarts_provider, Restarts_connector, Doubts, changes, sends, arrives, delivers, message_at, happens, judged, names}
use Rattle.world_model.proofs.Accepting.{rows_stay}
use Rattle.world_model.proofs.Durable.{Renews, AskedFairly, Durable, act_durable, run_durable, start_durable}
use Rattle.world_model.proofs.Growing.{Grows, image_grows, ids_grow}
use Rattle.world_model.proofs.Imaging.{image_more}
use Rattle.world_model.proofs.Invariant.{message_there}
use Rattle.world_model.proofs.Keeping.{step_grows, tag_is_last}
use Rattle.world_model.proofs.Lists.{last_has}

-- ---- from then on

-- each entry of these records holds an image, with its members in any order
abbrev pub Images : List RecordName → History → List Entry → Type 0
Images these history es = (i : ℕ) (e : Entry) → IsAt es i e → Has these e.name → IsImageInAnyOrder history es e.name e.held

abbrev pub HoldsImages : List RecordName → World → Type 0
HoldsImages these w = Images these w.history w.entries

pub like_image : (history : History) (es : List Entry) (name : RecordName) (content : Content) → IsImage history es name content → IsImageInAnyOrder history es name content
like_image history es name content is = record { row = is.row; accepted = is.accepted; content = content; imaged = is.image; same = agrees_with_itself content }

pub like_grows : (history : History) (es : List Entry) (history' : History) (fs : List Entry) → Grows history es history' fs → (name : RecordName) (held : Content) → IsImageInAnyOrder history es name held
    → IsImageInAnyOrder history' fs name held
like_grows history es history' fs grows name held is = record {
  row = is.row;
  accepted = grows.rows name is.row is.accepted;
  content = is.content;
  imaged = image_more (id_in es) (id_in fs) (ids_grow es fs grows.entries grows.whole) is.row is.content is.imaged;
  same = is.same;
}

pub healed_holds : (v : World) → Durable v → IsHealed v → HoldsImages (names v) v
healed_holds v t healed i e at has =
    let s = healed e.name has in
    let place : s.of_record.0.0 ≡ i = t.whole.distinct s.of_record.0.0 i s.entry e s.of_record.0.1 at s.of_record.1 in
    let there : IsAt v.entries i s.entry = subst (λ (k : ℕ). IsAt v.entries k s.entry) place s.of_record.0.1 in
    let entries : Some s.entry ≡ Some e = sym there ∙ at in
    let same : s.entry ≡ e = cc in
    record {
      row = s.known.wanted;
      accepted = last_has (rows_of v.history e.name) s.known.wanted s.wanted;
      content = s.content;
      imaged = s.imaged;
      same = ap (λ (x : Entry). is_same s.content x.held) (sym same) ∙ s.held;
    }

-- what a request writes of these records is fair
abbrev WritesFairly : List RecordName → History → List Entry → Request → Type 0
WritesFairly these history es (Create content) = Has these (content_name content) → IsImage history es (content_name content) content
WritesFairly these history es (Retrieve kind id if_match if_none_match) = Unit {0}
WritesFairly these history es (Search kind wanted start count) = Unit {0}
WritesFairly these history es (Replace id content if_match if_none_match) = Has these (content_name content) → Renews history es id content if_match

if_fair : (these : List RecordName) (history : History) (es : List Entry) (request : Request) → AskedFairly history es request → WritesFairly these history es request
if_fair these history es (Create content) asked = λ has. asked
if_fair these history es (Retrieve kind id if_match if_none_match) asked = tt
if_fair these history es (Search kind wanted start count) asked = tt
if_fair these history es (Replace id content if_match if_none_match) asked = λ has. asked

not_both : (b : Bool) → b ≡ true → b ≡ false → ⊥
not_both b is not = let clash : true ≡ false = sym is ∙ not in cc

if_left : (ours : Names) (these : List RecordName) (history : History) (es : List Entry) → ((name : RecordName) → Has these name → ours name ≡ true) → (request : Request) → LeavesAlone ours request
    → WritesFairly these history es request
if_left ours these history es mine (Create content) alone = λ has. absurd (not_both (ours (content_name content)) (mine (content_name content) has) alone)
if_left ours these history es mine (Retrieve kind id if_match if_none_match) alone = tt
if_left ours these history es mine (Search kind wanted start count) alone = tt
if_left ours these history es mine (Replace id content if_match if_none_match) alone = λ has. absurd (not_both (ours (content_name content)) (mine (content_name content) has) alone)

-- the entries of these records hold images, and no lower revisions than before
record Keeps (these : List RecordName) (history : History) (es fs : List Entry) : Type 0 where
  images : (i : ℕ) (e : Entry) → IsAt fs i e → Has these e.name → IsImageInAnyOrder history fs e.name e.held
  never_back : (i : ℕ) (e : Entry) → IsAt es i e → Has these e.name → (f : Entry) × IsAt fs i f × (f.name ≡ e.name) × (shown_revision e.held ≼ shown_revision f.held)

keeps_same : (these : List RecordName) (history : History) (es : List Entry) → Images these history es → Keeps these history es es
keeps_same these history es images = record { images = images; never_back = λ i e at has. (e, at, refl, reflexive_up_to (shown_revision e.held)) }

module _ (these : List RecordName) (history : History) (es : List Entry) (whole : IsWholeTable es) (images : Images these history es) where
  created_keeps : (content : Content) → Grows history es history (es ++ first_entry content ∷ []) → (Has these (content_name content) → IsImage history es (content_name content) content)
      → Keeps these history es (es ++ first_entry content ∷ [])
  created_keeps content grows fair = record {
    images = λ i e at has. elim (at_push es (first_entry content) i e at) [
      | inl old ↦ like_grows history es history (es ++ first_entry content ∷ []) grows e.name e.held (images i e old has)
      | inr new ↦ subst (λ (x : Entry). Has these x.name → IsImageInAnyOrder history (es ++ first_entry content ∷ []) x.name x.held) new.1
          (λ its. like_image history (es ++ first_entry content ∷ []) (content_name content) content (image_grows history es history (es ++ first_entry content ∷ []) grows (content_name content) content (fair its))) has
    ];
    never_back = λ i e at has. (e, at_more es (first_entry content ∷ []) i e at, refl, reflexive_up_to (shown_revision e.held));
  }

  module _ (i : ℕ) (e : Entry) (content : Content) (id : List ℕ) (if_match : Condition) (there : IsAt es i e) (named : e.name ≡ content_name content) (below : length (story e) < last_version)
      (holds : holds_match if_match (Some (length (story e))) ≡ true) (grows : Grows history es history (renew_at i content es)) (fair : Has these (content_name content) → Renews history es id content if_match) where
    abbrev after : List Entry
    after = renew_at i content es

    fair_here : Has these e.name → Renews history es id content if_match
    fair_here has = fair (subst (λ (n : RecordName). Has these n) named has)

    -- the version that the request is for is the current one
    not_lower : (asked : Renews history es id content if_match) → shown_revision e.held ≼ shown_revision content
    not_lower asked =
        let v = asked.version in
        let place : v.place ≡ i = whole.distinct v.place i v.entry e v.here there (v.of_record ∙ sym named) in
        let same : Some v.entry ≡ Some e = sym v.here ∙ ap (slice_get es) place ∙ there in
        let entry : v.entry ≡ e = cc in
        let held_there : IsAt (story e) v.turn v.content = subst (λ (x : Entry). IsAt (story x) v.turn v.content) entry v.held in
        let within = slice_get_within (story e) v.turn v.content held_there in
        let last = tag_is_last v.turn (length (story e)) asked.tag if_match asked.alone v.has_tag within (omega (arith, below)) holds in
        let turn : v.turn ≡ length e.earlier = omega (arith, last, length-append e.earlier (e.held ∷ [])) in
        let contents : Some v.content ≡ Some e.held = sym held_there ∙ ap (slice_get (story e)) turn ∙ held_at e in
        let its : v.content ≡ e.held = cc in
        subst (λ (r : RevisionValue). r ≼ shown_revision content) (sym v.at_revision ∙ ap shown_revision its) asked.not_below

    cases : (k : ℕ) (f : Entry) → IsAt after k f → IsAt es k f ⊎ (f ≡ renewed e content)
    cases k f at =
        let (d, here, which) = at_renew i content es k f at in
        elim which [
          | inl old ↦ inl (subst (λ (x : Entry). IsAt es k x) (sym old) here)
          | inr new ↦
              let same : Some d ≡ Some e = sym here ∙ ap (slice_get es) new.0 ∙ there in
              let entry : d ≡ e = cc in
              inr (new.1 ∙ ap (λ x. renewed x content) entry)
        ]

    renewed_image : Has these e.name → IsImageInAnyOrder history after e.name content
    renewed_image has =
        like_image history after e.name content (subst (λ (n : RecordName). IsImage history after n content) (sym named) (image_grows history es history after grows (content_name content) content (fair_here has).image))

    renewed_images : (k : ℕ) (f : Entry) → IsAt after k f → Has these f.name → IsImageInAnyOrder history after f.name f.held
    renewed_images k f at has = elim (cases k f at) [
      | inl old ↦ like_grows history es history after grows f.name f.held (images k f old has)
      | inr new ↦ subst (λ (x : Entry). Has these x.name → IsImageInAnyOrder history after x.name x.held) (sym new) renewed_image has
    ]

    renewed_never_back : (k : ℕ) (d : Entry) → IsAt es k d → Has these d.name → (f : Entry) × IsAt after k f × (f.name ≡ d.name) × (shown_revision d.held ≼ shown_revision f.held)
    renewed_never_back k d at has =
        let (f, after_at, goes) = go_on_at es after k d grows.entries at in (
          f,
          after_at,
          goes.name,
          elim (cases k f after_at) [
            | inl old ↦
                let same : Some d ≡ Some f = sym at ∙ old in
                let equal : d ≡ f = cc in
                subst (λ (x : Entry). shown_revision d.held ≼ shown_revision x.held) equal (reflexive_up_to (shown_revision d.held))
            | inr new ↦
                let of_e : e.name ≡ d.name = ap (λ (x : Entry). x.name) (sym new) ∙ goes.name in
                let place : i ≡ k = whole.distinct i k e d there at of_e in
                let entries : Some e ≡ Some d = sym there ∙ ap (slice_get es) place ∙ at in
                let equal : e ≡ d = cc in
                let up = not_lower (fair_here (subst (λ (n : RecordName). Has these n) (sym of_e) has)) in
                subst (λ (x : Entry). shown_revision x.held ≼ shown_revision f.held) equal (subst (λ (x : Entry). shown_revision e.held ≼ shown_revision x.held) (sym new) up)
          ],
        )

    replaced_keeps : Keeps these history es after
    replaced_keeps = record { images = renewed_images; never_back = renewed_never_back }

keeps_by : (these : List RecordName) (history : History) {es : List Entry} {request : Request} {fs : List Entry} → Writes es request fs → IsWholeTable es → Images these history es → Grows history es history fs
    → WritesFairly these history es request → Keeps these history es fs
keeps_by these history (nothing {es = es}) whole images grows fair = keeps_same these history es images
keeps_by these history (created {es = es} content free) whole images grows fair = created_keeps these history es whole images content grows fair
keeps_by these history (replaced {es = es} i e content m n there named below holds) whole images grows fair =
    replaced_keeps these history es whole images i e content (id_text (suc i)) m there named below holds grows fair

step_keeps : (these : List RecordName) (w : World) (request : Request) → Durable w → HoldsImages these w → WritesFairly these w.history w.entries request → Keeps these w.history w.entries (step w.entries request).entries
step_keeps these w request t images fair =
    keeps_by these w.history (steps_write w.entries request) t.whole images (step_grows w.history w.entries request t.whole) fair

-- one world after the other
record GoesWell (these : List RecordName) (w v : World) : Type 0 where
  images : HoldsImages these v
  never_back : (i : ℕ) (e : Entry) → IsAt w.entries i e → Has these e.name → (f : Entry) × IsAt v.entries i f × (f.name ≡ e.name) × (shown_revision e.held ≼ shown_revision f.held)

-- if the entries stay, and no row is lost
well_staying : (these : List RecordName) (w : World) (history : History) (book : Book) (messages : List Message) → Grows w.history w.entries history w.entries → HoldsImages these w
    → GoesWell these w (record { history = history; entries = w.entries; book = book; messages = messages })
well_staying these w history book messages grows images = record {
  images = λ i e at has. like_grows w.history w.entries history w.entries grows e.name e.held (images i e at has);
  never_back = λ i e at has. (e, at, refl, reflexive_up_to (shown_revision e.held));
}

same_grows : (w : World) → Durable w → Grows w.history w.entries w.history w.entries
same_grows w t = record { rows = λ name r has. has; entries = go_on_staying w.entries; whole = t.whole }

well_same : (these : List RecordName) (w : World) (book : Book) (messages : List Message) → Durable w → HoldsImages these w
    → GoesWell these w (record { history = w.history; entries = w.entries; book = book; messages = messages })
well_same these w book messages t images = well_staying these w w.history book messages (same_grows w t) images

well_step : (these : List RecordName) (w : World) (request : Request) (messages : List Message) → Durable w → HoldsImages these w → WritesFairly these w.history w.entries request
    → GoesWell these w (record { history = w.history; entries = (step w.entries request).entries; book = w.book; messages = messages })
well_step these w request messages t images fair = let k = step_keeps these w request t images fair in record { images = k.images; never_back = k.never_back }

changes_well : (these : List RecordName) (w : World) (row : Row) (v : Result Verdict ChangeFault) → Durable w → HoldsImages these w → GoesWell these w (changes w row v)
changes_well these w row (Ok verdicts.New) t images =
    let v = changes w row (Ok verdicts.New) in
    well_staying these w v.history v.book v.messages (record { rows = λ name r has. rows_stay w.history row name r has; entries = go_on_staying w.entries; whole = t.whole }) images
changes_well these w row (Ok verdicts.Known) t images = well_same these w w.book w.messages t images
changes_well these w row (Ok verdicts.Older) t images = well_same these w w.book w.messages t images
changes_well these w row (Err fault) t images = well_same these w w.book w.messages t images

sends_well : (these : List RecordName) (w : World) (o : Option Ask) → Durable w → HoldsImages these w → GoesWell these w (sends w o)
sends_well these w None t images = well_same these w w.book w.messages t images
sends_well these w (Some Nothing) t images = well_same these w w.book w.messages t images
sends_well these w (Some (Waits member)) t images = well_same these w w.book w.messages t images
sends_well these w (Some (Send request)) t images = well_same these w w.book (w.messages ++ Asked request ∷ []) t images

asked_well : (these : List RecordName) (w : World) (number : ℕ) (request : Request) → message_at w.messages number ≡ Some (Asked request) → Durable w → HoldsImages these w → GoesWell these w (arrives w (Asked request))
asked_well these w number request is t images =
    let (i, at) = message_there w.messages number (Asked request) is in
    well_step these w request (w.messages ++ Answered request (step w.entries request).answer ∷ []) t images (if_fair these w.history w.entries request (t.asked i request at))

delivers_well : (these : List RecordName) (w : World) (number : ℕ) (o : Option Message) → message_at w.messages number ≡ o → Durable w → HoldsImages these w → GoesWell these w (delivers w o)
delivers_well these w number None is t images = well_same these w w.book w.messages t images
delivers_well these w number (Some (Asked request)) is t images = asked_well these w number request is t images
delivers_well these w number (Some (Answered request answer)) is t images = well_same these w (after_learning w.book (learn w.book request answer)) w.messages t images

event_well : (these : List RecordName) (w : World) (event : Event) → Durable w → HoldsImages these w → GoesWell these w (happens w event)
event_well these w (Changes row) t images = changes_well these w row (judged w row) t images
event_well these w (Sends name) t images = sends_well these w (asking w.book name) t images
event_well these w (Delivers number) t images = delivers_well these w number (message_at w.messages number) refl t images
event_well these w (Cuts number length) t images = well_same these w w.book w.messages t images
event_well these w Restarts_provider t images = well_same these w w.book w.messages t images
event_well these w Restarts_connector t images = well_same these w (happens w Restarts_connector).book w.messages t images
event_well these w (Doubts name) t images = well_same these w (happens w (Doubts name)).book w.messages t images

module _ (ours : Names) (these : List RecordName) (mine : (name : RecordName) → Has these name → ours name ≡ true) where
  act_well : (w : World) (act : Act) → IsApart ours act → Durable w → HoldsImages these w → GoesWell these w (acts w act)
  act_well w (Ours event) apart t images = event_well these w event t images
  act_well w (Theirs request) alone t images = well_step these w request w.messages t images (if_left ours these w.history w.entries mine request alone)

  well_further : (w u v : World) → GoesWell these w u → GoesWell these u v → GoesWell these w v
  well_further w u v one two = record {
    images = two.images;
    never_back = λ i e at has.
        let (f, at_f, named_f, up_f) = one.never_back i e at has in
        let (g, at_g, named_g, up_g) = two.never_back i f at_f (subst (λ (n : RecordName). Has these n) (sym named_f) has) in
        (g, at_g, named_g ∙ named_f, transitive_up_to (shown_revision e.held) (shown_revision f.held) (shown_revision g.held) up_f up_g);
  }

  run_well : (w : World) (late : List Act) → KeepsApart ours late → Durable w → HoldsImages these w → GoesWell these w (run_among w late)
  run_well w [] apart t images = well_same these w w.book w.messages t images
  run_well w (act ∷ late) apart t images =
      let next = acts w act in
      let one = act_well w act apart.0 t images in
      well_further w next (run_among next late) one (run_well next late apart.1 (act_durable w act t) one.images)

pub promised_again : PromisedAgain
promised_again ours start early late is healed mine apart =
    let v = run_among start early in
    let t = run_durable start early (start_durable start is) in
    let well = run_well ours (names v) mine v late apart t (healed_holds v t healed) in
    let later = run_durable v late t in
    record { one_each = later.whole.distinct; images = λ e has its. well.images has.0 e has.1 its; never_back = well.never_back }
