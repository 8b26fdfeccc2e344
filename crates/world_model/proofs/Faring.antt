-- How our records fare over acts and resets: what we write is an image, and shows no lower revision than what it
-- replaces; whoever wrote that.
use Rattle.std.proofs.Common.{◌≡◌, ℕ, suc, ◌<◌, ◌≤◌, true, false, List, [], ◌∷◌, ◌++◌, length, Some, None, Option, Result, Ok, Err, ◌⊎◌, inl, inr, refl, ap, sym, ◌∙◌, subst, arith, length-append}
use Rattle.std.proofs.lemmas.Option.{slice_get_within}
use Rattle.std.specs.List.{slice_get}
use Rattle.scim_key.proofs.RevisionLaws.{reflexive_up_to, transitive_up_to}
use Rattle.scim_key.specs.Identifiers.{id_text}
use Rattle.scim_key.specs.Revisions.{RevisionValue, ◌≼◌}
use Rattle.scim_key.specs.declared.records.RecordName.{RecordName}
use Rattle.scim_version.specs.Conditions.{holds_match}
use Rattle.scim_version.specs.declared.conditions.Condition.{Condition}
use Rattle.scim_resource.specs.Contents.{content_name}
use Rattle.scim_resource.specs.Rows.{last_version}
use Rattle.scim_resource.specs.declared.contents.Content.{Content}
use Rattle.scim_message.specs.declared.messages.Request.{Request}
use Rattle.scim_message.specs.declared.messages.Request.TheVariants.{Create, Retrieve, Search, Replace}
use Rattle.provider_core.specs.Stories.{Entry, story, first_entry, renewed, renew_at, step}
use Rattle.provider_core.specs.Tables.{IsWholeTable, Writes, Writes.nothing, Writes.created, Writes.replaced}
use Rattle.provider_core.proofs.TableLaws.{at_more, at_one, at_push, at_renew, go_on_at, go_on_further, go_on_staying, held_at, steps_write}
use Rattle.source_csv.specs.declared.rows.Row.{Row}
use Rattle.connector_core.specs.History.{History}
use Rattle.connector_core.specs.Asking.{asking}
use Rattle.connector_core.specs.Learning.{shown_revision}
use Rattle.connector_core.specs.declared.accepting.Verdict.{Verdict}
use Rattle.connector_core.specs.declared.accepting.Verdict.TheVariants as verdicts
use Rattle.connector_core.specs.declared.asking.Ask.{Ask}
use Rattle.connector_core.specs.declared.asking.Ask.TheVariants.{Nothing, Waits, Send}
use Rattle.connector_core.specs.declared.changing.ChangeFault.{ChangeFault}
use Rattle.world_model.specs.Invariant.{Names}
use Rattle.world_model.specs.Others.{Act, Ours, Theirs, acts, LeavesAlone, IsApart}
use Rattle.world_model.specs.Safe.{IsAt, IsImage}
use Rattle.world_model.specs.World.{World, Message, Asked, Answered, Event, Changes, Sends, Delivers, Cuts, Restarts_provider, Restarts_connector, Doubts, changes, sends, delivers, message_at, happens, judged}
use Rattle.world_model.proofs.Accepting.{rows_stay}
use Rattle.world_model.proofs.Durable.{Renews, AskedFairly, Durable}
use Rattle.world_model.proofs.Growing.{Grows, image_grows}
use Rattle.world_model.proofs.Invariant.{message_there}
use Rattle.world_model.proofs.Keeping.{step_grows, tag_is_last}

-- the record at this place is there, and shows no lower revision
abbrev pub IsStillAt : List Entry → (place : ℕ) → Entry → Type 0
IsStillAt fs i e = (f : Entry) × IsAt fs i f × (f.name ≡ e.name) × (shown_revision e.held ≼ shown_revision f.held)

-- the content was in the story of the record at this place
abbrev pub WasIn : List Entry → (place : ℕ) → RecordName → (turn : ℕ) → Content → Type 0
WasIn es i name j c = (e : Entry) × IsAt es i e × (e.name ≡ name) × IsAt (story e) j c

-- no story is longer than versions are counted
abbrev pub AllShort : List Entry → Type 0
AllShort es = (i : ℕ) (e : Entry) → IsAt es i e → length (story e) ≤ last_version

-- From one table to a later one: our entries are as they were, or hold images; none is lost, or shows a lower revision
pub record Fares (ours : Names) (history : History) (es : List Entry) (history' : History) (fs : List Entry) : Type 0 where
  pub grows : Grows history es history' fs
  pub images : (i : ℕ) (f : Entry) → IsAt fs i f → ours f.name ≡ true → IsAt es i f ⊎ IsImage history' fs f.name f.held
  pub never_back : (i : ℕ) (e : Entry) → IsAt es i e → ours e.name ≡ true → IsStillAt fs i e
  pub stories : (i : ℕ) (f : Entry) (j : ℕ) (c : Content) → IsAt fs i f → ours f.name ≡ true → IsAt (story f) j c → WasIn es i f.name j c ⊎ IsImage history' fs f.name c
  pub short : AllShort es → AllShort fs

still_here : (es : List Entry) (i : ℕ) (e : Entry) → IsAt es i e → IsStillAt es i e
still_here es i e at = (e, at, refl, reflexive_up_to (shown_revision e.held))

pub fares_staying : (ours : Names) (history : History) (es : List Entry) (history' : History) → Grows history es history' es → Fares ours history es history' es
fares_staying ours history es history' grows = record {
  grows = grows;
  images = λ i f at mine. inl at;
  never_back = λ i e at mine. still_here es i e at;
  stories = λ i f j c at mine held. inl (f, at, refl, held);
  short = λ short. short;
}

pub fares_further : (ours : Names) (h1 : History) (es : List Entry) (h2 : History) (fs : List Entry) (h3 : History) (gs : List Entry) → Fares ours h1 es h2 fs → Fares ours h2 fs h3 gs → Fares ours h1 es h3 gs
fares_further ours h1 es h2 fs h3 gs one two = record {
  grows = record {
    rows = λ name row has. two.grows.rows name row (one.grows.rows name row has);
    entries = go_on_further es fs gs one.grows.entries two.grows.entries;
    whole = two.grows.whole;
  };
  images = λ i g at mine. elim (two.images i g at mine) [
    | inl old ↦ elim (one.images i g old mine) [
      | inl older ↦ inl older
      | inr image ↦ inr (image_grows h2 fs h3 gs two.grows g.name g.held image)
    ]
    | inr new ↦ inr new
  ];
  never_back = λ i e at mine.
      let (f, at_f, named_f, up_f) = one.never_back i e at mine in
      let (g, at_g, named_g, up_g) = two.never_back i f at_f (ap ours named_f ∙ mine) in
      (g, at_g, named_g ∙ named_f, transitive_up_to (shown_revision e.held) (shown_revision f.held) (shown_revision g.held) up_f up_g);
  stories = λ i g j c at mine held. elim (two.stories i g j c at mine held) [
    | inl old ↦ elim (one.stories i old.0 j c old.1 (ap ours old.2 ∙ mine) old.3) [
      | inl older ↦ inl (older.0, older.1, older.2 ∙ old.2, older.3)
      | inr image ↦ inr (subst (λ (n : RecordName). IsImage h3 gs n c) old.2 (image_grows h2 fs h3 gs two.grows old.0.name c image))
    ]
    | inr new ↦ inr new
  ];
  short = λ short. two.short (one.short short);
}

-- ---- what a request writes

-- what a request writes of our records is fair
abbrev OursFairly : Names → History → List Entry → Request → Type 0
OursFairly ours history es (Create content) = ours (content_name content) ≡ true → IsImage history es (content_name content) content
OursFairly ours history es (Retrieve kind id if_match if_none_match) = Unit {0}
OursFairly ours history es (Search kind wanted start count) = Unit {0}
OursFairly ours history es (Replace id content if_match if_none_match) = ours (content_name content) ≡ true → Renews history es id content if_match

asked_fairly : (ours : Names) (history : History) (es : List Entry) (request : Request) → AskedFairly history es request → OursFairly ours history es request
asked_fairly ours history es (Create content) asked = λ mine. asked
asked_fairly ours history es (Retrieve kind id if_match if_none_match) asked = tt
asked_fairly ours history es (Search kind wanted start count) asked = tt
asked_fairly ours history es (Replace id content if_match if_none_match) asked = λ mine. asked

left_alone : (ours : Names) (history : History) (es : List Entry) (request : Request) → LeavesAlone ours request → OursFairly ours history es request
left_alone ours history es (Create content) alone = λ mine. absurd (let clash : true ≡ false = sym mine ∙ alone in cc)
left_alone ours history es (Retrieve kind id if_match if_none_match) alone = tt
left_alone ours history es (Search kind wanted start count) alone = tt
left_alone ours history es (Replace id content if_match if_none_match) alone = λ mine. absurd (let clash : true ≡ false = sym mine ∙ alone in cc)

module _ (ours : Names) (history : History) (es : List Entry) (whole : IsWholeTable es) where
  created_fares : (content : Content) → Grows history es history (es ++ first_entry content ∷ []) → (ours (content_name content) ≡ true → IsImage history es (content_name content) content)
      → Fares ours history es history (es ++ first_entry content ∷ [])
  created_fares content grows fair = record {
    grows = grows;
    images = λ i f at mine. elim (at_push es (first_entry content) i f at) [
      | inl old ↦ inl old
      | inr new ↦ inr (subst (λ (x : Entry). ours x.name ≡ true → IsImage history (es ++ first_entry content ∷ []) x.name x.held) new.1
          (λ its. image_grows history es history (es ++ first_entry content ∷ []) grows (content_name content) content (fair its)) mine)
    ];
    never_back = λ i e at mine. (e, at_more es (first_entry content ∷ []) i e at, refl, reflexive_up_to (shown_revision e.held));
    stories = λ i f j c at mine held. elim (at_push es (first_entry content) i f at) [
      | inl old ↦ inl (f, old, refl, held)
      | inr new ↦ inr (subst (λ (x : Entry). ours x.name ≡ true → IsAt (story x) j c → IsImage history (es ++ first_entry content ∷ []) x.name c) new.1
          (λ its in_first. subst (λ (x : Content). IsImage history (es ++ first_entry content ∷ []) (content_name content) x) (at_one content j c in_first)
          (image_grows history es history (es ++ first_entry content ∷ []) grows (content_name content) content (fair its))) mine held)
    ];
    short = λ short i f at. elim (at_push es (first_entry content) i f at) [
      | inl old ↦ short i f old
      | inr new ↦ subst (λ (x : Entry). length (story x) ≤ last_version) new.1 (omega arith)
    ];
  }

  module _ (i : ℕ) (e : Entry) (content : Content) (id : List ℕ) (if_match : Condition) (there : IsAt es i e) (named : e.name ≡ content_name content) (below : length (story e) < last_version)
      (holds : holds_match if_match (Some (length (story e))) ≡ true) (grows : Grows history es history (renew_at i content es)) (fair : ours (content_name content) ≡ true → Renews history es id content if_match) where
    abbrev after : List Entry
    after = renew_at i content es

    fair_here : ours e.name ≡ true → Renews history es id content if_match
    fair_here mine = fair (ap ours (sym named) ∙ mine)

    -- the version that the request is for is the current one
    not_lower : (asked : Renews history es id content if_match) → shown_revision e.held ≼ shown_revision content
    not_lower asked =
        let v = asked.version in
        let place : v.place ≡ i = whole.distinct v.place i v.entry e v.here there (v.of_record ∙ sym named) in
        let same : Some v.entry ≡ Some e = sym v.here ∙ ap (slice_get es) place ∙ there in
        let entry : v.entry ≡ e = cc in
        let held_there : IsAt (story e) v.turn v.content = subst (λ (x : Entry). IsAt (story x) v.turn v.content) entry v.held in
        let within = slice_get_within (story e) v.turn v.content held_there in
        let last = tag_is_last v.turn (length (story e)) asked.tag if_match asked.alone v.has_tag within (omega (arith, below)) holds in
        let turn : v.turn ≡ length e.earlier = omega (arith, last, length-append e.earlier (e.held ∷ [])) in
        let contents : Some v.content ≡ Some e.held = sym held_there ∙ ap (slice_get (story e)) turn ∙ held_at e in
        let its : v.content ≡ e.held = cc in
        subst (λ (r : RevisionValue). r ≼ shown_revision content) (sym v.at_revision ∙ ap shown_revision its) asked.not_below

    cases : (k : ℕ) (f : Entry) → IsAt after k f → IsAt es k f ⊎ ((k ≡ i) × (f ≡ renewed e content))
    cases k f at =
        let (d, here, which) = at_renew i content es k f at in
        elim which [
          | inl old ↦ inl (subst (λ (x : Entry). IsAt es k x) (sym old) here)
          | inr new ↦
              let same : Some d ≡ Some e = sym here ∙ ap (slice_get es) new.0 ∙ there in
              let entry : d ≡ e = cc in
              inr (new.0, new.1 ∙ ap (λ x. renewed x content) entry)
        ]

    renewed_image : ours e.name ≡ true → IsImage history after e.name content
    renewed_image mine = subst (λ (n : RecordName). IsImage history after n content) (sym named) (image_grows history es history after grows (content_name content) content (fair_here mine).image)

    renewed_back : (k : ℕ) (d : Entry) → IsAt es k d → ours d.name ≡ true → IsStillAt after k d
    renewed_back k d at mine =
        let (f, after_at, goes) = go_on_at es after k d grows.entries at in (
          f,
          after_at,
          goes.name,
          elim (cases k f after_at) [
            | inl old ↦
                let same : Some d ≡ Some f = sym at ∙ old in
                let equal : d ≡ f = cc in
                subst (λ (x : Entry). shown_revision d.held ≼ shown_revision x.held) equal (reflexive_up_to (shown_revision d.held))
            | inr new ↦
                let of_e : e.name ≡ d.name = ap (λ (x : Entry). x.name) (sym new.1) ∙ goes.name in
                let place : i ≡ k = whole.distinct i k e d there at of_e in
                let entries : Some e ≡ Some d = sym there ∙ ap (slice_get es) place ∙ at in
                let equal : e ≡ d = cc in
                let up = not_lower (fair_here (ap ours of_e ∙ mine)) in
                subst (λ (x : Entry). shown_revision x.held ≼ shown_revision f.held) equal (subst (λ (x : Entry). shown_revision e.held ≼ shown_revision x.held) (sym new.1) up)
          ],
        )

    renewed_story : (k : ℕ) → k ≡ i → (j : ℕ) (c : Content) → ours e.name ≡ true → IsAt (story e ++ content ∷ []) j c → WasIn es k e.name j c ⊎ IsImage history after e.name c
    renewed_story k place j c mine held = elim (at_push (story e) content j c held) [
      | inl old ↦ inl (e, ap (slice_get es) place ∙ there, refl, old)
      | inr last ↦ inr (subst (λ (x : Content). IsImage history after e.name x) last.1 (renewed_image mine))
    ]

    replaced_fares : Fares ours history es history after
    replaced_fares = record {
      grows = grows;
      images = λ k f at mine. elim (cases k f at) [
        | inl old ↦ inl old
        | inr new ↦ inr (subst (λ (x : Entry). ours x.name ≡ true → IsImage history after x.name x.held) (sym new.1) renewed_image mine)
      ];
      never_back = renewed_back;
      stories = λ k f j c at mine held. elim (cases k f at) [
        | inl old ↦ inl (f, old, refl, held)
        | inr new ↦ subst (λ (x : Entry). ours x.name ≡ true → IsAt (story x) j c → WasIn es k x.name j c ⊎ IsImage history after x.name c) (sym new.1) (renewed_story k new.0 j c) mine held
      ];
      short = λ short k f at. elim (cases k f at) [
        | inl old ↦ short k f old
        | inr new ↦ subst (λ (x : Entry). length (story x) ≤ last_version) (sym new.1) (omega (arith, below, length-append (story e) (content ∷ [])))
      ];
    }

fares_by : (ours : Names) (history : History) {es : List Entry} {request : Request} {fs : List Entry} → Writes es request fs → IsWholeTable es → Grows history es history fs
    → OursFairly ours history es request → Fares ours history es history fs
fares_by ours history (nothing {es = es}) whole grows fair = fares_staying ours history es history grows
fares_by ours history (created {es = es} content free) whole grows fair = created_fares ours history es whole content grows fair
fares_by ours history (replaced {es = es} i e content m n there named below holds) whole grows fair =
    replaced_fares ours history es whole i e content (id_text (suc i)) m there named below holds grows fair

pub step_fares : (ours : Names) (history : History) (es : List Entry) (request : Request) → IsWholeTable es → OursFairly ours history es request → Fares ours history es history (step es request).entries
step_fares ours history es request whole fair = fares_by ours history (steps_write es request) whole (step_grows history es request whole) fair

-- ---- every act

abbrev pub FaresOn : Names → World → World → Type 0
FaresOn ours w v = Fares ours w.history w.entries v.history v.entries

pub fares_same : (ours : Names) (w : World) → Durable w → Fares ours w.history w.entries w.history w.entries
fares_same ours w t = fares_staying ours w.history w.entries w.history (record { rows = λ name r has. has; entries = go_on_staying w.entries; whole = t.whole })

changes_fares : (ours : Names) (w : World) (row : Row) (v : Result Verdict ChangeFault) → Durable w → FaresOn ours w (changes w row v)
changes_fares ours w row (Ok verdicts.New) t =
    fares_staying ours w.history w.entries (changes w row (Ok verdicts.New)).history (record { rows = λ name r has. rows_stay w.history row name r has; entries = go_on_staying w.entries; whole = t.whole })
changes_fares ours w row (Ok verdicts.Known) t = fares_same ours w t
changes_fares ours w row (Ok verdicts.Older) t = fares_same ours w t
changes_fares ours w row (Err fault) t = fares_same ours w t

sends_fares : (ours : Names) (w : World) (o : Option Ask) → Durable w → FaresOn ours w (sends w o)
sends_fares ours w None t = fares_same ours w t
sends_fares ours w (Some Nothing) t = fares_same ours w t
sends_fares ours w (Some (Waits member)) t = fares_same ours w t
sends_fares ours w (Some (Send request)) t = fares_same ours w t

delivers_fares : (ours : Names) (w : World) (number : ℕ) (o : Option Message) → message_at w.messages number ≡ o → Durable w → FaresOn ours w (delivers w o)
delivers_fares ours w number None is t = fares_same ours w t
delivers_fares ours w number (Some (Asked request)) is t =
    let (i, at) = message_there w.messages number (Asked request) is in
    step_fares ours w.history w.entries request t.whole (asked_fairly ours w.history w.entries request (t.asked i request at))
delivers_fares ours w number (Some (Answered request answer)) is t = fares_same ours w t

event_fares : (ours : Names) (w : World) (event : Event) → Durable w → FaresOn ours w (happens w event)
event_fares ours w (Changes row) t = changes_fares ours w row (judged w row) t
event_fares ours w (Sends name) t = sends_fares ours w (asking w.book name) t
event_fares ours w (Delivers number) t = delivers_fares ours w number (message_at w.messages number) refl t
event_fares ours w (Cuts number length) t = fares_same ours w t
event_fares ours w Restarts_provider t = fares_same ours w t
event_fares ours w Restarts_connector t = fares_same ours w t
event_fares ours w (Doubts name) t = fares_same ours w t

pub act_fares : (ours : Names) (w : World) (act : Act) → IsApart ours act → Durable w → FaresOn ours w (acts w act)
act_fares ours w (Ours event) apart t = event_fares ours w event t
act_fares ours w (Theirs request) alone t = step_fares ours w.history w.entries request t.whole (left_alone ours w.history w.entries request alone)
