-- What is true of the provider's table, and that each request that was ever sent leaves it so.
use Rattle.std.proofs.Common.{◌≡◌, ℕ, zero, suc, ◌<◌, ◌≤◌, true, List, [], ◌∷◌, ◌++◌, length, Some, ◌⊎◌, inl, inr, ap, sym, ◌∙◌, subst, arith, length-append}
use Rattle.std.proofs.lemmas.Option.{slice_get_within}
use Rattle.std.specs.List.{slice_get}
use Rattle.scim_key.proofs.RevisionLaws.{reflexive_up_to}
use Rattle.scim_key.specs.Revisions.{RevisionValue, ◌≼◌}
use Rattle.scim_version.proofs.Versions.{has_version-alone}
use Rattle.scim_version.specs.Conditions.{holds_match}
use Rattle.scim_version.specs.Tags.{version_tag}
use Rattle.scim_version.specs.declared.conditions.Condition.{Condition}
use Rattle.scim_version.specs.declared.conditions.Condition.TheVariants.{Tags}
use Rattle.scim_resource.specs.Contents.{content_name}
use Rattle.scim_resource.specs.Rows.{last_version}
use Rattle.scim_resource.specs.declared.contents.Content.{Content}
use Rattle.scim_message.specs.declared.messages.Request.{Request}
use Rattle.scim_message.specs.declared.messages.Request.TheVariants.{Create, Retrieve, Search, Replace}
use Rattle.provider_core.specs.Stories.{Entry, story, first_entry, renewed, renew_at, step}
use Rattle.provider_core.specs.Tables.{IsWholeTable, Writes, Writes.nothing, Writes.created, Writes.replaced}
use Rattle.provider_core.proofs.StoryLaws.{stories_only_grow}
use Rattle.provider_core.proofs.TableLaws.{at_push, at_one, at_renew, held_at, steps_write, tables_stay_whole}
use Rattle.source_csv.specs.Records.{row_revision}
use Rattle.connector_core.specs.History.{History}
use Rattle.connector_core.specs.declared.keeps.Keeps.{Keeps}
use Rattle.connector_core.specs.declared.keeps.Keeps.TheVariants.{Revisions}
use Rattle.connector_core.specs.Learning.{content_revision}
use Rattle.world_model.specs.Safe.{IsAt, IsImage, StoryRises}
use Rattle.world_model.specs.Providers.{RisesAt, StoryRisesAt}
use Rattle.world_model.specs.Invariant.{Names, Kept, KeptAt, OverwritesAt, AskedTruly, AskedTrulyAt}
use Rattle.world_model.specs.Others.{LeavesAlone}
use Rattle.world_model.proofs.Growing.{Grows, image_grows}
use Rattle.world_model.proofs.Order.{rises_up_to, at_most_rising}

-- the revision of what an entry holds
pub held_revision : {keeps : Keeps} {ours : Names} (history : History) (es : List Entry) → KeptAt keeps ours history es → (i : ℕ) (e : Entry) → IsAt es i e → ours e.name ≡ true
    → (held : RevisionValue) × (content_revision e.held ≡ Some held)
held_revision history es kept i e at mine =
    let image = kept.imaged i (length e.earlier) e e.held at mine (held_at e) in
    (row_revision image.row, image.revision)

-- no content of a story has a higher revision than the one that is held
pub none_above_held_at : (keeps : Keeps) (e : Entry) → StoryRisesAt keeps (story e) → (j : ℕ) (c : Content) (r held : RevisionValue) → IsAt (story e) j c → content_revision c ≡ Some r
    → content_revision e.held ≡ Some held → r ≼ held
none_above_held_at keeps e rises j c r held at has_r has_held = elim (at_push e.earlier e.held j c at) [
  | inl old ↦ rises_up_to keeps r held (rises j (length e.earlier) c e.held r held (slice_get_within e.earlier j c old) at (held_at e) has_r has_held)
  | inr last ↦
      let same : Some held ≡ Some r = sym has_held ∙ ap content_revision last.1 ∙ has_r in
      let equal : held ≡ r = cc in
      subst (λ (x : RevisionValue). r ≼ x) (sym equal) (reflexive_up_to r)
]

-- one more content of a higher revision
push_rises : (keeps : Keeps) (contents : List Content) (content : Content) (newer : RevisionValue) → StoryRisesAt keeps contents → content_revision content ≡ Some newer
    → ((j : ℕ) (c : Content) (r : RevisionValue) → IsAt contents j c → content_revision c ≡ Some r → RisesAt keeps r newer) → StoryRisesAt keeps (contents ++ content ∷ [])
push_rises keeps contents content newer rises has_newer above i j c d r s lt at_c at_d has_r has_s = elim (at_push contents content j d at_d) [
  | inl old_d ↦ elim (at_push contents content i c at_c) [
    | inl old_c ↦ rises i j c d r s lt old_c old_d has_r has_s
    | inr new_c ↦ let within = slice_get_within contents j d old_d in absurd (omega (arith, lt, new_c.0, within))
  ]
  | inr new_d ↦ elim (at_push contents content i c at_c) [
    | inl old_c ↦
        let same : Some newer ≡ Some s = sym has_newer ∙ ap content_revision new_d.1 ∙ has_s in
        let equal : newer ≡ s = cc in
        subst (λ (x : RevisionValue). RisesAt keeps r x) equal (above i c r old_c has_r)
    | inr new_c ↦ absurd (omega (arith, lt, new_c.0, new_d.0))
  ]
]

one_rises : (keeps : Keeps) (content : Content) → StoryRisesAt keeps (content ∷ [])
one_rises keeps content zero zero c d r s lt at_c at_d has_r has_s = absurd (omega (arith, lt))
one_rises keeps content zero (suc j) c d r s lt at_c at_d has_r has_s = absurd (cc)
one_rises keeps content (suc i) j c d r s lt at_c at_d has_r has_s = absurd (cc)

-- ---- a Create

module _ {keeps : Keeps} {ours : Names} (history : History) (es : List Entry) (content : Content) (kept : KeptAt keeps ours history es)
    (asked : ours (content_name content) ≡ true → IsImage history es (content_name content) content) (grows : Grows history es history (es ++ first_entry content ∷ [])) where
  abbrev with_first : List Entry
  with_first = es ++ first_entry content ∷ []

  created_imaged : (i j : ℕ) (e : Entry) (c : Content) → IsAt with_first i e → ours e.name ≡ true → IsAt (story e) j c → IsImage history with_first e.name c
  created_imaged i j e c at mine held = elim (at_push es (first_entry content) i e at) [
    | inl old ↦ image_grows history es history with_first grows e.name c (kept.imaged i j e c old mine held)
    | inr new ↦ subst (λ (x : Entry). ours x.name ≡ true → IsAt (story x) j c → IsImage history with_first x.name c) new.1 (λ its in_first.
        subst (λ (x : Content). IsImage history with_first (content_name content) x) (at_one content j c in_first)
        (image_grows history es history with_first grows (content_name content) content (asked its))) mine held
  ]

  created_rises : (i : ℕ) (e : Entry) → IsAt with_first i e → ours e.name ≡ true → StoryRisesAt keeps (story e)
  created_rises i e at mine = elim (at_push es (first_entry content) i e at) [
    | inl old ↦ kept.rises i e old mine
    | inr new ↦ subst (λ (x : Entry). StoryRisesAt keeps (story x)) new.1 (one_rises keeps content)
  ]

  created_short : (i : ℕ) (e : Entry) → IsAt with_first i e → length (story e) ≤ last_version
  created_short i e at = elim (at_push es (first_entry content) i e at) [
    | inl old ↦ kept.short i e old
    | inr new ↦ subst (λ (x : Entry). length (story x) ≤ last_version) new.1 (omega arith)
  ]

  pub created_kept : KeptAt keeps ours history with_first
  created_kept = record { whole = grows.whole; rises = created_rises; imaged = created_imaged; short = created_short }

-- ---- a Replace

-- the condition holds of the version that the request is for, so that version is the current one
pub tag_is_last : (turn count : ℕ) (tag : List ℕ) (if_match : Condition) → if_match ≡ Tags (tag ∷ []) → tag ≡ version_tag (suc turn) → turn < count → count ≤ last_version
    → holds_match if_match (Some count) ≡ true → suc turn ≡ count
tag_is_last turn count tag if_match alone is within short holds =
    let P : Condition → Type 0 = λ m. holds_match m (Some count) ≡ true in
    let Q : List ℕ → Type 0 = λ t. holds_match (Tags (t ∷ [])) (Some count) ≡ true in
    (has_version-alone (suc turn) count (omega (arith, within, short)) (omega (arith, short))).0 (subst Q is (subst P alone holds))

-- the story of a record of ours
module _ {keeps : Keeps} {ours : Names} (history : History) (es : List Entry) (i : ℕ) (e : Entry) (content : Content) (if_match : Condition) (id : List ℕ) (kept : KeptAt keeps ours history es)
    (mine : ours e.name ≡ true) (asked : OverwritesAt keeps history es id content if_match) (there : IsAt es i e) (named : e.name ≡ content_name content) (below : length (story e) < last_version)
    (holds : holds_match if_match (Some (length (story e))) ≡ true) (grows : Grows history es history (renew_at i content es)) where
  -- the version that the request is for is the last of the entry's story
  overwritten : (held : RevisionValue) → content_revision e.held ≡ Some held → held ≡ asked.older
  overwritten held has_held =
      let v = asked.version in
      let place : v.place ≡ i = kept.whole.distinct v.place i v.entry e v.here there (v.of_record ∙ sym named) in
      let same : Some v.entry ≡ Some e = sym v.here ∙ ap (slice_get es) place ∙ there in
      let entry : v.entry ≡ e = cc in
      let held_there : IsAt (story e) v.turn v.content = subst (λ (x : Entry). IsAt (story x) v.turn v.content) entry v.held in
      let within = slice_get_within (story e) v.turn v.content held_there in
      let last = tag_is_last v.turn (length (story e)) asked.tag if_match asked.alone v.has_tag within (omega (arith, below)) holds in
      let turn : v.turn ≡ length e.earlier = omega (arith, last, length-append e.earlier (e.held ∷ [])) in
      let content_there : Some v.content ≡ Some e.held = sym held_there ∙ ap (slice_get (story e)) turn ∙ held_at e in
      let its : v.content ≡ e.held = cc in
      let revisions : Some held ≡ Some asked.older = sym has_held ∙ ap content_revision (sym its) ∙ v.at_revision in
      cc

  all_below : (j : ℕ) (c : Content) (r : RevisionValue) → IsAt (story e) j c → content_revision c ≡ Some r → RisesAt keeps r asked.newer
  all_below j c r at has_r =
      let (held, has_held) = held_revision history es kept i e there mine in
      let up = none_above_held_at keeps e (kept.rises i e there mine) j c r held at has_r has_held in
      at_most_rising keeps r asked.older asked.newer (subst (λ (x : RevisionValue). r ≼ x) (overwritten held has_held) up) asked.rises

  renewed_story_rises : StoryRisesAt keeps (story (renewed e content))
  renewed_story_rises = push_rises keeps (story e) content asked.newer (kept.rises i e there mine) asked.revision all_below

  story_imaged : (j : ℕ) (c : Content) → IsAt (story e ++ content ∷ []) j c → IsImage history (renew_at i content es) e.name c
  story_imaged j c at = elim (at_push (story e) content j c at) [
    | inl old ↦ image_grows history es history (renew_at i content es) grows e.name c (kept.imaged i j e c there mine old)
    | inr new ↦
        let P : Content → Type 0 = λ x. IsImage history (renew_at i content es) e.name x in
        subst P new.1 (subst (λ name. IsImage history (renew_at i content es) name content) (sym named)
        (image_grows history es history (renew_at i content es) grows (content_name content) content asked.image))
  ]

-- any story
module _ {keeps : Keeps} {ours : Names} (history : History) (es : List Entry) (i : ℕ) (e : Entry) (content : Content) (if_match : Condition) (id : List ℕ) (kept : KeptAt keeps ours history es)
    (asked : ours (content_name content) ≡ true → OverwritesAt keeps history es id content if_match) (there : IsAt es i e) (named : e.name ≡ content_name content)
    (below : length (story e) < last_version) (holds : holds_match if_match (Some (length (story e))) ≡ true) (grows : Grows history es history (renew_at i content es)) where
  asked_if_mine : ours e.name ≡ true → OverwritesAt keeps history es id content if_match
  asked_if_mine mine = asked (ap ours (sym named) ∙ mine)

  abbrev with_next : List Entry
  with_next = renew_at i content es

  -- an entry of the table before it, or this one gone on
  abbrev Cases : ℕ → Entry → Type 0
  Cases k f = IsAt es k f ⊎ (f ≡ renewed e content)

  cases : (k : ℕ) (f : Entry) → IsAt with_next k f → Cases k f
  cases k f at =
      let (d, here, which) = at_renew i content es k f at in
      elim which [
        | inl old ↦ inl (subst (λ (x : Entry). IsAt es k x) (sym old) here)
        | inr new ↦
            let same : Some d ≡ Some e = sym here ∙ ap (slice_get es) new.0 ∙ there in
            let entry : d ≡ e = cc in
            inr (new.1 ∙ ap (λ x. renewed x content) entry)
      ]

  renewed_rises : (k : ℕ) (f : Entry) → IsAt with_next k f → ours f.name ≡ true → StoryRisesAt keeps (story f)
  renewed_rises k f at mine = elim (cases k f at) [
    | inl old ↦ kept.rises k f old mine
    | inr new ↦ subst (λ (x : Entry). ours x.name ≡ true → StoryRisesAt keeps (story x)) (sym new)
        (λ its. renewed_story_rises history es i e content if_match id kept its (asked_if_mine its) there named below holds grows) mine
  ]

  renewed_imaged : (k j : ℕ) (f : Entry) (c : Content) → IsAt with_next k f → ours f.name ≡ true → IsAt (story f) j c → IsImage history with_next f.name c
  renewed_imaged k j f c at mine held = elim (cases k f at) [
    | inl old ↦ image_grows history es history with_next grows f.name c (kept.imaged k j f c old mine held)
    | inr new ↦ subst (λ (x : Entry). ours x.name ≡ true → IsAt (story x) j c → IsImage history with_next x.name c) (sym new)
        (λ its. story_imaged history es i e content if_match id kept its (asked_if_mine its) there named below holds grows j c) mine held
  ]

  renewed_short : (k : ℕ) (f : Entry) → IsAt with_next k f → length (story f) ≤ last_version
  renewed_short k f at = elim (cases k f at) [
    | inl old ↦ kept.short k f old
    | inr new ↦ subst (λ (x : Entry). length (story x) ≤ last_version) (sym new) (omega (arith, below, length-append (story e) (content ∷ [])))
  ]

  pub renewed_kept : KeptAt keeps ours history with_next
  renewed_kept = record { whole = grows.whole; rises = renewed_rises; imaged = renewed_imaged; short = renewed_short }

-- ---- every request

-- what a request writes of our records is asked truly
abbrev pub WritesTrulyAt : Keeps → Names → History → List Entry → Request → Type 0
WritesTrulyAt keeps ours history es (Create content) = ours (content_name content) ≡ true → IsImage history es (content_name content) content
WritesTrulyAt keeps ours history es (Retrieve kind id if_match if_none_match) = Unit {0}
WritesTrulyAt keeps ours history es (Search kind wanted start count) = Unit {0}
WritesTrulyAt keeps ours history es (Replace id content if_match if_none_match) = ours (content_name content) ≡ true → OverwritesAt keeps history es id content if_match

-- so it is if the connector asks, or if somebody else does and leaves our records alone
pub if_asked_at : (keeps : Keeps) (ours : Names) (history : History) (es : List Entry) (request : Request) → AskedTrulyAt keeps history es request → WritesTrulyAt keeps ours history es request
if_asked_at keeps ours history es (Create content) asked = λ mine. asked
if_asked_at keeps ours history es (Retrieve kind id if_match if_none_match) asked = tt
if_asked_at keeps ours history es (Search kind wanted start count) asked = tt
if_asked_at keeps ours history es (Replace id content if_match if_none_match) asked = λ mine. asked

pub if_alone_at : (keeps : Keeps) (ours : Names) (history : History) (es : List Entry) (request : Request) → LeavesAlone ours request → WritesTrulyAt keeps ours history es request
if_alone_at keeps ours history es (Create content) alone = λ mine. absurd (cc)
if_alone_at keeps ours history es (Retrieve kind id if_match if_none_match) alone = tt
if_alone_at keeps ours history es (Search kind wanted start count) alone = tt
if_alone_at keeps ours history es (Replace id content if_match if_none_match) alone = λ mine. absurd (cc)

kept_by : (keeps : Keeps) {ours : Names} (history : History) {es : List Entry} {request : Request} {fs : List Entry} → Writes es request fs → KeptAt keeps ours history es → WritesTrulyAt keeps ours history es request
    → Grows history es history fs → KeptAt keeps ours history fs
kept_by keeps history nothing kept asked grows = kept
kept_by keeps history (created {es = es} content free) kept asked grows = created_kept history es content kept asked grows
kept_by keeps history (replaced {es = es} i e content m n there named below holds) kept asked grows =
    renewed_kept history es i e content m _ kept asked there named below holds grows

pub step_grows : (history : History) (es : List Entry) (request : Request) → IsWholeTable es → Grows history es history (step es request).entries
step_grows history es request whole = record {
  rows = λ name row has. has;
  entries = stories_only_grow es request;
  whole = tables_stay_whole es request whole;
}

pub step_keeps_at : (keeps : Keeps) {ours : Names} (history : History) (es : List Entry) (request : Request) → KeptAt keeps ours history es → WritesTrulyAt keeps ours history es request
    → KeptAt keeps ours history (step es request).entries
step_keeps_at keeps history es request kept asked = kept_by keeps history (steps_write es request) kept asked (step_grows history es request kept.whole)

-- ---- with a provider that keeps revisions

pub none_above_held : (e : Entry) → StoryRises (story e) → (j : ℕ) (c : Content) (r held : RevisionValue) → IsAt (story e) j c → content_revision c ≡ Some r
    → content_revision e.held ≡ Some held → r ≼ held
none_above_held = none_above_held_at Revisions

abbrev pub WritesTruly : Names → History → List Entry → Request → Type 0
WritesTruly ours history es request = WritesTrulyAt Revisions ours history es request

pub if_asked : (ours : Names) (history : History) (es : List Entry) (request : Request) → AskedTruly history es request → WritesTruly ours history es request
if_asked = if_asked_at Revisions

pub if_alone : (ours : Names) (history : History) (es : List Entry) (request : Request) → LeavesAlone ours request → WritesTruly ours history es request
if_alone = if_alone_at Revisions

pub step_keeps : {ours : Names} (history : History) (es : List Entry) (request : Request) → Kept ours history es → WritesTruly ours history es request
    → Kept ours history (step es request).entries
step_keeps history es request kept asked = step_keeps_at Revisions history es request kept asked
