-- A provider that obeys no condition: what arrives in order is of no lower revision than what its record holds, so the
-- table stays as it is with versions.
use Rattle.std.proofs.Common.{◌≡◌, ℕ, suc, ◌<◌, true, List, [], ◌∷◌, ◌++◌, length, Some, ◌⊎◌, inl, inr, refl, ap, sym, ◌∙◌, subst, arith, length-append}
use Rattle.std.proofs.lemmas.Bool.{cases_order}
use Rattle.std.specs.List.{slice_get}
use Rattle.scim_key.proofs.RevisionLaws.{reflexive_up_to}
use Rattle.scim_key.specs.Identifiers.{id_text}
use Rattle.scim_key.specs.Revisions.{RevisionValue, ◌≼◌}
use Rattle.scim_version.proofs.Versions.{has_version-alone}
use Rattle.scim_version.specs.Conditions.{holds_match}
use Rattle.scim_version.specs.Tags.{version_tag}
use Rattle.scim_version.specs.declared.conditions.Condition.{Condition}
use Rattle.scim_version.specs.declared.conditions.Condition.TheVariants.{Tags}
use Rattle.scim_resource.specs.Contents.{content_name}
use Rattle.scim_resource.specs.Rows.{last_version}
use Rattle.scim_resource.specs.declared.contents.Content.{Content}
use Rattle.scim_message.specs.declared.messages.Request.{Request}
use Rattle.provider_core.specs.Stories.{Entry, story, first_entry}
use Rattle.provider_core.specs.Tables.{IsWholeTable, Writes, Writes.nothing, Writes.created, Writes.replaced}
use Rattle.provider_core.proofs.TableLaws.{at_more, at_one, at_push, at_renew, held_at}
use Rattle.source_csv.specs.Records.{row_revision}
use Rattle.connector_core.specs.History.{History}
use Rattle.connector_core.specs.declared.keeps.Keeps.TheVariants.{Versions}
use Rattle.connector_core.specs.Learning.{content_revision}
use Rattle.world_model.specs.World.{Message, Asked}
use Rattle.world_model.specs.Safe.{IsAt, Has, IsImage}
use Rattle.world_model.specs.Untroubled.{request_content}
use Rattle.world_model.specs.Invariant.{Names, KeptAt, OverwritesAt}
use Rattle.world_model.specs.Unversioned.{IsLastOf}
use Rattle.world_model.proofs.Growing.{Grows}
use Rattle.world_model.proofs.Keeping.{held_revision, created_kept, renewed_kept}

-- no content of the record is of a higher revision than this one
abbrev pub IsTop : List Entry → Content → Type 0
IsTop es content = (e : Entry) (c : Content) (r s : RevisionValue) → Has es e → e.name ≡ content_name content → Has (story e) c
    → content_revision c ≡ Some r → content_revision content ≡ Some s → r ≼ s

-- what a request writes is an image, and no content of its record is of a higher revision
abbrev pub WritesAtTop : History → List Entry → Request → Type 0
WritesAtTop history es request = (content : Content) → request_content request ≡ Some content → IsImage history es (content_name content) content × IsTop es content

-- ---- the table

-- only the version that the entry has now meets this condition
abbrev current : Entry → Condition
current e = Tags (version_tag (length (story e)) ∷ [])

is_current : (e : Entry) → length (story e) < last_version → holds_match (current e) (Some (length (story e))) ≡ true
is_current e below = (has_version-alone (length (story e)) (length (story e)) (omega (arith, below)) (omega (arith, below))).1 refl

-- a Replace does what one under that condition does
overwrites : {ours : Names} (history : History) (es : List Entry) (i : ℕ) (e : Entry) (content : Content) → KeptAt Versions ours history es → ours (content_name content) ≡ true → IsAt es i e
    → e.name ≡ content_name content → IsImage history es (content_name content) content → IsTop es content → OverwritesAt Versions history es (id_text (suc i)) content (current e)
overwrites {ours} history es i e content kept mine there named image top =
    let (held, has_held) = held_revision history es kept i e there (ap ours named ∙ mine) in
    let count : length (story e) ≡ suc (length e.earlier) = omega (arith, length-append e.earlier (e.held ∷ [])) in
    record {
      image = image;
      tag = version_tag (length (story e));
      alone = refl;
      older = held;
      newer = row_revision image.row;
      version = record {
        place = i;
        turn = length e.earlier;
        entry = e;
        content = e.held;
        here = there;
        of_record = named;
        held = held_at e;
        has_id = refl;
        has_tag = ap version_tag count;
        at_revision = has_held;
      };
      revision = image.revision;
      rises = top e e.held held (row_revision image.row) (i, there) named (length e.earlier, held_at e) has_held image.revision;
    }

pub top_kept : {ours : Names} (history : History) {es : List Entry} {request : Request} {fs : List Entry} → Writes es request fs → KeptAt Versions ours history es → WritesAtTop history es request
    → Grows history es history fs → KeptAt Versions ours history fs
top_kept history nothing kept writes grows = kept
top_kept history (created {es = es} content free) kept writes grows = created_kept history es content kept (λ mine. (writes content refl).0) grows
top_kept history (replaced {es = es} i e content m n there named below holds) kept writes grows =
    let now = writes content refl in
    renewed_kept history es i e content (current e) (id_text (suc i)) kept (λ mine. overwrites history es i e content kept mine there named now.0 now.1) there named below (is_current e below) grows

-- ---- what is last is at the top

abbrev pub LastAreTop : List Entry → List Message → Type 0
LastAreTop es messages = (place : ℕ) (request : Request) (content : Content) → IsAt messages place (Asked request) → request_content request ≡ Some content
    → IsLastOf messages place request → IsTop es content

-- one more message
pub top_push : (es : List Entry) (messages : List Message) (message : Message) → LastAreTop es messages
    → ((request : Request) (content : Content) → message ≡ Asked request → request_content request ≡ Some content → IsTop es content) → LastAreTop es (messages ++ message ∷ [])
top_push es messages message tops new place request content at writes last = elim (at_push messages message place (Asked request) at) [
  | inl old ↦ tops place request content old writes
      (λ later other c d after at_other. last later other c d after (at_more messages (message ∷ []) later (Asked other) at_other))
  | inr now ↦ new request content now.1 writes
]

-- what a record held before
abbrev HeldBefore : List Entry → Entry → Content → Type 0
HeldBefore es f c = (e : Entry) × Has es e × (e.name ≡ f.name) × Has (story e) c

-- what a record holds after a request was there before, or the request wrote it
held_or_written : {es : List Entry} {request : Request} {fs : List Entry} → Writes es request fs → (f : Entry) (c : Content) → Has fs f → Has (story f) c
    → HeldBefore es f c ⊎ (request_content request ≡ Some c)
held_or_written nothing f c has in_story = inl (f, has, refl, in_story)
held_or_written (created {es = es} content free) f c has in_story = elim (at_push es (first_entry content) has.0 f has.1) [
  | inl old ↦ inl (f, (has.0, old), refl, in_story)
  | inr new ↦ inr (ap Some (at_one content in_story.0 c (subst (λ (x : Entry). IsAt (story x) in_story.0 c) (sym new.1) in_story.1)))
]
held_or_written (replaced {es = es} place d content m n there named below holds) f c has in_story =
    let (e, here, which) = at_renew place content es has.0 f has.1 in
    elim which [
      | inl same ↦ inl (e, (has.0, here), ap (λ (x : Entry). x.name) (sym same), (in_story.0, subst (λ (x : Entry). IsAt (story x) in_story.0 c) same in_story.1))
      | inr new ↦ elim (at_push (story e) content in_story.0 c (subst (λ (x : Entry). IsAt (story x) in_story.0 c) new.1 in_story.1)) [
        | inl before ↦ inl (e, (has.0, here), ap (λ (x : Entry). x.name) (sym new.1), (in_story.0, before))
        | inr last ↦ inr (ap Some last.1)
      ]
    ]

same_content : (c d : Content) → Some c ≡ Some d → c ≡ d
same_content c d is = cc

same_request : (q r : Request) → Some (Asked q) ≡ Some (Asked r) → q ≡ r
same_request q r is = cc

-- the content isn't above what was asked last of its record
abbrev IsUpToLast : List Message → Content → Type 0
IsUpToLast messages c = (p : ℕ) (q : Request) (d : Content) (r s : RevisionValue) → IsAt messages p (Asked q) → request_content q ≡ Some d → IsLastOf messages p q → content_name c ≡ content_name d
    → content_revision c ≡ Some r → content_revision d ≡ Some s → r ≼ s

-- a request is carried out
module _ {es : List Entry} {request : Request} {fs : List Entry} (messages : List Message) (writes : Writes es request fs) (whole : IsWholeTable fs) (tops : LastAreTop es messages) where
  top_if : ((c : Content) → request_content request ≡ Some c → IsUpToLast messages c) → LastAreTop fs messages
  top_if up p q d at_q q_writes q_last f c r s has named in_story has_r has_s = elim (held_or_written writes f c has in_story) [
    | inl old ↦ tops p q d at_q q_writes q_last old.0 c r s old.1 (old.2 ∙ named) old.3 has_r has_s
    | inr new ↦ up c new p q d r s at_q q_writes q_last (whole.named has.0 in_story.0 f c has.1 in_story.1 ∙ named) has_r has_s
  ]

  -- the last request of a record arrives, and no content of that record exceeds its revision afterwards
  pub top_after : (place : ℕ) (asked : Request) → request_content request ≡ request_content asked → IsAt messages place (Asked asked) → IsLastOf messages place asked → LastAreTop fs messages
  top_after place asked carries at last = top_if (λ c is p. up_to_last c (sym carries ∙ is) p (cases_order p place))
    where
      -- two requests that are last of the same record are one
      up_to_last : (c : Content) → request_content asked ≡ Some c → (p : ℕ) → (p ≡ place) ⊎ ((p < place) ⊎ (place < p)) → (q : Request) (d : Content) (r s : RevisionValue) → IsAt messages p (Asked q)
          → request_content q ≡ Some d → IsLastOf messages p q → content_name c ≡ content_name d → content_revision c ≡ Some r → content_revision d ≡ Some s → r ≼ s
      up_to_last c is p (inl same) q d r s at_q q_writes q_last names has_r has_s =
          let one : q ≡ asked = same_request q asked (sym at_q ∙ ap (slice_get messages) same ∙ at) in
          let contents : d ≡ c = same_content d c (sym q_writes ∙ ap request_content one ∙ is) in
          let revisions : Some r ≡ Some s = sym has_r ∙ ap content_revision (sym contents) ∙ has_s in
          let equal : r ≡ s = cc in
          subst (λ (x : RevisionValue). r ≼ x) equal (reflexive_up_to r)
      up_to_last c is p (inr (inl before)) q d r s at_q q_writes q_last names has_r has_s = absurd (q_last place asked d c before at q_writes is (sym names))
      up_to_last c is p (inr (inr after)) q d r s at_q q_writes q_last names has_r has_s = absurd (last p q c d after at_q is q_writes names)

  -- so it does if the request writes no record that was ever asked for
  pub top_beside : ((c : Content) → request_content request ≡ Some c → (q : Request) (d : Content) → Has messages (Asked q) → request_content q ≡ Some d → content_name c ≡ content_name d → ⊥)
      → LastAreTop fs messages
  top_beside other = top_if (λ c is p q d r s at_q q_writes q_last names has_r has_s. absurd (other c is q d (p, at_q) q_writes names))
