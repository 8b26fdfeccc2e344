-- Learning by cases: what was learnt of one record, from a resource that an answer shows or from no resource.
use Rattle.std.proofs.Common.{◌≡◌, ℕ, ◌==◌, Bool, true, false, cond, not, List, [], ◌∷◌, Option, Some, None, Result, Ok, Err, refl, ap, sym, ◌∙◌, subst, inl, inr}
use Rattle.std.proofs.lemmas.Bool.{cases_Bool}
use Rattle.scim_key.specs.Outcome.{◌>>=◌}
use Rattle.scim_key.specs.Revisions.{RevisionValue, before, no_revision}
use Rattle.scim_key.specs.declared.records.RecordName.{RecordName}
use Rattle.scim_version.specs.declared.conditions.Condition.{Condition}
use Rattle.scim_resource.specs.Contents.{content_name}
use Rattle.scim_resource.specs.Rows.{ShownRecord, shown_under}
use Rattle.scim_resource.specs.declared.contents.Content.{Content}
use Rattle.scim_message.specs.declared.messages.Request.{Request}
use Rattle.scim_message.specs.declared.messages.Request.TheVariants.{Create, Retrieve, Search, Replace}
use Rattle.scim_message.specs.declared.messages.Answer.{Answer}
use Rattle.scim_message.specs.declared.messages.Answer.TheVariants.{Created, Found, Replaced, NotModified, Error}
use Rattle.scim_message.specs.declared.messages.Answer.TheVariants as answers
use Rattle.provider_core.specs.Tables.{shown_in}
use Rattle.source_csv.specs.Records.{row_revision}
use Rattle.connector_core.specs.History.{same_name}
use Rattle.connector_core.specs.Book.{Book, put}
use Rattle.connector_core.specs.Keeps.{asked_lesson, carried, filling, heard, learn_at, lesson_at, lesson_under, no_version, only_seen, shown_with, standing_for, unseen}
use Rattle.connector_core.specs.declared.keeps.Keeps.{Keeps}
use Rattle.connector_core.specs.declared.keeps.Keeps.TheVariants.{Revisions, Versions}
use Rattle.connector_core.proofs.Standing.{finding_with, passed, said_with, steps_of, through, under_no_tag, was_asked, was_seen, was_there}
use Rattle.world_model.proofs.Hearing.{name_with, revision_with}
use Rattle.connector_core.specs.Learning.{or_fault, fault_unless, Finding, Shows, Shows_none, Taken, Stale, Sight, fit, fits_id, listed, sighted, none_sighted, is_wanted, shown_revision, fit_differing, differing, agreeing, compared, shown_lesson, forgetting, is_absent, is_under, Lesson, lesson, finding, subject, content_revision, Learning, noted}
use Rattle.connector_core.specs.declared.knowledge.Known.{Known}
use Rattle.connector_core.specs.declared.learning.LearnFault.{LearnFault}
use Rattle.connector_core.specs.declared.learning.LearnFault.TheVariants.{Unfit, Unversioned, NoSuchRecord}
use Rattle.world_model.specs.Safe.{IsAt}

-- ---- a resource in sight

-- what `fit` tested of a shown resource
pub record Fits (name : RecordName) (known : Known) (s : ShownRecord) (sight : Sight) : Type 0 where
  pub named : same_name name (content_name s.content) ≡ true
  pub its_id : fits_id known.id s.id ≡ true
  pub revision : content_revision s.content ≡ Some sight.revision
  pub within : not (before (row_revision known.wanted) sight.revision) ≡ true
  pub tag : s.version ≡ Some sight.tag
  pub id : sight.id ≡ s.id

-- the steps of `fit`, each after the one before
abbrev pub at_tag : ShownRecord → RevisionValue → List ℕ → Result Sight LearnFault
at_tag s revision tag = Ok (record { id = s.id; revision = revision; tag = tag })

abbrev pub at_within : ShownRecord → RevisionValue → Bool → Result Sight LearnFault
at_within s revision _ = or_fault Unversioned s.version >>= at_tag s revision

abbrev pub at_revision : Known → ShownRecord → RevisionValue → Result Sight LearnFault
at_revision known s revision = fault_unless Unfit (not (before (row_revision known.wanted) revision)) >>= at_within s revision

abbrev pub at_id : Known → ShownRecord → Bool → Result Sight LearnFault
at_id known s _ = or_fault Unfit (content_revision s.content) >>= at_revision known s

abbrev pub at_name : Known → ShownRecord → Bool → Result Sight LearnFault
at_name known s _ = fault_unless Unfit (fits_id known.id s.id) >>= at_id known s

module _ (name : RecordName) (known : Known) (s : ShownRecord) (sight : Sight) where
  pub fit_tested : fit name known s ≡ Ok sight → Fits name known s sight
  fit_tested is =
      let (b, named, after_name) = through (fault_unless Unfit (same_name name (content_name s.content))) (at_name known s) sight is in
      let (c, has_id, after_id) = through (fault_unless Unfit (fits_id known.id s.id)) (at_id known s) sight after_name in
      let (revision, has_revision, after_revision) = through (or_fault Unfit (content_revision s.content)) (at_revision known s) sight after_id in
      let (d, not_above, after_within) = through (fault_unless Unfit (not (before (row_revision known.wanted) revision))) (at_within s revision) sight after_revision in
      let (tag, has_tag, made) = through (or_fault Unversioned s.version) (at_tag s revision) sight after_within in
      let seen : record { id = s.id; revision = revision; tag = tag } ≡ sight = cc in
      let P : Sight → Type 0 = λ x. Fits name known s x in
      subst P seen (record {
        named = passed Unfit (same_name name (content_name s.content)) b named;
        its_id = passed Unfit (fits_id known.id s.id) c has_id;
        revision = was_there Unfit (content_revision s.content) revision has_revision;
        within = passed Unfit (not (before (row_revision known.wanted) revision)) d not_above;
        tag = was_there Unversioned s.version tag has_tag;
        id = refl;
      })

-- ---- what an answer says

listed_shows : (total : ℕ) (resources : List ShownRecord) (s : ShownRecord) → listed total resources ≡ Ok (Shows s) → IsAt resources 0 s
listed_shows total [] s is = elim (cases_Bool (total == 0)) [
  | inl e ↦ absurd (cc (rw e at is))
  | inr e ↦ absurd (cc (rw e at is))
]
listed_shows total (x ∷ []) s is = elim (cases_Bool (total == 1)) [
  | inl e ↦ let same : Ok (Shows x) ≡ Ok (Shows s) = rw e at is in cc
  | inr e ↦ absurd (cc (rw e at is))
]
listed_shows total (x ∷ y ∷ more) s is = absurd (cc)

pub refusal_shows_none : (b : Bool) (said : Finding) (fault : LearnFault) (s : ShownRecord) → (said ≡ Shows s → ⊥) → cond b (Ok said) (Err fault) ≡ Ok (Shows s) → ⊥
refusal_shows_none true said fault s other is = other (cc)
refusal_shows_none false said fault s other is = cc

-- the resource that an answer is taken to show is the first in it
pub shows_first : (request : Request) (answer : Answer) (s : ShownRecord) → finding request answer ≡ Ok (Shows s) → IsAt (shown_in answer) 0 s
shows_first (Create content) (Created x) s is = cc
shows_first (Create content) (Found x) s is = absurd (cc)
shows_first (Create content) (Replaced x) s is = absurd (cc)
shows_first (Create content) (answers.List list) s is = absurd (cc)
shows_first (Create content) (NotModified kind id version) s is = absurd (cc)
shows_first (Create content) (Error error) s is = absurd (refusal_shows_none _ Taken _ s (λ e. cc) is)
shows_first (Retrieve kind id m n) answer s is = absurd (cc)
shows_first (Search kind wanted start count) (Created x) s is = absurd (cc)
shows_first (Search kind wanted start count) (Found x) s is = absurd (cc)
shows_first (Search kind wanted start count) (Replaced x) s is = absurd (cc)
shows_first (Search kind wanted start count) (answers.List list) s is = listed_shows list.total list.resources s is
shows_first (Search kind wanted start count) (NotModified k id version) s is = absurd (cc)
shows_first (Search kind wanted start count) (Error error) s is = absurd (cc)
shows_first (Replace id content m n) (Created x) s is = absurd (cc)
shows_first (Replace id content m n) (Found x) s is = absurd (cc)
shows_first (Replace id content m n) (Replaced x) s is = cc
shows_first (Replace id content m n) (answers.List list) s is = absurd (cc)
shows_first (Replace id content m n) (NotModified kind i version) s is = absurd (cc)
shows_first (Replace id content m n) (Error error) s is = absurd (refusal_shows_none _ (Stale m) _ s (λ e. cc) is)

-- what `fit_differing` tested of a shown resource that isn't as it is wanted
pub record Differs (book : Book) (name : RecordName) (known : Known) (s : ShownRecord) (sight : Sight) : Type 0 where
  pub doubted : known.is_doubted ≡ true
  pub other : is_wanted book known s.content ≡ false
  pub named : same_name name (content_name s.content) ≡ true
  pub revision : sight.revision ≡ shown_revision s.content
  pub within : not (before (row_revision known.wanted) (shown_revision s.content)) ≡ true
  pub tag : s.version ≡ Some sight.tag
  pub id : sight.id ≡ s.id

-- the steps of `fit_differing`
abbrev pub differing_within : ShownRecord → Bool → Result Sight LearnFault
differing_within s _ = or_fault Unversioned s.version >>= at_tag s (shown_revision s.content)

abbrev pub differing_named : Known → ShownRecord → Bool → Result Sight LearnFault
differing_named known s _ = fault_unless Unfit (not (before (row_revision known.wanted) (shown_revision s.content))) >>= differing_within s

module _ (book : Book) (name : RecordName) (known : Known) (s : ShownRecord) (sight : Sight) where
  differing_tested : known.is_doubted ≡ true → is_wanted book known s.content ≡ false → fit_differing name known s ≡ Ok sight → Differs book name known s sight
  differing_tested doubted other is =
      let (b, named, after_name) = through (fault_unless Unfit (same_name name (content_name s.content))) (differing_named known s) sight is in
      let (c, not_above, after_within) = through (fault_unless Unfit (not (before (row_revision known.wanted) (shown_revision s.content)))) (differing_within s) sight after_name in
      let (tag, has_tag, made) = through (or_fault Unversioned s.version) (at_tag s (shown_revision s.content)) sight after_within in
      let seen : record { id = s.id; revision = shown_revision s.content; tag = tag } ≡ sight = cc in
      let P : Sight → Type 0 = λ x. Differs book name known s x in
      subst P seen (record {
        doubted = doubted;
        other = other;
        named = passed Unfit (same_name name (content_name s.content)) b named;
        revision = refl;
        within = passed Unfit (not (before (row_revision known.wanted) (shown_revision s.content))) c not_above;
        tag = was_there Unversioned s.version tag has_tag;
        id = refl;
      })

-- ---- what is learnt about one record

-- what was tested of a resource that is only seen, where no revision is shown
pub record Unshown (keeps : Keeps) (name : RecordName) (s : ShownRecord) (tag : List ℕ) : Type 0 where
  pub kind : keeps ≡ Versions
  pub named : same_name name (content_name s.content) ≡ true
  pub revision : content_revision s.content ≡ Some no_revision
  pub tagged : s.version ≡ Some tag

-- a resource without a tag, where no revision is shown
pub record Untagged (keeps : Keeps) (s : ShownRecord) : Type 0 where
  pub kind : keeps ≡ Versions
  pub untagged : s.version ≡ None

-- The record's resource; of a doubted record one that is as it is wanted, or another; or one that is only seen. Without a
-- tag it isn't in sight
pub data LearnsShown (keeps : Keeps) (book : Book) (name : RecordName) (known : Known) : ShownRecord → Lesson → Type 0 where
  sees : {s : ShownRecord} (sight : Sight) → Fits name known s sight → LearnsShown keeps book name known s (sighted known sight)
  agrees : {s : ShownRecord} (tag : List ℕ) → is_wanted book known s.content ≡ true → s.version ≡ Some tag → LearnsShown keeps book name known s (agreeing known s.id tag)
  differs : {s : ShownRecord} (sight : Sight) → Differs book name known s sight → LearnsShown keeps book name known s (differing known sight)
  only : {s : ShownRecord} (tag : List ℕ) → Unshown keeps name s tag → LearnsShown keeps book name known s (differing known (record { id = s.id; revision = no_revision; tag = tag }))
  hides : {s : ShownRecord} {l : Lesson} → Untagged keeps s → LearnsShown keeps book name known (shown_under no_version s) l → LearnsShown keeps book name known s (unseen l)

-- where revisions are shown, nothing is only seen
pub never_only : {A : Type 0} {name : RecordName} {s : ShownRecord} {tag : List ℕ} → Unshown Revisions name s tag → A
never_only o = let wrong : Revisions ≡ Versions = o.kind in absurd (cc)

pub never_hidden : {A : Type 0} {s : ShownRecord} → Untagged Revisions s → A
never_hidden u = let wrong : Revisions ≡ Versions = u.kind in absurd (cc)

-- a resource in sight, nothing new, nothing there, or something forgotten
pub data Learns (keeps : Keeps) (book : Book) (name : RecordName) (known : Known) : Finding → Lesson → Type 0 where
  shows : (s : ShownRecord) (l : Lesson) → LearnsShown keeps book name known s l → Learns keeps book name known (Shows s) l
  misses : Learns keeps book name known Shows_none (none_sighted known.id known)
  is_taken : Learns keeps book name known Taken (forgetting (is_absent known.seen) known)
  is_stale : (if_match : Condition) → Learns keeps book name known (Stale if_match) (forgetting (is_under if_match known.seen) known)

module _ (keeps : Keeps) (book : Book) (name : RecordName) (known : Known) (s : ShownRecord) (l : Lesson) where
  compared_of : (wanted : Bool) → known.is_doubted ≡ true → is_wanted book known s.content ≡ wanted → compared wanted name known s ≡ Ok l → LearnsShown keeps book name known s l
  compared_of true doubted test is =
      let (tag, has, made) = through (or_fault Unversioned s.version) (λ x. Ok (agreeing known s.id x)) l is in
      let same : agreeing known s.id tag ≡ l = cc in
      subst (LearnsShown keeps book name known s) same (agrees tag test (was_there Unversioned s.version tag has))
  compared_of false doubted test is =
      let (sight, fits, made) = through (fit_differing name known s) (λ x. Ok (differing known x)) l is in
      let same : differing known sight ≡ l = cc in
      subst (LearnsShown keeps book name known s) same (differs sight (differing_tested book name known s sight doubted test fits))

  shown_of : (doubted : Bool) → known.is_doubted ≡ doubted
      → cond doubted (compared (is_wanted book known s.content) name known s) (fit name known s >>= λ sight. Ok (sighted known sight)) ≡ Ok l → LearnsShown keeps book name known s l
  shown_of true doubted is = compared_of (is_wanted book known s.content) doubted refl is
  shown_of false doubted is =
      let (sight, fits, made) = through (fit name known s) (λ x. Ok (sighted known x)) l is in
      let same : sighted known sight ≡ l = cc in
      subst (LearnsShown keeps book name known s) same (sees sight (fit_tested name known s sight fits))

  pub learns_shown : shown_lesson book name known s ≡ Ok l → LearnsShown keeps book name known s l
  learns_shown is = shown_of known.is_doubted refl is

-- what stands in the place of a shown resource
abbrev pub standing_at : Keeps → Request → ShownRecord → ShownRecord
standing_at Revisions request s = s
standing_at Versions request s = filling request s

abbrev pub said_at : Keeps → Request → Finding → Finding
said_at Revisions request said = said
said_at Versions request said = said_with (filling request) said

module _ (book : Book) (name : RecordName) (known : Known) where
  seen_of : (s : ShownRecord) (l : Lesson) → only_seen name known s ≡ Ok l → LearnsShown Versions book name known (shown_with (Some no_revision) s) l
  seen_of s l is =
      let (seen, made) = was_seen name known s l is in
      let as_none : ShownRecord = shown_with (Some no_revision) s in
      subst (LearnsShown Versions book name known as_none) (sym made)
      (only seen.tag (record { kind = refl; named = ap (same_name name) (name_with (Some no_revision) s.content) ∙ seen.named; revision = revision_with (Some no_revision) s.content; tagged = seen.tagged }))

  pub asked_shown : (c : Content) (s : ShownRecord) (l : Lesson) → asked_lesson book name known c s ≡ Ok l → LearnsShown Versions book name known (standing_for c s) l
  asked_shown c s l is = go s.version refl (was_asked book name known l c s is).1
    where
      go : (tag : Option (List ℕ)) → s.version ≡ tag → lesson_under tag book name known (standing_for c s) ≡ Ok l → LearnsShown Versions book name known (standing_for c s) l
      go (Some tag) has learns = learns_shown Versions book name known (standing_for c s) l learns
      go None none learns =
          let u = under_no_tag book name known (standing_for c s) l learns in
          let under : ShownRecord = shown_under no_version (standing_for c s) in
          subst (LearnsShown Versions book name known (standing_for c s)) u.is
          (hides (record { kind = refl; untagged = none }) (learns_shown Versions book name known under u.tagged u.learns))

  pub learns_at : (keeps : Keeps) (request : Request) (s : ShownRecord) (l : Lesson) → lesson_at keeps book name known (carried request) (Shows s) ≡ Ok l
      → LearnsShown keeps book name known (standing_at keeps request s) l
  learns_at Revisions request s l is = learns_shown Revisions book name known s l is
  learns_at Versions (Create c) s l is = asked_shown c s l is
  learns_at Versions (Retrieve kind id m n) s l is = seen_of s l is
  learns_at Versions (Search kind wanted start count) s l is = seen_of s l is
  learns_at Versions (Replace id c m n) s l is = asked_shown c s l is

  misses_of : (keeps : Keeps) (l : Lesson) → none_sighted known.id known ≡ l → Learns keeps book name known Shows_none l
  misses_of keeps l same = subst (Learns keeps book name known Shows_none) same misses

  taken_of : (keeps : Keeps) (l : Lesson) → forgetting (is_absent known.seen) known ≡ l → Learns keeps book name known Taken l
  taken_of keeps l same = subst (Learns keeps book name known Taken) same is_taken

  stale_of : (keeps : Keeps) (if_match : Condition) (l : Lesson) → forgetting (is_under if_match known.seen) known ≡ l → Learns keeps book name known (Stale if_match) l
  stale_of keeps if_match l same = subst (Learns keeps book name known (Stale if_match)) same (is_stale if_match)

  learns_of : (keeps : Keeps) (request : Request) (said : Finding) (l : Lesson) → lesson_at keeps book name known (carried request) said ≡ Ok l → Learns keeps book name known (said_at keeps request said) l
  learns_of Revisions request (Shows s) l is = shows s l (learns_at Revisions request s l is)
  learns_of Revisions request Shows_none l is = misses_of Revisions l (cc)
  learns_of Revisions request Taken l is = taken_of Revisions l (cc)
  learns_of Revisions request (Stale if_match) l is = stale_of Revisions if_match l (cc)
  learns_of Versions request (Shows s) l is = shows (filling request s) l (learns_at Versions request s l is)
  learns_of Versions request Shows_none l is = misses_of Versions l (cc)
  learns_of Versions request Taken l is = taken_of Versions l (cc)
  learns_of Versions request (Stale if_match) l is = stale_of Versions if_match l (cc)

abbrev pub taught : Book → RecordName → Known → Finding → Result Learning LearnFault
taught book name known said = lesson book name known said >>= λ l. Ok (noted book name l)

abbrev pub told : Book → Request → Answer → RecordName → Known → Result Learning LearnFault
told book request answer name known = finding request answer >>= taught book name known

abbrev pub told_of : Book → Request → Answer → RecordName → Result Learning LearnFault
told_of book request answer name = or_fault NoSuchRecord (book name) >>= told book request answer name

-- what an answer stands for says this
says_at : (keeps : Keeps) (request : Request) (answer : Answer) (said : Finding) → finding request answer ≡ Ok said → finding request (heard keeps request answer) ≡ Ok (said_at keeps request said)
says_at Revisions request answer said is = is
says_at Versions request answer said is = finding_with (filling request) request answer said is

-- an answer from which something is learnt: of one record, by a lesson
pub record Teaches (keeps : Keeps) (book : Book) (request : Request) (answer : Answer) (learning : Learning) : Type 0 where
  pub name : RecordName
  pub known : Known
  pub said : Finding
  pub teaches : Lesson
  pub about : subject request ≡ Some name
  pub in_book : book name ≡ Some known
  pub says : finding request (heard keeps request answer) ≡ Ok said
  pub learns : Learns keeps book name known said teaches
  pub book_after : learning.book ≡ put book name teaches.known
  -- what the answer itself says
  pub found : Finding
  pub finds : finding request answer ≡ Ok found
  pub stands : said ≡ said_at keeps request found
  pub taught_by : lesson_at keeps book name known (carried request) found ≡ Ok teaches

pub learnt_by : (keeps : Keeps) (book : Book) (request : Request) (answer : Answer) (learning : Learning) → learn_at keeps book request answer ≡ Ok learning → Teaches keeps book request answer learning
learnt_by keeps book request answer learning is =
    let t = steps_of keeps book request answer learning is in
    record {
      name = t.name;
      known = t.known;
      said = said_at keeps request t.said;
      teaches = t.lesson;
      about = t.about;
      in_book = t.in_book;
      says = says_at keeps request answer t.said t.says;
      learns = learns_of book t.name t.known keeps request t.said t.lesson t.teaches;
      book_after = ap (λ (x : Learning). x.book) (sym t.made);
      found = t.said;
      finds = t.says;
      stands = refl;
      taught_by = t.teaches;
    }
