-- What the connector knows of records, and that each event leaves it true.
use Rattle.std.proofs.Common.{◌≡◌, ◌≢◌, ◌⊎◌, ℕ, suc, Bool, true, false, cond, List, Option, Some, None, Result, Ok, Err, inl, inr, refl, ap, sym, ◌∙◌, subst}
use Rattle.std.proofs.lemmas.Bool.{cases_Bool, not-true}
use Rattle.std.specs.Option.{option_map}
use Rattle.scim_key.proofs.RevisionLaws.{none_first, reflexive_up_to, transitive, up_to_before, transitive_up_to, later_above_second, later_is_one}
use Rattle.scim_key.proofs.RecordLaws.{same as same_names}
use Rattle.scim_key.specs.Revisions.{RevisionValue, no_revision, later, ◌≺◌, ◌≼◌}
use Rattle.scim_key.specs.declared.records.RecordName.{RecordName}
use Rattle.scim_resource.specs.Contents.{content_name}
use Rattle.scim_version.specs.Tags.{version_tag}
use Rattle.scim_resource.specs.Rows.{ShownRecord, shown_under}
use Rattle.scim_message.specs.declared.messages.Request.{Request}
use Rattle.scim_message.specs.declared.messages.Answer.{Answer}
use Rattle.provider_core.specs.Stories.{Entry, AllGoOn}
use Rattle.provider_core.specs.Tables.{IsWholeTable, IsFact, shown_in}
use Rattle.source_csv.specs.Records.{row_name, row_revision}
use Rattle.source_csv.specs.declared.rows.Row.{Row}
use Rattle.connector_core.specs.History.{same_name}
use Rattle.connector_core.specs.Book.{Book, known_id, put, wanting, wanting_now, with_row, seeing, forgotten, undoubted, doubting, doubted, reopened}
use Rattle.connector_core.specs.Keeps.{heard, learn_at, no_version}
use Rattle.connector_core.specs.declared.keeps.Keeps.{Keeps}
use Rattle.connector_core.specs.declared.keeps.Keeps.TheVariants.{Revisions, Versions}
use Rattle.connector_core.specs.Learning.{Finding, Shows, Sight, sighted, seen_at, content_revision, is_wanted, or_no_revision, shown_revision, differing, absent, nothing_new, none_sighted, forgetting, is_absent, is_under, Lesson, Learning, after_learning}
use Rattle.connector_core.specs.declared.knowledge.Known.{Known}
use Rattle.connector_core.specs.declared.knowledge.Seen.{Seen}
use Rattle.connector_core.specs.declared.knowledge.Seen.TheVariants.{Unknown, Absent, At}
use Rattle.connector_core.specs.declared.learning.LearnFault.{LearnFault}
use Rattle.world_model.specs.Safe.{IsAt, id_in, IsVersion}
use Rattle.world_model.specs.Invariant.{HasVersion, InSightAt, Noted, NotedAt, AllNotedAt, StandsAt, StandsFor}
use Rattle.world_model.proofs.Order.{later_within}
use Rattle.world_model.proofs.Growing.{id_at, ids_grow, version_grows}
use Rattle.mapping.specs.Readiness.{GoesOn}
use Rattle.world_model.proofs.Comparing.{wanted_named, wanted_revised}
use Rattle.world_model.proofs.Hearing.{name_with, revision_with}
use Rattle.world_model.proofs.Making.{put_ids}
use Rattle.world_model.proofs.Learned.{LearnsShown, LearnsShown.sees, LearnsShown.agrees, LearnsShown.differs, LearnsShown.only, LearnsShown.hides, Learns, Learns.shows, Learns.misses, Learns.is_taken, Learns.is_stale, Teaches, learnt_by, never_hidden, never_only, shows_first}

-- ---- if the table goes on

version_stays : (es fs : List Entry) (name : RecordName) (id : Option (List ℕ)) (r : RevisionValue) → AllGoOn es fs → HasVersion es name id r → HasVersion fs name id r
version_stays es fs name id r all has = record { id = has.id; known = has.known; tag = has.tag; version = version_grows es fs name has.id has.tag r all has.version }

sight_stays : (keeps : Keeps) (es fs : List Entry) (name : RecordName) (known : Known) (id tag : List ℕ) (r : RevisionValue) → AllGoOn es fs → InSightAt keeps es name known id tag r
    → InSightAt keeps fs name known id tag r
sight_stays Revisions es fs name known id tag r all seen =
    record { version = version_grows es fs name id tag r all seen.version; counted = seen.counted; lower = seen.lower }
sight_stays Versions es fs name known id tag r all seen =
    record { held = seen.held; version = version_grows es fs name id tag seen.held all seen.version; from = seen.from; up = seen.up }

pub all_noted_grow : {keeps : Keeps} (es fs : List Entry) (book : Book) → AllGoOn es fs → IsWholeTable fs → AllNotedAt keeps es book → AllNotedAt keeps fs book
all_noted_grow {keeps} es fs book all whole noted name known is =
    let n = noted name known is in
    record {
      id = λ id has. ids_grow es fs all whole name id (n.id id has);
      confirmed = λ some. version_stays es fs name known.id known.confirmed all (n.confirmed some);
      within = n.within;
      seen = λ id tag r at. sight_stays keeps es fs name known id tag r all (n.seen id tag r at);
    }

-- ---- what is put into the book

pub put_noted : {keeps : Keeps} (es : List Entry) (book : Book) (name : RecordName) (now : Known) → AllNotedAt keeps es book → NotedAt keeps es name now → AllNotedAt keeps es (put book name now)
put_noted {keeps} es book name now noted here q known is = elim (cases_Bool (same_name name q)) [
  | inl e ↦
      let same : Some now ≡ Some known = rw e at is in
      let equal : now ≡ known = cc in
      subst (λ (x : RecordName). NotedAt keeps es x known) ((same_names name q).0 e) (subst (λ (x : Known). NotedAt keeps es name x) equal here)
  | inr e ↦ noted q known (rw e at is)
]

-- ---- a new row

abbrev IsAbove : Option Known → Row → Type 0
IsAbove o row = (known : Known) → o ≡ Some known → row_revision known.wanted ≺ row_revision row

sight_wanting : (keeps : Keeps) (es : List Entry) (name : RecordName) (known : Known) (row : Row) (id tag : List ℕ) (r : RevisionValue) → row_revision known.wanted ≺ row_revision row
    → InSightAt keeps es name known id tag r → InSightAt keeps es name (wanting_now row known) id tag r
sight_wanting Revisions es name known row id tag r above seen =
    record { version = seen.version; counted = seen.counted; lower = λ doubted. transitive r (row_revision known.wanted) (row_revision row) (seen.lower doubted) above }
sight_wanting Versions es name known row id tag r above seen = record {
  held = seen.held;
  version = seen.version;
  from = seen.from;
  up = transitive_up_to seen.held (row_revision known.wanted) (row_revision row) seen.up (up_to_before _ _ above);
}

wanting_noted : {keeps : Keeps} (es : List Entry) (name : RecordName) (o : Option Known) (row : Row) → IsAbove o row → ((known : Known) → o ≡ Some known → NotedAt keeps es name known)
    → NotedAt keeps es name (wanting o row)
wanting_noted es name None row above noted = record {
  id = λ id has. absurd (cc);
  confirmed = λ some. absurd (some refl);
  within = none_first (row_revision row);
  seen = λ id tag r at. absurd (cc);
}
wanting_noted {keeps} es name (Some known) row above noted =
    let n = noted known refl in
    record {
      id = n.id;
      confirmed = n.confirmed;
      within = transitive_up_to known.confirmed (row_revision known.wanted) (row_revision row) n.within (up_to_before _ _ (above known refl));
      seen = λ id tag r at. sight_wanting keeps es name known row id tag r (above known refl) (n.seen id tag r at);
    }

pub row_noted : {keeps : Keeps} (es : List Entry) (book : Book) (row : Row) → IsAbove (book (row_name row)) row → AllNotedAt keeps es book → AllNotedAt keeps es (with_row book row)
row_noted es book row above noted =
    put_noted es book (row_name row) (wanting (book (row_name row)) row) noted (wanting_noted es (row_name row) (book (row_name row)) row above (noted (row_name row)))

-- ---- a restart, and a doubt

abbrev IsNoSight : Seen → Type 0
IsNoSight seen = (id tag : List ℕ) (r : RevisionValue) → seen ≡ At id tag r → ⊥

unknown_no_sight : IsNoSight Unknown
unknown_no_sight id tag r at = absurd (cc)

absent_no_sight : IsNoSight Absent
absent_no_sight id tag r at = absurd (cc)

-- nothing is in sight
seeing_noted : {keeps : Keeps} (es : List Entry) (name : RecordName) (seen : Seen) (doubted : Bool) (known : Known) → IsNoSight seen → NotedAt keeps es name known → NotedAt keeps es name (seeing seen doubted known)
seeing_noted es name seen doubted known none n = record { id = n.id; confirmed = n.confirmed; within = n.within; seen = λ id tag r at. absurd (none id tag r at) }

forgotten_noted : {keeps : Keeps} (es : List Entry) (name : RecordName) (known : Known) → NotedAt keeps es name known → NotedAt keeps es name (forgotten known)
forgotten_noted es name known n = seeing_noted es name Unknown known.is_doubted known unknown_no_sight n

reopened_one : {keeps : Keeps} (es : List Entry) (name : RecordName) (o : Option Known) (known : Known) → ((k : Known) → o ≡ Some k → NotedAt keeps es name k) → option_map undoubted o ≡ Some known
    → NotedAt keeps es name known
reopened_one es name None known noted is = absurd (cc)
reopened_one {keeps} es name (Some k) known noted is =
    let same : undoubted k ≡ known = cc in
    subst (λ (x : Known). NotedAt keeps es name x) same (seeing_noted es name Unknown false k unknown_no_sight (noted k refl))

doubted_one : {keeps : Keeps} (es : List Entry) (name : RecordName) (b : Bool) (o : Option Known) (known : Known) → ((k : Known) → o ≡ Some k → NotedAt keeps es name k) → cond b (option_map doubting o) o ≡ Some known
    → NotedAt keeps es name known
doubted_one es name true None known noted is = absurd (cc)
doubted_one {keeps} es name true (Some k) known noted is =
    let same : doubting k ≡ known = cc in
    subst (λ (x : Known). NotedAt keeps es name x) same (seeing_noted es name Unknown true k unknown_no_sight (noted k refl))
doubted_one es name false o known noted is = noted known is

pub doubted_noted : {keeps : Keeps} (es : List Entry) (book : Book) (name : RecordName) → AllNotedAt keeps es book → AllNotedAt keeps es (doubted book name)
doubted_noted es book name noted q known is = doubted_one es q (same_name name q) (book q) known (noted q) is

pub reopened_noted : {keeps : Keeps} (es : List Entry) (book : Book) → AllNotedAt keeps es book → AllNotedAt keeps es (reopened book)
reopened_noted es book noted name known is = reopened_one es name (book name) known (noted name) is

-- ---- a reply

absent_noted : {keeps : Keeps} (es : List Entry) (name : RecordName) (known : Known) → NotedAt keeps es name known → NotedAt keeps es name (absent known).known
absent_noted es name known n = seeing_noted es name Absent known.is_doubted known absent_no_sight n

some_sighted_noted : {keeps : Keeps} (es : List Entry) (name : RecordName) (doubted : Bool) (known : Known) → NotedAt keeps es name known → NotedAt keeps es name (cond doubted (absent known) (nothing_new known)).known
some_sighted_noted es name true known n = absent_noted es name known n
some_sighted_noted es name false known n = n

pub none_sighted_noted : {keeps : Keeps} (es : List Entry) (name : RecordName) (id : Option (List ℕ)) (known : Known) → NotedAt keeps es name known → NotedAt keeps es name (none_sighted id known).known
none_sighted_noted es name None known n = absent_noted es name known n
none_sighted_noted es name (Some id) known n = some_sighted_noted es name known.is_doubted known n

pub forgetting_noted : {keeps : Keeps} (es : List Entry) (name : RecordName) (concerned : Bool) (known : Known) → NotedAt keeps es name known → NotedAt keeps es name (forgetting concerned known).known
forgetting_noted es name true known n = forgotten_noted es name known n
forgetting_noted es name false known n = n

-- a resource that was shown with this revision is a version of its record's entry
fact_version : (es : List Entry) (name : RecordName) (s : ShownRecord) (sight : Sight) → IsWholeTable es → IsFact es s → name ≡ content_name s.content
    → content_revision s.content ≡ Some sight.revision → s.version ≡ Some sight.tag → sight.id ≡ s.id → IsVersion es name sight.id sight.tag sight.revision
fact_version es name s sight whole fact named revised tagged same_id =
    let tags : Some sight.tag ≡ Some _ = sym tagged ∙ fact.version in
    record {
      place = fact.place;
      turn = fact.turn;
      entry = fact.entry;
      content = s.content;
      here = fact.here;
      of_record = sym (named ∙ whole.named fact.place fact.turn fact.entry s.content fact.here fact.held);
      held = fact.held;
      has_id = same_id ∙ fact.id;
      has_tag = cc;
      at_revision = revised;
    }

-- the id of a version is that of the record's entry
version_id : (es : List Entry) (name : RecordName) (id tag : List ℕ) (r : RevisionValue) → IsWholeTable es → IsVersion es name id tag r → id_in es name ≡ Some id
version_id es name id tag r whole v = id_at es name v.place v.entry whole v.here v.of_record ∙ ap Some (sym v.has_id)

module _ (keeps : Keeps) (es : List Entry) (name : RecordName) (known : Known) (sight : Sight) (n : NotedAt keeps es name known) (its_id : id_in es name ≡ Some sight.id) where
  abbrev At_id : RevisionValue → Type 0
  At_id r = HasVersion es name (Some sight.id) r

  -- what was confirmed before has the same id
  before_version : known.confirmed ≢ no_revision → At_id known.confirmed
  before_version some =
      let had = n.confirmed some in
      let same : Some had.id ≡ Some sight.id = sym (n.id had.id had.known) ∙ its_id in
      record { id = had.id; known = sym same; tag = had.tag; version = had.version }

  later_version : (sight.revision ≢ no_revision → At_id sight.revision) → later known.confirmed sight.revision ≢ no_revision → At_id (later known.confirmed sight.revision)
  later_version now some = elim (later_is_one known.confirmed sight.revision) [
    | inl first ↦ subst At_id (sym first) (before_version (λ none. some (first ∙ none)))
    | inr second ↦ subst At_id (sym second) (now (λ none. some (second ∙ none)))
  ]

  in_sight : (now : Known) → InSightAt keeps es name now sight.id sight.tag sight.revision → (id tag : List ℕ) (r : RevisionValue) → seen_at sight ≡ At id tag r → InSightAt keeps es name now id tag r
  in_sight now seen id tag r at =
      let same_id : sight.id ≡ id = cc in
      let same_tag : sight.tag ≡ tag = cc in
      let same_revision : sight.revision ≡ r = cc in
      subst (λ (i : List ℕ). InSightAt keeps es name now i tag r) same_id
      (subst (λ (t : List ℕ). InSightAt keeps es name now sight.id t r) same_tag
      (subst (λ (x : RevisionValue). InSightAt keeps es name now sight.id sight.tag x) same_revision seen))

  sighted_noted : sight.revision ≼ row_revision known.wanted → (sight.revision ≢ no_revision → At_id sight.revision)
      → InSightAt keeps es name (sighted known sight).known sight.id sight.tag sight.revision → NotedAt keeps es name (sighted known sight).known
  sighted_noted up now seen = record {
    id = λ id has. its_id ∙ has;
    confirmed = later_version now;
    within = later_within known.confirmed sight.revision (row_revision known.wanted) n.within up;
    seen = in_sight (sighted known sight).known seen;
  }

  differing_noted : InSightAt keeps es name (differing known sight).known sight.id sight.tag sight.revision → NotedAt keeps es name (differing known sight).known
  differing_noted seen = record { id = n.id; confirmed = n.confirmed; within = n.within; seen = in_sight (differing known sight).known seen }

-- what is true of shown resources: the wanted row is of the record; a resource of the record shows no higher revision
-- than the wanted one, and a lower one if it isn't as it is wanted
pub record Compares (es : List Entry) (book : Book) (name : RecordName) (known : Known) : Type 0 where
  pub named : row_name known.wanted ≡ name
  pub below : (s : ShownRecord) → IsFact es s → name ≡ content_name s.content → is_wanted book known s.content ≡ false
      → (r : RevisionValue) × (content_revision s.content ≡ Some r) × (r ≺ row_revision known.wanted)
  pub up : (s : ShownRecord) → IsFact es s → name ≡ content_name s.content → (r : RevisionValue) × (content_revision s.content ≡ Some r) × (r ≼ row_revision known.wanted)

-- the version that a resource stands for, and what is shown of its revision
record Stood (es : List Entry) (name : RecordName) (known : Known) (s : ShownRecord) (id tag : List ℕ) : Type 0 where
  held : RevisionValue
  version : IsVersion es name id tag held
  up : held ≼ row_revision known.wanted
  shown : (content_revision s.content ≡ Some held) ⊎ (content_revision s.content ≡ Some no_revision)

-- what stands for a version has its tag
pub its_tag : (es : List Entry) (s : ShownRecord) → StandsFor es s → (tag : List ℕ) × (s.version ≡ Some tag)
its_tag es s st = (
  version_tag (suc st.fact.turn),
  elim st.stands [
    | inl same ↦ ap (λ (x : ShownRecord). x.version) same ∙ st.fact.version
    | inr same ↦ ap (λ (x : ShownRecord). x.version) same ∙ st.fact.version
  ],
)

module _ (es : List Entry) (book : Book) (name : RecordName) (known : Known) (whole : IsWholeTable es) (compares : Compares es book name known) where
  -- ---- where revisions are shown
  module _ (n : Noted es name known) where
    sighted_as : (sight : Sight) → IsVersion es name sight.id sight.tag sight.revision → sight.revision ≼ row_revision known.wanted → Noted es name (sighted known sight).known
    sighted_as sight v up = sighted_noted Revisions es name known sight n (version_id es name sight.id sight.tag sight.revision whole v) up
        (λ some. record { id = sight.id; known = refl; tag = sight.tag; version = v })
        (record { version = v; counted = λ sure. later_above_second known.confirmed sight.revision; lower = λ doubted. absurd (cc) })

    fact_noted : (s : ShownRecord) {l : Lesson} → IsFact es s → LearnsShown Revisions book name known s l → Noted es name l.known
    fact_noted s fact (sees sight fits) =
        sighted_as sight (fact_version es name s sight whole fact ((same_names name (content_name s.content)).0 fits.named) fits.revision fits.tag fits.id) (not-true _ fits.within)
    fact_noted s fact (agrees tag wanted tagged) =
        let sight : Sight = record { id = s.id; revision = row_revision known.wanted; tag = tag } in
        let named : name ≡ content_name s.content = sym (wanted_named book known s.content wanted ∙ compares.named) in
        sighted_as sight (fact_version es name s sight whole fact named (wanted_revised book known s.content wanted) tagged refl) (reflexive_up_to (row_revision known.wanted))
    fact_noted s fact (differs sight d) =
        let named : name ≡ content_name s.content = (same_names name (content_name s.content)).0 d.named in
        let (r, has, below) = compares.below s fact named d.other in
        let its : r ≡ sight.revision = sym (d.revision ∙ ap or_no_revision has) in
        let v = fact_version es name s sight whole fact named (has ∙ ap Some its) d.tag d.id in
        differing_noted Revisions es name known sight n (version_id es name sight.id sight.tag sight.revision whole v) (record {
          version = v;
          counted = λ sure. let wrong : true ≡ false = sym d.doubted ∙ sure in absurd (cc);
          lower = λ still. subst (λ (x : RevisionValue). x ≺ row_revision known.wanted) its below;
        })
    fact_noted s fact (only tag o) = never_only o
    fact_noted s fact (hides u learns) = never_hidden u

  -- ---- where none is shown
  stood_by : (s t : ShownRecord) (id tag : List ℕ) → IsFact es t → name ≡ content_name t.content → t.version ≡ Some tag → id ≡ t.id
      → ((held : RevisionValue) → content_revision t.content ≡ Some held → (content_revision s.content ≡ Some held) ⊎ (content_revision s.content ≡ Some no_revision)) → Stood es name known s id tag
  stood_by s t id tag fact named tagged is_id shown =
      let (held, has, up) = compares.up t fact named in
      record { held = held; version = fact_version es name t (record { id = id; revision = held; tag = tag }) whole fact named has tagged is_id; up = up; shown = shown held has }

  stood : (s : ShownRecord) (id tag : List ℕ) → StandsFor es s → name ≡ content_name s.content → s.version ≡ Some tag → id ≡ s.id → Stood es name known s id tag
  stood s id tag st named tagged is_id =
      let t = st.true_one in
      elim st.stands [
        | inl same ↦ stood_by s t id tag st.fact (named ∙ ap (λ x. content_name x.content) same) (sym (ap (λ x. x.version) same) ∙ tagged) (is_id ∙ ap (λ x. x.id) same)
            (λ held has. inl (ap (λ x. content_revision x.content) same ∙ has))
        | inr same ↦ stood_by s t id tag st.fact (named ∙ ap (λ x. content_name x.content) same ∙ name_with (Some no_revision) t.content) (sym (ap (λ x. x.version) same) ∙ tagged) (is_id ∙ ap (λ x. x.id) same)
            (λ held has. inr (ap (λ x. content_revision x.content) same ∙ revision_with (Some no_revision) t.content))
      ]

  module _ (s : ShownRecord) (id tag : List ℕ) (st : Stood es name known s id tag) (r : RevisionValue) (has : content_revision s.content ≡ Some r) where
    stood_from : r ≼ st.held
    stood_from = elim st.shown [
      | inl shown ↦ let same : Some st.held ≡ Some r = sym shown ∙ has in let equal : st.held ≡ r = cc in subst (λ (x : RevisionValue). r ≼ x) (sym equal) (reflexive_up_to r)
      | inr none ↦ let same : Some no_revision ≡ Some r = sym none ∙ has in let equal : no_revision ≡ r = cc in subst (λ (x : RevisionValue). x ≼ st.held) equal (none_first st.held)
    ]

    stood_now : r ≢ no_revision → HasVersion es name (Some id) r
    stood_now some = elim st.shown [
      | inl shown ↦
          let same : Some st.held ≡ Some r = sym shown ∙ has in
          let equal : st.held ≡ r = cc in
          record { id = id; known = refl; tag = tag; version = subst (λ (x : RevisionValue). IsVersion es name id tag x) equal st.version }
      | inr none ↦ let same : Some no_revision ≡ Some r = sym none ∙ has in let equal : no_revision ≡ r = cc in absurd (some (sym equal))
    ]

  module _ (n : NotedAt Versions es name known) where
    sighted_from : (s : ShownRecord) (sight : Sight) → Stood es name known s sight.id sight.tag → content_revision s.content ≡ Some sight.revision → sight.revision ≼ row_revision known.wanted
        → NotedAt Versions es name (sighted known sight).known
    sighted_from s sight st has up = sighted_noted Versions es name known sight n (version_id es name sight.id sight.tag st.held whole st.version) up
        (stood_now s sight.id sight.tag st sight.revision has)
        (record { held = st.held; version = st.version; from = stood_from s sight.id sight.tag st sight.revision has; up = st.up })

    from_stood : (s : ShownRecord) {id tag : List ℕ} (st : Stood es name known s id tag) → shown_revision s.content ≼ st.held
    from_stood s {id} {tag} st = elim st.shown [
      | inl shown ↦ subst (λ (r : RevisionValue). r ≼ st.held) (sym (ap or_no_revision shown)) (reflexive_up_to st.held)
      | inr none ↦ subst (λ (r : RevisionValue). r ≼ st.held) (sym (ap or_no_revision none)) (none_first st.held)
    ]

    stands_noted : (s : ShownRecord) {l : Lesson} → StandsFor es s → LearnsShown Versions book name known s l → NotedAt Versions es name l.known
    stands_noted s stands (sees sight fits) =
        sighted_from s sight (stood s sight.id sight.tag stands ((same_names name (content_name s.content)).0 fits.named) fits.tag fits.id) fits.revision (not-true _ fits.within)
    stands_noted s stands (agrees tag wanted tagged) =
        let sight : Sight = record { id = s.id; revision = row_revision known.wanted; tag = tag } in
        let named : name ≡ content_name s.content = sym (wanted_named book known s.content wanted ∙ compares.named) in
        sighted_from s sight (stood s s.id tag stands named tagged refl) (wanted_revised book known s.content wanted) (reflexive_up_to (row_revision known.wanted))
    stands_noted s stands (differs sight d) =
        let st = stood s sight.id sight.tag stands ((same_names name (content_name s.content)).0 d.named) d.tag d.id in
        differing_noted Versions es name known sight n (version_id es name sight.id sight.tag st.held whole st.version)
        (record { held = st.held; version = st.version; from = subst (λ (r : RevisionValue). r ≼ st.held) (sym d.revision) (from_stood s st); up = st.up })
    stands_noted s stands (only tag o) =
        let sight : Sight = record { id = s.id; revision = no_revision; tag = tag } in
        let st = stood s s.id tag stands ((same_names name (content_name s.content)).0 o.named) o.tagged refl in
        differing_noted Versions es name known sight n (version_id es name sight.id sight.tag st.held whole st.version)
        (record { held = st.held; version = st.version; from = none_first st.held; up = st.up })
    stands_noted s stands (hides u learns) = let none : None ≡ Some (its_tag es s stands).0 = sym u.untagged ∙ (its_tag es s stands).1 in absurd (cc)

  -- ---- either way
  pub shown_noted : (keeps : Keeps) (s : ShownRecord) {l : Lesson} → NotedAt keeps es name known → StandsAt keeps es s → LearnsShown keeps book name known s l → NotedAt keeps es name l.known
  shown_noted Revisions s n fact learns = fact_noted n s fact learns
  shown_noted Versions s n stands learns = stands_noted n s stands learns

  lesson_noted : (keeps : Keeps) {said : Finding} {l : Lesson} → NotedAt keeps es name known → ((s : ShownRecord) → said ≡ Shows s → StandsAt keeps es s) → Learns keeps book name known said l
      → NotedAt keeps es name l.known
  lesson_noted keeps n shown (shows s l learns) = shown_noted keeps s n (shown s refl) learns
  lesson_noted keeps n shown misses = none_sighted_noted es name known.id known n
  lesson_noted keeps n shown is_taken = forgetting_noted es name (is_absent known.seen) known n
  lesson_noted keeps n shown (is_stale if_match) = forgetting_noted es name (is_under if_match known.seen) known n

pub none_sighted_id : (id : Option (List ℕ)) (known : Known) → (none_sighted id known).known.id ≡ known.id
none_sighted_id None known = refl
none_sighted_id (Some id) known = go known.is_doubted
  where
    go : (doubted : Bool) → (cond doubted (absent known) (nothing_new known)).known.id ≡ known.id
    go true = refl
    go false = refl

pub forgetting_id : (concerned : Bool) (known : Known) → (forgetting concerned known).known.id ≡ known.id
forgetting_id true known = refl
forgetting_id false known = refl

-- a known id stays
module _ {keeps : Keeps} (es : List Entry) (book : Book) (name : RecordName) (known : Known) (n : NotedAt keeps es name known) (id : List ℕ) (has : known.id ≡ Some id) where
  pub shown_keeps_id : (s : ShownRecord) {l : Lesson} → ((i : List ℕ) → l.known.id ≡ Some i → id_in es name ≡ Some i) → LearnsShown keeps book name known s l → l.known.id ≡ Some id
  shown_keeps_id s now (sees sight fits) = sym (now sight.id refl) ∙ n.id id has
  shown_keeps_id s now (agrees tag wanted tagged) = sym (now s.id refl) ∙ n.id id has
  shown_keeps_id s now (differs sight d) = has
  shown_keeps_id s now (only tag o) = has
  shown_keeps_id s now (hides u learns) = shown_keeps_id (shown_under no_version s) now learns

  lesson_keeps_id : {said : Finding} {l : Lesson} → NotedAt keeps es name l.known → Learns keeps book name known said l → l.known.id ≡ Some id
  lesson_keeps_id now (shows s l learns) = shown_keeps_id s now.id learns
  lesson_keeps_id now misses = none_sighted_id known.id known ∙ has
  lesson_keeps_id now is_taken = forgetting_id (is_absent known.seen) known ∙ has
  lesson_keeps_id now (is_stale if_match) = forgetting_id (is_under if_match known.seen) known ∙ has

-- what is learnt from what an answer stands for
abbrev pub AllStand : Keeps → List Entry → Answer → Type 0
AllStand keeps es answer = (i : ℕ) (s : ShownRecord) → IsAt (shown_in answer) i s → StandsAt keeps es s

abbrev pub AllCompare : List Entry → Book → Type 0
AllCompare es book = (name : RecordName) (known : Known) → book name ≡ Some known → Compares es book name known

module _ (keeps : Keeps) (es : List Entry) (book : Book) (request : Request) (answer : Answer) (whole : IsWholeTable es) (truly : AllStand keeps es (heard keeps request answer))
    (compares : AllCompare es book) (noted : AllNotedAt keeps es book) where
  teaching_noted : (learning : Learning) (t : Teaches keeps book request answer learning) → NotedAt keeps es t.name t.teaches.known
  teaching_noted learning t = lesson_noted es book t.name t.known whole (compares t.name t.known t.in_book) keeps (noted t.name t.known t.in_book)
      (λ s said. truly 0 s (shows_first request (heard keeps request answer) s (t.says ∙ ap Ok said))) t.learns

  pub learning_noted_at : AllNotedAt keeps es (after_learning book (learn_at keeps book request answer))
  learning_noted_at = go (learn_at keeps book request answer) refl
    where
      go : (r : Result Learning LearnFault) → learn_at keeps book request answer ≡ r → AllNotedAt keeps es (after_learning book r)
      go (Err fault) is = noted
      go (Ok learning) is =
          let t = learnt_by keeps book request answer learning is in
          subst (λ (b : Book). AllNotedAt keeps es b) (sym t.book_after) (put_noted es book t.name t.teaches.known noted (teaching_noted learning t))

  pub learning_keeps_ids_at : GoesOn (known_id book) (known_id (after_learning book (learn_at keeps book request answer)))
  learning_keeps_ids_at = go (learn_at keeps book request answer) refl
    where
      go : (r : Result Learning LearnFault) → learn_at keeps book request answer ≡ r → GoesOn (known_id book) (known_id (after_learning book r))
      go (Err fault) is = λ q id has. has
      go (Ok learning) is =
          let t = learnt_by keeps book request answer learning is in
          let n = noted t.name t.known t.in_book in
          subst (λ (b : Book). GoesOn (known_id book) (known_id b)) (sym t.book_after)
          (put_ids book t.name t.known t.teaches.known t.in_book (λ id has. lesson_keeps_id es book t.name t.known n id has (teaching_noted learning t) t.learns))
