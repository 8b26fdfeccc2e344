-- The connector learns from every answer that says something of a record with accepted rows and shows facts.
use Rattle.std.proofs.Common.{◌≡◌, ℕ, zero, suc, Bool, true, false, cond, not, List, [], ◌∷◌, Option, Some, None, Result, Ok, Err, IsOk, inl, inr, refl, ap, sym, ◌∙◌, subst}
use Rattle.std.proofs.lemmas.Bool.{not_from_false}
use Rattle.std.proofs.lemmas.Slice.Eq.{bytes_eq-Decides}
use Rattle.std.specs.List.{last_or}
use Rattle.std.specs.Option.{option_map}
use Rattle.scim_key.proofs.RevisionLaws.{none_first, reflexive_up_to, up_to_before, transitive_up_to}
use Rattle.scim_key.specs.Outcome.{◌>>=◌}
use Rattle.scim_key.specs.Revisions.{RevisionValue, before, no_revision, ◌≼◌}
use Rattle.scim_key.specs.declared.records.RecordName.{RecordName}
use Rattle.scim_version.specs.Tags.{version_tag}
use Rattle.scim_resource.specs.Contents.{content_name, content_with}
use Rattle.scim_resource.specs.Rows.{ShownRecord}
use Rattle.scim_message.specs.declared.messages.Answer.{Answer}
use Rattle.scim_message.specs.declared.messages.Request.{Request}
use Rattle.scim_message.specs.declared.messages.Request.TheVariants.{Create, Retrieve, Search, Replace}
use Rattle.scim_resource.specs.declared.contents.Content.{Content}
use Rattle.provider_core.specs.Tables.{IsFact}
use Rattle.provider_core.proofs.TableLaws.{same_if_eq}
use Rattle.source_csv.specs.Records.{row_revision}
use Rattle.source_csv.specs.declared.rows.Row.{Row}
use Rattle.connector_core.specs.History.{Rises, rows_of, same_name}
use Rattle.connector_core.specs.Keeps.{asked_lesson, carried, lesson_at, lesson_under, only_seen, says, shown_with, standing_for}
use Rattle.connector_core.specs.declared.keeps.Keeps.{Keeps}
use Rattle.connector_core.specs.declared.keeps.Keeps.TheVariants.{Revisions, Versions}
use Rattle.connector_core.specs.Learning.{or_fault, fault_unless, Finding, Shows, Shows_none, Taken, Stale, fit, fits_id, sighted, is_wanted, or_no_revision, shown_revision, fit_differing, differing, agreeing, compared, shown_lesson, Lesson, lesson, finding, subject, content_revision, noted, learn}
use Rattle.connector_core.specs.declared.knowledge.Known.{Known}
use Rattle.connector_core.specs.declared.learning.LearnFault.{LearnFault}
use Rattle.connector_core.specs.declared.learning.LearnFault.TheVariants.{Unfit, Unversioned, NoSuchRecord}
use Rattle.world_model.specs.World.{World}
use Rattle.world_model.specs.Safe.{IsAt, id_in}
use Rattle.world_model.proofs.Lists.{has_last}
use Rattle.provider_core.specs.Stories.{Entry}
use Rattle.world_model.proofs.Hearing.{answered_said, hearing, name_with, revision_with, says_itself}
use Rattle.world_model.proofs.Growing.{id_at}
use Rattle.world_model.proofs.Invariant.{compares_of}
use Rattle.world_model.proofs.Learned.{differing_within, differing_named, at_tag, at_within, at_revision, at_id, at_name, taught, told, told_of, shows_first}
use Rattle.world_model.proofs.Answering.{Answers}
use Rattle.world_model.specs.Invariant.{Names, InvariantAt, InvariantOf, ShowsTruly, StandsAt, StandsFor}

-- ---- steps that all come to an end

ok_after : {A B : Type 0} (r : Result A LearnFault) (f : A → Result B LearnFault) (x : A) → r ≡ Ok x → IsOk (f x) → IsOk (r >>= f)
ok_after {A} {B} r f x is ok = subst (λ (q : Result A LearnFault). IsOk (q >>= f)) (sym is) ok

ok_whatever : {A B : Type 0} (r : Result A LearnFault) (f : A → Result B LearnFault) → IsOk r → ((x : A) → IsOk (f x)) → IsOk (r >>= f)
ok_whatever (Ok x) f ok all = all x
ok_whatever (Err fault) f ok all = absurd (cc)

passes : (fault : LearnFault) (b : Bool) → b ≡ true → fault_unless fault b ≡ Ok true
passes fault true is = refl
passes fault false is = absurd (cc)

is_there : {A : Type 0} (fault : LearnFault) (o : Option A) (x : A) → o ≡ Some x → or_fault fault o ≡ Ok x
is_there fault o x is = ap (or_fault fault) is

-- ---- the last row of a record is of its highest revision

first_up_to : (first : Row) (rows : List Row) (last : Row) → Rises (first ∷ rows) → last_or (Some first) rows ≡ Some last → row_revision first ≼ row_revision last
first_up_to first [] last rises is = let same : first ≡ last = cc in subst (λ (r : Row). row_revision first ≼ row_revision r) same (reflexive_up_to (row_revision first))
first_up_to first (r ∷ rows) last rises is =
    transitive_up_to (row_revision first) (row_revision r) (row_revision last) (up_to_before (row_revision first) (row_revision r) rises.0.0) (first_up_to r rows last rises.1 is)

pub each_up_to : (rows : List Row) (i : ℕ) (row last : Row) → Rises rows → IsAt rows i row → last_or None rows ≡ Some last → row_revision row ≼ row_revision last
each_up_to [] i row last rises at is = absurd (cc)
each_up_to (r ∷ rows) zero row last rises at is =
    let same : r ≡ row = cc in
    subst (λ (x : Row). row_revision x ≼ row_revision last) same (first_up_to r rows last rises is)
each_up_to (r ∷ []) (suc i) row last rises at is = absurd (cc)
each_up_to (r ∷ s ∷ rows) (suc i) row last rises at is = each_up_to (s ∷ rows) i row last rises.1 at is

-- ---- a shown resource fits

fits : (known : Option (List ℕ)) (id : List ℕ) → ((k : List ℕ) → known ≡ Some k → k ≡ id) → fits_id known id ≡ true
fits None id same = refl
fits (Some k) id same = (bytes_eq-Decides k id).1 (same k refl)

module _ (name : RecordName) (known : Known) (s : ShownRecord) (revision : RevisionValue) (tag : List ℕ) (named : same_name name (content_name s.content) ≡ true)
    (its_id : fits_id known.id s.id ≡ true) (has : content_revision s.content ≡ Some revision) (within : not (before (row_revision known.wanted) revision) ≡ true)
    (tagged : s.version ≡ Some tag) where
  fit_ok : IsOk (fit name known s)
  fit_ok =
      ok_after (fault_unless Unfit (same_name name (content_name s.content))) (at_name known s) true (passes Unfit (same_name name (content_name s.content)) named)
      (ok_after (fault_unless Unfit (fits_id known.id s.id)) (at_id known s) true (passes Unfit (fits_id known.id s.id) its_id)
      (ok_after (or_fault Unfit (content_revision s.content)) (at_revision known s) revision (is_there Unfit (content_revision s.content) revision has)
      (ok_after (fault_unless Unfit (not (before (row_revision known.wanted) revision))) (at_within s revision) true
      (passes Unfit (not (before (row_revision known.wanted) revision)) within)
      (ok_after (or_fault Unversioned s.version) (at_tag s revision) tag (is_there Unversioned s.version tag tagged) refl))))

same_id : (k id : List ℕ) → Some k ≡ Some id → k ≡ id
same_id k id same = cc

wanted_last : (o : Option Known) (last : Row) → option_map (λ k. k.wanted) o ≡ Some last → (known : Known) × (o ≡ Some known) × (known.wanted ≡ last)
wanted_last None last is = absurd (cc)
wanted_last (Some known) last is = (known, refl, cc)

-- what is shown of a record with this id: a tag, and a revision up to the wanted one
record Usable (es : List Entry) (name : RecordName) (known : Known) (s : ShownRecord) : Type 0 where
  its : id_in es name ≡ Some s.id
  revision : RevisionValue
  has : content_revision s.content ≡ Some revision
  up : revision ≼ row_revision known.wanted
  tag : List ℕ
  tagged : s.version ≡ Some tag

module _ {keeps : Keeps} {ours : Names} (w : World) (inv : InvariantAt keeps ours w) (name : RecordName) (known : Known) (in_book : w.book name ≡ Some known) where
  fact_usable : (s : ShownRecord) → IsFact w.entries s → content_name s.content ≡ name → Usable w.entries name known s
  fact_usable s fact named =
      let of_record : fact.entry.name ≡ name = sym (inv.kept.whole.named fact.place fact.turn fact.entry s.content fact.here fact.held) ∙ named in
      let (revision, has, up) = (compares_of w inv name known in_book).up s fact (sym named) in
      record {
        its = id_at w.entries name fact.place fact.entry inv.kept.whole fact.here of_record ∙ ap Some (sym fact.id);
        revision = revision;
        has = has;
        up = up;
        tag = version_tag (suc fact.turn);
        tagged = fact.version;
      }

  stands_usable : (s : ShownRecord) → StandsFor w.entries s → content_name s.content ≡ name → Usable w.entries name known s
  stands_usable s st named = elim st.stands [
    | inl same ↦ subst (λ (x : ShownRecord). Usable w.entries name known x) (sym same) (fact_usable st.true_one st.fact (ap (λ x. content_name x.content) (sym same) ∙ named))
    | inr same ↦
        let t = st.true_one in
        let u = fact_usable t st.fact (sym (ap (λ x. content_name x.content) same ∙ name_with (Some no_revision) t.content) ∙ named) in
        subst (λ (x : ShownRecord). Usable w.entries name known x) (sym same)
        (record { its = u.its; revision = no_revision; has = revision_with (Some no_revision) t.content; up = none_first (row_revision known.wanted); tag = u.tag; tagged = u.tagged })
  ]

  usable : (kind : Keeps) (s : ShownRecord) → StandsAt kind w.entries s → content_name s.content ≡ name → Usable w.entries name known s
  usable Revisions s fact named = fact_usable s fact named
  usable Versions s stands named = stands_usable s stands named

  module _ (s : ShownRecord) (u : Usable w.entries name known s) (named : content_name s.content ≡ name) where
    -- it fits what is known about the record
    usable_fits : IsOk (fit name known s)
    usable_fits = fit_ok name known s u.revision u.tag (same_if_eq name (content_name s.content) (sym named))
        (fits known.id s.id (λ k is. same_id k s.id (sym ((inv.noted name known in_book).id k is) ∙ u.its))) u.has (not_from_false _ u.up) u.tagged

    -- so it does if it isn't as it is wanted
    differing_fits : IsOk (fit_differing name known s)
    differing_fits =
        let up : shown_revision s.content ≼ row_revision known.wanted = subst (λ (x : RevisionValue). x ≼ row_revision known.wanted) (sym (ap or_no_revision u.has)) u.up in
        ok_after (fault_unless Unfit (same_name name (content_name s.content))) (differing_named known s) true
        (passes Unfit (same_name name (content_name s.content)) (same_if_eq name (content_name s.content) (sym named)))
        (ok_after (fault_unless Unfit (not (before (row_revision known.wanted) (shown_revision s.content)))) (differing_within s) true
        (passes Unfit (not (before (row_revision known.wanted) (shown_revision s.content))) (not_from_false _ up))
        (ok_after (or_fault Unversioned s.version) (at_tag s (shown_revision s.content)) u.tag (is_there Unversioned s.version u.tag u.tagged) refl))

    compared_ok : (wanted : Bool) → IsOk (compared wanted name known s)
    compared_ok true = ok_after (or_fault Unversioned s.version) (λ tag. Ok (agreeing known s.id tag)) u.tag (is_there Unversioned s.version u.tag u.tagged) refl
    compared_ok false = ok_whatever (fit_differing name known s) (λ sight. Ok (differing known sight)) differing_fits (λ sight. refl)

    learnt_ok : (doubted : Bool) → IsOk (cond doubted (compared (is_wanted w.book known s.content) name known s) (fit name known s >>= λ sight. Ok (sighted known sight)))
    learnt_ok true = compared_ok (is_wanted w.book known s.content)
    learnt_ok false = ok_whatever (fit name known s) (λ sight. Ok (sighted known sight)) usable_fits (λ sight. refl)

  -- the connector learns from a resource of the record that stands for a version
  shown_ok : (kind : Keeps) (s : ShownRecord) → StandsAt kind w.entries s → content_name s.content ≡ name → IsOk (shown_lesson w.book name known s)
  shown_ok kind s stands named = learnt_ok s (usable kind s stands named) named known.is_doubted

  -- so it does from one that shows what was asked, and from one that is only seen
  asked_ok : (c : Content) (s : ShownRecord) → StandsFor w.entries (standing_for c s) → content_name c ≡ name → says name c s ≡ true → IsOk (asked_lesson w.book name known c s)
  asked_ok c s stands named test =
      let u = usable Versions (standing_for c s) stands named in
      ok_after (fault_unless Unfit (says name c s)) (λ _. lesson_under s.version w.book name known (standing_for c s)) true (passes Unfit (says name c s) test)
      (subst (λ (tag : Option (List ℕ)). IsOk (lesson_under tag w.book name known (standing_for c s))) (sym u.tagged) (shown_ok Versions (standing_for c s) stands named))

  only_ok : (s : ShownRecord) → StandsFor w.entries (shown_with (Some no_revision) s) → content_name s.content ≡ name → IsOk (only_seen name known s)
  only_ok s stands named =
      let u = usable Versions (shown_with (Some no_revision) s) stands (name_with (Some no_revision) s.content ∙ named) in
      let last : List ℕ → Result Lesson LearnFault = λ tag. Ok (differing known (record { id = s.id; revision = no_revision; tag = tag })) in
      ok_after (fault_unless Unfit (same_name name (content_name s.content))) (λ _. or_fault Unversioned s.version >>= last) true
      (passes Unfit (same_name name (content_name s.content)) (same_if_eq name (content_name s.content) (sym named)))
      (ok_after (or_fault Unversioned s.version) last u.tag (is_there Unversioned s.version u.tag u.tagged) refl)

  -- and so from what a provider answers
  pub answered_ok : (kind : Keeps) (request : Request) (s : ShownRecord) → StandsAt kind w.entries (hearing kind request s) → content_name (hearing kind request s).content ≡ name
      → ((c : Content) → carried request ≡ Some c → c ≡ s.content) → IsOk (lesson_at kind w.book name known (carried request) (answered_said kind (Shows s)))
  answered_ok Revisions request s stands named written = shown_ok Revisions s stands named
  answered_ok Versions (Create c) s stands named written = asked_ok c (shown_with None s) stands named (says_itself name c s named (written c refl))
  answered_ok Versions (Retrieve kind id m n) s stands named written =
      only_ok (shown_with None s) stands (sym (name_with (Some no_revision) (content_with None s.content)) ∙ named)
  answered_ok Versions (Search kind wanted start count) s stands named written =
      only_ok (shown_with None s) stands (sym (name_with (Some no_revision) (content_with None s.content)) ∙ named)
  answered_ok Versions (Replace id c m n) s stands named written = asked_ok c (shown_with None s) stands named (says_itself name c s named (written c refl))

  lesson_ok : (said : Finding) → ((s : ShownRecord) → said ≡ Shows s → StandsAt keeps w.entries s × (content_name s.content ≡ name)) → IsOk (lesson w.book name known said)
  lesson_ok (Shows s) shown = let facts = shown s refl in shown_ok keeps s facts.0 facts.1
  lesson_ok Shows_none shown = refl
  lesson_ok Taken shown = refl
  lesson_ok (Stale if_match) shown = refl

pub learns : {ours : Names} (w : World) (request : Request) (answer : Answer) → InvariantOf ours w → ShowsTruly w.entries answer → Answers w.history request answer → IsOk (learn w.book request answer)
learns w request answer inv shows a =
    let (last, is_last) = has_last (rows_of w.history a.name) a.row a.accepted in
    let (known, in_book, wanted) = wanted_last (w.book a.name) last (inv.follows a.name ∙ is_last) in
    ok_after (or_fault Unfit (subject request)) (told_of w.book request answer) a.name (is_there Unfit (subject request) a.name a.about)
    (ok_after (or_fault NoSuchRecord (w.book a.name)) (told w.book request answer a.name) known (is_there NoSuchRecord (w.book a.name) known in_book)
    (ok_after (finding request answer) (taught w.book a.name known) a.said a.says.says
    (ok_whatever (lesson w.book a.name known a.said) (λ l. Ok (noted w.book a.name l))
    (lesson_ok w inv a.name known in_book a.said (λ s is. (shows 0 s (shows_first request answer s (a.says.says ∙ ap Ok is)), a.says.its s is))) (λ l. refl))))
