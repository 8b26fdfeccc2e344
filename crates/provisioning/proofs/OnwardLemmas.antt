-- No answer from which something is learnt takes a confirmed revision back.
use Rattle.std.proofs.Common.{◌≡◌, ℕ, Bool, true, false, cond, List, Option, Some, None, Result, Ok, Err, refl, ap, sym, ◌∙◌, subst}
use Rattle.std.specs.Option.{option_map}
use Rattle.scim_key.proofs.RecordLaws.{same as same_names}
use Rattle.scim_key.proofs.RevisionLaws.{later_above_first, reflexive_up_to, transitive_up_to}
use Rattle.scim_key.specs.Outcome.{◌>>=◌}
use Rattle.scim_key.specs.Revisions.{no_revision, ◌≼◌}
use Rattle.scim_key.specs.declared.records.RecordName.{RecordName}
use Rattle.scim_message.specs.declared.messages.Answer.{Answer}
use Rattle.scim_message.specs.declared.messages.Request.{Request}
use Rattle.journal_core.specs.declared.journals.Journal.{Ghosts}
use Rattle.scim_resource.specs.Contents.{content_name}
use Rattle.scim_resource.specs.Rows.{ShownRecord, shown_under}
use Rattle.scim_resource.specs.declared.contents.Content.{Content}
use Rattle.source_csv.specs.Records.{row_revision}
use Rattle.connector_core.specs.History.{same_name}
use Rattle.connector_core.specs.Book.{Book, confirmed_if, confirmed_of, put, wanted_row}
use Rattle.connector_core.proofs.Standing.{under_no_tag}
use Rattle.connector_core.specs.Keeps.{carried, lesson_at, lesson_under, learn_at, no_version, says, standing_for, unseen, unshown_lesson}
use Rattle.connector_core.specs.Learning.{Finding, Shows, Shows_none, Taken, Stale, Learning, Lesson, Sight, absent, after_learning, agreeing, compared, differing, fault_unless, finding, fit, fit_differing, forgetting, is_absent, is_under, is_wanted, lesson, none_sighted, noted, nothing_new, or_fault, shown_lesson, sighted, subject}
use Rattle.connector_core.specs.Maps.{BookMap, book_of}
use Rattle.connector_core.specs.State.{State}
use Rattle.connector_core.specs.declared.knowledge.Known.{Known}
use Rattle.connector_core.specs.declared.learning.LearnFault.{LearnFault}
use Rattle.connector_core.specs.declared.learning.LearnFault.TheVariants.{NoSuchRecord, Unfit, Unversioned}
use Rattle.connector_core.specs.declared.learning.Learnt.{Learnt}
use Rattle.connector_core.specs.declared.keeps.Keeps.{Keeps}
use Rattle.connector_core.specs.declared.keeps.Keeps.TheVariants.{Revisions, Versions}
use Rattle.provisioning.specs.Exchanges.{Becomes, Came, Learns, answered, lost}
use Rattle.provisioning.specs.Services.{Service, taken_from}
use Rattle.provisioning.specs.Onward.{Onward}

-- ---- one step after the other

through : {A B : Type 0} (r : Result A LearnFault) (f : A → Result B LearnFault) (y : B) → (r >>= f) ≡ Ok y → (x : A) × (r ≡ Ok x) × (f x ≡ Ok y)
through (Ok x) f y is = (x, refl, is)
through (Err fault) f y is = absurd (cc)

was_there : {A : Type 0} (fault : LearnFault) (o : Option A) (x : A) → or_fault fault o ≡ Ok x → o ≡ Some x
was_there fault None x is = absurd (cc)
was_there fault (Some y) x is = cc

-- ---- one record

abbrev Goes : Known → Known → Type 0
Goes known next = (next.wanted ≡ known.wanted) × (known.confirmed ≼ next.confirmed)

stays : (known : Known) → Goes known known
stays known = (refl, reflexive_up_to known.confirmed)

doubting_goes : (doubted : Bool) (known : Known) → Goes known (cond doubted (absent known) (nothing_new known)).known
doubting_goes true known = (refl, reflexive_up_to known.confirmed)
doubting_goes false known = (refl, reflexive_up_to known.confirmed)

none_sighted_goes : (id : Option (List ℕ)) (known : Known) → Goes known (none_sighted id known).known
none_sighted_goes None known = (refl, reflexive_up_to known.confirmed)
none_sighted_goes (Some id) known = doubting_goes known.is_doubted known

forgetting_goes : (concerned : Bool) (known : Known) → Goes known (forgetting concerned known).known
forgetting_goes true known = (refl, reflexive_up_to known.confirmed)
forgetting_goes false known = (refl, reflexive_up_to known.confirmed)

moved : (known : Known) (l m : Lesson) → l ≡ m → Goes known l.known → Goes known m.known
moved known l m is goes = subst (λ (x : Lesson). Goes known x.known) is goes

compared_goes : (agrees : Bool) (name : RecordName) (known : Known) (s : ShownRecord) (l : Lesson) → compared agrees name known s ≡ Ok l → Goes known l.known
compared_goes true name known s l is =
    let (tag, has, made) = through (or_fault Unversioned s.version) (λ tag. Ok (agreeing known s.id tag)) l is in
    let same : agreeing known s.id tag ≡ l = cc in
    moved known (agreeing known s.id tag) l same (refl, later_above_first known.confirmed (row_revision known.wanted))
compared_goes false name known s l is =
    let (sight, fits, made) = through (fit_differing name known s) (λ sight. Ok (differing known sight)) l is in
    let same : differing known sight ≡ l = cc in
    moved known (differing known sight) l same (refl, reflexive_up_to known.confirmed)

shown_goes : (doubted : Bool) (book : Book) (name : RecordName) (known : Known) (s : ShownRecord) (l : Lesson)
    → cond doubted (compared (is_wanted book known s.content) name known s) (fit name known s >>= λ sight. Ok (sighted known sight)) ≡ Ok l → Goes known l.known
shown_goes true book name known s l is = compared_goes (is_wanted book known s.content) name known s l is
shown_goes false book name known s l is =
    let (sight, fits, made) = through (fit name known s) (λ x. Ok (sighted known x)) l is in
    let same : sighted known sight ≡ l = cc in
    moved known (sighted known sight) l same (refl, later_above_first known.confirmed sight.revision)

lesson_goes : (book : Book) (name : RecordName) (known : Known) (said : Finding) (l : Lesson) → lesson book name known said ≡ Ok l → Goes known l.known
lesson_goes book name known (Shows s) l is = shown_goes known.is_doubted book name known s l is
lesson_goes book name known Shows_none l is =
    let same : none_sighted known.id known ≡ l = cc in
    moved known (none_sighted known.id known) l same (none_sighted_goes known.id known)
lesson_goes book name known Taken l is =
    let same : forgetting (is_absent known.seen) known ≡ l = cc in
    moved known (forgetting (is_absent known.seen) known) l same (forgetting_goes (is_absent known.seen) known)
lesson_goes book name known (Stale if_match) l is =
    let same : forgetting (is_under if_match known.seen) known ≡ l = cc in
    moved known (forgetting (is_under if_match known.seen) known) l same (forgetting_goes (is_under if_match known.seen) known)

under_goes : (tag : Option (List ℕ)) (book : Book) (name : RecordName) (known : Known) (s : ShownRecord) (l : Lesson) → lesson_under tag book name known s ≡ Ok l → Goes known l.known
under_goes (Some tag) book name known s l is = shown_goes known.is_doubted book name known s l is
under_goes None book name known s l is =
    let u = under_no_tag book name known s l is in
    moved known (unseen u.tagged) l u.is (shown_goes known.is_doubted book name known (shown_under no_version s) u.tagged u.learns)

unshown_goes : (book : Book) (name : RecordName) (known : Known) (content : Option Content) (s : ShownRecord) (l : Lesson) → unshown_lesson book name known content s ≡ Ok l → Goes known l.known
unshown_goes book name known None s l is =
    let sight : List ℕ → Sight = λ tag. record { id = s.id; revision = no_revision; tag = tag } in
    let (named, fits, rest) = through (fault_unless Unfit (same_name name (content_name s.content))) (λ u. or_fault Unversioned s.version >>= λ tag. Ok (differing known (sight tag))) l is in
    let (tag, has, made) = through (or_fault Unversioned s.version) (λ tag. Ok (differing known (sight tag))) l rest in
    let same : differing known (sight tag) ≡ l = cc in
    moved known (differing known (sight tag)) l same (refl, reflexive_up_to known.confirmed)
unshown_goes book name known (Some content) s l is =
    let stands = standing_for content s in
    let (said, fits, rest) = through (fault_unless Unfit (says name content s)) (λ u. lesson_under s.version book name known stands) l is in
    under_goes s.version book name known stands l rest

lesson_at_goes : (keeps : Keeps) (book : Book) (name : RecordName) (known : Known) (content : Option Content) (said : Finding) (l : Lesson) → lesson_at keeps book name known content said ≡ Ok l → Goes known l.known
lesson_at_goes Revisions book name known content said l is = lesson_goes book name known said l is
lesson_at_goes Versions book name known content (Shows s) l is = unshown_goes book name known content s l is
lesson_at_goes Versions book name known content Shows_none l is = lesson_goes book name known Shows_none l is
lesson_at_goes Versions book name known content Taken l is = lesson_goes book name known Taken l is
lesson_at_goes Versions book name known content (Stale if_match) l is = lesson_goes book name known (Stale if_match) l is

-- ---- the book

abbrev GoesAt : (here there : Option Known) → Type 0
GoesAt here there = (option_map (λ known. known.wanted) there ≡ option_map (λ known. known.wanted) here) × (confirmed_if here ≼ confirmed_if there)

abbrev BookGoes : Book → Book → Type 0
BookGoes old new = (name : RecordName) → GoesAt (old name) (new name)

book_stays : (book : Book) → BookGoes book book
book_stays book name = (refl, reflexive_up_to (confirmed_if (book name)))

chosen : (test : Bool) (here o : Option Known) (known next : Known) → (test ≡ true → o ≡ here) → here ≡ Some known → Goes known next → GoesAt o (cond test (Some next) o)
chosen true here o known next same is goes = subst (λ (x : Option Known). GoesAt x (Some next)) (sym (same refl ∙ is)) (ap Some goes.0, goes.1)
chosen false here o known next same is goes = (refl, reflexive_up_to (confirmed_if o))

put_goes : (book : Book) (name : RecordName) (known next : Known) → book name ≡ Some known → Goes known next → BookGoes book (put book name next)
put_goes book name known next there goes other =
    chosen (same_name name other) (book name) (book other) known next (λ e. ap book (sym ((same_names name other).0 e))) there goes

abbrev noting : Book → RecordName → Lesson → Result Learning LearnFault
noting book name l = Ok (noted book name l)

abbrev of_said : Keeps → Book → Request → RecordName → Known → Finding → Result Learning LearnFault
of_said keeps book request name known said = lesson_at keeps book name known (carried request) said >>= noting book name

abbrev of_known : Keeps → Book → Request → Answer → RecordName → Known → Result Learning LearnFault
of_known keeps book request answer name known = finding request answer >>= of_said keeps book request name known

abbrev of_name : Keeps → Book → Request → Answer → RecordName → Result Learning LearnFault
of_name keeps book request answer name = or_fault NoSuchRecord (book name) >>= of_known keeps book request answer name

learnt_goes : (keeps : Keeps) (book : Book) (request : Request) (answer : Answer) (result : Learning) → learn_at keeps book request answer ≡ Ok result → BookGoes book result.book
learnt_goes keeps book request answer result is =
    let (name, named, after_name) = through (or_fault Unfit (subject request)) (of_name keeps book request answer) result is in
    let (known, has, after_known) = through (or_fault NoSuchRecord (book name)) (of_known keeps book request answer name) result after_name in
    let (said, says, after_said) = through (finding request answer) (of_said keeps book request name known) result after_known in
    let (l, teaches, made) = through (lesson_at keeps book name known (carried request) said) (noting book name) result after_said in
    let same : noted book name l ≡ result = cc in
    subst (λ (x : Learning). BookGoes book x.book) same
    (put_goes book name known l.known (was_there NoSuchRecord (book name) known has) (lesson_at_goes keeps book name known (carried request) said l teaches))

after_goes : (keeps : Keeps) (book : Book) (request : Request) (answer : Answer) → BookGoes book (after_learning book (learn_at keeps book request answer))
after_goes keeps book request answer = go (learn_at keeps book request answer) refl
  where
    go : (r : Result Learning LearnFault) → learn_at keeps book request answer ≡ r → BookGoes book (after_learning book r)
    go (Err fault) is = book_stays book
    go (Ok result) is = learnt_goes keeps book request answer result is

-- ---- the connector

pub onward_still : (book : BookMap) → Onward book book
onward_still book = record { names = refl; rows = λ name. refl; confirmed = λ name. reflexive_up_to (confirmed_of (book_of book) name) }

pub onward_more : (old between new : BookMap) → Onward old between → Onward between new → Onward old new
onward_more old between new p q = record {
  names = q.names ∙ p.names;
  rows = λ name. q.rows name ∙ p.rows name;
  confirmed = λ name. transitive_up_to (confirmed_of (book_of old) name) (confirmed_of (book_of between) name) (confirmed_of (book_of new) name) (p.confirmed name) (q.confirmed name);
}

module _ {J : Type 0} (g : Ghosts J) (service : Service) (request : Request) where
  learns_onward : (answer : Answer) (result : Result Learnt LearnFault) (old new : State J) → Learns g service.keeps request answer result old new → Onward old.book new.book
  learns_onward answer (Ok learnt) old new l =
      let goes = after_goes service.keeps (book_of old.book) request answer in
      record {
        names = l.names;
        rows = λ name. ap (λ (b : Book). wanted_row b name) l.ok ∙ (goes name).0;
        confirmed = λ name. subst (λ (b : Book). confirmed_of (book_of old.book) name ≼ confirmed_of b name) (sym l.ok) (goes name).1;
      }
  learns_onward answer (Err fault) old new l = subst (λ (b : BookMap). Onward old.book b) (sym l.err) (onward_still old.book)

  pub becomes_onward : (came : Came) (old new : State J) → Becomes g service request came old new → Onward old.book new.book
  becomes_onward (answered answer learnt) old new l = learns_onward (taken_from service.is_versioned answer) learnt old new l
  becomes_onward (lost fault) old new same = subst (λ (s : State J). Onward old.book s.book) (sym same) (onward_still old.book)
