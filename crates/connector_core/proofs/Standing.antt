-- What an answer stands for where no revision is shown.
use Rattle.std.proofs.Common.{◌≡◌, ◌≢◌, ℕ, ℤ, zero, suc, Bool, true, false, ◌&&◌, cond, ◌==◌, List, [], ◌∷◌, map, Option, Some, None, Result, Ok, Err, inl, inr, refl, ap, sym, ◌∙◌, subst}
use Rattle.std.proofs.lemmas.Bool.{cases_Bool}
use Rattle.std.specs.List.{slice_get}
use Rattle.std.specs.Option.{option_map}
use Rattle.scim_key.proofs.RecordLaws.{same as same_names}
use Rattle.scim_key.specs.Outcome.{◌>>=◌}
use Rattle.scim_key.specs.Revisions.{RevisionValue, no_revision}
use Rattle.scim_key.specs.declared.records.RecordName.{RecordName}
use Rattle.scim_key.specs.declared.records.Kind.{Kind}
use Rattle.scim_version.specs.declared.conditions.Condition.{Condition}
use Rattle.scim_resource.specs.Contents.{content_name, content_revision, content_with}
use Rattle.scim_resource.specs.Rows.{ShownRecord, shown_under}
use Rattle.scim_resource.specs.declared.contents.Content.{Content}
use Rattle.scim_resource.specs.declared.contents.Content.TheVariants as contents
use Rattle.scim_filter.specs.Expressions.{Expression}
use Rattle.scim_message.specs.Messages.{answer_under}
use Rattle.scim_message.specs.declared.messages.Request.{Request}
use Rattle.scim_message.specs.declared.messages.Request.TheVariants.{Create, Retrieve, Search, Replace}
use Rattle.scim_message.specs.declared.messages.Answer.{Answer}
use Rattle.scim_message.specs.declared.messages.Answer.TheVariants.{Created, Found, Replaced, NotModified, Error}
use Rattle.scim_message.specs.declared.messages.Answer.TheVariants as answers
use Rattle.comparing.specs.Aspects.{is_active, same_flag}
use Rattle.connector_core.specs.Book.{Book, forgotten, put}
use Rattle.connector_core.specs.History.{same_name}
use Rattle.connector_core.specs.Keeps.{answer_with, asked_lesson, carried, filled, filling, forgot, learn_at, lesson_at, lesson_under, no_version, only_seen, resources_of, says, shown_with, standing_for, unseen}
use Rattle.connector_core.specs.declared.keeps.Keeps.{Keeps}
use Rattle.connector_core.specs.declared.keeps.Keeps.TheVariants.{Revisions, Versions}
use Rattle.connector_core.specs.Laws.{IsAnother, StandForWhatWasAsked}
use Rattle.connector_core.specs.Learning.{Finding, Shows, Shows_none, Taken, Stale, Learning, Lesson, absent, after_learning, differing, fault_unless, finding, forgetting, is_absent, is_under, learn, lesson, listed, none_sighted, noted, nothing_new, or_fault, shown_lesson, subject}
use Rattle.connector_core.specs.State.{entry_of}
use Rattle.connector_core.specs.declared.knowledge.Known.{Known}
use Rattle.connector_core.specs.declared.learning.LearnFault.{LearnFault}
use Rattle.connector_core.specs.declared.learning.LearnFault.TheVariants.{Unfit, Unversioned, NoSuchRecord}

revision-with : (r : Option RevisionValue) (c : Content) → content_revision (content_with r c) ≡ r
revision-with r (contents.User u) = refl
revision-with r (contents.Group g) = refl

-- a refusal shows no resource
refusal-shows : (b : Bool) (said : Finding) (fault : LearnFault) (s : ShownRecord) → (said ≡ Shows s → ⊥) → cond b (Ok said) (Err fault) ≡ Ok (Shows s) → ⊥
refusal-shows true said fault s other is = other (cc)
refusal-shows false said fault s other is = cc

same-content : (c : Content) (x s : ShownRecord) → Shows (record x { content = c }) ≡ Shows s → s.content ≡ c
same-content c x s is = let same : record x { content = c } ≡ s = cc in sym (ap (λ (t : ShownRecord). t.content) same)

created : (c : Content) (answer : Answer) (s : ShownRecord) → finding (Create c) (filled (Create c) answer) ≡ Ok (Shows s) → s.content ≡ c
created c (Created x) s is = same-content c x s (cc)
created c (Found x) s is = absurd (cc)
created c (Replaced x) s is = absurd (cc)
created c (answers.List list) s is = absurd (cc)
created c (NotModified kind id version) s is = absurd (cc)
created c (Error error) s is = absurd (refusal-shows _ Taken _ s (λ e. cc) is)

replaced : (id : List ℕ) (c : Content) (m n : Condition) (answer : Answer) (s : ShownRecord) → finding (Replace id c m n) (filled (Replace id c m n) answer) ≡ Ok (Shows s) → s.content ≡ c
replaced id c m n (Created x) s is = absurd (cc)
replaced id c m n (Found x) s is = absurd (cc)
replaced id c m n (Replaced x) s is = same-content c x s (cc)
replaced id c m n (answers.List list) s is = absurd (cc)
replaced id c m n (NotModified kind i version) s is = absurd (cc)
replaced id c m n (Error error) s is = absurd (refusal-shows _ (Stale m) _ s (λ e. cc) is)

-- the only resource of a list stands at no revision
listed-none : (total : ℕ) (xs : List ShownRecord) (s : ShownRecord) → listed total (map (shown_with (Some no_revision)) xs) ≡ Ok (Shows s) → content_revision s.content ≡ Some no_revision
listed-none total [] s is = absurd (refusal-shows (total == 0) Shows_none Unfit s (λ e. cc) is)
listed-none total (x ∷ []) s is = elim (cases_Bool (total == 1)) [
  | inl e ↦
      let shown : Ok (Shows (shown_with (Some no_revision) x)) ≡ Ok (Shows s) = rw e at is in
      let same : shown_with (Some no_revision) x ≡ s = cc in
      sym (ap (λ (t : ShownRecord). content_revision t.content) same) ∙ revision-with (Some no_revision) x.content
  | inr e ↦ absurd (cc (rw e at is))
]
listed-none total (x ∷ y ∷ more) s is = absurd (cc)

searched : (kind : Kind) (wanted : Option Expression) (start : ℤ) (count : Option ℤ) (answer : Answer) (s : ShownRecord)
    → finding (Search kind wanted start count) (filled (Search kind wanted start count) answer) ≡ Ok (Shows s) → content_revision s.content ≡ Some no_revision
searched kind wanted start count (Created x) s is = absurd (cc)
searched kind wanted start count (Found x) s is = absurd (cc)
searched kind wanted start count (Replaced x) s is = absurd (cc)
searched kind wanted start count (answers.List list) s is = listed-none list.total list.resources s is
searched kind wanted start count (NotModified k id version) s is = absurd (cc)
searched kind wanted start count (Error error) s is = absurd (cc)

-- ---- an answer with something else in place of each resource

abbrev pub said_with : (ShownRecord → ShownRecord) → Finding → Finding
said_with f (Shows s) = Shows (f s)
said_with f Shows_none = Shows_none
said_with f Taken = Taken
said_with f (Stale if_match) = Stale if_match

listed_with : (f : ShownRecord → ShownRecord) (total : ℕ) (xs : List ShownRecord) (said : Finding) → listed total xs ≡ Ok said → listed total (map f xs) ≡ Ok (said_with f said)
listed_with f total [] said is = go (total == 0) is
  where
    go : (b : Bool) → cond b (Ok Shows_none) (Err Unfit) ≡ Ok said → cond b (Ok Shows_none) (Err Unfit) ≡ Ok (said_with f said)
    go true was = let same : Shows_none ≡ said = cc in ap (λ (x : Finding). Ok (said_with f x)) same
    go false was = absurd (cc)
listed_with f total (x ∷ []) said is = go (total == 1) is
  where
    go : (b : Bool) → cond b (Ok (Shows x)) (Err Unfit) ≡ Ok said → cond b (Ok (Shows (f x))) (Err Unfit) ≡ Ok (said_with f said)
    go true was = let same : Shows x ≡ said = cc in ap (λ (y : Finding). Ok (said_with f y)) same
    go false was = absurd (cc)
listed_with f total (x ∷ y ∷ more) said is = absurd (cc)

-- a refusal shows no resource
refused_with : (f : ShownRecord → ShownRecord) (b : Bool) (shows said : Finding) (fault : LearnFault) → said_with f shows ≡ shows → cond b (Ok shows) (Err fault) ≡ Ok said → cond b (Ok shows) (Err fault) ≡ Ok (said_with f said)
refused_with f true shows said fault fixed is =
    let same : shows ≡ said = cc in
    ap Ok (sym fixed ∙ ap (said_with f) same)
refused_with f false shows said fault fixed is = absurd (cc)

pub finding_with : (f : ShownRecord → ShownRecord) (request : Request) (answer : Answer) (said : Finding) → finding request answer ≡ Ok said → finding request (answer_with f answer) ≡ Ok (said_with f said)
finding_with f (Create c) (Created s) said is = let same : Shows s ≡ said = cc in ap (λ (x : Finding). Ok (said_with f x)) same
finding_with f (Create c) (Found s) said is = absurd (cc)
finding_with f (Create c) (Replaced s) said is = absurd (cc)
finding_with f (Create c) (answers.List list) said is = absurd (cc)
finding_with f (Create c) (NotModified kind id version) said is = absurd (cc)
finding_with f (Create c) (Error error) said is = refused_with f _ Taken said _ refl is
finding_with f (Retrieve kind id m n) answer said is = absurd (cc)
finding_with f (Search kind wanted start count) (Created s) said is = absurd (cc)
finding_with f (Search kind wanted start count) (Found s) said is = absurd (cc)
finding_with f (Search kind wanted start count) (Replaced s) said is = absurd (cc)
finding_with f (Search kind wanted start count) (answers.List list) said is = listed_with f list.total list.resources said is
finding_with f (Search kind wanted start count) (NotModified k id version) said is = absurd (cc)
finding_with f (Search kind wanted start count) (Error error) said is = absurd (cc)
finding_with f (Replace id c m n) (Created s) said is = absurd (cc)
finding_with f (Replace id c m n) (Found s) said is = absurd (cc)
finding_with f (Replace id c m n) (Replaced s) said is = let same : Shows s ≡ said = cc in ap (λ (x : Finding). Ok (said_with f x)) same
finding_with f (Replace id c m n) (answers.List list) said is = absurd (cc)
finding_with f (Replace id c m n) (NotModified kind i version) said is = absurd (cc)
finding_with f (Replace id c m n) (Error error) said is = refused_with f _ (Stale m) said _ refl is

-- ---- one step after the other

-- a chain of steps that succeeded went through its first
pub through : {A B : Type 0} (r : Result A LearnFault) (f : A → Result B LearnFault) (y : B) → (r >>= f) ≡ Ok y → (x : A) × (r ≡ Ok x) × (f x ≡ Ok y)
through (Ok x) f y is = (x, refl, is)
through (Err fault) f y is = absurd (cc)

pub was_there : {A : Type 0} (fault : LearnFault) (o : Option A) (x : A) → or_fault fault o ≡ Ok x → o ≡ Some x
was_there fault None x is = absurd (cc)
was_there fault (Some y) x is = cc

pub passed : (fault : LearnFault) (b c : Bool) → fault_unless fault b ≡ Ok c → b ≡ true
passed fault true c is = refl
passed fault false c is = absurd (cc)

abbrev pub taught_at : Keeps → Book → Request → RecordName → Known → Finding → Result Learning LearnFault
taught_at keeps book request name known said = lesson_at keeps book name known (carried request) said >>= λ l. Ok (noted book name l)

abbrev pub told_at : Keeps → Book → Request → Answer → RecordName → Known → Result Learning LearnFault
told_at keeps book request answer name known = finding request answer >>= taught_at keeps book request name known

abbrev pub told_of_at : Keeps → Book → Request → Answer → RecordName → Result Learning LearnFault
told_of_at keeps book request answer name = or_fault NoSuchRecord (book name) >>= told_at keeps book request answer name

-- what is said about a record is learnt about it
pub learn_is : (keeps : Keeps) (book : Book) (request : Request) (answer : Answer) (name : RecordName) (known : Known) (said : Finding) → subject request ≡ Some name → book name ≡ Some known
    → finding request answer ≡ Ok said → learn_at keeps book request answer ≡ taught_at keeps book request name known said
learn_is keeps book request answer name known said about in_book says =
    ap (λ (o : Option RecordName). or_fault Unfit o >>= told_of_at keeps book request answer) about
    ∙ ap (λ (o : Option Known). or_fault NoSuchRecord o >>= told_at keeps book request answer name) in_book
    ∙ ap (λ (r : Result Finding LearnFault). r >>= taught_at keeps book request name known) says

-- an answer from which something is learnt, step by step
pub record Steps (keeps : Keeps) (book : Book) (request : Request) (answer : Answer) (learning : Learning) : Type 0 where
  pub name : RecordName
  pub known : Known
  pub said : Finding
  pub lesson : Lesson
  pub about : subject request ≡ Some name
  pub in_book : book name ≡ Some known
  pub says : finding request answer ≡ Ok said
  pub teaches : lesson_at keeps book name known (carried request) said ≡ Ok lesson
  pub made : noted book name lesson ≡ learning

pub steps_of : (keeps : Keeps) (book : Book) (request : Request) (answer : Answer) (learning : Learning) → learn_at keeps book request answer ≡ Ok learning → Steps keeps book request answer learning
steps_of keeps book request answer learning is =
    let (name, about, after_name) = through (or_fault Unfit (subject request)) (told_of_at keeps book request answer) learning is in
    let (known, in_book, after_known) = through (or_fault NoSuchRecord (book name)) (told_at keeps book request answer name) learning after_name in
    let (said, says, after_said) = through (finding request answer) (taught_at keeps book request name known) learning after_known in
    let (l, teaches, made) = through (lesson_at keeps book name known (carried request) said) (λ l. Ok (noted book name l)) learning after_said in
    record {
      name = name;
      known = known;
      said = said;
      lesson = l;
      about = was_there Unfit (subject request) name about;
      in_book = was_there NoSuchRecord (book name) known in_book;
      says = says;
      teaches = teaches;
      made = cc;
    }

-- ---- what is learnt is what was asked

pub under_a_tag : (tag : Option (List ℕ)) (book : Book) (name : RecordName) (known : Known) (s : ShownRecord) (l : Lesson) → tag ≢ None → lesson_under tag book name known s ≡ Ok l
    → shown_lesson book name known s ≡ Ok l
under_a_tag None book name known s l some is = absurd (some refl)
under_a_tag (Some tag) book name known s l some is = is

-- what is learnt without a tag
pub record Untagged (book : Book) (name : RecordName) (known : Known) (s : ShownRecord) (l : Lesson) : Type 0 where
  pub tagged : Lesson
  pub learns : shown_lesson book name known (shown_under no_version s) ≡ Ok tagged
  pub is : unseen tagged ≡ l

pub under_no_tag : (book : Book) (name : RecordName) (known : Known) (s : ShownRecord) (l : Lesson) → lesson_under None book name known s ≡ Ok l → Untagged book name known s l
under_no_tag book name known s l is =
    let (tagged, learns, made) = through (shown_lesson book name known (shown_under no_version s)) (λ x. Ok (unseen x)) l is in
    record { tagged = tagged; learns = learns; is = cc }

module _ (book : Book) (name : RecordName) (known : Known) (l : Lesson) where
  -- an answer to what carried a content shows what was asked
  pub was_asked : (c : Content) (s : ShownRecord) → asked_lesson book name known c s ≡ Ok l → (says name c s ≡ true) × (lesson_under s.version book name known (standing_for c s) ≡ Ok l)
  was_asked c s is =
      let (b, test, after) = through (fault_unless Unfit (says name c s)) (λ _. lesson_under s.version book name known (standing_for c s)) l is in
      (passed Unfit (says name c s) b test, after)

  asked_said : (c : Content) (f : ShownRecord → ShownRecord) → ((s : ShownRecord) → f s ≡ standing_for c s) → (said : Finding) → ((s : ShownRecord) → said ≡ Shows s → s.version ≢ None)
      → lesson_at Versions book name known (Some c) said ≡ Ok l → lesson book name known (said_with f said) ≡ Ok l
  asked_said c f same (Shows s) tagged is =
      ap (shown_lesson book name known) (same s) ∙ under_a_tag s.version book name known (standing_for c s) l (tagged s refl) (was_asked c s is).1
  asked_said c f same Shows_none tagged is = is
  asked_said c f same Taken tagged is = is
  asked_said c f same (Stale if_match) tagged is = is

  pub filled_lesson : (request : Request) (c : Content) (said : Finding) → carried request ≡ Some c → ((s : ShownRecord) → said ≡ Shows s → s.version ≢ None)
      → lesson_at Versions book name known (carried request) said ≡ Ok l → lesson book name known (said_with (filling request) said) ≡ Ok l
  filled_lesson (Create content) c said has tagged is = asked_said content (filling (Create content)) (λ s. refl) said tagged is
  filled_lesson (Retrieve kind id m n) c said has tagged is = absurd (cc)
  filled_lesson (Search kind wanted start count) c said has tagged is = absurd (cc)
  filled_lesson (Replace id content m n) c said has tagged is = asked_said content (filling (Replace id content m n)) (λ s. refl) said tagged is

learnt : (book : Book) (request : Request) (c : Content) (answer : Answer) (learning : Learning) → carried request ≡ Some c → ((s : ShownRecord) → finding request answer ≡ Ok (Shows s) → s.version ≢ None)
    → learn_at Versions book request answer ≡ Ok learning → learn book request (filled request answer) ≡ Ok learning
learnt book request c answer learning has tagged is =
    let t = steps_of Versions book request answer learning is in
    learn_is Revisions book request (filled request answer) t.name t.known (said_with (filling request) t.said) t.about t.in_book (finding_with (filling request) request answer t.said t.says)
    ∙ ap (λ (r : Result Lesson LearnFault). r >>= λ l. Ok (noted book t.name l))
    (filled_lesson book t.name t.known t.lesson request c t.said has (λ s says. tagged s (t.says ∙ ap Ok says)) t.teaches)
    ∙ ap Ok t.made

-- the record is the content's
its_name : (request : Request) (c : Content) (name : RecordName) → carried request ≡ Some c → subject request ≡ Some name → content_name c ≡ name
its_name (Create content) c name has about = cc
its_name (Retrieve kind id m n) c name has about = absurd (cc)
its_name (Search kind wanted start count) c name has about = absurd (cc)
its_name (Replace id content m n) c name has about = cc

put_there : (book : Book) (name : RecordName) (known : Known) → put book name known name ≡ Some known
put_there book name known = ap (λ (b : Bool). cond b (Some known) (book name)) ((same_names name name).1 refl)

-- what is learnt under a tag that stands in
record Tagged (book : Book) (request : Request) (answer : Answer) (name : RecordName) (learning : Learning) : Type 0 where
  tagged : Learning
  learns : learn_at Versions book request (answer_under no_version answer) ≡ Ok tagged
  learnt : learning.learnt ≡ tagged.learnt
  forgets : learning.book name ≡ option_map forgotten (tagged.book name)

module _ (book : Book) (request : Request) (c : Content) (answer : Answer) (learning : Learning) (s : ShownRecord) (has : carried request ≡ Some c) (shows : finding request answer ≡ Ok (Shows s))
    (none : s.version ≡ None) (t : Steps Versions book request answer learning) where
  asked_so : asked_lesson book t.name t.known c s ≡ Ok t.lesson
  asked_so =
      let same : t.said ≡ Shows s = let both : ◌≡◌ {A = Result Finding LearnFault} (Ok t.said) (Ok (Shows s)) = sym t.says ∙ shows in cc in
      ap (λ (o : Option Content). lesson_at Versions book t.name t.known o (Shows s)) (sym has) ∙ ap (lesson_at Versions book t.name t.known (carried request)) (sym same) ∙ t.teaches

  teaches_untagged : (says t.name c s ≡ true) × Untagged book t.name t.known (standing_for c s) t.lesson
  teaches_untagged =
      let (test, learns) = was_asked book t.name t.known t.lesson c s asked_so in
      (test, under_no_tag book t.name t.known (standing_for c s) t.lesson (ap (λ (o : Option (List ℕ)). lesson_under o book t.name t.known (standing_for c s)) (sym none) ∙ learns))

  unseen_so : Tagged book request answer t.name learning
  unseen_so =
      let (test, u) = teaches_untagged in
      let under = shown_under no_version s in
      let m = u.tagged in
      record {
        tagged = noted book t.name m;
        learns =
            learn_is Versions book request (answer_under no_version answer) t.name t.known (Shows under) t.about t.in_book (finding_with (shown_under no_version) request answer (Shows s) shows)
            ∙ ap (λ (o : Option Content). lesson_at Versions book t.name t.known o (Shows under) >>= λ l. Ok (noted book t.name l)) has
            ∙ ap (λ (b : Bool). (fault_unless Unfit b >>= λ _. shown_lesson book t.name t.known (standing_for c under)) >>= λ l. Ok (noted book t.name l)) test
            ∙ ap (λ (r : Result Lesson LearnFault). r >>= λ l. Ok (noted book t.name l)) u.learns;
        learnt = ap (λ (x : Learning). x.learnt) (sym t.made) ∙ ap (λ (l : Lesson). l.learnt) (sym u.is);
        forgets =
            ap (λ (x : Learning). x.book t.name) (sym t.made) ∙ put_there book t.name t.lesson.known ∙ ap (λ (l : Lesson). Some l.known) (sym u.is)
            ∙ ap (option_map forgotten) (sym (put_there book t.name m.known));
      }

out_of_sight : (book : Book) (request : Request) (c : Content) (answer : Answer) (learning : Learning) (s : ShownRecord) → carried request ≡ Some c → finding request answer ≡ Ok (Shows s) → s.version ≡ None
    → learn_at Versions book request answer ≡ Ok learning
    → (tagged : Learning) × (learn_at Versions book request (answer_under no_version answer) ≡ Ok tagged) × (learning.learnt ≡ tagged.learnt)
    × (learning.book (content_name c) ≡ option_map forgotten (tagged.book (content_name c)))
out_of_sight book request c answer learning s has shows none is =
    let t = steps_of Versions book request answer learning is in
    let u = subst (λ (name : RecordName). Tagged book request answer name learning) (sym (its_name request c t.name has t.about)) (unseen_so book request c answer learning s has shows none t) in
    (u.tagged, u.learns, u.learnt, u.forgets)

-- ---- a search

-- what was tested of a resource that is only seen
pub record Sights (name : RecordName) (s : ShownRecord) : Type 0 where
  pub named : same_name name (content_name s.content) ≡ true
  pub tag : List ℕ
  pub tagged : s.version ≡ Some tag

pub was_seen : (name : RecordName) (known : Known) (s : ShownRecord) (l : Lesson) → only_seen name known s ≡ Ok l
    → (seen : Sights name s) × (l ≡ differing known (record { id = s.id; revision = no_revision; tag = seen.tag }))
was_seen name known s l is =
    let f : Bool → Result Lesson LearnFault = λ _. or_fault Unversioned s.version >>= λ tag. Ok (differing known (record { id = s.id; revision = no_revision; tag = tag })) in
    let (b, test, after) = through (fault_unless Unfit (same_name name (content_name s.content))) f l is in
    let (tag, has, made) = through (or_fault Unversioned s.version) (λ tag. Ok (differing known (record { id = s.id; revision = no_revision; tag = tag }))) l after in
    (record { named = passed Unfit (same_name name (content_name s.content)) b test; tag = tag; tagged = was_there Unversioned s.version tag has }, cc)

none_sighted_entry : (id : Option (List ℕ)) (known : Known) → entry_of (none_sighted id known).known ≡ entry_of known
none_sighted_entry None known = refl
none_sighted_entry (Some id) known = go known.is_doubted
  where
    go : (doubted : Bool) → entry_of (cond doubted (absent known) (nothing_new known)).known ≡ entry_of known
    go true = refl
    go false = refl

forgetting_entry : (concerned : Bool) (known : Known) → entry_of (forgetting concerned known).known ≡ entry_of known
forgetting_entry true known = refl
forgetting_entry false known = refl

same_entry : (known : Known) (a l : Lesson) → a ≡ l → entry_of a.known ≡ entry_of known → entry_of l.known ≡ entry_of known
same_entry known a l one same = ap (λ (x : Lesson). entry_of x.known) (sym one) ∙ same

sought_entry : (book : Book) (name : RecordName) (known : Known) (l : Lesson) (said : Finding) → lesson_at Versions book name known None said ≡ Ok l → entry_of l.known ≡ entry_of known
sought_entry book name known l (Shows s) is =
    let (seen, made) = was_seen name known s l is in
    same_entry known (differing known (record { id = s.id; revision = no_revision; tag = seen.tag })) l (sym made) refl
sought_entry book name known l Shows_none is = same_entry known (none_sighted known.id known) l (cc) (none_sighted_entry known.id known)
sought_entry book name known l Taken is = same_entry known (forgetting (is_absent known.seen) known) l (cc) (forgetting_entry (is_absent known.seen) known)
sought_entry book name known l (Stale if_match) is = same_entry known (forgetting (is_under if_match known.seen) known) l (cc) (forgetting_entry (is_under if_match known.seen) known)

put_entry : (book : Book) (name : RecordName) (known now : Known) (q : RecordName) → book name ≡ Some known → entry_of now ≡ entry_of known → option_map entry_of (put book name now q) ≡ option_map entry_of (book q)
put_entry book name known now q in_book same = elim (cases_Bool (same_name name q)) [
  | inl e ↦
      let its : name ≡ q = (same_names name q).0 e in
      rw e (ap Some same ∙ sym (ap (option_map entry_of) (ap book (sym its) ∙ in_book)))
  | inr e ↦ rw e refl
]

searches_only_see : (book : Book) (request : Request) (answer : Answer) (name : RecordName) → carried request ≡ None
    → option_map entry_of (after_learning book (learn_at Versions book request answer) name) ≡ option_map entry_of (book name)
searches_only_see book request answer q none = go (learn_at Versions book request answer) refl
  where
    go : (r : Result Learning LearnFault) → learn_at Versions book request answer ≡ r → option_map entry_of (after_learning book r q) ≡ option_map entry_of (book q)
    go (Err fault) is = refl
    go (Ok learning) is =
        let t = steps_of Versions book request answer learning is in
        ap (λ (x : Learning). option_map entry_of (x.book q)) (sym t.made)
        ∙ put_entry book t.name t.known t.lesson.known q t.in_book
        (sought_entry book t.name t.known t.lesson t.said (ap (λ (o : Option Content). lesson_at Versions book t.name t.known o t.said) (sym none) ∙ t.teaches))

-- ---- what isn't what was asked

flag_test : (a b : Bool) → (b ≡ a → ⊥) → same_flag a b ≡ false
flag_test true true other = absurd (other refl)
flag_test true false other = refl
flag_test false true other = refl
flag_test false false other = absurd (other refl)

and_false : (a b : Bool) → b ≡ false → (a && b) ≡ false
and_false true b is = is
and_false false b is = refl

another : (c : Content) (s : ShownRecord) → IsAnother c s.content → says (content_name c) c s ≡ false
another c s (inl name) = elim (cases_Bool (same_name (content_name c) (content_name s.content))) [
  | inl same ↦ absurd (name (sym ((same_names (content_name c) (content_name s.content)).0 same)))
  | inr other ↦ rw other refl
]
another c s (inr active) = and_false (same_name (content_name c) (content_name s.content)) (same_flag (is_active c) (is_active s.content)) (flag_test (is_active c) (is_active s.content) active)

module _ (book : Book) (name : RecordName) (known : Known) (c : Content) (s : ShownRecord) (other : says name c s ≡ false) where
  -- nothing is learnt from it
  unasked : asked_lesson book name known c s ≡ Err Unfit
  unasked = ap (λ (b : Bool). fault_unless Unfit b >>= λ _. lesson_under s.version book name known (standing_for c s)) other

one_of : (x s : ShownRecord) (place : ℕ) → slice_get (x ∷ []) place ≡ Some s → x ≡ s
one_of x s zero at = cc
one_of x s (suc place) at = absurd (cc)

module _ (book : Book) (c : Content) (s : ShownRecord) (known : Known) (in_book : book (content_name c) ≡ Some known) (other : IsAnother c s.content) where
  refused_one : (request : Request) (answer : Answer) (x : ShownRecord) (place : ℕ) → subject request ≡ Some (content_name c) → carried request ≡ Some c → finding request answer ≡ Ok (Shows x)
      → slice_get (x ∷ []) place ≡ Some s → learn_at Versions book request answer ≡ Err Unfit
  refused_one request answer x place about has says_one at =
      learn_is Versions book request answer (content_name c) known (Shows x) about in_book says_one
      ∙ ap (λ (o : Option Content). lesson_at Versions book (content_name c) known o (Shows x) >>= λ l. Ok (noted book (content_name c) l)) has
      ∙ ap (λ (r : Result Lesson LearnFault). r >>= λ l. Ok (noted book (content_name c) l))
      (unasked book (content_name c) known c x (ap (says (content_name c) c) (one_of x s place at) ∙ another c s other))

  unfit : (request : Request) (answer : Answer) → subject request ≡ Some (content_name c) → finding request answer ≡ Err Unfit → learn_at Versions book request answer ≡ Err Unfit
  unfit request answer about says_none =
      ap (λ (o : Option RecordName). or_fault Unfit o >>= told_of_at Versions book request answer) about
      ∙ ap (λ (o : Option Known). or_fault NoSuchRecord o >>= told_at Versions book request answer (content_name c)) in_book
      ∙ ap (λ (r : Result Finding LearnFault). r >>= taught_at Versions book request (content_name c) known) says_none

  refused_creation : (answer : Answer) (place : ℕ) → slice_get (resources_of answer) place ≡ Some s → learn_at Versions book (Create c) answer ≡ Err Unfit
  refused_creation (Created x) place at = refused_one (Create c) (Created x) x place refl refl refl at
  refused_creation (Found x) place at = unfit (Create c) (Found x) refl refl
  refused_creation (Replaced x) place at = unfit (Create c) (Replaced x) refl refl
  refused_creation (answers.List list) place at = unfit (Create c) (answers.List list) refl refl
  refused_creation (NotModified kind id version) place at = absurd (cc)
  refused_creation (Error error) place at = absurd (cc)

  refused_replacement : (id : List ℕ) (m n : Condition) (answer : Answer) (place : ℕ) → slice_get (resources_of answer) place ≡ Some s → learn_at Versions book (Replace id c m n) answer ≡ Err Unfit
  refused_replacement id m n (Created x) place at = unfit (Replace id c m n) (Created x) refl refl
  refused_replacement id m n (Found x) place at = unfit (Replace id c m n) (Found x) refl refl
  refused_replacement id m n (Replaced x) place at = refused_one (Replace id c m n) (Replaced x) x place refl refl refl at
  refused_replacement id m n (answers.List list) place at = unfit (Replace id c m n) (answers.List list) refl refl
  refused_replacement id m n (NotModified kind i version) place at = absurd (cc)
  refused_replacement id m n (Error error) place at = absurd (cc)

refused : (book : Book) (request : Request) (c : Content) (answer : Answer) (place : ℕ) (s : ShownRecord) (known : Known) → carried request ≡ Some c → book (content_name c) ≡ Some known
    → slice_get (resources_of answer) place ≡ Some s → IsAnother c s.content → learn_at Versions book request answer ≡ Err Unfit
refused book (Create content) c answer place s known has in_book at other =
    let same : content ≡ c = cc in
    ap (λ (x : Content). learn_at Versions book (Create x) answer) same ∙ refused_creation book c s known in_book other answer place at
refused book (Retrieve kind id m n) c answer place s known has in_book at other = absurd (cc)
refused book (Search kind wanted start count) c answer place s known has in_book at other = absurd (cc)
refused book (Replace id content m n) c answer place s known has in_book at other =
    let same : content ≡ c = cc in
    ap (λ (x : Content). learn_at Versions book (Replace id x m n) answer) same ∙ refused_replacement book c s known in_book other id m n answer place at

-- ---- what a provider forgets

resources-with : (f : ShownRecord → ShownRecord) (answer : Answer) → resources_of (answer_with f answer) ≡ map f (resources_of answer)
resources-with f (Created s) = refl
resources-with f (Found s) = refl
resources-with f (Replaced s) = refl
resources-with f (answers.List list) = refl
resources-with f (NotModified kind id version) = refl
resources-with f (Error error) = refl

mapped : (xs : List ShownRecord) (place : ℕ) (s : ShownRecord) → slice_get (map (shown_with None) xs) place ≡ Some s → content_revision s.content ≡ None
mapped [] place s at = absurd (cc)
mapped (x ∷ xs) zero s at =
    let same : shown_with None x ≡ s = cc in
    sym (ap (λ (t : ShownRecord). content_revision t.content) same) ∙ revision-with None x.content
mapped (x ∷ xs) (suc place) s at = mapped xs place s at

shows_none : (answer : Answer) (place : ℕ) (s : ShownRecord) → slice_get (resources_of (forgot answer)) place ≡ Some s → content_revision s.content ≡ None
shows_none answer place s at =
    mapped (resources_of answer) place s (subst (λ (xs : List ShownRecord). slice_get xs place ≡ Some s) (resources-with (shown_with None) answer) at)

pub stand_for_what_was_asked : StandForWhatWasAsked
stand_for_what_was_asked = record {
  created = created;
  replaced = replaced;
  learnt = learnt;
  out_of_sight = out_of_sight;
  searched = searched;
  only_seen = searches_only_see;
  refused = refused;
  forgotten = shows_none;
}
