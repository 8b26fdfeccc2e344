-- What is learnt: what the journal is to keep of it, and what the book and the journal are afterwards.
use Rattle.std.proofs.Common.{◌≡◌, ◌≢◌, ◌⊎◌, ℕ, cond, List, Bool, true, false, not, Option, Some, None, IsSome, Result, Ok, Err, IfOk, IfErr, OnOk, OnErr, refl, ap, sym, subst, ◌∙◌, inl, inr}
use Rattle.std.proofs.lemmas.Bool.{cases_Bool}
use Rattle.std.specs.FinMap.{get, insert, keys, get-insert, same_map}
use Rattle.std.specs.Option.{option_map}
use Rattle.std.specs.Ordering.{is_eq, ordering_reverse}
use Rattle.std.specs.declared.cmp.Ordering.{Ordering}
use Rattle.std.specs.declared.cmp.Ordering.TheVariants.{Less, Equal, Greater}
use Rattle.scim_key.proofs.RevisionLaws.{irreflexive, none_before, later_above_first, later_above_second, later_is_one, total, transitive_up_to}
use Rattle.scim_key.proofs.RecordLaws.{same as same_record}
use Rattle.scim_key.specs.Outcome.{◌>>=◌}
use Rattle.scim_key.specs.RecordOrder.{names_total, tied}
use Rattle.scim_key.specs.Records.{name_cmp}
use Rattle.scim_key.specs.Revisions.{IsNoneOrRevision, IsRevision, RevisionValue, before, later, no_revision, ◌≺◌, ◌≼◌}
use Rattle.scim_key.specs.declared.records.RecordName.{RecordName}
use Rattle.scim_message.specs.declared.messages.Answer.{Answer}
use Rattle.scim_message.specs.declared.messages.Request.{Request}
use Rattle.source_csv.specs.Records.{row_revision}
use Rattle.journal_core.proofs.Trees.{name_from_test, names_same}
use Rattle.journal_core.specs.Entries.{CanPutLearnt, EntryMap, entry_learnt, learnt_at, with_learnt}
use Rattle.journal_core.specs.declared.entries.Entry.{Entry}
use Rattle.connector_core.proofs.Keeping.{kept-put, maps_are_books, names-put}
use Rattle.connector_core.specs.Book.{Book, doubted, doubting, learning, put, seeing}
use Rattle.connector_core.specs.History.{same_name}
use Rattle.connector_core.specs.Keeps.{carried, learn_at, lesson_at}
use Rattle.connector_core.specs.declared.keeps.Keeps.{Keeps}
use Rattle.connector_core.specs.Learning.{Finding, Learning, Lesson, Sight, after_learning, finding, noted, or_fault, seen_at, sighted, subject}
use Rattle.connector_core.specs.Maps.{BookMap, GivesUnless, book_of, changed, changed_at}
use Rattle.connector_core.specs.Noting.{IsFit, IsNewsAt, IsNewsOf, IsNoted, IsNotNoted, IsOfJournal, IsPassing, IsToBeKept, KeepsEntries, MayStandFor, Note, after_news, entries_with, learnt_of, lesson_of, news_learnt, note_at, noted_entries, noted_in}
use Rattle.connector_core.specs.State.{IsKept, entry_of}
use Rattle.connector_core.specs.declared.fitting.News.{News}
use Rattle.connector_core.specs.declared.fitting.News.TheVariants.{Lasting, Passing, Nothing}
use Rattle.connector_core.specs.declared.knowledge.Known.{Known}
use Rattle.connector_core.specs.declared.knowledge.Seen.{Seen}
use Rattle.connector_core.specs.declared.learning.LearnFault.{LearnFault}
use Rattle.connector_core.specs.declared.learning.LearnFault.TheVariants.{Unfit, Unversioned, Refused, NoSuchRecord, Store, Memory}
use Rattle.connector_core.specs.declared.learning.Learnt.{Learnt}
use Rattle.connector_core.specs.declared.learning.Learnt.TheVariants as learnts

-- ---- what the journal is to keep

before-up-to : (a b c : RevisionValue) → a ≺ b → b ≼ c → a ≺ c
before-up-to a b c lt le = elim (cases_Bool (before a c)) [
  | inl comes ↦ comes
  | inr not ↦ (let back : before a b ≡ false = transitive_up_to b c a le not in absurd (cc))
]

confirms-later : (a b : RevisionValue) → IsRevision b → IsNoneOrRevision a → IsRevision (later a b)
confirms-later a b lawful known = elim (later_is_one a b) [
  | inl is ↦ rw is (elim known [
    | inl none ↦ absurd (irreflexive no_revision (subst (λ r. no_revision ≺ r) (is ∙ none) (before-up-to no_revision b (later a b) (none_before b lawful) (later_above_second a b))))
    | inr valid ↦ valid
  ])
  | inr is ↦ rw is lawful
]

within-later : (a b w : RevisionValue) → b ≼ w → a ≼ w → later a b ≼ w
within-later a b w second first = elim (later_is_one a b) [
  | inl is ↦ rw is first
  | inr is ↦ rw is second
]

-- a revision that isn't below another is the later of the two
later_stays : (a b : RevisionValue) → before a b ≡ false → later a b ≡ a
later_stays a b not = elim (later_is_one a b) [
  | inl first ↦ first
  | inr second ↦ second ∙ total b a not (subst (λ r. a ≼ r) second (later_above_first a b))
]

keep-new : (known : Known) (revision : RevisionValue) (id : List ℕ) → IsRevision revision → revision ≼ row_revision known.wanted → known.id ≢ Some id → IsToBeKept known (later known.confirmed revision) id
keep-new known revision id lawful within new = record {
  confirms = confirms-later known.confirmed revision lawful;
  within = λ was. within-later known.confirmed revision (row_revision known.wanted) within was;
  changes = inl new;
}

keep-higher : (known : Known) (revision : RevisionValue) (id : List ℕ) → IsRevision revision → revision ≼ row_revision known.wanted → known.confirmed ≺ revision → IsToBeKept known (later known.confirmed revision) id
keep-higher known revision id lawful within higher = record {
  confirms = confirms-later known.confirmed revision lawful;
  within = λ was. within-later known.confirmed revision (row_revision known.wanted) within was;
  changes = inr (before-up-to known.confirmed revision (later known.confirmed revision) higher (later_above_second known.confirmed revision));
}

-- a resource that fits, with another id or a higher revision, is to be kept
pub to-be-kept : (known : Known) (sight : Sight) → IsFit known sight → (known.id ≢ Some sight.id) ⊎ (known.confirmed ≺ sight.revision)
    → IsToBeKept known (later known.confirmed sight.revision) sight.id
to-be-kept known sight fits (inl other) = keep-new known sight.revision sight.id fits.lawful fits.within other
to-be-kept known sight fits (inr higher) = keep-higher known sight.revision sight.id fits.lawful fits.within higher

-- ---- a record of the book changes

same-cond : (b : Bool) (known : Known) (o here : Option Known) → (b ≡ true → o ≡ here) → here ≡ Some known → cond b (Some known) o ≡ o
same-cond true known o here same is = sym (same refl ∙ is)
same-cond false known o here same is = refl

-- putting what is in the book into it again
pub again : (book : BookMap) (name : RecordName) (known : Known) → get book name ≡ Some known → insert book name known ≡ book
again book name known there = same_map names_total names_same _ _ (λ q. get-insert names_total book name known q
    ∙ same-cond (is_eq (name_cmp q name)) known (get book q) (get book name) (λ same. ap (get book) (name_from_test q name (sym (tied q name) ∙ same))) there)

entry-cond : (b : Bool) (entry : Entry) (o here : Option Entry) → (b ≡ true → o ≡ here) → here ≡ Some entry → cond b (Some entry) o ≡ o
entry-cond true entry o here same is = sym (same refl ∙ is)
entry-cond false entry o here same is = refl

pub entry-again : (entries : EntryMap) (name : RecordName) (entry : Entry) → get entries name ≡ Some entry → insert entries name entry ≡ entries
entry-again entries name entry there = same_map names_total names_same _ _ (λ q. get-insert names_total entries name entry q
    ∙ entry-cond (is_eq (name_cmp q name)) entry (get entries q) (get entries name) (λ same. ap (get entries) (name_from_test q name (sym (tied q name) ∙ same))) there)

module _ (entries : EntryMap) (book : BookMap) (name : RecordName) (known : Known) (is : IsKept entries book) (there : get book name ≡ Some known) where
  entry-there : get entries name ≡ Some (entry_of known)
  entry-there = is.same name ∙ ap (option_map entry_of) there

  pub can-learn : (confirmed : RevisionValue) (id : List ℕ) → IsToBeKept known confirmed id → CanPutLearnt entries name confirmed
  can-learn confirmed id keeps = record {
    entry = entry_of known;
    there = entry-there;
    confirms = keeps.confirms (is.within name known there).known;
    within = keeps.within (is.within name known there).within;
  }

  pub entries-learnt : (confirmed : RevisionValue) (id : List ℕ) (seen : Seen) → with_learnt entries name confirmed id ≡ insert entries name (entry_of (learning confirmed id seen known))
  entries-learnt confirmed id seen = ap (learnt_at entries name confirmed id) entry-there

  pub kept-learnt : (confirmed : RevisionValue) (id : List ℕ) (seen : Seen) → IsToBeKept known confirmed id
      → IsKept (with_learnt entries name confirmed id) (changed (learning confirmed id seen) book name)
  kept-learnt confirmed id seen keeps =
      let K : EntryMap → Type 0 = λ es. IsKept es (changed (learning confirmed id seen) book name) in
      let B : BookMap → Type 0 = λ b. IsKept (insert entries name (entry_learnt confirmed id (entry_of known))) b in
      subst K (sym (entries-learnt confirmed id seen)) (subst B (sym (ap (changed_at (learning confirmed id seen) book name) there))
      (kept-put entries book name (entry_learnt confirmed id (entry_of known)) (learning confirmed id seen known) is refl
      (record { known = inr (keeps.confirms (is.within name known there).known); within = keeps.within (is.within name known there).within })))

  pub entries-seen : (seen : Seen) (doubt : Bool) → entries ≡ insert entries name (entry_of (seeing seen doubt known))
  entries-seen seen doubt = sym (entry-again entries name (entry_of known) entry-there)

  pub kept-seen : (seen : Seen) (doubt : Bool) → IsKept entries (changed (seeing seen doubt) book name)
  kept-seen seen doubt =
      let K : EntryMap → Type 0 = λ es. IsKept es (changed (seeing seen doubt) book name) in
      let B : BookMap → Type 0 = λ b. IsKept (insert entries name (entry_of known)) b in
      subst K (entry-again entries name (entry_of known) entry-there) (subst B (sym (ap (changed_at (seeing seen doubt) book name) there))
      (kept-put entries book name (entry_of known) (seeing seen doubt known) is refl (is.within name known there)))

there-is : (o : Option Known) → IsSome o → (known : Known) × (o ≡ Some known)
there-is None there = absurd (cc)
there-is (Some known) there = (known, refl)

pub in-book : (book : BookMap) (name : RecordName) → IsSome (get book name) → (known : Known) × (get book name ≡ Some known)
in-book book name there = there-is (get book name) there

pub news-at : (o : Option Known) (news : News) → IsNewsAt o news → (known : Known) × (o ≡ Some known) × IsNewsOf known news
news-at None news is = absurd is
news-at (Some known) news is = (known, refl, is)

-- a resource that was seen, of no higher revision and with the known id, changes only what was seen
pub sighted-again : (known : Known) (sight : Sight) (learnt : Learnt) → before known.confirmed sight.revision ≡ false → known.id ≡ Some sight.id
    → learnt ≡ learnts.Seen → lesson_of known (Passing (seen_at sight) false learnt) ≡ sighted known sight
sighted-again known sight learnt not_higher id said =
    let stays : known.confirmed ≡ later known.confirmed sight.revision = sym (later_stays known.confirmed sight.revision not_higher) in
    let told : learnt ≡ cond (before known.confirmed sight.revision) (learnts.Confirmed sight.revision) learnts.Seen = said ∙ ap (λ (b : Bool). cond b (learnts.Confirmed sight.revision) learnts.Seen) (sym not_higher) in
    λ i. record { known = record known { confirmed = stays i; id = id i; seen = seen_at sight; is_doubted = false }; learnt = told i }

-- ---- a note is what is learnt

bind-as : {A B C : Type 0} (h : Result B LearnFault → Result C LearnFault) (r : Result A LearnFault) (f : A → Result B LearnFault) (g : A → Result C LearnFault)
    → ((x : A) → g x ≡ h (f x)) → ((fault : LearnFault) → h (Err fault) ≡ Err fault) → (r >>= g) ≡ h (r >>= f)
bind-as h (Ok x) f g same faults = same x
bind-as h (Err fault) f g same faults = sym (faults fault)

module _ (keeps : Keeps) (book : Book) (request : Request) (answer : Answer) where
  abbrev note-lesson : RecordName → Lesson → Result Note LearnFault
  note-lesson name l = Ok (record { name = name; lesson = l })

  abbrev note-said : RecordName → Known → Finding → Result Note LearnFault
  note-said name known said = lesson_at keeps book name known (carried request) said >>= note-lesson name

  abbrev note-known : RecordName → Known → Result Note LearnFault
  note-known name known = finding request answer >>= note-said name known

  abbrev note-name : RecordName → Result Note LearnFault
  note-name name = or_fault NoSuchRecord (book name) >>= note-known name

  abbrev learn-lesson : RecordName → Lesson → Result Learning LearnFault
  learn-lesson name l = Ok (noted book name l)

  abbrev learn-said : RecordName → Known → Finding → Result Learning LearnFault
  learn-said name known said = lesson_at keeps book name known (carried request) said >>= learn-lesson name

  abbrev learn-known : RecordName → Known → Result Learning LearnFault
  learn-known name known = finding request answer >>= learn-said name known

  abbrev learn-name : RecordName → Result Learning LearnFault
  learn-name name = or_fault NoSuchRecord (book name) >>= learn-known name

  said-same : (name : RecordName) (known : Known) (said : Finding) → learn-said name known said ≡ noted_in book (note-said name known said)
  said-same name known said = bind-as (noted_in book) (lesson_at keeps book name known (carried request) said) (note-lesson name) (learn-lesson name) (λ l. refl) (λ fault. refl)

  known-same : (name : RecordName) (known : Known) → learn-known name known ≡ noted_in book (note-known name known)
  known-same name known = bind-as (noted_in book) (finding request answer) (note-said name known) (learn-said name known) (said-same name known) (λ fault. refl)

  name-same : (name : RecordName) → learn-name name ≡ noted_in book (note-name name)
  name-same name = bind-as (noted_in book) (or_fault NoSuchRecord (book name)) (note-known name) (learn-known name) (known-same name) (λ fault. refl)

  pub learns_by_notes : learn_at keeps book request answer ≡ noted_in book (note_at keeps book request answer)
  learns_by_notes = bind-as (noted_in book) (or_fault Unfit (subject request)) note-name learn-name name-same (λ fault. refl)

-- ---- what was noted of a record of the book

own-turn : (o : Ordering) → o ≡ ordering_reverse o → is_eq o ≡ true
own-turn Less e = absurd (cc)
own-turn Equal e = refl
own-turn Greater e = absurd (cc)

found-again : (book : BookMap) (name : RecordName) (known : Known) → get (insert book name known) name ≡ Some known
found-again book name known = get-insert names_total book name known name ∙ ap (λ b. cond b (Some known) (get book name)) (own-turn (name_cmp name name) (names_total.antisymm name name))

pub changed-is : (change : Known → Known) (book : BookMap) (name : RecordName) (known : Known) → get book name ≡ Some known → changed change book name ≡ insert book name (change known)
changed-is change book name known there = ap (changed_at change book name) there

-- nothing changes
pub same-book : (book : BookMap) (name : RecordName) (known : Known) → get book name ≡ Some known → book ≡ changed (λ k. k) book name
same-book book name known there = sym (changed-is (λ k. k) book name known there ∙ again book name known there)

pub same-names : (change : Known → Known) (book : BookMap) (name : RecordName) (known : Known) → get book name ≡ Some known → keys (changed change book name) ≡ keys book
same-names change book name known there = ap keys (changed-is change book name known there) ∙ names-put book name (change known)
    ∙ sym (names-put book name known) ∙ ap keys (again book name known there)

-- ---- a record is doubted

doubted-cond : (b : Bool) (known : Known) (o here : Option Known) → (b ≡ true → o ≡ here) → here ≡ Some known
    → cond b (Some (doubting known)) o ≡ cond b (option_map doubting o) o
doubted-cond true known o here same is = sym (ap (option_map doubting) (same refl ∙ is))
doubted-cond false known o here same is = refl

none-cond : (b : Bool) (o here : Option Known) → (b ≡ true → o ≡ here) → here ≡ None → cond b (option_map doubting o) o ≡ o
none-cond true o here same is = ap (option_map doubting) (same refl ∙ is) ∙ sym (same refl ∙ is)
none-cond false o here same is = refl

pub book-doubted : (book : BookMap) (name : RecordName) (known : Known) → get book name ≡ Some known → book_of (changed doubting book name) ≡ doubted (book_of book) name
book-doubted book name known there =
    let each : (other : RecordName) → put (book_of book) name (doubting known) other ≡ doubted (book_of book) name other =
    λ other. doubted-cond (same_name name other) known (get book other) (get book name) (λ same. ap (get book) (sym ((same_record name other).0 same))) there in
    ap book_of (changed-is doubting book name known there) ∙ (maps_are_books book name (doubting known)).book ∙ (λ i other. each other i)

pub none-doubted : (book : BookMap) (name : RecordName) → get book name ≡ None → book_of book ≡ doubted (book_of book) name
none-doubted book name none =
    let each : (other : RecordName) → doubted (book_of book) name other ≡ get book other =
    λ other. none-cond (same_name name other) (get book other) (get book name) (λ same. ap (get book) (sym ((same_record name other).0 same))) none in
    λ i other. sym (each other) i

-- what the journal is to keep is no entry that was kept
changes-entry : (known : Known) (confirmed : RevisionValue) (id : List ℕ) (seen : Seen) → IsToBeKept known confirmed id → entry_of (learning confirmed id seen known) ≡ entry_of known → ⊥
changes-entry known confirmed id seen keeps same = elim keeps.changes [
  | inl other ↦ other (sym (ap (λ (e : Entry). e.id) same))
  | inr higher ↦ irreflexive confirmed (subst (λ r. r ≺ confirmed) (sym (ap (λ (e : Entry). e.confirmed) same)) higher)
]

module _ (keeps : Keeps) (book : BookMap) (request : Request) (answer : Answer) (name : RecordName) (news : News) (is : IsNoted keeps book request answer name news) where
  pub learns : learn_at keeps (book_of book) request answer ≡ Ok (noted (book_of book) name (lesson_of is.known news))
  learns = learns_by_notes keeps (book_of book) request answer ∙ ap (noted_in (book_of book)) is.noted

  gives-noted : (result : Result Learnt LearnFault) → IfOk result (λ learnt. learnt ≡ news_learnt news) → IfErr result IsOfJournal
      → GivesUnless (MayStandFor (Ok (noted (book_of book) name (lesson_of is.known news)))) result (learnt_of (Ok (noted (book_of book) name (lesson_of is.known news))))
  gives-noted (Ok learnt) ok err = ap Ok (sym ok)
  gives-noted (Err Unfit) ok err = absurd err
  gives-noted (Err Unversioned) ok err = absurd err
  gives-noted (Err (Refused status)) ok err = absurd err
  gives-noted (Err NoSuchRecord) ok err = absurd err
  gives-noted (Err Store) ok err = inl refl
  gives-noted (Err Memory) ok err = inl tt

  pub gives-learnt : (result : Result Learnt LearnFault) → IfOk result (λ learnt. learnt ≡ news_learnt news) → IfErr result IsOfJournal
      → GivesUnless (MayStandFor (learn_at keeps (book_of book) request answer)) result (learnt_of (learn_at keeps (book_of book) request answer))
  gives-learnt result ok err =
      let G : Result Learning LearnFault → Type 0 = λ l. GivesUnless (MayStandFor l) result (learnt_of l) in
      subst G (sym learns) (gives-noted result ok err)

  book-noted : book_of (changed (after_news news) book name) ≡ put (book_of book) name (after_news news is.known)
  book-noted = ap book_of (changed-is (after_news news) book name is.known is.there) ∙ (maps_are_books book name (after_news news is.known)).book

  pub book-after : (new : BookMap) (result : Result Learnt LearnFault) → OnOk result (new ≡ changed (after_news news) book name)
      → OnOk result (book_of new ≡ after_learning (book_of book) (learn_at keeps (book_of book) request answer))
  book-after new (Ok learnt) ok = ap book_of ok ∙ book-noted ∙ sym (ap (after_learning (book_of book)) learns)
  book-after new (Err fault) ok = tt

  pub names-after : (new : BookMap) (result : Result Learnt LearnFault) → OnOk result (new ≡ changed (after_news news) book name) → OnErr result (new ≡ book) → keys new ≡ keys book
  names-after new (Ok learnt) ok err = ap keys ok ∙ same-names (after_news news) book name is.known is.there
  names-after new (Err fault) ok err = ap keys err

  with-news : (entries : EntryMap) → IsKept entries book → (n : News) → entries_with entries name n ≡ insert entries name (entry_of (after_news n is.known))
  with-news entries kept (Lasting confirmed id seen learnt) = entries-learnt entries book name is.known kept is.there confirmed id seen
  with-news entries kept (Passing seen doubt learnt) = entries-seen entries book name is.known kept is.there seen doubt
  with-news entries kept Nothing = sym (entry-again entries name (entry_of is.known) (entry-there entries book name is.known kept is.there))

  pub entries-after : (entries : EntryMap) → IsKept entries book → entries_with entries name news ≡ noted_entries entries (note_at keeps (book_of book) request answer)
  entries-after entries kept = with-news entries kept news ∙ sym (ap (noted_entries entries) is.noted)

  quiet-news : (n : News) (new : BookMap) (result : Result Learnt LearnFault) (before after : ℕ) → IsNewsOf is.known n → (IsPassing n → after ≡ before)
      → OnErr result (after ≡ before) → OnOk result (new ≡ changed (after_news n) book name) → KeepsEntries book new → after ≡ before
  quiet-news (Passing seen doubt learnt) new result before after keeps quiet err ok same = quiet tt
  quiet-news Nothing new result before after keeps quiet err ok same = quiet tt
  quiet-news (Lasting confirmed id seen learnt) new (Err fault) before after keeps quiet err ok same = err
  quiet-news (Lasting confirmed id seen learnt) new (Ok l) before after keeps quiet err ok same =
      let there : get new name ≡ Some (learning confirmed id seen is.known) = ap (λ b. get b name) (ok ∙ changed-is (learning confirmed id seen) book name is.known is.there) ∙ found-again book name (learning confirmed id seen is.known) in
      let both : Some (entry_of (learning confirmed id seen is.known)) ≡ Some (entry_of is.known) = sym (ap (option_map entry_of) there) ∙ same name ∙ ap (option_map entry_of) is.there in
      let one : entry_of (learning confirmed id seen is.known) ≡ entry_of is.known = cc in
      absurd (changes-entry is.known confirmed id seen keeps one)

  pub quiet-after : (new : BookMap) (result : Result Learnt LearnFault) (before after : ℕ) → (IsPassing news → after ≡ before)
      → OnErr result (after ≡ before) → OnOk result (new ≡ changed (after_news news) book name) → KeepsEntries book new → after ≡ before
  quiet-after new result before after quiet err ok same = quiet-news news new result before after is.is_news quiet err ok same

-- nothing was noted
pub gives-fault : (keeps : Keeps) (book : BookMap) (request : Request) (answer : Answer) (fault : LearnFault) → IsNotNoted keeps book request answer fault
    → GivesUnless {X = Learnt} (MayStandFor (learn_at keeps (book_of book) request answer)) (Err fault) (learnt_of (learn_at keeps (book_of book) request answer))
gives-fault keeps book request answer fault (inl memory) = inl (subst (MayStandFor (learn_at keeps (book_of book) request answer)) (sym memory) tt)
gives-fault keeps book request answer fault (inr none) = inr (ap learnt_of (learns_by_notes keeps (book_of book) request answer ∙ ap (noted_in (book_of book)) none))
