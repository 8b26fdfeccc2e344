-- What is learnt about which record, and how the book and the journal change.
use Rattle.std.specs.Prelude.{◌≡◌, ◌≢◌, ◌≤◌, ◌⊎◌, ℕ, List, Option, Some, None, Result, Ok, Err, IsOk, if◌then◌else◌}
use Rattle.std.specs.FinMap.{get, insert}
use Rattle.std.specs.Option.{option_map}
use Rattle.scim_key.specs.Outcome.{◌>>=◌}
use Rattle.scim_key.specs.Revisions.{IsNoneOrRevision, IsRevision, RevisionValue, before, ◌≺◌, ◌≼◌}
use Rattle.scim_key.specs.declared.records.RecordName.{RecordName}
use Rattle.scim_resource.specs.declared.contents.Content.{Content}
use Rattle.scim_message.specs.declared.messages.Answer.{Answer}
use Rattle.scim_message.specs.declared.messages.Request.{Request}
use Rattle.source_csv.specs.Records.{row_revision}
use Rattle.journal_core.specs.Entries.{EntryMap, with_learnt}
use Rattle.journal_core.specs.Stores.{HasRisen}
use Rattle.scim_key.specs.declared.stores.StoreFault.{StoreFault}
use Rattle.scim_key.specs.declared.stores.StoreFault.TheVariants as store
use Rattle.connector_core.specs.Book.{Book, learning, seeing}
use Rattle.connector_core.specs.Keeps.{carried, learn_at, lesson_at}
use Rattle.connector_core.specs.declared.keeps.Keeps.{Keeps}
use Rattle.connector_core.specs.Learning.{Finding, Learning, Lesson, Sight, finding, noted, or_fault, subject}
use Rattle.connector_core.specs.Maps.{BookMap, book_of}
use Rattle.connector_core.specs.State.{entry_of}
use Rattle.connector_core.specs.declared.fitting.News.{News}
use Rattle.connector_core.specs.declared.fitting.News.TheVariants.{Lasting, Passing, Nothing}
use Rattle.connector_core.specs.declared.knowledge.Known.{Known}
use Rattle.connector_core.specs.declared.learning.LearnFault.{LearnFault}
use Rattle.connector_core.specs.declared.learning.LearnFault.TheVariants.{Unfit, Unversioned, Refused, NoSuchRecord, Store, Memory}
use Rattle.connector_core.specs.declared.learning.Learnt.{Learnt}
use Rattle.connector_core.specs.declared.learning.Learnt.TheVariants as learnt

-- ---- what is learnt about which record

pub record Note : Type 0 where
  pub name : RecordName
  pub lesson : Lesson

-- What is learnt from the answer to a request, by the kind of the provider, with the name of its record
abbrev pub note_at : Keeps → Book → Request → Answer → Result Note LearnFault
note_at keeps book request answer = do
  name ← or_fault Unfit (subject request)
  known ← or_fault NoSuchRecord (book name)
  said ← finding request answer
  l ← lesson_at keeps book name known (carried request) said
  Ok (record { name = name; lesson = l })

abbrev pub noted_in : Book → Result Note LearnFault → Result Learning LearnFault
noted_in book (Ok n) = Ok (noted book n.name n.lesson)
noted_in book (Err fault) = Err fault

-- what the connector learns is this note, put into its book
abbrev pub LearnsByNotes : Type 0
LearnsByNotes = (keeps : Keeps) (book : Book) (request : Request) (answer : Answer)
    → learn_at keeps book request answer ≡ noted_in book (note_at keeps book request answer)

-- what was learnt
abbrev pub learnt_of : Result Learning LearnFault → Result Learnt LearnFault
learnt_of (Ok l) = Ok l.learnt
learnt_of (Err fault) = Err fault

-- the entries of the journal, with what is known about the record afterwards
abbrev pub noted_entries : EntryMap → Result Note LearnFault → EntryMap
noted_entries entries (Ok n) = insert entries n.name (entry_of n.lesson.known)
noted_entries entries (Err fault) = entries

-- each record keeps its row, its confirmed revision and its id
abbrev pub KeepsEntries : (old new : BookMap) → Type 0
KeepsEntries old new = (name : RecordName) → option_map entry_of (get new name) ≡ option_map entry_of (get old name)

-- ---- faults

-- instead of an answer, a store fault comes only if something can be learnt; out of memory may come at any time
abbrev pub MayStandFor : Result Learning LearnFault → LearnFault → Type 0
MayStandFor answer Unfit = ⊥
MayStandFor answer Unversioned = ⊥
MayStandFor answer (Refused status) = ⊥
MayStandFor answer NoSuchRecord = ⊥
MayStandFor answer Store = IsOk answer
MayStandFor answer Memory = Unit {0}

-- the answer is rejected
abbrev pub IsRejection : LearnFault → Type 0
IsRejection Unfit = Unit {0}
IsRejection Unversioned = Unit {0}
IsRejection (Refused status) = Unit {0}
IsRejection NoSuchRecord = Unit {0}
IsRejection Store = ⊥
IsRejection Memory = ⊥

-- only a store fault is counted
abbrev pub CountsLearn : (old new : ℕ) → LearnFault → Type 0
CountsLearn old new Unfit = new ≡ old
CountsLearn old new Unversioned = new ≡ old
CountsLearn old new (Refused status) = new ≡ old
CountsLearn old new NoSuchRecord = new ≡ old
CountsLearn old new Store = (old ≤ new) × HasRisen old new
CountsLearn old new Memory = new ≡ old

-- the connector's fault for a fault of its journal
abbrev pub learn_fault : StoreFault → LearnFault
learn_fault store.Store = Store
learn_fault store.Memory = Memory

-- ---- news about a record

-- what is learnt about a record from what an answer says, if it says something
abbrev pub lesson_if : Keeps → Book → RecordName → Known → (carried : Option Content) → Result Finding LearnFault
    → Result Lesson LearnFault
lesson_if keeps book name known carried (Ok said) = lesson_at keeps book name known carried said
lesson_if keeps book name known carried (Err fault) = Err fault

-- what is known afterwards
abbrev pub after_news : News → Known → Known
after_news (Lasting confirmed id seen learnt) known = learning confirmed id seen known
after_news (Passing seen is_doubted learnt) known = seeing seen is_doubted known
after_news Nothing known = known

abbrev pub news_learnt : News → Learnt
news_learnt (Lasting confirmed id seen learnt) = learnt
news_learnt (Passing seen is_doubted learnt) = learnt
news_learnt Nothing = learnt.Nothing

abbrev pub lesson_of : Known → News → Lesson
lesson_of known news = record { known = after_news news known; learnt = news_learnt news }

-- the entries of the journal afterwards
abbrev pub entries_with : EntryMap → RecordName → News → EntryMap
entries_with entries name (Lasting confirmed id seen learnt) = with_learnt entries name confirmed id
entries_with entries name (Passing seen is_doubted learnt) = entries
entries_with entries name Nothing = entries

-- the journal must keep this: a revision that may be confirmed, with another id or higher than before
pub record IsToBeKept (known : Known) (confirmed : RevisionValue) (id : List ℕ) : Type 0 where
  pub confirms : IsNoneOrRevision known.confirmed → IsRevision confirmed
  pub within : known.confirmed ≼ row_revision known.wanted → confirmed ≼ row_revision known.wanted
  pub changes : (known.id ≢ Some id) ⊎ (known.confirmed ≺ confirmed)

-- the journal is written only for what it must keep
abbrev pub IsNewsOf : Known → News → Type 0
IsNewsOf known (Lasting confirmed id seen learnt) = IsToBeKept known confirmed id
IsNewsOf known (Passing seen is_doubted learnt) = Unit {0}
IsNewsOf known Nothing = Unit {0}

-- a revision, if there is one and it isn't above the wanted one
abbrev pub within : Known → Option RevisionValue → Option RevisionValue
within known None = None
within known (Some revision) = if before (row_revision known.wanted) revision then None else Some revision

-- a valid revision up to the wanted one
pub record IsFit (known : Known) (sight : Sight) : Type 0 where
  pub lawful : IsRevision sight.revision
  pub within : sight.revision ≼ row_revision known.wanted

-- the same for the record with this knowledge
abbrev pub IsNewsAt : Option Known → News → Type 0
IsNewsAt None news = ⊥
IsNewsAt (Some known) news = IsNewsOf known news

-- what is noted is news about a record of the book
pub record IsNoted (keeps : Keeps) (book : BookMap) (request : Request) (answer : Answer) (name : RecordName)
    (news : News) : Type 0 where
  pub known : Known
  pub there : get book name ≡ Some known
  pub noted : note_at keeps (book_of book) request answer ≡ Ok (record { name = name; lesson = lesson_of known news })
  pub is_news : IsNewsOf known news

-- nothing is noted: by the definition, or because memory ran out
abbrev pub IsNotNoted : Keeps → BookMap → Request → Answer → LearnFault → Type 0
IsNotNoted keeps book request answer fault =
    (fault ≡ Memory) ⊎ (note_at keeps (book_of book) request answer ≡ Err fault)

-- the fault of the store, or out of memory
abbrev pub IsOfJournal : LearnFault → Type 0
IsOfJournal Unfit = ⊥
IsOfJournal Unversioned = ⊥
IsOfJournal (Refused status) = ⊥
IsOfJournal NoSuchRecord = ⊥
IsOfJournal Store = Unit {0}
IsOfJournal Memory = Unit {0}

abbrev pub IsPassing : News → Type 0
IsPassing (Lasting confirmed id seen learnt) = ⊥
IsPassing (Passing seen is_doubted learnt) = Unit {0}
IsPassing Nothing = Unit {0}
