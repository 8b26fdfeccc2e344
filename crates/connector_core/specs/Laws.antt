-- Laws of the connector.
use Rattle.std.specs.Prelude.{◌≡◌, ◌≢◌, ◌⊎◌, ℕ, ℤ, List, Option, Some, None, Ok, Err}
use Rattle.std.specs.List.{slice_get}
use Rattle.std.specs.Option.{option_map}
use Rattle.scim_key.specs.Revisions.{RevisionValue, no_revision}
use Rattle.scim_key.specs.declared.records.Kind.{Kind}
use Rattle.scim_key.specs.declared.records.RecordName.{RecordName}
use Rattle.scim_version.specs.declared.conditions.Condition.{Condition}
use Rattle.scim_resource.specs.Contents.{content_name, content_revision}
use Rattle.scim_resource.specs.Rows.{ShownRecord}
use Rattle.scim_resource.specs.declared.contents.Content.{Content}
use Rattle.scim_filter.specs.Expressions.{Expression}
use Rattle.scim_message.specs.declared.messages.Request.{Request}
use Rattle.scim_message.specs.declared.messages.Request.TheVariants.{Create, Search, Replace}
use Rattle.scim_message.specs.declared.messages.Answer.{Answer}
use Rattle.scim_message.specs.Messages.{answer_under}
use Rattle.comparing.specs.Aspects.{is_active}
use Rattle.journal_core.specs.Memory.{MemoryRecord}
use Rattle.journal_core.specs.MemoryLaws.{memory_faults}
use Rattle.connector_core.specs.Asking.{asking, replacement}
use Rattle.connector_core.specs.Book.{Book, forgotten}
use Rattle.connector_core.specs.Changing.{CountsChange}
use Rattle.connector_core.specs.Keeps.{carried, filled, forgot, learn_at, no_version, resources_of}
use Rattle.connector_core.specs.declared.keeps.Keeps.TheVariants.{Versions}
use Rattle.connector_core.specs.Learning.{Learning, Shows, after_learning, finding, learn}
use Rattle.connector_core.specs.Maps.{BookMap, MapsAreBooks}
use Rattle.connector_core.specs.Noting.{CountsLearn}
use Rattle.connector_core.specs.State.{CountsOpen, entry_of}
use Rattle.connector_core.specs.declared.asking.Ask.TheVariants.{Send}
use Rattle.connector_core.specs.declared.changing.ChangeFault.{ChangeFault}
use Rattle.connector_core.specs.declared.changing.ChangeFault.TheVariants as change
use Rattle.connector_core.specs.declared.knowledge.Known.{Known}
use Rattle.connector_core.specs.declared.knowledge.Seen.TheVariants.{At}
use Rattle.connector_core.specs.declared.learning.LearnFault.{LearnFault}
use Rattle.connector_core.specs.declared.learning.LearnFault.TheVariants as learns
use Rattle.connector_core.specs.declared.learning.LearnFault.TheVariants.{Unfit}
use Rattle.connector_core.specs.declared.opening.ConnectorOpenFault.{ConnectorOpenFault}
use Rattle.connector_core.specs.declared.opening.ConnectorOpenFault.TheVariants as opening

-- putting into a map is putting into its book, for every map
abbrev pub AllMapsAreBooks : Type 0
AllMapsAreBooks = (map : BookMap) (name : RecordName) (known : Known) → MapsAreBooks map name known

-- over a journal in memory, no call has a store fault
pub record NoStoreFaults : Type 0 where
  pub opening : (old new : MemoryRecord) (fault : ConnectorOpenFault)
      → CountsOpen (memory_faults old) (memory_faults new) fault → fault ≢ opening.Store
  pub changing : (old new : MemoryRecord) (fault : ChangeFault)
      → CountsChange (memory_faults old) (memory_faults new) fault → fault ≢ change.Store
  pub learning : (old new : MemoryRecord) (fault : LearnFault)
      → CountsLearn (memory_faults old) (memory_faults new) fault → fault ≢ learns.Store

-- if a record was seen with an id and a tag, its next request is the replacement of that version, and never a search
abbrev pub ReplacesWhatWasSeen : Type 0
ReplacesWhatWasSeen =
    (book : Book) (name : RecordName) (known : Known) (id tag : List ℕ) (revision : RevisionValue)
    (request : Request) → book name ≡ Some known → known.seen ≡ At id tag revision
    → asking book name ≡ Some (Send request) → (content : Content) × (request ≡ replacement id tag content)

-- the content has another name, or it is active where the other isn't
abbrev pub IsAnother : Content → Content → Type 0
IsAnother content other = (content_name other ≢ content_name content) ⊎ (is_active other ≢ is_active content)

-- what an answer stands for where no revision is shown
pub record StandForWhatWasAsked : Type 0 where
  -- a creation or a replacement: what the request carried
  pub created : (content : Content) (answer : Answer) (s : ShownRecord)
      → finding (Create content) (filled (Create content) answer) ≡ Ok (Shows s) → s.content ≡ content
  pub replaced : (id : List ℕ) (content : Content) (if_match if_none_match : Condition) (answer : Answer) (s : ShownRecord)
      → finding (Replace id content if_match if_none_match) (filled (Replace id content if_match if_none_match) answer)
      ≡ Ok (Shows s) → s.content ≡ content
  -- what is learnt from it, if what it shows has a tag, is what an answer teaches that shows that
  pub learnt : (book : Book) (request : Request) (content : Content) (answer : Answer) (learning : Learning)
      → carried request ≡ Some content → ((s : ShownRecord) → finding request answer ≡ Ok (Shows s) → s.version ≢ None)
      → learn_at Versions book request answer ≡ Ok learning → learn book request (filled request answer) ≡ Ok learning
  -- without a tag it teaches what it teaches under one, but the record isn't in sight
  pub out_of_sight : (book : Book) (request : Request) (content : Content) (answer : Answer) (learning : Learning)
      (s : ShownRecord) → carried request ≡ Some content → finding request answer ≡ Ok (Shows s) → s.version ≡ None
      → learn_at Versions book request answer ≡ Ok learning
      → (tagged : Learning) × (learn_at Versions book request (answer_under no_version answer) ≡ Ok tagged)
      × (learning.learnt ≡ tagged.learnt)
      × (learning.book (content_name content) ≡ option_map forgotten (tagged.book (content_name content)))
  -- a search: a resource at no revision
  pub searched : (kind : Kind) (wanted : Option Expression) (start : ℤ) (count : Option ℤ) (answer : Answer) (s : ShownRecord)
      → finding (Search kind wanted start count) (filled (Search kind wanted start count) answer) ≡ Ok (Shows s)
      → content_revision s.content ≡ Some no_revision
  -- it changes nothing that the journal keeps: no row, no id, no confirmed revision
  pub only_seen : (book : Book) (request : Request) (answer : Answer) (name : RecordName) → carried request ≡ None
      → option_map entry_of (after_learning book (learn_at Versions book request answer) name)
      ≡ option_map entry_of (book name)
  -- an answer that shows another name, or is active where the other isn't, is refused
  pub refused : (book : Book) (request : Request) (content : Content) (answer : Answer) (place : ℕ) (s : ShownRecord)
      (known : Known) → carried request ≡ Some content → book (content_name content) ≡ Some known
      → slice_get (resources_of answer) place ≡ Some s → IsAnother content s.content
      → learn_at Versions book request answer ≡ Err Unfit
  -- a provider that drops the source extension answers without revisions
  pub forgotten : (answer : Answer) (place : ℕ) (s : ShownRecord)
      → slice_get (resources_of (forgot answer)) place ≡ Some s → content_revision s.content ≡ None
