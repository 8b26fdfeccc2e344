-- Kinds of providers by what they keep, and what the connector learns from an answer of each kind.
--
-- Most providers drop the source extension, so no answer of theirs shows a revision. In its place the answer to the
-- connector's own creation or replacement stands for what was asked. A search stands for no revision: what was found is
-- seen, confirms nothing, and is replaced under the tag that was seen.
use Rattle.std.specs.Prelude.{ℕ, Bool, ◌&&◌, List, [], ◌∷◌, map, Option, Some, None, Result, Ok}
use Rattle.scim_key.specs.Outcome.{◌>>=◌}
use Rattle.scim_key.specs.Revisions.{RevisionValue, no_revision}
use Rattle.scim_key.specs.declared.records.RecordName.{RecordName}
use Rattle.scim_version.specs.Tags.{version_tag}
use Rattle.scim_resource.specs.Contents.{content_name, content_with}
use Rattle.scim_resource.specs.Rows.{ShownRecord, shown_under}
use Rattle.scim_resource.specs.declared.contents.Content.{Content}
use Rattle.scim_message.specs.declared.messages.Request.{Request}
use Rattle.scim_message.specs.declared.messages.Request.TheVariants.{Create, Retrieve, Search, Replace}
use Rattle.scim_message.specs.declared.messages.Answer.{Answer}
pub use Rattle.scim_message.specs.Messages.{answer_with, resources_of}
use Rattle.comparing.specs.Aspects.{is_active, same_flag}
use Rattle.connector_core.specs.History.{same_name}
use Rattle.connector_core.specs.Book.{Book, forgotten}
use Rattle.connector_core.specs.Learning.{Finding, Shows, Shows_none, Taken, Stale, Learning, Lesson, or_fault}
use Rattle.connector_core.specs.Learning.{fault_unless, subject, finding, shown_lesson, differing, lesson, noted}
use Rattle.connector_core.specs.declared.knowledge.Known.{Known}
use Rattle.connector_core.specs.declared.learning.LearnFault.{LearnFault}
use Rattle.connector_core.specs.declared.learning.LearnFault.TheVariants.{Unfit, Unversioned, NoSuchRecord}
use Rattle.connector_core.specs.declared.keeps.Keeps.{Keeps}
use Rattle.connector_core.specs.declared.keeps.TheConstants.{NO_VERSION}
use Rattle.connector_core.specs.declared.keeps.Keeps.TheVariants.{Revisions, Versions}

-- ---- the provider

-- the same resource with this revision
abbrev pub shown_with : Option RevisionValue → ShownRecord → ShownRecord
shown_with revision s = record s { content = content_with revision s.content }

-- what a provider answers that drops the source extension: no resource has a revision
abbrev pub forgot : Answer → Answer
forgot answer = answer_with (shown_with None) answer

-- ---- the connector

-- the same resource with another content
abbrev pub standing_for : Content → ShownRecord → ShownRecord
standing_for content s = record s { content = content }

-- What stands in the place of a shown resource. After a Create or a Replace: what the request carried, under the id and
-- the version that are shown. After a Search: what is shown, at no revision
abbrev pub filling : Request → ShownRecord → ShownRecord
filling (Create content) s = standing_for content s
filling (Retrieve kind id if_match if_none_match) s = shown_with (Some no_revision) s
filling (Search kind wanted start count) s = shown_with (Some no_revision) s
filling (Replace id content if_match if_none_match) s = standing_for content s

-- what an answer stands for
abbrev pub filled : Request → Answer → Answer
filled request answer = answer_with (filling request) answer

-- what an answer stands for, by the kind of the provider
abbrev pub heard : Keeps → Request → Answer → Answer
heard Revisions request answer = answer
heard Versions request answer = filled request answer

-- the content that a request carries
abbrev pub carried : Request → Option Content
carried (Create content) = Some content
carried (Retrieve kind id if_match if_none_match) = None
carried (Search kind wanted start count) = None
carried (Replace id content if_match if_none_match) = Some content

-- the resource has the record's name, and is active if this content is. Providers may write anything else in another
-- way than it was asked
abbrev pub says : RecordName → Content → ShownRecord → Bool
says name content s = same_name name (content_name s.content) && same_flag (is_active content) (is_active s.content)

-- the same lesson, but nothing is in sight
abbrev pub unseen : Lesson → Lesson
unseen l = record { known = forgotten l.known; learnt = l.learnt }

-- the tag under which a resource is taken if none is shown
abbrev pub no_version : List ℕ
no_version = version_tag NO_VERSION

-- What is learnt from a resource with this tag, if it has one. Without a tag it is what is learnt under
-- `no_version`, but the resource isn't in sight: the next change searches for it first
abbrev pub lesson_under : (tag : Option (List ℕ)) → Book → RecordName → Known → ShownRecord → Result Lesson LearnFault
lesson_under (Some tag) book name known s = shown_lesson book name known s
lesson_under None book name known s = shown_lesson book name known (shown_under no_version s) >>= λ l. Ok (unseen l)

-- an answer that shows what was asked stands for it
abbrev pub asked_lesson : Book → RecordName → Known → Content → ShownRecord → Result Lesson LearnFault
asked_lesson book name known content s = do
  _ ← fault_unless Unfit (says name content s)
  lesson_under s.version book name known (standing_for content s)

-- A resource that a search shows is only seen, at no revision, if it has the record's name and a tag. Its id is known
-- once an answer confirms; a doubt stays until then
abbrev pub only_seen : RecordName → Known → ShownRecord → Result Lesson LearnFault
only_seen name known s = do
  _ ← fault_unless Unfit (same_name name (content_name s.content))
  tag ← or_fault Unversioned s.version
  Ok (differing known (record { id = s.id; revision = no_revision; tag = tag }))

-- what is learnt from a resource that is shown without its revision, by the content that the request carried
abbrev pub unshown_lesson : Book → RecordName → Known → (carried : Option Content) → ShownRecord
    → Result Lesson LearnFault
unshown_lesson book name known None s = only_seen name known s
unshown_lesson book name known (Some content) s = asked_lesson book name known content s

-- What is learnt about a record from what an answer says to a request that carried this content, by the kind of the
-- provider
abbrev pub lesson_at : Keeps → Book → RecordName → Known → (carried : Option Content) → Finding
    → Result Lesson LearnFault
lesson_at Revisions book name known carried said = lesson book name known said
lesson_at Versions book name known carried (Shows s) = unshown_lesson book name known carried s
lesson_at Versions book name known carried Shows_none = lesson book name known Shows_none
lesson_at Versions book name known carried Taken = lesson book name known Taken
lesson_at Versions book name known carried (Stale if_match) = lesson book name known (Stale if_match)

-- What the connector learns from the answer to a request, by the kind of its provider
abbrev pub learn_at : Keeps → Book → Request → Answer → Result Learning LearnFault
learn_at keeps book request answer = do
  name ← or_fault Unfit (subject request)
  known ← or_fault NoSuchRecord (book name)
  said ← finding request answer
  l ← lesson_at keeps book name known (carried request) said
  Ok (noted book name l)
