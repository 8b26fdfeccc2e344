-- Answers, their status and their resources; requests, the source revision of the content that they carry, and their
-- conditions.
use Rattle.std.specs.Prelude.{ℕ, List, [], ◌∷◌, map, Option, None}
use Rattle.scim_key.specs.Revisions.{RevisionValue}
use Rattle.scim_version.specs.declared.conditions.Condition.{Condition}
use Rattle.scim_version.specs.declared.conditions.Condition.TheVariants.{Always}
use Rattle.scim_resource.specs.Contents.{content_revision, content_with}
use Rattle.scim_resource.specs.Rows.{ShownRecord, shown_under}
use Rattle.scim_message.specs.declared.messages.Request.{Request}
use Rattle.scim_message.specs.declared.messages.Request.TheVariants.{Create, Retrieve, Search, Replace}
use Rattle.scim_message.specs.declared.messages.Answer.{Answer}
use Rattle.scim_message.specs.declared.messages.Answer.TheVariants.{Created, Found, Replaced, NotModified, Error}
use Rattle.scim_message.specs.declared.messages.Answer.TheVariants as answers

abbrev pub answer_status : Answer → ℕ
answer_status (Created shown) = 201
answer_status (Found shown) = 200
answer_status (Replaced shown) = 200
answer_status (answers.List list) = 200
answer_status (NotModified kind id version) = 304
answer_status (Error error) = error.status

-- ---- the resources of an answer

abbrev pub resources_of : Answer → List ShownRecord
resources_of (Created s) = s ∷ []
resources_of (Found s) = s ∷ []
resources_of (Replaced s) = s ∷ []
resources_of (answers.List list) = list.resources
resources_of (NotModified kind id version) = []
resources_of (Error error) = []

-- the answer with something else in place of each resource
abbrev pub answer_with : (ShownRecord → ShownRecord) → Answer → Answer
answer_with f (Created s) = Created (f s)
answer_with f (Found s) = Found (f s)
answer_with f (Replaced s) = Replaced (f s)
answer_with f (answers.List list) = answers.List (record list { resources = map f list.resources })
answer_with f (NotModified kind id version) = NotModified kind id version
answer_with f (Error error) = Error error

-- the answer, each of whose resources is under this entity tag
abbrev pub answer_under : List ℕ → Answer → Answer
answer_under tag answer = answer_with (shown_under tag) answer

-- ---- the content of a request

-- the source revision of the content of a request, if it has one
abbrev pub request_revision : Request → Option RevisionValue
request_revision (Create content) = content_revision content
request_revision (Retrieve kind id if_match if_none_match) = None
request_revision (Search kind wanted start count) = None
request_revision (Replace id content if_match if_none_match) = content_revision content

-- the same request, with a content of this source revision, or of none
abbrev pub request_with : Option RevisionValue → Request → Request
request_with revision (Create content) = Create (content_with revision content)
request_with revision (Retrieve kind id if_match if_none_match) = Retrieve kind id if_match if_none_match
request_with revision (Search kind wanted start count) = Search kind wanted start count
request_with revision (Replace id content if_match if_none_match) =
    Replace id (content_with revision content) if_match if_none_match

-- ---- the conditions of a request

-- the same request under these conditions, if it can have any
abbrev pub request_under : (if_match if_none_match : Condition) → Request → Request
request_under if_match if_none_match (Create content) = Create content
request_under if_match if_none_match (Retrieve kind id m n) = Retrieve kind id if_match if_none_match
request_under if_match if_none_match (Search kind wanted start count) = Search kind wanted start count
request_under if_match if_none_match (Replace id content m n) = Replace id content if_match if_none_match

-- the same request without conditions
abbrev pub unconditional : Request → Request
unconditional request = request_under Always Always request
