-- What never happens: a reply that teaches nothing, a request that meets a limit of the provider.
use Rattle.std.specs.Prelude.{◌≡◌, ◌≢◌, ℕ, ◌<◌, ◌≤◌, List, length, Option, Some, None, IsOk}
use Rattle.std.specs.List.{AllByRecursion}
use Rattle.serde_json.specs.Written.{compact_text}
use Rattle.scim_key.specs.Revisions.{most_revisions}
use Rattle.scim_key.specs.declared.records.Kind.{Kind}
use Rattle.scim_key.specs.declared.records.Kind.TheVariants as kinds
use Rattle.scim_resource.specs.Contents.{content_kind}
use Rattle.scim_resource.specs.Writing.{content_data}
use Rattle.scim_resource.specs.declared.contents.Content.{Content}
use Rattle.scim_message.specs.declared.messages.Request.{Request}
use Rattle.scim_message.specs.declared.messages.Request.TheVariants.{Create, Retrieve, Search, Replace}
use Rattle.scim_message.specs.declared.messages.Answer.{Answer}
use Rattle.scim_message.specs.declared.messages.Answer.TheVariants.{Error}
use Rattle.scim_message.specs.declared.refusals.Refusal.TheVariants.{LimitReached}
use Rattle.scim_message.specs.Refusals.{error_of}
use Rattle.provider_core.specs.Stories.{Entry, story, step}
use Rattle.source_csv.specs.Records.{IsRow}
use Rattle.connector_core.specs.Learning.{learn}
use Rattle.world_model.specs.World.{World, Asked, Answered, Event, Changes, Sends, Delivers, Cuts, Restarts_provider, Restarts_connector, Doubts, empty, run}
use Rattle.world_model.specs.Safe.{Has}

-- each row that is offered is within the limits of the source
abbrev pub IsLawful : Event → Type 0
IsLawful (Changes row) = IsRow row
IsLawful (Sends name) = Unit {0}
IsLawful (Delivers number) = Unit {0}
IsLawful (Cuts number length) = Unit {0}
IsLawful Restarts_provider = Unit {0}
IsLawful Restarts_connector = Unit {0}
IsLawful (Doubts name) = Unit {0}

-- the content in the body of a request, if it has one
abbrev pub request_content : Request → Option Content
request_content (Create content) = Some content
request_content (Retrieve kind id if_match if_none_match) = None
request_content (Search kind wanted start count) = None
request_content (Replace id content if_match if_none_match) = Some content

-- every image's text is shorter than this
abbrev pub longest_body : Kind → ℕ
longest_body kinds.User = 9_000
longest_body kinds.Group = 21_000

-- the most resources that a run makes: as many as there may be records of the source
abbrev pub most_entries : ℕ
most_entries = 110_000

-- the connector learns from every reply that was ever given, no request that was ever sent meets a limit of the
-- provider, and the numbers that this rests on
pub record Untroubled (w : World) : Type 0 where
  pub learns : (request : Request) (answer : Answer) → Has w.messages (Answered request answer)
      → IsOk (learn w.book request answer)
  pub room : (request : Request) → Has w.messages (Asked request)
      → (step w.entries request).answer ≢ Error (error_of LimitReached)
  pub versions : (e : Entry) → Has w.entries e → length (story e) ≤ most_revisions
  pub entries : length w.entries ≤ most_entries
  pub bodies : (request : Request) (content : Content) → Has w.messages (Asked request)
      → request_content request ≡ Some content
      → length (compact_text (content_data content)) < longest_body (content_kind content)

abbrev pub NeverRefused : Type 0
NeverRefused = (events : List Event) → AllByRecursion IsLawful events → Untroubled (run empty events)
