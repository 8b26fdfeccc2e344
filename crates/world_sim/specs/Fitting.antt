-- Every message of a run is read as it was sent.
use Rattle.std.specs.Prelude.{◌≡◌, ℕ, ◌<◌, ◌≤◌, true, List, length}
use Rattle.std.specs.List.{AllByRecursion}
use Rattle.std.specs.Str.{IsUtf8}
use Rattle.serde_json.specs.Written.{compact_text}
use Rattle.scim_key.specs.Bases.{IsBase}
use Rattle.scim_resource.specs.Contents.{content_kind}
use Rattle.scim_resource.specs.Rows.{last_version}
use Rattle.scim_resource.specs.Writing.{content_data}
use Rattle.scim_resource.specs.declared.contents.Content.{Content}
use Rattle.scim_message.specs.Bodies.{body_text}
use Rattle.scim_message.specs.Fitting.{ShowsLawfully}
use Rattle.provider_core.specs.Stories.{Entry, story}
use Rattle.scim_client.specs.AnswerLaws.{KeepsAnswerLimits}
use Rattle.scim_client.specs.Requests.{text_of}
use Rattle.scim_client.specs.Spelling.{IsWritable, KeepsLimits, SpellsRequest}
use Rattle.world_model.specs.Healing.{IsStart}
use Rattle.world_model.specs.Invariant.{Names, AllOurs}
use Rattle.world_model.specs.Others.{Act, KeepsApart, run_among}
use Rattle.world_model.specs.Room.{IsLawfulAct}
use Rattle.world_model.specs.Safe.{Has}
use Rattle.world_model.specs.Untroubled.{IsLawful, longest_body}
use Rattle.world_model.specs.World.{World, Message, Asked, Answered, Event, empty, run}
use Rattle.world_sim.specs.Messages.{message_text}
use Rattle.world_sim.specs.Reading.{IsReadAs}

-- the head and the body of a message are within their limits
abbrev pub IsWithinLimits : (base : List ℕ) → Message → Type 0
IsWithinLimits base (Asked request) = IsWritable request × KeepsLimits base request
IsWithinLimits base (Answered request answer) = KeepsAnswerLimits base answer

-- Every message that was ever sent in a run is within the limits, if each row that was offered is within those of the
-- source
abbrev pub MessagesKeepLimits : Type 0
MessagesKeepLimits =
    (base : List ℕ) (events : List Event) (message : Message) → IsBase base
    → AllByRecursion IsLawful events → Has (run empty events).messages message
    → IsWithinLimits base message

-- What the types of a message's parts guarantee when its bytes are formed: they spell a request, if it is within the
-- limits; what an answer shows is valid, and its body is UTF-8
abbrev pub IsFormed : (base : List ℕ) → Message → Type 0
IsFormed base (Asked request) = IsWritable request → KeepsLimits base request
    → SpellsRequest (text_of base request) request
IsFormed base (Answered request answer) = ShowsLawfully answer × IsUtf8 (body_text base answer)

-- Every message that was ever sent in a run is read from its bytes as exactly that message, by the side that it goes to
abbrev pub MessagesAreRead : Type 0
MessagesAreRead =
    (base : List ℕ) (events : List Event) (message : Message) → IsBase base
    → AllByRecursion IsLawful events → Has (run empty events).messages message
    → IsFormed base message → IsReadAs (message_text base message) message

-- ---- from any start

-- the content is as short as images are
abbrev pub IsShort : Content → Type 0
IsShort content = length (compact_text (content_data content)) < longest_body (content_kind content)

-- Any start, if these records are ours: whoever wrote what the provider holds, and whatever the connector wants and
-- knows. What is held of our records is as short as images are
pub record IsFitStart (ours : Names) (start : World) : Type 0 where
  pub is_start : IsStart start
  pub mine : AllOurs ours start.history
  pub short : (e : Entry) (content : Content) → Has start.entries e → ours e.name ≡ true → Has (story e) content
      → IsShort content
  pub few : (e : Entry) → Has start.entries e → length (story e) ≤ last_version

-- Every message that is sent from any start is read too, if others leave our records alone from then on
abbrev pub MessagesAreReadFrom : Type 0
MessagesAreReadFrom =
    (base : List ℕ) (ours : Names) (start : World) (all : List Act) (message : Message) → IsBase base
    → IsFitStart ours start → KeepsApart ours all → AllByRecursion IsLawfulAct all
    → Has (run_among start all).messages message → IsFormed base message → IsReadAs (message_text base message) message
