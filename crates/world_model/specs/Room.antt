-- Others can fill the provider. As long as it has room for our records, it refuses no request of ours, and exchanges in
-- which nothing is lost settle all records, whatever others do meanwhile.
use Rattle.std.specs.Prelude.{◌≡◌, ◌≢◌, ◌↔◌, ℕ, zero, suc, ◌+◌, ◌<◌, ◌≤◌, Bool, true, List, [], ◌∷◌, Some, map, length}
use Rattle.std.specs.Prelude.{IsOk, is_none}
use Rattle.std.specs.List.{AllByRecursion, filter}
use Rattle.serde_json.specs.Written.{compact_text}
use Rattle.scim_key.specs.Revisions.{most_revisions}
use Rattle.scim_key.specs.declared.records.RecordName.{RecordName}
use Rattle.scim_resource.specs.Contents.{content_kind}
use Rattle.scim_resource.specs.Writing.{content_data}
use Rattle.scim_resource.specs.declared.contents.Content.{Content}
use Rattle.scim_message.specs.declared.messages.Request.{Request}
use Rattle.scim_message.specs.declared.messages.Answer.{Answer}
use Rattle.scim_message.specs.declared.messages.Answer.TheVariants.{Error}
use Rattle.scim_message.specs.declared.refusals.Refusal.TheVariants.{LimitReached}
use Rattle.scim_message.specs.Refusals.{error_of}
use Rattle.provider_core.specs.Outcomes.{most_resources}
use Rattle.provider_core.specs.Stories.{Entry, story, step}
use Rattle.provider_core.specs.Tables.{entry_named}
use Rattle.connector_core.specs.Learning.{learn}
use Rattle.world_model.specs.World.{World, Asked, Answered, Event, Sends, Delivers, message_at, happens, empty, names}
use Rattle.world_model.specs.World.{run}
use Rattle.world_model.specs.Safe.{Has}
use Rattle.world_model.specs.Untroubled.{IsLawful, request_content, longest_body, most_entries, Untroubled}
use Rattle.world_model.specs.Settled.{exchange, Wants, Rests, Turns, IsSettled}
use Rattle.world_model.specs.Invariant.{Names, all_names}
use Rattle.world_model.specs.Others.{Act, Ours, Theirs, acts, run_among, LeavesAlone, KeepsApart}

-- ---- room

-- whether no resource is of the record
abbrev pub is_unmade : List Entry → RecordName → Bool
is_unmade es name = is_none (entry_named name es)

-- the records of the source that have no resource yet
abbrev pub unmade : World → List RecordName
unmade w = filter (is_unmade w.entries) (names w)

-- the places that are taken, by whomever, and those that records of the source still need
abbrev pub places : World → ℕ
places w = length w.entries + length (unmade w)

-- HasRoom: the provider has at least as many free places as the source has records without a resource
abbrev pub HasRoom : World → Type 0
HasRoom w = places w ≤ most_resources

-- if there is room, there was room at each earlier moment, whoever acted since
abbrev pub RoomWasThere : Type 0
RoomWasThere = (w : World) (later : List Act) → HasRoom (run_among w later) → HasRoom w

-- ---- what never happens while there is room

-- each row that our source offers is within the limits of the source
abbrev pub IsLawfulAct : Act → Type 0
IsLawfulAct (Ours event) = IsLawful event
IsLawfulAct (Theirs request) = Unit {0}

-- the connector learns from every reply that was ever given to it, no request of ours that was ever sent meets a limit
-- of the provider, and the numbers that this rests on
pub record UntroubledAmong (ours : Names) (w : World) : Type 0 where
  pub learns : (request : Request) (answer : Answer) → Has w.messages (Answered request answer)
      → IsOk (learn w.book request answer)
  pub room : (request : Request) → Has w.messages (Asked request)
      → (step w.entries request).answer ≢ Error (error_of LimitReached)
  pub versions : (e : Entry) → Has w.entries e → ours e.name ≡ true → length (story e) ≤ most_revisions
  pub bodies : (request : Request) (content : Content) → Has w.messages (Asked request)
      → request_content request ≡ Some content
      → length (compact_text (content_data content)) < longest_body (content_kind content)

abbrev pub NeverRefusedAmong : Type 0
NeverRefusedAmong = (ours : Names) (acts : List Act) → KeepsApart ours acts → AllByRecursion IsLawfulAct acts
    → HasRoom (run_among empty acts) → UntroubledAmong ours (run_among empty acts)

-- ---- exchanges, while others act too

-- what others ask for before the next exchange; it may depend on all that happened
abbrev pub Meanwhile : Type 0
Meanwhile = World → List Request

-- the world after these requests of others
abbrev pub after_them : World → List Request → World
after_them w requests = run_among w (map Theirs requests)

-- they leave our records alone, and where there is room, they leave room for our records
pub record LeavesRoom (ours : Names) (theirs : Meanwhile) : Type 0 where
  pub alone : (w : World) → AllByRecursion (LeavesAlone ours) (theirs w)
  pub room : (w : World) → HasRoom w → HasRoom (after_them w (theirs w))

-- `count` exchanges for one record, each of which sends, lead from w to v, and before each of them others act
abbrev pub ExchangesAmong : Meanwhile → World → RecordName → (count : ℕ) → World → Type 0
ExchangesAmong theirs w name zero v = v ≡ w
ExchangesAmong theirs w name (suc count) v =
    Wants (after_them w (theirs w)) name × ExchangesAmong theirs (exchange (after_them w (theirs w)) name) name count v

-- exchanges for each of these records in turn, until there is nothing to send for it, lead from w to v: at most three
-- for each, and `count` in all
abbrev pub TurnsAmong : Meanwhile → World → List RecordName → (count : ℕ) → World → Type 0
TurnsAmong theirs w [] count v = (v ≡ w) × (count ≡ 0)
TurnsAmong theirs w (name ∷ names) count v =
    (here there : ℕ) × (u : World) × (here ≤ 3) × ExchangesAmong theirs w name here u × Rests u name
    × TurnsAmong theirs u names there v × (count ≡ here + there)

-- at most three exchanges for each record, in the order of names (users before groups), settle all records, with what
-- others do before each of them
abbrev pub SettlesFrom : Meanwhile → World → Type 0
SettlesFrom theirs w = (count : ℕ) × (v : World) × TurnsAmong theirs w (names w) count v × IsSettled v

-- so it is in each world with room that acts lead to, whatever others do meanwhile, if they leave our records alone and
-- leave room for them
abbrev pub SettlesAmong : Type 0
SettlesAmong = (ours : Names) (acts : List Act) (theirs : Meanwhile) → KeepsApart ours acts
    → AllByRecursion IsLawfulAct acts → HasRoom (run_among empty acts) → LeavesRoom ours theirs
    → SettlesFrom theirs (run_among empty acts)

-- what is settled stays settled, whatever others do, if they leave our records alone
abbrev pub StaysSettled : Type 0
StaysSettled = (ours : Names) (acts : List Act) (requests : List Request) → KeepsApart ours acts
    → AllByRecursion (LeavesAlone ours) requests → IsSettled (run_among empty acts)
    → IsSettled (after_them (run_among empty acts) requests)

-- Others may as well act within an exchange: it is the same whether their request comes before or after a request of
-- ours is sent, and before or after a reply comes to the connector
pub record ActsAnyTime : Type 0 where
  pub sending : (w : World) (name : RecordName) (request : Request)
      → acts (happens w (Sends name)) (Theirs request) ≡ happens (acts w (Theirs request)) (Sends name)
  pub learning : (w : World) (number : ℕ) (asked : Request) (answer : Answer) (request : Request)
      → message_at w.messages number ≡ Some (Answered asked answer)
      → acts (happens w (Delivers number)) (Theirs request) ≡ happens (acts w (Theirs request)) (Delivers number)

-- ---- without others

-- there is always room, nothing refused among others is nothing refused, and the exchanges among others who do nothing
-- are those without others
pub record RoomWithoutOthers : Type 0 where
  pub room : (events : List Event) → AllByRecursion IsLawful events → HasRoom (run empty events)
  pub lawful : (events : List Event) → AllByRecursion IsLawful events → AllByRecursion IsLawfulAct (map Ours events)
  pub untroubled : (w : World)
      → Untroubled w ↔ (UntroubledAmong all_names w × (length w.entries ≤ most_entries))
  pub turns : (w : World) (names : List RecordName) (count : ℕ) (v : World)
      → Turns w names count v ↔ TurnsAmong (λ u. []) w names count v
