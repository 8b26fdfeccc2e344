-- Any start: whatever the provider holds, and whoever wrote it under whatever ids, doubting each record and exchanges
-- in which nothing is lost put all records right.
use Rattle.std.specs.Prelude.{◌≡◌, ℕ, ◌+◌, ◌<◌, ◌≤◌, true, false, List, [], ◌∷◌, map, length, Some, Ok}
use Rattle.std.specs.List.{AllByRecursion}
use Rattle.scim_key.specs.Revisions.{◌≼◌}
use Rattle.scim_key.specs.declared.records.RecordName.{RecordName}
use Rattle.scim_resource.specs.Rows.{ShownRecord, last_version}
use Rattle.scim_resource.specs.declared.contents.Content.{Content}
use Rattle.scim_message.specs.declared.messages.Request.{Request}
use Rattle.scim_message.specs.declared.messages.Answer.{Answer}
use Rattle.provider_core.specs.Stories.{Entry, story}
use Rattle.provider_core.specs.Tables.{IsWholeTable}
use Rattle.source_csv.specs.Records.{IsRow, row_revision}
use Rattle.source_csv.specs.declared.rows.Row.{Row}
use Rattle.comparing.specs.Aspects.{is_same}
use Rattle.mapping.specs.Images.{image}
use Rattle.connector_core.specs.History.{History, MembersAreUsers, last_row, rows_of}
use Rattle.connector_core.specs.Asking.{search_for}
use Rattle.connector_core.specs.Learning.{Shows, finding, is_wanted, shown_revision, subject}
use Rattle.connector_core.specs.declared.knowledge.Known.{Known}
use Rattle.connector_core.specs.declared.knowledge.Seen.TheVariants.{Unknown}
use Rattle.world_model.specs.World.{World, Answered, Delivers, Doubts, happens, message_at, names, empty, run}
use Rattle.world_model.specs.Safe.{IsAt, Has, IsEntryOf, id_in}
use Rattle.world_model.specs.Settled.{exchange, Wants, Rests}
use Rattle.world_model.specs.Invariant.{Names, AllOurs, Follows}
use Rattle.world_model.specs.Others.{Act, run_among, KeepsApart}
use Rattle.world_model.specs.Room.{HasRoom, IsLawfulAct, Meanwhile, LeavesRoom, ExchangesAmong}

-- ---- rechecks

-- the connector doubts each record of the source
abbrev pub doubts_all : World → World
doubts_all w = run w (map Doubts (names w))

-- as TurnsAmong, with at most two exchanges for each record: a search, and a creation or a replacement
abbrev pub TurnsInTwo : Meanwhile → World → List RecordName → (count : ℕ) → World → Type 0
TurnsInTwo theirs w [] count v = (v ≡ w) × (count ≡ 0)
TurnsInTwo theirs w (name ∷ names) count v =
    (here there : ℕ) × (u : World) × (here ≤ 2) × ExchangesAmong theirs w name here u × Rests u name
    × TurnsInTwo theirs u names there v × (count ≡ here + there)

-- ---- the start

-- The rows are valid, and the book follows them and confirms nothing above the wanted revisions. It may know any ids,
-- or none. The provider holds at most one resource per name, whatever it holds
pub record IsInOrder (w : World) : Type 0 where
  pub follows : Follows w.book w.history
  pub within : (name : RecordName) (known : Known) → w.book name ≡ Some known
      → known.confirmed ≼ row_revision known.wanted
  pub lawful : (row : Row) → Has w.history row → IsRow row
  pub members : MembersAreUsers w.history
  pub whole : IsWholeTable w.entries

-- and it has room for our records
pub record Healable (w : World) : Type 0 where
  pub in_order : IsInOrder w
  pub room : HasRoom w

-- the resource of the record, if there is one, shows no revision above the wanted one, and may have one more version
pub record HealableOf (w : World) (name : RecordName) : Type 0 where
  pub not_above : (e : Entry) (known : Known) → IsEntryOf w.entries name e → w.book name ≡ Some known
      → shown_revision e.held ≼ row_revision known.wanted
  pub short : (e : Entry) → IsEntryOf w.entries name e → length (story e) < last_version

abbrev pub AllHealable : World → Type 0
AllHealable w = (name : RecordName) → Has (names w) name → HealableOf w name

-- ---- the end

-- the wanted revision, which is that of the last row, is confirmed and isn't doubted, and the provider holds what is
-- wanted: the image of the row, with its members in any order
pub record IsHealedOf (w : World) (name : RecordName) : Type 0 where
  pub known : Known
  pub entry : Entry
  pub content : Content
  pub in_book : w.book name ≡ Some known
  pub wanted : last_row w.history name ≡ Some known.wanted
  pub confirmed : known.confirmed ≡ row_revision known.wanted
  pub sure : known.is_doubted ≡ false
  pub of_record : IsEntryOf w.entries name entry
  pub its_id : known.id ≡ id_in w.entries name
  pub imaged : image (id_in w.entries) known.wanted ≡ Some content
  pub held : is_same content entry.held ≡ true

-- every record of the source is healed
abbrev pub IsHealed : World → Type 0
IsHealed w = (name : RecordName) → Has (names w) name → IsHealedOf w name

-- doubting each record, and at most two exchanges for each, in the order of names (users before groups), heal all
-- records, with what others do before each exchange
abbrev pub HealsFrom : Meanwhile → World → Type 0
HealsFrom theirs w = (count : ℕ) × (v : World) × TurnsInTwo theirs (doubts_all w) (names w) count v × IsHealed v

-- ---- the laws

-- whoever wrote what the provider holds
abbrev pub Heals : Type 0
Heals = (w : World) → Healable w → AllHealable w → HealsFrom (λ u. []) w

-- and whatever others do meanwhile, if from then on they leave our records alone and leave room for them
abbrev pub HealsAmong : Type 0
HealsAmong = (ours : Names) (theirs : Meanwhile) (w : World) → LeavesRoom ours theirs → AllOurs ours w.history
    → Healable w → AllHealable w → HealsFrom theirs w

-- after every run in which others leave our records alone, only room is left to be asked
abbrev pub HealsInRuns : Type 0
HealsInRuns = (ours : Names) (acts : List Act) (theirs : Meanwhile) → KeepsApart ours acts
    → AllByRecursion IsLawfulAct acts → HasRoom (run_among empty acts) → LeavesRoom ours theirs
    → HealsFrom theirs (run_among empty acts)

-- Any start: each known id is that of the record's resource, nothing was seen of any record, and nothing was sent
pub record IsStart (w : World) : Type 0 where
  pub in_order : IsInOrder w
  pub ids : (name : RecordName) (known : Known) (id : List ℕ) → w.book name ≡ Some known → known.id ≡ Some id
      → id_in w.entries name ≡ Some id
  pub unseen : (name : RecordName) (known : Known) → w.book name ≡ Some known → known.seen ≡ Unknown
  pub unsent : w.messages ≡ []

-- so it is after every run from any start in which anybody requests anything, about our records too; what is left to
-- be asked is that there is room, and that each record may be healed
abbrev pub HealsAfterAnything : Type 0
HealsAfterAnything = (start : World) (acts : List Act) → IsStart start → AllByRecursion IsLawfulAct acts
    → HasRoom (run_among start acts) → AllHealable (run_among start acts)
    → HealsFrom (λ u. []) (run_among start acts)

-- the resource of the record is as it is wanted
pub record AgreesOf (w : World) (name : RecordName) : Type 0 where
  pub known : Known
  pub entry : Entry
  pub in_book : w.book name ≡ Some known
  pub of_record : IsEntryOf w.entries name entry
  pub held : is_wanted w.book known entry.held ≡ true

-- one search is sent for the record, after which there is nothing to send, and no resource changes
pub record OnlySearched (w : World) (name : RecordName) (row : Row) : Type 0 where
  pub sends : Wants w name
  pub is_search : sends.0 ≡ search_for row
  pub rests : Rests (exchange w name) name
  pub entries : (exchange w name).entries ≡ w.entries

-- a doubted record whose resource is as it is wanted takes one exchange, and no change
abbrev pub TouchesOnlyWhatDiffers : Type 0
TouchesOnlyWhatDiffers = (w : World) (name : RecordName) → Healable w → (agrees : AgreesOf w name)
    → OnlySearched (happens w (Doubts name)) name agrees.known.wanted

-- ---- from then on

-- the content is the image of an accepted row of the record, with its members in any order
pub record IsImageInAnyOrder (history : History) (es : List Entry) (name : RecordName) (held : Content) : Type 0 where
  pub row : Row
  pub accepted : Has (rows_of history name) row
  pub content : Content
  pub imaged : image (id_in es) row ≡ Some content
  pub same : is_same content held ≡ true

-- From the earlier moment to the later one: no two resources have the same name; and of these records each resource
-- holds the image of an accepted row, and shows no lower revision than it did
pub record Promised (these : List RecordName) (early late : World) : Type 0 where
  pub one_each : (i j : ℕ) (d e : Entry) → IsAt late.entries i d → IsAt late.entries j e → d.name ≡ e.name → i ≡ j
  pub images : (e : Entry) → Has late.entries e → Has these e.name
      → IsImageInAnyOrder late.history late.entries e.name e.held
  pub never_back : (i : ℕ) (e : Entry) → IsAt early.entries i e → Has these e.name
      → (f : Entry) × IsAt late.entries i f × (f.name ≡ e.name) × (shown_revision e.held ≼ shown_revision f.held)

-- from any start, and whatever anybody did before: once all records are healed, the promise holds for them from then
-- on, whatever we do and whatever messages are under way, if others leave our records alone
abbrev pub PromisedAgain : Type 0
PromisedAgain = (ours : Names) (start : World) (early late : List Act) → IsStart start
    → IsHealed (run_among start early)
    → ((name : RecordName) → Has (names (run_among start early)) name → ours name ≡ true) → KeepsApart ours late
    → Promised (names (run_among start early)) (run_among start early) (run_among (run_among start early) late)

-- the doubts and exchanges that heal are acts too
abbrev pub HealingIsActs : Type 0
HealingIsActs = (theirs : Meanwhile) (w : World) (count : ℕ) (v : World)
    → TurnsInTwo theirs (doubts_all w) (names w) count v → (acts : List Act) × (run_among w acts ≡ v)

-- ---- what doesn't heal

-- an answer to a request from before the doubt, if it showed the record as it is wanted, ends the doubt, whatever the
-- provider holds by then: so a recheck may use only answers to requests that were sent after the doubt
abbrev pub OldAnswersConfirm : Type 0
OldAnswersConfirm = (w : World) (name : RecordName) (known : Known) (number : ℕ) (request : Request) (answer : Answer)
    (s : ShownRecord) (tag : List ℕ) → w.book name ≡ Some known → known.confirmed ≼ row_revision known.wanted
    → message_at w.messages number ≡ Some (Answered request answer) → subject request ≡ Some name
    → finding request answer ≡ Ok (Shows s) → is_wanted w.book known s.content ≡ true → s.version ≡ Some tag
    → Rests (happens (happens w (Doubts name)) (Delivers number)) name
