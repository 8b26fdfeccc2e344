-- The places of the provider that are taken or still needed: no act makes them fewer, and requests of ours make them no
-- more.
use Rattle.std.proofs.Common.{◌≡◌, ℕ, zero, suc, ◌+◌, ◌<◌, ◌≤◌, true, false, not, List, [], ◌∷◌, ◌++◌, length, Option, Some, None, Result, Ok, Err, is_none, inl, inr, refl, ap, sym, ◌∙◌, arith, length-append}
use Rattle.std.proofs.lemmas.Bool.{false_from_ne_true}
use Rattle.std.specs.List.{filter}
use Rattle.scim_key.specs.declared.records.RecordName.{RecordName}
use Rattle.scim_resource.specs.Contents.{content_name}
use Rattle.scim_resource.specs.declared.contents.Content.{Content}
use Rattle.scim_message.specs.declared.messages.Request.{Request}
use Rattle.scim_message.specs.declared.messages.Request.TheVariants.{Create}
use Rattle.provider_core.specs.Outcomes.{most_resources}
use Rattle.provider_core.specs.Stories.{Entry, Numbered, first_entry, renew_at, step, AllGoOn}
use Rattle.provider_core.specs.Tables.{entry_named, IsWholeTable, Writes, Writes.nothing, Writes.created, Writes.replaced}
use Rattle.provider_core.proofs.RowLaws.{both_true}
use Rattle.provider_core.proofs.StoryLaws.{stories_only_grow}
use Rattle.provider_core.proofs.TableLaws.{at_push, at_end, at_more, at_renew, go_on_at, named_found, not_named, steps_write}
use Rattle.source_csv.specs.Records.{row_name}
use Rattle.source_csv.specs.declared.rows.Row.{Row}
use Rattle.connector_core.specs.Asking.{asking}
use Rattle.connector_core.specs.Changing.{names_of}
use Rattle.connector_core.specs.declared.accepting.Verdict.{Verdict}
use Rattle.connector_core.specs.declared.accepting.Verdict.TheVariants as verdicts
use Rattle.connector_core.specs.declared.asking.Ask.{Ask}
use Rattle.connector_core.specs.declared.asking.Ask.TheVariants.{Nothing, Waits, Send}
use Rattle.connector_core.specs.declared.changing.ChangeFault.{ChangeFault}
use Rattle.world_model.specs.World.{World, Message, Asked, Answered, Event, Changes, Sends, Delivers, Cuts, Restarts_provider, Restarts_connector, Doubts, names, changes, sends, replies, delivers, message_at, happens, judged}
use Rattle.world_model.specs.Safe.{IsAt, Has}
use Rattle.world_model.specs.Untroubled.{most_entries}
use Rattle.world_model.specs.Others.{Act, Ours, Theirs, acts, run_among}
use Rattle.world_model.specs.Room.{is_unmade, places, HasRoom, RoomWasThere}
use Rattle.world_model.proofs.Counting.{InOrder, Counted, many, names_push, names_ordered, more_with, many_both, same_many, one_more_at_most, one_more_at_least, some_many, no_more, few_names}
use Rattle.world_model.proofs.Lists.{kept_has}

-- no entry is of the record
abbrev pub Lacks : List Entry → RecordName → Type 0
Lacks es name = (i : ℕ) (e : Entry) → IsAt es i e → e.name ≡ name → ⊥

-- ---- which records have an entry

is_lacking : (es : List Entry) (name : RecordName) → is_unmade es name ≡ true → Lacks es name
is_lacking es name unmade = go (entry_named name es) refl unmade
  where
    go : (o : Option Numbered) → entry_named name es ≡ o → is_none o ≡ true → Lacks es name
    go None found is = λ i e. not_named name es i e found
    go (Some n) found is = absurd (cc)

if_lacking : (es : List Entry) (name : RecordName) → Lacks es name → is_unmade es name ≡ true
if_lacking es name lacks = go (entry_named name es) refl
  where
    go : (o : Option Numbered) → entry_named name es ≡ o → is_none o ≡ true
    go None found = refl
    go (Some n) found = let (i, number, at, named) = named_found name es n found in absurd (lacks i n.entry at named)

same_lacking : (es fs : List Entry) (name : RecordName) → (Lacks es name → Lacks fs name) → (Lacks fs name → Lacks es name) → is_unmade es name ≡ is_unmade fs name
same_lacking es fs name to from =
    both_true (is_unmade es name) (is_unmade fs name) (λ is. if_lacking fs name (to (is_lacking es name is))) (λ is. if_lacking es name (from (is_lacking fs name is)))

made : (es : List Entry) (i : ℕ) (e : Entry) → IsAt es i e → is_unmade es e.name ≡ false
made es i e at = false_from_ne_true _ (λ is. is_lacking es e.name is i e at refl)

-- ---- what a request writes

module _ (es : List Entry) (content : Content) (free : entry_named (content_name content) es ≡ None) where
  abbrev with_first : List Entry
  with_first = es ++ first_entry content ∷ []

  created_same : (name : RecordName) → (name ≡ content_name content → ⊥) → is_unmade es name ≡ is_unmade with_first name
  created_same name other = same_lacking es with_first name (λ lacks i e at named. elim (at_push es (first_entry content) i e at) [
    | inl old ↦ lacks i e old named
    | inr new ↦ other (sym named ∙ ap (λ (x : Entry). x.name) (sym new.1))
  ]) (λ lacks i e at named. lacks i e (at_more es (first_entry content ∷ []) i e at) named)

  was_unmade : is_unmade es (content_name content) ≡ true
  was_unmade = ap is_none free

  is_made : is_unmade with_first (content_name content) ≡ false
  is_made = made with_first (length es) (first_entry content) (at_end es (first_entry content))

  one_longer : length with_first ≡ length es + 1
  one_longer = omega (arith, length-append es (first_entry content ∷ []))

renew_length : (i : ℕ) (content : Content) (es : List Entry) → length (renew_at i content es) ≡ length es
renew_length i content [] = refl
renew_length zero content (e ∷ es) = refl
renew_length (suc i) content (e ∷ es) = ap suc (renew_length i content es)

renewed_same : (i : ℕ) (content : Content) (es : List Entry) → AllGoOn es (renew_at i content es) → (name : RecordName) → is_unmade es name ≡ is_unmade (renew_at i content es) name
renewed_same i content es all name = same_lacking es (renew_at i content es) name (λ lacks k f at named.
    let (e, here, which) = at_renew i content es k f at in
    let same : f.name ≡ e.name = elim which [
      | inl old ↦ ap (λ (x : Entry). x.name) old
      | inr new ↦ ap (λ (x : Entry). x.name) new.1
    ] in
    lacks k e here (sym same ∙ named)) (λ lacks k e at named. let (f, there, goes) = go_on_at es (renew_at i content es) k e all at in lacks k f there (goes.name ∙ named))

-- the entries, and the names without an entry
abbrev over : List Entry → List RecordName → ℕ
over es all = length es + many (is_unmade es) all

grow_by : {es : List Entry} {request : Request} {fs : List Entry} → Writes es request fs → AllGoOn es fs → (all : List RecordName) → InOrder all → over es all ≤ over fs all
grow_by nothing on all order = omega arith
grow_by (created {es = es} content free) on all order =
    let most = one_more_at_most (is_unmade es) (is_unmade (with_first es content free)) (content_name content) (created_same es content free) all order in
    omega (arith, one_longer es content free, most)
grow_by (replaced {es = es} i e content m n there named below holds) on all order =
    let same = same_many (is_unmade es) (is_unmade (renew_at i content es)) all (λ k name at. renewed_same i content es on name) in
    omega (arith, renew_length i content es, same)

-- a Create of one of these names
abbrev IsOwn : List RecordName → Request → Type 0
IsOwn all request = (content : Content) → request ≡ Create content → Has all (content_name content)

keep_by : {es : List Entry} {request : Request} {fs : List Entry} → Writes es request fs → AllGoOn es fs → (all : List RecordName) → IsOwn all request → over fs all ≤ over es all
keep_by nothing on all own = omega arith
keep_by (created {es = es} content free) on all own =
    let has = own content refl in
    let least = one_more_at_least (is_unmade es) (is_unmade (with_first es content free)) (content_name content) (created_same es content free)
    (was_unmade es content free) (is_made es content free) all has.0 has.1 in
    omega (arith, one_longer es content free, least)
keep_by (replaced {es = es} i e content m n there named below holds) on all own =
    let same = same_many (is_unmade es) (is_unmade (renew_at i content es)) all (λ k name at. renewed_same i content es on name) in
    omega (arith, renew_length i content es, same)

step_places : (w : World) (request : Request) → over w.entries (names w) ≤ over (step w.entries request).entries (names w)
step_places w request = grow_by (steps_write w.entries request) (stories_only_grow w.entries request) (names w) (names_ordered w.history)

-- ---- every act

changes_places : (w : World) (row : Row) (v : Result Verdict ChangeFault) → places w ≤ places (changes w row v)
changes_places w row (Ok verdicts.New) =
    let pushed = ap (many (is_unmade w.entries)) (names_push [] w.history row) in
    omega (arith, pushed, more_with (is_unmade w.entries) (names_of w.history) (row_name row))
changes_places w row (Ok verdicts.Known) = omega arith
changes_places w row (Ok verdicts.Older) = omega arith
changes_places w row (Err fault) = omega arith

sends_places : (w : World) (o : Option Ask) → places w ≤ places (sends w o)
sends_places w None = omega arith
sends_places w (Some Nothing) = omega arith
sends_places w (Some (Waits member)) = omega arith
sends_places w (Some (Send request)) = omega arith

delivers_places : (w : World) (o : Option Message) → places w ≤ places (delivers w o)
delivers_places w None = omega arith
delivers_places w (Some (Asked request)) = step_places w request
delivers_places w (Some (Answered request answer)) = omega arith

event_places : (w : World) (event : Event) → places w ≤ places (happens w event)
event_places w (Changes row) = changes_places w row (judged w row)
event_places w (Sends name) = sends_places w (asking w.book name)
event_places w (Delivers number) = delivers_places w (message_at w.messages number)
event_places w (Cuts number count) = omega arith
event_places w Restarts_provider = omega arith
event_places w Restarts_connector = omega arith
event_places w (Doubts name) = omega arith

act_places : (w : World) (act : Act) → places w ≤ places (acts w act)
act_places w (Ours event) = event_places w event
act_places w (Theirs request) = step_places w request

among_places : (w : World) (later : List Act) → places w ≤ places (run_among w later)
among_places w [] = omega arith
among_places w (act ∷ later) = omega (arith, act_places w act, among_places (acts w act) later)

pub room_was_there : RoomWasThere
room_was_there w later room = omega (arith, room, among_places w later)

-- ---- room for our records

-- there is a free place for each record of the source that has no entry
pub free_place : (w : World) → HasRoom w → (name : RecordName) → Has (names w) name → Lacks w.entries name → length w.entries < most_resources
free_place w room name has lacks = omega (arith, room, some_many (is_unmade w.entries) (names w) has.0 name has.1 (if_lacking w.entries name lacks))

-- a request of ours leaves room
pub own_room : (w : World) (request : Request) → IsOwn (names w) request → HasRoom w → HasRoom (replies w request (step w.entries request))
own_room w request own room = omega (arith, room, keep_by (steps_write w.entries request) (stories_only_grow w.entries request) (names w) own)

-- if every entry is of a record of the source, there are few
pub places_few : (w : World) → Counted w.history → IsWholeTable w.entries → ((i : ℕ) (e : Entry) → IsAt w.entries i e → Has (names w) e.name) → places w ≤ most_entries
places_few w counted whole named =
    let below = no_more (λ (e : Entry). e.name) w.entries (filter (λ name. not (is_unmade w.entries name)) (names w)) whole.distinct (λ i e at.
    let has = named i e at in
    kept_has (λ name. not (is_unmade w.entries name)) (names w) has.0 e.name has.1 (ap not (made w.entries i e at))) in
    omega (arith, below, many_both (is_unmade w.entries) (names w), few_names w.history counted)
