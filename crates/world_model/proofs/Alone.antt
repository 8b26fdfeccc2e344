-- Room and settling without others; and that others may act at any time of an exchange.
use Rattle.std.proofs.Common.{◌≡◌, ℕ, ◌≤◌, List, [], ◌∷◌, map, length, Option, Some, None, refl, ap, sym, ◌∙◌}
use Rattle.std.specs.List.{AllByRecursion}
use Rattle.scim_message.specs.declared.messages.Request.{Request}
use Rattle.scim_message.specs.declared.messages.Answer.{Answer}
use Rattle.connector_core.specs.Asking.{asking}
use Rattle.connector_core.specs.declared.asking.Ask.{Ask}
use Rattle.connector_core.specs.declared.asking.Ask.TheVariants.{Nothing, Waits, Send}
use Rattle.world_model.specs.World.{World, Message, Answered, Event, Delivers, sends, delivers, message_at, happens, empty, run}
use Rattle.world_model.specs.Untroubled.{IsLawful, most_entries, Untroubled}
use Rattle.world_model.specs.Invariant.{all_names}
use Rattle.world_model.specs.Others.{Ours, Theirs, acts}
use Rattle.world_model.specs.Room.{IsLawfulAct, UntroubledAmong, ActsAnyTime, RoomWithoutOthers}
use Rattle.world_model.proofs.Quiet.{room_alone, always_quiet}
use Rattle.world_model.proofs.Settling.{turns_alone, turns_among}

-- ---- at any time of an exchange

sending : (w : World) (request : Request) (o : Option Ask) → acts (sends w o) (Theirs request) ≡ sends (acts w (Theirs request)) o
sending w request None = refl
sending w request (Some Nothing) = refl
sending w request (Some (Waits member)) = refl
sending w request (Some (Send asked)) = refl

learning : (w : World) (number : ℕ) (asked : Request) (answer : Answer) (request : Request) → message_at w.messages number ≡ Some (Answered asked answer)
    → acts (happens w (Delivers number)) (Theirs request) ≡ happens (acts w (Theirs request)) (Delivers number)
learning w number asked answer request is =
    ap (λ (o : Option Message). acts (delivers w o) (Theirs request)) is ∙ ap (λ (o : Option Message). delivers (acts w (Theirs request)) o) (sym is)

pub act_any_time : ActsAnyTime
act_any_time = record { sending = λ w name request. sending w request (asking w.book name); learning = learning }

-- ---- without others

lawful : (events : List Event) → AllByRecursion IsLawful events → AllByRecursion IsLawfulAct (map Ours events)
lawful [] law = tt
lawful (event ∷ events) law = (law.0, lawful events law.1)

of_all : (w : World) → UntroubledAmong all_names w × (length w.entries ≤ most_entries) → Untroubled w
of_all w (u, few) = record { learns = u.learns; room = u.room; versions = λ e has. u.versions e has refl; entries = few; bodies = u.bodies }

for_all : (w : World) → Untroubled w → UntroubledAmong all_names w × (length w.entries ≤ most_entries)
for_all w u = (record { learns = u.learns; room = u.room; versions = λ e has mine. u.versions e has; bodies = u.bodies }, u.entries)

pub room_without_others : RoomWithoutOthers
room_without_others = record {
  room = λ events law. room_alone (run empty events) (always_quiet events law);
  lawful = lawful;
  untroubled = λ w. (for_all w, of_all w);
  turns = λ w names count v. (turns_among names w count v, turns_alone names w count v);
}
