-- What each event reports.
use Rattle.std.specs.Prelude.{ℕ, suc, Bool, true, false, List, [], ◌∷◌, length, Option, Some, None, Result, nat_lt}
use Rattle.scim_message.specs.declared.messages.Request.{Request}
use Rattle.scim_message.specs.declared.messages.Request.TheVariants.{Create, Retrieve, Search, Replace}
use Rattle.scim_message.specs.Messages.{answer_status}
use Rattle.provider_core.specs.Stories.{step}
use Rattle.connector_core.specs.declared.accepting.Verdict.{Verdict}
use Rattle.connector_core.specs.Asking.{asking}
use Rattle.connector_core.specs.declared.asking.Ask.{Ask}
use Rattle.connector_core.specs.declared.asking.Ask.TheVariants.{Nothing, Waits, Send}
use Rattle.connector_core.specs.Learning.{learn}
pub use Rattle.connector_core.specs.Noting.{learnt_of}
use Rattle.connector_core.specs.declared.knowledge.Known.{Known}
use Rattle.connector_core.specs.declared.learning.Learnt.{Learnt}
use Rattle.connector_core.specs.declared.learning.LearnFault.{LearnFault}
use Rattle.connector_core.specs.declared.changing.ChangeFault.{ChangeFault}
use Rattle.world_model.specs.World.{World, Message, Asked, Answered, Event, Changes, Sends, Delivers, Cuts, Restarts_provider, Restarts_connector, Doubts, judged, message_at, happens}

pub data Report : Type 0 where
  Judged : (verdict : Result Verdict ChangeFault) → Report
  Unknown_record : Report  -- C7 of a Send or a Doubt
  Idle : Report  -- nothing is asked for
  Waiting : (member : List ℕ) → Report
  Finding : (number : ℕ) → Report  -- a Search was sent, as the message with this number
  Creating : (number : ℕ) → Report
  Replacing : (number : ℕ) → Report
  Answering : (number : ℕ) → (status : ℕ) → Report
  Taught : (learnt : Result Learnt LearnFault) → Report
  No_message : Report
  Cut_short : Report
  Restarted : Report
  Doubted : Report

-- the number of the next message
abbrev pub next_number : World → ℕ
next_number w = suc (length w.messages)

-- (a Retrieve is never asked for)
abbrev pub sending_report : (number : ℕ) → Request → Report
sending_report number (Create content) = Creating number
sending_report number (Retrieve kind id if_match if_none_match) = Finding number
sending_report number (Search kind wanted start count) = Finding number
sending_report number (Replace id content if_match if_none_match) = Replacing number

abbrev pub ask_report : (number : ℕ) → Option Ask → Report
ask_report number None = Unknown_record
ask_report number (Some Nothing) = Idle
ask_report number (Some (Waits member)) = Waiting member
ask_report number (Some (Send request)) = sending_report number request

abbrev pub arrival_report : World → Message → Report
arrival_report w (Asked request) = Answering (next_number w) (answer_status (step w.entries request).answer)
arrival_report w (Answered request answer) = Taught (learnt_of (learn w.book request answer))

abbrev pub delivery_report : World → Option Message → Report
delivery_report w None = No_message
delivery_report w (Some message) = arrival_report w message

-- by whether fewer bytes arrived than the message has
abbrev pub cut_at : (short : Bool) → Report
cut_at true = Cut_short
cut_at false = No_message

abbrev pub cut_report : (size : Message → ℕ) → Option Message → (length : ℕ) → Report
cut_report size None length = No_message
cut_report size (Some message) length = cut_at (nat_lt length (size message))

abbrev pub doubt_report : Option Known → Report
doubt_report None = Unknown_record
doubt_report (Some known) = Doubted

-- The report of an event; `size` is the number of bytes of a message
abbrev pub report : (size : Message → ℕ) → World → Event → Report
report size w (Changes row) = Judged (judged w row)
report size w (Sends name) = ask_report (next_number w) (asking w.book name)
report size w (Delivers number) = delivery_report w (message_at w.messages number)
report size w (Cuts number length) = cut_report size (message_at w.messages number) length
report size w Restarts_provider = Restarted
report size w Restarts_connector = Restarted
report size w (Doubts name) = doubt_report (w.book name)

-- the reports of a list of events
abbrev pub reports : (size : Message → ℕ) → World → List Event → List Report
reports size w [] = []
reports size w (event ∷ events) = report size w event ∷ reports size (happens w event) events
