-- The model's event for an event of code, and the model's report for a report of code.
use Rattle.std.specs.Prelude.{List, map, Result, Ok, Err}
use Rattle.provider_core.specs.declared.provider.ProviderFault.{ProviderFault}
use Rattle.provider_core.specs.declared.provider.ProviderFault.TheVariants as provider
use Rattle.connector_core.specs.declared.changing.ChangeFault.{ChangeFault}
use Rattle.connector_core.specs.declared.changing.ChangeFault.TheVariants as changing
use Rattle.connector_core.specs.declared.learning.LearnFault.{LearnFault}
use Rattle.connector_core.specs.declared.learning.LearnFault.TheVariants as learning
use Rattle.connector_core.specs.declared.opening.ConnectorOpenFault.{ConnectorOpenFault}
use Rattle.connector_core.specs.declared.opening.ConnectorOpenFault.TheVariants as opening
use Rattle.scim_key.specs.declared.stores.StoreFault.{StoreFault}
use Rattle.scim_key.specs.declared.stores.StoreFault.TheVariants as store
use Rattle.world_model.specs.World.{Event, Changes, Sends, Delivers, Cuts, Restarts_provider, Restarts_connector, Doubts}
use Rattle.world_model.specs.Reports as model
use Rattle.world_sim.specs.declared.events.Event.{Event as EventOf}
use Rattle.world_sim.specs.declared.events.Event.TheVariants as events
use Rattle.world_sim.specs.declared.reports.Report.{Report as ReportOf}
use Rattle.world_sim.specs.declared.reports.Report.TheVariants as reports
use Rattle.world_sim.specs.declared.reports.WorldFault.{WorldFault}
use Rattle.world_sim.specs.declared.reports.WorldFault.TheVariants as worlds

abbrev pub event_of : EventOf → Event
event_of (events.Change row) = Changes row
event_of (events.Send name) = Sends name
event_of (events.Deliver number) = Delivers number
event_of (events.Cut number length) = Cuts number length
event_of events.RestartProvider = Restarts_provider
event_of events.RestartConnector = Restarts_connector
event_of (events.Doubt name) = Doubts name

abbrev pub events_of : List EventOf → List Event
events_of events = map event_of events

abbrev pub report_of : ReportOf → model.Report
report_of (reports.Judged verdict) = model.Judged verdict
report_of reports.UnknownRecord = model.Unknown_record
report_of reports.Idle = model.Idle
report_of (reports.Waiting member) = model.Waiting member
report_of (reports.Finding number) = model.Finding number
report_of (reports.Creating number) = model.Creating number
report_of (reports.Replacing number) = model.Replacing number
report_of (reports.Answering number status) = model.Answering number status
report_of (reports.Taught learnt) = model.Taught learnt
report_of reports.NoMessage = model.No_message
report_of reports.CutShort = model.Cut_short
report_of reports.Restarted = model.Restarted
report_of reports.Doubted = model.Doubted

-- the report of an answer from which nothing is learnt, or the world's fault
abbrev pub unlearnt : LearnFault → Result ReportOf WorldFault
unlearnt learning.Unfit = Ok (reports.Taught (Err learning.Unfit))
unlearnt learning.Unversioned = Ok (reports.Taught (Err learning.Unversioned))
unlearnt (learning.Refused status) = Ok (reports.Taught (Err (learning.Refused status)))
unlearnt learning.NoSuchRecord = Ok (reports.Taught (Err learning.NoSuchRecord))
unlearnt learning.Store = Err worlds.Store
unlearnt learning.Memory = Err worlds.Memory

-- the report of a row that isn't accepted, or the world's fault
abbrev pub unaccepted : ChangeFault → Result ReportOf WorldFault
unaccepted changing.Differs = Ok (reports.Judged (Err changing.Differs))
unaccepted (changing.NoSuchMember member) = Ok (reports.Judged (Err (changing.NoSuchMember member)))
unaccepted changing.TooMany = Ok (reports.Judged (Err changing.TooMany))
unaccepted changing.Store = Err worlds.Store
unaccepted changing.Memory = Err worlds.Memory

-- the world's fault for a fault of its provider
abbrev pub world_fault : ProviderFault → WorldFault
world_fault provider.Store = worlds.Store
world_fault provider.Memory = worlds.Memory

-- the world's fault for a fault of its store or its journal
abbrev pub store_fault : StoreFault → WorldFault
store_fault store.Store = worlds.Store
store_fault store.Memory = worlds.Memory

-- the world's fault for a fault of opening its connector
abbrev pub opening_fault : ConnectorOpenFault → WorldFault
opening_fault opening.Store = worlds.Store
opening_fault opening.Memory = worlds.Memory
