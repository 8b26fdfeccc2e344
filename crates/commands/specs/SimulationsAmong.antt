-- What a `simulate` among others does, its exit status, and why it ends early.
use Rattle.std.specs.Prelude.{◌≡◌, ℕ, Bool, true, if◌then◌else◌, ◌&&◌, List, Option, Result, Ok, Err}
use Rattle.std.specs.List.{list_all}
use Rattle.std.specs.declared.io.Error.{Error}
use Rattle.source_csv.specs.Fields.{Record}
use Rattle.provider_core.specs.declared.registry.Registry.{Ghosts as Registries}
use Rattle.journal_core.specs.declared.journals.Journal.{Ghosts as Journals}
use Rattle.world_sim.specs.PrintingAmong.{EndsPrintingAmong, PrintsAmong}
use Rattle.world_sim.specs.Schedules.{acts_in, events_in}
use Rattle.world_sim.specs.declared.acting.Act.{Act}
use Rattle.world_sim.specs.declared.acting.ActReport.{ActReport}
use Rattle.world_sim.specs.declared.acting.ActReport.TheVariants as told
use Rattle.world_sim.specs.declared.events.Event.{Event}
use Rattle.world_sim.specs.declared.following.TellingFault.{TellingFault}
use Rattle.world_sim.specs.declared.printing.ReportLines.{ReportLines}
use Rattle.world_sim.specs.declared.printing_among.PrintedAmong.{PrintedAmong}
use Rattle.world_sim.specs.declared.schedules.ScheduleFault.{ScheduleFault}
use Rattle.world_sim.specs.declared.views.View.{View}
use Rattle.commands.specs.Statuses.{is_confirmed, is_taken, telling_fault}
use Rattle.commands.specs.declared.simulating_among.Schedule.{Schedule}
use Rattle.commands.specs.declared.simulating_among.Schedule.TheVariants as schedules
use Rattle.commands.specs.declared.status.CommandFault.{CommandFault}
use Rattle.commands.specs.declared.status.Status.{Status}
use Rattle.commands.specs.declared.status.Status.TheVariants.{Done, Refused}

-- ---- schedules

-- events of ours alone, or acts
pub data Said : Type 0 where
  Alone : (events : List Event) → Said
  Among : (acts : List Act) → Said

abbrev pub said_by : Schedule → Said
said_by (schedules.Alone events) = Alone events.items
said_by (schedules.Among acts) = Among acts.items

-- what a schedule says, by its acts
abbrev pub among_in : Result (List Act) ScheduleFault → Result Said ScheduleFault
among_in (Ok acts) = Ok (Among acts)
among_in (Err fault) = Err fault

-- the same by its events, if each line is one
abbrev pub alone_or : Result (List Event) ScheduleFault → Result (List Act) ScheduleFault → Result Said ScheduleFault
alone_or (Ok events) acts = Ok (Alone events)
alone_or (Err fault) acts = among_in acts

-- What a schedule says: its events, if each line is one, and otherwise its acts, or the first line that is neither an
-- event nor what others write
abbrev pub schedule_of : (List ℕ → List Record) → List ℕ → Result Said ScheduleFault
schedule_of records_in text = alone_or (events_in records_in text) (acts_in records_in text)

-- ---- runs

-- an act that isn't a row of ours which the connector refuses
abbrev pub is_taken_act : ActReport → Bool
is_taken_act (told.Ours report) = is_taken report
is_taken_act (told.Others status) = true
is_taken_act (told.Waits member) = true

-- everything is done if no row of ours was refused and every record of ours is confirmed at the end
abbrev pub acted_status : List ActReport → List View → Status
acted_status reports views = if list_all is_taken_act reports && list_all is_confirmed views then Done else Refused

-- The lines of the reports, of the run to convergence, of our records and of those of others were printed, and the
-- status is that of ours
pub record SimulatesAmong {R J W : Type 0} (g : Registries R) (h : Journals J) (contents : W → Option (List ℕ))
    (registry : R) (journal : J) (base : List ℕ) (all : List Act) (asked : Bool)
    (before after : ReportLines ActReport W) (status : Status) : Type 0 where
  pub printed : PrintedAmong R J
  pub prints : PrintsAmong g h contents registry journal base all asked before after printed
  pub status_is : status ≡ acted_status after.reports.items printed.views.items

-- Why it ended early, and what was printed before that
pub record EndsAmongOthers {R J W : Type 0} (g : Registries R) (h : Journals J) (contents : W → Option (List ℕ))
    (registry : R) (journal : J) (base : List ℕ) (all : List Act) (before after : ReportLines ActReport W)
    (fault : CommandFault) : Type 0 where
  pub why : TellingFault Error
  pub ends : EndsPrintingAmong g h contents registry journal base all before after why
  pub is : fault ≡ telling_fault why
