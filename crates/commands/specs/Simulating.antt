-- The events that the arguments of `simulate` ask for.
use Rattle.std.specs.Prelude.{ℕ, Bool, true, false, List, Option, None, Some, Result, Ok, Err}
use Rattle.std.specs.Prelude.{if◌then◌else◌, ◌&&◌, codes, nat_le}
use Rattle.std.specs.Str.{bytes_eq}
use denote.Ref.{Bor}
use Rattle.commands.specs.declared.simulating.Events.{Events}
use Rattle.commands.specs.declared.simulating.Events.TheVariants.{Scheduled, Random}
use Rattle.commands.specs.declared.simulating.EventsFault.TheVariants.{Source, Count, Connectors, Start}
use Rattle.commands.specs.declared.status.CommandFault.{CommandFault}
use Rattle.commands.specs.declared.status.CommandFault.TheVariants as fault

-- this number of random events of this seed, from 1 to 100,000
abbrev pub random_events : (seed count : ℕ) → Result Events CommandFault
random_events seed count =
    if nat_le 1 count && nat_le count 100_000 then Ok (Random seed count) else Err (fault.Events Count)

-- The events of a schedule, or random ones of a seed: 1,000 if the arguments give no number
abbrev pub wanted_events : (file : Option (Bor (List ℕ))) → (seed count : Option ℕ) → Result Events CommandFault
wanted_events (Some file) None None = Ok (Scheduled file)
wanted_events None (Some seed) None = Ok (Random seed 1_000)
wanted_events None (Some seed) (Some count) = random_events seed count
wanted_events (Some file) None (Some count) = Err (fault.Events Count)
wanted_events (Some file) (Some seed) count = Err (fault.Events Source)
wanted_events None None count = Err (fault.Events Source)

-- this number of connectors, from 1 to 100
abbrev pub several : (connectors : ℕ) → Result (Option ℕ) CommandFault
several connectors =
    if nat_le 1 connectors && nat_le connectors 100 then Ok (Some connectors) else Err (fault.Events Connectors)

-- How many connectors share the provider, if the arguments say it; the events of a schedule are of one connector
abbrev pub wanted_connectors : Events → (connectors : Option ℕ) → Result (Option ℕ) CommandFault
wanted_connectors events None = Ok None
wanted_connectors (Random seed count) (Some connectors) = several connectors
wanted_connectors (Scheduled file) (Some connectors) = Err (fault.Events Connectors)

-- Whether the events begin at a random start, if the arguments say it; only random events of one connector do
abbrev pub wanted_start : Events → (connectors : Option ℕ) → (is_any : Bool) → Result Bool CommandFault
wanted_start events connectors false = Ok false
wanted_start (Random seed count) None true = Ok true
wanted_start (Random seed count) (Some connectors) true = Err (fault.Events Start)
wanted_start (Scheduled file) connectors true = Err (fault.Events Start)

-- ---- single arguments

-- whether a flag is set
abbrev pub is_set : Option (List ℕ) → Bool
is_set None = false
is_set (Some text) = bytes_eq text (codes "true")
