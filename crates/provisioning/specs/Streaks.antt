-- How many records in a row met the same obstacle, and when a run gives up.
use Rattle.std.specs.Prelude.{◌≡◌, ℕ, Bool, true, false, ◌==◌, ◌+◌, ◌&&◌, Option, Some, None, Result, Ok, Err, min, nat_lt, if◌then◌else◌}
use Rattle.scim_client.specs.declared.exchange.ExchangeFault.{ExchangeFault}
use Rattle.scim_client.specs.declared.exchange.ExchangeFault.TheVariants.{Unsent, EndedEarly, ReadFailed, OutOfMemory, TurnsExhausted, NoAnswer}
use Rattle.provisioning.specs.Records.{greatest_count}
use Rattle.provisioning.specs.declared.faults.RecordFault.{RecordFault}
use Rattle.provisioning.specs.declared.faults.RecordFault.TheVariants.{Unanswered, Unfit, Unversioned, Refused, NoSuchRecord}
use Rattle.provisioning.specs.declared.faults.RunFault.{RunFault}
use Rattle.provisioning.specs.declared.faults.RunFault.TheVariants.{GivenUp}
use Rattle.provisioning.specs.declared.records.Pushed.{Pushed}
use Rattle.provisioning.specs.declared.records.Standing.{Standing}
use Rattle.provisioning.specs.declared.records.Standing.TheVariants.{Confirmed, Waits, Unconfirmed}
use Rattle.provisioning.specs.declared.streaks.Obstacle.{Obstacle}
use Rattle.provisioning.specs.declared.streaks.Obstacle.TheVariants.{Unauthorized, Forbidden, TooMany, Unavailable, Lost}
use Rattle.provisioning.specs.declared.streaks.Streak.{Streak}

-- ---- what may keep every record from being confirmed

-- the connection was opened, and failed
abbrev pub obstacle_lost : ExchangeFault → Option Obstacle
obstacle_lost (Unsent fault) = Some Lost
obstacle_lost EndedEarly = Some Lost
obstacle_lost ReadFailed = Some Lost
obstacle_lost TurnsExhausted = Some Lost
obstacle_lost OutOfMemory = None
obstacle_lost (NoAnswer fault) = None

abbrev pub obstacle_refused : (status : ℕ) → Option Obstacle
obstacle_refused status =
    if status == 401 then Some Unauthorized else (if status == 403 then Some Forbidden
    else (if status == 429 then Some TooMany else (if status == 503 then Some Unavailable else None)))

abbrev pub obstacle_in : RecordFault → Option Obstacle
obstacle_in (Unanswered fault) = obstacle_lost fault
obstacle_in (Refused status) = obstacle_refused status
obstacle_in Unfit = None
obstacle_in Unversioned = None
obstacle_in NoSuchRecord = None

abbrev pub obstacle_of : Standing → Option Obstacle
obstacle_of (Unconfirmed (Some fault)) = obstacle_in fault
obstacle_of (Unconfirmed None) = None
obstacle_of (Confirmed revision) = None
obstacle_of (Waits member) = None

abbrev pub same_obstacle : Obstacle → Obstacle → Bool
same_obstacle Unauthorized Unauthorized = true
same_obstacle Forbidden Forbidden = true
same_obstacle TooMany TooMany = true
same_obstacle Unavailable Unavailable = true
same_obstacle Lost Lost = true
same_obstacle _ _ = false

-- ---- in a row

abbrev pub streak_at : Obstacle → (count : ℕ) → Option Streak
streak_at obstacle count = Some (record { obstacle = obstacle; count = count })

-- after a record that met this obstacle, or none: the same obstacle makes the streak longer, another begins one
abbrev pub met_again : Option Streak → Option Obstacle → Option Streak
met_again streak None = None
met_again None (Some obstacle) = streak_at obstacle 1
met_again (Some streak) (Some obstacle) =
    if same_obstacle streak.obstacle obstacle then streak_at obstacle (min greatest_count (streak.count + 1))
    else streak_at obstacle 1

-- a record for which nothing was sent is passed over
abbrev pub streak_with : Option Streak → Pushed → Option Streak
streak_with streak pushed =
    if pushed.exchanges == 0 then streak else met_again streak (obstacle_of pushed.standing)

-- ---- giving up

-- the run ends if the streak has reached the limit, unless that is 0
abbrev pub go_on_after : (limit : ℕ) → Option Streak → Result (Unit {0}) RunFault
go_on_after limit None = Ok tt
go_on_after limit (Some streak) = if nat_lt 0 limit && (streak.count == limit) then Err (GivenUp streak) else Ok tt

-- some streak reached the limit
abbrev pub IsGivenUp : (limit : ℕ) → RunFault → Type 0
IsGivenUp limit fault = (streak : Option Streak) × (go_on_after limit streak ≡ Err fault)
