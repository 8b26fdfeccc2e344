-- How a push is carried out, by its arguments.
use Rattle.std.specs.Prelude.{◌≡◌, ◌⊎◌, ◌≤◌, ℕ, Bool, false, List, Option, Some, None, Result, Ok, Err, codes, if◌then◌else◌}
use Rattle.std.specs.Str.{bytes_eq}
use Rattle.clap.specs.Matches.{first_value, one_text}
use Rattle.clap.specs.declared.parser.matches.Found.{Found}
use Rattle.provisioning.specs.declared.paces.TheConstants.{MOST_STREAMS}
use Rattle.commands.specs.Layouts.{is_snapshot}
use Rattle.commands.specs.Simulating.{is_set}
use Rattle.commands.specs.Words.{GivesCount, IsNumber, number_in}
use Rattle.commands.specs.declared.manners.Manner.{Manner}
use Rattle.commands.specs.declared.manners.TheConstants.{LONGEST_STREAK, MOST_LEAVERS, MOST_SETTLE_SECONDS}
use Rattle.commands.specs.declared.status.CommandFault.{CommandFault}
use Rattle.commands.specs.declared.status.CommandFault.TheVariants as fault
use Rattle.provisioning.specs.declared.services.ProviderKeeps.{ProviderKeeps}
use Rattle.provisioning.specs.declared.services.ProviderKeeps.TheVariants.{Revisions, Versions, Nothing}

-- the text spells this number, which is within the limit
abbrev pub IsUpTo : (limit : ℕ) → Option (List ℕ) → ℕ → Type 0
IsUpTo limit None number = ⊥
IsUpTo limit (Some text) number = IsNumber 32 text × (number ≡ number_in text) × (number ≤ limit)

abbrev pub IsMost : Option (List ℕ) → ℕ → Type 0
IsMost text most = IsUpTo MOST_LEAVERS text most

-- the number of `--most-leavers`, if it is there, as it must be with snapshots; or its text spells none that is within
-- the limit
abbrev pub GivesMost : (text value : Option (List ℕ)) → (snapshot : Bool) → Result (Option ℕ) CommandFault → Type 0
GivesMost text value snapshot (Ok (Some most)) = IsMost text most
GivesMost text value snapshot (Ok None) = (value ≡ None) × (snapshot ≡ false)
GivesMost text value snapshot (Err why) = (why ≡ fault.MostLeavers) × ((most : ℕ) → IsMost text most → ⊥)

-- one stream if `--streams` isn't there; else the number that its text spells, from 1 to the most; or it spells none
abbrev pub GivesStreams : (value text : Option (List ℕ)) → Result ℕ CommandFault → Type 0
GivesStreams None text result = result ≡ Ok 1
GivesStreams (Some value) text result = GivesCount MOST_STREAMS fault.Streams text result

-- this number if the option isn't there; else the number that its text spells, within the limit; or it spells none
abbrev pub GivesUpTo : (number limit : ℕ) → (wrong : CommandFault) → (value text : Option (List ℕ))
    → Result ℕ CommandFault → Type 0
GivesUpTo number limit wrong None text result = result ≡ Ok number
GivesUpTo number limit wrong (Some value) text (Ok given) = IsUpTo limit text given
GivesUpTo number limit wrong (Some value) text (Err why) =
    (why ≡ wrong) × ((given : ℕ) → IsUpTo limit text given → ⊥)

-- ten if `--give-up-after` isn't there
abbrev pub GivesGiveUp : (value text : Option (List ℕ)) → Result ℕ CommandFault → Type 0
GivesGiveUp value text result = GivesUpTo 10 LONGEST_STREAK fault.GiveUpAfter value text result

-- 60 seconds if `--settle-time` isn't there
abbrev pub GivesSettleTime : (value text : Option (List ℕ)) → Result ℕ CommandFault → Type 0
GivesSettleTime value text result = GivesUpTo 60 MOST_SETTLE_SECONDS fault.SettleTime value text result

-- what the provider keeps, by its name
abbrev pub named_keeps : List ℕ → Result ProviderKeeps CommandFault
named_keeps text =
    if bytes_eq text (codes "revisions") then Ok Revisions
    else if bytes_eq text (codes "versions") then Ok Versions
    else if bytes_eq text (codes "nothing") then Ok Nothing
    else Err fault.ProviderKeeps

-- revisions, if `--provider-keeps` isn't there
abbrev pub wanted_keeps : (value : Option (List ℕ)) → Result ProviderKeeps CommandFault
wanted_keeps None = Ok Revisions
wanted_keeps (Some text) = named_keeps text

-- what these arguments want
pub record IsManner (found : Found) (manner : Manner) : Type 0 where
  pub planned : manner.is_planned ≡ is_set (one_text found (codes "plan"))
  pub quiet : manner.delivery.is_quiet ≡ is_set (one_text found (codes "quiet"))
  pub rechecked : manner.delivery.is_rechecked ≡ is_set (one_text found (codes "recheck"))
  pub most : GivesMost (one_text found (codes "most-leavers")) (first_value found (codes "most-leavers"))
      (is_snapshot found) (Ok manner.most_leavers)
  pub streams : GivesStreams (first_value found (codes "streams")) (one_text found (codes "streams"))
      (Ok manner.delivery.pace.streams)
  pub leavers_first : manner.delivery.pace.leavers_first ≡ is_set (one_text found (codes "leavers-first"))
  pub give_up : GivesGiveUp (first_value found (codes "give-up-after")) (one_text found (codes "give-up-after"))
      (Ok manner.delivery.pace.give_up_after)
  pub keeps : wanted_keeps (first_value found (codes "provider-keeps")) ≡ Ok manner.delivery.keeps
  pub settles : GivesSettleTime (first_value found (codes "settle-time")) (one_text found (codes "settle-time"))
      (Ok manner.delivery.settle_seconds)

-- that; or one of the numbers isn't within its limits, or what the provider keeps has another name
abbrev pub GivesManner : Found → Result Manner CommandFault → Type 0
GivesManner found (Ok manner) = IsManner found manner
GivesManner found (Err why) =
    GivesMost (one_text found (codes "most-leavers")) (first_value found (codes "most-leavers")) (is_snapshot found)
    (Err why)
    ⊎ (GivesStreams (first_value found (codes "streams")) (one_text found (codes "streams")) (Err why)
    ⊎ (GivesGiveUp (first_value found (codes "give-up-after")) (one_text found (codes "give-up-after")) (Err why)
    ⊎ ((wanted_keeps (first_value found (codes "provider-keeps")) ≡ Err why)
    ⊎ GivesSettleTime (first_value found (codes "settle-time")) (one_text found (codes "settle-time")) (Err why))))
