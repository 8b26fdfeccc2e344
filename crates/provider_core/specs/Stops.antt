-- Searches that somebody may stop.
use Rattle.std.specs.Prelude.{◌≡◌, ℕ, Bool, true, Result, Ok, Err}
use Rattle.provider_core.specs.Stores.{CountsProviderFault}
use Rattle.provider_core.specs.declared.meanwhile.SearchFault.{SearchFault}
use Rattle.provider_core.specs.declared.meanwhile.SearchFault.TheVariants.{Provider, Stopped}

-- a fault of the store is counted; a search that was stopped has none
abbrev pub CountsSearchFault : (old new : ℕ) → SearchFault → Type 0
CountsSearchFault old new (Provider fault) = CountsProviderFault old new fault
CountsSearchFault old new Stopped = new ≡ old

-- A call ends as stopped if somebody stopped it, and only then: whether he had last stopped a search is `before` and
-- `after`
abbrev pub StopsIf : {T : Type 0} → (before after : Bool) → Result T SearchFault → Type 0
StopsIf before after (Ok value) = after ≡ true → before ≡ true
StopsIf before after (Err (Provider fault)) = after ≡ true → before ≡ true
StopsIf before after (Err Stopped) = after ≡ true
