-- One more connection, from stored rows.
use Rattle.std.proofs.Common.{◌≡◌, ℕ, suc, ◌+◌, arith, List, [], ◌∷◌, Option, Result, Ok, refl, ap, ◌∙◌}
use Rattle.std.specs.Result.{result_and}
use Rattle.scim_resource.specs.Rows.{StoredRecord}
use Rattle.provider_core.specs.declared.registry.Registry.{Ghosts}
use Rattle.connection.specs.declared.serving.ConnectionFault.{ConnectionFault}
use Rattle.connection.specs.Requests.{FollowRequests}
use Rattle.connection.specs.Turns.{ServesTurns}
use Rattle.storage.specs.StoreOpened.{IsMended}
use Rattle.commands.specs.Stored.{ServesFrom}

one_longer : {n m : ℕ} → n ≡ m → suc n ≡ m + 1
one_longer {n} {m} h = omega (arith, h)

module _ {L I O R : Type 0} (waiting : L → Option (List (I × O))) (remaining : I → Option (List ℕ)) (contents : O → Option (List ℕ)) (g : Ghosts R) (finds : List StoredRecord → Type 0) (base : List ℕ) where
  pub none_yet : (listener : L) (r : R) → ServesFrom waiting remaining contents g finds base listener listener r r 0 (Ok tt)
  none_yet listener r = record { results = []; count_is = refl; served = (refl, refl); outcome_is = refl }

  pub one_more : {before middle after : L} {old last start new : R} {count : ℕ} {first second outcome : Result (Unit {0}) ConnectionFault}
      → ServesFrom waiting remaining contents g finds base before middle old last count first
      → IsMended g finds last start
      → ServesTurns waiting remaining contents g base middle after start new 1 second
      → (g.is_faithful new → FollowRequests (g.rows start) (g.rows new) 1)
      → outcome ≡ result_and first second
      → ServesFrom waiting remaining contents g finds base before after old new (count + 1) outcome
  one_more {middle} {last} {start} {second} earlier mended turn follows is = record {
    results = second ∷ earlier.results;
    count_is = one_longer earlier.count_is;
    served = (middle, last, earlier.served, record { start = start; mended = mended; turn = turn; follows = follows });
    outcome_is = is ∙ ap (λ r. result_and r second) earlier.outcome_is;
  }
