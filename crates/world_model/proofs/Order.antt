-- More of the order of revisions.
use Rattle.std.proofs.Common.{inl, inr}
use Rattle.std.proofs.lemmas.Bool.{cases_Bool}
use Rattle.scim_key.proofs.RevisionLaws.{transitive_up_to, up_to_before, later_is_one}
use Rattle.scim_key.specs.Revisions.{RevisionValue, before, later, ◌≺◌, ◌≼◌}
use Rattle.connector_core.specs.declared.keeps.Keeps.{Keeps}
use Rattle.connector_core.specs.declared.keeps.Keeps.TheVariants.{Revisions, Versions}
use Rattle.world_model.specs.Providers.{RisesAt}

-- at most, and then before
pub at_most_before : (a b c : RevisionValue) → a ≼ b → b ≺ c → a ≺ c
at_most_before a b c p q = elim (cases_Bool (before a c)) [
  | inl e ↦ e
  | inr e ↦ absurd (cc (transitive_up_to c a b e p, q))
]

-- where revisions rise, none goes back
pub rises_up_to : (keeps : Keeps) (r s : RevisionValue) → RisesAt keeps r s → r ≼ s
rises_up_to Revisions r s rises = up_to_before r s rises
rises_up_to Versions r s rises = rises

pub at_most_rising : (keeps : Keeps) (a b c : RevisionValue) → a ≼ b → RisesAt keeps b c → RisesAt keeps a c
at_most_rising Revisions a b c p q = at_most_before a b c p q
at_most_rising Versions a b c p q = transitive_up_to a b c p q

pub later_within : (a b c : RevisionValue) → a ≼ c → b ≼ c → later a b ≼ c
later_within a b c p q = elim (later_is_one a b) [
  | inl first ↦ rw first p
  | inr second ↦ rw second q
]
