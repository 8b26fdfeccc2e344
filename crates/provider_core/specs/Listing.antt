-- Where the rows of each type are: their places among all rows, counted from 0. A list without a filter is read by
-- them.
use Rattle.std.specs.Prelude.{◌≡◌, ℕ, ◌-◌, List, [], ◌∷◌, ◌++◌, Option, Some, None, map, take, drop}
use Rattle.std.specs.List.{filter, flat_map}
use Rattle.scim_key.specs.declared.records.Kind.{Kind}
use Rattle.scim_key.specs.declared.records.Kind.TheVariants.{User, Group}
use Rattle.scim_resource.specs.Rows.{StoredRecord}
use Rattle.provider_core.specs.Searches.{is_hit}
use Rattle.provider_core.specs.declared.registry.Registry.{Ghosts}

-- the places of users and those of groups
pub record Places : Type 0 where
  pub users : List ℕ
  pub groups : List ℕ

abbrev pub places_in : Kind → Places → List ℕ
places_in User places = places.users
places_in Group places = places.groups

-- one more place, of a row of this type
abbrev pub with_place : Kind → ℕ → Places → Places
with_place User place places = record { users = places.users ++ place ∷ []; groups = places.groups }
with_place Group place places = record { users = places.users; groups = places.groups ++ place ∷ [] }

-- the place of a row, by its number
abbrev pub place_of : StoredRecord → ℕ
place_of row = row.number - 1

-- the places of the rows that a list of this type finds without a filter
abbrev pub kind_places : Kind → List StoredRecord → List ℕ
kind_places kind rows = map place_of (filter (is_hit kind None) rows)

abbrev pub places_of : List StoredRecord → Places
places_of rows = record { users = kind_places User rows; groups = kind_places Group rows }

-- the rows at these places
abbrev pub rows_at : List ℕ → List StoredRecord → List StoredRecord
rows_at places rows = flat_map (λ place. take 1 (drop place rows)) places

-- if these rows come after others, the places of the others became the places of all of them
abbrev pub AddsRows : List StoredRecord → Places → Places → Type 0
AddsRows rows old new = (before : List StoredRecord) → old ≡ places_of before → new ≡ places_of (before ++ rows)

-- the places, if there are any, are those of the rows
abbrev pub AreOf : Option Places → List StoredRecord → Type 0
AreOf None rows = Unit {0}
AreOf (Some places) rows = places ≡ places_of rows

-- the place joined the places that are kept, or no places are kept any more
abbrev pub KeepsOrDrops : Kind → ℕ → Option Places → Option Places → Type 0
KeepsOrDrops kind place old None = Unit {0}
KeepsOrDrops kind place None (Some new) = ⊥
KeepsOrDrops kind place (Some old) (Some new) = new ≡ with_place kind place old

-- the places that are kept are those of a faithful registry's rows
pub record KeepsPlaces {R : Type 0} (g : Ghosts R) (registry : R) (places : Option Places) : Type 0 where
  pub are : g.is_faithful registry → AreOf places (g.rows registry)
