-- What it means that a group is ready, and that it waits.
use Rattle.std.specs.Prelude.{◌≡◌, ◌↔◌, ℕ, List, ◌∷◌, ◌++◌, Option, Some, None, IsSome, length, map}
use Rattle.std.specs.List.{AllByRecursion}
use Rattle.scim_key.specs.declared.records.RecordName.{RecordName}
use Rattle.source_csv.specs.Records.{user}
use Rattle.mapping.specs.Ready.{ready}
use Rattle.mapping.specs.declared.ids.Ready.TheVariants.{Ids, Waits}

-- each of these users has an id: this list has them, each at its user's place
abbrev pub HaveIds : (id_of : RecordName → Option (List ℕ)) → (keys ids : List (List ℕ)) → Type 0
HaveIds id_of keys ids = map (λ key. id_of (user key)) keys ≡ map Some ids

-- the user at this place has no id, and each before it has one
abbrev pub IsFirstWithout : (id_of : RecordName → Option (List ℕ)) → (keys : List (List ℕ)) → ℕ → Type 0
IsFirstWithout id_of keys place = (earlier : List (List ℕ)) × (key : List ℕ) × (later : List (List ℕ))
    × (keys ≡ earlier ++ key ∷ later) × (length earlier ≡ place)
    × AllByRecursion (λ k. IsSome (id_of (user k))) earlier × (id_of (user key) ≡ None)

-- each id that is known in the first is known in the second
abbrev pub GoesOn : (id_of later : RecordName → Option (List ℕ)) → Type 0
GoesOn id_of later = (name : RecordName) (id : List ℕ) → id_of name ≡ Some id → later name ≡ Some id

pub record ReadyMeans : Type 0 where
  pub ids : (id_of : RecordName → Option (List ℕ)) (keys ids : List (List ℕ))
      → (ready id_of keys ≡ Ids ids) ↔ HaveIds id_of keys ids
  pub waits : (id_of : RecordName → Option (List ℕ)) (keys : List (List ℕ)) (place : ℕ)
      → ready id_of keys ≡ Waits place → IsFirstWithout id_of keys place
  pub stays : (id_of later : RecordName → Option (List ℕ)) (keys ids : List (List ℕ))
      → GoesOn id_of later → ready id_of keys ≡ Ids ids → ready later keys ≡ Ids ids
