-- A value that is repeated is kept once, at its first place.
use Rattle.std.specs.Prelude.{◌≡◌, ℕ, true, false, List, [], ◌∷◌, ◌++◌, Option, Some, None, Result, Ok, Err}
use Rattle.serde_json.specs.Data.{Data}
use Rattle.scim_resource.specs.Groups.{is_among, are_distinct}
use Rattle.scim_resource.specs.Reading.{member_in}
use Rattle.scim_resource.specs.declared.faults.ContentFault.{ContentFault}

-- puts the value of one element, if it has one, in front of these values
abbrev pub value_before : Result (Option (List ℕ)) ContentFault → List (List ℕ) → List (List ℕ)
value_before (Ok None) vs = vs
value_before (Ok (Some v)) vs = v ∷ vs
value_before (Err fault) vs = vs

-- the values of the elements of `members`, in order and with repetitions
abbrev pub member_values : List Data → List (List ℕ)
member_values [] = []
member_values (d ∷ ds) = value_before (member_in d) (member_values ds)

-- in `kept`, exactly those values come before this value
pub record StandsBehind (kept : List (List ℕ)) (v : List ℕ) (those : List (List ℕ)) : Type 0 where
  pub front : List (List ℕ)
  pub back : List (List ℕ)
  pub split : kept ≡ front ++ v ∷ back
  pub exactly : (w : List ℕ) → is_among w front ≡ is_among w those

-- Each value is kept once; none is lost; and each comes after exactly the values that came before its first place
pub record KeepsFirsts (all kept : List (List ℕ)) : Type 0 where
  pub each_once : are_distinct kept ≡ true
  pub none_lost : (v : List ℕ) → is_among v kept ≡ is_among v all
  pub first_places : (before after : List (List ℕ)) (v : List ℕ) → all ≡ before ++ v ∷ after
      → is_among v before ≡ false → StandsBehind kept v before
