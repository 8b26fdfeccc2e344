-- What it means that a content agrees with what is wanted in every aspect.
use Rattle.std.specs.Prelude.{◌≡◌, ◌↔◌, ℕ, true, List}
use Rattle.scim_resource.specs.Contents.{IsContent}
use Rattle.scim_resource.specs.declared.contents.Content.{Content}
use Rattle.scim_resource.specs.declared.contents.Content.TheVariants.{User, Group}
use Rattle.comparing.specs.Aspects.{is_in, is_same}

-- each is among the first exactly if it is among the second
abbrev pub HaveSame : (members others : List (List ℕ)) → Type 0
HaveSame members others = (id : List ℕ) → is_in members id ≡ is_in others id

-- the same content; a group's members may be in another order
abbrev pub IsContentAs : (wanted found : Content) → Type 0
IsContentAs (User u) (User v) = v ≡ u
IsContentAs (User u) (Group g) = ⊥
IsContentAs (Group g) (User u) = ⊥
IsContentAs (Group g) (Group h) = (h ≡ record g { members = h.members }) × HaveSame g.members h.members

-- a content agrees in every aspect exactly if it is the wanted one
abbrev pub AsWantedMeans : Type 0
AsWantedMeans = (wanted found : Content) → IsContent wanted → IsContent found
    → (is_same wanted found ≡ true) ↔ IsContentAs wanted found

-- what is wanted agrees with itself
abbrev pub AgreesWithItself : Type 0
AgreesWithItself = (wanted : Content) → is_same wanted wanted ≡ true
