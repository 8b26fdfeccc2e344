-- What it means that a resource is in step.
use Rattle.std.specs.Prelude.{◌≡◌, ◌↔◌, true, Some}
use Rattle.scim_resource.specs.Contents.{IsContent}
use Rattle.comparing.specs.Laws.{IsContentAs}
use Rattle.checking.specs.Findings.{is_in_step}
use Rattle.checking.specs.declared.beside.Beside.{Beside}

-- the content is the image of the wanted row, and the id is the known one
pub record IsAsWanted (b : Beside) : Type 0 where
  pub content : IsContentAs b.wanted b.found.content
  pub id : b.known ≡ Some b.found.id

-- a resource is in step exactly if it is as wanted
abbrev pub InStepMeans : Type 0
InStepMeans = (b : Beside) → IsContent b.wanted → IsContent b.found.content
    → (is_in_step b ≡ true) ↔ IsAsWanted b
