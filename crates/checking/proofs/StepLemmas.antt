-- A resource is in step exactly if it is as wanted.
use Rattle.std.proofs.Common.{◌≡◌, ℕ, true, List, Option, Some, None, ap, refl}
use Rattle.std.proofs.lemmas.Bool.{and_parts}
use Rattle.std.proofs.lemmas.Slice.Eq.{bytes_eq-Decides}
use Rattle.comparing.proofs.SameLemmas.{as_wanted_means}
use Rattle.comparing.specs.Aspects.{is_same}
use Rattle.checking.specs.Findings.{is_in_step, same_id}
use Rattle.checking.specs.Laws.{InStepMeans}

id_same : (known : Option (List ℕ)) (id : List ℕ) → same_id known id ≡ true → known ≡ Some id
id_same None id e = cc
id_same (Some known) id e = ap Some ((bytes_eq-Decides known id).0 e)

id_alike : (known : Option (List ℕ)) (id : List ℕ) → known ≡ Some id → same_id known id ≡ true
id_alike known id is = rw (is, (bytes_eq-Decides id id).1 refl) refl

pub in_step_means : InStepMeans
in_step_means b wanted found =
    let means = as_wanted_means b.wanted b.found.content wanted found in (
      λ e. let parts = and_parts (is_same b.wanted b.found.content) (same_id b.known b.found.id) e in
          record { content = means.0 parts.0; id = id_same b.known b.found.id parts.1 },
      λ is. rw (means.1 is.content, id_alike b.known b.found.id is.id) refl,
    )
