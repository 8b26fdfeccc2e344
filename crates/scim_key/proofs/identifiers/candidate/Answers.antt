use Rattle.std.proofs.Common.{◌≡◌, ap, Some, ◌∙◌, drop, List, ℕ}
use Rattle.std.specs.Int.{w32, from_be_bytes}
use Rattle.scim_key.specs.Identifiers.{id_bytes}
use Rattle.scim_key.proofs.IdLemmas.{candidate_of, number_back}
use Rattle.scim_key.proofs.identifiers.candidate.Goals as goal

pub returns-in-Ok : goal.returns-in-Ok
returns-in-Ok c = λ n small same.
    let bytes = candidate_of _ _ n small c.parse_str.ensures.ok c.parse_str.ensures.bytes same in
    let same_bytes : c.in-Ok.uuid ≡ id_bytes n = cc (bytes, c.in-Ok.is) in
    ap Some (c.last_word.ensures ∙ ap (λ (u : List ℕ). from_be_bytes w32 (drop 12 u)) same_bytes ∙ number_back n small)

pub returns-in-Err : goal.returns-in-Err
returns-in-Err c = λ n small same.
    let bytes = candidate_of _ _ n small c.parse_str.ensures.ok c.parse_str.ensures.bytes same in cc (bytes, c.in-Err.is)
