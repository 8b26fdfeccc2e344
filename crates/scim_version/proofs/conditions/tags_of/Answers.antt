use Rattle.std.proofs.Common.{inl, inr}
use Rattle.std.proofs.lemmas.Result.{err_from_is_err_and}
use Rattle.scim_version.proofs.Choices.{tags_from-fault}
use Rattle.scim_version.proofs.conditions.tags_of.Goals as goal

pub returns-in_err-read : goal.returns-in_err-read
returns-in_err-read c =
    let p = err_from_is_err_and c.from_residual.result c.from_residual.ensures.1 in
    rw (p.1, p.2) (elim (c.in_err-read.ensures.exact) [
      | inl memory ↦ inl memory.1
      | inr fault ↦ inr (tags_from-fault _ _ _ _ c.loop-text-test.true fault)
    ])
