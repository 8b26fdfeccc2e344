use Rattle.std.proofs.Common.{◌≡◌, ◌∙◌, Result, Ok, Err, IfOk}
use Rattle.provider_core.proofs.MemoryLaws.{id-at, id-none}
use Rattle.provider_store.specs.Kept.{kept_rows}
use Rattle.provider_store.proofs.Holding.{few}
use Rattle.provider_store.proofs.registry.SqlRegistryRegistry.by_id.Goals as goal

further : {X E : Type 0} {x y : X} (r : Result X E) → IfOk r (λ z. z ≡ x) → x ≡ y → IfOk r (λ z. z ≡ y)
further (Ok z) is same = is ∙ same
further (Err e) is same = tt

pub returns-in-Some-clause-ok : goal.returns-in-Some-clause-ok
returns-in-Some-clause-ok g c faithful =
    let was = c.row_at.ensures.reads.was faithful in
    let is = c.in-Some.ensures.found in
    further c.row_at.result (c.row_at.ensures.ok faithful) (id-at c.args.id.now c.in-Some.number (kept_rows g.S.Store c.args.self.now) (few _ _ was.whole.holds) was.whole.holds.numbered is.0 is.1 is.2)

pub returns-in_ok-row_at-in-None-clause-ok : goal.returns-in_ok-row_at-in-None-clause-ok
returns-in_ok-row_at-in-None-clause-ok g c faithful =
    let was = c.in_ok-row_at-in-None.ensures.reads.was faithful in
    id-none c.args.id.now (kept_rows g.S.Store c.args.self.now) (few _ _ was.whole.holds) was.whole.holds.numbered c.in-None.ensures.none
