use Rattle.std.proofs.Common.{◌-◌, ◌∙◌, ap, slice_get}
use Rattle.provider_core.proofs.MemoryLaws.{id-at, id-none}
use Rattle.provider_core.specs.Rows.{row_with_id}
use Rattle.provider_core.proofs.memory.MemoryRegistryRegistry.by_id.Goals as goal
use Rattle.provider_core.proofs.memory.MemoryRegistryRegistry.by_id.Goals.{in-Some+in_ok-copy_at-in-Some, in-None}

pub returns-clause-ok : goal.returns-clause-ok
returns-clause-ok c = λ _.
    let shown = ap (λ v. row_with_id c.args.id.now v.rows) c.self.view_is in
    let indexed = c.self.invariant in
    elim c.match-number.branch [
      | in-Some+in_ok-copy_at-in-Some w ↦
          let is = w.in-Some.ensures.found in
          rw w.result-is (w.in_ok-copy_at-in-Some.ensures ∙ ap (λ rows. slice_get rows (w.in-Some.number - 1)) w.as_slice.ensures.value
          ∙ id-at c.args.id.now w.in-Some.number c.self.inside.rows.items indexed.within indexed.numbered is.0 is.1 is.2 ∙ shown)
      | in-None w ↦ rw w.result-is (id-none c.args.id.now c.self.inside.rows.items indexed.within indexed.numbered w.in-None.ensures.none ∙ shown)
    ]
