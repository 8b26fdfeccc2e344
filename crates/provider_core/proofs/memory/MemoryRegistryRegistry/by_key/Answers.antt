use Rattle.std.proofs.Common.{◌-◌, ◌∙◌, sym, ap, slice_get}
use Rattle.provider_core.proofs.MemoryLaws.{name-at, name-none}
use Rattle.provider_core.specs.Rows.{row_named}
use Rattle.provider_core.proofs.memory.MemoryRegistryRegistry.by_key.Goals as goal
use Rattle.provider_core.proofs.memory.MemoryRegistryRegistry.by_key.Goals.{in-Some+in_ok-copy_at-in-Some, in-None}

pub copy_at-requires : goal.copy_at-requires
copy_at-requires c = (name-at c.self.inside.numbers c.self.inside.rows.items c.args.name.now c.in-Some.number.now c.self.invariant (sym c.in-Some.ensures.value)).0

pub returns-clause-ok : goal.returns-clause-ok
returns-clause-ok c = λ _.
    let shown = ap (λ v. row_named c.args.name.now v.rows) c.self.view_is in
    elim c.match-get.branch [
      | in-Some+in_ok-copy_at-in-Some w ↦
          rw w.result-is (w.in_ok-copy_at-in-Some.ensures ∙ ap (λ rows. slice_get rows (w.in-Some.number.now - 1)) w.as_slice.ensures.value
          ∙ (name-at c.self.inside.numbers c.self.inside.rows.items c.args.name.now w.in-Some.number.now c.self.invariant (sym w.in-Some.ensures.value)).1 ∙ shown)
      | in-None w ↦ rw w.result-is (name-none c.self.inside.numbers c.self.inside.rows.items c.args.name.now c.self.invariant (sym w.in-None.ensures.value) ∙ shown)
    ]
