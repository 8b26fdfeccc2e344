use Rattle.std.proofs.Common.{◌∙◌, ap, drop, take, rules}
use Rattle.provider_core.proofs.MemoryLaws.{page-dropped}
use Rattle.provider_core.specs.Rows.{page_after}
use Rattle.provider_core.proofs.memory.MemoryRegistryRegistry.scan.Goals as goal

pub returns-clause-ok : goal.returns-clause-ok
returns-clause-ok c = λ _.
    c.in_ok-to_vec.ensures.items_if_clones_equal (search rules) ∙ c.part.ensures
    ∙ ap (λ rows. take c.args.limit (drop c.args.after rows)) c.as_slice.ensures.value
    ∙ page-dropped c.args.after c.args.limit c.self.inside.rows.items c.self.invariant.numbered
    ∙ ap (λ v. page_after c.args.after c.args.limit v.rows) c.self.view_is
