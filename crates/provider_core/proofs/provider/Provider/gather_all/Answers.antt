use Rattle.std.proofs.Common.{rules, ◌≡◌, ◌≤◌, ◌^◌, ◌-◌, List, take, drop, length, sym, subst, ap, arith}
use Rattle.std.specs.Prelude.{Ok}
use Rattle.scim_resource.specs.Rows.{StoredRecord}
use Rattle.provider_core.specs.Gathering.{GoesThrough}
use Rattle.provider_core.specs.declared.registry.TheConstants.{ROWS_AT_ONCE}
use Rattle.provider_core.proofs.CallLaws.{reads-on, reads-as}
use Rattle.provider_core.proofs.Gathering.{goes-further, goes-all, gathers-few}
use Rattle.provider_core.proofs.provider.Provider.gather_all.Goals as goal

pub loop-after-preserved : goal.loop-after-preserved
loop-after-preserved g c =
    let before = c.loop-after.invariant.0 in
    let page = c.in_ok-gather_page.ensures in
    let kind = c.args.kind in
    let wanted = c.args.filter.now in
    let rows = g.R.Registry.rows c.count.new.self in (
      record {
        reads = reads-as g.R.Registry (reads-on g.R.Registry {result = Ok (tt {0})} before.reads page.reads);
        through = λ faithful short.
            let earlier = page.reads.was faithful in
            let through = subst (λ (all : List StoredRecord). GoesThrough kind wanted (take ROWS_AT_ONCE (drop c.loop-after.after all)) c.loop-after.gathered c.gather_page.new.gathered) (before.reads.same earlier) (page.ok faithful) in
            subst (λ after. GoesThrough kind wanted (take after rows) c.args.gathered.now c.gather_page.new.gathered) (sym c.saturating_add-after.ensures)
            (goes-further kind wanted (2 ^ 32 - 1) c.in_ok-all.all c.loop-after.after ROWS_AT_ONCE rows c.args.gathered.now c.loop-after.gathered c.gather_page.new.gathered (omega arith) short (before.through earlier short) through);
      },
      g.met.M.Meanwhile.keeps_on _ _ _ c.loop-after.invariant.1 page.keeps,
      search rules,
    )

pub returns-clause-ok : goal.returns-clause-ok
returns-clause-ok g c = rw (← c.self.view_is) (λ faithful.
    let read = c.loop-after.invariant.0.reads in
    let counted = read.was faithful in
    let rows = g.R.Registry.rows c.self.inside.registry in
    let all : c.in_ok-all.all ≡ length rows = c.in_ok-all.ensures.ok counted in
    let same : g.R.Registry.rows c.count.new.self ≡ rows = c.in_ok-all.ensures.reads.same counted in
    let short : length (g.R.Registry.rows c.count.new.self) ≤ c.in_ok-all.all = omega (arith, all, ap length same) in
    let through = subst (λ (looked : List StoredRecord). GoesThrough c.args.kind c.args.filter.now (take c.loop-after.after looked) c.args.gathered.now c.loop-after.gathered) same (c.loop-after.invariant.0.through faithful short) in
    gathers-few c.args.kind c.args.filter.now rows c.args.gathered.now c.loop-after.gathered (omega (arith, all))
    (goes-all c.args.kind c.args.filter.now c.in_ok-all.all c.loop-after.after rows c.args.gathered.now c.loop-after.gathered (omega arith) (omega (arith, all)) through))

pub returns-clause-reads : goal.returns-clause-reads
returns-clause-reads g c = rw (← c.self.view_is) (reads-on g.R.Registry c.in_ok-all.ensures.reads (reads-as g.R.Registry c.loop-after.invariant.0.reads))
