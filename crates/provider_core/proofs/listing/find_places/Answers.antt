use Rattle.std.proofs.Common.{rules, ◌≡◌, ◌^◌, ◌-◌, List, take, drop, length, sym, subst, arith}
use Rattle.std.specs.Prelude.{Ok}
use Rattle.scim_resource.specs.Rows.{StoredRecord}
use Rattle.provider_core.specs.Listing.{AddsRows, places_of}
use Rattle.provider_core.specs.declared.registry.TheConstants.{ROWS_AT_ONCE}
use Rattle.provider_core.proofs.CallLaws.{reads-on, reads-as}
use Rattle.provider_core.proofs.Paging.{finds-further, finds-all}
use Rattle.provider_core.proofs.listing.find_places.Goals as goal

pub loop-after-preserved : goal.loop-after-preserved
loop-after-preserved g c =
    let before = c.loop-after.invariant.0 in
    let page = c.in_ok-add_page.ensures in
    let rows = g.R.Registry.rows c.args.registry.now in (
      record {
        reads = reads-on g.R.Registry {result = Ok (tt {0})} before.reads page.reads;
        found = λ faithful short.
            let earlier = page.reads.was faithful in
            let adds = subst (λ (all : List StoredRecord). AddsRows (take ROWS_AT_ONCE (drop c.loop-after.after all)) c.loop-after.places c.add_page.new.places) (before.reads.same earlier) (page.ok faithful) in
            subst (λ after. c.add_page.new.places ≡ places_of (take after rows)) (sym c.saturating_add-after.ensures)
            (finds-further (2 ^ 32 - 1) c.args.all c.loop-after.after ROWS_AT_ONCE rows c.loop-after.places c.add_page.new.places (omega arith) short (before.found earlier short) adds);
      },
      g.met.M.Meanwhile.keeps_on _ _ _ c.loop-after.invariant.1 c.after_rows-goes_on.ensures.keeps,
      search rules,
    )

pub returns-clause-ok : goal.returns-clause-ok
returns-clause-ok g c = λ faithful.
    let rows = g.R.Registry.rows c.args.registry.now in
    let all : c.args.all ≡ length rows = c.requires.counted (c.loop-after.invariant.0.reads.was faithful) in
    finds-all c.args.all c.loop-after.after rows c.loop-after.places (omega arith) (omega (arith, all)) (c.loop-after.invariant.0.found faithful (omega (arith, all)))

pub returns-clause-reads : goal.returns-clause-reads
returns-clause-reads g c = reads-as g.R.Registry c.loop-after.invariant.0.reads
