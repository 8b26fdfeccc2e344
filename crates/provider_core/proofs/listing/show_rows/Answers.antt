use Rattle.std.proofs.Common.{◌≡◌, ◌++◌, ◌-◌, ℕ, List, take, drop, length, map, slice_index, subst, ap, arith}
use Rattle.std.specs.Prelude.{Ok}
use Rattle.std.specs.List.{range_with_len}
use Rattle.std.proofs.lemmas.List.{length-drop, take_rest}
use Rattle.scim_resource.specs.Rows.{StoredRecord, shown}
use Rattle.provider_core.specs.Rows.{IsNumberedFrom}
use Rattle.provider_core.proofs.CallLaws.{reads-on}
use Rattle.provider_core.proofs.PlaceLaws.{shows-further}
use Rattle.provider_core.proofs.listing.show_rows.Goals as goal

pub loop-done-preserved : goal.loop-done-preserved
loop-done-preserved g c =
    let before = c.loop-done.invariant in
    let run = c.in_ok-show_run.ensures in
    let places = c.args.places.now in
    let rows = g.R.Registry.rows c.args.registry.now in
    let done = c.loop-done.done in
    let length-of-run = c.run_length-run.result in
    let rest = take (length places - done) (drop done places) in
    let whole : rest ≡ drop done places = take_rest places done in
    let follows = subst (λ (later : List ℕ). take length-of-run later ≡ range_with_len (slice_index rest 0) length-of-run) whole c.run_length-run.ensures.follow in
    record {
      reads = reads-on g.R.Registry {result = Ok (tt {0})} before.reads run.reads;
      within = omega (arith, c.run_length-run.ensures.within, ap length whole, length-drop done places);
      shows = λ faithful.
          let earlier = run.reads.was faithful in
          let page = subst (λ (all : List StoredRecord). c.show_run.new.page.items ≡ c.loop-done.page.items ++ map shown (take length-of-run (drop (slice_index rest 0) all))) (before.reads.same earlier) (run.ok faithful) in
          shows-further rows places done length-of-run _ c.args.page.now.items c.loop-done.page.items c.show_run.new.page.items follows (before.shows earlier) page;
      numbered = λ faithful some.
          subst (λ (all : List StoredRecord). IsNumberedFrom 1 all) (before.reads.same (run.reads.was faithful)) (run.numbered faithful);
    }
