use Rattle.std.proofs.Common.{◌≡◌, ◌+◌, ◌++◌, ◌∷◌, [], ap, map, rules, subst, sym, ◌∙◌}
use Rattle.std.proofs.KnownBytes.{Appends-trans}
use Rattle.std.proofs.lemmas.List.{map_push}
use Rattle.std.specs.Io.KnownBytes.{Appends}
use Rattle.world_sim.specs.Printing.{view_lines}
use Rattle.world_sim.specs.SeveralPrinting.{ShowsEachSide, views_lines}
use Rattle.world_sim.proofs.SharedRuns.{one_shown_each, views_lines-push}
use Rattle.world_sim.proofs.several_printing.print_all_views.Goals as goal

pub loop-place-preserved : goal.loop-place-preserved
loop-place-preserved g c =
    let all = c.loop-place.all.items in
    let views = c.in_ok-views.views in
    let pushed : c.keep_views.new.all.items ≡ all ++ views ∷ [] = search rules in
    let mapped = ap (map (λ views. views.items)) pushed ∙ map_push (λ views. views.items) all views in
    let shows = one_shown_each g.R.Registry g.J.Journal c.args.world.now c.loop-place.world c.print_views_at.new.self c.loop-place.place (map (λ views. views.items) all) views.items
    c.loop-place.invariant.0 c.in_ok-views.ensures.shows in
    let lines = Appends-trans (g.W.Write.contents c.args.out.now) (g.W.Write.contents c.loop-place.out) (g.W.Write.contents c.print_views_at.new.out) (views_lines (map (λ views. views.items) all)) (view_lines views.items)
    c.loop-place.invariant.1 c.in_ok-views.ensures.lines in (
      subst (ShowsEachSide g.R.Registry g.J.Journal c.args.world.now c.print_views_at.new.self (c.loop-place.place + 1)) (sym mapped) shows,
      subst (Appends (g.W.Write.contents c.args.out.now) (g.W.Write.contents c.print_views_at.new.out))
          (sym (views_lines-push (map (λ views. views.items) all) views.items) ∙ ap views_lines (sym mapped)) lines,
    )
