use Rattle.std.proofs.Common.{◌≡◌, ◌++◌, ◌<◌, ◌∷◌, [], length, take, rules, subst, sym}
use Rattle.std.proofs.KnownBytes.{Appends-nil, Appends-trans}
use Rattle.std.proofs.lemmas.List.{take_all}
use Rattle.std.specs.Io.KnownBytes.{Appends}
use Rattle.world_sim.specs.Printing.{ShowsEach, line_of, lines_of}
use Rattle.world_sim.proofs.PrintingLemmas.{lines_of-push, none_shown, one_shown}
use Rattle.world_sim.proofs.printing.print_each.Goals as goal

pub loop-name-init : goal.loop-name-init
loop-name-init g c =
    let none : c.new-views.result.items ≡ [] = search rules in
    rw none (none_shown g.R.Registry g.J.Journal c.args.world.now, Appends-nil (g.W.Write.contents c.args.out.now))

pub loop-name-preserved : goal.loop-name-preserved
loop-name-preserved g c =
    let names = c.args.names.now in
    let less : c.loop-name.name-index < length names = search rules in
    let pushed : c.keep.new.views.items ≡ c.loop-name.views.items ++ c.in_ok-view.view ∷ [] = search rules in
    let shown = one_shown g.R.Registry g.J.Journal c.args.world.now c.loop-name.world c.print_view.new.world names c.loop-name.name-index c.name-item.result c.loop-name.views.items c.in_ok-view.view
    less c.name-item.is c.loop-name.invariant.0 c.in_ok-view.ensures.shows c.in_ok-view.ensures.looks in
    let lines = Appends-trans (g.W.Write.contents c.args.out.now) (g.W.Write.contents c.loop-name.out) (g.W.Write.contents c.print_view.new.out) (lines_of c.args.whose c.loop-name.views.items) (line_of c.args.whose c.in_ok-view.view)
    c.loop-name.invariant.1 c.in_ok-view.ensures.line in
    rw pushed (shown, subst (Appends (g.W.Write.contents c.args.out.now) (g.W.Write.contents c.print_view.new.out)) (sym (lines_of-push c.args.whose c.loop-name.views.items c.in_ok-view.view)) lines)

pub returns-clause-shows : goal.returns-clause-shows
returns-clause-shows g c =
    let all : take c.loop-name.name-index c.args.names.now ≡ c.args.names.now = take_all c.loop-name.name-index c.args.names.now (search rules) in
    subst (λ ns. ShowsEach g.R.Registry g.J.Journal c.args.world.now c.loop-name.world ns c.loop-name.views.items) all c.loop-name.invariant.0

pub returns-clause-lines : goal.returns-clause-lines
returns-clause-lines g c = c.loop-name.invariant.1
