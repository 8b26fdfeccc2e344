use Rattle.std.proofs.Common.{◌≡◌, length, refl, ◌∷◌, ◌++◌, [], ◌∙◌, List, sym, ap, subst, take, rules, arith}
use Rattle.std.specs.Vec.Iter.{into_iter_items, into_iter_len}
use Rattle.std.proofs.lemmas.Iterator.Adapters.{YieldsList-from_vec}
use Rattle.std.proofs.lemmas.Iterator.Consumers.{YieldsList-end, YieldsList-turn}
use Rattle.std.proofs.lemmas.List.{length_push, take_all, take_more}
use Rattle.std.proofs.lemmas.Result.{err_from_is_err_and}
use Rattle.world_sim.specs.Several.{StartsSeveral}
use Rattle.world_sim.proofs.SharedRuns.{starts_more, unstarted_first, unstarted_later}
use Rattle.world_sim.proofs.several.SharedWorld.start.Goals as goal

pub loop-journal-preserved : goal.loop-journal-preserved
loop-journal-preserved g c =
    let journals : List _ = into_iter_items c.into_iter-journal-iterator.result in
    let len : into_iter_len c.into_iter-journal-iterator.result ≡ length c.args.others.items = search rules in
    let yields = YieldsList-from_vec {s = c.into_iter-journal-iterator.result} journals refl (len ∙ sym (ap length c.into_iter-journal-iterator.ensures.into_iter_gives.0)) in
    let turn = YieldsList-turn yields c.loop-journal.yielded c.loop-journal.journal-iterator c.loop-journal.yielded_by c.next.result c.next.new.self c.in-Some.journal c.in-Some.is c.next.ensures.steps in
    let more = ap (λ n. take n journals) (length_push c.loop-journal.yielded c.in-Some.journal) ∙ take_more journals (length c.loop-journal.yielded) c.in-Some.journal turn.0 ∙ ap (λ j. take (length c.loop-journal.yielded) journals ++ j ∷ []) (sym turn.1) in
    subst (λ l. StartsSeveral g.R.Registry g.J.Journal c.args.registry (c.args.first ∷ l) c.args.base c.add.new.self) (sym more)
    (starts_more g.R.Registry g.J.Journal c.loop-journal.world c.add.new.self c.args.registry (c.args.first ∷ take (length c.loop-journal.yielded) journals) c.in-Some.journal c.args.base
    c.loop-journal.invariant c.in_ok-add.ensures.adds)

pub returns-clause-starts : goal.returns-clause-starts
returns-clause-starts g c =
    let journals : List _ = c.args.others.items in
    let yields = YieldsList-from_vec {s = c.into_iter-journal-iterator.result} journals (search rules) (search rules) in
    let done = YieldsList-end yields c.loop-journal.yielded c.loop-journal.journal-iterator c.loop-journal.yielded_by c.next.result c.next.new.self c.in-None.is c.next.ensures.steps in
    let started = subst (λ l. StartsSeveral g.R.Registry g.J.Journal c.args.registry (c.args.first ∷ take (length c.loop-journal.yielded) l) c.args.base c.loop-journal.world) c.into_iter-journal-iterator.ensures.into_iter_gives.0 c.loop-journal.invariant in
    subst (λ l. StartsSeveral g.R.Registry g.J.Journal c.args.registry (c.args.first ∷ l) c.args.base c.loop-journal.world) (take_all (length c.loop-journal.yielded) journals (omega (arith, done.1))) started

pub returns-in_err-world-clause-fault : goal.returns-in_err-world-clause-fault
returns-in_err-world-clause-fault g c =
    let p = err_from_is_err_and c.from_residual.result c.from_residual.ensures.1 in
    rw (p.1, p.2) (unstarted_first g.J.Journal c.args.first c.args.others.items _ c.in_err-world.ensures.fault)

pub returns-in_err-add-clause-fault : goal.returns-in_err-add-clause-fault
returns-in_err-add-clause-fault g c =
    let journals : List _ = c.args.others.items in
    let yields = YieldsList-from_vec {s = c.into_iter-journal-iterator.result} journals (search rules) (search rules) in
    let turn = YieldsList-turn yields c.loop-journal.yielded c.loop-journal.journal-iterator c.loop-journal.yielded_by c.next.result c.next.new.self c.in-Some.journal c.in-Some.is c.next.ensures.steps in
    let p = err_from_is_err_and c.from_residual-in_err-add.result c.from_residual-in_err-add.ensures.1 in
    rw (p.1, p.2) (unstarted_later g.J.Journal c.args.first c.in-Some.journal journals (length c.loop-journal.yielded) _ turn.0 turn.1 c.in_err-add.ensures.fault)
