use Rattle.std.proofs.Common.{◌<◌, ◌++◌, ◌∷◌, ◌∙◌, [], length, rules, subst, sym}
use Rattle.world_sim.specs.Strangers.{HasNames}
use Rattle.world_sim.proofs.StrangerLemmas.{none_offered, one_name, one_offered}
use Rattle.world_sim.proofs.strangers.offered.Goals.{in-Some+in_ok-insert, in_default}
use Rattle.world_sim.proofs.strangers.offered.Goals as goal

pub loop-act-preserved : goal.loop-act-preserved
loop-act-preserved c =
    let less : c.loop-act.act-index < length c.args.acts.now = search rules in
    let (names, far, has) = c.loop-act.invariant in
    elim c.match-branch-2.branch [
      | in-Some+in_ok-insert w ↦ (
        names ++ w.in-Some.name ∷ [],
        one_offered names c.args.acts.now c.loop-act.act-index c.act-item.result w.in-Some.name less c.act-item.is (sym w.in-Some.is ∙ c.in_ok-name.ensures) far,
        subst (λ set. HasNames set (names ++ w.in-Some.name ∷ [])) (sym w.names-is) (one_name c.loop-act.names w.insert.new.self names w.in-Some.name w.in_ok-insert.ensures.updates has),
      )
      | in_default w ↦ (
        names,
        none_offered names c.args.acts.now c.loop-act.act-index c.act-item.result less c.act-item.is (search rules) far,
        subst (λ set. HasNames set names) (sym w.names-is) has,
      )
    ]
