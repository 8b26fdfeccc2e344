use Rattle.std.proofs.Common.{◌≡◌, ◌<◌, ◌++◌, ◌∷◌, ◌∙◌, [], append_assoc, length, rules, subst, sym, true, None}
use Rattle.std.specs.BTreeSet.{Updates}
use Rattle.scim_key.specs.Records.{name_cmp}
use Rattle.world_sim.specs.Strangers.{HasNames, met}
use Rattle.world_sim.proofs.StrangerLemmas.{none_met, one_met, one_name}
use Rattle.world_sim.proofs.strangers.all_met.Goals.{in-Some+in_ok-clone+in_ok-insert+in_ok-push, in_default}
use Rattle.world_sim.proofs.strangers.all_met.Goals as goal

pub loop-act-preserved : goal.loop-act-preserved
loop-act-preserved c =
    let less : c.loop-act.act-index < length c.args.acts.now = search rules in
    let ours = c.args.ours.now in
    let names = c.loop-act.names.items in
    let has = c.loop-act.invariant.1 in
    let is = c.in_ok-name.ensures (ours ++ names) has in
    elim c.match-branch-3.branch [
      | in-Some+in_ok-clone+in_ok-insert+in_ok-push w ↦
          let items : c.match-branch-3.names.items ≡ names ++ w.in-Some.name ∷ [] = search rules in
          let same : w.in_ok-clone.field-0 ≡ w.in-Some.name = search rules in
          let more = one_name c.loop-act.known w.insert.new.self (ours ++ names) w.in-Some.name
          (subst (λ name. Updates name_cmp c.loop-act.known w.insert.new.self name true) same w.in_ok-insert.ensures.updates) has in
          rw (items, w.known-is) (
            one_met ours names c.args.acts.now c.loop-act.act-index c.act-item.result w.in-Some.name less c.act-item.is (sym w.in-Some.is ∙ is) c.loop-act.invariant.0,
            subst (HasNames w.insert.new.self) (append_assoc ours names (w.in-Some.name ∷ [])) more,
          )
      | in_default w ↦
          let none : None ≡ met (ours ++ names) c.act-item.result = search rules in
          rw (w.known-is, w.names-is) (none_met ours names c.args.acts.now c.loop-act.act-index c.act-item.result less c.act-item.is none c.loop-act.invariant.0, has)
    ]
