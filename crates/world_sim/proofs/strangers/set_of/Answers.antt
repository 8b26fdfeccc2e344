use Rattle.std.proofs.Common.{◌≡◌, ◌<◌, length, rules, subst, true}
use Rattle.std.specs.BTreeSet.{Updates}
use Rattle.scim_key.specs.Records.{name_cmp}
use Rattle.world_sim.proofs.StrangerLemmas.{next_name}
use Rattle.world_sim.proofs.strangers.set_of.Goals as goal

pub loop-name-preserved : goal.loop-name-preserved
loop-name-preserved c =
    let less : c.loop-name.name-index < length c.args.names.now = search rules in
    let same : c.in_ok-clone.field-0 ≡ c.name-item.result = search rules in
    next_name c.loop-name.set c.insert.new.self c.args.names.now c.loop-name.name-index c.name-item.result less c.name-item.is
    (subst (λ name. Updates name_cmp c.loop-name.set c.insert.new.self name true) same c.in_ok-insert.ensures.updates) c.loop-name.invariant
