use Rattle.std.proofs.Common.{◌<◌, Some, length, rules, subst}
use Rattle.std.specs.BTreeMap.{Updates}
use Rattle.connector_core.specs.Trees.{key_cmp}
use Rattle.source_csv.specs.Records.{user}
use Rattle.world_sim.specs.Imaging.{id_in}
use Rattle.world_sim.proofs.RowRequests.{ids_more, looks_more}
use Rattle.world_sim.proofs.imaging.ids_of.Goals as goal

pub loop-member-preserved : goal.loop-member-preserved
loop-member-preserved g c =
    let less : c.loop-member.member-index < length c.args.members.now = search rules in
    let far = c.loop-member.invariant in
    let one = c.in_ok-look_up.ensures.reads in (
      looks_more g.R.Registry c.args.provider.now c.loop-member.provider c.look_up.new.provider tt tt tt far.0 one,
      λ faithful. ids_more c.loop-member.ids c.look_up.new.ids (g.R.Registry.rows c.args.provider.now) c.args.members.now c.loop-member.member-index c.member-item.result less c.member-item.is
          (far.1 (one.was faithful))
          (subst (λ rows. Updates key_cmp c.loop-member.ids c.look_up.new.ids c.member-item.result (Some (id_in rows (user c.member-item.result)))) (far.0.same (one.was faithful)) (c.in_ok-look_up.ensures.put faithful)),
    )
