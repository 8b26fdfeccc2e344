use Rattle.std.proofs.Common.{◌≡◌, ◌<◌, length, take, subst, rules}
use Rattle.std.proofs.lemmas.List.{take_all}
use Rattle.world_sim.specs.Following.{RunsTold}
use Rattle.world_sim.proofs.TellingLemmas.{all_at, all_of, none_told, one_told, told_ends}
use Rattle.world_sim.proofs.following.make_all.Goals as goal

pub loop-next-init : goal.loop-next-init
loop-next-init g c =
    (none_told g.D.Transition.makes g.D.Transition.runs c.requires.runs g.F.Follow.told g.F.Follow.does c.args.world.now c.args.follower.now, c.requires.fits)

pub make_telling-requires : goal.make_telling-requires
make_telling-requires g c =
    let less : c.loop-next.next-index < length c.args.all.now = search rules in
    all_at (g.D.Transition.fits c.loop-next.world) c.args.all.now c.loop-next.next-index c.next-item.result less c.next-item.is c.loop-next.invariant.1

pub loop-next-preserved : goal.loop-next-preserved
loop-next-preserved g c =
    let less : c.loop-next.next-index < length c.args.all.now = search rules in (
      one_told g.D.Transition.makes g.D.Transition.runs c.requires.runs g.F.Follow.told g.F.Follow.does c.args.world.now c.loop-next.world c.make_telling.new.world c.args.all.now c.loop-next.next-index c.next-item.result
          c.args.follower.now c.loop-next.follower c.make_telling.new.follower less c.next-item.is c.loop-next.invariant.0 c.in_ok-make_telling.ensures.done,
      all_of (g.D.Transition.fits c.loop-next.world) (g.D.Transition.fits c.make_telling.new.world) c.in_ok-make_telling.ensures.fits c.args.all.now c.loop-next.invariant.1,
    )

pub returns-in_err-make_telling-clause-fault : goal.returns-in_err-make_telling-clause-fault
returns-in_err-make_telling-clause-fault g c =
    let less : c.loop-next.next-index < length c.args.all.now = search rules in
    let why = told_ends g.D.Transition.makes g.D.Transition.runs c.requires.runs g.F.Follow.told g.F.Follow.does g.D.Transition.fails c.args.world.now c.loop-next.world c.make_telling.new.world c.args.all.now c.loop-next.next-index c.next-item.result
    c.args.follower.now c.loop-next.follower c.make_telling.new.follower c.in_err-make_telling.field-0.0 less c.next-item.is c.loop-next.invariant.0 c.in_err-make_telling.ensures.fault in
    search rules

pub returns-clause-runs : goal.returns-clause-runs
returns-clause-runs g c =
    let all : take c.loop-next.next-index c.args.all.now ≡ c.args.all.now = take_all c.loop-next.next-index c.args.all.now c.loop-next-test.false in
    subst (λ made. RunsTold g.D.Transition.runs g.F.Follow.told g.F.Follow.does c.args.world.now c.loop-next.world made c.args.follower.now c.loop-next.follower) all c.loop-next.invariant.0
