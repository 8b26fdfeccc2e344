use Rattle.std.proofs.Common.{refl, rules}
use Rattle.world_sim.proofs.TellingLemmas.{acts_end, kept_run}
use Rattle.world_sim.proofs.among.run_among.Goals as goal

pub returns-in-Ok-clause-ran : goal.returns-in-Ok-clause-ran
returns-in-Ok-clause-ran g c =
    kept_run _ _ _ _ _ c.args.acts.now _ c.run_telling_among.new.follower c.in-Ok.world c.run_telling_among.new.follower.kept.items (search rules) refl c.in-Ok.ensures.ran

pub returns-in-Err-clause-fault : goal.returns-in-Err-clause-fault
returns-in-Err-clause-fault g c =
    rw c.run_fault.ensures (acts_end g.R.Registry g.J.Journal (λ r. r.kept.items) (λ _ _ _. Unit {0}) c.args.registry c.args.journal c.args.base c.args.acts.now (record { kept = c.new.result }) c.run_telling_among.new.follower c.in-Err.fault c.in-Err.ensures.fault)
