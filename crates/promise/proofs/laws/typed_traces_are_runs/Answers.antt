use Rattle.promise.proofs.AmongTyped as laws
use Rattle.promise.proofs.laws.typed_traces_are_runs.Goals as goal

pub returns : goal.returns
returns c = laws.typed_traces_are_runs
