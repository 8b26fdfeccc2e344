use Rattle.commands.proofs.RunLemmas.{memory_served}
use Rattle.commands.proofs.serving.serve_empty.Goals as goal

pub returns : goal.returns
returns g c =
    memory_served _ _ _ _ _ _ _ _ c.in_ok-sockets.sockets c.serve_from_memory-outcome.new.listener
    c.serve_from_memory-outcome.result c.finish-finished.result c.status_after.result c.serve_from_memory-outcome.ensures
    c.status_after.ensures c.in_ok-sockets.ensures
