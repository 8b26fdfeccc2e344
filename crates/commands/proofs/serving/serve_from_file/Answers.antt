use Rattle.commands.proofs.RunLemmas.{if_ok, stored_served}
use Rattle.commands.proofs.serving.serve_from_file.Goals as goal

pub returns-in-Ok : goal.returns-in-Ok
returns-in-Ok g c =
    if_ok c.serve_rows.result
    (λ status serves. stored_served _ _ _ _ _ _ _ _ _ _ _ status c.in_ok-rows.ensures.opened serves c.in-Ok.ensures)
    c.serve_rows.ensures
