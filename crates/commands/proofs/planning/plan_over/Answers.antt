use Rattle.commands.proofs.RunLemmas.{if_ok}
use Rattle.commands.proofs.planning.plan_over.Goals as goal

pub returns-in-Ok : goal.returns-in-Ok
returns-in-Ok g c =
    if_ok c.plan_from.result (λ status plans. record {
      list = c.in_ok-entries.entries.items;
      start = c.in-Ok.connector;
      end = c.plan_from.new.connector;
      looks = c.in_ok-entries.ensures;
      opened = c.in-Ok.ensures;
      plans = plans;
    }) c.plan_from.ensures
