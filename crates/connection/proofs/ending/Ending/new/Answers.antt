use Rattle.std.proofs.Common.{sym, ◌∙◌}
use Rattle.connection.proofs.StreamLemmas.{none_unsent}
use Rattle.connection.proofs.ending.Ending.new.Goals as goal

pub returns-then-is_sent : goal.returns-then-is_sent
returns-then-is_sent g c =
    let nothing = none_unsent c.args.writer.unsent.items (sym c.is_sent.ensures ∙ c.if-is_sent.true) in
    (c.shut_down.ensures.items ∙ sym nothing, c.shut_down.ensures.sent)
