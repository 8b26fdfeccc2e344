use Rattle.std.proofs.Common.{◌∙◌, sym}
use Rattle.commands.proofs.ScopeLemmas.{wrong_at}
use Rattle.commands.proofs.scopes.records_in.Goals as goal

pub returns-in_default : goal.returns-in_default
returns-in_default c =
    wrong_at c.args.texts.now c.loop-text.text-index _ c.loop-text-test.true (sym c.in_ok-record.ensures ∙ c.in_default.is)
