use Rattle.provider_store.proofs.Spelling.{text_spells}
use Rattle.provider_store.proofs.tables.text_of.Goals as goal

pub returns-clause-spelled : goal.returns-clause-spelled
returns-clause-spelled c =
    text_spells (λ text. text.items) c.text.result c.args.content.now c.text.ensures.lawful c.text.ensures.text c.text.ensures.utf8
