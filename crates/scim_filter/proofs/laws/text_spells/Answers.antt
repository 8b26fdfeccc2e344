use Rattle.scim_filter.proofs.Spelling.{text_spells}
use Rattle.scim_filter.proofs.laws.text_spells.Goals as goal

pub returns : goal.returns
returns c = text_spells
