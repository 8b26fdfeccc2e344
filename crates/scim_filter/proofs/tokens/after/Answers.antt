use Rattle.scim_filter.proofs.Cuts.{behind_ascii}
use Rattle.scim_filter.proofs.tokens.after.Goals as goal

pub range_from-requires : goal.range_from-requires
range_from-requires c = λ _. behind_ascii c.args.text.now c.args.count c.utf8.text c.requires.some c.requires.within c.requires.ascii
