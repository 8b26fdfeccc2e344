use Rattle.scim_filter.proofs.Cuts.{behind_ascii}
use Rattle.scim_filter.proofs.tokens.before.Goals as goal

pub range-requires-clause-end_boundary : goal.range-requires-clause-end_boundary
range-requires-clause-end_boundary c = behind_ascii c.args.text.now c.args.count c.utf8.text c.requires.some c.requires.within c.requires.ascii
