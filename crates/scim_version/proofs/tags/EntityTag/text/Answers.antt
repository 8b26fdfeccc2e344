use Rattle.std.proofs.Common.{rules}
use Rattle.scim_version.proofs.Grammar.{IsEntityTag-from_test}
use Rattle.scim_version.proofs.tags.EntityTag.text.Goals as goal

pub returns-clause-lawful : goal.returns-clause-lawful
returns-clause-lawful c = IsEntityTag-from_test _ (search rules)
