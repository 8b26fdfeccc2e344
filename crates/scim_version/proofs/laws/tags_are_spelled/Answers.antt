use Rattle.scim_version.proofs.Grammar.{IsEntityTag-from_test, test-from_IsEntityTag}
use Rattle.scim_version.proofs.laws.tags_are_spelled.Goals as goal

pub returns : goal.returns
returns c = λ text. (IsEntityTag-from_test text, test-from_IsEntityTag text)
