use Rattle.std.proofs.Common.{rules, sym}
use Rattle.std.proofs.lemmas.Bool.{both_ways}
use Rattle.scim_version.proofs.Grammar.{IsEntityTag-from_test, test-from_IsEntityTag}
use Rattle.scim_version.proofs.tags.EntityTag.read.Goals as goal

pub returns-clause-read : goal.returns-clause-read
returns-clause-read c = (search rules, IsEntityTag-from_test _ (sym c.if-not-is_tag.ensures))

pub returns-then-not-is_tag-clause-malformed : goal.returns-then-not-is_tag-clause-malformed
returns-then-not-is_tag-clause-malformed c =
    λ _ tag. both_ways _ (sym c.if-not-is_tag.ensures) (test-from_IsEntityTag _ tag)
