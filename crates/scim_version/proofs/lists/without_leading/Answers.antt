use Rattle.std.proofs.Common.{sym, ◌∙◌, rules}
use Rattle.scim_version.proofs.Blanks.{leading-blank, leading-other, leading-nil}
use Rattle.scim_version.proofs.lists.without_leading.Goals as goal

pub loop-rest-preserved : goal.loop-rest-preserved
loop-rest-preserved c =
    leading-blank c.loop-rest.rest.now c.in-len1-up.len_at_least (sym c.if-is_blank_byte.ensures) ∙ c.loop-rest.invariant

pub returns-then-rest-lt1 : goal.returns-then-rest-lt1
returns-then-rest-lt1 c = leading-nil c.loop-rest.rest.now (search rules) ∙ c.loop-rest.invariant

pub returns-else-is_blank_byte : goal.returns-else-is_blank_byte
returns-else-is_blank_byte c =
    leading-other c.loop-rest.rest.now c.in-len1-up.len_at_least (sym c.if-is_blank_byte.ensures) ∙ c.loop-rest.invariant
