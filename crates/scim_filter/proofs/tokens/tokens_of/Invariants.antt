use Rattle.std.proofs.Common.{length}
use denote.Text.{Utf8}
use denote.Shadow.{shadow}
use Rattle.scim_filter.proofs.Progress.{Keeps}
use Rattle.scim_filter.proofs.tokens.tokens_of.Given as goal

-- what follows the tokens so far is left of the text
abbrev pub invariant-loop-rest : goal.invariant-loop-rest
invariant-loop-rest l = shadow (Utf8 l.rest) × Keeps l.text l.rest l.tokens.items

abbrev pub decreases-loop-rest : goal.decreases-loop-rest
decreases-loop-rest l = length l.rest
