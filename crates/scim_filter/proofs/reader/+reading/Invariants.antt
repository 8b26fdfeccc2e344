use Rattle.std.proofs.Common.{◌<◌, ◌+◌, ◌*◌, length, ℕ}
use Rattle.scim_filter.specs.Parsing.{operand, chain}
use Rattle.scim_filter.specs.declared.reader.Connective.{Connective}
use Rattle.scim_filter.specs.declared.reader.Connective.TheVariants.{And, Or}
use Rattle.scim_filter.proofs.Chains.{Onward}
use Rattle.scim_filter.proofs.reader.+reading.Given as goal

-- the connective that binds less tightly stands above the other, and parentheses below both
abbrev pub rank : Connective → ℕ
rank And = 2
rank Or = 4

abbrev pub decreases-chain : goal.decreases-chain
decreases-chain l = 6 * l.depth + rank l.connective + 1

abbrev pub decreases-group : goal.decreases-group
decreases-group l = 6 * l.depth

abbrev pub decreases-item : goal.decreases-item
decreases-item l = 6 * l.depth + 1

abbrev pub decreases-operand : goal.decreases-operand
decreases-operand l = 6 * l.depth + rank l.connective

abbrev pub invariant-chain-loop-more : goal.invariant-chain-loop-more
invariant-chain-loop-more l =
    Onward l.connective (operand l.connective l.depth) (chain l.connective (operand l.connective l.depth) l.tokens) l.left l.rest
    × (length l.rest < length l.tokens)

abbrev pub decreases-chain-loop-more : goal.decreases-chain-loop-more
decreases-chain-loop-more l = length l.rest
