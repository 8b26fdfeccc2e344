use Rattle.std.proofs.Common.{◌≡◌, drop}
use Rattle.scim_filter.specs.Comparing.{folded, contains}
use Rattle.scim_filter.proofs.comparing.contains.Given as goal

-- the remaining text contains the text if all of it does
abbrev pub invariant-loop-start : goal.invariant-loop-start
invariant-loop-start l = contains (folded l.exact (drop l.start l.text)) (folded l.exact l.given) ≡ contains (folded l.exact l.text) (folded l.exact l.given)
