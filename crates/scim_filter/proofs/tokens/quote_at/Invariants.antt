use Rattle.std.proofs.Common.{◌≡◌, ◌+◌, drop, false}
use Rattle.std.specs.Prelude.{option_map}
use Rattle.scim_filter.specs.Tokens.{quote_at}
use Rattle.scim_filter.proofs.tokens.quote_at.Given as goal

-- the place in the remaining text, counted from the front, is the place in all of it
abbrev pub invariant-loop-place : goal.invariant-loop-place
invariant-loop-place l = option_map (λ n. l.place + n) (quote_at l.escaped (drop l.place l.text)) ≡ quote_at false l.text
