use Rattle.connection.proofs.SearchLemmas.{NextSoFar}
use Rattle.connection.proofs.searches.Searches.fairest.Given as goal

-- of those before the place, the one that was found is next
abbrev pub invariant-loop-place : goal.invariant-loop-place
invariant-loop-place g l = NextSoFar l.self.waiting.items l.self.served.items l.place l.found l.fewest
