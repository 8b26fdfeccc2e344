use Rattle.source_csv.specs.Records.{user}
use Rattle.mapping.proofs.ReadyLemmas.{Found}
use Rattle.mapping.proofs.readiness.ready.Given as goal

-- each member so far has an id, and these are the ids
abbrev pub invariant-loop-place : goal.invariant-loop-place
invariant-loop-place g l = Found (λ key. g.I.Ids.id_of l.ids (user key)) l.members l.items.items l.place
