use Rattle.std.proofs.Common.{arith, rules}
use Rattle.provider_core.proofs.MemoryLaws.{apart-none}
use Rattle.provider_core.proofs.memory.MemoryRegistry.new.Goals as goal

pub invariant_of-result : goal.invariant_of-result
invariant_of-result c = rw c.new.ensures.items (record { within = omega arith; numbered = tt; apart = apart-none; found = λ name. search rules })
