use Rattle.scim_key.proofs.KeyLemmas.{key_of-key_of}
use Rattle.scim_key.proofs.records.Key.of.Goals as goal

pub invariant_of-result : goal.invariant_of-result
invariant_of-result c = rw c.make_ascii_lowercase.ensures.bytes (key_of-key_of _)
