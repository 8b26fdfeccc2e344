-- The laws of the equality of revisions, which Rust asks of `==`.
use Rattle.std.specs.Cmp.{IsEquivalence}
use Rattle.std.specs.Cmp.Rules.{comparing}
use Rattle.std.proofs.Common.{rules}
use Rattle.scim_key.specs.Revisions.{same_revision}

pub revisions_equal : IsEquivalence same_revision
unfolding same_revision
revisions_equal = Prim.search (comparing, rules)
