-- The order in which records settle.
use Rattle.std.specs.Prelude.{List}
use Rattle.std.specs.List.Sorted.{IsPermutation, IsSorted}
use Rattle.scim_key.specs.Records.{name_cmp}
use Rattle.scim_key.specs.declared.records.RecordName.{RecordName}

-- the same names, users by key, then groups by key
pub record IsSettleOrder (names ordered : List RecordName) : Type 0 where
  pub same : IsPermutation names ordered
  pub rising : IsSorted name_cmp ordered
