use Rattle.std.proofs.Common.{◌≡◌, false}
use Rattle.std.specs.List.{list_any}
use Rattle.std.specs.Vec.Iter.{into_iter_items}
use Rattle.scim_key.specs.Records.{same_name}
use Rattle.scim_key.specs.declared.records.RecordName.{RecordName}
use Rattle.connector_core.specs.Maps.{book_of}
use Rattle.provisioning.specs.Bases.{confirmed_row, kept_row}
use Rattle.provisioning.proofs.bases.confirmed_rows.Given as goal

-- the rows of all but the names that are left are kept
abbrev pub invariant-loop-name : goal.invariant-loop-name
invariant-loop-name g l = (name : RecordName) → list_any (same_name name) (into_iter_items l.name-iterator) ≡ false
    → kept_row l.rows name ≡ confirmed_row (book_of l.connector.book) name
