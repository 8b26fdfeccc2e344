-- Which rows a filter holds for if it names one record.
use Rattle.std.specs.Prelude.{◌≡◌, ◌↔◌, true, Some}
use Rattle.scim_key.specs.declared.records.RecordName.{RecordName}
use Rattle.scim_resource.specs.Contents.{content_name}
use Rattle.scim_resource.specs.Rows.{StoredRecord}
use Rattle.scim_filter.specs.Expressions.{Expression}
use Rattle.scim_filter.specs.Matching.{satisfies}
use Rattle.scim_filter.specs.Names.{single_key}

-- A filter that names one record holds for the rows of that record, and for no others
abbrev pub KeysDecide : Type 0
KeysDecide = (f : Expression) (name : RecordName) (row : StoredRecord) → single_key f ≡ Some name
    → (satisfies f row ≡ true) ↔ (content_name row.content ≡ name)
