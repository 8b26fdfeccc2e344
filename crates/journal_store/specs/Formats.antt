-- The formats of a journal, each as one record.
use Rattle.std.specs.Prelude.{ℕ}
use Rattle.sqlite_value.specs.Order.{Row}
use Rattle.sqlite_schema.specs.declared.schema.Schema.{Schema}
use Rattle.scim_key.specs.declared.records.Kind.{Kind}
use Rattle.journal_store.specs.Format.{Form, entry_tree, format_number, journal_schema}
use Rattle.journal_store.specs.Rows.{shown_row}

-- a format: the layout of its tables, its number, the tree of each type's table, and the columns that its query shows
-- of a row
abbrev pub FormatData : Type 1
FormatData = record { form : Type 0; layout : form → Schema; number : ℕ; tree : Kind → ℕ; columns : Kind → Row → Row }

abbrev pub current_format : FormatData
current_format =
    record { form = Form; layout = journal_schema; number = format_number; tree = entry_tree; columns = shown_row }
