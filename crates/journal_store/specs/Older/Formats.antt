-- The older formats of a journal, each as one record.
use Rattle.journal_store.specs.Older.Format.{FirstForm, SecondForm, first_number, first_schema, first_tree, second_number, second_schema, second_tree}
use Rattle.journal_store.specs.Older.Rows.{first_row, second_row}
use Rattle.journal_store.specs.Formats.{FormatData}

abbrev pub second_format : FormatData
second_format =
    record {
      form = SecondForm;
      layout = second_schema;
      number = second_number;
      tree = second_tree;
      columns = second_row;
    }

abbrev pub first_format : FormatData
first_format =
    record { form = FirstForm; layout = first_schema; number = first_number; tree = first_tree; columns = first_row }
