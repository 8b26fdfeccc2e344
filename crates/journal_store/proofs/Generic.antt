-- The format that a function is generic over.
use Rattle.sql_tables.specs.declared.statements.Layout.{Ghosts as Layouts}
use Rattle.journal_store.specs.Formats.{FormatData}
use Rattle.journal_store.specs.declared.formats.Format.{Ghosts as Formats}

abbrev pub format_of : {F : Type 0} → Layouts F → Formats F → FormatData
format_of l f = record { form = l.form; layout = l.layout; number = f.number; tree = f.tree; columns = f.columns }
