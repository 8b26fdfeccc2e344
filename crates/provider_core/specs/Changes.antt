-- The change that a `Pending` stands for. Its content is kept in the answer alone.
use Rattle.std.specs.Prelude.{Option, Some, None}
use Rattle.scim_resource.specs.Rows.{RowVersionRecord, row_of}
use Rattle.scim_message.specs.declared.messages.Answer.{Answer}
use Rattle.scim_message.specs.declared.messages.Answer.TheVariants.{Created, Found, Replaced, NotModified, Error}
use Rattle.scim_message.specs.declared.messages.Answer.TheVariants as answers
use Rattle.provider_core.specs.declared.pending.Change.{Change}
use Rattle.provider_core.specs.declared.pending.Change.TheVariants.{Unchanged, Insert, Update}

-- what a row with this number and version becomes: the content that the answer shows, if the answer is to a write
abbrev pub written : RowVersionRecord → Answer → Change
written row (Created s) = Insert (row_of row s.content)
written row (Replaced s) = Update (row_of row s.content)
written row (Found s) = Unchanged
written row (answers.List list) = Unchanged
written row (NotModified kind id version) = Unchanged
written row (Error error) = Unchanged

-- the change, by the number and the version of the row that is written, if there is one
abbrev pub change_of : Option RowVersionRecord → Answer → Change
change_of None answer = Unchanged
change_of (Some row) answer = written row answer
