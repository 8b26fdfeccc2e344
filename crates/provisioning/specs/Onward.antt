-- What exchanges never undo.
use Rattle.std.specs.Prelude.{◌≡◌}
use Rattle.std.specs.FinMap.{keys}
use Rattle.scim_key.specs.Revisions.{◌≼◌}
use Rattle.scim_key.specs.declared.records.RecordName.{RecordName}
use Rattle.connector_core.specs.Book.{confirmed_of, wanted_row}
use Rattle.connector_core.specs.Maps.{BookMap, book_of}

-- the records and their wanted rows stay, and no confirmed revision falls
pub record Onward (old new : BookMap) : Type 0 where
  pub names : keys new ≡ keys old
  pub rows : (name : RecordName) → wanted_row (book_of new) name ≡ wanted_row (book_of old) name
  pub confirmed : (name : RecordName) → confirmed_of (book_of old) name ≼ confirmed_of (book_of new) name
