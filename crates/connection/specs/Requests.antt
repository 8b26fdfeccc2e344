-- How the requests of many connections change the rows, one after another.
use Rattle.std.specs.Prelude.{◌≡◌, ◌≤◌, ℕ, List, [], ◌∷◌, length}
use Rattle.scim_resource.specs.Rows.{StoredRecord}
use Rattle.scim_message.specs.declared.messages.Request.{Request}
use Rattle.provider_core.specs.Outcomes.{outcome, changed_rows}

-- the rows after these requests
abbrev pub rows_after : List StoredRecord → List Request → List StoredRecord
rows_after rows [] = rows
rows_after rows (request ∷ requests) = rows_after (changed_rows rows (outcome rows request).change) requests

-- at most `most` requests made the rows what they are
pub record FollowRequests (old new : List StoredRecord) (most : ℕ) : Type 0 where
  pub requests : List Request
  pub rows : new ≡ rows_after old requests
  pub count : length requests ≤ most
