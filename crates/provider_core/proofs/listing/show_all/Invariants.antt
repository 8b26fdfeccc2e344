use Rattle.std.proofs.Common.{◌≡◌, ◌++◌, take, map}
use Rattle.scim_resource.specs.Rows.{shown}
use Rattle.provider_core.proofs.listing.show_all.Given as goal

-- the rows so far are on the page
abbrev pub invariant-loop-row : goal.invariant-loop-row
invariant-loop-row l = l.page.items ≡ l.fn.page.items ++ map shown (take l.row-index l.rows)
