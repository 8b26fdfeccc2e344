use Rattle.std.proofs.Common.{◌≡◌, [], ◌∙◌, sym, rules, tests}
use Rattle.journal_store.specs.Older.Format.{first_users}
use Rattle.journal_store.specs.Tables.{format_name}
use Rattle.sql_tables.specs.Layouts.{format_table}
use Rattle.sql_tables.proofs.Items.{two_items, three_items}
use Rattle.journal_store.specs.Opening.{IsKeyedTable}
use Rattle.journal_store.proofs.Fields.{first_fields}
use Rattle.journal_store.proofs.older.format.is_first.Goals as goal

pub returns-then-is_first_users-clause-is : goal.returns-then-is_first_users-clause-is
returns-then-is_first_users-clause-is c is =
    let format = c.format-item.result in
    let users = c.users-item.result in
    let groups = c.groups-item.result in
    let user_keys = c.user_keys-item.result in
    let group_keys = c.group_keys-item.result in
    let tables = three_items c.as_slice.result.now format users groups c.in-len3.len_at_least c.in-len3.len_below c.format-item.is c.users-item.is c.groups-item.is in
    let indexes = two_items c.as_slice-2.result.now user_keys group_keys c.in-len2.len_at_least c.in-len2.len_below c.user_keys-item.is c.group_keys-item.is in
    let views : c.args.schema.now.views ≡ [] = search (rules, tests) in
    let known : format ≡ format_table format_name format.checks = search (rules, tests) in
    let are_users : IsKeyedTable first_users users user_keys = search (rules, tests) in
    first_fields c.args.schema.now views format known users groups user_keys group_keys (sym c.as_slice.ensures ∙ tables) (sym c.as_slice-2.ensures ∙ indexes) are_users (c.is_first_groups.ensures.is is)
