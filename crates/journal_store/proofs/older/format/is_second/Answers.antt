use Rattle.std.proofs.Common.{◌≡◌, [], ◌∙◌, sym, rules, tests}
use Rattle.journal_store.specs.Older.Format.{first_groups, first_users}
use Rattle.journal_store.specs.Tables.{format_name}
use Rattle.sql_tables.specs.Layouts.{format_table}
use Rattle.sql_tables.proofs.Items.{three_items, four_items}
use Rattle.journal_store.specs.Opening.{IsKeyedTable}
use Rattle.journal_store.proofs.Fields.{second_fields}
use Rattle.journal_store.proofs.older.format.is_second.Goals as goal

pub returns-then-is_first_groups-clause-is : goal.returns-then-is_first_groups-clause-is
returns-then-is_first_groups-clause-is c is =
    let format = c.format-item.result in
    let firsts = c.firsts-item.result in
    let groups = c.groups-item.result in
    let users = c.users-item.result in
    let first_keys = c.first_keys-item.result in
    let group_keys = c.group_keys-item.result in
    let user_keys = c.user_keys-item.result in
    let tables = four_items c.as_slice.result.now format firsts groups users c.in-len4.len_at_least c.in-len4.len_below c.format-item.is c.firsts-item.is c.groups-item.is c.users-item.is in
    let indexes = three_items c.as_slice-2.result.now first_keys group_keys user_keys c.in-len3.len_at_least c.in-len3.len_below c.first_keys-item.is c.group_keys-item.is c.user_keys-item.is in
    let views : c.args.schema.now.views ≡ [] = search (rules, tests) in
    let known : format ≡ format_table format_name format.checks = search (rules, tests) in
    let are_firsts : IsKeyedTable first_users firsts first_keys = search (rules, tests) in
    let are_groups : IsKeyedTable first_groups groups group_keys = search (rules, tests) in
    second_fields c.args.schema.now views format known firsts groups users first_keys group_keys user_keys (sym c.as_slice.ensures ∙ tables) (sym c.as_slice-2.ensures ∙ indexes) are_firsts are_groups (c.is_second_users.ensures.is is)
