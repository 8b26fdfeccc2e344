use Rattle.std.proofs.Common.{◌≡◌, [], ◌∙◌, sym, rules, tests}
use Rattle.journal_store.specs.Older.Format.{first_groups, first_users, second_users}
use Rattle.journal_store.specs.Tables.{format_name}
use Rattle.journal_store.specs.Format.{third_users}
use Rattle.sql_tables.specs.Layouts.{format_table}
use Rattle.sql_tables.proofs.Items.{five_items, six_items}
use Rattle.journal_store.specs.Opening.{IsKeyedTable}
use Rattle.journal_store.proofs.Fields.{journal_fields}
use Rattle.journal_store.proofs.format.is_journal.Goals as goal

pub returns-then-is_users-clause-is : goal.returns-then-is_users-clause-is
returns-then-is_users-clause-is c is =
    let format = c.format-item.result in
    let firsts = c.firsts-item.result in
    let old_groups = c.old_groups-item.result in
    let seconds = c.seconds-item.result in
    let users = c.users-item.result in
    let groups = c.groups-item.result in
    let first_keys = c.first_keys-item.result in
    let old_group_keys = c.old_group_keys-item.result in
    let second_keys = c.second_keys-item.result in
    let user_keys = c.user_keys-item.result in
    let group_keys = c.group_keys-item.result in
    let tables = six_items c.as_slice.result.now format firsts old_groups seconds users groups c.in-len6.len_at_least c.in-len6.len_below c.format-item.is c.firsts-item.is c.old_groups-item.is c.seconds-item.is c.users-item.is c.groups-item.is in
    let indexes = five_items c.as_slice-2.result.now first_keys old_group_keys second_keys user_keys group_keys c.in-len5.len_at_least c.in-len5.len_below c.first_keys-item.is c.old_group_keys-item.is c.second_keys-item.is c.user_keys-item.is c.group_keys-item.is in
    let views : c.args.schema.now.views ≡ [] = search (rules, tests) in
    let known : format ≡ format_table format_name format.checks = search (rules, tests) in
    let are_firsts : IsKeyedTable first_users firsts first_keys = search (rules, tests) in
    let are_old_groups : IsKeyedTable first_groups old_groups old_group_keys = search (rules, tests) in
    let are_seconds : IsKeyedTable second_users seconds second_keys = search (rules, tests) in
    let are_users : IsKeyedTable third_users users user_keys = search (rules, tests) in
    journal_fields c.args.schema.now views format known firsts old_groups seconds users groups first_keys old_group_keys second_keys user_keys group_keys (sym c.as_slice.ensures ∙ tables) (sym c.as_slice-2.ensures ∙ indexes) are_firsts are_old_groups are_seconds are_users (c.is_groups.ensures.is is)
