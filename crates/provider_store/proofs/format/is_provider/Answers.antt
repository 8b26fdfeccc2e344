use Rattle.std.proofs.Common.{◌≡◌, [], ◌∙◌, sym, rules, tests}
use Rattle.provider_store.specs.Format.{format_name, name_index}
use Rattle.provider_store.specs.Opening.{IsResourceTable}
use Rattle.provider_store.proofs.Fields.{provider_fields}
use Rattle.sql_tables.specs.Layouts.{format_table}
use Rattle.sql_tables.proofs.Items.{one_item, two_items}
use Rattle.provider_store.proofs.format.is_provider.Goals as goal

pub returns-then-is_empty-clause-is : goal.returns-then-is_empty-clause-is
returns-then-is_empty-clause-is c is =
    let format = c.format-item.result in
    let resource = c.resource-item.result in
    let index = c.index-item.result in
    let tables = two_items c.as_slice.result.now format resource c.in-len2.len_at_least c.in-len2.len_below c.format-item.is c.resource-item.is in
    let indexes = one_item c.as_slice-2.result.now index c.in-len1.len_at_least c.in-len1.len_below c.index-item.is in
    let is_format : format ≡ format_table format_name format.checks = search (rules, tests) in
    let is_resource : IsResourceTable resource = search (rules, tests) in
    let is_index : index ≡ name_index index.order = search (rules, tests) in
    let views : c.args.schema.now.views ≡ [] = search (rules, tests) in
    provider_fields c.args.schema.now format resource index (sym c.as_slice.ensures ∙ tables) (sym c.as_slice-2.ensures ∙ indexes) views is_format is_resource is_index (c.has_order.ensures.is is)
