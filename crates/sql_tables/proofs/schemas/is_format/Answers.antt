use Rattle.std.proofs.Common.{◌≡◌, [], ◌∷◌, Some, ◌∙◌, sym, rules, tests, codes, refl}
use Rattle.sqlite_schema.specs.declared.schema.Kind.TheVariants.{Integer}
use Rattle.sql_tables.specs.Layouts.{optional, required}
use Rattle.sql_tables.proofs.Items.{two_items}
use Rattle.sql_tables.proofs.Fields.{format_fields}
use Rattle.sql_tables.proofs.schemas.is_format.Goals as goal

pub returns-then-is_empty-2-clause-is : goal.returns-then-is_empty-2-clause-is
returns-then-is_empty-2-clause-is c is =
    let all = two_items c.as_slice.result.now c.one-item.result c.number-item.result c.in-len2.len_at_least c.in-len2.len_below c.one-item.is c.number-item.is in
    let one : c.one-item.result ≡ optional (codes "one") Integer = search (rules, tests) in
    let number : c.number-item.result ≡ required (codes "number") Integer = search (rules, tests) in
    let name : c.args.table.now.name ≡ c.args.name.now = search (rules, tests) in
    let tree : c.args.table.now.tree ≡ 0 = search (rules, tests) in
    let key : c.args.table.now.key ≡ Some 0 = search (rules, tests) in
    let primary : c.args.table.now.primary ≡ 0 ∷ [] = search (rules, tests) in
    let uniques : c.args.table.now.uniques ≡ [] = search (rules, tests) in
    let orders : c.args.table.now.orders ≡ [] = search (rules, tests) in
    let plain = c.is_plain.ensures.is is in
    let columns : c.args.table.now.columns ≡ optional (codes "one") Integer ∷ required (codes "number") Integer ∷ [] = sym c.as_slice.ensures ∙ all ∙ rw (one, number) refl in
    format_fields c.args.name.now c.args.table.now name tree columns key primary uniques orders plain
