use Rattle.std.proofs.Common.{◌≡◌, ◌∙◌, rules, tests, codes, refl}
use Rattle.sqlite_schema.specs.declared.schema.Kind.TheVariants.{Integer, Text}
use Rattle.sql_tables.specs.Layouts.{optional, required}
use Rattle.sql_tables.proofs.Items.{five_items}
use Rattle.provider_store.proofs.format.has_columns.Goals as goal

pub returns-then-is_column-4-clause-is : goal.returns-then-is_column-4-clause-is
returns-then-is_column-4-clause-is c is =
    let all = five_items c.args.columns.now c.number-item.result c.kind-item.result c.name_key-item.result c.version-item.result c.content-item.result c.in-len5.len_at_least c.in-len5.len_below
    c.number-item.is c.kind-item.is c.name_key-item.is c.version-item.is c.content-item.is in
    let number : c.number-item.result ≡ optional (codes "number") Integer = search (rules, tests) in
    let kind : c.kind-item.result ≡ required (codes "kind") Integer = search (rules, tests) in
    let key : c.name_key-item.result ≡ required (codes "name_key") Text = search (rules, tests) in
    let version : c.version-item.result ≡ required (codes "version") Integer = search (rules, tests) in
    let content : c.content-item.result ≡ required (codes "content") Text = search (rules, tests) in
    all ∙ rw (number, kind, key, version, content) refl
