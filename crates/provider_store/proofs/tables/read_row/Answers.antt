use Rattle.std.proofs.Common.{◌≡◌, IsTrue, rules, tests, ◌∙◌, sym}
use Rattle.provider_store.proofs.RowReading.{row_read, row_unread}
use Rattle.provider_store.proofs.tables.read_row.Goals as goal

pub returns-clause-some : goal.returns-clause-some
returns-clause-some c =
    let all = c.in-Some-Some-Some-Some-Some in
    let len : c.column_count.result ≡ 5 = search (rules, tests) in
    let named : IsTrue c.in_ok-has_key.field-0 = search (rules, tests) in
    row_read c.args.row.now all.number all.code all.version all.key.now all.text.now c.in-Some.kind c.in-Some-2.content (sym c.column_count.ensures ∙ len)
    all.ensures.some all.ensures'.some all.ensures''.some all.ensures'''.some all.ensures''''.some c.in-Some.ensures.some (rw c.in-Some-2.is at c.in_ok-content.ensures.some) (c.in_ok-has_key.ensures.same named) c.stored.result c.stored.ensures.value c.stored.ensures.lawful

pub returns-clause-none : goal.returns-clause-none
returns-clause-none c =
    let all = c.in-Some-Some-Some-Some-Some in
    let len : c.column_count.result ≡ 5 = search (rules, tests) in
    let named : IsTrue c.in_ok-has_key.field-0 = search (rules, tests) in
    row_unread c.args.row.now all.number all.code all.version all.key.now all.text.now c.in-Some.kind c.in-Some-2.content (sym c.column_count.ensures ∙ len)
    all.ensures.some all.ensures'.some all.ensures''.some all.ensures'''.some all.ensures''''.some c.in-Some.ensures.some (rw c.in-Some-2.is at c.in_ok-content.ensures.some) (c.in_ok-has_key.ensures.same named) c.stored.result c.stored.ensures.none
