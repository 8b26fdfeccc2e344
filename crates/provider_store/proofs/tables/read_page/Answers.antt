use Rattle.std.proofs.Common.{◌≡◌, ◌+◌, ◌++◌, ◌∷◌, [], ◌∙◌, List, suc, length, length-append, take, drop, sym, ap, arith, rules, tests}
use Rattle.std.proofs.lemmas.List.{take_more}
use Rattle.sqlite_value.specs.Order.{Row}
use Rattle.provider_store.proofs.Paging.{broken_apart, broken_unread, next_row, parted}
use Rattle.provider_store.proofs.tables.read_page.Goals as goal

pub returns-in_default-clause-none : goal.returns-in_default-clause-none
returns-in_default-clause-none c =
    let rows : List Row = c.args.rows.now in
    let i = c.loop-row.row-index in
    let more = take_more rows i c.row-item.result c.loop-row-test.true ∙ ap (λ (r : Row). take i rows ++ r ∷ []) (sym c.row-item.is) in
    broken_unread (suc c.args.after) (take i rows) c.loop-row.page.items c.row-item.result (drop (i + 1) rows) rows (parted rows i c.row-item.result more) c.loop-row.invariant.0 (rw c.in_default.is at c.in_ok-stored.ensures.none)

pub returns-then-from-clause-none : goal.returns-then-from-clause-none
returns-then-from-clause-none c =
    let rows : List Row = c.args.rows.now in
    let i = c.loop-row.row-index in
    let more = take_more rows i c.row-item.result c.loop-row-test.true ∙ ap (λ (r : Row). take i rows ++ r ∷ []) (sym c.row-item.is) in
    broken_apart (suc c.args.after) (take i rows) c.loop-row.page.items c.row-item.result (drop (i + 1) rows) rows (parted rows i c.row-item.result more) c.loop-row.invariant.0
    c.in-Some.stored (rw c.in-Some.is at c.in_ok-stored.ensures.some)
    (λ is. let next : c.in-Some.stored.number ≡ c.loop-row.last + 1 = omega (arith, is, c.loop-row.invariant.1) in search (rules, tests))

pub loop-row-preserved : goal.loop-row-preserved
loop-row-preserved c =
    let rows : List Row = c.args.rows.now in
    let i = c.loop-row.row-index in
    let so_far = c.loop-row.invariant in
    let more = take_more rows i c.row-item.result c.loop-row-test.true ∙ ap (λ (r : Row). take i rows ++ r ∷ []) (sym c.row-item.is) in
    let shows = rw c.in-Some.is at c.in_ok-stored.ensures.some in
    let items = c.in_ok-push.ensures.items in
    let number : c.in-Some.stored.number ≡ suc c.args.after + length c.loop-row.page.items =
    let next : c.in-Some.stored.number ≡ c.loop-row.last + 1 = search (rules, tests) in omega (arith, next, so_far.1) in (
      rw (more, items) (next_row (suc c.args.after) (take i rows) c.loop-row.page.items c.row-item.result c.in-Some.stored so_far.0 shows number),
      c.number-last.ensures.value ∙ omega (arith, number, ap length items, length-append c.loop-row.page.items (c.in-Some.stored ∷ [])),
    )
