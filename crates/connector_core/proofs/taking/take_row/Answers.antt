use Rattle.std.proofs.Common.{◌≡◌, ◌∙◌, None, IsSome, refl, rules}
use Rattle.std.specs.FinMap.{get}
use Rattle.connector_core.proofs.Keeping.{first-book, first-undone, next-book}
use Rattle.connector_core.proofs.Offered.{next-back}
use Rattle.connector_core.proofs.taking.take_row.Goals as goal

pub returns-then-is_some-clause-ok : goal.returns-then-is_some-clause-ok
returns-then-is_some-clause-ok c =
    let there : IsSome (get c.args.book.now c.args.name) = search rules in
    c.want-last.ensures.changed ∙ next-book c.args.book.now c.args.name c.args.row c.requires there

pub returns-then-is_some-clause-back : goal.returns-then-is_some-clause-back
returns-then-is_some-clause-back c =
    let there : IsSome (get c.args.book.now c.args.name) = search rules in
    next-back c.args.book.now _ c.args.name c.args.row _ there c.want-last.ensures.last c.want-last.ensures.changed

pub returns-clause-ok : goal.returns-clause-ok
returns-clause-ok c =
    let free : get c.args.book.now c.args.name ≡ None = search rules in
    let copied : c.in_ok-clone.field-0 ≡ c.args.name = search rules in
    first-book c.args.book.now _ c.args.name _ c.args.row _ c.requires free copied c.first_known.ensures c.in_ok-put.ensures.ok

pub returns-clause-back : goal.returns-clause-back
returns-clause-back c =
    let free : get c.args.book.now c.args.name ≡ None = search rules in
    let copied : c.in_ok-clone.field-0 ≡ c.args.name = search rules in
    first-undone c.args.book.now _ _ c.args.name _ _ free copied c.in_ok-put.ensures.ok refl
