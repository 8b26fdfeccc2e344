use Rattle.std.proofs.Common.{◌≡◌, ◌∙◌, true, None, ap, subst, sym, rules}
use Rattle.std.specs.FinMap.{get, keys}
use Rattle.connector_core.specs.Book.{doubting}
use Rattle.connector_core.specs.Maps.{BookMap, book_of, changed}
use Rattle.connector_core.specs.State.{AreOf, IsKept, LeavesBook, State}
use Rattle.connector_core.specs.declared.knowledge.Seen.TheVariants.{Unknown}
use Rattle.connector_core.proofs.Leaving.{of-seen}
use Rattle.connector_core.proofs.Lessons.{book-doubted, in-book, kept-seen, none-doubted, same-names}
use Rattle.connector_core.proofs.connectors.Connector.doubt.Goals as goal

pub invariant_of-self : goal.invariant_of-self
invariant_of-self g c =
    let book = c.self.inside.book in
    let known = in-book book c.args.name.now (search rules) in
    let P : BookMap → Type 0 = λ b. IsKept (g.J.Journal.entries c.self.inside.journal) b in
    λ faithful. subst P (sym c.see.ensures)
    (kept-seen (g.J.Journal.entries c.self.inside.journal) book c.args.name.now known.0 (c.self.invariant faithful) known.1 Unknown true)

pub returns-then-is_some-clause-kept : goal.returns-then-is_some-clause-kept
returns-then-is_some-clause-kept g c = invariant_of-self g c

pub returns-then-is_some-clause-leaves : goal.returns-then-is_some-clause-leaves
returns-then-is_some-clause-leaves g c = λ was found holds.
    let book = c.self.inside.book in
    let known = in-book book c.args.name.now (search rules) in
    let W : State g.row.J.Denot → Type 0 = λ s. LeavesBook g.J.Journal s in
    let before = subst W (sym c.self.view_is) was in
    let B : BookMap → Type 0 = λ b. AreOf found (book_of b) (keys b) in
    subst B (sym c.see.ensures) (of-seen found book c.args.name.now known.0 Unknown true known.1 (before found holds))

pub returns-then-is_some-clause-doubted : goal.returns-then-is_some-clause-doubted
returns-then-is_some-clause-doubted g c =
    let book = c.args.self.now.book in
    let known = in-book book c.args.name.now (search rules) in
    let made : c.see.new.self ≡ changed doubting book c.args.name.now = search rules in
    ap book_of made ∙ book-doubted book c.args.name.now known.0 known.1

pub returns-then-is_some-clause-names : goal.returns-then-is_some-clause-names
returns-then-is_some-clause-names g c =
    let book = c.args.self.now.book in
    let known = in-book book c.args.name.now (search rules) in
    let made : c.see.new.self ≡ changed doubting book c.args.name.now = search rules in
    ap keys made ∙ same-names doubting book c.args.name.now known.0 known.1

pub returns-else-is_some-clause-doubted : goal.returns-else-is_some-clause-doubted
returns-else-is_some-clause-doubted g c =
    let book = c.args.self.now.book in
    let none : get book c.args.name.now ≡ None = search rules in
    none-doubted book c.args.name.now none
