use Rattle.std.proofs.Common.{subst, sym}
use Rattle.journal_core.specs.Entries.{EntryMap}
use Rattle.connector_core.specs.Maps.{BookMap}
use Rattle.connector_core.specs.State.{IsKept, IsOpened, opened_book}
use Rattle.connector_core.proofs.Keeping.{opens, opens-kept}
use Rattle.connector_core.proofs.Leaving.{open-leaves}
use Rattle.connector_core.proofs.connectors.Connector.open.Goals as goal

pub invariant_of-result : goal.invariant_of-result
invariant_of-result g c =
    let P : BookMap → Type 0 = λ book. IsKept (g.J.Journal.entries c.load.new.self) book in
    let Q : EntryMap → Type 0 = λ entries. IsKept entries (opened_book c.in-Ok.list.items) in
    λ faithful.
    let kept = opens-kept (g.J.Journal.entries c.args.journal) c.in-Ok.list.items (c.in-Ok.ensures.ok faithful) in
    subst P (sym c.in-Ok-read_book.ensures) (subst Q (sym (c.in-Ok.ensures.reads.same faithful)) kept)

pub returns-in-Ok-read_book-clause-opened : goal.returns-in-Ok-read_book-clause-opened
returns-in-Ok-read_book-clause-opened g c = λ faithful.
    let P : BookMap → Type 0 = λ book. IsOpened (g.J.Journal.entries c.args.journal) book in
    subst P (sym c.in-Ok-read_book.ensures) (opens (g.J.Journal.entries c.args.journal) c.in-Ok.list.items (c.in-Ok.ensures.ok faithful))

pub returns-in-Ok-read_book-clause-kept : goal.returns-in-Ok-read_book-clause-kept
returns-in-Ok-read_book-clause-kept g c = invariant_of-result g c

pub returns-in-Ok-read_book-clause-leaves : goal.returns-in-Ok-read_book-clause-leaves
returns-in-Ok-read_book-clause-leaves g c = λ honest.
    open-leaves g.J.Journal (record { journal = c.load.new.self; book = c.in-Ok-read_book.book }) (g.met.J.Journal.settled c.load.new.self)
    (returns-in-Ok-read_book-clause-kept g c) (c.in-Ok.ensures.reads.opened honest)
