use Rattle.std.proofs.Common.{◌≡◌, ap, subst, sym}
use Rattle.std.specs.FinMap.{get, keys}
use Rattle.journal_core.specs.Entries.{EntryMap}
use Rattle.connector_core.specs.Book.{learning}
use Rattle.connector_core.specs.Maps.{BookMap, book_of, changed}
use Rattle.connector_core.specs.Noting.{IsNewsAt, IsNewsOf, after_news}
use Rattle.connector_core.specs.State.{AreOf, IsKept, LeavesBook, State}
use Rattle.connector_core.specs.declared.fitting.News.{News}
use Rattle.connector_core.proofs.Leaving.{of-seen, open-leaves}
use Rattle.connector_core.proofs.Lessons.{kept-learnt, kept-seen, news-at, same-book}
use Rattle.connector_core.proofs.connectors.Connector.take_news.Goals as goal

pub invariant_of-self-in-Lasting : goal.invariant_of-self-in-Lasting
invariant_of-self-in-Lasting g c =
    let book = c.self.inside.book in
    let N : BookMap → Type 0 = λ b. IsNewsAt (get b c.args.name.now) c.args.news in
    let here = subst N (sym (ap (λ s. s.book) c.self.view_is)) c.requires in
    let found = news-at (get book c.args.name.now) c.args.news here in
    let keeps = subst (IsNewsOf found.0) c.in-Lasting.is found.2 in
    let puts = c.in_ok-put_learnt-in-Lasting.ensures.puts in
    let P : BookMap → Type 0 = λ b. IsKept (g.J.Journal.entries c.put_learnt.new.self) b in
    let Q : EntryMap → Type 0 = λ es. IsKept es (changed (learning c.in-Lasting.confirmed c.in-Lasting.id c.in-Lasting.seen) book c.args.name.now) in
    λ faithful.
    let was = c.self.invariant (puts.was faithful) in
    subst P (sym c.learn.ensures) (subst Q (sym (puts.done faithful))
    (kept-learnt (g.J.Journal.entries c.self.inside.journal) book c.args.name.now found.0 was found.1 c.in-Lasting.confirmed c.in-Lasting.id c.in-Lasting.seen keeps))

pub invariant_of-self-in-Passing : goal.invariant_of-self-in-Passing
invariant_of-self-in-Passing g c =
    let book = c.self.inside.book in
    let N : BookMap → Type 0 = λ b. IsNewsAt (get b c.args.name.now) c.args.news in
    let here = subst N (sym (ap (λ s. s.book) c.self.view_is)) c.requires in
    let found = news-at (get book c.args.name.now) c.args.news here in
    let P : BookMap → Type 0 = λ b. IsKept (g.J.Journal.entries c.self.inside.journal) b in
    λ faithful. subst P (sym c.see.ensures)
    (kept-seen (g.J.Journal.entries c.self.inside.journal) book c.args.name.now found.0 (c.self.invariant faithful) found.1 c.in-Passing.seen c.in-Passing.is_doubted)

pub returns-in_ok-put_learnt-in-Lasting-clause-kept : goal.returns-in_ok-put_learnt-in-Lasting-clause-kept
returns-in_ok-put_learnt-in-Lasting-clause-kept g c = invariant_of-self-in-Lasting g c

pub returns-in-Passing-clause-kept : goal.returns-in-Passing-clause-kept
returns-in-Passing-clause-kept g c = invariant_of-self-in-Passing g c

pub returns-in-Nothing-clause-ok : goal.returns-in-Nothing-clause-ok
returns-in-Nothing-clause-ok g c =
    let found = news-at (get c.args.self.now.book c.args.name.now) c.args.news c.requires in
    let P : News → Type 0 = λ n. c.args.self.now.book ≡ changed (after_news n) c.args.self.now.book c.args.name.now in
    subst P (sym c.in-Nothing.is) (same-book c.args.self.now.book c.args.name.now found.0 found.1)

pub returns-in_ok-put_learnt-in-Lasting-clause-leaves : goal.returns-in_ok-put_learnt-in-Lasting-clause-leaves
returns-in_ok-put_learnt-in-Lasting-clause-leaves g c = λ honest was.
    open-leaves g.J.Journal (record { journal = c.put_learnt.new.self; book = c.learn.new.self }) (g.met.J.Journal.settled c.put_learnt.new.self)
    (returns-in_ok-put_learnt-in-Lasting-clause-kept g c) (c.in_ok-put_learnt-in-Lasting.ensures.open honest)

pub returns-in-Passing-clause-leaves : goal.returns-in-Passing-clause-leaves
returns-in-Passing-clause-leaves g c = λ honest was found holds.
    let book = c.self.inside.book in
    let N : BookMap → Type 0 = λ b. IsNewsAt (get b c.args.name.now) c.args.news in
    let here = subst N (sym (ap (λ s. s.book) c.self.view_is)) c.requires in
    let known = news-at (get book c.args.name.now) c.args.news here in
    let W : State g.row.J.Denot → Type 0 = λ s. LeavesBook g.J.Journal s in
    let before = subst W (sym c.self.view_is) was in
    let B : BookMap → Type 0 = λ b. AreOf found (book_of b) (keys b) in
    subst B (sym c.see.ensures) (of-seen found book c.args.name.now known.0 c.in-Passing.seen c.in-Passing.is_doubted known.1 (before found holds))
