use Rattle.std.proofs.Common.{◌≡◌, Result, Err, ap, subst, sym, rules}
use Rattle.journal_core.specs.Calls.{Writes}
use Rattle.connector_core.specs.Keeps.{learn_at}
use Rattle.connector_core.specs.Maps.{BookMap, GivesUnless, book_of}
use Rattle.connector_core.specs.Noting.{CountsLearn, IsNoted, IsNotNoted, MayStandFor, entries_with, learnt_of, note_at, noted_entries}
use Rattle.connector_core.specs.State.{IsKept, State}
use Rattle.connector_core.specs.declared.learning.LearnFault.{LearnFault}
use Rattle.connector_core.specs.declared.learning.Learnt.{Learnt}
use Rattle.connector_core.proofs.Leaving.{of-news, written}
use Rattle.connector_core.proofs.Lessons.{book-after, entries-after, gives-fault, gives-learnt, names-after, quiet-after}
use Rattle.connector_core.proofs.Writing.{refused-by, writes-these}
use Rattle.connector_core.proofs.connectors.Connector.learn.Goals as goal

pub returns-in_err-name-clause-learnt : goal.returns-in_err-name-clause-learnt
returns-in_err-name-clause-learnt g c =
    let R : Result Learnt LearnFault → Type 0 = λ r. GivesUnless (MayStandFor (learn_at c.args.keeps (book_of c.args.self.now.book) c.args.request.now c.args.answer.now)) r (learnt_of (learn_at c.args.keeps (book_of c.args.self.now.book) c.args.request.now c.args.answer.now)) in
    let N : BookMap → Type 0 = λ b. IsNotNoted c.args.keeps b c.args.request.now c.args.answer.now c.in_err-name.field-0.0 in
    let none = subst N (ap (λ s. s.book) c.self.view_is) c.in_err-name.ensures.fault in
    let made : c.from_residual.result ≡ Err c.in_err-name.field-0.0 = search rules in
    subst R (sym made) (gives-fault c.args.keeps c.args.self.now.book c.args.request.now c.args.answer.now c.in_err-name.field-0.0 none)

pub returns-in_err-name-clause-journal : goal.returns-in_err-name-clause-journal
returns-in_err-name-clause-journal g c =
    let journal = c.args.self.now.journal in
    let later = noted_entries (g.J.Journal.entries journal) (note_at c.args.keeps (book_of c.args.self.now.book) c.args.request.now c.args.answer.now) in
    let R : Result Learnt LearnFault → Type 0 = λ r. Writes g.J.Journal CountsLearn journal journal later r in
    let made : c.from_residual.result ≡ Err c.in_err-name.field-0.0 = search rules in
    subst R (sym made) (refused-by g.J.Journal CountsLearn journal later c.in_err-name.field-0.0 (c.in_err-name.ensures.counted (g.J.Journal.faults journal)))

pub returns-clause-learnt : goal.returns-clause-learnt
returns-clause-learnt g c =
    let N : BookMap → Type 0 = λ b. IsNoted c.args.keeps b c.args.request.now c.args.answer.now c.in_ok-name.name c.in_ok-name.news in
    let noted = subst N (ap (λ s. s.book) c.self.view_is) c.in_ok-name.ensures.noted in
    gives-learnt c.args.keeps c.args.self.now.book c.args.request.now c.args.answer.now c.in_ok-name.name c.in_ok-name.news noted c.take_news.result c.take_news.ensures.learnt c.take_news.ensures.fault

pub returns-clause-ok : goal.returns-clause-ok
returns-clause-ok g c =
    let N : BookMap → Type 0 = λ b. IsNoted c.args.keeps b c.args.request.now c.args.answer.now c.in_ok-name.name c.in_ok-name.news in
    let noted = subst N (ap (λ s. s.book) c.self.view_is) c.in_ok-name.ensures.noted in
    book-after c.args.keeps c.args.self.now.book c.args.request.now c.args.answer.now c.in_ok-name.name c.in_ok-name.news noted c.take_news.new.self.book c.take_news.result c.take_news.ensures.ok

pub returns-clause-names : goal.returns-clause-names
returns-clause-names g c =
    let N : BookMap → Type 0 = λ b. IsNoted c.args.keeps b c.args.request.now c.args.answer.now c.in_ok-name.name c.in_ok-name.news in
    let noted = subst N (ap (λ s. s.book) c.self.view_is) c.in_ok-name.ensures.noted in
    names-after c.args.keeps c.args.self.now.book c.args.request.now c.args.answer.now c.in_ok-name.name c.in_ok-name.news noted c.take_news.new.self.book c.take_news.result c.take_news.ensures.ok c.take_news.ensures.err

pub returns-clause-journal : goal.returns-clause-journal
returns-clause-journal g c =
    let N : BookMap → Type 0 = λ b. IsNoted c.args.keeps b c.args.request.now c.args.answer.now c.in_ok-name.name c.in_ok-name.news in
    let noted = subst N (ap (λ s. s.book) c.self.view_is) c.in_ok-name.ensures.noted in
    let K : State g.row.J.Denot → Type 0 = λ s. g.J.Journal.is_faithful s.journal → IsKept (g.J.Journal.entries s.journal) s.book in
    let kept = subst K c.self.view_is c.self.invariant in
    writes-these g.J.Journal CountsLearn
    c.args.self.now.journal c.take_news.new.self.journal
    (entries_with (g.J.Journal.entries c.args.self.now.journal) c.in_ok-name.name c.in_ok-name.news)
    (noted_entries (g.J.Journal.entries c.args.self.now.journal) (note_at c.args.keeps (book_of c.args.self.now.book) c.args.request.now c.args.answer.now))
    c.take_news.result
    (λ faithful. entries-after c.args.keeps c.args.self.now.book c.args.request.now c.args.answer.now c.in_ok-name.name c.in_ok-name.news noted (g.J.Journal.entries c.args.self.now.journal) (kept faithful))
    c.take_news.ensures.journal

pub returns-clause-quiet : goal.returns-clause-quiet
returns-clause-quiet g c =
    let N : BookMap → Type 0 = λ b. IsNoted c.args.keeps b c.args.request.now c.args.answer.now c.in_ok-name.name c.in_ok-name.news in
    let noted = subst N (ap (λ s. s.book) c.self.view_is) c.in_ok-name.ensures.noted in
    quiet-after c.args.keeps c.args.self.now.book c.args.request.now c.args.answer.now c.in_ok-name.name c.in_ok-name.news noted c.take_news.new.self.book c.take_news.result
    (g.J.Journal.writes c.args.self.now.journal) (g.J.Journal.writes c.take_news.new.self.journal) c.take_news.ensures.quiet c.take_news.ensures.journal.unwritten c.take_news.ensures.ok

pub returns-clause-leaves : goal.returns-clause-leaves
returns-clause-leaves g c = λ honest was.
    let h = g.J.Journal in
    let book = c.args.self.now.book in
    let entries = h.entries c.args.self.now.journal in
    let N : BookMap → Type 0 = λ b. IsNoted c.args.keeps b c.args.request.now c.args.answer.now c.in_ok-name.name c.in_ok-name.news in
    let noted = subst N (ap (λ s. s.book) c.self.view_is) c.in_ok-name.ensures.noted in
    let K : State g.row.J.Denot → Type 0 = λ s. h.is_faithful s.journal → IsKept (h.entries s.journal) s.book in
    let kept = subst K c.self.view_is c.self.invariant in
    let taken = c.take_news.ensures in
    written h c.args.self.now c.take_news.new.self (entries_with entries c.in_ok-name.name c.in_ok-name.news) _ _ c.take_news.result (taken.leaves honest was)
    (λ faithful. of-news c.args.keeps book c.args.request.now c.args.answer.now c.in_ok-name.name c.in_ok-name.news noted entries (kept faithful)) (taken.journal.stop honest) was
