use Rattle.std.proofs.Common.{◌≡◌, Ok, Err, ap, subst, sym, inl, inr}
use Rattle.std.specs.FinMap.{keys}
use Rattle.journal_core.specs.Entries.{with_row}
use Rattle.connector_core.specs.declared.accepting.Verdict.TheVariants as verdicts
use Rattle.connector_core.specs.Changing.{IsNoVerdict, accepted_entries, accepted_map, judging}
use Rattle.connector_core.specs.Maps.{BookMap, book_of}
use Rattle.connector_core.specs.State.{IsKept, State}
use Rattle.connector_core.proofs.Leaving.{of-row, open-done, written}
use Rattle.connector_core.proofs.Writing.{unchanged}
use Rattle.connector_core.proofs.connectors.Connector.change.Goals as goal

pub returns-in-Ok-Known-clause-verdict : goal.returns-in-Ok-Known-clause-verdict
returns-in-Ok-Known-clause-verdict g c =
    let J : BookMap → Type 0 = λ book. judging (book_of book) (keys book) c.args.row ≡ Ok verdicts.Known in
    subst J (ap (λ s. s.book) c.self.view_is) (rw c.in-Ok-Known.field-0-is at c.in-Ok-Known.ensures.gives)

pub returns-in-Ok-Known-clause-ok : goal.returns-in-Ok-Known-clause-ok
returns-in-Ok-Known-clause-ok g c = ap (accepted_map c.args.self.now.book c.args.row) (sym (returns-in-Ok-Known-clause-verdict g c))

pub returns-in-Ok-Known-clause-journal : goal.returns-in-Ok-Known-clause-journal
returns-in-Ok-Known-clause-journal g c =
    unchanged g.J.Journal c.args.self.now.journal _ verdicts.Known
    (ap (accepted_entries (g.J.Journal.entries c.args.self.now.journal) c.args.row) (returns-in-Ok-Known-clause-verdict g c))

pub returns-in-Ok-Older-clause-verdict : goal.returns-in-Ok-Older-clause-verdict
returns-in-Ok-Older-clause-verdict g c =
    let J : BookMap → Type 0 = λ book. judging (book_of book) (keys book) c.args.row ≡ Ok verdicts.Older in
    subst J (ap (λ s. s.book) c.self.view_is) (rw c.in-Ok-Older.field-0-is at c.in-Ok-Older.ensures.gives)

pub returns-in-Ok-Older-clause-ok : goal.returns-in-Ok-Older-clause-ok
returns-in-Ok-Older-clause-ok g c = ap (accepted_map c.args.self.now.book c.args.row) (sym (returns-in-Ok-Older-clause-verdict g c))

pub returns-in-Ok-Older-clause-journal : goal.returns-in-Ok-Older-clause-journal
returns-in-Ok-Older-clause-journal g c =
    unchanged g.J.Journal c.args.self.now.journal _ verdicts.Older
    (ap (accepted_entries (g.J.Journal.entries c.args.self.now.journal) c.args.row) (returns-in-Ok-Older-clause-verdict g c))

pub returns-clause-verdict : goal.returns-clause-verdict
returns-clause-verdict g c =
    let J : BookMap → Type 0 = λ book. judging (book_of book) (keys book) c.args.row ≡ Err c.in-Err.fault in
    elim c.in-Err.ensures.gives [
      | inl e ↦ inl (subst IsNoVerdict (sym e) tt)
      | inr e ↦ inr (subst J (ap (λ s. s.book) c.self.view_is) e)
    ]

pub returns-in-Ok-New-clause-leaves : goal.returns-in-Ok-New-clause-leaves
returns-in-Ok-New-clause-leaves g c = λ honest was.
    let h = g.J.Journal in
    let book = c.args.self.now.book in
    let entries = h.entries c.args.self.now.journal in
    let N : BookMap → Type 0 = λ b. judging (book_of b) (keys b) c.args.row ≡ Ok verdicts.New in
    let new = subst N (ap (λ s. s.book) c.self.view_is) (rw c.in-Ok-New.field-0-is at c.in-Ok-New.ensures.gives) in
    let K : State g.row.J.Denot → Type 0 = λ s. h.is_faithful s.journal → IsKept (h.entries s.journal) s.book in
    let kept = subst K c.self.view_is c.self.invariant in
    let accepted = c.accept_row.ensures in
    written h c.args.self.now c.accept_row.new.self (with_row entries c.args.row) _ _ c.accept_row.result
    (open-done h c.accept_row.new.self c.accept_row.result (g.met.J.Journal.settled c.accept_row.new.self.journal) accepted.kept (accepted.open honest))
    (λ faithful. of-row entries book c.args.row new (kept faithful)) (accepted.journal.stop honest) was
