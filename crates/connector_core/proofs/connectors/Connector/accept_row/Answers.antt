use Rattle.std.proofs.Common.{◌≡◌, ◌∙◌, Ok, ap, subst, sym, rules}
use Rattle.std.specs.FinMap.{get, insert, keys}
use Rattle.source_csv.specs.Records.{row_name}
use Rattle.source_csv.specs.declared.rows.Row.{Row}
use Rattle.journal_core.specs.Entries.{EntryMap}
use Rattle.connector_core.specs.declared.accepting.Verdict.TheVariants as verdicts
use Rattle.connector_core.specs.Book.{wanting}
use Rattle.connector_core.specs.Changing.{judging}
use Rattle.connector_core.specs.Maps.{BookMap, book_of}
use Rattle.connector_core.specs.State.{IsKept}
use Rattle.connector_core.proofs.Keeping.{kept-row}
use Rattle.connector_core.proofs.Verdicts.{can-put, new-row, not-below}
use Rattle.connector_core.proofs.connectors.Connector.accept_row.Goals as goal

pub put_row-requires : goal.put_row-requires
put_row-requires g c =
    let J : BookMap → Type 0 = λ book. judging (book_of book) (keys book) c.args.row.now ≡ Ok verdicts.New in
    let book = ap (λ s. s.book) c.self.view_is in
    let new = new-row c.self.inside.book c.args.row.now (subst J (sym book) c.requires.new) in
    record { lawful = λ faithful. can-put (g.J.Journal.entries c.self.inside.journal) c.self.inside.book c.args.row.now (c.self.invariant faithful) new }

pub invariant_of-self-in-Ok : goal.invariant_of-self-in-Ok
invariant_of-self-in-Ok g c =
    let J : BookMap → Type 0 = λ book. judging (book_of book) (keys book) c.args.row.now ≡ Ok verdicts.New in
    let book = ap (λ s. s.book) c.self.view_is in
    let new = new-row c.self.inside.book c.args.row.now (subst J (sym book) c.requires.new) in
    let copy : c.in_ok-clone.field-0 ≡ c.args.row.now = search rules in
    let R : Row → Type 0 = λ r. c.take_row.new.book ≡ insert c.self.inside.book (row_name r) (wanting (get c.self.inside.book (row_name r)) r) in
    let made = subst R copy c.in_ok-note.ensures.ok in
    let puts = c.in-Ok.ensures.puts in
    let held = g.J.Journal.entries c.self.inside.journal in
    let P : BookMap → Type 0 = λ b. IsKept (g.J.Journal.entries c.put_row.new.self) b in
    let Q : EntryMap → Type 0 = λ entries. IsKept entries (insert c.self.inside.book (row_name c.args.row.now) (wanting (get c.self.inside.book (row_name c.args.row.now)) c.args.row.now)) in
    λ faithful.
    let was = c.self.invariant (puts.was faithful) in
    subst P (sym made) (subst Q (sym (puts.done faithful)) (kept-row held c.self.inside.book c.args.row.now was (not-below held c.self.inside.book c.args.row.now was new)))

pub returns-in-Ok-clause-kept : goal.returns-in-Ok-clause-kept
returns-in-Ok-clause-kept g c = invariant_of-self-in-Ok g c

pub returns-in-Ok-clause-ok : goal.returns-in-Ok-clause-ok
returns-in-Ok-clause-ok g c =
    let book = ap (λ s. s.book) c.self.view_is in
    let copy : c.in_ok-clone.field-0 ≡ c.args.row.now = search rules in
    let R : Row → Type 0 = λ r. c.take_row.new.book ≡ insert c.self.inside.book (row_name r) (wanting (get c.self.inside.book (row_name r)) r) in
    subst R copy c.in_ok-note.ensures.ok ∙ ap (λ b. insert b (row_name c.args.row.now) (wanting (get b (row_name c.args.row.now)) c.args.row.now)) book

pub invariant_of-self-in-Err : goal.invariant_of-self-in-Err
invariant_of-self-in-Err g c =
    let out = c.take_back.ensures ∙ c.in_ok-note.ensures.back in
    let puts = c.in-Err.ensures.puts in
    let P : BookMap → Type 0 = λ b. IsKept (g.J.Journal.entries c.put_row.new.self) b in
    let Q : EntryMap → Type 0 = λ entries. IsKept entries c.self.inside.book in
    λ faithful. subst P (sym out) (subst Q (sym (puts.same faithful)) (c.self.invariant (puts.was faithful)))

pub returns-in-Err-clause-kept : goal.returns-in-Err-clause-kept
returns-in-Err-clause-kept g c = invariant_of-self-in-Err g c

pub returns-in-Err-clause-err : goal.returns-in-Err-clause-err
returns-in-Err-clause-err g c = c.take_back.ensures ∙ c.in_ok-note.ensures.back ∙ ap (λ s. s.book) c.self.view_is
