use Rattle.std.proofs.Common.{◌∙◌, [], Ok, Err, Result, Vec, Global, refl, subst, sym, inl, inr}
use Rattle.std.specs.FinMap.{keys}
use Rattle.journal_core.specs.Calls.{Writes}
use Rattle.journal_core.specs.Entries.{EntryMap, with_rows}
use Rattle.connector_core.specs.declared.accepting.Verdict.{Verdict}
use Rattle.connector_core.specs.Changing.{CountsChange, entries_all, taking_all}
use Rattle.connector_core.specs.Maps.{BookMap, book_of}
use Rattle.connector_core.specs.State.{AreOf, LeavesBook, LeavesOneOf, State}
use Rattle.connector_core.specs.declared.changing.ChangeFault.{ChangeFault}
use Rattle.connector_core.proofs.Leaving.{are-of, of-none, open-leaves}
use Rattle.connector_core.proofs.Offered.{can-put-fresh, keeps-fresh, nothing, puts-fresh}
use Rattle.connector_core.proofs.Writing.{put-done, put-failed, unchanged}
use Rattle.connector_core.proofs.connectors.Connector.change_all.Goals as goal

pub invariant_of-self-then-is_empty : goal.invariant_of-self-then-is_empty
invariant_of-self-then-is_empty g c =
    let none = sym (nothing c.as_slice.result.now (sym c.is_empty.ensures ∙ c.if-is_empty.true)) ∙ c.as_slice.ensures.value in
    let held = g.J.Journal.entries c.self.inside.journal in
    let are = c.in_ok-said.ensures.ok in
    λ faithful. keeps-fresh held c.self.inside.book c.offer.new.book c.args.rows.items c.in_ok-said.field-0 are [] held none refl (c.self.invariant faithful)

pub returns-then-is_empty-clause-kept : goal.returns-then-is_empty-clause-kept
returns-then-is_empty-clause-kept g c = invariant_of-self-then-is_empty g c

pub returns-then-is_empty-clause-journal : goal.returns-then-is_empty-clause-journal
returns-then-is_empty-clause-journal g c =
    let none = sym (nothing c.as_slice.result.now (sym c.is_empty.ensures ∙ c.if-is_empty.true)) ∙ c.as_slice.ensures.value in
    let held = g.J.Journal.entries c.self.inside.journal in
    let said : Result (Vec (Result Verdict ChangeFault) Global) ChangeFault = Ok c.in_ok-said.field-0.said in
    let same = puts-fresh held c.self.inside.book c.offer.new.book c.args.rows.items c.in_ok-said.field-0 c.in_ok-said.ensures.ok [] none in
    let P : State g.row.J.Denot → Type 0 = λ s. Writes g.J.Journal CountsChange s.journal c.self.inside.journal (entries_all (g.J.Journal.entries s.journal) s.book c.args.rows.items) said in
    subst P c.self.view_is
    (unchanged g.J.Journal c.self.inside.journal _ c.in_ok-said.field-0.said (sym same))

pub put_rows-requires : goal.put_rows-requires
put_rows-requires g c =
    let held = g.J.Journal.entries c.self.inside.journal in
    record { lawful = λ faithful. can-put-fresh held c.self.inside.book c.offer.new.book c.args.rows.items c.in_ok-said.field-0 c.in_ok-said.ensures.ok c.in_ok-said.field-0.fresh.items refl (c.self.invariant faithful) }

pub invariant_of-self-in-Ok-1 : goal.invariant_of-self-in-Ok-1
invariant_of-self-in-Ok-1 g c =
    let held = g.J.Journal.entries c.self.inside.journal in
    let puts = c.in-Ok.ensures.puts in
    let are = c.in_ok-said.ensures.ok in
    λ faithful. keeps-fresh held c.self.inside.book c.offer.new.book c.args.rows.items c.in_ok-said.field-0 are c.in_ok-said.field-0.fresh.items (g.J.Journal.entries c.put_rows.new.self)
    refl (puts.done faithful) (c.self.invariant (puts.was faithful))

pub returns-in-Ok-clause-kept : goal.returns-in-Ok-clause-kept
returns-in-Ok-clause-kept g c = invariant_of-self-in-Ok-1 g c

pub returns-in-Ok-clause-journal : goal.returns-in-Ok-clause-journal
returns-in-Ok-clause-journal g c =
    let held = g.J.Journal.entries c.self.inside.journal in
    let new = c.put_rows.new.self in
    let said : Result (Vec (Result Verdict ChangeFault) Global) ChangeFault = Ok c.in_ok-said.field-0.said in
    let same = puts-fresh held c.self.inside.book c.offer.new.book c.args.rows.items c.in_ok-said.field-0 c.in_ok-said.ensures.ok c.in_ok-said.field-0.fresh.items refl in
    let P : State g.row.J.Denot → Type 0 = λ s. Writes g.J.Journal CountsChange s.journal new (entries_all (g.J.Journal.entries s.journal) s.book c.args.rows.items) said in
    let Q : EntryMap → Type 0 = λ entries. Writes g.J.Journal CountsChange c.self.inside.journal new entries said in
    subst P c.self.view_is (subst Q same
    (put-done g.J.Journal c.self.inside.journal new _ c.in_ok-said.field-0.said c.in-Ok.ensures.puts))

pub returns-in-Err-clause-journal : goal.returns-in-Err-clause-journal
returns-in-Err-clause-journal g c =
    let held = g.J.Journal.entries c.self.inside.journal in
    let new = c.put_rows.new.self in
    let T : Type 0 = Vec (Result Verdict ChangeFault) Global in
    let same = puts-fresh held c.self.inside.book c.offer.new.book c.args.rows.items c.in_ok-said.field-0 c.in_ok-said.ensures.ok c.in_ok-said.field-0.fresh.items refl in
    let P : State g.row.J.Denot → Type 0 = λ s. Writes {T = T} g.J.Journal CountsChange s.journal new (entries_all (g.J.Journal.entries s.journal) s.book c.args.rows.items) (Err c.from.result) in
    let Q : EntryMap → Type 0 = λ entries. Writes {T = T} g.J.Journal CountsChange c.self.inside.journal new entries (Err c.from.result) in
    let R : ChangeFault → Type 0 = λ fault. Writes {T = T} g.J.Journal CountsChange c.self.inside.journal new (with_rows held c.in_ok-said.field-0.fresh.items) (Err fault) in
    subst P c.self.view_is (subst Q same (subst R (sym c.from.ensures)
    (put-failed g.J.Journal c.self.inside.journal new _ c.in-Err.fault c.in-Err.ensures.puts)))

pub returns-then-is_empty-clause-leaves : goal.returns-then-is_empty-clause-leaves
returns-then-is_empty-clause-leaves g c = λ honest was.
    let none = sym (nothing c.as_slice.result.now (sym c.is_empty.ensures ∙ c.if-is_empty.true)) ∙ c.as_slice.ensures.value in
    let are = c.in_ok-said.ensures.ok in
    let W : State g.row.J.Denot → Type 0 = λ s. LeavesBook g.J.Journal s in
    let before = subst W (sym c.self.view_is) was in
    record { done = λ found holds. of-none found c.self.inside.book c.offer.new.book c.args.rows.items are.taken (sym (none ∙ are.fresh)) (before found holds); failed = tt }

pub returns-in-Ok-clause-leaves : goal.returns-in-Ok-clause-leaves
returns-in-Ok-clause-leaves g c = λ honest was.
    record {
      done = open-leaves g.J.Journal (record { journal = c.put_rows.new.self; book = c.offer.new.book }) (g.met.J.Journal.settled c.put_rows.new.self) (returns-in-Ok-clause-kept g c) (c.in-Ok.ensures.open honest);
      failed = tt;
    }

pub returns-in-Err-clause-leaves : goal.returns-in-Err-clause-leaves
returns-in-Err-clause-leaves g c = λ honest was.
    let h = g.J.Journal in
    let held = h.entries c.self.inside.journal in
    let book = c.self.inside.book in
    let put = c.in_ok-said.field-0.fresh.items in
    let are = c.in_ok-said.ensures.ok in
    let W : State g.row.J.Denot → Type 0 = λ s. LeavesBook h s in
    let before = subst W (sym c.self.view_is) was in
    let P : State g.row.J.Denot → Type 0 = λ s. LeavesOneOf h c.put_rows.new.self (book_of s.book) (book_of (taking_all s.book c.args.rows.items)) (keys s.book) (keys (taking_all s.book c.args.rows.items)) in
    let left : LeavesOneOf h c.put_rows.new.self (book_of book) (book_of (taking_all book c.args.rows.items)) (keys book) (keys (taking_all book c.args.rows.items)) = λ found holds.
    elim (c.in-Err.ensures.puts.stop honest found holds) [
      | inl old ↦ inl (before found old)
      | inr new ↦
          let B : BookMap → Type 0 = λ b. AreOf found (book_of b) (keys b) in
          let kept = keeps-fresh held book c.offer.new.book c.args.rows.items c.in_ok-said.field-0 are put found refl new.1 (c.self.invariant new.0) in
          inr (subst B are.taken (are-of found c.offer.new.book kept))
    ] in
    record { done = tt; failed = subst P c.self.view_is left }
