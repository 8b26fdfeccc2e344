use Rattle.std.proofs.Common.{◌≡◌, false, inl, inr, subst, rules, tests}
use Rattle.std.specs.Prelude.{MatchOption}
use Rattle.std.specs.Ordering.{is_lt}
use Rattle.scim_key.specs.Records.{name_cmp}
use Rattle.scim_key.specs.declared.records.RecordName.{RecordName}
use Rattle.journal_store.specs.Connections.{IsNotNext, ShowsNone}
use Rattle.journal_store.proofs.Refusing.{cause_of}
use Rattle.journal_store.proofs.tables.next_entry.Goals as goal

pub returns-in_err-entry-clause-none : goal.returns-in_err-entry-clause-none
returns-in_err-entry-clause-none c =
    cause_of (ShowsNone c.args.kind c.args.row.now) (IsNotNext c.args.kind c.args.previous.now c.args.row.now) (λ none. inl none) c.from_residual.result c.in_err-entry.field-0.0 c.from_residual.ensures.1 c.in_err-entry.ensures.none

pub returns-else-comes_after-clause-none : goal.returns-else-comes_after-clause-none
returns-else-comes_after-clause-none c =
    let none : c.comes_after.result ≡ false = search (rules, tests) in
    inr (c.in_ok-entry.entry, c.in_ok-entry.ensures.some, subst (λ (n : RecordName). MatchOption c.args.previous.now ⊥ (λ p. is_lt (name_cmp p n) ≡ false)) c.in_ok-name.ensures (c.comes_after.ensures.not none))
