use Rattle.std.proofs.Common.{◌≡◌, false, IsTrue, inl, inr, sym, ◌∙◌, rules, tests}
use Rattle.sqlite.specs.Held.{state}
use Rattle.provider_store.proofs.Checking.{opening_cause}
use Rattle.provider_store.proofs.Refusing.{checked_sound}
use Rattle.provider_store.specs.Opening.{OpeningFails}
use Rattle.provider_store.proofs.Checking.{opens_by, opens_so}
use Rattle.sql_tables.specs.Faults.{HasFailed}
use Rattle.sql_tables.proofs.Results.{if_err}
use Rattle.provider_store.proofs.opening.open_tables.Goals as goal

pub returns-then-not-is_blank-clause-sound : goal.returns-then-not-is_blank-clause-sound
returns-then-not-is_blank-clause-sound g c clean = checked_sound (state g.S.Store c.args.conn.now) c.check_tables.result (c.check_tables.ensures.store clean)

pub returns-then-not-is_blank-clause-cause : goal.returns-then-not-is_blank-clause-cause
returns-then-not-is_blank-clause-cause g c clean =
    let stands : c.is_blank.result ≡ false = search (rules, tests) in
    let outside : (state g.S.Store c.args.conn.now).in_transaction ≡ false = search (rules, tests) in
    opening_cause (state g.S.Store c.args.conn.now) c.check_tables.result (λ none. absurd (let clash = sym stands ∙ c.is_blank.ensures.known (c.schema.ensures.value ∙ none) in cc)) outside (c.check_tables.ensures.cause clean)

pub returns-then-not-is_blank-clause-failed : goal.returns-then-not-is_blank-clause-failed
returns-then-not-is_blank-clause-failed g c clean =
    let old = state g.S.Store c.args.conn.now in
    let new = state g.S.Store c.check_tables.new.conn in
    if_err c.check_tables.result (opens_by (HasFailed old new) (OpeningFails old new) (λ it. inr (inr it))) (c.check_tables.ensures.checks.failed clean)

pub returns-in-Err-clause-failed : goal.returns-in-Err-clause-failed
returns-in-Err-clause-failed g c clean =
    let blank : IsTrue c.is_blank.result = search (rules, tests) in
    opens_so (OpeningFails (state g.S.Store c.args.conn.now) (state g.S.Store c.make_tables.new.conn)) (inr (inl (sym c.schema.ensures.value ∙ c.is_blank.ensures.is blank))) c.from.result
