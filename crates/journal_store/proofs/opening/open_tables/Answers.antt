use Rattle.std.proofs.Common.{◌≡◌, false, refl, subst, sym, ◌∙◌, inl, inr, IsTrue, rules, tests}
use Rattle.std.specs.FinMap.{empty}
use Rattle.sqlite.specs.Held.{state}
use Rattle.journal_core.specs.Entries.{EntryMap}
use Rattle.journal_store.specs.Opening.{IsCarriedBy, IsDamaged, IsFirst, IsFirstSpoilt, IsJournal, IsNewer, IsSecond, IsSecondSpoilt, IsStore}
use Rattle.journal_store.specs.Older.Formats.{first_format, second_format}
use Rattle.sql_tables.proofs.Results.{on_both, on_ok, if_err}
use Rattle.sql_tables.specs.Faults.{HasFailed}
use Rattle.journal_store.proofs.Checking.{foreign_cause, is_for, no_damage}
use Rattle.journal_store.proofs.Opened.{journal_cause, stop_stands}
use Rattle.journal_store.proofs.Reopening.{store_on}
use Rattle.journal_store.specs.Opening.{OpeningFails}
use Rattle.journal_store.proofs.Checking.{opens_by, opens_so}
use Rattle.journal_store.proofs.opening.open_tables.Goals as goal

pub returns-then-is_journal-clause-stands : goal.returns-then-is_journal-clause-stands
returns-then-is_journal-clause-stands g c clean =
    let old = state g.S.Store c.args.conn.now in
    let new = state g.S.Store c.check_tables.new.conn in
    on_both c.check_tables.result
    (λ (found : (entries : EntryMap) × IsStore old entries) (still : IsTrue new.is_open). (found.0, record { stands = inl found.1; store = store_on old new found.0 c.check_tables.ensures.checks.looks found.1 clean still }))
    (c.check_tables.ensures.store clean) (c.check_tables.ensures.checks.is_open clean)

pub returns-in-Ok-clause-stands : goal.returns-in-Ok-clause-stands
returns-in-Ok-clause-stands g c clean = let it = c.in-Ok.ensures.made clean in (empty, record { stands = inr (inr (it.1, refl)); store = it.2 })

pub returns-then-is_journal-clause-cause : goal.returns-then-is_journal-clause-cause
returns-then-is_journal-clause-cause g c clean =
    let is : IsTrue c.is_journal.result = search (rules, tests) in
    let outside : (state g.S.Store c.args.conn.now).in_transaction ≡ false = search (rules, tests) in
    journal_cause (state g.S.Store c.args.conn.now) c.check_tables.result (subst IsJournal c.schema-3.ensures.value (c.is_journal.ensures.is is)) outside (c.check_tables.ensures.cause clean)

pub returns-then-not-is_blank-clause-stands : goal.returns-then-not-is_blank-clause-stands
returns-then-not-is_blank-clause-stands g c clean = on_ok c.refuse_foreign.result (λ none. absurd none) c.refuse_foreign.ensures.refused

pub returns-then-not-is_blank-clause-cause : goal.returns-then-not-is_blank-clause-cause
returns-then-not-is_blank-clause-cause g c clean =
    let stands : c.is_blank.result ≡ false = search (rules, tests) in
    let journal : c.is_journal.result ≡ false = search (rules, tests) in
    let second : c.is_second.result ≡ false = search (rules, tests) in
    let first : c.is_first.result ≡ false = search (rules, tests) in
    foreign_cause (state g.S.Store c.args.conn.now) c.refuse_foreign.result (λ none. absurd (let clash = sym stands ∙ c.is_blank.ensures.known (c.schema-4.ensures.value ∙ none) in cc))
    (λ it. absurd (let clash = sym journal ∙ c.is_journal.ensures.known (subst IsJournal (sym c.schema-3.ensures.value) it) in cc))
    (λ it. absurd (let clash = sym second ∙ c.is_second.ensures.known (subst IsSecond (sym c.schema-2.ensures.value) it) in cc))
    (λ it. absurd (let clash = sym first ∙ c.is_first.ensures.known (subst IsFirst (sym c.schema.ensures.value) it) in cc)) (c.refuse_foreign.ensures.cause clean)

pub returns-then-not-is_blank-clause-failed : goal.returns-then-not-is_blank-clause-failed
returns-then-not-is_blank-clause-failed g c clean =
    let old = state g.S.Store c.args.conn.now in
    let new = state g.S.Store c.refuse_foreign.new.conn in
    if_err c.refuse_foreign.result (opens_by (HasFailed old new) (OpeningFails old new) (λ it. inr (inr (inr it)))) (c.refuse_foreign.ensures.checks.failed clean)

pub returns-in-Err-clause-cause : goal.returns-in-Err-clause-cause
returns-in-Err-clause-cause g c clean =
    let old = state g.S.Store c.args.conn.now in
    no_damage (IsNewer old) (IsDamaged old) c.from.result c.from.ensures.1

pub returns-then-is_journal-clause-failed : goal.returns-then-is_journal-clause-failed
returns-then-is_journal-clause-failed g c clean =
    let old = state g.S.Store c.args.conn.now in
    let new = state g.S.Store c.check_tables.new.conn in
    if_err c.check_tables.result (opens_by (HasFailed old new) (OpeningFails old new) (λ it. inr (inr (inr it)))) (c.check_tables.ensures.checks.failed clean)

pub returns-in-Err-clause-failed : goal.returns-in-Err-clause-failed
returns-in-Err-clause-failed g c clean =
    let blank : IsTrue c.is_blank.result = search (rules, tests) in
    opens_so (OpeningFails (state g.S.Store c.args.conn.now) (state g.S.Store c.make_tables.new.conn)) (inr (inl (sym c.schema-4.ensures.value ∙ c.is_blank.ensures.is blank))) c.from.result

-- ---- the tables of an older format

pub returns-then-is_first-clause-stands : goal.returns-then-is_first-clause-stands
returns-then-is_first-clause-stands g c clean =
    let old = state g.S.Store c.args.conn.now in
    let new = state g.S.Store c.open_older.new.conn in
    on_ok c.open_older.result (λ (it : (entries : EntryMap) × IsCarriedBy first_format old new entries × IsStore new entries). (it.0, record { stands = inr (inl (inr it.1)); store = it.2 })) (c.open_older.ensures.stands clean)

pub returns-then-is_first-clause-cause : goal.returns-then-is_first-clause-cause
returns-then-is_first-clause-cause g c clean =
    let old = state g.S.Store c.args.conn.now in
    if_err c.open_older.result (λ fault it. is_for {P = IsNewer old} {Q = IsNewer old} {D = IsFirstSpoilt old} {E = IsDamaged old} (λ newer. newer) (λ spoilt. inr (inr (inr spoilt))) fault it) (c.open_older.ensures.cause clean)

pub returns-then-is_first-clause-stop : goal.returns-then-is_first-clause-stop
returns-then-is_first-clause-stop g c = stop_stands (state g.S.Store c.args.conn.now) (state g.S.Store c.open_older.new.conn) (λ db it. inr it) c.open_older.ensures.stop

pub returns-then-is_second-clause-stands : goal.returns-then-is_second-clause-stands
returns-then-is_second-clause-stands g c clean =
    let old = state g.S.Store c.args.conn.now in
    let new = state g.S.Store c.open_older-then-is_second.new.conn in
    on_ok c.open_older-then-is_second.result (λ (it : (entries : EntryMap) × IsCarriedBy second_format old new entries × IsStore new entries). (it.0, record { stands = inr (inl (inl it.1)); store = it.2 })) (c.open_older-then-is_second.ensures.stands clean)

pub returns-then-is_second-clause-cause : goal.returns-then-is_second-clause-cause
returns-then-is_second-clause-cause g c clean =
    let old = state g.S.Store c.args.conn.now in
    if_err c.open_older-then-is_second.result (λ fault it. is_for {P = IsNewer old} {Q = IsNewer old} {D = IsSecondSpoilt old} {E = IsDamaged old} (λ newer. newer) (λ spoilt. inr (inr (inl spoilt))) fault it) (c.open_older-then-is_second.ensures.cause clean)

pub returns-then-is_second-clause-stop : goal.returns-then-is_second-clause-stop
returns-then-is_second-clause-stop g c = stop_stands (state g.S.Store c.args.conn.now) (state g.S.Store c.open_older-then-is_second.new.conn) (λ db it. inl it) c.open_older-then-is_second.ensures.stop
