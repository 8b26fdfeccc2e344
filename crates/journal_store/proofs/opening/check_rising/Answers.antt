use Rattle.std.proofs.Common.{◌≡◌, ◌∙◌, false, inl, inr, [], to_z, of_z, to_z-of_z, w64, refl, sym, ap, IsTrue, arith, rules, tests}
use Rattle.sqlite_value.specs.declared.value.Value.TheVariants.{Int}
use Rattle.sqlite_rules.proofs.ListLemmas.{has_at}
use Rattle.journal_store.proofs.Repeating.{number_fails}
use Rattle.journal_store.proofs.Numbering.{all_rising, rising_more, rising_none}
use Rattle.journal_store.proofs.opening.check_rising.Goals as goal

pub loop-row-init : goal.loop-row-init
loop-row-init c = ([], refl, rising_none, refl)

pub loop-row-preserved : goal.loop-row-preserved
loop-row-preserved c =
    let so_far = c.loop-row.invariant in
    let is : IsTrue c.rises.result = search (rules, tests) in
    let number = c.in-Some.number in
    let same : to_z w64 (of_z w64 number) ≡ number = grind (arith, to_z-of_z) in
    rising_more c.args.rows.now c.loop-row.row-index c.row-item.result (to_z w64 (of_z w64 number)) so_far.0 c.loop-row.last (omega (arith, c.loop-row-test.true)) c.row-item.is (c.in-Some.ensures.some ∙ ap Int (sym same)) so_far.1 so_far.2 so_far.3
    (c.rises.ensures.is is)

pub returns-in_default-clause-cause : goal.returns-in_default-clause-cause
returns-in_default-clause-cause c = inl (c.row-item.result, has_at c.args.rows.now c.loop-row.row-index c.row-item.result (omega (arith, c.loop-row-test.true)) c.row-item.is, c.in_default.ensures.none)

pub returns-then-not-rises-clause-cause : goal.returns-then-not-rises-clause-cause
returns-then-not-rises-clause-cause c =
    let so_far = c.loop-row.invariant in
    let none : c.rises.result ≡ false = search (rules, tests) in
    let number = c.in-Some.number in
    let same : to_z w64 (of_z w64 number) ≡ number = grind (arith, to_z-of_z) in
    inr (number_fails c.args.rows.now c.loop-row.row-index c.row-item.result (to_z w64 (of_z w64 number)) so_far.0 c.loop-row.last (omega (arith, c.loop-row-test.true)) c.row-item.is (c.in-Some.ensures.some ∙ ap Int (sym same)) so_far.1 so_far.3
    (c.rises.ensures.not none))

pub returns-clause-rising : goal.returns-clause-rising
returns-clause-rising c =
    let all = c.loop-row.invariant in
    all_rising c.args.rows.now c.loop-row.row-index all.0 (omega (arith, c.loop-row-test.false)) all.1 all.2
