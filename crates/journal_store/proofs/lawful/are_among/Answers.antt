use Rattle.std.proofs.Common.{◌≡◌, false, IsTrue, arith, rules, tests, sym, subst}
use Rattle.std.specs.List.{AllByRecursion}
use Rattle.std.proofs.lemmas.List.{take_all}
use Rattle.sqlite_rules.proofs.ListLemmas.{all_more}
use Rattle.sqlite_rules.specs.Lists.{Has}
use Rattle.sqlite_trees.proofs.ListLemmas.{all-get_or}
use Rattle.journal_store.proofs.lawful.are_among.Goals as goal

pub loop-member-preserved : goal.loop-member-preserved
loop-member-preserved c =
    let is : IsTrue c.is_among.result = search (rules, tests) in
    all_more (Has c.args.keys.now) c.args.members.now c.loop-member.member-index c.member-item.result (omega (arith, c.loop-member-test.true)) c.member-item.is c.loop-member.invariant (c.is_among.ensures.is is)

pub returns-then-not-is_among-clause-not : goal.returns-then-not-is_among-clause-not
returns-then-not-is_among-clause-not c _ rising all =
    let none : c.is_among.result ≡ false = search (rules, tests) in
    c.is_among.ensures.not none rising (subst (Has c.args.keys.now) (sym c.member-item.is) (all-get_or (Has c.args.keys.now) c.args.members.now c.loop-member.member-index c.member-item.result all (omega (arith, c.loop-member-test.true))))

pub returns-clause-are : goal.returns-clause-are
returns-clause-are c _ = subst (AllByRecursion (Has c.args.keys.now)) (take_all c.loop-member.member-index c.args.members.now (omega (arith, c.loop-member-test.false))) c.loop-member.invariant
