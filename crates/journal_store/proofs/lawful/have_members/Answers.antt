use Rattle.std.proofs.Common.{◌≡◌, false, IsTrue, arith, rules, tests, sym, subst}
use Rattle.std.specs.List.{AllByRecursion}
use Rattle.std.proofs.lemmas.List.{take_all}
use Rattle.sqlite_rules.proofs.ListLemmas.{all_more}
use Rattle.sqlite_trees.proofs.ListLemmas.{all-get_or}
use Rattle.journal_store.specs.Opening.{HasMembersOf}
use Rattle.journal_store.proofs.lawful.have_members.Goals as goal

pub loop-group-preserved : goal.loop-group-preserved
loop-group-preserved c =
    let is : IsTrue c.has_members.result = search (rules, tests) in
    all_more (HasMembersOf c.args.keys.now) c.args.groups.now c.loop-group.group-index c.group-item.result (omega (arith, c.loop-group-test.true)) c.group-item.is c.loop-group.invariant (c.has_members.ensures.has is)

pub returns-then-not-has_members-clause-not : goal.returns-then-not-has_members-clause-not
returns-then-not-has_members-clause-not c _ rising all =
    let none : c.has_members.result ≡ false = search (rules, tests) in
    c.has_members.ensures.not none rising (subst (HasMembersOf c.args.keys.now) (sym c.group-item.is) (all-get_or (HasMembersOf c.args.keys.now) c.args.groups.now c.loop-group.group-index c.group-item.result all (omega (arith, c.loop-group-test.true))))

pub returns-clause-have : goal.returns-clause-have
returns-clause-have c _ = subst (AllByRecursion (HasMembersOf c.args.keys.now)) (take_all c.loop-group.group-index c.args.groups.now (omega (arith, c.loop-group-test.false))) c.loop-group.invariant
