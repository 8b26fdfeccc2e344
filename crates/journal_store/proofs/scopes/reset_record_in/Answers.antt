use Rattle.std.proofs.Common.{Some, arith, subst}
use Rattle.sqlite.specs.Held.{state}
use Rattle.sqlite.specs.State.{HasCleanDisk}
use Rattle.journal_store.specs.Connections.{Finds}
use Rattle.journal_store.proofs.Scoping.{both_ok, resets_record, unlearn_there}
use Rattle.journal_store.proofs.scopes.reset_record_in.Goals as goal

pub unlearn_in-requires-clause-there : goal.unlearn_in-requires-clause-there
unlearn_in-requires-clause-there g c clean still =
    let old = state g.S.Store c.args.tables.now.conn.now in
    let mid = state g.S.Store c.find_in.new.tables.conn.now in
    let early : HasCleanDisk old = omega (arith, clean, c.find_in.ensures.quiet.clean) in
    let same = c.in_ok-held.ensures.same clean in
    unlearn_there old mid c.args.name.now c.in-Some.entry (subst (Finds old.now.trees c.args.name.now) c.in-Some.is (c.in_ok-held.ensures.found clean)) same (c.requires.numbers early same.0.was_open)

pub returns-in-Some-clause-reset : goal.returns-in-Some-clause-reset
returns-in-Some-clause-reset g c clean =
    let old = state g.S.Store c.args.tables.now.conn.now in
    let mid = state g.S.Store c.find_in.new.tables.conn.now in
    let new = state g.S.Store c.unlearn_in.new.tables.conn.now in
    let later : HasCleanDisk mid = omega (arith, clean, c.unlearn_in.ensures.goes_on.quiet.clean) in
    let early : HasCleanDisk old = omega (arith, later, c.find_in.ensures.quiet.clean) in
    let same = c.in_ok-held.ensures.same later in
    let finds = subst (Finds old.now.trees c.args.name.now) c.in-Some.is (c.in_ok-held.ensures.found later) in
    both_ok c.unlearn_in.result
    (λ changes is made. resets_record old mid c.args.name.now c.in-Some.entry finds same (c.requires.numbers early same.0.was_open) new changes is made)
    c.unlearn_in.ensures.changes (c.unlearn_in.ensures.made clean)
