use Rattle.std.proofs.Common.{◌≡◌, IsTrue, rules, subst}
use Rattle.sqlite.specs.Held.{state}
use Rattle.sqlite.specs.State.{HasCleanDisk, Survives}
use Rattle.journal_store.specs.Batches.{PutsRows}
use Rattle.sql_tables.specs.Statements.{LeavesStore}
use Rattle.journal_store.proofs.Batching.{begun, commit_stops}
use Rattle.journal_store.proofs.batches.put_all.Goals as goal

pub returns-in-Err : goal.returns-in-Err
returns-in-Err g c =
    let old = c.args.conn.now in
    let rows = c.args.rows.now in
    let last = c.put_each.new.tables.conn.now in
    let end = c.commit.new.self.0 in
    let same : end ≡ c.conn-2-1.given.0 = search rules in
    let began = c.transaction-tables.ensures.begun in
    let each = c.in_ok-put_each.ensures in
    let left : HasCleanDisk (state g.S.Store last) → LeavesStore (state g.S.Store (begun g.S.Store old)) (state g.S.Store last) = rw began at each.goes_on.left in
    let quiet : Survives (state g.S.Store (begun g.S.Store old)) (state g.S.Store last) (λ _. ⊥) = rw began at each.goes_on.quiet in
    let puts : HasCleanDisk (state g.S.Store last) → PutsRows rows (state g.S.Store old).now.trees (state g.S.Store last).now.trees = rw began at each.put in
    record {
      changes = record {
        made = λ _. tt;
        keeps = search rules;
        stop = subst (λ h. Survives (state g.S.Store old) (state g.S.Store h) (λ db. IsTrue (state g.S.Store old).is_open × PutsRows rows (state g.S.Store old).now.trees db)) same
            (commit_stops g.S.Store old rows (state g.S.Store last) (state g.S.Store end) left quiet each.goes_on.is_open puts each.under_way c.commit.ensures.survives);
      };
    }
