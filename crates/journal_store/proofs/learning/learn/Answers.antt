use Rattle.std.proofs.Common.{◌≡◌, arith, rules, sym, ◌∙◌}
use Rattle.sqlite.specs.Held.{state}
use Rattle.sqlite.specs.State.{HasCleanDisk}
use Rattle.journal_store.proofs.Learnt.{learn_edits, learn_made, learn_stops}
use Rattle.journal_store.proofs.learning.learn.Goals as goal

pub write-requires-clause-edit : goal.write-requires-clause-edit
write-requires-clause-edit g c = rw c.learn_statement.ensures (learn_edits c.args.name.now.kind)

pub returns-in-Ok-eq0 : goal.returns-in-Ok-eq0
returns-in-Ok-eq0 g c = record {
  changes = record {
    made = λ _. tt;
    keeps = λ clean.
        let old = state g.S.Store c.args.conn.now in
        let early : HasCleanDisk old = omega (arith, clean, c.in-Ok-eq0.ensures.stop.clean) in
        let it = c.in-Ok-eq0.ensures.count clean in
        let still = it.ran.was_open in
        let made = learn_made old c.args.name.now c.args.confirmed c.args.id.now c.learn_statement.result.now _ c.learn_statement.ensures c.learnt_params.ensures
        (c.requires.laid early still) (c.schema-schema.ensures.live still).0 (c.requires.numbers early still) (c.requires.lawful early still) (state g.S.Store c.write.new.conn) c.in-Ok-eq0.field-0 it in
        absurd (let one : 0 ≡ 1 = sym c.in-Ok-eq0.field-0-test ∙ made.1 in omega (arith, one));
    stop = learn_stops (state g.S.Store c.args.conn.now) (state g.S.Store c.write.new.conn) c.args.name.now c.args.confirmed c.args.id.now c.learn_statement.result.now _ c.learn_statement.ensures c.learnt_params.ensures
        c.requires.laid (λ still. (c.schema-schema.ensures.live still).0) c.requires.numbers c.requires.lawful c.in-Ok-eq0.ensures.stop;
  };
}

pub returns-in-Ok : goal.returns-in-Ok
returns-in-Ok g c = record {
  changes = record {
    made = λ clean.
        let old = state g.S.Store c.args.conn.now in
        let early : HasCleanDisk old = omega (arith, clean, c.in-Ok.ensures.stop.clean) in
        let it = c.in-Ok.ensures.count clean in
        let still = it.ran.was_open in
        (learn_made old c.args.name.now c.args.confirmed c.args.id.now c.learn_statement.result.now _ c.learn_statement.ensures c.learnt_params.ensures
        (c.requires.laid early still) (c.schema-schema.ensures.live still).0 (c.requires.numbers early still) (c.requires.lawful early still) (state g.S.Store c.write.new.conn) c.in-Ok.field-0 it).0;
    keeps = λ _. tt;
    stop = learn_stops (state g.S.Store c.args.conn.now) (state g.S.Store c.write.new.conn) c.args.name.now c.args.confirmed c.args.id.now c.learn_statement.result.now _ c.learn_statement.ensures c.learnt_params.ensures
        c.requires.laid (λ still. (c.schema-schema.ensures.live still).0) c.requires.numbers c.requires.lawful c.in-Ok.ensures.stop;
  };
}

pub returns-in-Err : goal.returns-in-Err
returns-in-Err g c = record {
  changes = record {
    made = λ _. tt;
    keeps = search rules;
    stop = learn_stops (state g.S.Store c.args.conn.now) (state g.S.Store c.write.new.conn) c.args.name.now c.args.confirmed c.args.id.now c.learn_statement.result.now _ c.learn_statement.ensures c.learnt_params.ensures
        c.requires.laid (λ still. (c.schema-schema.ensures.live still).0) c.requires.numbers c.requires.lawful c.in-Err.ensures.stop;
  };
}
