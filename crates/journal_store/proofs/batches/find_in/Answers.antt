use Rattle.std.proofs.Common.{[], ◌∷◌, ◌∙◌, ap, arith}
use Rattle.sqlite_value.specs.Value.{owned}
use Rattle.sqlite_value.specs.declared.value.Value.TheVariants.{Text}
use Rattle.sqlite.specs.Held.{state}
use Rattle.sqlite.specs.State.{HasCleanDisk}
use Rattle.sqlite.specs.Values.{bound_value}
use Rattle.journal_store.specs.Format.{journal_schema}
use Rattle.journal_store.specs.Batches.{settled}
use Rattle.sql_tables.specs.Statements.{IsQuery}
use Rattle.sql_tables.proofs.Results.{on_ok_of}
use Rattle.sql_tables.proofs.Leaving.{unchanged_leaves}
use Rattle.journal_store.proofs.Texts.{find_is}
use Rattle.journal_store.proofs.Batching.{answers_inside, failed_inside, shown_open, unchanged_inside}
use Rattle.journal_store.proofs.Finding.{found_by}
use Rattle.journal_store.proofs.batches.find_in.Goals as goal

pub returns-in-Ok-clause-found : goal.returns-in-Ok-clause-found
returns-in-Ok-clause-found g c clean =
    let old = state g.S.Store c.args.tables.now.conn.now in
    let new = state g.S.Store c.query_all.new.self.conn.now in
    let early : HasCleanDisk old = omega (arith, clean, c.query_all.ensures.survives.clean) in
    let sql = c.find_statement.result.now in
    let params = bound_value (owned c.text_param.result) ∷ [] in
    let shown = c.in-Ok.ensures.ok clean in
    let laid = c.requires.under_way.laid early (shown_open old new sql params c.in-Ok.rows.items shown) in
    let query : IsQuery journal_schema sql = rw c.find_statement.ensures (find_is c.args.name.now.kind).reads in
    found_by (settled old) c.args.name.now sql params c.in-Ok.rows.items c.as_slice.result.now c.only.result
    c.find_statement.ensures (λ i. (c.text_param.ensures ∙ ap Text c.as_str.ensures.value) i ∷ []) c.as_slice.ensures.value laid (answers_inside old new sql params c.in-Ok.rows.items query laid shown) c.only.ensures

pub returns-in-Ok-clause-same : goal.returns-in-Ok-clause-same
returns-in-Ok-clause-same g c clean =
    let old = state g.S.Store c.args.tables.now.conn.now in
    let new = state g.S.Store c.query_all.new.self.conn.now in
    let early : HasCleanDisk old = omega (arith, clean, c.query_all.ensures.survives.clean) in
    let sql = c.find_statement.result.now in
    let params = bound_value (owned c.text_param.result) ∷ [] in
    let shown = c.in-Ok.ensures.ok clean in
    let laid = c.requires.under_way.laid early (shown_open old new sql params c.in-Ok.rows.items shown) in
    let query : IsQuery journal_schema sql = rw c.find_statement.ensures (find_is c.args.name.now.kind).reads in
    on_ok_of c.only.result (unchanged_inside old new sql params c.in-Ok.rows.items query laid shown)

pub returns-in-Ok-clause-left : goal.returns-in-Ok-clause-left
returns-in-Ok-clause-left g c clean =
    let old = state g.S.Store c.args.tables.now.conn.now in
    let new = state g.S.Store c.query_all.new.self.conn.now in
    let early : HasCleanDisk old = omega (arith, clean, c.query_all.ensures.survives.clean) in
    let sql = c.find_statement.result.now in
    let params = bound_value (owned c.text_param.result) ∷ [] in
    let shown = c.in-Ok.ensures.ok clean in
    let laid = c.requires.under_way.laid early (shown_open old new sql params c.in-Ok.rows.items shown) in
    let query : IsQuery journal_schema sql = rw c.find_statement.ensures (find_is c.args.name.now.kind).reads in
    unchanged_leaves old new (unchanged_inside old new sql params c.in-Ok.rows.items query laid shown)

pub returns-in-Err-clause-left : goal.returns-in-Err-clause-left
returns-in-Err-clause-left g c clean =
    failed_inside (state g.S.Store c.args.tables.now.conn.now) (state g.S.Store c.query_all.new.self.conn.now) c.find_statement.result.now (bound_value (owned c.text_param.result) ∷ []) c.in-Err.error (c.in-Err.ensures.err clean)
