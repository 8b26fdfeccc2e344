use Rattle.std.proofs.Common.{arith}
use Rattle.sqlite.specs.Held.{state}
use Rattle.sqlite.specs.State.{HasCleanDisk}
use Rattle.source_csv.specs.declared.rows.Row.TheVariants.{User, Group}
use Rattle.journal_core.specs.declared.entries.Entry.{Entry}
use Rattle.journal_store.specs.Batches.{settled}
use Rattle.journal_store.proofs.Written.{put_edits, ran_makes}
use Rattle.journal_store.proofs.batches.put_entry_in.Goals as goal

pub write_user_in-requires-clause-edit : goal.write_user_in-requires-clause-edit
write_user_in-requires-clause-edit g c = rw c.put_statement-sql.ensures (put_edits c.args.is_there c.kind_of.result)

pub returns-in-User-clause-made : goal.returns-in-User-clause-made
returns-in-User-clause-made g c clean =
    let old = state g.S.Store c.args.tables.now.conn.now in
    let entry : Entry = record { row = c.args.row.now; confirmed = c.args.confirmed; id = c.args.id.now } in
    let early : HasCleanDisk old = omega (arith, clean, c.write_user_in.ensures.goes_on.quiet.clean) in
    ran_makes (settled old) (settled (state g.S.Store c.write_user_in.new.tables.conn.now)) c.args.is_there entry (User c.in-User.user) c.kind_of.result c.put_statement-sql.result.now c.in-User.is c.write_user_in.ensures.lawful c.kind_of.ensures c.put_statement-sql.ensures
    c.write_user_in.result (c.requires.under_way.laid early) (c.requires.there early) (c.write_user_in.ensures.ran clean)

pub write_group_in-requires-clause-edit : goal.write_group_in-requires-clause-edit
write_group_in-requires-clause-edit g c = rw c.put_statement-sql.ensures (put_edits c.args.is_there c.kind_of.result)

pub returns-in-Group-clause-made : goal.returns-in-Group-clause-made
returns-in-Group-clause-made g c clean =
    let old = state g.S.Store c.args.tables.now.conn.now in
    let entry : Entry = record { row = c.args.row.now; confirmed = c.args.confirmed; id = c.args.id.now } in
    let early : HasCleanDisk old = omega (arith, clean, c.write_group_in.ensures.goes_on.quiet.clean) in
    ran_makes (settled old) (settled (state g.S.Store c.write_group_in.new.tables.conn.now)) c.args.is_there entry (Group c.in-Group.group) c.kind_of.result c.put_statement-sql.result.now c.in-Group.is c.write_group_in.ensures.lawful c.kind_of.ensures c.put_statement-sql.ensures
    c.write_group_in.result (c.requires.under_way.laid early) (c.requires.there early) (c.write_group_in.ensures.ran clean)
