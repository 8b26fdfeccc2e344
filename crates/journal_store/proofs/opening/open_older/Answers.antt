use Rattle.std.proofs.Common.{◌⊎◌, arith}
use Rattle.sqlite.specs.Held.{state}
use Rattle.sqlite.specs.State.{HasCleanDisk}
use Rattle.journal_store.specs.Opening.{IsNewer, IsNotLaidBy, IsSpoiltBy}
use Rattle.journal_store.proofs.Checking.{handed_on}
use Rattle.journal_store.proofs.Generic.{format_of}
use Rattle.journal_store.proofs.Opened.{older_spoilt, stop_carried}
use Rattle.journal_store.proofs.Reopening.{store_on}
use Rattle.journal_store.proofs.opening.open_older.Goals as goal

pub returns-in_err-check_tables-clause-cause : goal.returns-in_err-check_tables-clause-cause
returns-in_err-check_tables-clause-cause g c clean =
    let old = state g.S.Store c.args.conn.now in
    handed_on (IsNewer old) (IsNotLaidBy g.F.Layout.layout old ⊎ IsSpoiltBy (format_of g.F.Layout g.F.Format) old) (IsSpoiltBy (format_of g.F.Layout g.F.Format) old) (older_spoilt (format_of g.F.Layout g.F.Format) old c.requires.older c.requires.outside)
    c.from_residual.result c.in_err-check_tables.field-0.0 c.from_residual.ensures.1 (c.in_err-check_tables.ensures.cause clean)

pub carry-requires-clause-older : goal.carry-requires-clause-older
carry-requires-clause-older g c clean still =
    let was = c.in_ok-check_tables.ensures.store clean in
    (was.0, store_on (state g.S.Store c.args.conn.now) (state g.S.Store c.check_tables.new.conn) was.0 c.in_ok-check_tables.ensures.checks.looks was.1 clean still)

pub returns-in-Ok-clause-stands : goal.returns-in-Ok-clause-stands
returns-in-Ok-clause-stands g c clean =
    let mid = state g.S.Store c.check_tables.new.conn in
    let early : HasCleanDisk mid = omega (arith, clean, c.in-Ok.ensures.stop.clean) in
    let was = c.in_ok-check_tables.ensures.store early in
    let made = c.in-Ok.ensures.made clean in
    (was.0, (was.1, made.2), made.1 was.0 (store_on (state g.S.Store c.args.conn.now) mid was.0 c.in_ok-check_tables.ensures.checks.looks was.1 early (c.in_ok-check_tables.ensures.checks.is_open early)))

pub returns-in-Ok-clause-stop : goal.returns-in-Ok-clause-stop
returns-in-Ok-clause-stop g c =
    stop_carried (format_of g.F.Layout g.F.Format) (state g.S.Store c.args.conn.now) (state g.S.Store c.check_tables.new.conn) (state g.S.Store c.carry.new.conn) c.in_ok-check_tables.ensures.checks.looks c.in_ok-check_tables.ensures.store c.in_ok-check_tables.ensures.checks.is_open c.in-Ok.ensures.stop

pub returns-in-Err-clause-stop : goal.returns-in-Err-clause-stop
returns-in-Err-clause-stop g c =
    stop_carried (format_of g.F.Layout g.F.Format) (state g.S.Store c.args.conn.now) (state g.S.Store c.check_tables.new.conn) (state g.S.Store c.carry.new.conn) c.in_ok-check_tables.ensures.checks.looks c.in_ok-check_tables.ensures.store c.in_ok-check_tables.ensures.checks.is_open c.in-Err.ensures.stop
