use Rattle.std.proofs.Common.{subst, sym}
use Rattle.sqlite.specs.Held.{state}
use Rattle.sql_tables.specs.Faults.{HasFailed, statement_fault}
use Rattle.sql_tables.proofs.Marking.{shows_format}
use Rattle.provider_store.specs.Opening.{OpenFailsFor}
use Rattle.provider_store.proofs.Checking.{told_fails}
use Rattle.provider_store.proofs.Giving.{marked_given}
use Rattle.provider_store.proofs.Texts.{marked_is}
use Rattle.sql_tables.proofs.Checking.{checks_fail}
use Rattle.provider_store.proofs.opening.check_format.Goals as goal

pub find_mark-requires-clause-query : goal.find_mark-requires-clause-query
find_mark-requires-clause-query g c = marked_is.reads

pub find_mark-requires-clause-given : goal.find_mark-requires-clause-given
find_mark-requires-clause-given g c = marked_given

pub find_mark-requires-clause-shows : goal.find_mark-requires-clause-shows
find_mark-requires-clause-shows g c = shows_format marked_is

pub returns-in-Err-clause-checks : goal.returns-in-Err-clause-checks
returns-in-Err-clause-checks g c =
    let failure = HasFailed (state g.S.Store c.args.conn.now) (state g.S.Store c.find_mark.new.conn) in
    checks_fail _ _ c.in-Err.error c.from.result (λ fails. subst (OpenFailsFor failure) (sym c.from.ensures.0) (told_fails failure (statement_fault c.in-Err.error) fails)) c.in-Err.ensures.checks
