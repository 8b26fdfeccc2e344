use Rattle.storage.proofs.JournalFileLemmas.{opens_files}
use Rattle.storage.proofs.RenewalLemmas.{none_left}
use Rattle.storage.proofs.journal_file.opened_in.Goals as goal

pub returns-in-Ok-opened_from-clause-opened : goal.returns-in-Ok-opened_from-clause-opened
returns-in-Ok-opened_from-clause-opened g c =
    opens_files c.args.files c.in-Ok.conn c.in-Ok.ensures.connected c.in-Ok.ensures.found c.in-Ok-opened_from.opened c.in-Ok-opened_from.ensures.opened

pub returns-in-Err-opened_from-clause-refused : goal.returns-in-Err-opened_from-clause-refused
returns-in-Err-opened_from-clause-refused g c = λ clean.
    let it = c.in-Err-opened_from.ensures.refused in
    record { conn = c.in-Ok.conn; found = c.in-Ok.ensures.found (none_left it.stop.clean clean); kept = it.kept clean; stop = it.stop }
