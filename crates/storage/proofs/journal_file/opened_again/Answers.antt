use Rattle.sqlite.proofs.Callers.{finds_again}
use Rattle.storage.specs.Closed.{IsRenewed}
use Rattle.storage.proofs.RenewalLemmas.{same_entries}
use Rattle.storage.proofs.journal_file.opened_again.Goals as goal

pub returns-in-Ok-Entries : goal.returns-in-Ok-Entries
returns-in-Ok-Entries g c =
    let it = rw c.in-Ok-Entries.field-0-is at c.in-Ok-Entries.ensures.opened in
    let copied = c.in_ok-closed.ensures.copied in
    record {
      opened = record { faithful = it.faithful; faults = it.counts.0; writes = it.counts.1 };
      was = λ honest. (copied (it.found honest).found.honest).was_clean;
      same = λ honest.
          let finds = it.found honest in
          let copy = copied finds.found.honest in
          let renewed : IsRenewed c.args.conn finds.conn = record {
            was_clean = copy.was_clean;
            was_open = copy.was_open;
            connected = finds.connected;
            same = finds_again c.args.conn finds.conn c.in_ok-closed.field-0 copied finds.found;
          } in
          same_entries c.args.conn finds.conn renewed (c.requires.laid copy.was_clean) c.requires.live _ finds.stands;
    }
