use Rattle.std.proofs.Common.{sym, subst}
use Rattle.sql_tables.proofs.Results.{if_ok}
use Rattle.storage.specs.JournalOpened.{FindsEntries}
use Rattle.storage.proofs.journal_file.JournalFile.entries_of.Goals as goal

pub returns-in-Ok-Entries : goal.returns-in-Ok-Entries
returns-in-Ok-Entries g c =
    let it = rw c.in-Ok-Entries.field-0-is at c.in-Ok-Entries.ensures.opened in
    record {
      opened = record { faithful = it.faithful; faults = it.counts.0; writes = it.counts.1 };
      found = λ honest. (c.args.files, c.requires.given, it.found honest);
    }

pub returns-in-Ok-Carried : goal.returns-in-Ok-Carried
returns-in-Ok-Carried g c =
    let files = c.args.files in
    let carries = rw c.in-Ok-Carried.field-0-is at c.in-Ok-Carried.ensures.opened in
    if_ok c.opened_again.result (λ again it. record {
      opened = it.opened;
      found = λ honest. (files, c.requires.given, subst (FindsEntries _ files) (sym (it.same honest)) (carries.finds (it.was honest)));
    }) c.opened_again.ensures
