use Rattle.storage.proofs.LookingLemmas.{seen_there}
use Rattle.storage.proofs.journal_file.JournalFile.seen_of.Goals as goal

pub returns-in-Ok : goal.returns-in-Ok
returns-in-Ok g c =
    seen_there _ c.args.files c.in-Ok.seen (λ entries found. (c.args.files, c.requires.given, found)) (λ none. (c.args.files, c.requires.given, none))
    c.in-Ok.ensures.opened c.in-Ok.ensures.unwritten
