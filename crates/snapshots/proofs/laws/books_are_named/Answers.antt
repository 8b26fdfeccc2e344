use Rattle.snapshots.proofs.Named.{books_are_named}
use Rattle.snapshots.proofs.laws.books_are_named.Goals as goal

pub returns : goal.returns
returns c = books_are_named
