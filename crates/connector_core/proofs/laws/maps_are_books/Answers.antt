use Rattle.connector_core.proofs.Keeping.{maps_are_books}
use Rattle.connector_core.proofs.LawProofs.{maps_accept}
use Rattle.connector_core.proofs.laws.maps_are_books.Goals as goal

pub returns-clause-put : goal.returns-clause-put
returns-clause-put c = maps_are_books

pub returns-clause-accepted : goal.returns-clause-accepted
returns-clause-accepted c = maps_accept
