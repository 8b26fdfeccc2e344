use Rattle.connector_core.proofs.BookLaws.{user-put, group-put}
use Rattle.connector_core.proofs.books.Book.put.Goals as goal

pub returns-in_ok-insert-in-User-clause-ok : goal.returns-in_ok-insert-in-User-clause-ok
returns-in_ok-insert-in-User-clause-ok c =
    user-put c.self.inside.users c.self.inside.groups c.args.self.now c.self.view_is c.args.name c.insert.new.self c.args.known c.in-User.is c.in_ok-insert-in-User.ensures.updates

pub returns-in_ok-insert-in-Group-clause-ok : goal.returns-in_ok-insert-in-Group-clause-ok
returns-in_ok-insert-in-Group-clause-ok c =
    group-put c.self.inside.users c.self.inside.groups c.args.self.now c.self.view_is c.args.name c.insert-in-Group.new.self c.args.known c.in-Group.is c.in_ok-insert-in-Group.ensures.updates
