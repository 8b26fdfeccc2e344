use Rattle.connector_core.specs.Book.{seeing}
use Rattle.connector_core.proofs.BookLaws.{user-there, group-there, user-changed, group-changed}
use Rattle.connector_core.proofs.books.Book.see.Goals as goal

pub see-requires : goal.see-requires
see-requires c = user-there c.self.inside.users c.self.inside.groups c.args.self.now c.self.view_is c.args.name.now c.in-User.is c.requires

pub see-requires-in-Group : goal.see-requires-in-Group
see-requires-in-Group c = group-there c.self.inside.users c.self.inside.groups c.args.self.now c.self.view_is c.args.name.now c.in-Group.is c.requires

pub returns-in-User : goal.returns-in-User
returns-in-User c = user-changed c.self.inside.users c.self.inside.groups c.args.self.now c.self.view_is c.args.name.now (seeing c.args.seen c.args.is_doubted) c.see.new.records c.in-User.is c.requires c.see.ensures

pub returns-in-Group : goal.returns-in-Group
returns-in-Group c = group-changed c.self.inside.users c.self.inside.groups c.args.self.now c.self.view_is c.args.name.now (seeing c.args.seen c.args.is_doubted) c.see-in-Group.new.records c.in-Group.is c.requires c.see-in-Group.ensures
