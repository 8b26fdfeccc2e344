use Rattle.connector_core.specs.Book.{learning}
use Rattle.connector_core.proofs.BookLaws.{user-there, group-there, user-changed, group-changed}
use Rattle.connector_core.proofs.books.Book.learn.Goals as goal

pub learn-requires : goal.learn-requires
learn-requires c = user-there c.self.inside.users c.self.inside.groups c.args.self.now c.self.view_is c.args.name.now c.in-User.is c.requires

pub learn-requires-in-Group : goal.learn-requires-in-Group
learn-requires-in-Group c = group-there c.self.inside.users c.self.inside.groups c.args.self.now c.self.view_is c.args.name.now c.in-Group.is c.requires

pub returns-in-User : goal.returns-in-User
returns-in-User c = user-changed c.self.inside.users c.self.inside.groups c.args.self.now c.self.view_is c.args.name.now (learning c.args.confirmed c.args.id c.args.seen) c.learn.new.records c.in-User.is c.requires c.learn.ensures

pub returns-in-Group : goal.returns-in-Group
returns-in-Group c = group-changed c.self.inside.users c.self.inside.groups c.args.self.now c.self.view_is c.args.name.now (learning c.args.confirmed c.args.id c.args.seen) c.learn-in-Group.new.records c.in-Group.is c.requires c.learn-in-Group.ensures
