use Rattle.std.proofs.Common.{◌∙◌}
use Rattle.connector_core.proofs.BookLaws.{user-is, group-is}
use Rattle.connector_core.proofs.books.Book.get.Goals as goal

pub returns-in-User : goal.returns-in-User
returns-in-User c = c.get.ensures.value ∙ user-is c.self.inside.users c.self.inside.groups c.args.self.now c.self.view_is c.args.name.now c.in-User.is

pub returns-in-Group : goal.returns-in-Group
returns-in-Group c = c.get-in-Group.ensures.value ∙ group-is c.self.inside.users c.self.inside.groups c.args.self.now c.self.view_is c.args.name.now c.in-Group.is
