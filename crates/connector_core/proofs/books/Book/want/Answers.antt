use Rattle.std.proofs.Common.{◌∙◌, ap}
use Rattle.std.specs.Option.{option_map}
use Rattle.connector_core.specs.Book.{wanting_now}
use Rattle.connector_core.specs.declared.knowledge.Known.{Known}
use Rattle.connector_core.proofs.BookLaws.{user-is, group-is, user-there, group-there, user-changed, group-changed}
use Rattle.connector_core.proofs.books.Book.want.Goals as goal

pub want-requires : goal.want-requires
want-requires c = user-there c.self.inside.users c.self.inside.groups c.args.self.now c.self.view_is c.args.name.now c.in-User.is c.requires

pub want-requires-in-Group : goal.want-requires-in-Group
want-requires-in-Group c = group-there c.self.inside.users c.self.inside.groups c.args.self.now c.self.view_is c.args.name.now c.in-Group.is c.requires

pub returns-in-User-clause-changed : goal.returns-in-User-clause-changed
returns-in-User-clause-changed c =
    user-changed c.self.inside.users c.self.inside.groups c.args.self.now c.self.view_is c.args.name.now (wanting_now c.args.row) c.want.new.records c.in-User.is c.requires c.want.ensures.updates

pub returns-in-User-clause-last : goal.returns-in-User-clause-last
returns-in-User-clause-last c =
    c.want.ensures.last ∙ ap (option_map (λ (k : Known). k.wanted)) (user-is c.self.inside.users c.self.inside.groups c.args.self.now c.self.view_is c.args.name.now c.in-User.is)

pub returns-in-Group-clause-changed : goal.returns-in-Group-clause-changed
returns-in-Group-clause-changed c =
    group-changed c.self.inside.users c.self.inside.groups c.args.self.now c.self.view_is c.args.name.now (wanting_now c.args.row) c.want-in-Group.new.records c.in-Group.is c.requires c.want-in-Group.ensures.updates

pub returns-in-Group-clause-last : goal.returns-in-Group-clause-last
returns-in-Group-clause-last c =
    c.want-in-Group.ensures.last ∙ ap (option_map (λ (k : Known). k.wanted)) (group-is c.self.inside.users c.self.inside.groups c.args.self.now c.self.view_is c.args.name.now c.in-Group.is)
