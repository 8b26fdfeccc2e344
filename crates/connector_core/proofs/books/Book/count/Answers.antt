use Rattle.std.proofs.Common.{◌∙◌, ap, sym}
use Rattle.std.specs.FinMap.{keys}
use Rattle.scim_key.specs.declared.records.Kind.TheVariants.{User, Group}
use Rattle.journal_core.specs.Entries.{count_of}
use Rattle.connector_core.proofs.BookLaws.{users-counted, groups-counted}
use Rattle.connector_core.proofs.books.Book.count.Goals as goal

pub returns-in-User : goal.returns-in-User
returns-in-User c =
    c.len-users.ensures.len ∙ sym (users-counted c.self.inside.users c.self.inside.groups c.len-users.ensures.ordered c.len-groups.ensures.ordered)
    ∙ ap (λ book. count_of User (keys book)) c.self.view_is ∙ ap (λ kind. count_of kind (keys c.args.self.now)) (sym c.in-User.is)

pub returns-in-Group : goal.returns-in-Group
returns-in-Group c =
    c.len-groups.ensures.len ∙ sym (groups-counted c.self.inside.users c.self.inside.groups c.len-users.ensures.ordered c.len-groups.ensures.ordered)
    ∙ ap (λ book. count_of Group (keys book)) c.self.view_is ∙ ap (λ kind. count_of kind (keys c.args.self.now)) (sym c.in-Group.is)
