use Rattle.std.proofs.Common.{◌∙◌, ◌++◌, ap, sym, map}
use Rattle.std.specs.BTreeMap as tree
use Rattle.std.specs.FinMap.{keys}
use Rattle.scim_key.specs.declared.records.Kind.TheVariants.{User, Group}
use Rattle.connector_core.specs.Trees.{of}
use Rattle.connector_core.proofs.BookLaws.{names-are}
use Rattle.connector_core.proofs.books.Book.names.Goals as goal

pub returns : goal.returns
returns c =
    let users = c.in_ok-push_names.ensures.names ∙ ap (λ names. names ++ map (of User) (tree.keys c.self.inside.users)) c.new-names.ensures.items in
    c.in_ok-push_names-2.ensures.names ∙ ap (λ names. names ++ map (of Group) (tree.keys c.self.inside.groups)) users
    ∙ sym (names-are c.self.inside.users c.self.inside.groups c.in_ok-push_names.ensures.ordered c.in_ok-push_names-2.ensures.ordered) ∙ ap keys c.self.view_is
