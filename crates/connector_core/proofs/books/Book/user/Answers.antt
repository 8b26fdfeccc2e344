use Rattle.std.proofs.Common.{◌∙◌, refl}
use Rattle.scim_key.specs.declared.records.Kind.TheVariants.{User}
use Rattle.connector_core.specs.Trees.{of}
use Rattle.connector_core.proofs.BookLaws.{user-is}
use Rattle.connector_core.proofs.books.Book.user.Goals as goal

pub returns : goal.returns
returns c = c.get.ensures.value ∙ user-is c.self.inside.users c.self.inside.groups c.args.self.now c.self.view_is (of User c.args.key.now) refl
