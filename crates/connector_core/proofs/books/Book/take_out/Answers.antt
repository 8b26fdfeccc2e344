use Rattle.std.proofs.Common.{◌∙◌}
use Rattle.connector_core.proofs.BookLaws.{user-dropped, group-dropped}
use Rattle.connector_core.proofs.books.Book.take_out.Goals as goal
use Rattle.connector_core.proofs.books.Book.take_out.Goals.{in-Some-1, in-None-1, in-Some-2, in-None-2}

pub returns-in-User : goal.returns-in-User
returns-in-User c =
    let done = user-dropped c.self.inside.users c.self.inside.groups c.args.self.now c.self.view_is c.args.name.now c.remove.new.self c.in-User.is c.remove.ensures.updates in
    elim c.match-remove.branch [ in-Some-1 w ↦ w.self-is ∙ done | in-None-1 w ↦ w.self-is ∙ done ]

pub returns-in-Group : goal.returns-in-Group
returns-in-Group c =
    let done = group-dropped c.self.inside.users c.self.inside.groups c.args.self.now c.self.view_is c.args.name.now c.remove-in-Group.new.self c.in-Group.is c.remove-in-Group.ensures.updates in
    elim c.match-remove-2.branch [ in-Some-2 w ↦ w.self-is ∙ done | in-None-2 w ↦ w.self-is ∙ done ]
