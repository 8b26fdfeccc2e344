use Rattle.std.proofs.Common.{refl}
use Rattle.commands.proofs.pushing.push_checked.Goals as goal

pub returns-in-Ok : goal.returns-in-Ok
returns-in-Ok g c =
    let begins = rw c.service_of-service.ensures at c.begun.ensures in
    (c.begun.new.connector, c.begun.result, begins, rw c.in-Ok.is c.push_approved.ensures)

pub returns-in-Err : goal.returns-in-Err
returns-in-Err g c =
    let begins = rw c.service_of-service.ensures at c.begun.ensures in
    (c.begun.new.connector, c.begun.result, begins, rw c.in-Err.is (refl, refl))
