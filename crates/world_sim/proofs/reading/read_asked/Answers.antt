use Rattle.world_sim.proofs.Readings.{asked_ok, asked_only, none_asked}
use Rattle.world_sim.proofs.reading.read_asked.Goals as goal

pub returns-in-Ok-Some-clause-ok : goal.returns-in-Ok-Some-clause-ok
returns-in-Ok-Some-clause-ok c =
    let is = rw c.in-Ok-Some.field-0-is at c.in-Ok-Some.ensures in
    asked_ok c.args.bytes.now _ is _ c.asked_by.ensures

pub returns-in-Ok-Some-clause-only : goal.returns-in-Ok-Some-clause-only
returns-in-Ok-Some-clause-only c =
    let is = rw c.in-Ok-Some.field-0-is at c.in-Ok-Some.ensures in
    asked_only c.args.bytes.now _ is _ c.asked_by.ensures

pub returns-in-Ok-None-clause-only : goal.returns-in-Ok-None-clause-only
returns-in-Ok-None-clause-only c =
    let none = rw c.in-Ok-None.field-0-is at c.in-Ok-None.ensures in
    λ request spells. absurd (none_asked c.args.bytes.now none request spells)
