use Rattle.storage.proofs.LookingLemmas.{keeps_unseen, older_unseen}
use Rattle.storage.proofs.RenewalLemmas.{none_left}
use Rattle.storage.proofs.looking.seen_in.Goals as goal

pub returns-in-Ok-seen_of-clause-opened : goal.returns-in-Ok-seen_of-clause-opened
returns-in-Ok-seen_of-clause-opened g c =
    let it = c.in-Ok-seen_of.ensures.opened in
    record {
      opened = record { faithful = it.faithful; faults = it.counts.0; writes = it.counts.1 };
      found = λ honest.
          let early = none_left it.stop.clean honest in
          record { conn = c.in-Ok.conn; connected = c.in-Ok.ensures.connected early; found = c.in-Ok.ensures.found early; stands = it.stands honest };
    }

pub returns-in-Ok-seen_of-clause-unwritten : goal.returns-in-Ok-seen_of-clause-unwritten
returns-in-Ok-seen_of-clause-unwritten g c =
    record { conn = c.in-Ok.conn; found = c.in-Ok.ensures.found; stop = c.in-Ok-seen_of.ensures.unwritten }

pub returns-in-Err-Some-default-clause-older : goal.returns-in-Err-Some-default-clause-older
returns-in-Err-Some-default-clause-older g c =
    let it = c.in-Err-Some-default in
    older_unseen c.in-Ok.conn it.conn it.fault c.in-Ok.ensures.found (rw it.field-0-0-is at it.ensures.unseen)

pub returns-in-Err-Some-default-clause-refused : goal.returns-in-Err-Some-default-clause-refused
returns-in-Err-Some-default-clause-refused g c = λ clean.
    let it = c.in-Err-Some-default in
    let keeps = keeps_unseen c.in-Ok.conn it.conn it.fault (rw it.field-0-0-is at it.ensures.unseen) in
    record { conn = c.in-Ok.conn; found = c.in-Ok.ensures.found (none_left keeps.stop.clean clean); kept = keeps.kept clean; stop = keeps.stop }

pub returns-in-Err-None-default-clause-unwritten : goal.returns-in-Err-None-default-clause-unwritten
returns-in-Err-None-default-clause-unwritten g c =
    let it = c.in-Err-None-default in
    record { conn = c.in-Ok.conn; found = c.in-Ok.ensures.found; none = (rw it.field-0-0-is at it.ensures.unseen).1 }
