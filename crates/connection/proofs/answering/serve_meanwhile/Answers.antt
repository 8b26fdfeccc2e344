use Rattle.std.proofs.Common.{Ok, Err, Some, refl, inl}
use Rattle.connection.proofs.ReplyLemmas.{named_reply}
use Rattle.connection.proofs.ServedLemmas.{leaves_all, serves_known}
use Rattle.connection.proofs.answering.serve_meanwhile.Goals as goal

pub returns-in-Ok-clause-known : goal.returns-in-Ok-clause-known
returns-in-Ok-clause-known g c =
    let read = c.in-Ok.ensures in
    serves_known _ _ _ _ _ _ _ c.args.reader.now c.read_request.new.reader (Ok c.in-Ok.incoming)
    (record { message = read.message; refused = tt; found = read.found; refused_head = read.refused_head; ended = read.ended; long = read.long; malformed = read.malformed; counts = read.counts; clean = read.clean; fault = tt })
    c.serve_message.ensures.served

pub returns-in-Err-clause-known : goal.returns-in-Err-clause-known
returns-in-Err-clause-known g c =
    let read = c.in-Err.ensures in
    serves_known _ _ _ _ _ _ _ c.args.reader.now c.read_request.new.reader (Err c.in-Err.fault)
    (record { message = tt; refused = read.refused; found = read.found; refused_head = read.refused_head; ended = read.ended; long = read.long; malformed = read.malformed; counts = read.counts; clean = tt; fault = read.fault })
    (c.serve_fault.ensures.served, refl)

pub returns-in-Err-clause-served : goal.returns-in-Err-clause-served
returns-in-Err-clause-served g c =
    let read = c.in-Err.ensures in (
      Err c.in-Err.fault,
      record { message = tt; refused = read.refused; found = read.found; refused_head = read.refused_head; ended = read.ended; long = read.long; malformed = read.malformed; counts = read.counts; clean = tt; fault = read.fault },
      (c.serve_fault.ensures.served, refl),
      leaves_all g.R.Registry _ _,
    )

pub returns-in-Err-clause-faults : goal.returns-in-Err-clause-faults
returns-in-Err-clause-faults g c = inl (record { counts = refl; stays_open = λ honest faithful. faithful })

pub returns-in-Ok-clause-replied : goal.returns-in-Ok-clause-replied
returns-in-Ok-clause-replied g c =
    let read = c.in-Ok.ensures in
    let replied = c.serve_message.ensures.replied in
    record {
      read = Ok c.in-Ok.incoming;
      reply = Some replied.0;
      has_read = record { message = read.message; refused = tt; found = read.found; refused_head = read.refused_head; ended = read.ended; long = read.long; malformed = read.malformed; counts = read.counts; clean = read.clean; fault = tt };
      replies = replied.1;
      sends = replied.2;
      leaves = c.serve_message.ensures.leaves;
    }

pub returns-in-Err-clause-replied : goal.returns-in-Err-clause-replied
returns-in-Err-clause-replied g c =
    let read = c.in-Err.ensures in
    let named = named_reply c.args.base.now c.args.writer.now c.serve_fault.new.writer c.in-Err.fault c.serve_fault.result c.serve_fault.ensures.served in
    record {
      read = Err c.in-Err.fault;
      reply = named.0;
      has_read = record { message = tt; refused = read.refused; found = read.found; refused_head = read.refused_head; ended = read.ended; long = read.long; malformed = read.malformed; counts = read.counts; clean = tt; fault = read.fault };
      replies = (named.1, refl);
      sends = named.2;
      leaves = leaves_all g.R.Registry _ _;
    }
