use Rattle.std.proofs.Common.{◌+◌, ◌-◌, ◌/◌, arith}
use Rattle.std.proofs.Math.Seq.{take-length}
use Rattle.http_text.specs.Parsing.{form_of}
use Rattle.http_text.proofs.FormLaws.{laws_of}
use Rattle.http_text.proofs.RefusalLemmas.{halved, refused_front}
use Rattle.http_text.proofs.parsing.MessageKind.first_refusal.Goals as goal

pub halve-init : goal.halve-init
halve-init c = record {
  begun = c.requires.begun;
  within = omega arith;
  after = omega arith;
  before = c.requires.before;
  refused = rw (take-length c.args.bytes.now) c.requires.refused;
  halvings = (14, omega arith, omega arith);
}

pub halve-preserved-in-Part : goal.halve-preserved-in-Part
halve-preserved-in-Part c =
    let n = c.halve.invariant.halvings in
    let m = halved n.0 (c.halve.high - c.halve.low) (omega arith) n.1 in
    record {
      begun = omega arith;
      within = c.halve.invariant.within;
      after = omega arith;
      before = c.in-Part.ensures.parsed.0;
      refused = c.halve.invariant.refused;
      halvings = (m.0, omega (arith, m.2), omega (arith, n.2, m.1, c.in-Part.ensures.counted));
    }

pub halve-preserved : goal.halve-preserved
halve-preserved c =
    let n = c.halve.invariant.halvings in
    let m = halved n.0 (c.halve.high - c.halve.low) (omega arith) n.1 in
    record {
      begun = omega arith;
      within = omega arith;
      after = c.halve.invariant.after;
      before = c.halve.invariant.before;
      refused = c.in-Refused.ensures.parsed;
      halvings = (m.0, omega (arith, m.2), omega (arith, n.2, m.1, c.in-Refused.ensures.counted));
    }

pub returns-in-Whole-clause-first : goal.returns-in-Whole-clause-first
returns-in-Whole-clause-first c =
    let found = c.in-Whole.ensures.parsed in
    absurd (refused_front (form_of c.args.self) (laws_of c.args.self) c.args.bytes.now
    (c.halve.low + (c.halve.high - c.halve.low) / 2) c.halve.high c.halve.fault _ _
    (omega arith) c.halve.invariant.refused found.0 found.1 (omega arith))
