use Rattle.std.proofs.Common.{◌≡◌, ◌+◌, ◌≤◌, ◌++◌, length, take, ap, arith, rules, ◌∙◌, length-append, length-take}
use Rattle.std.proofs.lemmas.Grind.{common_steps}
use Rattle.http_text.specs.Message.{head_limit}
use Rattle.http_text.specs.Parsing.{form_of}
use Rattle.http_text.proofs.FormLaws.{laws_of}
use Rattle.http_text.proofs.HeadLemmas.{head_is_longer, TakesHead-result, TakesRefused-first, TakesRefused-memory}
use Rattle.http_text.proofs.KnownLemmas.{Consumes-kept, Consumes-none}
use Rattle.http_text.proofs.reading.read_head.Goals as goal

pub loop-bytes-init : goal.loop-bytes-init
loop-bytes-init g c =
    let none = c.new-bytes.ensures.items in
    record {
      taken = rw none (Consumes-none c.args.reader.now.remaining);
      undecided = rw none (laws_of c.args.kind).undecided;
      size = rw none (omega arith);
      counts = search rules;
      clean = search rules;
      parses = search rules;
    }

pub overflow_sub-spans : goal.overflow_sub-spans
overflow_sub-spans g c =
    let found = rw c.deref.ensures.value at c.in-Whole.ensures.parsed in
    let is : c.extend_from_slice.new.self.items ≡ c.loop-bytes.bytes.items ++ take c.min-count.result c.look_ahead.new.reader.ahead = grind (arith, common_steps) in
    let long = head_is_longer (form_of c.args.kind) (laws_of c.args.kind) c.loop-bytes.bytes.items _ _ _ c.loop-bytes.invariant.undecided (rw is at found.0) in
    let items = c.loop-bytes.bytes.ok.0 in
    omega arith

pub returns-in-Whole-clause-head : goal.returns-in-Whole-clause-head
returns-in-Whole-clause-head g c =
    let found = rw c.deref.ensures.value at c.in-Whole.ensures.parsed in
    let is : c.extend_from_slice.new.self.items ≡ c.loop-bytes.bytes.items ++ take c.min-count.result c.look_ahead.new.reader.ahead = grind (arith, common_steps) in
    let items = c.loop-bytes.bytes.ok.0 in
    let before : c.len-before.result ≡ length c.loop-bytes.bytes.items = omega arith in
    let sum : length c.extend_from_slice.new.self.items ≡ length c.loop-bytes.bytes.items + length (take c.min-count.result c.look_ahead.new.reader.ahead) = ap length is ∙ length-append _ _ in
    let size : length c.extend_from_slice.new.self.items ≤ head_limit = omega (arith, length-take c.min-count.result c.look_ahead.new.reader.ahead) in
    let more = rw before at c.take.ensures.bytes in
    let room : length c.parse.new.fields ≡ 64 = omega arith in
    let taken = Consumes-kept c.args.reader.now.remaining c.loop-bytes.reader.remaining c.look_ahead.new.reader.remaining c.loop-bytes.bytes.items c.loop-bytes.invariant.taken c.in_ok-look_ahead.ensures.kept in
    TakesHead-result (form_of c.args.kind) (laws_of c.args.kind) _ _ _ c.loop-bytes.bytes.items c.look_ahead.new.reader.ahead c.extend_from_slice.new.self.items c.min-count.result taken is c.loop-bytes.invariant.undecided size
    _ _ found.1 more room _ found.0 c.from_head.ensures.message

pub returns-in-Whole-clause-refused : goal.returns-in-Whole-clause-refused
returns-in-Whole-clause-refused g c =
    let taken = Consumes-kept c.args.reader.now.remaining c.loop-bytes.reader.remaining c.look_ahead.new.reader.remaining c.loop-bytes.bytes.items c.loop-bytes.invariant.taken c.in_ok-look_ahead.ensures.kept in
    TakesRefused-memory (form_of c.args.kind) (laws_of c.args.kind) _ _ _ c.loop-bytes.bytes.items _ _ taken c.take.ensures.bytes c.from_head.ensures.memory

pub returns-in-Refused-clause-refused : goal.returns-in-Refused-clause-refused
returns-in-Refused-clause-refused g c =
    let is : c.extend_from_slice.new.self.items ≡ c.loop-bytes.bytes.items ++ take c.min-count.result c.look_ahead.new.reader.ahead = grind (arith, common_steps) in
    let items = c.loop-bytes.bytes.ok.0 in
    let before : c.len-before.result ≡ length c.loop-bytes.bytes.items = omega arith in
    let sum : length c.extend_from_slice.new.self.items ≡ length c.loop-bytes.bytes.items + length (take c.min-count.result c.look_ahead.new.reader.ahead) = ap length is ∙ length-append _ _ in
    let size : length c.extend_from_slice.new.self.items ≤ head_limit = omega (arith, length-take c.min-count.result c.look_ahead.new.reader.ahead) in
    let taken = Consumes-kept c.args.reader.now.remaining c.loop-bytes.reader.remaining c.look_ahead.new.reader.remaining c.loop-bytes.bytes.items c.loop-bytes.invariant.taken c.in_ok-look_ahead.ensures.kept in
    let first = rw (c.deref-in-Refused.ensures.value, before) at c.first_refusal-refusal.ensures.first in
    let more = rw before at c.take-in-Refused.ensures.bytes in
    TakesRefused-first (form_of c.args.kind) (laws_of c.args.kind) _ _ _
    c.loop-bytes.bytes.items c.look_ahead.new.reader.ahead c.extend_from_slice.new.self.items c.min-count.result
    taken is c.loop-bytes.invariant.undecided size
    c.first_refusal-refusal.result first more
