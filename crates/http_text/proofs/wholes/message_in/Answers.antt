use Rattle.std.proofs.Common.{◌≡◌, ℕ, List, length, take, ap, ◌∙◌, arith, subst}
use Rattle.std.specs.Prelude.{IfOk}
use Rattle.http_text.specs.Parsing.{form_of, front_message}
use Rattle.http_text.specs.Wholes.{TakesWhole}
use Rattle.http_text.proofs.FormLaws.{laws_of}
use Rattle.http_text.proofs.ListLemmas.{rest_from}
use Rattle.http_text.proofs.WholeLemmas.{no_head, refused_head, outcomes}
use Rattle.http_text.proofs.wholes.message_in.Goals as goal

pub returns-in-Ok : goal.returns-in-Ok
returns-in-Ok c =
    let room : length c.parse.new.fields ≡ 64 = omega arith in
    let made = c.in-Ok.ensures.message ∙ ap (λ (t : List ℕ). front_message t c.parse.new.fields c.in-Whole.spans) c.in_ok-copy-in-Whole.ensures.items in
    let rest = subst (λ (t : List ℕ). IfOk c.with_body.result (TakesWhole (form_of c.args.kind) c.in-Ok.message t)) (rest_from c.in-Whole.spans.len c.args.bytes.now) c.with_body.ensures in
    outcomes (form_of c.args.kind) (laws_of c.args.kind) c.args.bytes.now _ (ap (λ (n : ℕ). take n c.args.bytes.now) c.min.ensures) c.parse.new.fields c.in-Whole.spans c.in-Whole.ensures.parsed.0 c.in-Whole.ensures.parsed.1 room c.in-Ok.message made c.with_body.result rest

pub returns-in-Part : goal.returns-in-Part
returns-in-Part c = no_head (form_of c.args.kind) (laws_of c.args.kind) c.args.bytes.now _ (ap (λ (n : ℕ). take n c.args.bytes.now) c.min.ensures) c.in-Part.ensures.parsed.0.none

pub returns-in-Refused : goal.returns-in-Refused
returns-in-Refused c = refused_head (form_of c.args.kind) (laws_of c.args.kind) c.args.bytes.now _ (ap (λ (n : ℕ). take n c.args.bytes.now) c.min.ensures) c.in-Refused.field-0 c.in-Refused.ensures.parsed
