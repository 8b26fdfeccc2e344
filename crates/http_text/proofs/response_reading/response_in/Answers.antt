use Rattle.std.proofs.Common.{rules, ◌≡◌, ◌≢◌, ◌++◌, [], Some, ap, sym, ◌∙◌}
use Rattle.std.proofs.lemmas.List.{append-nil}
use Rattle.http_text.specs.Heads.{IsStreamFault}
use Rattle.http_text.proofs.InterimLemmas.{all_taken}
use Rattle.http_text.proofs.response_reading.response_in.Goals as goal

pub returns-in-Ok : goal.returns-in-Ok
returns-in-Ok c m is =
    let all : c.new-reader.result.remaining ≡ Some (c.args.bytes.now ++ []) =
    ap (λ r. r.remaining) c.new-reader.ensures ∙ ap Some (sym (append-nil c.args.bytes.now)) in
    let more : c.read_response.new.reader.remaining ≢ Some [] = search rules in
    more (c.in-Ok.ensures.found c.args.bytes.now [] m all is).1

pub returns : goal.returns
returns c m is =
    let all : c.new-reader.result.remaining ≡ Some (c.args.bytes.now ++ []) =
    ap (λ r. r.remaining) c.new-reader.ensures ∙ ap Some (sym (append-nil c.args.bytes.now)) in
    let other : ¬ (IsStreamFault c.in-Err.fault) = search rules in
    other (c.in-Err.ensures.found c.args.bytes.now [] m all is)

pub returns-then-is_read_up : goal.returns-then-is_read_up
returns-then-is_read_up c =
    let none : c.read_response.new.reader.remaining ≡ Some [] = search rules in
    all_taken c.args.bytes.now _ _ c.in-Ok.response (ap (λ r. r.remaining) c.new-reader.ensures) none c.in-Ok.ensures.message
