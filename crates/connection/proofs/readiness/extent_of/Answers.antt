use Rattle.std.proofs.Common.{List, ℕ, ◌≡◌, ◌∙◌, ◌-◌, ◌++◌, ap, sym, length, replicate, Some, arith}
use Rattle.std.proofs.lemmas.List.{length-replicate}
use Rattle.http_text.specs.Counts.{Reading}
use Rattle.http_text.specs.Message.{body_limit}
use Rattle.connection.proofs.ArrivingLemmas.{length_found, no_body}
use Rattle.connection.proofs.readiness.extent_of.Goals as goal

pub returns-then-saturating_sub-bytes : goal.returns-then-saturating_sub-bytes
returns-then-saturating_sub-bytes c =
    let bytes = c.args.bytes.now in
    let more : List ℕ = replicate body_limit 0 in
    let all : c.as_slice.result.now ≡ bytes ++ more = c.as_slice.ensures.value ∙ c.in-Ok.ensures in
    let size : c.len.result ≡ length (bytes ++ more) = c.len.ensures ∙ sym c.as_slice.ensures.len ∙ ap length all in
    length_found bytes more c.new-input.result.remaining c.read_request.new.reader.remaining c.in-Ok-read_request.request
    c.saturating_sub-whole.result c.left_in.result
    (ap (λ (input : Reading). input.remaining) c.new-input.ensures ∙ ap Some all)
    c.left_in.ensures
    c.in-Ok-read_request.ensures.message
    (c.saturating_sub-whole.ensures ∙ ap (λ (n : ℕ). n - c.left_in.result) size)
    (omega (arith, c.saturating_sub.ensures, ap length c.body.ensures, c.if-saturating_sub-bytes.true))

pub returns-in-Err-Malformed : goal.returns-in-Err-Malformed
returns-in-Err-Malformed c =
    let bytes = c.args.bytes.now in
    let more : List ℕ = replicate body_limit 0 in
    let all : c.as_slice.result.now ≡ bytes ++ more = c.as_slice.ensures.value ∙ c.in-Ok.ensures in
    no_body bytes more c.new-input.result.remaining c.read_request.new.reader.remaining c.in-Err-Malformed.field-0 _
    (ap (λ (input : Reading). input.remaining) c.new-input.ensures ∙ ap Some all)
    (omega (arith, length-replicate {A = ℕ} body_limit 0)) c.in-Err-Malformed.field-0-is c.in-Err-Malformed.ensures.found
