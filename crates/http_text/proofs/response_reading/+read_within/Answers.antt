use Rattle.std.proofs.Common.{rules, ◌≡◌, ◌-◌, suc, true, false, arith}
use Rattle.std.proofs.lemmas.Result.{err_from_is_err_and}
use Rattle.http_text.specs.Judging.{is_interim}
use Rattle.http_text.proofs.InterimLemmas.{takes_final, refuses_first, all_taken_behind, all_refused_behind}
use Rattle.http_text.proofs.response_reading.+read_within.Goals as goal

pub returns-in_err-message-clause-refused : goal.returns-in_err-message-clause-refused
returns-in_err-message-clause-refused g t c =
    let p = err_from_is_err_and c.from_residual.result c.from_residual.ensures.1 in
    rw (p.1, p.2) (refuses_first c.args.room _ _ _ c.in_err-message.ensures.refused)

pub returns-then-not-is_interim-clause-message : goal.returns-then-not-is_interim-clause-message
returns-then-not-is_interim-clause-message g t c =
    let last : is_interim c.in_ok-message.message.head ≡ false = search rules in
    takes_final c.args.room _ _ c.in_ok-message.message last c.in_ok-message.ensures.message

pub returns-clause-message : goal.returns-clause-message
returns-clause-message g t c =
    let interim : is_interim c.in_ok-message.message.head ≡ true = search rules in
    let less : c.args.room ≡ suc (c.args.room - 1) = omega (arith, c.if-room-eq0.false) in
    all_taken_behind c.args.room (c.args.room - 1) less _ _ _ c.in_ok-message.message interim c.in_ok-message.ensures.message c.read_within.result c.read_within.ensures.message

pub returns-clause-refused : goal.returns-clause-refused
returns-clause-refused g t c =
    let interim : is_interim c.in_ok-message.message.head ≡ true = search rules in
    let less : c.args.room ≡ suc (c.args.room - 1) = omega (arith, c.if-room-eq0.false) in
    all_refused_behind c.args.room (c.args.room - 1) less _ _ _ c.in_ok-message.message interim c.in_ok-message.ensures.message c.read_within.result c.read_within.ensures.refused
