use Rattle.std.proofs.Common.{◌≡◌, ◌<◌, ◌∙◌, true, ◌&&◌, get_or, arith}
use Rattle.std.specs.Char.{is_ascii_digit, digit_value}
use Rattle.std.proofs.lemmas.Bool.Decides.{nat_tests}
use Rattle.std.proofs.lemmas.Int.Digits.{digits_value_more}
use Rattle.std.proofs.lemmas.List.Folds.{list_all_more}
use Rattle.http_text.proofs.DigitLemmas.{small_more, small_in_all}
use Rattle.http_text.proofs.judge.read_length.Goals as goal

pub overflow_mul-length : goal.overflow_mul-length
overflow_mul-length c =
    let small = small_in_all c.loop-digit.length 0 c.loop-digit.digit-index (omega arith) c.loop-digit.invariant.small (omega arith) in
    omega arith

pub overflow_add-length : goal.overflow_add-length
overflow_add-length c =
    let digit : c.from.result < 10 = grind (arith, nat_tests) in
    let small = small_in_all c.loop-digit.length c.from.result c.loop-digit.digit-index (omega arith) c.loop-digit.invariant.small digit in
    omega arith

pub loop-digit-preserved : goal.loop-digit-preserved
loop-digit-preserved c =
    let is_digit : is_ascii_digit (get_or c.args.text.now c.loop-digit.digit-index 0) ≡ true = grind (arith, nat_tests) in
    let value : digit_value (get_or c.args.text.now c.loop-digit.digit-index 0) ≡ c.from.result = grind (arith, nat_tests) in
    let digit : c.from.result < 10 = grind (arith, nat_tests) in
    record {
      value = omega (arith, digits_value_more 10 c.args.text.now c.loop-digit.digit-index c.loop-digit-test.true, c.loop-digit.invariant.value);
      digits = list_all_more is_ascii_digit c.args.text.now c.loop-digit.digit-index 0 c.loop-digit-test.true ∙ (λ k. c.loop-digit.invariant.digits k && is_digit k);
      small = small_more c.loop-digit.length c.from.result c.loop-digit.digit-index c.loop-digit.invariant.small digit;
    }
