use Rattle.std.proofs.Common.{◌≡◌, ℕ, ◌-◌, ◌*◌, ◌/◌, ◌≤◌, ◌<◌, true, length, nat_le, nat_lt, sym, ◌∙◌, arith, rules}
use Rattle.std.proofs.Math.Logic.{∥∥₁_map}
use Rattle.std.proofs.lemmas.Bool.Decides.{nat_tests}
use Rattle.http_text.specs.Message.{head_limit}
use Rattle.connection.specs.Lines.{lines_after}
use Rattle.connection.specs.declared.lines.HeadLines.TheVariants.{Blank}
use Rattle.connection.proofs.ArrivingLemmas.{goes_on, put_off}
use Rattle.connection.proofs.received.Received.is_put_off.Goals as goal
use Rattle.connection.proofs.received.Received.is_put_off.Goals.{then-size-lt-HEAD_LIMIT, else-size-lt-HEAD_LIMIT}

is_short : (size : ℕ) → nat_lt size head_limit ≡ true → size < head_limit
is_short size test = grind (arith, nat_tests)

-- at most an eighth
eighth : (more read : ℕ) → nat_le more (read / 8) ≡ true → more * 8 ≤ read
eighth more read test = grind (arith, nat_tests)

pub returns-then-more-self-clause-waits : goal.returns-then-more-self-clause-waits
returns-then-more-self-clause-waits c =
    let bytes = c.args.self.now.bytes.items in
    let read = c.args.self.now.read in
    let more = c.saturating_sub-more.result in
    let size : length bytes ≡ c.len-size.result = search rules in
    let within : (c.len-size.result < head_limit) × (more * 8 ≤ read) = elim c.if-size-lt-HEAD_LIMIT.branch [
      | then-size-lt-HEAD_LIMIT w ↦ (omega (arith, w.if-size-lt-HEAD_LIMIT.true), eighth more read (sym w.value-is ∙ c.if-more-self.true))
      | else-size-lt-HEAD_LIMIT w ↦
          let below : c.len-size.result < head_limit = is_short c.len-size.result (sym w.value-is ∙ c.if-more-self.true) in
          absurd (omega (arith, below, w.if-size-lt-HEAD_LIMIT.false))
    ] in
    let short : length bytes < head_limit = omega (arith, size, within.0) in
    let few : (length bytes - read) * 8 ≤ read = omega (arith, size, c.saturating_sub-more.ensures, within.1) in
    λ unended. ∥∥₁_map c.args.self.now.undecided
    (λ has. put_off bytes read has short few
    (goes_on c.have_ended.result c.args.self.now.lines (lines_after Blank bytes) c.have_ended.ensures unended c.args.self.now.followed))
