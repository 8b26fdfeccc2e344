use Rattle.std.proofs.Common.{◌≡◌, ◌<◌, ◌++◌, ◌∙◌, ℕ, List, ap, length, string_bytes, arith}
use Rattle.journal_store.proofs.Decoding.{text_first, text_later}
use Rattle.journal_store.proofs.tables.members_text.Goals as goal
use Rattle.journal_store.proofs.tables.members_text.Goals.{then-at-gt0+in_ok-push_str, else-at-gt0}

pub loop-at-preserved : goal.loop-at-preserved
loop-at-preserved c =
    let keys = c.args.keys.now in
    let at = c.loop-at.at in
    let key : List ℕ = c.index-keys-at.result in
    let fits : at < length keys = omega (arith, c.loop-at-test.true) in
    let pushed : string_bytes c.push_str-in-loop-at.new.self ≡ string_bytes c.if-at-gt0.text ++ key =
    c.in_ok-push_str-2.ensures.bytes ∙ ap (λ (b : List ℕ). string_bytes c.if-at-gt0.text ++ b) c.as_str.ensures.value in (
      elim c.if-at-gt0.branch [
        | then-at-gt0+in_ok-push_str w ↦
            text_later keys at key (string_bytes c.loop-at.text) _ fits c.index-keys-at.is w.if-at-gt0.true c.loop-at.invariant.0
            (pushed ∙ ap (λ (b : List ℕ). b ++ key) (ap string_bytes w.text-is ∙ w.in_ok-push_str.ensures.bytes))
        | else-at-gt0 w ↦
            text_first keys at key (string_bytes c.loop-at.text) _ fits c.index-keys-at.is (omega (arith, w.if-at-gt0.false)) c.loop-at.invariant.0
            (pushed ∙ ap (λ (b : List ℕ). b ++ key) (ap string_bytes w.text-is))
      ],
      omega (arith, fits),
    )
