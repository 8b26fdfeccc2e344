use Rattle.std.proofs.Common.{◌≡◌, ◌∙◌, ap, arith, sym, inr}
use Rattle.std.specs.List.{prefix_len}
use Rattle.scim_filter.specs.Tokens.{is_word_byte}
use Rattle.scim_filter.proofs.Cuts.{word_byte_last}
use Rattle.scim_filter.proofs.Lexical.{no_word_at}
use Rattle.scim_filter.proofs.tokens.word_at.Goals as goal

pub returns-then-count-eq0 : goal.returns-then-count-eq0
returns-then-count-eq0 c = inr (no_word_at c.args.text.now (ap (prefix_len is_word_byte) (sym c.as_bytes.ensures.value) ∙ sym c.count_word_bytes-count.ensures ∙ c.if-count-eq0.true))

pub before-requires-clause-within : goal.before-requires-clause-within
before-requires-clause-within c =
    let e : c.count_word_bytes-count.result ≡ prefix_len is_word_byte c.args.text.now = c.count_word_bytes-count.ensures ∙ ap (prefix_len is_word_byte) c.as_bytes.ensures.value in
    (word_byte_last c.args.text.now c.count_word_bytes-count.result e (omega arith)).0

pub before-requires-clause-ascii : goal.before-requires-clause-ascii
before-requires-clause-ascii c =
    let e : c.count_word_bytes-count.result ≡ prefix_len is_word_byte c.args.text.now = c.count_word_bytes-count.ensures ∙ ap (prefix_len is_word_byte) c.as_bytes.ensures.value in
    (word_byte_last c.args.text.now c.count_word_bytes-count.result e (omega arith)).1

pub after-requires-clause-ascii : goal.after-requires-clause-ascii
after-requires-clause-ascii c =
    let e : c.count_word_bytes-count.result ≡ prefix_len is_word_byte c.args.text.now = c.count_word_bytes-count.ensures ∙ ap (prefix_len is_word_byte) c.as_bytes.ensures.value in
    (word_byte_last c.args.text.now c.count_word_bytes-count.result e (omega arith)).1
