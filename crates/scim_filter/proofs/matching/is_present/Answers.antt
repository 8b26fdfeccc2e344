use Rattle.std.proofs.Common.{◌≡◌, ◌∙◌, ap, sym, true, false, ◌||◌}
use Rattle.scim_filter.specs.Matching.{content_flags, is_exact, some_is, texts_of}
use Rattle.scim_filter.proofs.Values.{some_begins, some_either}
use Rattle.scim_filter.proofs.matching.is_present.Goals as goal

pub returns-in-OfText : goal.returns-in-OfText
returns-in-OfText c = rw c.in-OfText.is (c.some_compares.ensures ∙ some_begins (is_exact c.in-OfText.attribute) (texts_of c.in-OfText.attribute c.args.row.now))

pub returns-then-some_is : goal.returns-then-some_is
returns-then-some_is c =
    let flags = content_flags c.in-OfFlag.attribute c.args.row.now.content in
    let one : some_is true flags ≡ true = cc in
    rw c.in-OfFlag.is (c.if-some_is.true ∙ sym (ap (λ b. b || some_is false flags) one) ∙ some_either flags)

pub returns-else-some_is : goal.returns-else-some_is
returns-else-some_is c =
    let flags = content_flags c.in-OfFlag.attribute c.args.row.now.content in
    let one : some_is true flags ≡ false = cc in
    let two : c.some_is-else-some_is.result ≡ some_is false flags = cc in
    rw c.in-OfFlag.is (two ∙ sym (ap (λ b. b || some_is false flags) one) ∙ some_either flags)
