use Rattle.std.proofs.Common.{◌≡◌, ℕ, ◌+◌, ◌≤◌, ◌∙◌, List, length, get_or, drop, false, Option, Some, None, ap, sym}
use Rattle.std.specs.Prelude.{IfSome}
use Rattle.std.proofs.lemmas.List.{take_rest}
use Rattle.scim_filter.specs.Tokens.{quote_at}
use Rattle.scim_filter.proofs.Lexical.{quote_place}
use Rattle.scim_filter.proofs.tokens.closing_quote.Goals as goal
use Rattle.scim_filter.proofs.tokens.closing_quote.Goals.{After-quote_at}

found : (c : After-quote_at) → c.quote_at.result ≡ quote_at false (drop 1 c.args.text.now)
found c =
    c.quote_at.ensures
    ∙ ap (quote_at false) (take_rest c.as_bytes.result.now 1)
    ∙ ap (λ x. quote_at false (drop 1 x)) c.as_bytes.ensures.value

within : (o : Option ℕ) (bs : List ℕ) → o ≡ quote_at false (drop 1 bs) → IfSome o (λ n. n + 2 ≤ length bs)
within None bs e = tt
within (Some n) bs e = (quote_place bs n (sym e)).0

quoted : (o : Option ℕ) (bs : List ℕ) → o ≡ quote_at false (drop 1 bs) → IfSome o (λ n. get_or bs (n + 1) 0 ≡ 34)
quoted None bs e = tt
quoted (Some n) bs e = (quote_place bs n (sym e)).1

pub returns-clause-value : goal.returns-clause-value
returns-clause-value c = found c

pub returns-clause-within : goal.returns-clause-within
returns-clause-within c = within c.quote_at.result c.args.text.now (found c)

pub returns-clause-quote : goal.returns-clause-quote
returns-clause-quote c = quoted c.quote_at.result c.args.text.now (found c)
