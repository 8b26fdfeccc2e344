use Rattle.std.proofs.Common.{◌≡◌, ◌∙◌, ap, codes, List, ℕ, nat_eq}
use Rattle.std.specs.List.{starts_with}
use Rattle.std.proofs.lemmas.Str.Ascii.{trim_ascii_start_is}
use Rattle.http_text.proofs.judge.has_method_head.Goals as goal

pub returns : goal.returns
returns c =
    let trimmed = trim_ascii_start_is c.args.bytes.now c.trim_ascii_start.result.now c.trim_ascii_start.ensures.value in
    c.starts_with.ensures.value ∙ ap (λ (t : List ℕ). starts_with nat_eq t (codes "HEAD ")) trimmed
