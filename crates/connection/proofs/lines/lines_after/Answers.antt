use Rattle.std.proofs.Common.{◌≡◌, ◌∷◌, drop, sym, ap, ◌∙◌, ℕ, List}
use Rattle.connection.specs.Lines as spec
use Rattle.connection.specs.declared.lines.HeadLines.{HeadLines}
use Rattle.connection.proofs.LineLemmas.{to_the_end, unchanged_before}
use Rattle.connection.proofs.lines.lines_after.Goals as goal

pub loop-byte-preserved : goal.loop-byte-preserved
loop-byte-preserved c =
    let reached = c.loop-byte.reached in
    let rest = c.loop-byte.rest.now in
    let count = c.unchanged_by.result in
    let byte = c.in-Some.byte.now in
    let more = c.in-Some.more.now in
    let split : drop count rest ≡ byte ∷ more = sym (to_the_end count rest) ∙ c.in-Some.ensures.cases.0 in
    let next : c.after-reached.result ≡ spec.line_after reached byte = c.after-reached.ensures in
    ap (λ (lines : HeadLines). spec.lines_after lines more) next
    ∙ ap (λ (bytes : List ℕ). spec.lines_after reached bytes) (sym split)
    ∙ sym (unchanged_before reached count rest c.unchanged_by.ensures.same)
    ∙ c.loop-byte.invariant
