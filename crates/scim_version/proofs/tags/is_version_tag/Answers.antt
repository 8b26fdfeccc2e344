use Rattle.std.proofs.Common.{◌≤◌, ◌∙◌, length, sym, arith, rules}
use Rattle.std.specs.Fmt.{decimal}
use Rattle.scim_version.proofs.Grammar.{decimal_is_tag_bytes}
use Rattle.scim_version.proofs.Versions.{quoted_is_long, bytes_eq-quoted, bytes_eq-unquoted}
use Rattle.scim_version.proofs.tags.is_version_tag.Goals as goal

pub overflow_sub-text : goal.overflow_sub-text
overflow_sub-text c =
    let long : 2 ≤ length c.args.text.now = quoted_is_long _ (sym c.if-is_quoted_text.ensures) in
    omega arith

pub slice_bounds-eq-count : goal.slice_bounds-eq-count
slice_bounds-eq-count c =
    let long : 2 ≤ length c.args.text.now = quoted_is_long _ (sym c.if-is_quoted_text.ensures) in
    omega arith

pub slice_bounds-eq-start : goal.slice_bounds-eq-start
slice_bounds-eq-start c =
    let long : 2 ≤ length c.args.text.now = quoted_is_long _ (sym c.if-is_quoted_text.ensures) in
    search rules

pub returns-then-is_quoted_text : goal.returns-then-is_quoted_text
returns-then-is_quoted_text c =
    let law = bytes_eq-quoted c.args.text.now (decimal c.args.version) (sym c.if-is_quoted_text.ensures) in cc

pub returns-else-is_quoted_text : goal.returns-else-is_quoted_text
returns-else-is_quoted_text c =
    c.if-is_quoted_text.false ∙ sym (bytes_eq-unquoted _ _ (decimal_is_tag_bytes _ c.ranges.version.fits) (sym c.if-is_quoted_text.ensures))
