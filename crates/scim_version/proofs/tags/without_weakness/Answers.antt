use Rattle.std.proofs.Common.{rules, sym, ◌≤◌, length}
use Rattle.scim_version.proofs.Grammar.{weak_is_long}
use Rattle.scim_version.proofs.tags.without_weakness.Goals as goal

pub slice_bounds-result-count : goal.slice_bounds-result-count
slice_bounds-result-count c = weak_is_long _ (sym c.if-is_weak_tag.ensures)

pub slice_bounds-result-start : goal.slice_bounds-result-start
slice_bounds-result-start c =
    let long : 2 ≤ length c.args.tag.now = weak_is_long _ (sym c.if-is_weak_tag.ensures) in
    search rules
