use Rattle.std.proofs.Common.{◌≡◌, ◌∙◌, ap}
use Rattle.std.specs.List.{prefix_len}
use Rattle.scim_filter.specs.Tokens.{is_space}
use Rattle.scim_filter.proofs.Cuts.{space_last, space_some}
use Rattle.scim_filter.proofs.tokens.gap_at.Goals as goal

pub after-requires-clause-within : goal.after-requires-clause-within
after-requires-clause-within c =
    let e : c.count_spaces-count.result ≡ prefix_len is_space c.args.text.now = c.count_spaces-count.ensures ∙ ap (prefix_len is_space) c.as_bytes.ensures.value in
    (space_last c.args.text.now c.count_spaces-count.result e (rw e (space_some c.args.text.now c.requires))).0

pub after-requires-clause-ascii : goal.after-requires-clause-ascii
after-requires-clause-ascii c =
    let e : c.count_spaces-count.result ≡ prefix_len is_space c.args.text.now = c.count_spaces-count.ensures ∙ ap (prefix_len is_space) c.as_bytes.ensures.value in
    (space_last c.args.text.now c.count_spaces-count.result e (rw e (space_some c.args.text.now c.requires))).1
