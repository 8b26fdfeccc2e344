use Rattle.std.proofs.Common.{◌∙◌, sym}
use Rattle.source_csv.proofs.RowLemmas.{group_said, group_says_itself}
use Rattle.source_csv.proofs.groups.GroupRow.says_the_same.Goals as goal

pub returns-clause-equal : goal.returns-clause-equal
returns-clause-equal c = (
  λ t. group_said c.args.self.now c.args.other.now (sym c.matches_but_revision.ensures ∙ t),
  λ e. c.matches_but_revision.ensures ∙ group_says_itself c.args.self.now c.args.other.now e,
)
