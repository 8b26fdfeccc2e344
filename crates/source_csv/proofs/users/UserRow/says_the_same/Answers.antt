use Rattle.std.proofs.Common.{◌∙◌, sym}
use Rattle.source_csv.proofs.RowLemmas.{user_said, user_says_itself}
use Rattle.source_csv.proofs.users.UserRow.says_the_same.Goals as goal

pub returns-clause-equal : goal.returns-clause-equal
returns-clause-equal c = (
  λ t. user_said c.args.self.now c.args.other.now (sym c.matches_but_revision.ensures ∙ t),
  λ e. c.matches_but_revision.ensures ∙ user_says_itself c.args.self.now c.args.other.now e,
)
