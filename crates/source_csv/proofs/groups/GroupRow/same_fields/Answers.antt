use Rattle.std.proofs.Common.{◌∙◌, sym}
use Rattle.source_csv.proofs.RowLemmas.{group_from_test, group_itself}
use Rattle.source_csv.proofs.groups.GroupRow.same_fields.Goals as goal

pub returns-clause-equal : goal.returns-clause-equal
returns-clause-equal c = (
  λ t. group_from_test c.args.self.now c.args.other.now (sym c.matches.ensures ∙ t),
  λ e. c.matches.ensures ∙ rw (← e) (group_itself c.args.self.now),
)
