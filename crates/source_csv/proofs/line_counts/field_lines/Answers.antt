use Rattle.std.proofs.Common.{◌∙◌, refl, sym}
use Rattle.source_csv.proofs.LineLemmas.{no_line_end}
use Rattle.source_csv.proofs.line_counts.field_lines.Goals as goal

pub returns-then-is_one_line : goal.returns-then-is_one_line
returns-then-is_one_line c = rw (no_line_end c.args.field.now (sym c.is_one_line.ensures ∙ c.if-is_one_line.true)) refl
