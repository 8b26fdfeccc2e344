use Rattle.std.proofs.Common.{inr}
use Rattle.commands.proofs.comparison.offer_files.Goals as goal

pub returns : goal.returns
returns g c = inr (
  c.in_ok-job.job,
  c.in_ok-sources.sources,
  c.in_ok-job.ensures,
  c.in_ok-sources.ensures,
  c.in_ok-offer_all.ensures,
)
