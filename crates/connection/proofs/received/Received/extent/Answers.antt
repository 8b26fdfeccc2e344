use Rattle.std.proofs.Common.{false, refl}
use Rattle.connection.specs.Lines.{lines_after}
use Rattle.connection.specs.declared.lines.HeadLines.TheVariants.{Blank}
use Rattle.connection.proofs.ArrivingLemmas.{goes_on}
use Rattle.connection.proofs.LineLemmas.{no_body}
use Rattle.connection.proofs.received.Received.extent.Goals as goal

pub returns-else-have_ended : goal.returns-else-have_ended
returns-else-have_ended c =
    let now = c.args.self.now in
    no_body now.bytes.items (goes_on false now.lines (lines_after Blank now.bytes.items) c.if-have_ended.ensures refl now.followed)
