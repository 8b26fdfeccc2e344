use Rattle.std.proofs.Common.{sym}
use Rattle.clap.specs.Matches.{found_of}
use Rattle.commands.proofs.CheckLemmas.{checked}
use Rattle.commands.proofs.comparison.check_named.Goals as goal

pub returns : goal.returns
returns g c =
    let ends = rw c.at-service.ensures at c.check_to.ensures in
    checked _ _ _ _ _ _ (found_of c.args.words.now) _ c.in_ok-keeps.keeps c.in_ok-streams.streams c.in_ok-connector.connector
    c.offer_files.new.connector c.in_ok-are_taken.are_taken c.check_to.new.out.last c.check_to.result
    c.in_ok-at.ensures (sym c.in_ok-keeps.ensures) c.in_ok-streams.ensures c.in_ok-connector.ensures
    c.in_ok-are_taken.ensures ends
