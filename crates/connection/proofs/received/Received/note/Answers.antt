use Rattle.std.proofs.Common.{◌≡◌, length, subst, rules}
use Rattle.connection.specs.Arriving.{AreUndecided, HasExtent}
use Rattle.connection.proofs.ArrivingLemmas.{all_undecided}
use Rattle.connection.proofs.received.Received.note.Goals as goal

pub invariant_of-self : goal.invariant_of-self
invariant_of-self c =
    let bytes = c.args.self.now.bytes.items in
    let count : length bytes ≡ c.len-self.result = search rules in record {
      undecided = ∣ subst (AreUndecided bytes) count
          (all_undecided bytes c.requires.unfinished (subst (HasExtent bytes) c.in-PartOfHead.is c.requires.extent)) ∣₁;
      length = c.args.self.now.length;
      followed = c.args.self.now.followed;
    }
