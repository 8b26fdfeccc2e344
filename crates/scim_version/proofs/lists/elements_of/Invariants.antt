use Rattle.std.proofs.Common.{◌≡◌, ◌≤◌, map}
use Rattle.scim_version.specs.Lists.{elements}
use Rattle.scim_version.proofs.Parts.{unread}
use Rattle.scim_version.proofs.lists.elements_of.Given as goal

abbrev pub invariant-loop-i : goal.invariant-loop-i
invariant-loop-i l =
    record {
      begun : l.start ≤ l.i;
      all : unread (map (λ e. e.now) l.found.items) l.text l.start l.quoted l.i ≡ elements l.text;
    }
