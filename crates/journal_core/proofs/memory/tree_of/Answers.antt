use Rattle.std.proofs.Common.{◌≡◌, ◌++◌, [], ◌∷◌, rules}
use Rattle.journal_core.proofs.Kept.{last-put}
use Rattle.journal_core.proofs.memory.tree_of.Goals as goal

pub loop-entry-preserved-in_ok-insert : goal.loop-entry-preserved-in_ok-insert
loop-entry-preserved-in_ok-insert c =
    let last : c.loop-entry.list.items ≡ c.pop.new.self.items ++ c.in-Some.entry ∷ [] = search rules in
    last-put c.loop-entry.entries c.insert.new.self c.args.list.items c.loop-entry.list.items c.pop.new.self.items c.loop-entry.invariant.0 c.in_ok-name.name c.in-Some.entry
    c.loop-entry.invariant.1 last c.loop-entry.invariant.2 c.loop-entry.invariant.3 c.in_ok-name.ensures (search rules) (search rules)

pub loop-entry-preserved : goal.loop-entry-preserved
loop-entry-preserved c =
    let last : c.loop-entry.list.items ≡ c.pop.new.self.items ++ c.in-Some.entry ∷ [] = search rules in
    last-put c.loop-entry.entries c.insert.new.self c.args.list.items c.loop-entry.list.items c.pop.new.self.items c.loop-entry.invariant.0 c.in_ok-name.name c.in-Some.entry
    c.loop-entry.invariant.1 last c.loop-entry.invariant.2 c.loop-entry.invariant.3 c.in_ok-name.ensures (search rules) (search rules)
