-- What a stop leaves of a faithful journal.
use Rattle.std.specs.Prelude.{◌≡◌, IsTrue, refl}
use Rattle.std.proofs.Common.{ap, ◌∙◌}
use Rattle.sqlite_trees.specs.declared.store.Store.{Ghosts}
use Rattle.sqlite_trees.specs.Tree.{Trees}
use Rattle.journal_core.specs.Entries.{EntryMap}
use Rattle.journal_store.specs.Rows.{entries_in}
use Rattle.journal_store.specs.Kept.{Kept, IsFaithful, MayHold, kept_entries}

-- a stop leaves only the journal's entries, if the store keeps its last commit
pub kept_settled : {S : Type 0} (g : Ghosts S)
    → ((s : S) (db : Trees) → IsTrue (g.view s).is_open → g.recovers s db → db ≡ (g.view s).committed)
    → (k : Kept S) (found : EntryMap) → IsFaithful g k → MayHold g k found → found ≡ kept_entries g k
kept_settled g settled k found faithful may = may.2 ∙ ap entries_in (settled k.conn.store may.0 faithful.is_open may.1)

-- a stop may leave those entries
pub kept_stays : {S : Type 0} (g : Ghosts S)
    → ((s : S) → IsTrue (g.view s).is_open → g.recovers s (g.view s).committed) → (k : Kept S)
    → IsFaithful g k → MayHold g k (kept_entries g k)
kept_stays g stays k faithful = ((g.view k.conn.store).committed, stays k.conn.store faithful.is_open, refl)
