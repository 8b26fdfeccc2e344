-- What a stop leaves of a faithful registry.
use Rattle.std.specs.Prelude.{◌≡◌, List, IsTrue, refl}
use Rattle.std.proofs.Common.{ap, ◌∙◌}
use Rattle.sqlite_trees.specs.declared.store.Store.{Ghosts}
use Rattle.sqlite_trees.specs.Tree.{Trees}
use Rattle.scim_resource.specs.Rows.{StoredRecord}
use Rattle.provider_store.specs.Format.{resource_tree}
use Rattle.provider_store.specs.Rows.{rows_of}
use Rattle.provider_store.specs.Kept.{Kept, IsFaithful, MayHold, kept_rows}

-- a stop leaves only the registry's rows, if the store keeps its last commit
pub kept_settled : {S : Type 0} (g : Ghosts S)
    → ((s : S) (db : Trees) → IsTrue (g.view s).is_open → g.recovers s db → db ≡ (g.view s).committed)
    → (k : Kept S) (found : List StoredRecord) → IsFaithful g k → MayHold g k found → found ≡ kept_rows g k
kept_settled g settled k found faithful may =
    may.2 ∙ ap (λ (t : Trees). rows_of (t resource_tree)) (settled k.conn.store may.0 faithful.is_open may.1)

-- a stop may leave those rows
pub kept_stays : {S : Type 0} (g : Ghosts S)
    → ((s : S) → IsTrue (g.view s).is_open → g.recovers s (g.view s).committed) → (k : Kept S)
    → IsFaithful g k → MayHold g k (kept_rows g k)
kept_stays g stays k faithful = ((g.view k.conn.store).committed, stays k.conn.store faithful.is_open, refl)
