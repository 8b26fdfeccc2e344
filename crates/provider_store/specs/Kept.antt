-- What a registry in SQLite keeps, and when its claims about the rows hold.
use Rattle.std.specs.Prelude.{◌≡◌, ℕ, Bool, false, List, length, IsTrue, Result, Err, refl}
use Rattle.std.specs.Coded.{Coded, code_by, coded×, coded_ℕ, coded_bool}
use Rattle.sqlite_trees.specs.declared.store.Store.{Ghosts}
use Rattle.sqlite_trees.specs.Tree.{Trees}
use Rattle.sqlite.specs.Held.{Held, held_code, state}
use Rattle.sqlite.specs.State.{HasCleanDisk}
use Rattle.scim_resource.specs.Rows.{StoredRecord}
use Rattle.scim_key.specs.declared.stores.StoreFault.{StoreFault}
use Rattle.scim_key.specs.declared.stores.StoreFault.TheVariants.{Store}
use Rattle.provider_store.specs.Format.{resource_tree}
use Rattle.provider_store.specs.Rows.{Holds, rows_of}
use Rattle.provider_store.specs.Connections.{IsLaid, resources}

pub record Kept (S : Type 0) : Type 0 where
  pub conn : Held S
  -- no reopening has failed
  pub is_usable : Bool
  -- how many rows there are
  pub count : ℕ
  pub faults : ℕ
  pub writes : ℕ

abbrev pub kept_code : {S : Type 0} → Coded S → Coded (Kept S)
kept_code {S} store =
    code_by (Held S × (Bool × (ℕ × (ℕ × ℕ))))
    (coded× (held_code store) (coded× coded_bool (coded× coded_ℕ (coded× coded_ℕ coded_ℕ))))
    (λ k. (k.conn, (k.is_usable, (k.count, (k.faults, k.writes)))))
    (λ p. record { conn = p.0; is_usable = p.1.0; count = p.1.1.0; faults = p.1.1.1.0; writes = p.1.1.1.1 })
    (λ _. refl)

-- after a reopening that failed, a call returns only a fault of the store
abbrev pub IsRefused : {S T : Type 0} → Kept S → Result T StoreFault → Type 0
IsRefused k result = k.is_usable ≡ false → result ≡ Err Store

module _ {S : Type 0} (g : Ghosts S) where
  -- the rows that the last commit left
  abbrev pub kept_rows : Kept S → List StoredRecord
  kept_rows k = rows_of ((state g k.conn).committed.trees resource_tree)

  -- the tables are laid out, and hold the rows
  pub record IsWhole (k : Kept S) : Type 0 where
    pub laid : IsLaid (state g k.conn)
    pub holds : Holds (resources (state g k.conn)) (kept_rows k)
    pub counted : k.count ≡ length (kept_rows k)

  -- the disk has returned what was written
  abbrev pub IsHonest : Kept S → Type 0
  IsHonest k = HasCleanDisk (state g k.conn)

  -- the disk has returned what was written, the connection is open, and no reopening has failed
  pub record IsFaithful (k : Kept S) : Type 0 where
    pub clean : HasCleanDisk (state g k.conn)
    pub is_open : IsTrue (state g k.conn).is_open
    pub usable : IsTrue k.is_usable
    pub whole : IsWhole k

  -- a stop may leave trees that hold these rows
  abbrev pub MayHold : Kept S → List StoredRecord → Type 0
  MayHold k found = (db : Trees) × (state g k.conn).may_leave db × (found ≡ rows_of (db resource_tree))

  -- what always holds
  abbrev pub IsSound : Kept S → Type 0
  IsSound k = HasCleanDisk (state g k.conn) → IsTrue (state g k.conn).is_open → IsTrue k.is_usable → IsWhole k
