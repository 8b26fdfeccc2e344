-- What a journal in SQLite keeps, and when its claims about the entries hold.
use Rattle.std.specs.Prelude.{◌≡◌, ℕ, Bool, false, IsTrue, Result, Err, refl}
use Rattle.std.specs.Coded.{Coded, code_by, coded×, coded_ℕ, coded_bool}
use Rattle.sqlite_trees.specs.declared.store.Store.{Ghosts}
use Rattle.sqlite_trees.specs.Tree.{Trees}
use Rattle.sqlite.specs.Held.{Held, held_code, state}
use Rattle.sqlite.specs.State.{HasCleanDisk}
use Rattle.journal_core.specs.Entries.{EntryMap}
use Rattle.scim_key.specs.declared.stores.StoreFault.{StoreFault}
use Rattle.scim_key.specs.declared.stores.StoreFault.TheVariants.{Store}
use Rattle.journal_store.specs.Rows.{entries_in}
use Rattle.journal_store.specs.Connections.{HasNumbers, IsLaid}

pub record Kept (S : Type 0) : Type 0 where
  pub conn : Held S
  -- no reopening has failed
  pub is_usable : Bool
  pub faults : ℕ
  pub writes : ℕ

abbrev pub kept_code : {S : Type 0} → Coded S → Coded (Kept S)
kept_code {S} store =
    code_by (Held S × (Bool × (ℕ × ℕ))) (coded× (held_code store) (coded× coded_bool (coded× coded_ℕ coded_ℕ)))
    (λ k. (k.conn, (k.is_usable, (k.faults, k.writes))))
    (λ p. record { conn = p.0; is_usable = p.1.0; faults = p.1.1.0; writes = p.1.1.1 })
    (λ _. refl)

-- after a reopening that failed, a call returns only a fault of the store
abbrev pub IsRefused : {S T : Type 0} → Kept S → Result T StoreFault → Type 0
IsRefused k result = k.is_usable ≡ false → result ≡ Err Store

module _ {S : Type 0} (g : Ghosts S) where
  -- the entries that the last commit left
  abbrev pub kept_entries : Kept S → EntryMap
  kept_entries k = entries_in (state g k.conn).committed.trees

  -- the tables are laid out, and each row has a number of its own
  pub record IsWhole (k : Kept S) : Type 0 where
    pub laid : IsLaid (state g k.conn)
    pub numbers : HasNumbers (state g k.conn).now.trees

  -- the disk has returned what was written
  abbrev pub IsHonest : Kept S → Type 0
  IsHonest k = HasCleanDisk (state g k.conn)

  -- the disk has returned what was written, the connection is open, and no reopening has failed
  pub record IsFaithful (k : Kept S) : Type 0 where
    pub clean : HasCleanDisk (state g k.conn)
    pub is_open : IsTrue (state g k.conn).is_open
    pub usable : IsTrue k.is_usable
    pub whole : IsWhole k

  -- a stop may leave trees that hold these entries
  abbrev pub MayHold : Kept S → EntryMap → Type 0
  MayHold k found = (db : Trees) × (state g k.conn).may_leave db × (found ≡ entries_in db)

  -- what always holds
  abbrev pub IsSound : Kept S → Type 0
  IsSound k = HasCleanDisk (state g k.conn) → IsTrue (state g k.conn).is_open → IsTrue k.is_usable → IsWhole k
