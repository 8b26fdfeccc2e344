-- A journal that was looked at.
use Rattle.std.proofs.Common.{◌≡◌, Option, Some, None, MatchOption, Ok, inl, inr, refl, subst, sym}
use Rattle.std.specs.Prelude.{⊤, ◌⊎◌}
use Rattle.sqlite_disk.specs.declared.Disk as disk
use Rattle.sqlite_disk.specs.declared.Files.{Files}
use Rattle.sqlite_store.specs.declared.store.FileStore.{FileStore}
use Rattle.sqlite.specs.Files.{Finds, file_state, over_files}
use Rattle.sqlite.specs.Held.{Held}
use Rattle.sqlite.specs.State.{State, HasCleanDisk, Survives}
use Rattle.sql_tables.proofs.Looking.{survives_same}
use Rattle.sql_tables.specs.Layouts.{no_schema}
use Rattle.sql_tables.specs.Statements.{LeavesStore}
use Rattle.journal_core.specs.Entries.{EntryMap}
use Rattle.journal_core.specs.declared.journals.Journal.{Ghosts}
use Rattle.journal_store.specs.Opening.{IsOlder, LeavesStanding}
use Rattle.storage.specs.JournalOpened.{IsOpenedAt, KeepsTables}
use Rattle.journal_store.specs.Kept.{Kept}
use Rattle.storage.specs.Looking.{FindsNoTables, IsUnseen, LooksAt, LooksOlder}
use Rattle.storage.specs.declared.looking.LookFault.{LookFault}
use Rattle.storage.specs.declared.looking.LookFault.TheVariants.{Older, Refused}

-- an opening of the current format leaves what was there
pub stays_so : (old new : State) → Survives old new (LeavesStanding old) → (IsOlder old.now.schema → ⊥) → (old.now.schema ≡ no_schema → ⊥) → Survives old new (λ _. ⊥)
stays_so old new stop current there = record {
  clean = stop.clean;
  shield = stop.shield;
  counts = stop.counts;
  limit = stop.limit;
  closes = stop.closes;
  crash = λ clean db may. elim (stop.crash clean db may) [
    | inl was ↦ inl was
    | inr (inl blank) ↦ absurd (there blank.0)
    | inr (inr (inl second)) ↦ absurd (current (inl (record { form = second.stood.laid.form; is = second.stood.laid.schema })))
    | inr (inr (inr first)) ↦ absurd (current (inr (record { form = first.stood.laid.form; is = first.stood.laid.schema })))
  ];
}

pub same_store : (s : State) → LeavesStore s s
same_store s = record { was_open = λ still. still; committed = λ still. refl }

module _ {D : Type 0} {g : disk.Ghosts D} (conn now : Held (FileStore D g)) where
  -- tables that weren't looked at stay
  pub keeps_unseen : (fault : LookFault) → IsUnseen over_files conn now (Some fault) → KeepsTables (file_state conn) (file_state now)
  keeps_unseen Older unseen =
      let s = file_state conn in
      subst (λ h. KeepsTables s (file_state h)) (sym unseen.0) (record { kept = λ _. same_store s; stop = survives_same s (LeavesStanding s) })
  keeps_unseen (Refused fault) unseen = unseen

  -- the fault of an older format has its cause
  pub older_unseen : {files : Files D} (fault : LookFault) → (HasCleanDisk (file_state conn) → Finds files conn)
      → IsUnseen over_files conn now (Some fault) → LooksOlder files fault (Ok now)
  older_unseen {files} Older found unseen =
      subst (λ h. HasCleanDisk (file_state h) → Finds files h × IsOlder (file_state h).now.schema) (sym unseen.0) (λ clean. (found clean, unseen.1))
  older_unseen (Refused fault) found unseen = tt

module _ {D : Type 0} {g : disk.Ghosts D} where
  -- what is found here is found there, and so are no tables
  pub seen_there : (k : Ghosts (Kept (FileStore D g))) {here there : EntryMap → Type 0} {none : Type 0} (files : Files D) (seen : Option (Kept (FileStore D g)))
      → ((entries : EntryMap) → here entries → there entries) → (FindsNoTables g files → none)
      → MatchOption seen ⊤ (IsOpenedAt k here) → LooksAt files seen → MatchOption seen none (IsOpenedAt k there)
  seen_there k files None leads misses is looks = misses looks
  seen_there k files (Some journal) leads misses is looks = record { opened = is.opened; found = λ honest. leads (k.entries journal) (is.found honest) }

-- nothing was found for one of two reasons
pub or_none : {J : Type 0} (missing none : Type 0) (is : J → Type 0) (seen : Option J) → MatchOption seen none is → MatchOption seen (missing ⊎ none) is
or_none missing none is None it = inr it
or_none missing none is (Some journal) it = it
