-- What the opening of a journal of an older format leaves.
use Rattle.std.proofs.Common.{◌≡◌, ◌⊎◌, false, true, IsTrue, Result, sym, ◌∙◌, inl, inr, arith}
use Rattle.std.specs.Prelude.{IfErr}
use Rattle.sqlite_trees.specs.Tree.{Trees}
use Rattle.sqlite.specs.State.{State, HasCleanDisk, Survives}
use Rattle.sqlite.proofs.StateLemmas.{survives_then}
use Rattle.std.specs.FinMap.{empty}
use Rattle.journal_core.specs.Entries.{EntryMap}
use Rattle.sql_tables.specs.Layouts.{IsBlank, IsOne}
use Rattle.sql_tables.proofs.Results.{if_err}
use Rattle.sql_tables.specs.Statements.{Looks}
use Rattle.journal_store.specs.Formats.{FormatData, current_format}
use Rattle.journal_store.specs.Older.Formats.{first_format, second_format}
use Rattle.journal_store.specs.Opening.{IsCarriedBy, IsCause, IsFor, IsJournal, IsNewer, IsNotLaid, IsNotLaidBy, IsSpoilt, IsSpoiltBy, IsStore, IsStoreBy, LeavesCarried, LeavesCarriedBy, LeavesStanding, Stands}
use Rattle.journal_store.specs.declared.opening.JournalOpenFault.{JournalOpenFault}
use Rattle.journal_store.proofs.Checking.{is_for}
use Rattle.journal_store.proofs.Reopening.{store_on}

-- given an older format
module _ (f : FormatData) where
  -- what a stop leaves of a journal that was checked and is then carried over
  pub stop_carried : (old mid new : State) → Looks old mid → (HasCleanDisk mid → (entries : EntryMap) × IsStoreBy f old entries) → (HasCleanDisk mid → IsTrue mid.is_open)
      → Survives mid new (LeavesCarriedBy f mid) → Survives old new (LeavesCarriedBy f old)
  stop_carried old mid new looks stands still carries = survives_then old mid new (λ _. ⊥) _ (LeavesCarriedBy f old) (λ late db it. absurd it) (λ late db it.
      let clean : HasCleanDisk mid = omega (arith, late, carries.clean) in
      let was = stands clean in
      let is = store_on old mid was.0 looks was.1 clean (still clean) in
      record { entries = was.0; stood = was.1; are = it.are ∙ sym it.stood.are ∙ is.are; format = it.format; emptied = it.emptied }) looks.quiet carries

  -- if the tables are those of the format and no transaction is open, something in them is invalid
  pub older_spoilt : (s : State) → IsOne f.layout s.now.schema → s.in_transaction ≡ false → IsNotLaidBy f.layout s ⊎ IsSpoiltBy f s → IsSpoiltBy f s
  older_spoilt s older outside (inl other) = absurd (let clash : false ≡ true = sym outside ∙ other older in cc)
  older_spoilt s older outside (inr spoilt) = spoilt

-- a stop that leaves the entries of an older format leaves what stood
pub stop_stands : (old new : State) {P : Trees → Type 0} → ((db : Trees) → P db → LeavesCarried old db) → Survives old new P → Survives old new (LeavesStanding old)
stop_stands old new h it = record { clean = it.clean; shield = it.shield; counts = it.counts; limit = it.limit; closes = it.closes; crash = λ clean db may. elim (it.crash clean db may) [ inl was ↦ inl was | inr left ↦ inr (inr (h db left)) ] }

-- a fault of tables of the current format, if no transaction is open
pub journal_cause : {T : Type 0} (s : State) (r : Result T JournalOpenFault) → IsJournal s.now.schema → s.in_transaction ≡ false → IfErr r (IsFor (IsNewer s) (IsNotLaid s ⊎ IsSpoilt s)) → IfErr r (IsCause s)
journal_cause s r journal outside =
    if_err r (λ fault it. is_for {P = IsNewer s} {Q = IsNewer s} (λ newer. newer) (λ damage. inr (inl (older_spoilt current_format s journal outside damage))) fault it)

-- what stood before an opening, without what it made of it
pub stood : (old new : State) (entries : EntryMap)
    → IsStore old entries ⊎ ((IsCarriedBy second_format old new entries ⊎ IsCarriedBy first_format old new entries) ⊎ (IsBlank old × (entries ≡ empty)))
    → Stands old entries
stood old new entries (inl store) = inl store
stood old new entries (inr (inl (inl second))) = inr (inl (inl second.0))
stood old new entries (inr (inl (inr first))) = inr (inl (inr first.0))
stood old new entries (inr (inr blank)) = inr (inr blank)
