-- The calls of a reset.
use Rattle.std.proofs.Common.{◌≡◌, ℕ, List, None, Ok, subst}
use Rattle.sqlite_value.specs.Order.{Row}
use Rattle.sqlite_trees.specs.declared.store.Store.{Ghosts}
use Rattle.sqlite.specs.Does.{Does}
use Rattle.sqlite.specs.Listing.{understood}
use Rattle.sqlite.specs.State.{State}
use Rattle.scim_key.specs.declared.records.Kind.{Kind}
use Rattle.journal_core.specs.Entries.{EntryMap}
use Rattle.scim_key.specs.declared.stores.StoreFault.{StoreFault}
use Rattle.sql_tables.specs.Statements.{Ran, plain_mode}
use Rattle.sql_tables.proofs.Editing.{command_is, edits_by}
use Rattle.journal_store.specs.Calls.{Writes}
use Rattle.journal_store.specs.Connections.{Commits, IsEditText, IsLaid}
use Rattle.journal_store.specs.Kept.{Kept}
use Rattle.journal_store.specs.Resets.{IsListed, ResetsOne, none_values, reset_text}
use Rattle.journal_store.proofs.Calls.{fault_as}
use Rattle.journal_store.proofs.Resetting.{reset_is, resets_by}
use Rattle.journal_store.proofs.Unlearning.{all_show}

-- ---- the statement

pub reset_edits : (kind : Kind) → IsEditText (reset_text kind)
reset_edits kind = edits_by (reset_is kind) tt

pub reset_made : (old new : State) (kind : Kind) (sql : List ℕ) (params : Row) → sql ≡ reset_text kind → params ≡ none_values → IsLaid old → IsListed kind old.now.trees → Ran sql params old new → Commits (ResetsOne kind) old new
reset_made old new kind sql params text none laid listed ran =
    let command = command_is (reset_is kind) old ran.compiled laid (subst (λ t. understood old.now.schema t ≡ Ok ran.compiled) text ran.is) in
    let made = resets_by ran.limit laid.form old.now new.now ran.tally ran.text laid.schema kind listed.numbered (all_show kind old.now.trees listed.list listed.shows)
    (subst (λ k. Does ran.limit plain_mode none_values old.now ran.text None k (Ok (ran.tally, new.now))) command (subst (λ p. Does ran.limit plain_mode p old.now ran.text None ran.compiled.command (Ok (ran.tally, new.now))) none ran.does)) in
    record {
      was_open = ran.was_open;
      is_open = ran.is_open;
      laid = record { form = laid.form; schema = made.0; committed = (ran.settled laid.autocommit).0; autocommit = (ran.settled laid.autocommit).1 };
      puts = made.1;
    }

-- ---- the call

module _ {S : Type 0} (g : Ghosts S) where
  -- a fault of a call that writes, as the result of another call
  pub failed_so : {T : Type 0} (U : Type 0) {old new : Kept S} {later : EntryMap} {fault : StoreFault} → Writes g old new later (fault_as T fault) → Writes g old new later (fault_as U fault)
  failed_so U w = record { was = w.was; done = w.done; same = w.same; honest = w.honest; stop = w.stop; counted = w.counted; written = w.written; unwritten = w.unwritten }
