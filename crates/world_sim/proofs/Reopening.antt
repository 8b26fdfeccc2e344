-- A journal that is opened again, and then read.
use Rattle.std.proofs.Common.{◌∙◌, ℕ, Result, Ok, Err, OnOk, sym, subst}
use Rattle.journal_core.specs.Calls.{OpensAgain, Reads}
use Rattle.journal_core.specs.Stores.{CountsFault, CountsFaults}
use Rattle.journal_core.specs.declared.journals.Journal.{Ghosts as Journals}
use Rattle.scim_key.specs.declared.stores.StoreFault.{StoreFault}
use Rattle.scim_key.specs.declared.stores.StoreFault.TheVariants as store
use Rattle.world_sim.specs.Events.{store_fault}
use Rattle.world_sim.specs.Sides.{CountsWorldFault}
use Rattle.world_sim.specs.declared.reports.WorldFault.{WorldFault}

counted_so : (old new : ℕ) (fault : StoreFault) → CountsFault old new fault → CountsWorldFault old new (store_fault fault)
counted_so old new store.Store counts = counts
counted_so old new store.Memory counts = counts

module _ {J : Type 0} (h : Journals J) where
  -- the journal wasn't opened
  pub reopens_failed : (old new : J) (fault : StoreFault) → OpensAgain {T = Unit {0}} h CountsFault old new (Err fault)
      → OpensAgain {T = Unit {0}} h CountsWorldFault old new (Err (store_fault fault))
  reopens_failed old new fault r = record {
    found = λ _. tt;
    honest = r.honest;
    opened = λ _. tt;
    stop = r.stop;
    counted = counted_so (h.faults old) (h.faults new) fault r.counted;
    unwritten = r.unwritten;
  }

  -- the journal was opened
  pub reopens_done : (old new : J) → OpensAgain {T = Unit {0}} h CountsFault old new (Ok tt)
      → OpensAgain {T = Unit {0}} h CountsWorldFault old new (Ok tt)
  reopens_done old new r = record { found = r.found; honest = r.honest; opened = r.opened; stop = r.stop; counted = r.counted; unwritten = r.unwritten }

  -- the journal was opened, and its entries were read or not
  pub reopens_then_reads : {T : Type 0} (old mid new : J) (result : Result T WorldFault)
      → OpensAgain {T = Unit {0}} h CountsFault old mid (Ok tt)
      → Reads h CountsWorldFault mid new result
      → OpensAgain h CountsWorldFault old new result
  reopens_then_reads {T} old mid new result r reads = record {
    found = λ honest. found_on result (reads.opened honest) (r.found (reads.honest honest));
    honest = λ honest. r.honest (reads.honest honest);
    opened = reads.opened;
    stop = λ honest found holds. r.stop (reads.honest honest) found (reads.stop honest found holds);
    counted = subst (λ n. CountsFaults CountsWorldFault n (h.faults new) result) r.counted reads.counted;
    unwritten = reads.unwritten ∙ r.unwritten;
  }
    where
      found_on : (said : Result T WorldFault) → OnOk said (h.is_faithful new) → h.may_hold old (h.entries mid) → OnOk said (h.may_hold old (h.entries new))
      found_on (Ok x) faithful holds = subst (λ es. h.may_hold old es) (sym (reads.same faithful)) holds
      found_on (Err fault) faithful holds = tt
