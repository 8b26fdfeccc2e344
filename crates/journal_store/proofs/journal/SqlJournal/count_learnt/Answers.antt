use Rattle.std.proofs.Common.{◌∙◌, ap, Vec, Global, rules}
use Rattle.std.specs.List.{count_by}
use Rattle.journal_core.specs.Forgetting.{is_learnt}
use Rattle.journal_core.specs.declared.entries.Entry.{Entry}
use Rattle.scim_key.specs.declared.stores.StoreFault.TheVariants.{Memory}
use Rattle.journal_store.specs.Kept.{kept_entries}
use Rattle.journal_store.proofs.Calls.{answered_so, fails_so, reads_on}
use Rattle.journal_store.proofs.Changing.{loaded}
use Rattle.journal_store.proofs.Unlearning.{count_is, listed_both}
use Rattle.journal_store.proofs.journal.SqlJournal.count_learnt.Goals as goal

pub returns-in_err-others-clause-reads : goal.returns-in_err-others-clause-reads
returns-in_err-others-clause-reads g c =
    let both = reads_on g.S.Store c.in_ok-entries.ensures.reads c.in_err-others.ensures.reads in
    search rules

pub returns-in_err-append-clause-reads : goal.returns-in_err-append-clause-reads
returns-in_err-append-clause-reads g c =
    let both = reads_on g.S.Store c.in_ok-entries.ensures.reads c.in_ok-others.ensures.reads in
    let failed = fails_so g.S.Store (Vec Entry Global) Memory both both.counted in
    search rules

pub returns-clause-listed : goal.returns-clause-listed
returns-clause-listed g c faithful =
    let one = c.in_ok-entries.ensures in
    let two = c.in_ok-others.ensures in
    listed_both g.S.Store c.list.new.self c.list-2.new.self c.in_ok-entries.entries.items c.in_ok-others.others.items faithful (two.tables faithful) (one.all (two.reads.was faithful)) (two.all faithful)

pub returns-clause-count : goal.returns-clause-count
returns-clause-count g c faithful =
    let one = c.in_ok-entries.ensures in
    let two = c.in_ok-others.ensures in
    let mid = two.reads.was faithful in
    let list = loaded g.S.Store c.args.self.now c.list.new.self c.list-2.new.self c.in_ok-entries.entries.items c.in_ok-others.others.items _ c.in_ok-append.ensures.items faithful (two.reads.same faithful ∙ one.reads.same mid) (two.tables faithful) (one.all mid) (two.all faithful) in
    c.learnt_count.ensures ∙ ap (count_by is_learnt) c.as_slice.ensures.value ∙ count_is (kept_entries g.S.Store c.args.self.now) _ list

pub returns-clause-reads : goal.returns-clause-reads
returns-clause-reads g c = answered_so g.S.Store _ (reads_on g.S.Store c.in_ok-entries.ensures.reads c.in_ok-others.ensures.reads)
