use Rattle.std.proofs.Common.{rules, subst, ap, sym}
use Rattle.journal_core.specs.Entries.{EntryMap, CanPutLearnt, with_learnt}
use Rattle.journal_core.proofs.Kept.{learnt-there, learnt-put, made}
use Rattle.journal_core.proofs.memory.MemoryJournalJournal.put_learnt.Goals as goal

pub put_learnt-requires : goal.put_learnt-requires
put_learnt-requires c =
    let P : EntryMap → Type 0 = λ entries. CanPutLearnt entries c.args.name.now c.args.confirmed in
    learnt-there c.self.inside.entries c.args.name.now c.args.confirmed (subst P (sym (ap (λ v. v.entries) c.self.view_is)) (c.requires.lawful tt))

pub invariant_of-self : goal.invariant_of-self
invariant_of-self c =
    let P : EntryMap → Type 0 = λ entries. CanPutLearnt entries c.args.name.now c.args.confirmed in
    (learnt-put c.self.inside.entries c.put_learnt.new.entries c.args.name.now c.args.confirmed c.args.id.now c.in_ok-id.id c.self.invariant
    (subst P (sym (ap (λ v. v.entries) c.self.view_is)) (c.requires.lawful tt)) (search rules) c.put_learnt.ensures).0

pub returns-clause-puts : goal.returns-clause-puts
returns-clause-puts c =
    let P : EntryMap → Type 0 = λ entries. CanPutLearnt entries c.args.name.now c.args.confirmed in
    let put = learnt-put c.self.inside.entries c.put_learnt.new.entries c.args.name.now c.args.confirmed c.args.id.now c.in_ok-id.id c.self.invariant
    (subst P (sym (ap (λ v. v.entries) c.self.view_is)) (c.requires.lawful tt)) (search rules) c.put_learnt.ensures in
    made c.args.self.now c.self.inside.entries c.put_learnt.new.entries c.self.inside.writes c.saturating_add-self-inside.result (λ entries. with_learnt entries c.args.name.now c.args.confirmed c.args.id.now)
    c.self.view_is put.1 c.saturating_add-self-inside.ensures
