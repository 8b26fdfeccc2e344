use Rattle.std.proofs.Common.{IfOk, Result, Ok, Err}
use Rattle.journal_core.specs.contracts.memory.MemoryJournalJournal.TheImpl as memory
use Rattle.commands.specs.Planning.{PlansTo}
use Rattle.commands.proofs.planning.plan_from.Goals as goal

if_ok : {T E : Type 0} (P : Result T E → Type 0) (Q : T → Type 0) (result : Result T E) → P result → ((x : T) → P (Ok x) → Q x) → IfOk result Q
if_ok P Q (Ok x) p so = so x p
if_ok P Q (Err e) p so = tt

pub returns : goal.returns
returns g c =
    if_ok (λ ended. PlansTo memory.ghosts c.args.most c.in_ok-sources.sources c.args.connector.now c.plan_to.new.connector _ _ c.plan_to.new.out.last ended) _ c.plan_to.result c.plan_to.ensures
    (λ status plans. (c.in_ok-sources.sources, _, _, c.plan_to.new.out.last, c.in_ok-sources.ensures, plans))
