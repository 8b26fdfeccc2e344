use Rattle.std.proofs.Common.{IsTrue, refl, sym, ◌∙◌, subst, rules, tests, arith}
use Rattle.sqlite.specs.Held.{state}
use Rattle.provider_core.specs.Rows.{with_row}
use Rattle.provider_core.specs.Stores.{HoldsNumber}
use Rattle.provider_store.specs.Calls.{Writes}
use Rattle.provider_store.specs.Connections.{renewed, resources}
use Rattle.provider_store.specs.Lookups.{answered, failing}
use Rattle.provider_store.specs.Kept.{Kept, IsFaithful, kept_rows}
use Rattle.provider_store.proofs.Storing.{update_holds, length_with, there_of, wrote, wrote_faithful, wrote_sound, failed, failed_sound}
use Rattle.provider_store.proofs.registry.SqlRegistryRegistry.update.Goals as goal

pub update_row-requires-clause-there : goal.update_row-requires-clause-there
update_row-requires-clause-there g c clean still =
    let old : Kept g.row.S.Denot = record { conn = c.self.inside.conn; is_usable = c.self.inside.is_usable; count = c.self.inside.count; faults = c.self.inside.faults; writes = c.self.inside.writes } in
    let was_usable : IsTrue c.self.inside.is_usable = search (rules, tests) in
    let whole = c.self.invariant clean still was_usable in
    let there = subst (λ (k : Kept g.row.S.Denot). IsFaithful g.S.Store k → HoldsNumber (kept_rows g.S.Store k) c.args.row.now) (sym c.self.view_is) c.requires.there in
    there_of (resources (state g.S.Store old.conn)) (kept_rows g.S.Store old) c.args.row.now whole.holds (there (record { clean = clean; is_open = still; usable = was_usable; whole = whole }))

pub invariant_of-self-in-Ok : goal.invariant_of-self-in-Ok
invariant_of-self-in-Ok g c =
    let old : Kept g.row.S.Denot = record { conn = c.self.inside.conn; is_usable = c.self.inside.is_usable; count = c.self.inside.count; faults = c.self.inside.faults; writes = c.self.inside.writes } in
    let new : Kept g.row.S.Denot = record { conn = c.update_row.new.conn; is_usable = c.self.inside.is_usable; count = c.self.inside.count; faults = c.self.inside.faults; writes = c.saturating_add-self-inside.result } in
    let was_usable : IsTrue c.self.inside.is_usable = search (rules, tests) in
    let there = subst (λ (k : Kept g.row.S.Denot). IsFaithful g.S.Store k → HoldsNumber (kept_rows g.S.Store k) c.args.row.now) (sym c.self.view_is) c.requires.there in
    wrote_sound g.S.Store old new c.args.row.now (renewed c.args.row.now (resources (state g.S.Store old.conn))) (with_row c.args.row.now (kept_rows g.S.Store old)) c.self.invariant was_usable refl (λ it lawful spelled. update_holds g.S.Store old c.args.row.now it.whole lawful spelled (there it)) c.in-Ok.ensures.stop c.in-Ok.ensures.made (λ it. it.whole.counted ∙ sym (length_with g.S.Store old c.args.row.now it.whole (there it)))

pub returns-in-Ok-clause-replaces : goal.returns-in-Ok-clause-replaces
returns-in-Ok-clause-replaces g c =
    let old : Kept g.row.S.Denot = record { conn = c.self.inside.conn; is_usable = c.self.inside.is_usable; count = c.self.inside.count; faults = c.self.inside.faults; writes = c.self.inside.writes } in
    let new : Kept g.row.S.Denot = record { conn = c.update_row.new.conn; is_usable = c.self.inside.is_usable; count = c.self.inside.count; faults = c.self.inside.faults; writes = c.saturating_add-self-inside.result } in
    let was_usable : IsTrue c.self.inside.is_usable = search (rules, tests) in
    let there = subst (λ (k : Kept g.row.S.Denot). IsFaithful g.S.Store k → HoldsNumber (kept_rows g.S.Store k) c.args.row.now) (sym c.self.view_is) c.requires.there in
    subst (λ (k : Kept g.row.S.Denot). Writes g.S.Store k new (with_row c.args.row.now (kept_rows g.S.Store k)) answered) c.self.view_is
    (wrote g.S.Store old new c.args.row.now (renewed c.args.row.now (resources (state g.S.Store old.conn))) (with_row c.args.row.now (kept_rows g.S.Store old)) c.self.invariant was_usable refl (λ it lawful spelled. update_holds g.S.Store old c.args.row.now it.whole lawful spelled (there it)) c.in-Ok.ensures.stop c.in-Ok.ensures.made (λ it. it.whole.counted ∙ sym (length_with g.S.Store old c.args.row.now it.whole (there it))) refl (omega (arith, c.saturating_add-self-inside.ensures)))

pub returns-in-Ok-clause-open : goal.returns-in-Ok-clause-open
returns-in-Ok-clause-open g c =
    let old : Kept g.row.S.Denot = record { conn = c.self.inside.conn; is_usable = c.self.inside.is_usable; count = c.self.inside.count; faults = c.self.inside.faults; writes = c.self.inside.writes } in
    let new : Kept g.row.S.Denot = record { conn = c.update_row.new.conn; is_usable = c.self.inside.is_usable; count = c.self.inside.count; faults = c.self.inside.faults; writes = c.saturating_add-self-inside.result } in
    let was_usable : IsTrue c.self.inside.is_usable = search (rules, tests) in
    let there = subst (λ (k : Kept g.row.S.Denot). IsFaithful g.S.Store k → HoldsNumber (kept_rows g.S.Store k) c.args.row.now) (sym c.self.view_is) c.requires.there in
    wrote_faithful g.S.Store old new c.args.row.now (renewed c.args.row.now (resources (state g.S.Store old.conn))) (with_row c.args.row.now (kept_rows g.S.Store old)) c.self.invariant was_usable refl (λ it lawful spelled. update_holds g.S.Store old c.args.row.now it.whole lawful spelled (there it)) c.in-Ok.ensures.stop c.in-Ok.ensures.made (λ it. it.whole.counted ∙ sym (length_with g.S.Store old c.args.row.now it.whole (there it)))

pub invariant_of-self-in-Err : goal.invariant_of-self-in-Err
invariant_of-self-in-Err g c =
    let old : Kept g.row.S.Denot = record { conn = c.self.inside.conn; is_usable = c.self.inside.is_usable; count = c.self.inside.count; faults = c.self.inside.faults; writes = c.self.inside.writes } in
    let new : Kept g.row.S.Denot = record { conn = c.update_row.new.conn; is_usable = c.self.inside.is_usable; count = c.self.inside.count; faults = c.counted.new.faults; writes = c.self.inside.writes } in
    let was_usable : IsTrue c.self.inside.is_usable = search (rules, tests) in
    let there = subst (λ (k : Kept g.row.S.Denot). IsFaithful g.S.Store k → HoldsNumber (kept_rows g.S.Store k) c.args.row.now) (sym c.self.view_is) c.requires.there in
    failed_sound g.S.Store old new c.args.row.now (renewed c.args.row.now (resources (state g.S.Store old.conn))) (with_row c.args.row.now (kept_rows g.S.Store old)) c.self.invariant was_usable refl (λ it lawful spelled. update_holds g.S.Store old c.args.row.now it.whole lawful spelled (there it)) c.in-Err.ensures.stop c.in-Err.ensures.keeps refl

pub returns-in-Err-clause-replaces : goal.returns-in-Err-clause-replaces
returns-in-Err-clause-replaces g c =
    let old : Kept g.row.S.Denot = record { conn = c.self.inside.conn; is_usable = c.self.inside.is_usable; count = c.self.inside.count; faults = c.self.inside.faults; writes = c.self.inside.writes } in
    let new : Kept g.row.S.Denot = record { conn = c.update_row.new.conn; is_usable = c.self.inside.is_usable; count = c.self.inside.count; faults = c.counted.new.faults; writes = c.self.inside.writes } in
    let was_usable : IsTrue c.self.inside.is_usable = search (rules, tests) in
    let there = subst (λ (k : Kept g.row.S.Denot). IsFaithful g.S.Store k → HoldsNumber (kept_rows g.S.Store k) c.args.row.now) (sym c.self.view_is) c.requires.there in
    subst (λ (k : Kept g.row.S.Denot). Writes g.S.Store k new (with_row c.args.row.now (kept_rows g.S.Store k)) (failing c.counted.result)) c.self.view_is
    (failed g.S.Store old new c.args.row.now (renewed c.args.row.now (resources (state g.S.Store old.conn))) (with_row c.args.row.now (kept_rows g.S.Store old)) c.self.invariant was_usable refl (λ it lawful spelled. update_holds g.S.Store old c.args.row.now it.whole lawful spelled (there it)) c.in-Err.ensures.stop c.counted.result c.in-Err.ensures.keeps refl c.counted.ensures.counts refl)
