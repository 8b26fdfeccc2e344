use Rattle.std.proofs.Common.{◌≡◌, ◌+◌, ◌++◌, ◌∷◌, [], None, IsTrue, length, length-append, refl, sym, ◌∙◌, subst, rules, tests, arith}
use Rattle.scim_resource.specs.Contents.{content_name}
use Rattle.sqlite.specs.Held.{state}
use Rattle.provider_core.specs.Rows.{row_named}
use Rattle.provider_store.specs.Calls.{Writes}
use Rattle.provider_store.specs.Connections.{added, resources}
use Rattle.provider_store.specs.Lookups.{answered, failing}
use Rattle.provider_store.specs.Kept.{Kept, IsFaithful, kept_rows}
use Rattle.provider_store.proofs.Storing.{insert_holds, wrote, wrote_faithful, wrote_sound, failed, failed_sound}
use Rattle.provider_store.proofs.registry.SqlRegistryRegistry.insert.Goals as goal

pub invariant_of-self-in-Ok : goal.invariant_of-self-in-Ok
invariant_of-self-in-Ok g c =
    let old : Kept g.row.S.Denot = record { conn = c.self.inside.conn; is_usable = c.self.inside.is_usable; count = c.self.inside.count; faults = c.self.inside.faults; writes = c.self.inside.writes } in
    let new : Kept g.row.S.Denot = record { conn = c.insert_row.new.conn; is_usable = c.self.inside.is_usable; count = c.number-self-inside.result; faults = c.self.inside.faults; writes = c.saturating_add-self-inside.result } in
    let was_usable : IsTrue c.self.inside.is_usable = search (rules, tests) in
    let next = subst (λ (k : Kept g.row.S.Denot). IsFaithful g.S.Store k → c.args.row.number ≡ length (kept_rows g.S.Store k) + 1) (sym c.self.view_is) c.requires.next in
    let none = subst (λ (k : Kept g.row.S.Denot). IsFaithful g.S.Store k → row_named (content_name c.args.row.content) (kept_rows g.S.Store k) ≡ None) (sym c.self.view_is) c.requires.free in
    wrote_sound g.S.Store old new c.args.row (added c.args.row (resources (state g.S.Store old.conn))) (kept_rows g.S.Store old ++ c.args.row ∷ []) c.self.invariant was_usable refl (λ it lawful spelled. insert_holds g.S.Store old c.args.row it.whole lawful spelled (next it) (none it)) c.in-Ok.ensures.stop c.in-Ok.ensures.made (λ it. c.number-self-inside.ensures.value ∙ next it ∙ sym (length-append (kept_rows g.S.Store old) (c.args.row ∷ [])))

pub returns-in-Ok-clause-adds : goal.returns-in-Ok-clause-adds
returns-in-Ok-clause-adds g c =
    let old : Kept g.row.S.Denot = record { conn = c.self.inside.conn; is_usable = c.self.inside.is_usable; count = c.self.inside.count; faults = c.self.inside.faults; writes = c.self.inside.writes } in
    let new : Kept g.row.S.Denot = record { conn = c.insert_row.new.conn; is_usable = c.self.inside.is_usable; count = c.number-self-inside.result; faults = c.self.inside.faults; writes = c.saturating_add-self-inside.result } in
    let was_usable : IsTrue c.self.inside.is_usable = search (rules, tests) in
    let next = subst (λ (k : Kept g.row.S.Denot). IsFaithful g.S.Store k → c.args.row.number ≡ length (kept_rows g.S.Store k) + 1) (sym c.self.view_is) c.requires.next in
    let none = subst (λ (k : Kept g.row.S.Denot). IsFaithful g.S.Store k → row_named (content_name c.args.row.content) (kept_rows g.S.Store k) ≡ None) (sym c.self.view_is) c.requires.free in
    subst (λ (k : Kept g.row.S.Denot). Writes g.S.Store k new (kept_rows g.S.Store k ++ c.args.row ∷ []) answered) c.self.view_is
    (wrote g.S.Store old new c.args.row (added c.args.row (resources (state g.S.Store old.conn))) (kept_rows g.S.Store old ++ c.args.row ∷ []) c.self.invariant was_usable refl (λ it lawful spelled. insert_holds g.S.Store old c.args.row it.whole lawful spelled (next it) (none it)) c.in-Ok.ensures.stop c.in-Ok.ensures.made (λ it. c.number-self-inside.ensures.value ∙ next it ∙ sym (length-append (kept_rows g.S.Store old) (c.args.row ∷ []))) refl (omega (arith, c.saturating_add-self-inside.ensures)))

pub returns-in-Ok-clause-open : goal.returns-in-Ok-clause-open
returns-in-Ok-clause-open g c =
    let old : Kept g.row.S.Denot = record { conn = c.self.inside.conn; is_usable = c.self.inside.is_usable; count = c.self.inside.count; faults = c.self.inside.faults; writes = c.self.inside.writes } in
    let new : Kept g.row.S.Denot = record { conn = c.insert_row.new.conn; is_usable = c.self.inside.is_usable; count = c.number-self-inside.result; faults = c.self.inside.faults; writes = c.saturating_add-self-inside.result } in
    let was_usable : IsTrue c.self.inside.is_usable = search (rules, tests) in
    let next = subst (λ (k : Kept g.row.S.Denot). IsFaithful g.S.Store k → c.args.row.number ≡ length (kept_rows g.S.Store k) + 1) (sym c.self.view_is) c.requires.next in
    let none = subst (λ (k : Kept g.row.S.Denot). IsFaithful g.S.Store k → row_named (content_name c.args.row.content) (kept_rows g.S.Store k) ≡ None) (sym c.self.view_is) c.requires.free in
    wrote_faithful g.S.Store old new c.args.row (added c.args.row (resources (state g.S.Store old.conn))) (kept_rows g.S.Store old ++ c.args.row ∷ []) c.self.invariant was_usable refl (λ it lawful spelled. insert_holds g.S.Store old c.args.row it.whole lawful spelled (next it) (none it)) c.in-Ok.ensures.stop c.in-Ok.ensures.made (λ it. c.number-self-inside.ensures.value ∙ next it ∙ sym (length-append (kept_rows g.S.Store old) (c.args.row ∷ [])))

pub invariant_of-self-in-Err : goal.invariant_of-self-in-Err
invariant_of-self-in-Err g c =
    let old : Kept g.row.S.Denot = record { conn = c.self.inside.conn; is_usable = c.self.inside.is_usable; count = c.self.inside.count; faults = c.self.inside.faults; writes = c.self.inside.writes } in
    let new : Kept g.row.S.Denot = record { conn = c.insert_row.new.conn; is_usable = c.self.inside.is_usable; count = c.self.inside.count; faults = c.counted.new.faults; writes = c.self.inside.writes } in
    let was_usable : IsTrue c.self.inside.is_usable = search (rules, tests) in
    let next = subst (λ (k : Kept g.row.S.Denot). IsFaithful g.S.Store k → c.args.row.number ≡ length (kept_rows g.S.Store k) + 1) (sym c.self.view_is) c.requires.next in
    let none = subst (λ (k : Kept g.row.S.Denot). IsFaithful g.S.Store k → row_named (content_name c.args.row.content) (kept_rows g.S.Store k) ≡ None) (sym c.self.view_is) c.requires.free in
    failed_sound g.S.Store old new c.args.row (added c.args.row (resources (state g.S.Store old.conn))) (kept_rows g.S.Store old ++ c.args.row ∷ []) c.self.invariant was_usable refl (λ it lawful spelled. insert_holds g.S.Store old c.args.row it.whole lawful spelled (next it) (none it)) c.in-Err.ensures.stop c.in-Err.ensures.keeps refl

pub returns-clause-adds : goal.returns-clause-adds
returns-clause-adds g c =
    let old : Kept g.row.S.Denot = record { conn = c.self.inside.conn; is_usable = c.self.inside.is_usable; count = c.self.inside.count; faults = c.self.inside.faults; writes = c.self.inside.writes } in
    let new : Kept g.row.S.Denot = record { conn = c.insert_row.new.conn; is_usable = c.self.inside.is_usable; count = c.self.inside.count; faults = c.counted.new.faults; writes = c.self.inside.writes } in
    let was_usable : IsTrue c.self.inside.is_usable = search (rules, tests) in
    let next = subst (λ (k : Kept g.row.S.Denot). IsFaithful g.S.Store k → c.args.row.number ≡ length (kept_rows g.S.Store k) + 1) (sym c.self.view_is) c.requires.next in
    let none = subst (λ (k : Kept g.row.S.Denot). IsFaithful g.S.Store k → row_named (content_name c.args.row.content) (kept_rows g.S.Store k) ≡ None) (sym c.self.view_is) c.requires.free in
    subst (λ (k : Kept g.row.S.Denot). Writes g.S.Store k new (kept_rows g.S.Store k ++ c.args.row ∷ []) (failing c.counted.result)) c.self.view_is
    (failed g.S.Store old new c.args.row (added c.args.row (resources (state g.S.Store old.conn))) (kept_rows g.S.Store old ++ c.args.row ∷ []) c.self.invariant was_usable refl (λ it lawful spelled. insert_holds g.S.Store old c.args.row it.whole lawful spelled (next it) (none it)) c.in-Err.ensures.stop c.counted.result c.in-Err.ensures.keeps refl c.counted.ensures.counts refl)
