use Rattle.std.proofs.Common.{◌≡◌, [], ◌∙◌, arith}
use Rattle.sqlite.specs.Held.{state}
use Rattle.sqlite.specs.State.{HasCleanDisk}
use Rattle.scim_key.specs.declared.records.Kind.{Kind}
use Rattle.scim_key.specs.declared.records.Kind.TheVariants.{User, Group}
use Rattle.sql_tables.proofs.Results.{on_both, on_ok}
use Rattle.journal_store.specs.Older.Format.{first_tree, second_tree}
use Rattle.journal_store.proofs.OlderFormats.Carried.{by_kind}
use Rattle.journal_store.proofs.older.carrying.FirstOlder.carry_over.Goals as goal

pub carry_second-requires-clause-second : goal.carry_second-requires-clause-second
carry_second-requires-clause-second g c clean opened =
    let old = state g.S.Store c.args.tables.now.conn.now in
    let first : HasCleanDisk old = omega (arith, clean, c.carry_first.ensures.goes_on.quiet.clean) in
    let it = c.requires.older first ((c.in_ok-carry_first.ensures.goes_on.left clean).was_open opened) in
    (it.0, c.in_ok-carry_first.ensures.carried clean it.0 it.1)

pub returns-clause-carried : goal.returns-clause-carried
returns-clause-carried g c clean =
    let mid = state g.S.Store c.carry_first.new.tables.conn.now in
    let at_mid : HasCleanDisk mid = omega (arith, clean, c.carry_second.ensures.goes_on.quiet.clean) in
    on_ok c.carry_second.result (λ carried held it. carried held (c.in_ok-carry_first.ensures.carried at_mid held it)) (c.carry_second.ensures.carried clean)

pub returns-clause-emptied : goal.returns-clause-emptied
returns-clause-emptied g c clean =
    let mid = state g.S.Store c.carry_first.new.tables.conn.now in
    let new = state g.S.Store c.carry_second.new.tables.conn.now in
    let at_mid : HasCleanDisk mid = omega (arith, clean, c.carry_second.ensures.goes_on.quiet.clean) in
    on_both c.carry_second.result (λ none same. by_kind (λ (kind : Kind). (new.now.trees (first_tree kind) ≡ []) × (new.now.trees (second_tree kind) ≡ [])) (same ∙ c.in_ok-carry_first.ensures.emptied at_mid, none User) (none Group, none Group)) (c.carry_second.ensures.emptied clean) (c.carry_second.ensures.firsts clean)
