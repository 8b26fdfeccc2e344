use Rattle.std.proofs.Common.{◌≡◌, ◌∙◌, rules}
use Rattle.sqlite.specs.Held.{state}
use Rattle.sql_tables.specs.Layouts.{no_schema}
use Rattle.journal_store.specs.Opening.{IsOlder}
use Rattle.storage.proofs.LookingLemmas.{stays_so}
use Rattle.storage.proofs.looking.seen_of.Goals as goal

pub returns-in-Ok-clause-unwritten : goal.returns-in-Ok-clause-unwritten
returns-in-Ok-clause-unwritten g c =
    let s = state g.S.Store c.args.conn in
    let current : IsOlder s.now.schema → ⊥ = λ older. let is = c.is_older.ensures.known older in search rules in
    let there : s.now.schema ≡ no_schema → ⊥ = λ blank. let is = c.is_blank.ensures.known (c.schema.ensures.value ∙ blank) in search rules in
    stays_so s _ c.in-Ok.ensures.stop current there
