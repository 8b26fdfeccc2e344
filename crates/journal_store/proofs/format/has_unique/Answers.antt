use Rattle.std.proofs.Common.{◌≡◌, [], ◌∷◌, ◌∙◌, sym, ap, rules, tests}
use Rattle.journal_store.specs.Tables.{key_places}
use Rattle.sql_tables.proofs.Items.{one_item}
use Rattle.journal_store.proofs.format.has_unique.Goals as goal

pub returns-in-len1-clause-is : goal.returns-in-len1-clause-is
returns-in-len1-clause-is c is =
    let all = one_item c.as_slice.result.now c.places-item.result c.in-len1.len_at_least c.in-len1.len_below c.places-item.is in
    let places : c.places-item.result ≡ key_places = search (rules, tests) in
    sym c.as_slice.ensures ∙ all ∙ ap (λ p. p ∷ []) places
