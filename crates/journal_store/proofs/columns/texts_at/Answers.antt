use Rattle.std.proofs.Common.{◌≡◌, ℕ, List, map, rules, tests}
use Rattle.std.proofs.lemmas.Result.{IfErr-weaker, IfOk-weaker}
use Rattle.std.specs.Str.{IsUtf8}
use Rattle.sqlite_value.specs.Value.{owned}
use Rattle.sqlite_value.specs.declared.value.Value.TheVariants.{Text}
use Rattle.journal_store.specs.Faults.{HasCause}
use Rattle.journal_store.proofs.Refusing.{cause_by}
use Rattle.journal_store.proofs.UserTexts.{in_columns, of_columns, texts_lack, texts_made}
use Rattle.journal_store.proofs.columns.texts_at.Goals as goal

pub returns-clause-some : goal.returns-clause-some
returns-clause-some c = IfOk-weaker c.try_map.result _ _ (λ texts made.
    (in_columns c.args.row.now (map owned c.text_cells.result) c.text_cells.ensures texts (texts_made c.text_cells.result texts made.whole (λ cell text (p, q, called). search (rules, tests)))).0) c.try_map.ensures.ok

pub returns-clause-utf8 : goal.returns-clause-utf8
returns-clause-utf8 c = IfOk-weaker c.try_map.result _ _ (λ texts made.
    (in_columns c.args.row.now (map owned c.text_cells.result) c.text_cells.ensures texts (texts_made c.text_cells.result texts made.whole (λ cell text (p, q, called). search (rules, tests)))).1) c.try_map.ensures.ok

pub returns-clause-none : goal.returns-clause-none
returns-clause-none c = IfErr-weaker c.try_map.result _ _ (λ e (cell, among, p, q, called).
    let none : HasCause ((text : List ℕ) → owned cell ≡ Text text → IsUtf8 text → ⊥) e = search (rules, tests) in
    cause_by _ _ (λ lacks texts is readable.
    let it = of_columns c.args.row.now (map owned c.text_cells.result) c.text_cells.ensures texts is readable in
    texts_lack c.text_cells.result cell among lacks texts it.0 it.1) e none) c.try_map.ensures.err
