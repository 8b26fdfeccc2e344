use Rattle.std.proofs.Common.{◌≡◌, Less, length, refl, ◌++◌, ◌∷◌, [], ◌∙◌, List, arith, sym, ap, subst, take, rules}
use Rattle.std.specs.Vec.Iter.{into_iter_items, into_iter_len}
use Rattle.std.proofs.lemmas.Iterator.Adapters.{YieldsList-from_vec}
use Rattle.std.proofs.lemmas.Iterator.Consumers.{YieldsList-end, YieldsList-turn}
use Rattle.std.proofs.lemmas.List.{length_push, take_all, take_more}
use Rattle.std.specs.Prelude.{MatchOption}
use Rattle.sqlite_value.specs.Order.{Row}
use Rattle.scim_key.specs.Records.{name_cmp}
use Rattle.scim_key.specs.declared.records.RecordName.{RecordName}
use Rattle.journal_store.specs.Connections.{AreShownBy, IsNotNext, IsUnshownBy, Shows}
use Rattle.journal_store.proofs.Refusing.{cause_of}
use Rattle.journal_store.proofs.Repeating.{next_fails}
use Rattle.journal_store.proofs.Loading.{next_shown, none_shown}
use Rattle.journal_store.proofs.tables.read_all.Goals as goal

pub loop-row-init : goal.loop-row-init
loop-row-init c = none_shown (Shows c.args.kind) c.new-list.result.items c.new-list.ensures.items

pub loop-row-preserved : goal.loop-row-preserved
loop-row-preserved c =
    let so_far = c.loop-row.invariant in
    let rows : List Row = into_iter_items c.into_iter-row-iterator.result in
    let len : into_iter_len c.into_iter-row-iterator.result ≡ length c.args.rows.items = search rules in
    let yields = YieldsList-from_vec {s = c.into_iter-row-iterator.result} rows refl (len ∙ sym (ap length c.into_iter-row-iterator.ensures.into_iter_gives.0)) in
    let turn = YieldsList-turn yields c.loop-row.yielded c.loop-row.row-iterator c.loop-row.yielded_by c.next.result c.next.new.self c.in-Some.row c.in-Some.is c.next.ensures.steps in
    let more = ap (λ n. take n rows) (length_push c.loop-row.yielded c.in-Some.row) ∙ take_more rows (length c.loop-row.yielded) c.in-Some.row turn.0 ∙ ap (λ (r : Row). take (length c.loop-row.yielded) rows ++ r ∷ []) (sym turn.1) in
    let it = c.in_ok-entry.ensures in
    let after = subst (λ (n : RecordName). MatchOption c.loop-row.previous (Unit {0}) (λ p. name_cmp p n ≡ Less)) it.named it.after in
    next_shown (Shows c.args.kind) _ c.loop-row.list.items c.in-Some.row c.in_ok-entry.entry c.loop-row.previous c.in_ok-entry.name _ _ more c.in_ok-push.ensures.items it.named so_far.0 so_far.1 it.shown after

pub returns-in_err-entry-clause-none : goal.returns-in_err-entry-clause-none
returns-in_err-entry-clause-none c =
    let rows : List Row = c.args.rows.items in
    let kind = c.args.kind in
    let yields = YieldsList-from_vec {s = c.into_iter-row-iterator.result} rows (search rules) (search rules) in
    let turn = YieldsList-turn yields c.loop-row.yielded c.loop-row.row-iterator c.loop-row.yielded_by c.next.result c.next.new.self c.in-Some.row c.in-Some.is c.next.ensures.steps in
    let shown = subst (λ rs. AreShownBy (Shows kind) (take (length c.loop-row.yielded) rs) c.loop-row.list.items) c.into_iter-row-iterator.ensures.into_iter_gives.0 c.loop-row.invariant.0 in
    cause_of (IsNotNext kind c.loop-row.previous c.in-Some.row) (IsUnshownBy (Shows kind) rows)
    (next_fails kind rows (length c.loop-row.yielded) c.in-Some.row c.loop-row.list.items c.loop-row.previous turn.0 turn.1 shown.each c.loop-row.invariant.1)
    c.from_residual.result c.in_err-entry.field-0.0 c.from_residual.ensures.1 c.in_err-entry.ensures.none

pub returns-clause-some : goal.returns-clause-some
returns-clause-some c =
    let rows : List Row = c.args.rows.items in
    let yields = YieldsList-from_vec {s = c.into_iter-row-iterator.result} rows (search rules) (search rules) in
    let done = YieldsList-end yields c.loop-row.yielded c.loop-row.row-iterator c.loop-row.yielded_by c.next.result c.next.new.self c.in-None.is c.next.ensures.steps in
    let shown = subst (λ rs. AreShownBy (Shows c.args.kind) (take (length c.loop-row.yielded) rs) c.loop-row.list.items) c.into_iter-row-iterator.ensures.into_iter_gives.0 c.loop-row.invariant.0 in
    subst (λ rs. AreShownBy (Shows c.args.kind) rs c.loop-row.list.items) (take_all (length c.loop-row.yielded) rows (omega (arith, done.1))) shown
