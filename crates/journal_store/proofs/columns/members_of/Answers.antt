use Rattle.std.proofs.Common.{◌≡◌, ◌<◌, ◌∙◌, true, sym, subst, lit<, length, get_or, arith, rules}
use Rattle.std.proofs.lemmas.Iterator.Consumers.{YieldsList-end, YieldsList-turn}
use Rattle.std.proofs.lemmas.Iterator.Splits.{YieldsList-from_str_split}
use Rattle.std.proofs.lemmas.List.{length_push, take_all}
use Rattle.std.specs.Result.{is_ok}
use Rattle.source_csv.proofs.MemberLemmas.{pieces-some}
use Rattle.sqlite_trees.proofs.ListLemmas.{all-get_or}
use Rattle.source_csv.specs.Fields.{pieces}
use Rattle.source_csv.specs.Rows.{AreUserKeys, IsUserKey}
use Rattle.journal_store.proofs.Decoding.{no_pieces, one_more}
use Rattle.journal_store.proofs.Refusing.{cause_of}
use Rattle.journal_store.proofs.columns.members_of.Goals as goal

pub returns-then-is_empty-clause-value : goal.returns-then-is_empty-clause-value
returns-then-is_empty-clause-value c = c.new-keys.ensures.items ∙ sym (no_pieces c.args.text.now (sym c.is_empty.ensures ∙ c.if-is_empty.true))

pub loop-name-init : goal.loop-name-init
loop-name-init c = (c.new-keys.ensures.items, rw c.new-keys.ensures.items tt)

pub loop-name-preserved : goal.loop-name-preserved
loop-name-preserved c =
    let gives = c.into_iter-name-iterator.ensures.into_iter_gives in
    let split = YieldsList-from_str_split {s = c.into_iter-name-iterator.result} 32 c.args.text.now (lit< tt) (rw gives c.split-name-items.ensures.text) (rw gives c.split-name-items.ensures.has_more) (rw gives c.split-name-items.ensures.pattern) in
    let turn = YieldsList-turn split c.loop-name.yielded _ c.loop-name.yielded_by _ _ c.in-Some.name c.in-Some.is c.next.ensures.steps in
    let some = pieces-some c.args.text.now (sym c.is_empty.ensures ∙ c.if-is_empty.false) in
    let good : is_ok c.push.result ≡ true = search rules in
    let items = rw good at c.push.ensures.items in
    rw (items, length_push c.loop-name.yielded c.in-Some.name)
    (one_more (pieces c.args.text.now) (length c.loop-name.yielded) c.in-Some.name.now c.in_ok-member_of.field-0 c.loop-name.keys.items (rw some turn.0) (rw some turn.1) c.in_ok-member_of.ensures.value c.in_ok-member_of.ensures.lawful c.loop-name.invariant.0 c.loop-name.invariant.1)

pub returns-clause-value : goal.returns-clause-value
returns-clause-value c =
    let gives = c.into_iter-name-iterator.ensures.into_iter_gives in
    let split = YieldsList-from_str_split {s = c.into_iter-name-iterator.result} 32 c.args.text.now (lit< tt) (rw gives c.split-name-items.ensures.text) (rw gives c.split-name-items.ensures.has_more) (rw gives c.split-name-items.ensures.pattern) in
    let done = YieldsList-end split c.loop-name.yielded _ c.loop-name.yielded_by _ _ c.in-None.is c.next.ensures.steps in
    let some = pieces-some c.args.text.now (sym c.is_empty.ensures ∙ c.if-is_empty.false) in
    c.loop-name.invariant.0 ∙ take_all (length c.loop-name.yielded) (pieces c.args.text.now) (rw some (omega (arith, done.1)))

pub returns-clause-lawful : goal.returns-clause-lawful
returns-clause-lawful c = c.loop-name.invariant.1

pub returns-in_err-member_of-clause-none : goal.returns-in_err-member_of-clause-none
returns-in_err-member_of-clause-none c =
    let gives = c.into_iter-name-iterator.ensures.into_iter_gives in
    let split = YieldsList-from_str_split {s = c.into_iter-name-iterator.result} 32 c.args.text.now (lit< tt) (rw gives c.split-name-items.ensures.text) (rw gives c.split-name-items.ensures.has_more) (rw gives c.split-name-items.ensures.pattern) in
    let turn = YieldsList-turn split c.loop-name.yielded _ c.loop-name.yielded_by _ _ c.in-Some.name c.in-Some.is c.next.ensures.steps in
    let some = pieces-some c.args.text.now (sym c.is_empty.ensures ∙ c.if-is_empty.false) in
    let here : length c.loop-name.yielded < length (pieces c.args.text.now) = rw some turn.0 in
    let name : c.in-Some.name.now ≡ get_or (pieces c.args.text.now) (length c.loop-name.yielded) c.in-Some.name.now = rw some turn.1 in
    cause_of (IsUserKey c.in-Some.name.now → ⊥) (AreUserKeys (pieces c.args.text.now) → ⊥)
    (λ other are. other (subst IsUserKey (sym name) (all-get_or IsUserKey (pieces c.args.text.now) (length c.loop-name.yielded) c.in-Some.name.now are here)))
    c.from_residual.result c.in_err-member_of.field-0.0 c.from_residual.ensures.1 c.in_err-member_of.ensures.none
