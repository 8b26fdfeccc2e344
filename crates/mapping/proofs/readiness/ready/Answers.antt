use Rattle.std.proofs.Common.{◌≡◌, ◌∙◌, Some, true, rules, sym, ap}
use Rattle.std.specs.Result.{is_ok}
use Rattle.source_csv.specs.Records.{user}
use Rattle.mapping.proofs.ReadyLemmas.{found_more, found_stop}
use Rattle.mapping.proofs.readiness.ready.Goals as goal

pub returns-in-None : goal.returns-in-None
returns-in-None g c =
    rw (← c.members-members.ensures.value) (sym (found_stop (λ key. g.I.Ids.id_of c.args.ids.now (user key)) _ _ c.loop-place.place c.index-members-place.result c.loop-place-test.true c.index-members-place.is (sym c.in-None.ensures) c.loop-place.invariant))

pub loop-place-preserved : goal.loop-place-preserved
loop-place-preserved g c =
    let good : is_ok c.push.result ≡ true = search rules in
    let items = rw good at c.push.ensures.items in
    let copied : c.in-Some.id.now ≡ c.in_ok-clone-in-Some.field-0 = search rules in
    rw items (found_more (λ key. g.I.Ids.id_of c.args.ids.now (user key)) _ _ c.loop-place.place c.index-members-place.result c.in_ok-clone-in-Some.field-0 c.loop-place-test.true c.index-members-place.is (sym c.in-Some.ensures ∙ ap Some copied) c.loop-place.invariant)
