use Rattle.std.proofs.Common.{◌≡◌, ◌++◌, [], ◌∷◌, ◌+◌, suc, arith, take, sym, ap, ◌∙◌}
use Rattle.std.proofs.Math.Seq.{take-suc}
use Rattle.json.specs.Token.{begin_array}
use Rattle.scim_json.proofs.Written.{one, list_closed}
use Rattle.scim_resource.specs.Writing.{shown_data}
use Rattle.scim_message.proofs.Written.{page_step, AreLawful-push}
use Rattle.scim_message.proofs.bodies.write_page.Goals as goal

pub loop-resource-preserved : goal.loop-resource-preserved
loop-resource-preserved c =
    let i = c.loop-resource.resource-index in
    let page = c.args.page.now in
    let s = c.resource-item.result in
    let next : i + 1 ≡ suc i = omega arith in
    let stepped : take (i + 1) page ≡ take i page ++ s ∷ [] =
    ap (λ n. take n page) next ∙ take-suc page i s c.loop-resource-test.true ∙ ap (λ x. take i page ++ x ∷ []) (sym c.resource-item.is) in
    rw stepped (
      page_step c.args.base.now (take i page) s c.begin_array.new.self c.loop-resource.out c.write.new.out c.loop-resource.invariant.0 c.in_ok-write.ensures.written,
      AreLawful-push (take i page) s c.loop-resource.invariant.1 (record { shown = c.in_ok-write.ensures.shown; content = c.in_ok-write.ensures.lawful }),
    )

pub returns-clause-written : goal.returns-clause-written
returns-clause-written c =
    list_closed c.end_array.result (shown_data c.args.base.now) c.args.page.now c.loop-resource.resource-index c.args.out.now c.begin_array.new.self c.loop-resource.out c.end_array.new.self c.loop-resource-test.false
    (one c.in_ok-begin_array.field-0 begin_array c.args.out.now c.begin_array.new.self c.in_ok-begin_array.ensures) c.loop-resource.invariant.0 c.end_array.ensures
