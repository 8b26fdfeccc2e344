use Rattle.std.proofs.Common.{◌≡◌, ◌⊎◌, Option, Result, Ok, Err, Bor, option_map, rules, tests}
use Rattle.std.proofs.lemmas.Result.{IfErr-weaker, IfOk-weaker}
use Rattle.std.specs.Result.{result_map_both}
use Rattle.serde_json.specs.Data.{Data, Members}
use Rattle.serde_json.specs.View.{view}
use Rattle.serde_json.specs.declared.value.Value.{Value}
use Rattle.scim_json.specs.declared.values.ValueFault.{ValueFault}
use Rattle.scim_resource.specs.Reading.{text_of, user_texts_in}
use Rattle.scim_resource.specs.UserObjects.{members_of}
use Rattle.scim_resource.specs.declared.faults.ContentFault.TheVariants.{Memory}
use Rattle.scim_resource.proofs.TextLists.{gives, refused_or_memory, text_refused, texts_made, texts_of_user}
use Rattle.scim_resource.proofs.reading.texts_in.Goals as goal

abbrev seen : Result (Option (Bor Value)) ValueFault → Result (Option Data) ValueFault
seen v = result_map_both (option_map (λ v. view v.now)) (λ e. e) v

pub returns-clause-given : goal.returns-clause-given
returns-clause-given c =
    let ms : Members = members_of c.args.object.now in
    let values = c.values_of.result in
    gives Memory c.try_map.result (user_texts_in ms)
    (IfOk-weaker c.try_map.result _ _ (λ texts made. texts_of_user ms _ (Ok texts) c.values_of.ensures (texts_made seen values texts made.whole (λ v t (p, q, called). search (rules, tests))).0) c.try_map.ensures.ok)
    (IfErr-weaker c.try_map.result _ _ (λ e (v, among, p, q, called).
    let refused : (e ≡ Memory) ⊎ (text_of (seen v) ≡ Err e) = search (rules, tests) in
    refused_or_memory e Memory (λ h. texts_of_user ms _ (Err e) c.values_of.ensures (text_refused seen values v e among h)) refused) c.try_map.ensures.err)

pub returns-clause-lawful : goal.returns-clause-lawful
returns-clause-lawful c =
    IfOk-weaker c.try_map.result _ _ (λ texts made. record { count = made.long; each = (texts_made seen c.values_of.result texts made.whole (λ v t (p, q, called). search (rules, tests))).1 }) c.try_map.ensures.ok
