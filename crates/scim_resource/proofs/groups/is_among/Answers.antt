use Rattle.std.proofs.Common.{◌∙◌, rules, tests}
use Rattle.std.proofs.lemmas.Iterator.{YieldsList-from_slice}
use Rattle.std.proofs.lemmas.Iterator.Search.{any_from_yields_List}
use Rattle.std.specs.Str.{bytes_eq}
use Rattle.scim_resource.proofs.MemberLists.{list_any_same}
use Rattle.scim_resource.proofs.groups.is_among.Goals as goal

pub returns : goal.returns
returns c =
    let others = c.args.others.now in
    any_from_yields_List (λ w. bytes_eq w c.args.value.now) _ _ _ c.any.ensures.ran (YieldsList-from_slice others cc) (λ x b q k. search (rules, tests)) ∙ list_any_same c.args.value.now others
