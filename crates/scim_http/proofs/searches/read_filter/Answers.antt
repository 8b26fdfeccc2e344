use Rattle.std.proofs.Common.{◌≡◌, refl, rules}
use Rattle.scim_filter.specs.declared.filters.FilterFault.TheVariants.{Unsupported}
use Rattle.scim_http.proofs.SearchLemmas.{not_given}
use Rattle.scim_http.proofs.searches.read_filter.Goals as goal

pub returns-in-Err-Unsupported : goal.returns-in-Err-Unsupported
returns-in-Err-Unsupported c =
    let is : c.in-Err-Unsupported.field-0 ≡ Unsupported = search rules in
    (refl, λ filter spelled. not_given c.in-Err-Unsupported.field-0 filter is (c.in-Err-Unsupported.ensures.only filter spelled))
