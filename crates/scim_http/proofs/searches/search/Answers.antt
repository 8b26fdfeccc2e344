use Rattle.std.proofs.Common.{◌≡◌, Ok, rules}
use Rattle.std.proofs.lemmas.Result.{err_from_is_err_and}
use Rattle.scim_http.specs.Searches.{page_of}
use Rattle.scim_http.proofs.SearchLemmas.{search_refused}
use Rattle.scim_http.proofs.searches.search.Goals as goal

pub returns-in_err-filter : goal.returns-in_err-filter
returns-in_err-filter c =
    let p = err_from_is_err_and c.from_residual-in_err-filter.result c.from_residual-in_err-filter.ensures.1 in
    let page : page_of c.args.query.now ≡ Ok (c.in_ok-start.start, c.in_ok-start.count) = search rules in
    rw (p.1, p.2) (search_refused c.args.kind c.args.query.now (c.in_ok-start.start, c.in_ok-start.count) c.in_err-filter.field-0.0 page (c.in_err-filter.ensures {u = tt}))
