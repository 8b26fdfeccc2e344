use Rattle.std.proofs.Common.{◌≡◌, Some, Err, sym, subst, rules}
use Rattle.std.specs.Prelude.{codes}
use Rattle.std.proofs.lemmas.Result.{err_from_is_err_and}
use Rattle.scim_http.specs.Meaning.{TellsOf}
use Rattle.scim_http.specs.Queries.{parameter}
use Rattle.scim_http.specs.Searches.{IsFilter}
use Rattle.scim_http.proofs.SearchLemmas.{filter_refused}
use Rattle.scim_http.proofs.searches.filter_of.Goals as goal

pub returns-in_err-read_filter-in-Some : goal.returns-in_err-read_filter-in-Some
returns-in_err-read_filter-in-Some c =
    let p = err_from_is_err_and c.from_residual-in_err-read_filter-in-Some.result c.from_residual-in_err-read_filter-in-Some.ensures.1 in
    let there : parameter (codes "filter") c.args.query.now ≡ Some c.deref.result.now = search rules in
    let fault = c.in_err-read_filter-in-Some.field-0.0 in
    let told = filter_refused c.deref.result.now fault (c.in_err-read_filter-in-Some.ensures {u = tt}) in
    rw (p.1, p.2) (subst (λ text. TellsOf (IsFilter text) (Err fault)) (sym there) told)
