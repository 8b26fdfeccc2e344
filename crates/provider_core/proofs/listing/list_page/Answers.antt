use Rattle.std.proofs.Common.{◌≡◌, ◌++◌, map, ap, ◌∙◌, rules}
use Rattle.scim_resource.specs.Rows.{shown}
use Rattle.provider_core.specs.Listing.{rows_at}
use Rattle.provider_core.specs.Outcomes.{replied}
use Rattle.provider_core.specs.Searches.{first_place, page_size}
use Rattle.provider_core.proofs.PlaceLaws.{lists-page}
use Rattle.provider_core.proofs.listing.list_page.Goals as goal

pub returns-clause-ok : goal.returns-clause-ok
returns-clause-ok g c = λ faithful are.
    let rows = g.R.Registry.rows c.args.registry.now in
    let wanted = c.page-wanted.result.now in
    let page = c.show_rows.new.page.items in
    let shows : page ≡ map shown (rows_at wanted rows) =
    c.in_ok-show_rows.ensures.ok faithful ∙ ap (λ start. start ++ map shown (rows_at wanted rows)) c.new-page.ensures.items in
    let place : c.first_place-first.result ≡ first_place c.args.start = search (rules) in
    let size : c.page_size.result ≡ page_size c.args.count = search (rules) in
    c.listed.ensures
    ∙ ap replied (lists-page c.args.kind c.args.start c.args.count rows c.args.places.now c.total.result c.first_place-first.result c.page_size.result wanted page
    are c.total.ensures place size c.page-wanted.ensures (c.in_ok-show_rows.ensures.numbered faithful) shows)
