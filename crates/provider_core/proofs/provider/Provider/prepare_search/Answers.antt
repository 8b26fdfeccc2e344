use Rattle.std.proofs.Common.{◌≡◌, ap, ◌∙◌, rules}
use Rattle.provider_core.specs.Outcomes.{replied}
use Rattle.provider_core.specs.Searches.{first_place, page_size}
use Rattle.provider_core.proofs.Gathering.{listed-whole}
use Rattle.provider_core.proofs.provider.Provider.prepare_search.Goals as goal

pub returns-clause-ok : goal.returns-clause-ok
returns-clause-ok g c = λ faithful.
    let place : c.first_place.result ≡ first_place c.args.start = search (rules) in
    let size : c.page_size.result ≡ page_size c.args.count = search (rules) in
    c.into_pending.ensures
    ∙ ap replied (listed-whole c.args.kind c.args.filter.now c.args.start c.args.count (g.R.Registry.rows c.args.self.now) c.first_place.result c.page_size.result c.new-gathered.result c.gather.new.gathered
    place size c.first_place.ensures.lawful c.new-gathered.ensures (c.in_ok-gather.ensures.ok faithful))
