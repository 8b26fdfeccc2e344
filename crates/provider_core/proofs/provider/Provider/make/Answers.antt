use Rattle.provider_core.specs.Stores.{HoldsNumber}
use Rattle.provider_core.proofs.Paging.{kept_update}
use Rattle.provider_core.proofs.RowLaws.{updated-there}
use Rattle.provider_core.proofs.provider.Provider.make.Goals as goal

pub update-requires : goal.update-requires
update-requires g c =
    rw c.self.view_is (record {
      there = λ faithful.
          updated-there (g.R.Registry.rows c.args.self.now) c.args.change c.in-Update.row (c.requires faithful) c.in-Update.is;
    })

pub invariant_of-self : goal.invariant_of-self
invariant_of-self g c =
    let holds : g.R.Registry.is_faithful c.self.inside.registry → HoldsNumber (g.R.Registry.rows c.self.inside.registry) c.in-Update.row =
    rw c.self.view_is (λ faithful. updated-there (g.R.Registry.rows c.args.self.now) c.args.change c.in-Update.row (c.requires faithful) c.in-Update.is) in
    kept_update c.in-Update.row holds c.update.ensures.replaces c.self.invariant
