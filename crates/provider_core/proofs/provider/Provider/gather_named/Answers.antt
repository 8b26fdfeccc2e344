use Rattle.std.proofs.Common.{◌≡◌, Option, Some, None, sym, subst, ◌∙◌}
use Rattle.std.specs.Option.{option_to_list}
use Rattle.scim_resource.specs.Rows.{StoredRecord}
use Rattle.provider_core.specs.Rows.{row_named}
use Rattle.provider_core.specs.Gathering.{GoesThrough}
use Rattle.provider_core.proofs.Gathering.{goes-none, gathers-named}
use Rattle.provider_core.proofs.provider.Provider.gather_named.Goals as goal
use Rattle.provider_core.proofs.provider.Provider.gather_named.Goals.{in-Some+in_ok-look_at-in-Some, in-None}

pub returns-clause-ok : goal.returns-clause-ok
returns-clause-ok g c = rw (← c.self.view_is) (λ faithful.
    let kind = c.args.kind in
    let wanted = c.args.filter.now in
    let name = c.args.name.now in
    let rows = g.R.Registry.rows c.self.inside.registry in
    let apart = c.in_ok-row.ensures.apart faithful in
    let there : c.in_ok-row.field-0 ≡ row_named name rows = c.in_ok-row.ensures.ok faithful in
    elim c.match-branch-2.branch [
      | in-Some+in_ok-look_at-in-Some w ↦
          let is : Some w.in-Some.row ≡ row_named name rows = sym w.in-Some.is ∙ there in
          rw (w.result-is, w.gathered-is)
          (gathers-named kind wanted name rows c.args.gathered.now w.look_at.new.self c.requires apart
          (subst (λ (row : Option StoredRecord). GoesThrough kind wanted (option_to_list row) c.args.gathered.now w.look_at.new.self) is w.in_ok-look_at-in-Some.ensures))
      | in-None w ↦
          let is : None ≡ row_named name rows = sym w.in-None.is ∙ there in
          rw (w.result-is, w.gathered-is)
          (gathers-named kind wanted name rows c.args.gathered.now c.args.gathered.now c.requires apart
          (subst (λ (row : Option StoredRecord). GoesThrough kind wanted (option_to_list row) c.args.gathered.now c.args.gathered.now) is (goes-none kind wanted c.args.gathered.now)))
    ])
