use Rattle.std.proofs.Common.{◌≡◌, ◌-◌, ◌∙◌, refl, sym, ap, subst, inr, arith, rules, List, slice_set}
use Rattle.scim_resource.specs.Rows.{StoredRecord}
use Rattle.provider_core.specs.Rows.{with_row}
use Rattle.provider_core.specs.Stores.{HoldsNumber}
use Rattle.provider_core.proofs.MemoryLaws.{update-within, update-sets, indexed-update}
use Rattle.provider_core.proofs.memory.MemoryRegistryRegistry.update.Goals as goal

pub index_mut-requires : goal.index_mut-requires
index_mut-requires c =
    let P : List StoredRecord → Type 0 = λ rows. HoldsNumber rows c.args.row.now in
    let there = subst P (sym (ap (λ v. v.rows) c.self.view_is)) (c.requires.there tt) in
    rw c.number.ensures.value (omega (arith, update-within c.self.inside.rows.items c.args.row.now c.self.invariant.numbered there, c.self.inside.rows.ok))

pub invariant_of-self : goal.invariant_of-self
invariant_of-self c =
    let P : List StoredRecord → Type 0 = λ rows. HoldsNumber rows c.args.row.now in
    rw (c.in_ok-self-inside.ensures.cases, c.number.ensures.value)
    (indexed-update c.self.inside.numbers c.self.inside.rows.items c.args.row.now c.self.invariant (subst P (sym (ap (λ v. v.rows) c.self.view_is)) (c.requires.there tt)))

pub returns-clause-replaces : goal.returns-clause-replaces
returns-clause-replaces c =
    let P : List StoredRecord → Type 0 = λ rows. HoldsNumber rows c.args.row.now in
    let there = subst P (sym (ap (λ v. v.rows) c.self.view_is)) (c.requires.there tt) in
    let sets : slice_set c.self.inside.rows.items (c.number.result - 1) c.in_ok-self-inside.field-0 ≡ with_row c.args.row.now c.args.self.now.rows =
    rw (c.in_ok-self-inside.ensures.cases, c.number.ensures.value)
    (update-sets c.self.inside.rows.items c.args.row.now c.self.invariant.numbered there ∙ ap (λ v. with_row c.args.row.now v.rows) c.self.view_is) in
    record {
      was = λ _. tt;
      done = λ _. sets;
      same = λ _. tt;
      honest = λ _. tt;
      stop = λ _ found holds. inr (tt, holds ∙ sets);
      counted = refl;
      written = search rules;
      unwritten = tt;
    }
