-- A page of a scan.
use Rattle.std.proofs.Common.{◌≡◌, ℕ, zero, suc, ◌+◌, ◌-◌, ◌≤◌, min, take, drop, List, [], ◌∷◌, length, Option, Some, Result, Ok, Err, IfOk, IfSome, ap, refl, sym, ◌∙◌, inl, inr, arith}
use Rattle.std.proofs.lemmas.Bool.{cases_lt}
use Rattle.sqlite_trees.specs.declared.store.Store.{Ghosts}
use Rattle.sqlite.specs.Held.{state}
use Rattle.scim_resource.specs.Rows.{StoredRecord}
use Rattle.provider_core.specs.Rows.{page_after}
use Rattle.scim_key.specs.declared.stores.StoreFault.{StoreFault}
use Rattle.provider_core.proofs.MemoryLaws.{page-dropped}
use Rattle.provider_store.specs.Connections.{HoldsPage, resources}
use Rattle.provider_store.specs.Kept.{Kept, IsWhole, kept_rows}
use Rattle.provider_store.proofs.Paging.{held_page}

-- ---- lists

take_long : {X : Type 0} (xs : List X) (n : ℕ) → length xs ≤ n → take n xs ≡ xs
take_long [] zero long = refl
take_long [] (suc n) long = refl
take_long (x ∷ xs) zero long = absurd (omega arith)
take_long (x ∷ xs) (suc n) long = ap (λ l. x ∷ l) (take_long xs n (omega arith))

drop_length : {X : Type 0} (xs : List X) (after : ℕ) → length (drop after xs) ≡ length xs - after
drop_length [] zero = omega arith
drop_length [] (suc after) = omega arith
drop_length (x ∷ xs) zero = omega arith
drop_length (x ∷ xs) (suc after) = omega (arith, drop_length xs after)

-- a page that ends with the rows is whole
take_whole : {X : Type 0} (xs : List X) (after limit n : ℕ) → n ≡ min (after + limit) (length xs) - after → take n (drop after xs) ≡ take limit (drop after xs)
take_whole xs after limit n is = elim (cases_lt (length xs) (after + limit)) [
  | inl short ↦
      let all = drop_length xs after in
      take_long (drop after xs) n (omega (arith, is, all)) ∙ sym (take_long (drop after xs) limit (omega (arith, all)))
  | inr long ↦ ap (λ k. take k (drop after xs)) (omega (arith, is))
]

-- ---- calls

-- the page that a look-up found is the one of the registry's rows
pub page_answer : {S : Type 0} (g : Ghosts S) (old : Kept S) → IsWhole g old → {T : Type 0} (items : T → List StoredRecord) (after limit last count : ℕ) (r : Result T StoreFault) (found : Result (Option T) StoreFault)
    → last ≡ min (after + limit) old.count → count ≡ last - after → IfOk r (λ page. (found ≡ Ok (Some page)) × (length (items page) ≡ count))
    → IfOk found (λ page. IfSome page (λ p. HoldsPage (resources (state g old.conn)) after last (items p))) → IfOk r (λ page. items page ≡ page_after after limit (kept_rows g old))
page_answer g old whole items after limit last count (Err fault) found ends size is holds = tt
page_answer g old whole items after limit last count (Ok page) found ends size is holds =
    let rows = kept_rows g old in
    let held : HoldsPage (resources (state g old.conn)) after last (items page) = rw is.0 at holds in
    held_page (resources (state g old.conn)) rows (items page) after last whole.holds held
    ∙ ap (λ n. take n (drop after rows)) is.1
    ∙ take_whole rows after limit count (size ∙ ap (λ l. l - after) ends ∙ ap (λ n. min (after + limit) n - after) whole.counted)
    ∙ page-dropped after limit rows whole.holds.numbered
