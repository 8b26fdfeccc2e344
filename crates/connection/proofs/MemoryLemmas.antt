-- The memory of connections that come, go and are looked at.
use Rattle.std.proofs.Common.{inl, inr, ◌≡◌, ◌*◌, ◌+◌, ◌^◌, ◌≤◌, ◌<◌, ◌∷◌, ◌++◌, [], ℕ, List, length, drop, sym, subst, slice_index_or, slice_set, arith}
use Rattle.std.specs.List.{remove}
use Rattle.std.proofs.lemmas.Bool.{cases_eq, cases_lt}
use Rattle.std.proofs.lemmas.List.{get_or-drop, get_or-set_other, get_or-set_same, get_or_append_left, get_or_at, length-append, length-drop, length-set}
use Rattle.std.proofs.lemmas.List.Edits.{get_or-remove_above, get_or-remove_below, length-remove}
use Rattle.std.proofs.lemmas.List.Sums.{sum_by-cons}
use Rattle.connection.specs.declared.held.Held.{Held}
use Rattle.connection.specs.declared.waiting.Waiting.{Waiting}
use Rattle.connection.specs.Memory.{AreWithin, memory_of, size_of}

few_each : {S : Type 0} (connections : List (Held S)) → memory_of connections ≤ length connections * 2 ^ 63
few_each [] = omega arith
few_each (held ∷ others) =
    let all = sum_by-cons (λ (one : Held _). size_of one) held others in
    let rest = few_each others in
    let small = held.received.bytes.small in
    omega (arith, all, rest, small)

-- the memory of all of them is far from what a `u128` holds
pub memory_fits : {S : Type 0} (waiting : Waiting S) → memory_of waiting.connections.items ≤ 2 ^ 126
memory_fits waiting =
    let all = few_each waiting.connections.items in
    let count = waiting.connections.ok.0 in
    let few = waiting.connections.small.1 in
    let small = waiting.connections.small.0 in
    omega (arith, all, count, few, small)

-- ---- requests that take no more than so much each

module _ {S : Type 0} where
  -- one more
  pub within_added : (most more : ℕ) (items : List (Held S)) (held : Held S) → AreWithin most items → most ≤ more
      → size_of held ≤ more → AreWithin more (items ++ held ∷ [])
  within_added most more items held within grows fits = λ n d there. elim (cases_lt n (length items)) [
    | inl earlier ↦
        let few = within n d earlier in
        subst (λ (h : Held S). size_of h ≤ more) (sym (get_or_append_left items (held ∷ []) d n earlier)) (omega (arith, few, grows))
    | inr later ↦
        let count : length (items ++ held ∷ []) ≡ length items + 1 = length-append items (held ∷ []) in
        let here : length items ≡ n = omega (arith, there, later, count) in
        subst (λ (h : Held S). size_of h ≤ more) (sym (get_or_at items held [] d n here)) fits
  ]

  -- one less
  pub within_less : (most place : ℕ) (items : List (Held S)) → place < length items → AreWithin most items
      → AreWithin most (remove items place)
  within_less most place items is_there within = λ n d there.
      let count = length-remove items place is_there in
      elim (cases_lt n place) [
        | inl below ↦ subst (λ (h : Held S). size_of h ≤ most) (sym (get_or-remove_below items place d n below is_there))
            (within n d (omega (arith, below, is_there)))
        | inr above ↦ subst (λ (h : Held S). size_of h ≤ most) (sym (get_or-remove_above items place d n (omega (arith, above)) is_there))
            (within (n + 1) d (omega (arith, there, count)))
      ]

  -- without the first
  pub within_rest : (most : ℕ) (items : List (Held S)) → AreWithin most items → AreWithin most (drop 1 items)
  within_rest most items within = λ n d there.
      let count = length-drop 1 items in
      subst (λ (h : Held S). size_of h ≤ most) (sym (get_or-drop 1 items n d)) (within (1 + n) d (omega (arith, there, count)))

  -- another one at a place
  pub within_set : (most more place : ℕ) (items : List (Held S)) (held : Held S) → AreWithin most items → most ≤ more
      → size_of held ≤ more → AreWithin more (slice_set items place held)
  within_set most more place items held within grows fits = λ n d there.
      let count = length-set items place held in
      let inside : n < length items = omega (arith, there, count) in
      elim (cases_eq n place) [
        | inl same ↦
            let here : place < length items = omega (arith, inside, same) in
            let is : slice_index_or (slice_set items place held) n d ≡ held =
            subst (λ (k : ℕ). slice_index_or (slice_set items place held) k d ≡ held) (sym same) (get_or-set_same items place held d here) in
            subst (λ (h : Held S). size_of h ≤ more) (sym is) fits
        | inr other ↦
            let few = within n d inside in
            subst (λ (h : Held S). size_of h ≤ more) (sym (get_or-set_other items place n held d other)) (omega (arith, few, grows))
      ]
