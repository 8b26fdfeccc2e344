-- Whoever is held when a round begins is met before the next one begins.
use Rattle.std.proofs.Common.{inl, inr, ◌≡◌, ◌⊎◌, ◌+◌, ◌-◌, ◌∷◌, [], ◌++◌, ◌≤◌, ◌<◌, ℕ, zero, suc, List, Option, Some, None, length, sym, ap, subst, ◌∙◌, slice_index_or, nat_lt, length-append, append-nil, arith}
use Rattle.std.specs.Prelude.{if◌then◌else◌}
use Rattle.std.specs.VecDeque.{deque_len}
use Rattle.std.proofs.lemmas.Bool.{cases_eq, cases_lt}
use Rattle.std.proofs.lemmas.Bool.Decides.{nat_tests}
use Rattle.std.proofs.lemmas.List.{get_or_append_left}
use Rattle.std.proofs.lemmas.List.Edits.{get_or-remove_above, get_or-remove_below, length-remove}
use Rattle.std.specs.declared.time.Instant.{Instant}
use Rattle.connection.specs.declared.held.Held.{Held}
use Rattle.connection.specs.declared.waiting.Waiting.{Waiting}
use Rattle.connection.specs.Holding.{IsNoted, IsPassed, Leaves, MovesUp, Notes, StaysThere, Takes, end_of, first_of, round_end}
use Rattle.connection.specs.Leaving.{LooksApartAt}
use Rattle.connection.specs.Rounds.{EndsRound, IsCall, IsLeft, IsMet, IsMetIn, LosesOldest, MeetsEverybody}

if_below : (n m a b : ℕ) → n < m → (if nat_lt n m then a else b) ≡ a
if_below n m a b below = grind (arith, nat_tests)

if_not_below : (n m a b : ℕ) → m ≤ n → (if nat_lt n m then a else b) ≡ b
if_not_below n m a b above = grind (arith, nat_tests)

-- one that isn't the first has the place before it once the first has left
moved_up : {X : Type 0} → (x : X) (xs : List X) (place : ℕ) (d : X) → 0 < place → slice_index_or xs (place - 1) d ≡ slice_index_or (x ∷ xs) place d
moved_up x xs zero d some = absurd (omega (arith, some))
moved_up x xs (suc n) d some = ap (λ (k : ℕ). slice_index_or xs k d) (omega arith)

-- one that a call left as it was
as_it_was : {S : Type 0} → (old : Waiting S) (place : ℕ) (d : Held S) (new : Waiting S) (place_then : ℕ)
    → slice_index_or new.connections.items place_then d ≡ slice_index_or old.connections.items place d
    → (number : ℕ) × (now : Instant) × IsNoted number now
    (slice_index_or old.connections.items place d) (slice_index_or new.connections.items place_then d)
as_it_was old place d new place_then same = (0, d.accepted, inl same)

module _ {S : Type 0} (remaining : S → Option (List ℕ)) (most : ℕ) where
  -- a connection whose turn in the round comes is met by a call, or left as it was
  abbrev IsMetOrLeft : (place : ℕ) → (old new : Waiting S) → Type 0
  IsMetOrLeft place old new = IsMet remaining most place old new ⊎ ((place_then : ℕ) × IsLeft remaining most place place_then old new)

  -- one behind the one that was taken out
  behind_taken : (place : ℕ) (old new : Waiting S) (now : Instant) (held : Held S) → Takes remaining now most old new (Some held)
      → place < end_of old → end_of old ≤ length old.connections.items → new.next < place → IsMetOrLeft place old new
  behind_taken place old new now held takes below bound behind =
      let room : place - 1 < length new.connections.items = omega (arith, below, bound, behind, takes.takes.7) in
      let until : place - 1 < new.end = omega (arith, below, behind, takes.end) in
      let here : suc (place - 1) ≡ place = omega (arith, behind) in
      inr (
        place - 1,
        (
          omega (arith, behind),
          omega (arith, room, until),
          λ d. as_it_was old place d new (place - 1)
              (takes.takes.6 (place - 1) d (omega (arith, behind)) room ∙ ap (λ (n : ℕ). slice_index_or old.connections.items n d) here),
        ),
      )

  taking : (place : ℕ) (old new : Waiting S) (now : Instant) (taken : Option (Held S)) → Takes remaining now most old new taken
      → first_of old ≤ place → place < end_of old → end_of old ≤ length old.connections.items → IsMetOrLeft place old new
  taking place old new now None takes above below bound = elim (cases_lt place new.next) [
    | inl passed ↦ inl (inl (now, λ d. takes.takes.4 place d above passed))
    | inr later ↦
        let room : place < length new.connections.items = omega (arith, below, bound, takes.takes.6) in
        let until : place < new.end = omega (arith, below, takes.end) in
        inr (place, (later, omega (arith, room, until), λ d. as_it_was old place d new place (takes.takes.5 place d (inr later))))
  ]
  taking place old new now (Some held) takes above below bound = elim (cases_lt place new.next) [
    | inl passed ↦ inl (inl (now, λ d. takes.takes.3 place d above passed))
    | inr later ↦ elim (cases_lt new.next place) [
      | inl behind ↦ behind_taken place old new now held takes below bound behind
      | inr here ↦ inl (inr (inl (now, held, omega (arith, later, here), takes)))
    ]
  ]

  -- one behind the oldest, which was given up
  behind_oldest : (place : ℕ) (old new : Waiting S) (oldest : Held S) (others joined : List (Held S)) → old.connections.items ≡ oldest ∷ others
      → new.connections.items ≡ others ++ joined → MovesUp old new → old.next ≤ place → place < round_end old → 0 < place
      → IsMetOrLeft place old new
  behind_oldest place old new oldest others joined were are moves above below some =
      let was : length old.connections.items ≡ 1 + length others = ap length were ∙ omega arith in
      let is : length new.connections.items ≡ length others + length joined = ap length are ∙ length-append others joined in
      let there : place - 1 < length others = omega (arith, below, some, was) in
      inr (
        place - 1,
        (
          omega (arith, above, moves.next),
          omega (arith, below, some, moves.end, there, is),
          λ d. as_it_was old place d new (place - 1)
              (ap (λ (l : List (Held S)). slice_index_or l (place - 1) d) are
              ∙ get_or_append_left others joined d (place - 1) there
              ∙ moved_up oldest others place d some
              ∙ ap (λ (l : List (Held S)). slice_index_or l place d) (sym were)),
        ),
      )

  losing : (place : ℕ) (old new : Waiting S) → LosesOldest remaining most old new → old.next ≤ place → place < round_end old
      → IsMetOrLeft place old new
  losing place old new loses above below = elim (cases_lt 0 place) [
    | inl some ↦ elim loses.1 [
      | inl up ↦ behind_oldest place old new up.oldest new.connections.items [] up.were (sym (append-nil new.connections.items)) up.moves above below some
      | inr for ↦ behind_oldest place old new for.1.oldest for.1.others (for.0 ∷ []) for.1.were for.1.are for.1.moves above below some
    ]
    | inr none ↦ inl (inr (inr (inl (omega (arith, none), loses))))
  ]

  -- one that stays where it is
  staying : (place : ℕ) (old new : Waiting S) (joined : List (Held S)) → new.connections.items ≡ old.connections.items ++ joined
      → StaysThere old new → old.next ≤ place → place < round_end old → IsMetOrLeft place old new
  staying place old new joined are stays above below =
      let is : length new.connections.items ≡ length old.connections.items + length joined =
      ap length are ∙ length-append old.connections.items joined in
      inr (
        place,
        (
          omega (arith, above, stays.next),
          omega (arith, below, stays.end, is),
          λ d. as_it_was old place d new place
              (ap (λ (l : List (Held S)). slice_index_or l place d) are
              ∙ get_or_append_left old.connections.items joined d place (omega (arith, below))),
        ),
      )

  -- one left, which isn't the oldest alone
  leaving_others : (place : ℕ) (old new : Waiting S) (gone : ℕ) → Leaves gone old new → ((gone ≡ place) → ⊥) → old.next ≤ place
      → place < round_end old → (place_then : ℕ) × IsLeft remaining most place place_then old new
  leaving_others place old new gone leaves other above below =
      let items : List (Held S) = old.connections.items in
      let fewer : length new.connections.items + 1 ≡ length items = ap (λ (l : List (Held S)). length l + 1) leaves.are ∙ length-remove items gone leaves.there in
      elim (cases_lt place gone) [
        | inl earlier ↦
            let next : new.next ≡ old.next = leaves.next ∙ if_not_below gone old.next (old.next - 1) old.next (omega (arith, above, earlier)) in (
              place,
              (
                omega (arith, above, next),
                elim (cases_lt gone old.end) [
                  | inl within ↦
                      let end : new.end ≡ old.end - 1 = leaves.end ∙ if_below gone old.end (old.end - 1) old.end within in
                      omega (arith, below, earlier, end, fewer, leaves.there, within)
                  | inr without ↦
                      let end : new.end ≡ old.end = leaves.end ∙ if_not_below gone old.end (old.end - 1) old.end without in
                      omega (arith, below, earlier, end, fewer, leaves.there)
                ],
                λ d. as_it_was old place d new place
                    (ap (λ (l : List (Held S)). slice_index_or l place d) leaves.are ∙ get_or-remove_below items gone d place earlier leaves.there),
              ),
            )
        | inr later ↦ elim (cases_lt gone place) [
          | inl behind ↦
              let end : new.end ≡ old.end - 1 = leaves.end ∙ if_below gone old.end (old.end - 1) old.end (omega (arith, below, behind)) in
              let here : (place - 1) + 1 ≡ place = omega (arith, behind) in (
                place - 1,
                (
                  elim (cases_lt gone old.next) [
                    | inl passed ↦
                        let next : new.next ≡ old.next - 1 = leaves.next ∙ if_below gone old.next (old.next - 1) old.next passed in
                        omega (arith, above, behind, next)
                    | inr coming ↦
                        let next : new.next ≡ old.next = leaves.next ∙ if_not_below gone old.next (old.next - 1) old.next coming in
                        omega (arith, coming, behind, next)
                  ],
                  omega (arith, below, behind, end, fewer),
                  λ d. as_it_was old place d new (place - 1)
                      (ap (λ (l : List (Held S)). slice_index_or l (place - 1) d) leaves.are
                      ∙ get_or-remove_above items gone d (place - 1) (omega (arith, behind)) leaves.there
                      ∙ ap (λ (n : ℕ). slice_index_or items n d) here),
                ),
              )
          | inr same ↦ absurd (other (omega (arith, later, same)))
        ]
      ]

  leaving : (place : ℕ) (old new : Waiting S) (gone : ℕ) → Leaves gone old new → old.next ≤ place → place < round_end old
      → IsMetOrLeft place old new
  leaving place old new gone leaves above below = elim (cases_eq gone place) [
    | inl here ↦ inl (inr (inr (inr (inl (subst (λ (n : ℕ). Leaves n old new) here leaves)))))
    | inr other ↦ inr (leaving_others place old new gone leaves other above below)
  ]

  -- one was looked at outside of the rounds
  looking_apart : (place : ℕ) (old new : Waiting S) (now : Instant) (there : ℕ) (taken : Option (Held S))
      → LooksApartAt remaining now there old new taken → old.next ≤ place → place < round_end old → IsMetOrLeft place old new
  looking_apart place old new now there None looks above below = elim (cases_eq there place) [
    | inl here ↦ inl (inl (
      now,
      λ d.
          subst (λ (n : ℕ). IsPassed remaining now (slice_index_or old.connections.items n d) (slice_index_or new.connections.items n d))
          here (inl (looks.0 d, looks.1.there d)),
    ))
    | inr other ↦ inr (
      place,
      (
        omega (arith, above, looks.2.next),
        omega (arith, below, looks.2.end, looks.1.length),
        λ d. as_it_was old place d new place (looks.1.others place d (λ same. other (sym same))),
      ),
    )
  ]
  looking_apart place old new now there (Some held) looks above below = elim (cases_eq there place) [
    | inl here ↦ inl (inr (inr (inr (inr
        (now, held, subst (λ (n : ℕ). LooksApartAt remaining now n old new (Some held)) here looks)))))
    | inr other ↦
        let seen = looks.0 in
        let left = leaving_others place seen new there looks.3 other (omega (arith, above, looks.2.next))
        (omega (arith, below, looks.2.end, looks.1.length)) in
        inr (
          left.0,
          (
            left.1.0,
            left.1.1,
            λ d. subst (λ (h : Held S). (number : ℕ) × (moment : Instant) × IsNoted number moment h (slice_index_or new.connections.items left.0 d))
                (looks.1.others place d (λ same. other (sym same))) (left.1.2 d),
          ),
        )
  ]

  -- something may have come on one of them
  noting : (place : ℕ) (old new : Waiting S) (number : ℕ) (now : Instant) → Notes number now old new → old.next ≤ place
      → place < round_end old → IsMetOrLeft place old new
  noting place old new number now notes above below = inr (
    place,
    (
      omega (arith, above, notes.stays.next),
      omega (arith, below, notes.stays.end, notes.length),
      λ d. (number, now, notes.noted place d),
    ),
  )

  calling : (place : ℕ) (old new : Waiting S) → IsCall remaining most old new → old.next ≤ place → place < round_end old
      → IsMetOrLeft place old new
  calling place old new call above below = elim call [
    | inl took ↦
        let under : old.next < round_end old = omega (arith, above, below) in
        let first : first_of old ≡ old.next = if_below old.next (round_end old) old.next 0 under in
        let end : end_of old ≡ round_end old = if_below old.next (round_end old) (round_end old) (deque_len old.connections) under in
        taking place old new took.0 took.1 took.3 (omega (arith, first, above)) (omega (arith, end, below)) (omega (arith, end))
    | inr others ↦ elim others [
      | inl loses ↦ losing place old new loses above below
      | inr rest ↦ elim rest [
        | inl holds ↦ staying place old new (holds.0 ∷ []) holds.1.are holds.1.stays above below
        | inr kept_or_noted ↦ elim kept_or_noted [
          | inl noted ↦ noting place old new noted.0 noted.1 noted.2 above below
          | inr kept_or_gone ↦ elim kept_or_gone [
            | inl gone ↦ leaving place old new gone.0 gone.1 above below
            | inr apart_or_kept ↦ elim apart_or_kept [
              | inl apart ↦ elim apart.2 [
                | inl looks ↦ looking_apart place old new apart.0 looks.0 apart.1 looks.1 above below
                | inr none ↦ staying place old new []
                    (ap (λ (waiting : Waiting S). waiting.connections.items) none.0 ∙ sym (append-nil old.connections.items))
                    (record { next = ap (λ (waiting : Waiting S). waiting.next) none.0; end = ap (λ (waiting : Waiting S). waiting.end) none.0 })
                    above below
              ]
              | inr kept ↦ staying place old new [] (kept.0 ∙ sym (append-nil old.connections.items)) kept.1 above below
            ]
          ]
        ]
      ]
    ]
  ]

  meets : (later : List (Waiting S)) (old : Waiting S) → EndsRound remaining most old later
      → (place : ℕ) → old.next ≤ place → place < round_end old → IsMetIn remaining most place old later
  meets [] old over place above below = absurd (omega (arith, over, above, below))
  meets (new ∷ later) old calls place above below = elim (calling place old new calls.0 above below) [
    | inl met ↦ inl met
    | inr left ↦ inr (left.0, left.1, meets later new calls.1 left.0 left.1.0 left.1.1)
  ]

  pub meets_everybody : MeetsEverybody remaining most
  meets_everybody old new now taken later over takes calls place there =
      let first : first_of old ≡ 0 = if_not_below old.next (round_end old) old.next 0 over in
      let end : end_of old ≡ deque_len old.connections = if_not_below old.next (round_end old) (round_end old) (deque_len old.connections) over in
      elim (taking place old new now taken takes (omega (arith, first)) (omega (arith, end, there)) (omega (arith, end))) [
        | inl met ↦ inl met
        | inr left ↦ inr (left.0, left.1, meets later new calls left.0 left.1.0 left.1.1)
      ]
