-- Looks at connections in turn.
use Rattle.std.proofs.Common.{inl, inr, ◌≡◌, ◌⊎◌, ◌+◌, ◌∷◌, [], ◌≤◌, ◌<◌, ℕ, suc, List, Option, Some, None, Bool, true, false, length, refl, sym, ap, subst, ◌∙◌, drop, slice_index_or, slice_set, arith}
use Rattle.std.specs.Prelude.{if◌then◌else◌, ⊤}
use Rattle.std.specs.List.{remove}
use Rattle.std.proofs.lemmas.Bool.{cases_lt}
use Rattle.std.proofs.lemmas.List.{get_or-set_other, get_or-set_same, get_or_default, get_or_read, length-set}
use Rattle.std.proofs.lemmas.List.Edits.{get_or-remove_above, get_or-remove_below, length-remove}
use Rattle.std.proofs.lemmas.List.Sums.{sum_by_more}
use Rattle.std.specs.declared.time.Instant.{Instant}
use Rattle.timed_streams.specs.declared.deadline.Deadline.{Deadline}
use Rattle.connection.specs.declared.ending.Ending.{Ending}
use Rattle.connection.specs.Endings.{rate}
use Rattle.connection.specs.declared.held.Held.{Held}
use Rattle.connection.specs.declared.held.Arrival.{Arrival}
use Rattle.connection.specs.declared.held.Arrival.TheVariants.{Bytes, Nothing, Last}
use Rattle.connection.specs.declared.received.Received.{Received}
use Rattle.connection.specs.declared.waiting.Waiting.{Waiting}
use Rattle.connection.specs.Arriving.{Waits}
use Rattle.connection.specs.declared.leaving.Leaver.{Leaver}
use Rattle.connection.specs.declared.leaving.Leaver.TheVariants.{Nobody, Ready, Closed}
use Rattle.connection.specs.Holding.{ArePassed, GivesUp, GivesUpFor, HasCome, Holds, IsDue, IsLargest, IsLookedAtBy, IsNoted, IsPassed, IsSame, Leaves, Looks, LooksAt, Notes, NotesAt, StaysThere, TakesFirst, is_time, looks_before}
use Rattle.connection.specs.Leaving.{FreesMemory, LooksApartAt, LooksLast, Places, Releases}
use Rattle.connection.specs.Memory.{memory_of, size_of}

pub some_of : {X : Type 0} (n : ℕ) (xs : List X) → n < length xs → X
some_of n [] there = absurd (let none : n < 0 = there in omega (arith, none))
some_of n (x ∷ xs) there = x

module _ {S : Type 0} (remaining : S → Option (List ℕ)) (now : Instant) where
  -- those from one place up to another were passed, after so many looks, and the others stay as they were
  pub record SoFar (first place looks : ℕ) (old new : List (Held S)) : Type 0 where
    pub passed : ArePassed remaining now first place old new
    pub others : (n : ℕ) (d : Held S) → (n < first) ⊎ (place ≤ n) → slice_index_or new n d ≡ slice_index_or old n d
    pub length : length new ≡ length old
    pub counted : looks + looks_before now first old ≡ looks_before now place old

  pub none_so_far : (first : ℕ) (old : List (Held S)) → SoFar first first 0 old old
  none_so_far first old = record {
    passed = λ n d above below. absurd (omega (arith, above, below));
    others = λ n d outside. refl;
    length = refl;
    counted = omega arith;
  }

  -- a place that is outside of what was passed by now was so before, and isn't the last one
  outside_before : (first place n : ℕ) → first ≤ place → (n < first) ⊎ (place + 1 ≤ n) → ((n < first) ⊎ (place ≤ n)) × ((n ≡ place) → ⊥)
  outside_before first place n begun outside = elim outside [
    | inl before ↦ (inl before, λ same. absurd (omega (arith, before, begun, same)))
    | inr after ↦ (inr (omega (arith, after)), λ same. absurd (omega (arith, after, same)))
  ]

  one_look_more : (place : ℕ) (d : Held S) (old : List (Held S)) (b : Bool) → place < length old → is_time now (slice_index_or old place d) ≡ b
      → looks_before now (place + 1) old ≡ looks_before now place old + (if b then 1 else 0)
  one_look_more place d old b there is =
      sum_by_more (λ (held : Held S). if is_time now held then 1 else 0) old place d there
      ∙ ap (λ (c : Bool). looks_before now place old + (if c then 1 else 0)) is

  -- one more was passed: whether it is time to look at it, was `b`
  then_passed : (first place : ℕ) (old mid new : List (Held S)) → first ≤ place
      → ArePassed remaining now first place old mid
      → ((d : Held S) → slice_index_or mid place d ≡ slice_index_or old place d)
      → ((n : ℕ) (d : Held S) → ((n ≡ place) → ⊥) → slice_index_or new n d ≡ slice_index_or mid n d)
      → ((d : Held S) → IsPassed remaining now (slice_index_or mid place d) (slice_index_or new place d))
      → ArePassed remaining now first (place + 1) old new
  then_passed first place old mid new begun before was others is = λ n d above below. elim (cases_lt n place) [
    | inl earlier ↦ subst (λ (h : Held S). IsPassed remaining now (slice_index_or old n d) h)
        (sym (others n d (λ same. absurd (omega (arith, earlier, same))))) (before n d above earlier)
    | inr later ↦
        let here : n ≡ place = omega (arith, below, later) in
        let there : IsPassed remaining now (slice_index_or old place d) (slice_index_or new place d) =
        subst (λ (h : Held S). IsPassed remaining now h (slice_index_or new place d)) (was d) (is d) in
        rw here there
  ]

  -- the next one was looked at, in vain
  pub one_look : (first place looks : ℕ) (old mid new : List (Held S)) → first ≤ place → place < length old
      → SoFar first place looks old mid → ((d : Held S) → is_time now (slice_index_or mid place d) ≡ true)
      → LooksAt remaining place mid new false → SoFar first (place + 1) (looks + 1) old new
  one_look first place looks old mid new begun there before time found = record {
    passed = then_passed first place old mid new begun before.passed (λ d. before.others place d (inr (omega arith))) found.others
        (λ d. inl (time d, found.there d));
    others = λ n d outside. let o = outside_before first place n begun outside in found.others n d o.1 ∙ before.others n d o.0;
    length = found.length ∙ before.length;
    counted =
        let d : Held S = some_of place old there in
        let more = one_look_more place d old true there (ap (is_time now) (sym (before.others place d (inr (omega arith)))) ∙ time d) in
        omega (arith, more, before.counted);
  }

  -- it wasn't time to look at the next one
  pub no_look : (first place looks : ℕ) (old mid : List (Held S)) → first ≤ place → place < length old
      → SoFar first place looks old mid → ((d : Held S) → is_time now (slice_index_or mid place d) ≡ false)
      → SoFar first (place + 1) looks old mid
  no_look first place looks old mid begun there before early = record {
    passed = then_passed first place old mid mid begun before.passed (λ d. before.others place d (inr (omega arith))) (λ n d other. refl)
        (λ d. inr (early d, refl));
    others = λ n d outside. before.others n d (outside_before first place n begun outside).0;
    length = before.length;
    counted =
        let d : Held S = some_of place old there in
        let none = one_look_more place d old false there (ap (is_time now) (sym (before.others place d (inr (omega arith)))) ∙ early d) in
        omega (arith, none, before.counted);
  }

  -- the next one can be served, and was taken out
  pub took_out : (most first place looks end : ℕ) (old mid seen new : List (Held S)) (taken : Option (Held S)) → first ≤ place
      → place < end → place < length old → looks < most → SoFar first place looks old mid → LooksAt remaining place mid seen true
      → ((d : Held S) → taken ≡ Some (slice_index_or seen place d)) → new ≡ remove seen place
      → TakesFirst remaining now most first end place old new taken
  took_out most first place looks end old mid seen new taken begun inside there few before found is are =
      let x : Held S = some_of place old there in
      let held : Held S = slice_index_or seen place x in
      let within : place < length seen = omega (arith, found.length, before.length, there) in
      let earlier = λ (n : ℕ) (d : Held S) (below : n < place).
      get_or-remove_below seen place d n below within ∙ found.others n d (λ same. absurd (omega (arith, below, same))) in
      let body : TakesFirst remaining now most first end place old (remove seen place) (Some held) = (
        begun,
        inside,
        omega (arith, before.counted, few),
        λ n d above below. subst (λ (h : Held S). IsPassed remaining now (slice_index_or old n d) h) (sym (earlier n d below))
            (before.passed n d above below),
        λ n d below. earlier n d (omega (arith, below, begun)) ∙ before.others n d (inl below),
        λ d. subst (λ (h : Held S). Looks remaining (slice_index_or old place d) h true) (get_or_default seen place d x within)
            (subst (λ (h : Held S). Looks remaining h (slice_index_or seen place d) true) (before.others place d (inr (omega arith))) (found.there d)),
        λ n d from below.
            let next : n + 1 ≡ suc n = omega arith in
            get_or-remove_above seen place d n from within
            ∙ found.others (n + 1) d (λ same. absurd (omega (arith, from, same)))
            ∙ before.others (n + 1) d (inr (omega (arith, from)))
            ∙ ap (λ (k : ℕ). slice_index_or old k d) next,
        length-remove seen place within ∙ found.length ∙ before.length,
      ) in
      subst (λ (t : Option (Held S)). TakesFirst remaining now most first end place old new t) (sym (is x))
      (subst (λ (l : List (Held S)). TakesFirst remaining now most first end place old l (Some held)) (sym are) body)

  -- all of the round were passed
  pub passed_all : (most first place looks end : ℕ) (old new : List (Held S)) → first ≤ place → place ≡ end → looks ≤ most
      → SoFar first place looks old new → TakesFirst remaining now most first end end old new None
  passed_all most first place looks end old new begun last few before =
      let all : SoFar first end looks old new = subst (λ (n : ℕ). SoFar first n looks old new) last before in (
        omega (arith, begun, last),
        omega arith,
        inl refl,
        omega (arith, all.counted, few),
        all.passed,
        all.others,
        all.length,
      )

-- one of them was looked at in its place
pub looked_at : {S : Type 0} (remaining : S → Option (List ℕ)) (place : ℕ) (items : List (Held S)) (before after : Held S) (is_ready : Bool)
    → place < length items → before ≡ slice_index_or items place before → Looks remaining before after is_ready
    → LooksAt remaining place items (slice_set items place after) is_ready
looked_at remaining place items before after is_ready there is looks = record {
  there = λ d. subst (λ (h : Held _). Looks remaining (slice_index_or items place d) h is_ready) (sym (get_or-set_same items place after d there))
      (subst (λ (h : Held _). Looks remaining h after is_ready) (get_or_read items place before there is d) looks);
  others = λ n d other. get_or-set_other items place n after d other;
  length = length-set items place after;
}

-- after two reads
pub same_since : {S : Type 0} (old mid new : Held S) → IsSame old mid → IsSame mid new → IsSame old new
same_since old mid new first later = record {
  number = later.number ∙ first.number;
  deadline = later.deadline ∙ first.deadline;
  accepted = later.accepted ∙ first.accepted;
}

pub looked_since : {S : Type 0} (old mid new : Held S) → IsSame old mid → IsLookedAtBy old mid → IsLookedAtBy mid new
    → IsLookedAtBy old new
looked_since old mid new same first later = elim later [
  | inl stays ↦ elim first [ inl stayed ↦ inl (stays ∙ stayed) | inr ended ↦ inr (stays ∙ ended) ]
  | inr ends ↦ inr (ends ∙ ap (λ (d : Deadline). d.end) same.deadline)
]

pub come_now : (before after : Received) (arrival : Arrival) → arrival ≡ Bytes → HasCome before after arrival → ∥ Waits after.bytes.items ∥₁
come_now before after arrival is come = subst (HasCome before after) is come

none_came : (before after : Received) (arrival : Arrival) → arrival ≡ Nothing → HasCome before after arrival → after.bytes.items ≡ before.bytes.items
none_came before after arrival is come = subst (HasCome before after) is come

-- after more of the same bytes the same was found
come_since : (first before after : Received) (arrival : Arrival) → HasCome first before arrival
    → after.bytes.items ≡ before.bytes.items → HasCome first after arrival
come_since first before after Bytes come same = subst (λ (bytes : List ℕ). ∥ Waits bytes ∥₁) (sym same) come
come_since first before after Nothing come same = same ∙ come
come_since first before after Last come same = tt

-- after a read that gave nothing
pub come_by_then : (first before after : Received) (arrival last : Arrival) → HasCome first before arrival → last ≡ Nothing
    → HasCome before after last → HasCome first after arrival
come_by_then first before after arrival last come is none = come_since first before after arrival come (none_came before after last is none)

-- what didn't end the looks waits on
pub waits_on : (old mid new : Received) (arrival : Arrival) → HasCome old mid arrival → ((arrival ≡ Last) → ⊥)
    → new.bytes.items ≡ mid.bytes.items → (new.bytes.items ≡ old.bytes.items) ⊎ ∥ Waits new.bytes.items ∥₁
waits_on old mid new Bytes come other same = inr (subst (λ (bytes : List ℕ). ∥ Waits bytes ∥₁) (sym same) come)
waits_on old mid new Nothing come other same = inl (same ∙ come)
waits_on old mid new Last come other same = absurd (other refl)

-- ---- who leaves to make room

-- the one that an option has, or another
abbrev held_or : {X : Type 0} → X → Option X → X
held_or other None = other
held_or other (Some x) = x

abbrev is_some : {X : Type 0} → Option X → Type 0
is_some None = ⊥
is_some (Some x) = ⊤

pub none_is_some : {X : Type 0} {x : X} → None ≡ Some x → ⊥
none_is_some is = subst is_some (sym is) tt

module _ {S : Type 0} (remaining : S → Option (List ℕ)) where
  -- the oldest left after one look more
  pub released : (now : Instant) (old new : Waiting S) (gives : GivesUp now old new) (leaver : Leaver S)
      → LooksLast remaining gives.oldest leaver → Releases remaining now old new leaver
  released now old new gives Nobody looks = absurd looks
  released now old new gives (Ready held) looks = (gives, looks)
  released now old new gives Closed looks = (gives, looks)

  -- and another one has its place
  abbrev took_place : (held : Held S) (now : Instant) (old mid new : Waiting S) → GivesUp now old mid → Holds held mid new
      → GivesUpFor held now old new
  took_place held now old mid new gives holds = record {
    oldest = gives.oldest;
    others = mid.connections.items;
    were = gives.were;
    are = holds.are;
    due = gives.due;
    moves = record { next = holds.stays.next ∙ gives.moves.next; end = holds.stays.end ∙ gives.moves.end };
  }

  pub replaced : (most : ℕ) (held : Held S) (now : Instant) (old mid new : Waiting S) (is_tight : Type 0) (leaver : Leaver S)
      → IsDue old.connections.items now → Releases remaining now old mid leaver → Holds held mid new
      → Places remaining most held now old new is_tight leaver
  replaced most held now old mid new is_tight Nobody due releases holds = absurd (releases.1 due)
  replaced most held now old mid new is_tight (Ready oldest) due releases holds =
      (took_place held now old mid new releases.0 holds, releases.1)
  replaced most held now old mid new is_tight Closed due releases holds =
      inr (took_place held now old mid new releases.0 holds, releases.1)

  -- the largest left after one look more
  pub freed : (most others place : ℕ) (old new : Waiting S) (largest : Held S) (leaver : Leaver S) (found : Option (Held S))
      → most < others + memory_of old.connections.items → IsLargest old.connections.items place → Leaves place old new
      → found ≡ Some largest → ((d : Held S) → found ≡ Some (slice_index_or old.connections.items place d))
      → LooksLast remaining largest leaver → FreesMemory remaining most others old new leaver
  freed most others place old new largest Nobody found more is leaves it at looks = absurd looks
  freed most others place old new largest (Ready held) found more is leaves it at looks = (
    more,
    (
      (place, is, leaves),
      λ d. subst (λ (h : Held S). Looks remaining h held true) (ap (held_or largest) (sym it ∙ at d)) looks,
    ),
  )
  freed most others place old new largest Closed found more is leaves it at looks = (
    more,
    (
      (place, is, leaves),
      λ d. looks,
    ),
  )

  -- one was looked at outside of the rounds, and left
  pub took_apart : (now : Instant) (place : ℕ) (old seen new : Waiting S) (found : Option (Held S))
      → LooksAt remaining place old.connections.items seen.connections.items true → StaysThere old seen → Leaves place seen new
      → ((d : Held S) → found ≡ Some (slice_index_or seen.connections.items place d)) → LooksApartAt remaining now place old new found
  took_apart now place old seen new None looks stays leaves at =
      let d : Held S = some_of place seen.connections.items leaves.there in
      absurd (none_is_some (at d))
  took_apart now place old seen new (Some held) looks stays leaves at =
      (seen, looks, stays, leaves, λ d. ap (held_or held) (at d))

-- ---- what may have come

-- it is noted of the connection with this number
pub noted_at : {S : Type 0} (number : ℕ) (now : Instant) (place : ℕ) (old new : Waiting S) → NotesAt place now old new
    → ((d : Held S) → (slice_index_or old.connections.items place d).number ≡ number) → Notes number now old new
noted_at number now place old new notes is = record {
  noted = λ n d. elim (cases_lt n place) [
    | inl below ↦ inl (notes.others n d (λ same. absurd (omega (arith, below, same))))
    | inr from ↦ elim (cases_lt place n) [
      | inl above ↦ inl (notes.others n d (λ same. absurd (omega (arith, above, same))))
      | inr until ↦
          let here : place ≡ n = omega (arith, from, until) in
          subst (λ (k : ℕ). IsNoted number now (slice_index_or old.connections.items k d) (slice_index_or new.connections.items k d))
          here (inr (is d, notes.there d))
    ]
  ];
  length = notes.length;
  stays = notes.stays;
}

-- nothing is noted
pub none_noted : {S : Type 0} (number : ℕ) (now : Instant) (waiting : Waiting S) → Notes number now waiting waiting
none_noted number now waiting = record {
  noted = λ n d. inl refl;
  length = refl;
  stays = record { next = refl; end = refl };
}

-- ---- the first by some order

module _ {X : Type 0} (IsBefore : X → X → Type 0) where
  -- the one that was found is there, and is before each that stands before a place
  pub record FirstSoFar (xs : List X) (place found : ℕ) : Type 0 where
    pub there : found < length xs
    pub first : (n : ℕ) (d : X) → n < place → IsBefore (slice_index_or xs found d) (slice_index_or xs n d)

  pub only_one : (xs : List X) → ((x : X) → IsBefore x x) → 0 < length xs → FirstSoFar xs 1 0
  only_one xs itself some = record {
    there = some;
    first = λ n d before. let here : n ≡ 0 = omega (arith, before) in
        subst (λ (k : ℕ). IsBefore (slice_index_or xs 0 d) (slice_index_or xs k d)) (sym here) (itself (slice_index_or xs 0 d));
  }

  -- the one at the place is before the one that was found, or isn't
  pub or_this : (xs : List X) (place found : ℕ) → ((x : X) → IsBefore x x)
      → ((x y z : X) → IsBefore x y → IsBefore y z → IsBefore x z) → FirstSoFar xs place found → place < length xs
      → ((d : X) → IsBefore (slice_index_or xs place d) (slice_index_or xs found d)) → FirstSoFar xs (place + 1) place
  or_this xs place found itself through before there is = record {
    there = there;
    first = λ n d below. elim (cases_lt n place) [
      | inl earlier ↦ through (slice_index_or xs place d) (slice_index_or xs found d) (slice_index_or xs n d) (is d) (before.first n d earlier)
      | inr later ↦
          let here : n ≡ place = omega (arith, below, later) in
          subst (λ (k : ℕ). IsBefore (slice_index_or xs place d) (slice_index_or xs k d)) (sym here) (itself (slice_index_or xs place d))
    ];
  }

  pub still_that : (xs : List X) (place found : ℕ) → FirstSoFar xs place found
      → ((d : X) → IsBefore (slice_index_or xs found d) (slice_index_or xs place d)) → FirstSoFar xs (place + 1) found
  still_that xs place found before is = record {
    there = before.there;
    first = λ n d below. elim (cases_lt n place) [
      | inl earlier ↦ before.first n d earlier
      | inr later ↦
          let here : n ≡ place = omega (arith, below, later) in
          subst (λ (k : ℕ). IsBefore (slice_index_or xs found d) (slice_index_or xs k d)) (sym here) (is d)
    ];
  }

-- a request that takes no less memory
abbrev pub IsNoSmaller : {S : Type 0} → (one other : Held S) → Type 0
IsNoSmaller one other = size_of other ≤ size_of one

-- a peer that takes its answer no more quickly
abbrev pub IsNoQuicker : {S C : Type 0} → (now : Instant) → (one other : Ending S C) → Type 0
IsNoQuicker now one other = rate now one ≤ rate now other
