-- Several connectors while there is room: the world of each side is calm.
use Rattle.std.proofs.Common.{◌≡◌, ℕ, false, ◌==◌, List, [], ◌∷◌, inl, inr, sym, subst}
use Rattle.std.proofs.lemmas.Bool.{cases_Bool, eqb-true}
use Rattle.std.specs.List.{AllByRecursion}
use Rattle.world_model.specs.World.{World, Event, happens}
use Rattle.world_model.specs.Invariant.{Names, InvariantOf}
use Rattle.world_model.specs.Others.{Ours, Theirs, OfOurs}
use Rattle.world_model.specs.Room.{HasRoom}
use Rattle.world_model.specs.Several.{Shared, nobody, world_of, world_at, Turn, On, Elsewhere, happens_at, run_several, NoneShared, IsItsOwn, EachItsOwn, IsLawfulTurn, NeverRefusedForEach, SettlesForEach}
use Rattle.world_model.specs.Untroubled.{IsLawful}
use Rattle.world_model.proofs.Calm.{CalmAmong, among_calm}
use Rattle.world_model.proofs.Quiet.{none_quiet, untroubled}
use Rattle.world_model.proofs.Room.{room_was_there}
use Rattle.world_model.proofs.Settling.{settles_from}
use Rattle.world_model.proofs.Several.{at_same, at_other, AllHold, all_hold, turns_lead, none_hold}

module _ (ours : ℕ → Names) (none_shared : NoneShared ours) where
  -- if there is room for a side, there was room before these turns
  room_first : (s : Shared) (turns : List Turn) → EachItsOwn ours turns → AllHold ours s → (place : ℕ) → HasRoom (world_at (run_several s turns) place) → HasRoom (world_at s place)
  room_first s turns own hold place room =
      let on = turns_lead ours none_shared s turns own hold place in
      room_was_there (world_at s place) on.acts (subst (λ (w : World). HasRoom w) (sym on.leads) room)

  -- the world of a side is calm after a turn, if there is room
  abbrev StaysCalm : Shared → Turn → (place : ℕ) → Type 0
  StaysCalm s turn place = HasRoom (world_at (happens_at s turn) place) → CalmAmong (ours place) (world_at s place) → CalmAmong (ours place) (world_at (happens_at s turn) place)

  its_calm : (s : Shared) (place : ℕ) (event : Event) → OfOurs (ours place) event → IsLawful event → StaysCalm s (On place event) place
  its_calm s place event own law room c =
      let same = at_same s place (happens (world_at s place) event) in
      let after = among_calm (world_at s place) (Ours event ∷ []) (own, tt) (law, tt) (subst (λ (w : World). HasRoom w) same room) c in
      subst (λ (w : World). CalmAmong (ours place) w) (sym same) after

  others_calm : (s : Shared) (other : ℕ) (event : Event) (place : ℕ) → (other == place) ≡ false → AllHold ours (happens_at s (On other event)) → StaysCalm s (On other event) place
  others_calm s other event place apart held room c =
      let v = happens (world_at s other) event in
      let same = at_other s other place v apart in
      let after : CalmAmong (ours place) (world_of v.entries (s.sides place)) = record {
        quiet = record {
          inv = subst (λ (w : World). InvariantOf (ours place) w) same (held place);
          lawful = c.quiet.lawful;
          counted = c.quiet.counted;
          answered = c.quiet.answered;
        };
        room = subst (λ (w : World). HasRoom w) same room;
        members = c.members;
      } in
      subst (λ (w : World). CalmAmong (ours place) w) (sym same) after

  one_calm : (s : Shared) (turn : Turn) → IsItsOwn ours turn → IsLawfulTurn turn → AllHold ours s → (place : ℕ) → StaysCalm s turn place
  one_calm s (On other event) own law hold place = elim (cases_Bool (other == place)) [
    | inl same ↦ subst (λ (q : ℕ). StaysCalm s (On other event) q) (eqb-true other place same) (its_calm s other event own law)
    | inr apart ↦ others_calm s other event place apart (all_hold ours none_shared s (On other event) own hold)
  ]
  one_calm s (Elsewhere request) own law hold place = λ room c. among_calm (world_at s place) (Theirs request ∷ []) (own place, tt) (tt, tt) room c

  turns_calm : (s : Shared) (turns : List Turn) → EachItsOwn ours turns → AllByRecursion IsLawfulTurn turns → AllHold ours s → (place : ℕ)
      → HasRoom (world_at (run_several s turns) place) → CalmAmong (ours place) (world_at s place) → CalmAmong (ours place) (world_at (run_several s turns) place)
  turns_calm s [] own law hold place room c = c
  turns_calm s (turn ∷ turns) own law hold place room c =
      let held = all_hold ours none_shared s turn own.0 hold in
      let after = one_calm s turn own.0 law.0 hold place (room_first (happens_at s turn) turns own.1 held place room) c in
      turns_calm (happens_at s turn) turns own.1 law.1 held place room after

  calm_for_each : (turns : List Turn) → EachItsOwn ours turns → AllByRecursion IsLawfulTurn turns → (place : ℕ) → HasRoom (world_at (run_several nobody turns) place)
      → CalmAmong (ours place) (world_at (run_several nobody turns) place)
  calm_for_each turns own law place room =
      let hold = none_hold ours none_shared in
      let first : CalmAmong (ours place) (world_at nobody place) = record { quiet = none_quiet (ours place); room = room_first nobody turns own hold place room; members = tt } in
      turns_calm nobody turns own law hold place room first

-- ---- the laws

pub never_refused_for_each : NeverRefusedForEach
never_refused_for_each ours turns none_shared own law place room =
    untroubled (world_at (run_several nobody turns) place) (calm_for_each ours none_shared turns own law place room).quiet room

pub settles_for_each : SettlesForEach
settles_for_each ours turns theirs none_shared own law place room leave =
    settles_from theirs leave (world_at (run_several nobody turns) place) (calm_for_each ours none_shared turns own law place room)
