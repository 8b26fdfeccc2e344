-- One turn more.
use Rattle.std.proofs.Common.{◌≡◌, ℕ, ◌+◌, List, [], ◌∷◌, ◌++◌, Option, Some, None, Result, Ok, Err, refl, sym, ap, ◌∙◌, append_assoc, append-nil, length-append, subst}
use Rattle.std.specs.Result.{result_and}
use Rattle.provider_core.specs.declared.registry.Registry.{Ghosts}
use Rattle.connection.specs.declared.serving.ConnectionFault.{ConnectionFault}
use Rattle.connection.specs.Listening.{Takes}
use Rattle.connection.specs.Turns.{Turn, turn_outcome, outcome, opened, all_opened, IsTurn, AreTurns, TakesTurn, ServesTurns}

pub none_taken : {C : Type 0} (known : Option (List C)) → Takes known known []
none_taken None = tt
none_taken (Some all) = refl

pub taken_still : {C : Type 0} (old between new : Option (List C)) (taken : List C)
    → Takes old between taken → new ≡ between → Takes old new taken
taken_still old between new taken takes same = subst (λ left. Takes old left taken) (sym same) takes

takes_more : {C : Type 0} (old between new : Option (List C)) (first then : List C)
    → Takes old between first → Takes between new then → Takes old new (first ++ then)
takes_more None between new first then a b = tt
takes_more (Some all) None new first then a b = absurd a
takes_more (Some all) (Some left) None first then a b = absurd b
takes_more (Some all) (Some left) (Some rest) first then a b = a ∙ ap (λ xs. first ++ xs) b ∙ sym (append_assoc first then rest)

all_opened-append : {I O : Type 0} (turns : List (Turn I O)) (turn : Turn I O) → all_opened (turns ++ turn ∷ []) ≡ all_opened turns ++ opened turn
all_opened-append [] turn = append-nil (opened turn)
all_opened-append (first ∷ turns) turn = ap (λ xs. opened first ++ xs) (all_opened-append turns turn) ∙ sym (append_assoc (opened first) (all_opened turns) (opened turn))

result_and-ok : (first : Result (Unit {0}) ConnectionFault) → result_and first (Ok tt) ≡ first
result_and-ok (Ok done) = refl
result_and-ok (Err fault) = refl

result_and_assoc : (first second third : Result (Unit {0}) ConnectionFault) → result_and first (result_and second third) ≡ result_and (result_and first second) third
result_and_assoc (Ok done) second third = refl
result_and_assoc (Err fault) second third = refl

outcome-append : {I O : Type 0} (turns : List (Turn I O)) (turn : Turn I O) → outcome (turns ++ turn ∷ []) ≡ result_and (outcome turns) (turn_outcome turn)
outcome-append [] turn = result_and-ok (turn_outcome turn)
outcome-append (first ∷ turns) turn = ap (result_and (turn_outcome first)) (outcome-append turns turn) ∙ result_and_assoc (turn_outcome first) (outcome turns) (turn_outcome turn)

module _ {L I O R : Type 0} (waiting : L → Option (List (I × O))) (remaining : I → Option (List ℕ)) (contents : O → Option (List ℕ)) (g : Ghosts R) (base : List ℕ) where
  turns_more : (turns : List (Turn I O)) (turn : Turn I O) (old between new : R)
      → AreTurns remaining contents g base turns old between → IsTurn remaining contents g base turn between new
      → AreTurns remaining contents g base (turns ++ turn ∷ []) old new
  turns_more [] turn old between new are is = (new, subst (λ r. IsTurn remaining contents g base turn r new) are is, refl)
  turns_more (first ∷ turns) turn old between new are is = (are.0, are.1, turns_more turns turn are.0 between new are.2 is)

  pub no_turn : (listener : L) (state : R) → ServesTurns waiting remaining contents g base listener listener state state 0 (Ok tt)
  no_turn listener state = record {
    turns = [];
    count_is = refl;
    takes = none_taken (waiting listener);
    served = refl;
    result_is = refl;
  }

  pub one_more : {before middle after : L} {old between new : R} {count : ℕ} {result last : Result (Unit {0}) ConnectionFault}
      → ServesTurns waiting remaining contents g base before middle old between count result
      → TakesTurn waiting remaining contents g base middle after between new last
      → ServesTurns waiting remaining contents g base before after old new (count + 1) (result_and result last)
  one_more {before} {middle} {after} {old} {between} {new} {count} {result} {last} s t = record {
    turns = s.turns ++ t.turn ∷ [];
    count_is = length-append s.turns (t.turn ∷ []) ∙ ap (λ n. n + 1) s.count_is;
    takes = subst (Takes (waiting before) (waiting after)) (sym (all_opened-append s.turns t.turn))
        (takes_more (waiting before) (waiting middle) (waiting after) (all_opened s.turns) (opened t.turn) s.takes t.takes);
    served = turns_more s.turns t.turn old between new s.served t.served;
    result_is = ap (λ r. result_and r last) s.result_is ∙ ap (result_and (outcome s.turns)) t.result_is ∙ sym (outcome-append s.turns t.turn);
  }
