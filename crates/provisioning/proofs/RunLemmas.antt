-- Records one after another.
use Rattle.std.proofs.Common.{◌≡◌, ◌+◌, ℕ, Bool, true, false, ◌&&◌, min, List, [], ◌∷◌, ◌++◌, map, Option, Ok, inl, inr, refl, ap, sym, ◌∙◌, subst, append_assoc, append-nil, arith}
use Rattle.std.proofs.lemmas.List.{map-append}
use Rattle.std.proofs.lemmas.List.Folds.{list_all-append}
use Rattle.std.proofs.lemmas.List.Sums.{sum_by-append, sum_by_push}
use Rattle.std.specs.List.{list_all, sum_by}
use Rattle.scim_key.specs.declared.records.RecordName.{RecordName}
use Rattle.journal_core.specs.declared.journals.Journal.{Ghosts}
use Rattle.connector_core.specs.State.{State}
use Rattle.provisioning.proofs.ListLemmas.{adds_more}
use Rattle.provisioning.specs.Abreast.{both}
use Rattle.provisioning.specs.Openings.{Opening}
use Rattle.provisioning.specs.Records.{IsPushed, greatest_count}
use Rattle.provisioning.specs.Runs.{AllDone, AreDone, Done, EndsAt, GoesOnAfterEach, PartDone, is_confirmed, streak_after, tally_of, tally_with}
use Rattle.provisioning.specs.Services.{Service}
use Rattle.provisioning.specs.Streaks.{go_on_after, streak_with}
use Rattle.provisioning.specs.declared.faults.RunFault.{RunFault}
use Rattle.provisioning.specs.declared.pushing.Tally.{Tally}
use Rattle.provisioning.specs.declared.streaks.Streak.{Streak}

-- ---- counting

abbrev exchanges_of : Done → ℕ
exchanges_of d = d.1.exchanges

abbrev settles : Done → Bool
settles d = is_confirmed d.1.standing

abbrev tally_at : ℕ → Bool → Tally
tally_at n b = record { exchanges = n; is_settled = b }

and_true : (b : Bool) → (b && true) ≡ b
and_true true = refl
and_true false = refl

up_to : (s n m : ℕ) → min m (s + n) ≡ min m (min m s + n)
up_to s n m = omega arith

up_to_both : (s n m : ℕ) → min m (s + n) ≡ min m (min m s + min m n)
up_to_both s n m = omega arith

pub tally_more : (done more : List Done) → tally_of (done ++ more) ≡ both (tally_of done) (tally_of more)
tally_more done more =
    ap (λ n. tally_at (min greatest_count n) (list_all settles (done ++ more))) (sum_by-append exchanges_of done more)
    ∙ ap (λ n. tally_at n (list_all settles (done ++ more))) (up_to_both (sum_by exchanges_of done) (sum_by exchanges_of more) greatest_count)
    ∙ ap (tally_at (min greatest_count (min greatest_count (sum_by exchanges_of done) + min greatest_count (sum_by exchanges_of more)))) (list_all-append settles done more)

pub tally_next : (done : List Done) (d : Done) → tally_of (done ++ d ∷ []) ≡ tally_with (tally_of done) d.1
tally_next done d =
    ap (λ n. tally_at (min greatest_count n) (list_all settles (done ++ d ∷ []))) (sum_by_push exchanges_of done d)
    ∙ ap (λ n. tally_at n (list_all settles (done ++ d ∷ []))) (up_to (sum_by exchanges_of done) d.1.exchanges greatest_count)
    ∙ ap (tally_at (min greatest_count (min greatest_count (sum_by exchanges_of done) + d.1.exchanges)))
    (list_all-append settles done (d ∷ []) ∙ ap (λ b. list_all settles done && b) (and_true (settles d)))

-- ---- in a row

pub streak_next : (streak : Option Streak) (done : List Done) (d : Done) → streak_after streak (done ++ d ∷ []) ≡ streak_with (streak_after streak done) d.1
streak_next streak [] d = refl
streak_next streak (e ∷ done) d = streak_next (streak_with streak e.1) done d

pub goes_next : (limit : ℕ) (streak : Option Streak) (done : List Done) (d : Done) → GoesOnAfterEach limit streak done → go_on_after limit (streak_with (streak_after streak done) d.1) ≡ Ok tt
    → GoesOnAfterEach limit streak (done ++ d ∷ [])
goes_next limit streak [] d each ok = (ok, tt)
goes_next limit streak (e ∷ done) d each ok = (each.0, goes_next limit (streak_with streak e.1) done d each.1 ok)

-- ---- the records

module _ {I O J : Type 0} (remaining : I → Option (List ℕ)) (contents : O → Option (List ℕ)) (g : Ghosts J) (service : Service) where
  done_then : (done more : List Done) (first then : List (Opening I O)) (old between new : State J)
      → AreDone remaining contents g service done first old between → AreDone remaining contents g service more then between new → AreDone remaining contents g service (done ++ more) (first ++ then) old new
  done_then [] more first then old between new (none, same) are =
      subst (λ (s : State J). AreDone remaining contents g service more (first ++ then) s new) same
      (subst (λ (l : List (Opening I O)). AreDone remaining contents g service more (l ++ then) between new) (sym none) are)
  done_then (d ∷ done) more first then old between new a are =
      (a.0, a.1 ++ then, a.2, ap (λ xs. xs ++ then) a.3 ∙ append_assoc a.0 a.1 then, a.4, done_then done more a.1 then a.2 between new a.5 are)

  -- one record more, with its openings
  pub done_more : (done : List Done) (d : Done) (first then : List (Opening I O)) (old between new : State J) → AreDone remaining contents g service done first old between
      → IsPushed remaining contents g service d.0 then between new d.1 → AreDone remaining contents g service (done ++ d ∷ []) (first ++ then) old new
  done_more done d first then old between new are is =
      done_then done (d ∷ []) first then old between new are (then, [], new, sym (append-nil then), is, (refl, refl))

  -- these records, and then those
  pub all_then : (names more : List RecordName) (first then : List (Opening I O)) (old between new : State J) (before mid after : Option (List Done)) (tally next : Tally)
      → AllDone remaining contents g service names first old between before mid tally → AllDone remaining contents g service more then between new mid after next
      → AllDone remaining contents g service (names ++ more) (first ++ then) old new before after (both tally next)
  all_then names more first then old between new before mid after tally next a b = record {
    done = a.done ++ b.done;
    names_are = map-append (λ (d : Done). d.0) a.done b.done ∙ ap (λ xs. xs ++ map (λ (d : Done). d.0) b.done) a.names_are ∙ ap (λ xs. names ++ xs) b.names_are;
    are = done_then a.done b.done first then old between new a.are b.are;
    tells = adds_more before mid after a.done b.done a.tells b.tells;
    tally_is = ap (λ (t : Tally). both t next) a.tally_is ∙ ap (both (tally_of a.done)) b.tally_is ∙ sym (tally_more a.done b.done);
  }

  pub part_then : (limit : ℕ) (names more : List RecordName) (first then : List (Opening I O)) (old between new : State J) (before mid : Option (List Done)) (tally : Tally) (fault : RunFault)
      → AllDone remaining contents g service names first old between before mid tally → PartDone remaining contents g service limit more then between new fault
      → PartDone remaining contents g service limit (names ++ more) (first ++ then) old new fault
  part_then limit names more first then old between new before mid tally fault a b = record {
    done = a.done ++ b.done;
    rest = b.rest;
    first = first ++ b.first;
    last = b.last;
    between = b.between;
    names_are = ap (λ xs. names ++ xs) b.names_are ∙ ap (λ xs. xs ++ (map (λ (d : Done). d.0) b.done ++ b.rest)) (sym a.names_are)
        ∙ sym (append_assoc (map (λ (d : Done). d.0) a.done) (map (λ (d : Done). d.0) b.done) b.rest)
        ∙ ap (λ xs. xs ++ b.rest) (sym (map-append (λ (d : Done). d.0) a.done b.done));
    opened_are = ap (λ xs. first ++ xs) b.opened_are ∙ sym (append_assoc first b.first b.last);
    are = done_then a.done b.done first b.first old between b.between a.are b.are;
    ends = b.ends;
  }

  ends_before : (rest more : List RecordName) (last : List (Opening I O)) (between new : State J) (fault : RunFault)
      → EndsAt remaining contents g service rest last between new fault → EndsAt remaining contents g service (rest ++ more) last between new fault
  ends_before [] more last between new fault ends = absurd ends
  ends_before (name ∷ rest) more last between new fault ends = ends

  pub part_before : (limit : ℕ) (names more : List RecordName) (opened : List (Opening I O)) (old new : State J) (fault : RunFault)
      → PartDone remaining contents g service limit names opened old new fault → PartDone remaining contents g service limit (names ++ more) opened old new fault
  part_before limit names more opened old new fault a = record {
    done = a.done;
    rest = a.rest ++ more;
    first = a.first;
    last = a.last;
    between = a.between;
    names_are = ap (λ xs. xs ++ more) a.names_are ∙ append_assoc (map (λ (d : Done). d.0) a.done) a.rest more;
    opened_are = a.opened_are;
    are = a.are;
    ends = elim (a.ends) [
      | inl ends ↦ inl (ends_before a.rest more a.last a.between new fault ends)
      | inr untold ↦ inr untold
    ];
  }
