-- The order of revisions.
use Rattle.std.proofs.Common.{◌≡◌, ◌==◌, ◌<◌, ◌≤◌, ◌^◌, ◌↔◌, ◌⊎◌, ℕ, List, [], ◌∷◌, ◌++◌, true, false, zero, suc, ◌+◌, Result, Ok, None, Some, codes, get_or, length, nat_lt, nat_le, ◌&&◌, ◌∙◌, ap, refl, sym, inl, inr, arith, rules, eqb-true}
use Rattle.std.proofs.lemmas.Bool.{and_parts, cases_Bool, le-leb, le-ltb, lt-ltb, ltb-true}
use Rattle.std.proofs.lemmas.List.{length-append, take_at}
use Rattle.std.proofs.Math.Seq.{drop-append-add}
use Rattle.std.proofs.Math.ListN.{get_or-append}
use Rattle.std.proofs.Math.Seq.{get_or-append_seam}
use Rattle.std.proofs.lemmas.List.Sums.{position_or_len_is}
use Rattle.std.proofs.lemmas.Bool.Decides.{nat_tests}
use Rattle.std.proofs.lemmas.Fmt.{digits_decimal, digits_value-decimal, length-decimal-le, decimal_nonempty}
use Rattle.std.proofs.lemmas.Str.Parse.{IsNumeralModel, numerals_by_value, parse_gives, digits_value_short}
use Rattle.std.specs.Char.{is_ascii_digit}
use Rattle.std.specs.Fmt.{decimal}
use Rattle.std.specs.List.{after_first, before_first, list_all, position_or_len}
use Rattle.std.specs.Str.Parse.{ParsesUnsigned, digits_value}
use Rattle.scim_key.specs.Revisions.{RevisionValue, IsNoneOrRevision, Follows, IsOrder, IsRevision, NextsFollow, RevisionsAreReadBack, before, confirmed_of_parts, has_colon, is_colon, later, next_revision, rank, is_numeral, is_revision, no_revision, numeral_value, most_revisions, read_revision, revision_epoch, revision_number, revision_of_parts, revision_text, same_revision, spelled_parts, ◌≺◌, ◌≼◌}
use Rattle.scim_key.specs.declared.revisions.TheConstants.{LAST_EPOCH, LAST_REVISION}

pub irreflexive : (a : RevisionValue) → a ≺ a → ⊥
unfolding before
irreflexive a lt = grind (arith, nat_tests)

pub transitive : (a b c : RevisionValue) → a ≺ b → b ≺ c → a ≺ c
unfolding before
transitive a b c p q = grind (arith, nat_tests)

-- revisions with the same parts are the same
parts_decide : (a b : RevisionValue) → a.epoch ≡ b.epoch → a.number ≡ b.number → a ≡ b
parts_decide a b e n = λ i. record { epoch = e i; number = n i }

pub total : (a b : RevisionValue) → a ≼ b → b ≼ a → a ≡ b
unfolding before
total a b p q = parts_decide a b (grind (arith, nat_tests)) (grind (arith, nat_tests))

pub none_first : (a : RevisionValue) → no_revision ≼ a
unfolding before no_revision
none_first a = grind (arith, nat_tests)

pub none_before : (a : RevisionValue) → IsRevision a → no_revision ≺ a
unfolding before is_revision no_revision
none_before a lawful = grind (arith, nat_tests)

-- the parts of a revision that the source may give
bounds : (r : RevisionValue) → IsRevision r → (r.epoch ≤ LAST_EPOCH) × (1 ≤ r.number) × (r.number ≤ LAST_REVISION)
unfolding is_revision
bounds r lawful = (grind (arith, nat_tests), grind (arith, nat_tests), grind (arith, nat_tests))

-- the parts of a revision that comes before another
sooner : (a b : RevisionValue) → a ≺ b → (a.epoch < b.epoch) ⊎ ((a.epoch ≡ b.epoch) × (a.number < b.number))
unfolding before
sooner a b lt = elim (cases_Bool (nat_lt a.epoch b.epoch)) [
  | inl epoch ↦ inl (ltb-true a.epoch b.epoch epoch)
  | inr not ↦ inr (grind (arith, nat_tests), grind (arith, nat_tests))
]

pub rank_rises : (a b : RevisionValue) → IsNoneOrRevision a → IsRevision b → a ≺ b → nat_lt (rank a) (rank b) ≡ true
unfolding rank no_revision
rank_rises a b (inl none) lawful lt = let its = bounds b lawful in rw none (lt-ltb _ _ (omega (arith, its.1)))
rank_rises a b (inr known) lawful lt =
    let first = bounds a known in
    let second = bounds b lawful in
    elim (sooner a b lt) [
      | inl epoch ↦ lt-ltb _ _ (omega (arith, epoch, first.2, second.1))
      | inr same ↦ lt-ltb _ _ (omega (arith, same.0, same.1))
    ]

pub rank_bounded : (a : RevisionValue) → IsRevision a → nat_le (rank a) most_revisions ≡ true
unfolding rank
rank_bounded a lawful = let its = bounds a lawful in le-leb _ _ (omega (arith, its.0, its.2))

pub same : (a b : RevisionValue) → (same_revision a b ≡ true) ↔ (a ≡ b)
unfolding same_revision
same a b = (λ is. let both = and_parts (a.epoch == b.epoch) (a.number == b.number) is in parts_decide a b (eqb-true _ _ both.0) (eqb-true _ _ both.1), λ is. rw (sym is) (grind rules))

pub reflexive_up_to : (a : RevisionValue) → a ≼ a
unfolding before
reflexive_up_to a = grind (arith, nat_tests)

pub transitive_up_to : (a b c : RevisionValue) → a ≼ b → b ≼ c → a ≼ c
unfolding before
transitive_up_to a b c p q = grind (arith, nat_tests)

pub up_to_before : (a b : RevisionValue) → a ≺ b → a ≼ b
unfolding before
up_to_before a b p = grind (arith, nat_tests)

pub later_is_one : (a b : RevisionValue) → (later a b ≡ a) ⊎ (later a b ≡ b)
unfolding later
later_is_one a b = elim (cases_Bool (before a b)) [
  | inl comes ↦ inr (rw comes refl)
  | inr not ↦ inl (rw not refl)
]

pub later_above_first : (a b : RevisionValue) → a ≼ later a b
unfolding later
later_above_first a b = elim (cases_Bool (before a b)) [
  | inl comes ↦ rw comes (up_to_before a b comes)
  | inr not ↦ rw not (reflexive_up_to a)
]

pub later_above_second : (a b : RevisionValue) → b ≼ later a b
unfolding later
later_above_second a b = elim (cases_Bool (before a b)) [
  | inl comes ↦ rw comes (reflexive_up_to b)
  | inr not ↦ rw not not
]

pub is_order : IsOrder
is_order = record {
  same = same;
  irreflexive = irreflexive;
  transitive = transitive;
  total = total;
  none_first = none_first;
  none_before = none_before;
  rank_rises = rank_rises;
  rank_bounded = rank_bounded;
  reflexive_up_to = reflexive_up_to;
  transitive_up_to = transitive_up_to;
  up_to_before = up_to_before;
  later_above_first = later_above_first;
  later_above_second = later_above_second;
  later_is_one = later_is_one;
}

-- ---- reading and writing

-- the test of decimal digits, as std's numerals take it
numerals : IsNumeralModel (λ ds. list_all is_ascii_digit ds ≡ true) (digits_value 10)
numerals = numerals_by_value _ (search rules)

-- a text of 1 to 18 digits is parsed
pub numeral_is_read : {E : Type 0} (text : List ℕ) (r : Result ℕ E) → ParsesUnsigned 64 10 text r → is_numeral text ≡ true → r ≡ Ok (digits_value 10 text)
numeral_is_read text r parses numeral =
    let front = and_parts (nat_le 1 (length text) && nat_le (length text) 18) (list_all is_ascii_digit text) numeral in
    let sizes = and_parts (nat_le 1 (length text)) (nat_le (length text) 18) front.0 in
    let some : 0 < length text = grind (arith, nat_tests) in
    let short : length text ≤ 18 = grind (arith, nat_tests) in
    let small : digits_value 10 text < 10 ^ 18 = digits_value_short numerals text 18 front.1 short in
    parse_gives numerals 64 text r parses front.1 some (omega arith)

-- ---- the parts

parts_fit : (r : RevisionValue) → IsRevision r → (revision_epoch r < 2 ^ 64) × (revision_number r < 2 ^ 64)
unfolding revision_epoch revision_number
parts_fit r lawful = let its = bounds r lawful in (omega (arith, its.0), omega (arith, its.2))

from_parts : (r : RevisionValue) → IsRevision r → revision_of_parts (revision_epoch r) (revision_number r) ≡ Some r
unfolding revision_of_parts revision_epoch revision_number
from_parts r lawful = rw lawful refl

lawful_from_parts : (epoch number : ℕ) (r : RevisionValue) → revision_of_parts epoch number ≡ Some r → IsRevision r
unfolding revision_of_parts
lawful_from_parts epoch number r is = grind rules

confirmed_from_parts : (r : RevisionValue) → IsNoneOrRevision r → confirmed_of_parts (revision_epoch r) (revision_number r) ≡ Some r
unfolding confirmed_of_parts revision_of_parts revision_epoch revision_number no_revision same_revision
confirmed_from_parts r (inl none) = rw none refl
confirmed_from_parts r (inr lawful) = let its = bounds r lawful in let above : (r.number == 0) ≡ false = grind (arith, nat_tests) in rw (above, lawful) (grind rules)

is_same_some : (a b : RevisionValue) → Some a ≡ Some b → a ≡ b
is_same_some a b same = cc

known_from_parts : (epoch number : ℕ) (r : RevisionValue) → confirmed_of_parts epoch number ≡ Some r → IsNoneOrRevision r
unfolding confirmed_of_parts
known_from_parts epoch number r is = elim (cases_Bool (same_revision (record { epoch = epoch; number = number }) no_revision)) [
  | inl none ↦ inl (sym (is_same_some no_revision r (rw none at is)))
  | inr not ↦ inr (lawful_from_parts epoch number r (rw not at is))
]

-- ---- texts

decimal_is_numeral : (n : ℕ) → n < 10 ^ 18 → is_numeral (decimal n) ≡ true
decimal_is_numeral n small =
    let fits : n < 2 ^ 64 = omega (arith, small) in
    let some = decimal_nonempty n fits in
    let short = length-decimal-le 18 n (omega arith) small fits in
    let digits = digits_decimal numerals n fits in
    rw digits (grind (arith, nat_tests))

decimal_value : (n : ℕ) → n < 10 ^ 18 → numeral_value (decimal n) ≡ Some n
decimal_value n small = rw (decimal_is_numeral n small, digits_value-decimal numerals n (omega (arith, small))) refl

-- digits have no colon
digit_is_no_colon : (b : ℕ) → is_ascii_digit b ≡ true → is_colon b ≡ false
digit_is_no_colon b digit = grind (arith, nat_tests)

not_colon : (ds : List ℕ) → list_all is_ascii_digit ds ≡ true → (k : ℕ) → k < length ds → is_colon (get_or ds k 0) ≡ false
not_colon [] digits k inside = absurd (omega (arith, inside))
not_colon (d ∷ ds) digits zero inside = digit_is_no_colon d (and_parts _ _ digits).0
not_colon (d ∷ ds) digits (suc k) inside = not_colon ds (and_parts _ _ digits).1 k (omega (arith, inside))

number_alone : (ds : List ℕ) → list_all is_ascii_digit ds ≡ true → spelled_parts ds ≡ (codes "0", ds)
number_alone ds digits =
    let at : position_or_len is_colon ds ≡ length ds = position_or_len_is is_colon ds (length ds) 0 (omega arith) (not_colon ds digits) (λ inside. absurd (omega (arith, inside))) in
    let none : has_colon ds ≡ false = rw at (le-ltb _ _ (omega arith)) in
    rw none refl

both_parts : (ds es : List ℕ) → list_all is_ascii_digit ds ≡ true → spelled_parts (ds ++ (58 ∷ es)) ≡ (ds, es)
both_parts ds es digits =
    let whole = ds ++ (58 ∷ es) in
    let size : length whole ≡ length ds + suc (length es) = length-append ds (58 ∷ es) in
    let at : position_or_len is_colon whole ≡ length ds =
    position_or_len_is is_colon whole (length ds) 0 (omega (arith, size))
    (λ k inside. ap is_colon (get_or-append ds (58 ∷ es) 0 k inside) ∙ not_colon ds digits k inside)
    (λ inside. ap is_colon (get_or-append_seam ds 58 es 0)) in
    let some : has_colon whole ≡ true = rw at (lt-ltb _ _ (omega (arith, size))) in
    let front : before_first is_colon whole ≡ ds = rw at (take_at ds (58 ∷ es) (length ds) refl) in
    let back : after_first is_colon whole ≡ es = rw at (drop-append-add ds (58 ∷ es) 1) in
    rw (some, front, back) refl

from_text : (r : RevisionValue) → IsRevision r → read_revision (revision_text r) ≡ Some r
unfolding read_revision revision_text revision_epoch revision_number
from_text r lawful =
    let its = bounds r lawful in
    let number_small : r.number < 10 ^ 18 = omega (arith, its.2) in
    let epoch_small : r.epoch < 10 ^ 18 = omega (arith, its.0) in
    let digits = λ (n : ℕ) (small : n < 10 ^ 18). digits_decimal numerals n (omega (arith, small)) in
    elim (cases_Bool (r.epoch == 0)) [
      | inl first ↦
          let none : r.epoch ≡ 0 = eqb-true r.epoch 0 first in
          rw (first, number_alone (decimal r.number) (digits r.number number_small), decimal_value r.number number_small, sym none) (from_parts r lawful)
      | inr not ↦
          rw (not, both_parts (decimal r.epoch) (decimal r.number) (digits r.epoch epoch_small), decimal_value r.epoch epoch_small, decimal_value r.number number_small) (from_parts r lawful)
    ]

pub are_read_back : RevisionsAreReadBack
are_read_back = record {
  from_text = from_text;
  from_parts = from_parts;
  confirmed_from_parts = confirmed_from_parts;
  lawful_from_parts = lawful_from_parts;
  known_from_parts = known_from_parts;
  parts_fit = parts_fit;
}

-- ---- the next revision

is_made : (epoch number : ℕ) (r : RevisionValue) → revision_of_parts epoch number ≡ Some r
    → (r ≡ record { epoch = epoch; number = number }) × IsRevision r
unfolding revision_of_parts
is_made epoch number r is = elim (cases_Bool (is_revision (record { epoch = epoch; number = number }))) [
  | inl lawful ↦
      let same : r ≡ record { epoch = epoch; number = number } = sym (is_same_some _ r (rw lawful at is)) in
      (same, rw same lawful)
  | inr not ↦ let none : None ≡ Some r = rw not at is in absurd (cc)
]

is_unmade : (epoch number : ℕ) → revision_of_parts epoch number ≡ None
    → is_revision (record { epoch = epoch; number = number }) ≡ false
unfolding revision_of_parts
is_unmade epoch number is = elim (cases_Bool (is_revision (record { epoch = epoch; number = number }))) [
  | inl lawful ↦ let some : Some (record { epoch = epoch; number = number }) ≡ None = rw lawful at is in absurd (cc)
  | inr not ↦ not
]

follows : (r after : RevisionValue) → next_revision r ≡ Some after → Follows r after
unfolding next_revision before is_revision rank
follows r after is = elim (cases_Bool (nat_lt r.number LAST_REVISION)) [
  | inl below ↦
      let its = is_made r.epoch (r.number + 1) after (rw below at is) in
      let epoch : after.epoch ≡ r.epoch = ap (λ (v : RevisionValue). v.epoch) its.0 in
      let number : after.number ≡ r.number + 1 = ap (λ (v : RevisionValue). v.number) its.0 in
      record {
        rises = grind (arith, nat_tests);
        lawful = its.1;
        nothing_between = λ other lawful later. grind (arith, nat_tests);
        ranked = λ small. omega (arith, epoch, number);
      }
  | inr not ↦
      let its = is_made (r.epoch + 1) 1 after (rw not at is) in
      let epoch : after.epoch ≡ r.epoch + 1 = ap (λ (v : RevisionValue). v.epoch) its.0 in
      let number : after.number ≡ 1 = ap (λ (v : RevisionValue). v.number) its.0 in
      let full : LAST_REVISION ≤ r.number = grind (arith, nat_tests) in
      record {
        rises = grind (arith, nat_tests);
        lawful = its.1;
        nothing_between = λ other lawful later. let within = bounds other lawful in grind (arith, nat_tests);
        ranked = λ small. absurd (omega (arith, small, full));
      }
]

none_is_last : (r other : RevisionValue) → IsNoneOrRevision r → next_revision r ≡ None → IsRevision other
    → other ≼ r
unfolding next_revision before is_revision no_revision
none_is_last r other (inl none) is lawful =
    let small : nat_lt r.number LAST_REVISION ≡ true = rw none refl in
    let unmade = is_unmade r.epoch (r.number + 1) (rw small at is) in
    let first : r.epoch ≡ 0 = ap (λ (v : RevisionValue). v.epoch) none in
    let zero : r.number ≡ 0 = ap (λ (v : RevisionValue). v.number) none in
    absurd (grind (arith, nat_tests))
none_is_last r other (inr known) is lawful = elim (cases_Bool (nat_lt r.number LAST_REVISION)) [
  | inl below ↦
      let unmade = is_unmade r.epoch (r.number + 1) (rw below at is) in
      let its = bounds r known in
      absurd (grind (arith, nat_tests))
  | inr not ↦
      let unmade = is_unmade (r.epoch + 1) 1 (rw not at is) in
      let its = bounds other lawful in
      grind (arith, nat_tests)
]

pub nexts_follow : NextsFollow
nexts_follow = record { next = follows; last = none_is_last }
