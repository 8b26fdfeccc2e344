-- A base is long enough to hold its parts, and is the text that they spell.
use Rattle.std.proofs.Common.{◌≡◌, ◌<◌, ◌≤◌, ◌+◌, ◌-◌, ◌&&◌, ◌==◌, ℕ, Bool, true, false, List, ◌++◌, Some, None, length, take, drop, nat_lt, nat_eq, codes, cond, refl, sym, ap, ◌∙◌, arith, length-append, length-take, length-drop}
use Rattle.std.specs.List.{list_all, starts_with}
use Rattle.std.proofs.Math.Seq.{drop-append_seam, take-append_seam}
use Rattle.std.proofs.lemmas.Bool.{and_parts}
use Rattle.std.proofs.lemmas.Bool.Decides.{nat_tests}
use Rattle.std.proofs.lemmas.List.{take-append-drop, take-append-le, take_all}
use Rattle.std.proofs.lemmas.Slice.Eq.{bytes_eq-Decides}
use Rattle.scim_key.specs.declared.bases.TheConstants.{BASE_LIMIT}
use Rattle.scim_key.specs.declared.names.NameFault.TheVariants.{Empty, TooLong, Character}
use Rattle.scim_key.specs.Bases.{BasesAreSpelled, IsAuthority, IsBase, authority_of, base_fault, base_text, is_authority_byte, is_base}

pub base_is_long : (bs : List ℕ) → IsBase bs → 10 < length bs
unfolding base_fault is_base
base_is_long bs lawful = grind (arith, nat_tests)

base_is_short : (bs : List ℕ) → IsBase bs → length bs ≤ 110
unfolding base_fault
base_is_short bs lawful = grind (arith, nat_tests)

is_base_of : (bs : List ℕ) → IsBase bs → is_base bs ≡ true
unfolding base_fault
is_base_of bs lawful = grind (arith, nat_tests)

-- a text with this beginning and this end, which don't overlap
spelled_by : (p s bs : List ℕ) → length p + length s ≤ length bs → take (length p) bs ≡ p → drop (length bs - length s) bs ≡ s
    → bs ≡ p ++ drop (length p) (take (length bs - length s) bs) ++ s
spelled_by p s bs room front back =
    let k = length bs - length s in
    let size : length p ≤ length (take k bs) = omega (arith, length-take k bs) in
    let first : take (length p) (take k bs) ≡ p = sym (take-append-le (length p) (take k bs) (drop k bs) size) ∙ ap (take (length p)) (take-append-drop k bs) ∙ front in
    let inner : p ++ drop (length p) (take k bs) ≡ take k bs = ap (λ xs. xs ++ drop (length p) (take k bs)) (sym first) ∙ take-append-drop (length p) (take k bs) in
    sym (take-append-drop k bs) ∙ ap (λ xs. take k bs ++ xs) back ∙ ap (λ xs. xs ++ s) (sym inner)

-- the bytes between
middle : (p a s : List ℕ) → drop (length p) (take (length (p ++ a ++ s) - length s) (p ++ a ++ s)) ≡ a
middle p a s =
    let size : length (p ++ a ++ s) - length s ≡ length (p ++ a) = omega (arith, length-append (p ++ a) s) in
    rw (size, take-append_seam (p ++ a) s) (drop-append_seam p a)

end_of : (p a s : List ℕ) → drop (length (p ++ a ++ s) - length s) (p ++ a ++ s) ≡ s
end_of p a s =
    let size : length (p ++ a ++ s) - length s ≡ length (p ++ a) = omega (arith, length-append (p ++ a) s) in
    rw size (drop-append_seam (p ++ a) s)

read_back : (authority : List ℕ) → authority_of (base_text authority) ≡ authority
read_back authority = middle (codes "http://") authority (codes "/v2")

-- the parts of the test of a base
module _ (bs : List ℕ) (lawful : IsBase bs) where
  abbrev begins : Bool
  begins = starts_with nat_eq bs (codes "http://")

  abbrev ends : Bool
  ends = starts_with nat_eq (drop (length bs - 3) bs) (codes "/v2")

  abbrev holds : Bool
  holds = list_all is_authority_byte (authority_of bs)

  three : (nat_lt 10 (length bs) && begins && ends ≡ true) × (holds ≡ true)
  unfolding is_base
  three = and_parts (nat_lt 10 (length bs) && begins && ends) holds (is_base_of bs lawful)

  two : (nat_lt 10 (length bs) && begins ≡ true) × (ends ≡ true)
  two = and_parts (nat_lt 10 (length bs) && begins) ends three.0

  front : begins ≡ true
  front = (and_parts (nat_lt 10 (length bs)) begins two.0).1

spelled : (bs : List ℕ) → IsBase bs → bs ≡ base_text (authority_of bs)
spelled bs lawful =
    let room = base_is_long bs lawful in
    let end : length (drop (length bs - 3) bs) ≤ 3 = omega (arith, length-drop (length bs - 3) bs) in
    spelled_by (codes "http://") (codes "/v2") bs (omega arith)
    (sym ((bytes_eq-Decides (codes "http://") (take 7 bs)).0 (front bs lawful)))
    (sym (take_all 3 (drop (length bs - 3) bs) end) ∙ sym ((bytes_eq-Decides (codes "/v2") (take 3 (drop (length bs - 3) bs))).0 (two bs lawful).1))

pub authority_is_lawful : (bs : List ℕ) → IsBase bs → IsAuthority (authority_of bs)
authority_is_lawful bs lawful =
    let long = base_is_long bs lawful in
    let short = base_is_short bs lawful in
    let size : length (authority_of bs) ≡ length bs - 3 - 7 = omega (arith, length-drop 7 (take (length bs - 3) bs), length-take (length bs - 3) bs) in
    record {
      some = omega arith;
      short = omega arith;
      bytes = (three bs lawful).1;
    }

accepted : (none long lawful : Bool) → none ≡ false → long ≡ false → lawful ≡ true → cond none (Some Empty) (cond long (Some TooLong) (cond lawful None (Some Character))) ≡ None
accepted none long lawful p q r = rw (p, q, r) refl

all_four : (a b c d : Bool) → a ≡ true → b ≡ true → c ≡ true → d ≡ true → (a && b && c && d) ≡ true
all_four a b c d p q r s = rw (p, q, r, s) refl

lawful_base : (authority : List ℕ) → IsAuthority authority → IsBase (base_text authority)
unfolding base_fault is_base
lawful_base authority lawful =
    let bs = base_text authority in
    let size : length bs ≡ length authority + 10 = omega (arith, length-append (codes "http://" ++ authority) (codes "/v2"), length-append (codes "http://") authority) in
    let some : (length bs == 0) ≡ false = rw size (grind (arith, nat_tests)) in
    let short : nat_lt BASE_LIMIT (length bs) ≡ false = rw size (grind (arith, nat_tests)) in
    let long : nat_lt 10 (length bs) ≡ true = rw size (grind (arith, nat_tests)) in
    let ends : starts_with nat_eq (drop (length bs - 3) bs) (codes "/v2") ≡ true = rw (end_of (codes "http://") authority (codes "/v2")) refl in
    let holds : list_all is_authority_byte (authority_of bs) ≡ true = rw (read_back authority) lawful.bytes in
    accepted _ _ _ some short (all_four _ _ _ _ long refl ends holds)

pub are_spelled : BasesAreSpelled
are_spelled = record {
  lawful = λ bs. (
    λ lawful. (authority_of bs, authority_is_lawful bs lawful, spelled bs lawful),
    λ spells. rw (spells.2) (lawful_base spells.0 spells.1),
  );
  read_back = read_back;
}
