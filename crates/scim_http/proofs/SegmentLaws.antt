-- What a segment spells by the grammar is what the function reads.
use Rattle.std.proofs.Common.{◌≡◌, refl, sym, ap, subst, ◌∙◌, ℕ, ◌+◌, ◌*◌, Bool, true, false, cond, List, [], ◌∷◌, Option, Some, None, nat_eq}
use Rattle.std.proofs.lemmas.Bool.{eqb-true, eqb-false, ne_eqb}
use Rattle.scim_http.specs.Segments.{SpellsText, nothing, plain, escape, hex_value, byte_of, escaped_byte, put_before, unescaped}
use Rattle.scim_http.specs.Laws.{SegmentsAreSpelled}

-- ---- from the grammar

-- a byte except `%` stands for itself, whatever follows
pub unescaped-plain : (byte : ℕ) (rest : List ℕ) → nat_eq byte 37 ≡ false → unescaped (byte ∷ rest) ≡ put_before (Some byte) (unescaped rest)
unfolding unescaped
unescaped-plain byte [] other = rw other refl
unescaped-plain byte (next ∷ []) other = rw other refl
unescaped-plain byte (high ∷ low ∷ rest) other = rw other refl

unescaped-escape : (high low a b : ℕ) (rest : List ℕ) → hex_value high ≡ Some a → hex_value low ≡ Some b
    → unescaped (37 ∷ high ∷ low ∷ rest) ≡ put_before (Some (16 * a + b)) (unescaped rest)
unfolding unescaped
unescaped-escape high low a b rest is_high is_low = rw (is_high, is_low) refl

pub from_SpellsText : (segment text : List ℕ) → SpellsText segment text → unescaped segment ≡ Some text
unfolding unescaped
from_SpellsText _ _ nothing = refl
from_SpellsText _ _ (plain byte {segment} {text} other s) =
    unescaped-plain byte segment (ne_eqb byte 37 other) ∙ ap (put_before (Some byte)) (from_SpellsText segment text s)
from_SpellsText _ _ (escape high low a b {segment} {text} is_high is_low s) =
    unescaped-escape high low a b segment is_high is_low ∙ ap (put_before (Some (16 * a + b))) (from_SpellsText segment text s)

-- ---- to the grammar

-- a byte and the rest after it
record IsPut (byte : Option ℕ) (rest : Option (List ℕ)) (text : List ℕ) : Type 0 where
  first : ℕ
  others : List ℕ
  first_is : byte ≡ Some first
  others_is : rest ≡ Some others
  text_is : first ∷ others ≡ text

is_put : (byte : Option ℕ) (rest : Option (List ℕ)) (text : List ℕ) → put_before byte rest ≡ Some text → IsPut byte rest text
is_put None rest text e = absurd (cc)
is_put (Some first) None text e = absurd (cc)
is_put (Some first) (Some others) text e = record { first = first; others = others; first_is = refl; others_is = refl; text_is = cc }

record IsPair (high low : Option ℕ) (byte : ℕ) : Type 0 where
  a : ℕ
  b : ℕ
  high_is : high ≡ Some a
  low_is : low ≡ Some b
  byte_is : 16 * a + b ≡ byte

is_pair : (high low : Option ℕ) (byte : ℕ) → byte_of high low ≡ Some byte → IsPair high low byte
is_pair None low byte e = absurd (cc)
is_pair (Some a) None byte e = absurd (cc)
is_pair (Some a) (Some b) byte e = record { a = a; b = b; high_is = refl; low_is = refl; byte_is = cc }

-- the last byte, or the one before the last
plain_put : (byte : ℕ) (rest text : List ℕ) (test : Bool) → nat_eq byte 37 ≡ test
    → put_before (cond test None (Some byte)) (unescaped rest) ≡ Some text
    → ((others : List ℕ) → unescaped rest ≡ Some others → SpellsText rest others)
    → SpellsText (byte ∷ rest) text
plain_put byte rest text true is e more = absurd (cc)
plain_put byte rest text false is e more =
    let p = is_put (Some byte) (unescaped rest) text e in
    let first_is : byte ≡ p.first = cc (p.first_is) in
    subst (λ t. SpellsText (byte ∷ rest) t) (ap (λ b. b ∷ p.others) first_is ∙ p.text_is)
    (plain byte (eqb-false byte 37 is) (more p.others p.others_is))

escape_put : (byte high low : ℕ) (rest text : List ℕ) → byte ≡ 37
    → put_before (escaped_byte high low) (unescaped rest) ≡ Some text
    → ((others : List ℕ) → unescaped rest ≡ Some others → SpellsText rest others)
    → SpellsText (byte ∷ high ∷ low ∷ rest) text
escape_put byte high low rest text percent e more =
    let p = is_put (escaped_byte high low) (unescaped rest) text e in
    let q = is_pair (hex_value high) (hex_value low) p.first p.first_is in
    subst (λ b. SpellsText (b ∷ high ∷ low ∷ rest) text) (sym percent)
    (subst (λ t. SpellsText (37 ∷ high ∷ low ∷ rest) t) (ap (λ b. b ∷ p.others) q.byte_is ∙ p.text_is)
    (escape high low q.a q.b q.high_is q.low_is (more p.others p.others_is)))

either_put : (byte high low : ℕ) (rest text : List ℕ) (test : Bool) → nat_eq byte 37 ≡ test
    → cond test (put_before (escaped_byte high low) (unescaped rest)) (put_before (Some byte) (unescaped (high ∷ low ∷ rest))) ≡ Some text
    → ((others : List ℕ) → unescaped rest ≡ Some others → SpellsText rest others)
    → ((others : List ℕ) → unescaped (high ∷ low ∷ rest) ≡ Some others → SpellsText (high ∷ low ∷ rest) others)
    → SpellsText (byte ∷ high ∷ low ∷ rest) text
either_put byte high low rest text true is e behind more = escape_put byte high low rest text (eqb-true byte 37 is) e behind
either_put byte high low rest text false is e behind more = plain_put byte (high ∷ low ∷ rest) text false is e more

to_SpellsText : (segment text : List ℕ) → unescaped segment ≡ Some text → SpellsText segment text
unfolding unescaped
to_SpellsText [] text e = let is : [] ≡ text = cc in subst (λ t. SpellsText [] t) is nothing
to_SpellsText (byte ∷ []) text e = plain_put byte [] text _ refl e (to_SpellsText [])
to_SpellsText (byte ∷ next ∷ []) text e = plain_put byte (next ∷ []) text _ refl e (to_SpellsText (next ∷ []))
to_SpellsText (byte ∷ high ∷ low ∷ rest) text e = either_put byte high low rest text _ refl e (to_SpellsText rest) (to_SpellsText (high ∷ low ∷ rest))

pub segments_are_spelled : SegmentsAreSpelled
segments_are_spelled = record { read = from_SpellsText; spelled = to_SpellsText }
