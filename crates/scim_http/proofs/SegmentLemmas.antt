-- Reading a segment byte for byte, and an id by its two tests.
use Rattle.std.proofs.Common.{◌≡◌, refl, sym, ap, ◌∙◌, ℕ, ◌-◌, ◌≤◌, ◌<◌, Bool, true, false, cond, List, [], ◌∷◌, ◌++◌, ◌||◌, nat_eq, Option, Some, None, length, take, drop, get_or, arith, append_assoc, append-nil}
use Rattle.std.proofs.lemmas.List.{take_rest}
use Rattle.std.specs.List.{list_any}
use Rattle.std.specs.Str.{IsUtf8, is_utf8}
use Rattle.std.proofs.lemmas.Str.{is_utf8-from_IsUtf8, IsUtf8-from_is_utf8}
use Rattle.scim_key.specs.Identifiers.{id_fault}
use Rattle.scim_http.specs.Segments.{unescaped, put_before, without_fault, lawful_id, id_of}
use Rattle.scim_http.proofs.SegmentLaws.{unescaped-plain}

-- what is spelled if this is in front of the rest
abbrev pub prepended : List ℕ → Option (List ℕ) → Option (List ℕ)
prepended front None = None
prepended front (Some rest) = Some (front ++ rest)

pub prepended-nil : (spelled : Option (List ℕ)) → prepended [] spelled ≡ spelled
prepended-nil None = refl
prepended-nil (Some rest) = refl

one_more : (front : List ℕ) (byte : ℕ) (spelled : Option (List ℕ))
    → prepended (front ++ byte ∷ []) spelled ≡ prepended front (put_before (Some byte) spelled)
one_more front byte None = refl
one_more front byte (Some rest) = ap (λ t. Some t) (append_assoc front (byte ∷ []) rest)

parted : (xs : List ℕ) → 1 ≤ length xs → get_or xs 0 0 ∷ take (length xs - 1) (drop 1 xs) ≡ xs
parted [] some = absurd (omega arith)
parted (x ∷ xs) some = ap (λ t. x ∷ t) (take_rest (x ∷ xs) 1)

-- one byte more was read
pub prepended-step : (front rest after : List ℕ) (byte : ℕ) → 1 ≤ length rest
    → unescaped (get_or rest 0 0 ∷ take (length rest - 1) (drop 1 rest)) ≡ put_before (Some byte) (unescaped after)
    → prepended (front ++ byte ∷ []) (unescaped after) ≡ prepended front (unescaped rest)
prepended-step front rest after byte some spelled =
    one_more front byte (unescaped after) ∙ ap (prepended front) (sym spelled ∙ ap unescaped (parted rest some))

-- there is no next byte
pub prepended-stop : (front rest : List ℕ) → 1 ≤ length rest
    → unescaped (get_or rest 0 0 ∷ take (length rest - 1) (drop 1 rest)) ≡ None
    → None ≡ prepended front (unescaped rest)
prepended-stop front rest some none = ap (prepended front) (sym none ∙ ap unescaped (parted rest some))

-- all was read
pub prepended-end : (front rest : List ℕ) → length rest < 1 → Some front ≡ prepended front (unescaped rest)
unfolding unescaped
prepended-end front [] none = ap (λ t. Some t) (sym (append-nil front))
prepended-end front (x ∷ xs) none = absurd (omega arith)

none_where : (found : Option (List ℕ)) (test : Bool) → (test ≡ true → ⊥) → None ≡ cond test found None
none_where found true h = absurd (h refl)
none_where found false h = refl

-- no text is no id
pub no_text : (bytes : List ℕ) (found : Option (List ℕ)) → ¬ (IsUtf8 bytes) → None ≡ cond (is_utf8 bytes) found None
no_text bytes found h = none_where found (is_utf8 bytes) (λ e. h (IsUtf8-from_is_utf8 bytes e))

text_where : (bytes : List ℕ) (found : Option (List ℕ)) → IsUtf8 bytes → found ≡ cond (is_utf8 bytes) found None
text_where bytes found text = ap (λ b. cond b found None) (sym (is_utf8-from_IsUtf8 bytes text))

-- a text without a fault is an id
pub some_text : (bytes text id : List ℕ) → text ≡ bytes → IsUtf8 bytes → id_fault text ≡ None → id ≡ text
    → Some id ≡ cond (is_utf8 bytes) (without_fault (id_fault bytes) bytes) None
some_text bytes text id same utf8 none is =
    ap (λ t. Some t) (is ∙ same)
    ∙ ap (λ fault. without_fault fault bytes) (sym (ap id_fault (sym same) ∙ none))
    ∙ text_where bytes (without_fault (id_fault bytes) bytes) utf8

-- ---- a segment without `%`

none_of_two : (a b : Bool) → (a || b) ≡ false → (a ≡ false) × (b ≡ false)
none_of_two false b none = (refl, none)
none_of_two true b none = absurd (cc)

-- it spells itself
pub spells_itself : (segment : List ℕ) → list_any (λ byte. nat_eq byte 37) segment ≡ false → unescaped segment ≡ Some segment
unfolding unescaped
spells_itself [] none = refl
spells_itself (byte ∷ rest) none =
    let each = none_of_two (nat_eq byte 37) (list_any (λ b. nat_eq b 37) rest) none in
    unescaped-plain byte rest each.0 ∙ ap (put_before (Some byte)) (spells_itself rest each.1)

-- its id
pub id_of_itself : (segment : List ℕ) → list_any (λ byte. nat_eq byte 47) segment ≡ false → list_any (λ byte. nat_eq byte 37) segment ≡ false
    → lawful_id (Some segment) ≡ id_of segment
id_of_itself segment slash percent = rw (slash, spells_itself segment percent) refl
