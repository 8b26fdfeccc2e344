-- The values of the fields with one name, line by line.
use Rattle.std.proofs.Common.{◌≡◌, ℕ, ◌+◌, ◌<◌, Bool, true, false, cond, List, ◌∷◌, length, get_or, drop, map, ap, ◌∙◌, sym, Decides}
use Rattle.std.specs.Prelude.{filter}
use Rattle.std.specs.Str.{bytes_eq}
use Rattle.std.proofs.lemmas.Bool.Decides.{same_from_decides}
use Rattle.std.proofs.lemmas.List.{at_drop_more}
use Rattle.std.proofs.lemmas.Slice.Eq.{bytes_eq-Decides}
use Rattle.httparse.specs.declared.spans.HeaderSpan.{HeaderSpan}
use Rattle.httparse.specs.Spans.{span_bytes, header_bytes}
use Rattle.http_text.specs.Message.{NamedValue, lowered, is_named, values}

pub values-named : (name : List ℕ) (field : NamedValue) (fields : List NamedValue) → is_named name field ≡ true
    → values name (field ∷ fields) ≡ field.1 ∷ values name fields
values-named name field fields h = ap (λ b. map (λ (f : NamedValue). f.1) (cond b (field ∷ filter (is_named name) fields) (filter (is_named name) fields))) h

pub values-other : (name : List ℕ) (field : NamedValue) (fields : List NamedValue) → is_named name field ≡ false
    → values name (field ∷ fields) ≡ values name fields
values-other name field fields h = ap (λ b. map (λ (f : NamedValue). f.1) (cond b (field ∷ filter (is_named name) fields) (filter (is_named name) fields))) h

-- a test of the lowered texts is the test of the name
is_named-tested : (name text : List ℕ) (r : Bool) → Decides r (lowered text ≡ lowered name) → r ≡ bytes_eq (lowered text) (lowered name)
is_named-tested name text r h = same_from_decides r (bytes_eq (lowered text) (lowered name)) h (bytes_eq-Decides (lowered text) (lowered name))

module _ (name head : List ℕ) (fields : List HeaderSpan) (i : ℕ) (d : HeaderSpan) (inside : i < length fields) (text : List ℕ)
    (is : text ≡ span_bytes head (get_or fields i d).name) (r : Bool) (tested : Decides r (lowered text ≡ lowered name)) where
  test_is : r ≡ is_named name (header_bytes head (get_or fields i d))
  test_is = is_named-tested name text r tested ∙ ap (λ (t : List ℕ). bytes_eq (lowered t) (lowered name)) is

  -- the line at i has the name
  pub values-at_named : (value : List ℕ) → value ≡ span_bytes head (get_or fields i d).value → r ≡ true
      → values name (map (header_bytes head) (drop i fields)) ≡ value ∷ values name (map (header_bytes head) (drop (i + 1) fields))
  values-at_named value v h =
      at_drop_more (λ (fs : List HeaderSpan). values name (map (header_bytes head) fs)) fields i d inside
      ∙ values-named name (header_bytes head (get_or fields i d)) (map (header_bytes head) (drop (i + 1) fields)) (sym test_is ∙ h)
      ∙ ap (λ (t : List ℕ). t ∷ values name (map (header_bytes head) (drop (i + 1) fields))) (sym v)

  -- it hasn't
  pub values-at_other : r ≡ false
      → values name (map (header_bytes head) (drop i fields)) ≡ values name (map (header_bytes head) (drop (i + 1) fields))
  values-at_other h =
      at_drop_more (λ (fs : List HeaderSpan). values name (map (header_bytes head) fs)) fields i d inside
      ∙ values-other name (header_bytes head (get_or fields i d)) (map (header_bytes head) (drop (i + 1) fields)) (sym test_is ∙ h)
