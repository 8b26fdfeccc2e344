-- The tags of versions.
use Rattle.std.proofs.Common.{◌≡◌, ◌<◌, ◌^◌, ◌∙◌, sym, ap, refl, subst, inl, inr, ℕ, ◌-◌, ◌≤◌, Bool, true, false, ◌&&◌, ◌||◌, List, [], ◌∷◌, length, take, drop, arith}
use Rattle.std.specs.Prelude.{◌↔◌, IsTrue}
use Rattle.std.specs.Fmt.{decimal}
use Rattle.std.specs.List.{list_all}
use Rattle.std.proofs.lemmas.Fmt.{decimal_injective}
use Rattle.std.specs.Str.{bytes_eq}
use Rattle.std.proofs.lemmas.Bool.{and_parts, leb-true, false_from_ne_true, both_ways, cases_Bool}
use Rattle.std.proofs.lemmas.Bool.Decides.{same_from_decides, Decides-like}
use Rattle.std.proofs.lemmas.Slice.Eq.{bytes_eq-Decides}
use Rattle.std.proofs.lemmas.List.{same_from_push}
use Rattle.scim_version.specs.Tags.{is_tag_byte, quoted, is_quoted, is_weak, opaque_tag, strong_eq, weak_eq, version_tag}
use Rattle.scim_version.specs.Conditions.{has_version}
use Rattle.scim_version.proofs.Grammar.{is_quoted_from, is_quoted-quoted, middle-quoted}

pub quoted_is_long : (text : List ℕ) → is_quoted text ≡ true → 2 ≤ length text
unfolding is_quoted
quoted_is_long text h = leb-true _ _ (and_parts _ _ (and_parts _ _ (and_parts _ _ h).0).0).0

same_quoted : (opaque inner : List ℕ) → quoted opaque ≡ quoted inner → opaque ≡ inner
same_quoted opaque inner e = let fronts = (same_from_push (34 ∷ opaque) (34 ∷ inner) 34 34 e).0 in cc

quoted_eq : (opaque inner : List ℕ) → bytes_eq (take (length (quoted opaque) - 1 - 1) (drop 1 (quoted opaque))) inner ≡ bytes_eq (quoted opaque) (quoted inner)
quoted_eq opaque inner =
    let two : length (quoted opaque) - 1 - 1 ≡ length (quoted opaque) - 2 = omega arith in
    rw (two, middle-quoted)
    (same_from_decides _ _
    (Decides-like (bytes_eq opaque inner) (ap quoted) (same_quoted opaque inner) (bytes_eq-Decides opaque inner))
    (bytes_eq-Decides (quoted opaque) (quoted inner)))

-- texts between quotes are the same if the whole texts are
pub bytes_eq-quoted : (text inner : List ℕ) → is_quoted text ≡ true → bytes_eq (take (length text - 1 - 1) (drop 1 text)) inner ≡ bytes_eq text (quoted inner)
bytes_eq-quoted text inner h =
    let q = is_quoted_from text h in
    let P : List ℕ → Type 0 = λ x. bytes_eq (take (length x - 1 - 1) (drop 1 x)) inner ≡ bytes_eq x (quoted inner) in
    subst P (sym q.2) (quoted_eq q.0 inner)

pub bytes_eq-unquoted : (text inner : List ℕ) → list_all is_tag_byte inner ≡ true → is_quoted text ≡ false → bytes_eq text (quoted inner) ≡ false
bytes_eq-unquoted text inner lawful h =
    false_from_ne_true _ (λ same. both_ways (is_quoted text) h (rw ((bytes_eq-Decides text (quoted inner)).0 same) (is_quoted-quoted inner ∙ lawful)))

and_false : (b : Bool) → (b && false) ≡ false
and_false true = refl
and_false false = refl

-- the tag of a version is strong
pub strong_eq-version : (tag : List ℕ) (n : ℕ) → bytes_eq tag (version_tag n) ≡ strong_eq tag (version_tag n)
unfolding strong_eq is_weak
strong_eq-version tag n =
    let P : List ℕ → Type 0 = λ x. bytes_eq x (version_tag n) ≡ strong_eq x (version_tag n) in
    elim (cases_Bool (bytes_eq tag (version_tag n))) [
      | inl same ↦ subst P (sym ((bytes_eq-Decides tag (version_tag n)).0 same)) refl
      | inr other ↦ rw other (sym (and_false _))
    ]

pub weak_eq-version : (tag : List ℕ) (n : ℕ) → bytes_eq (opaque_tag tag) (version_tag n) ≡ weak_eq tag (version_tag n)
unfolding weak_eq opaque_tag is_weak
weak_eq-version tag n = refl

-- no two versions have one tag
pub strong_eq-versions : (m n : ℕ) → m < 2 ^ 64 → n < 2 ^ 64 → (IsTrue (strong_eq (version_tag m) (version_tag n)) ↔ (m ≡ n))
strong_eq-versions m n small less =
    let same = bytes_eq-Decides (version_tag m) (version_tag n) in (
      λ h. decimal_injective m n small less (same_quoted (decimal m) (decimal n) (same.0 (strong_eq-version (version_tag m) n ∙ h))),
      λ e. sym (strong_eq-version (version_tag m) n) ∙ same.1 (ap version_tag e),
    )

or_false : (b : Bool) → (b || false) ≡ b
or_false true = refl
or_false false = refl

pub has_version-alone : (m n : ℕ) → m < 2 ^ 64 → n < 2 ^ 64 → (IsTrue (has_version (version_tag m ∷ []) n) ↔ (m ≡ n))
unfolding has_version
has_version-alone m n small less =
    let law = strong_eq-versions m n small less in
    let is = or_false (strong_eq (version_tag m) (version_tag n)) in
    (λ h. law.0 (sym is ∙ h), λ e. is ∙ law.1 e)
