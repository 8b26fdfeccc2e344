-- The id of a number and the tag of a version are texts, and the tag may be shown.
use Rattle.std.proofs.Common.{◌≡◌, ◌∙◌, ℕ, zero, suc, ◌+◌, ◌<◌, ◌≤◌, ◌%◌, ◌/◌, List, [], ◌∷◌, ◌++◌, Bool, true, false, Some, None, cond, decimal, codes, refl, ap, sym, arith, length-append}
use Rattle.std.proofs.Math.Nat.{mod-lt}
use Rattle.std.proofs.lemmas.Fmt.{IsAscii-decimal, length-decimal-le}
use Rattle.std.proofs.lemmas.Str.{IsUtf8-append, IsUtf8-nil, IsUtf8-from_ascii, IsUtf8-from_is_utf8, is_utf8-from_IsUtf8, IsAscii-append}
use Rattle.std.proofs.lemmas.Str.Ascii.{IsAscii-cons, IsAscii-nil}
use Rattle.std.specs.Str.{IsUtf8, is_utf8}
use Rattle.scim_json.proofs.Utf8Texts.{IsUtf8-literal}
use Rattle.scim_key.specs.Identifiers.{hex_digit, lower_hex, id_text}
use Rattle.scim_version.specs.Tags.{IsEntityTag, version_tag}
use Rattle.scim_version.proofs.Grammar.{IsEntityTag-from_test, version_tag_is_entity_tag}
use Rattle.scim_resource.specs.Rows.{IsShort, last_version}
use Rattle.scim_resource.specs.Showing.{stated_tag, tag_of}

pub version_tag_is_text : (v : ℕ) → v ≤ last_version → IsUtf8 (version_tag v)
version_tag_is_text v h =
    let quote = IsAscii-cons 34 [] (omega arith) IsAscii-nil in
    IsUtf8-from_ascii (version_tag v) (IsAscii-cons 34 (decimal v ++ 34 ∷ []) (omega arith) (IsAscii-append (decimal v) (34 ∷ []) (IsAscii-decimal v (omega arith)) quote))

pub version_tag_is_tag : (v : ℕ) → v ≤ last_version → IsEntityTag (version_tag v)
version_tag_is_tag v h = IsEntityTag-from_test (version_tag v) (version_tag_is_entity_tag v (omega arith))

pub version_tag_is_short : (v : ℕ) → v ≤ last_version → IsShort (version_tag v)
version_tag_is_short v h = omega (arith, length-append (decimal v) (34 ∷ []), length-decimal-le 20 v (omega arith) (omega arith) (omega arith))

digit_small : (b : Bool) (d : ℕ) → d < 16 → cond b (48 + d) (87 + d) < 128
digit_small true d h = omega arith
digit_small false d h = omega arith

hex_digits_are_text : (count n : ℕ) → IsUtf8 (lower_hex count n)
unfolding lower_hex
hex_digits_are_text zero n = IsUtf8-nil
hex_digits_are_text (suc count) n =
    IsUtf8-append _ _ (hex_digits_are_text count (n / 16)) (IsUtf8-from_ascii _ (IsAscii-cons (hex_digit (n % 16)) [] (digit_small _ (n % 16) (mod-lt n (omega arith))) IsAscii-nil))

pub id_is_text : (n : ℕ) → IsUtf8 (id_text n)
unfolding id_text
id_is_text n = IsUtf8-append _ _ (IsUtf8-literal (codes "5c1a0000-0000-8000-8000-") refl) (hex_digits_are_text 12 n)

-- ---- the tag that a field states

pub stated_text : (etag text : List ℕ) → text ≡ etag → IsUtf8 etag → tag_of text ≡ stated_tag (Some etag)
stated_text etag text same utf8 = ap tag_of same ∙ ap (λ b. cond b (tag_of etag) None) (sym (is_utf8-from_IsUtf8 etag utf8))

pub states_none : (etag : List ℕ) → (IsUtf8 etag → ⊥) → None ≡ stated_tag (Some etag)
states_none etag none = go (is_utf8 etag) refl
  where
    go : (b : Bool) → is_utf8 etag ≡ b → None ≡ cond b (tag_of etag) None
    go true is = absurd (none (IsUtf8-from_is_utf8 etag is))
    go false is = refl
