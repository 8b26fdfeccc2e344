-- The compact text of data whose texts are UTF-8 is UTF-8, and UTF-8 is read as JSON by its value alone.
use Rattle.std.proofs.Common.{◌≡◌, ℕ, ◌≤◌, List, [], ◌∷◌, Bool, true, false, cond, ◌&&◌, Option, Some, None, IsUtf8, refl, ap, ◌∙◌}
use Rattle.std.proofs.lemmas.Bool.{and_parts}
use Rattle.std.proofs.lemmas.Fmt.{IsAscii-decimal}
use Rattle.std.proofs.lemmas.Str.{IsUtf8-append, IsUtf8-nil, IsUtf8-from_ascii, is_utf8-from_IsUtf8, IsUtf8-from_is_utf8}
use Rattle.std.specs.Prelude.{⊤}
use Rattle.std.specs.Str.{is_utf8}
use Rattle.json.proofs.Printed.Utf8.{are_ascii, IsUtf8-are_ascii, IsUtf8-quoted, IsUtf8-boolean}
use Rattle.serde_json.specs.Data.{Num, unsigned, negative, float, Data, null, boolean, number, string, array, object, Items, no_items, item, Members, no_members, member, depth}
use Rattle.serde_json.specs.Read.{read, max_depth}
use Rattle.serde_json.specs.Written.{compact_text, items_text, members_text, comma_if, number_text}
use Rattle.scim_json.specs.Plain.{IsWhole, IsPlain, ItemsArePlain, MembersArePlain, HasUtf8, ItemsHaveUtf8, MembersHaveUtf8}
use Rattle.scim_json.specs.Parsing.{json_of}
use Rattle.scim_json.specs.Writing.{Part, members_from}
use Rattle.scim_json.proofs.Texts.{read-compact_text}

-- ---- reading

pub json_of-utf8 : (bytes : List ℕ) → IsUtf8 bytes → json_of bytes ≡ read bytes
unfolding json_of
json_of-utf8 bytes text = ap (λ b. cond b (read bytes) None) (is_utf8-from_IsUtf8 bytes text)

none_where : (found : Option Data) (test : Bool) → (test ≡ true → found ≡ None) → cond test found None ≡ None
none_where found true h = h refl
none_where found false h = refl

pub json_of-none : (bytes : List ℕ) → (IsUtf8 bytes → read bytes ≡ None) → json_of bytes ≡ None
unfolding json_of
json_of-none bytes h = none_where (read bytes) (is_utf8 bytes) (λ e. h (IsUtf8-from_is_utf8 bytes e))

pub json_of-compact_text : (d : Data) → IsPlain d → depth d ≤ max_depth → IsUtf8 (compact_text d) → json_of (compact_text d) ≡ Some d
json_of-compact_text d h shallow text = json_of-utf8 (compact_text d) text ∙ read-compact_text d h shallow

-- ---- writing

number_utf8 : (n : Num) → IsWhole n → IsUtf8 (number_text n)
number_utf8 (unsigned n) h = IsUtf8-from_ascii _ (IsAscii-decimal n h)
number_utf8 (negative z) h = absurd h
number_utf8 (float x) h = absurd h

comma_utf8 : (later : Bool) → IsUtf8 (comma_if later)
comma_utf8 true = IsUtf8-are_ascii (44 ∷ []) refl
comma_utf8 false = IsUtf8-nil

one_then : (x : ℕ) (xs : List ℕ) → are_ascii (x ∷ []) ≡ true → IsUtf8 xs → IsUtf8 (x ∷ xs)
one_then x xs small text = IsUtf8-append (x ∷ []) xs (IsUtf8-are_ascii (x ∷ []) small) text

mutual
  pub IsUtf8-compact_text : (d : Data) → IsPlain d → HasUtf8 d → IsUtf8 (compact_text d)
  IsUtf8-compact_text null h u = IsUtf8-are_ascii _ refl
  IsUtf8-compact_text (boolean b) h u = IsUtf8-boolean b
  IsUtf8-compact_text (number n) h u = number_utf8 n h
  IsUtf8-compact_text (string s) h u = IsUtf8-quoted s u
  IsUtf8-compact_text (array ds) h u = one_then 91 _ refl (IsUtf8-items_text false ds h u)
  IsUtf8-compact_text (object ms) h u = one_then 123 _ refl (IsUtf8-members_text false ms h u)

  IsUtf8-items_text : (later : Bool) (ds : Items) → ItemsArePlain ds → ItemsHaveUtf8 ds → IsUtf8 (items_text later ds)
  IsUtf8-items_text later no_items h u = IsUtf8-are_ascii (93 ∷ []) refl
  IsUtf8-items_text later (item d ds) h u =
      IsUtf8-append _ _ (comma_utf8 later) (IsUtf8-append _ _ (IsUtf8-compact_text d h.0 u.0) (IsUtf8-items_text true ds h.1 u.1))

  IsUtf8-members_text : (later : Bool) (ms : Members) → MembersArePlain ms → MembersHaveUtf8 ms → IsUtf8 (members_text later ms)
  IsUtf8-members_text later no_members h u = IsUtf8-are_ascii (125 ∷ []) refl
  IsUtf8-members_text later (member k d ms) h u =
      IsUtf8-append _ _ (comma_utf8 later)
      (IsUtf8-append _ _ (IsUtf8-quoted k u.0) (one_then 58 _ refl (IsUtf8-append _ _ (IsUtf8-compact_text d h.1 u.1) (IsUtf8-members_text true ms h.2 u.2))))

-- ---- objects that are made of parts

abbrev pub HasUtf8If : Option Data → Type 0
HasUtf8If None = ⊤
HasUtf8If (Some d) = HasUtf8 d

-- the names are ASCII, which computes if they are literals
abbrev pub are_ascii_named : List Part → Bool
are_ascii_named [] = true
are_ascii_named (p ∷ ps) = are_ascii p.0 && are_ascii_named ps

abbrev pub HaveUtf8If : List Part → Type 0
HaveUtf8If [] = ⊤
HaveUtf8If (p ∷ ps) = HasUtf8If p.1 × HaveUtf8If ps

pub MembersHaveUtf8-members_from : (ps : List Part) → are_ascii_named ps ≡ true → HaveUtf8If ps → MembersHaveUtf8 (members_from ps)
MembersHaveUtf8-members_from [] h u = tt
MembersHaveUtf8-members_from ((k, None) ∷ ps) h u = MembersHaveUtf8-members_from ps (and_parts (are_ascii k) _ h).1 u.1
MembersHaveUtf8-members_from ((k, Some d) ∷ ps) h u =
    let both = and_parts (are_ascii k) _ h in
    (IsUtf8-are_ascii k both.0, u.0, MembersHaveUtf8-members_from ps both.1 u.1)

-- a literal of ASCII is UTF-8, by `refl`
pub IsUtf8-literal : (text : List ℕ) → are_ascii text ≡ true → IsUtf8 text
IsUtf8-literal text h = IsUtf8-are_ascii text h
