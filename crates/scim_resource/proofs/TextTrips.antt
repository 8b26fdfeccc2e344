-- The texts of a user that are written are plain, and are read back as themselves.
use Rattle.std.proofs.Common.{◌≡◌, ℕ, zero, suc, ◌≤◌, ◌==◌, List, [], ◌∷◌, ◌++◌, length, get_or, true, false, Option, Some, None, Result, Ok, option_map, map, refl, sym, ap, ap₂, ◌∙◌, arith}
use Rattle.std.proofs.lemmas.Bool.{ne_eqb}
use Rattle.std.specs.List.{AllByRecursion}
use Rattle.scim_key.specs.Outcome.{◌>>=◌}
use Rattle.serde_json.specs.Data.{Data, string, Members, no_members, member, members_depth}
use Rattle.scim_json.specs.Attributes.{named, attribute, present, repeats, value_repeats}
use Rattle.scim_json.specs.Plain.{MembersArePlain}
use Rattle.scim_json.specs.Values.{members_in}
use Rattle.scim_json.specs.declared.values.ValueFault.{ValueFault}
use Rattle.scim_json.specs.Writing.{Part, members_from}
use Rattle.scim_json.proofs.Parts.{are_rising, are_apart, part_named, named-members_from, repeats-members_from, IsPlainIf, ArePlainIf, MembersArePlain-members_from, depth_if, AreWithin, members_depth-members_from}
use Rattle.scim_resource.specs.Reading.{text_in, part_of, texts_in}
use Rattle.scim_resource.specs.Texts.{IsText, IsTextIf, is_short_text}
use Rattle.scim_resource.specs.UserTexts.{UserTexts, AreUserTexts, text_at}
use Rattle.scim_resource.specs.Writing.{held_data, object_if, text_parts}
use Rattle.scim_resource.specs.declared.user_texts.TheConstants.{TEXT_COUNT, USER_TEXTS}
use Rattle.scim_resource.specs.declared.user_texts.UserText.{UserText}

-- ---- a list by its places

pub map_same : {A B : Type 0} (f g : A → B) (xs : List A) → ((x : A) → f x ≡ g x) → map f xs ≡ map g xs
map_same f g [] same = refl
map_same f g (x ∷ xs) same = ap₂ (λ y ys. y ∷ ys) (same x) (map_same f g xs same)

-- the first places
abbrev places : ℕ → List ℕ
places zero = []
places (suc n) = 0 ∷ map suc (places n)

shifted : {A : Type 0} (d x : A) (xs : List A) (is : List ℕ) → map (λ i. get_or (x ∷ xs) i d) (map suc is) ≡ map (λ i. get_or xs i d) is
shifted d x xs [] = refl
shifted d x xs (i ∷ is) = ap (λ ys. get_or xs i d ∷ ys) (shifted d x xs is)

each_place : {A : Type 0} (d : A) (xs : List A) → map (λ i. get_or xs i d) (places (length xs)) ≡ xs
each_place d [] = refl
each_place d (x ∷ xs) = ap (λ ys. x ∷ ys) (shifted d x xs (places (length xs)) ∙ each_place d xs)

-- the table of texts is in the order of their places
pub each_text : (texts : UserTexts) → AreUserTexts texts → map (λ which. text_at which texts) USER_TEXTS ≡ texts
each_text texts h = by_places ∙ ap (λ n. map (λ i. get_or texts i None) (places n)) (sym h.count) ∙ each_place None texts
  where
    by_places : map (λ which. text_at which texts) USER_TEXTS ≡ map (λ i. get_or texts i None) (places TEXT_COUNT)
    by_places = refl

-- ---- what they are read as

some_bytes : (text : List ℕ) → IsText text → (length text == 0) ≡ false
unfolding is_short_text
some_bytes [] h = cc
some_bytes (x ∷ xs) h = ne_eqb (suc (length xs)) 0 (λ e. omega arith)

pub text_present : (o : Option (List ℕ)) → IsTextIf o → present (option_map string o) ≡ option_map string o
text_present None h = refl
text_present (Some text) h = rw (some_bytes text h)

pub text_read : (o : Option (List ℕ)) → IsTextIf o → text_in (option_map string o) ≡ Ok o
text_read None h = refl
text_read (Some text) h = rw h

pub texts_present : (texts : UserTexts) → AllByRecursion IsTextIf texts → map present (map (option_map string) texts) ≡ map (option_map string) texts
texts_present [] h = refl
texts_present (t ∷ texts) h = ap₂ (λ d ds. d ∷ ds) (text_present t h.0) (texts_present texts h.1)

-- a value whose object is there
abbrev pub given : Option Data → Result (Option Data) ValueFault
given d = Ok d

pub texts_read : (texts : UserTexts) → AllByRecursion IsTextIf texts → texts_in (map given (map (option_map string) texts)) ≡ Ok texts
unfolding texts_in
texts_read [] h = refl
texts_read (t ∷ texts) h = rw (text_read t h.0, texts_read texts h.1)

-- ---- an object that is there if it has a member

abbrev some_members : Members → Option Members
some_members no_members = None
some_members (member name d ms) = Some (member name d ms)

object_present : (ms : Members) → present (object_if ms) ≡ object_if ms
object_present no_members = refl
object_present (member name d ms) = refl

object_read : (ms : Members) → members_in (object_if ms) ≡ Ok (some_members ms)
object_read no_members = refl
object_read (member name d ms) = refl

part_in : (key : List ℕ) (ms : Members) → part_of key (some_members ms) ≡ attribute key ms
unfolding named
part_in key no_members = refl
part_in key (member name d ms) = refl

-- a part of an object is found in it
pub part_found : (o : Option Data) (key : List ℕ) (ps : List Part) → are_apart ps ≡ true → o ≡ object_if (members_from ps)
    → members_in o >>= (λ held. Ok (part_of key held)) ≡ Ok (present (part_named key ps))
part_found o key ps apart is =
    ap (λ d. members_in d >>= (λ held. Ok (part_of key held))) is ∙ ap (λ r. r >>= (λ held. Ok (part_of key held))) (object_read (members_from ps))
    ∙ ap Ok (part_in key (members_from ps) ∙ ap present (named-members_from key ps apart))

object_repeats : (ms : Members) → repeats ms ≡ false → value_repeats (object_if ms) ≡ false
object_repeats no_members h = refl
object_repeats (member name d ms) h = h

object_plain : (ms : Members) → MembersArePlain ms → IsPlainIf (object_if ms)
object_plain no_members h = tt
object_plain (member name d ms) h = h

object_depth : (n : ℕ) (ms : Members) → members_depth ms ≤ n → depth_if (object_if ms) ≤ suc n
object_depth n no_members h = omega arith
object_depth n (member name d ms) h = omega (arith, h)

-- ---- plain data

pub text_plain : (o : Option (List ℕ)) → IsPlainIf (option_map string o)
text_plain None = tt
text_plain (Some text) = tt

pub texts_plain : (texts : UserTexts) (ws : List UserText) → ArePlainIf (text_parts texts ws)
texts_plain texts [] = tt
texts_plain texts (w ∷ ws) = (text_plain (text_at w texts), texts_plain texts ws)

pub ArePlainIf-append : (ps qs : List Part) → ArePlainIf ps → ArePlainIf qs → ArePlainIf (ps ++ qs)
ArePlainIf-append [] qs h g = g
ArePlainIf-append (p ∷ ps) qs h g = (h.0, ArePlainIf-append ps qs h.1 g)

pub text_depth : (o : Option (List ℕ)) → depth_if (option_map string o) ≤ 0
text_depth None = omega arith
text_depth (Some text) = omega arith

pub texts_within : (n : ℕ) (texts : UserTexts) (ws : List UserText) → AreWithin n (text_parts texts ws)
texts_within n texts [] = tt
texts_within n texts (w ∷ ws) = (omega (arith, text_depth (text_at w texts)), texts_within n texts ws)

pub AreWithin-append : (n : ℕ) (ps qs : List Part) → AreWithin n ps → AreWithin n qs → AreWithin n (ps ++ qs)
AreWithin-append n [] qs h g = g
AreWithin-append n (p ∷ ps) qs h g = (h.0, AreWithin-append n ps qs h.1 g)

-- ---- an object of texts

pub held_present : (texts : UserTexts) (ws : List UserText) → present (held_data texts ws) ≡ held_data texts ws
held_present texts ws = object_present (members_from (text_parts texts ws))

pub held_repeats : (texts : UserTexts) (ws : List UserText) → are_apart (text_parts texts ws) ≡ true → value_repeats (held_data texts ws) ≡ false
held_repeats texts ws apart = object_repeats _ (repeats-members_from (text_parts texts ws) apart)

pub held_plain : (texts : UserTexts) (ws : List UserText) → are_rising (text_parts texts ws) ≡ true → IsPlainIf (held_data texts ws)
held_plain texts ws rising = object_plain _ (MembersArePlain-members_from (text_parts texts ws) rising (texts_plain texts ws))

pub held_depth : (texts : UserTexts) (ws : List UserText) → depth_if (held_data texts ws) ≤ 1
held_depth texts ws = object_depth 0 _ (members_depth-members_from 0 (text_parts texts ws) (texts_within 0 texts ws))
