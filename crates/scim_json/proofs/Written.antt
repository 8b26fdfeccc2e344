-- The tokens of an object are those of its parts, and the tokens of a value are its text.
use Rattle.std.proofs.Common.{◌≡◌, ℕ, ◌≤◌, List, [], ◌∷◌, ◌++◌, None, Some, Result, Ok, Err, OnOk, map, flat_map, refl, sym, ap, ◌∙◌, append_assoc, length, take, take_all}
use Rattle.json.specs.Token.{Token, key, begin_object, end_object, begin_array, end_array}
use Rattle.json.specs.Tree.{items_tokens, members_tokens}
use Rattle.json.specs.Print.{print}
use Rattle.json.specs.Written.{Written}
use Rattle.json.specs.Written as token
use Rattle.serde_json.specs.Data.{Data, array, object}
use Rattle.serde_json.specs.View.{items_of}
use Rattle.serde_json.specs.Written.{items_outline, members_outline, compact_text}
use Rattle.serde_json.proofs.Texts.{print-outline}
use Rattle.scim_json.specs.Writing.{Part, members_from, data_tokens, part_tokens, parts_tokens, Adds, Writes, WritesPart}

members_from_tokens : (ps : List Part) → members_tokens (members_outline (members_from ps)) ≡ parts_tokens ps ++ end_object ∷ []
members_from_tokens [] = refl
members_from_tokens ((k, None) ∷ ps) = members_from_tokens ps
members_from_tokens ((k, Some d) ∷ ps) =
    ap (λ ts. key k ∷ (data_tokens d ++ ts)) (members_from_tokens ps) ∙ ap (λ ts. key k ∷ ts) (sym (append_assoc (data_tokens d) (parts_tokens ps) (end_object ∷ [])))

pub object_tokens : (ps : List Part) → data_tokens (object (members_from ps)) ≡ begin_object ∷ (parts_tokens ps ++ end_object ∷ [])
object_tokens ps = ap (λ ts. begin_object ∷ ts) (members_from_tokens ps)

pub parts_tokens-append : (ps qs : List Part) → parts_tokens (ps ++ qs) ≡ parts_tokens ps ++ parts_tokens qs
parts_tokens-append [] qs = refl
parts_tokens-append (p ∷ ps) qs = ap (λ ts. part_tokens p.0 p.1 ++ ts) (parts_tokens-append ps qs) ∙ sym (append_assoc (part_tokens p.0 p.1) (parts_tokens ps) (parts_tokens qs))

-- ---- the steps of a writer

pub one : {E : Type 0} (u : Unit {0}) (t : Token) (a b : Written) → token.Writes {E = E} (Ok u) a b t → Adds (t ∷ []) a b
one u t a b w = (w.room.0, w.ok)

pub then : (ts us : List Token) (a b c : Written) → Adds ts a b → Adds us b c → Adds (ts ++ us) a c
then ts us a b c first next = (next.0 ∙ first.0, next.1 ∙ ap (λ vs. vs ++ us) first.1 ∙ append_assoc a.tokens ts us)

-- the last token of a value
pub closed : {E : Type 0} (r : Result (Unit {0}) E) (d : Data) (ts : List Token) (t : Token) (a b c : Written)
    → data_tokens d ≡ ts ++ t ∷ [] → Adds ts a b → token.Writes r b c t → OnOk r (Writes d a c)
closed (Ok u) d ts t a b c is first last = rw is (then ts (t ∷ []) a b c first (one u t b c last))
closed (Err e) d ts t a b c is first last = tt

-- the value of a member
pub keyed : {E : Type 0} (r : Result (Unit {0}) E) (k : List ℕ) (d : Data) (a b c : Written) → Adds (key k ∷ []) a b → OnOk r (Writes d b c) → OnOk r (WritesPart k (Some d) a c)
keyed (Ok u) k d a b c first last = then (key k ∷ []) (data_tokens d) a b c first last
keyed (Err e) k d a b c first last = tt

-- an object of these parts
pub object_closed : {E : Type 0} (r : Result (Unit {0}) E) (ps : List Part) (us : List Token) (a b c e : Written)
    → parts_tokens ps ≡ us → Adds (begin_object ∷ []) a b → Adds us b c → token.Writes r c e end_object → OnOk r (Writes (object (members_from ps)) a e)
object_closed r ps us a b c e is first parts last =
    closed r (object (members_from ps)) (begin_object ∷ us) end_object a c e (object_tokens ps ∙ ap (λ ts. begin_object ∷ (ts ++ end_object ∷ [])) is) (then (begin_object ∷ []) us a b c first parts) last

-- a list that is written from its first item to its last
pub items_written : {A : Type 0} (f : A → Data) (xs : List A) → items_tokens (items_outline (items_of (map f xs))) ≡ flat_map (λ x. data_tokens (f x)) xs ++ end_array ∷ []
items_written f [] = refl
items_written f (x ∷ xs) =
    ap (λ ts. data_tokens (f x) ++ ts) (items_written f xs) ∙ sym (append_assoc (data_tokens (f x)) (flat_map (λ y. data_tokens (f y)) xs) (end_array ∷ []))

-- a list of these items, whose loop has come to its end
pub list_closed : {E A : Type 0} (r : Result (Unit {0}) E) (f : A → Data) (xs : List A) (i : ℕ) (a b c e : Written) → length xs ≤ i
    → Adds (begin_array ∷ []) a b → Adds (flat_map (λ x. data_tokens (f x)) (take i xs)) b c → token.Writes r c e end_array → OnOk r (Writes (array (items_of (map f xs))) a e)
list_closed r f xs i a b c e past first each last =
    let us = flat_map (λ x. data_tokens (f x)) xs in
    let whole : Adds us b c = (each.0, each.1 ∙ ap (λ ys. b.tokens ++ flat_map (λ x. data_tokens (f x)) ys) (take_all i xs past)) in
    closed r (array (items_of (map f xs))) (begin_array ∷ us) end_array a c e (ap (λ ts. begin_array ∷ ts) (items_written f xs)) (then (begin_array ∷ []) us a b c first whole) last

-- the text of a value that was written into an empty buffer
pub written_text : (d : Data) (old new : Written) → old.before ≡ [] → old.tokens ≡ [] → Writes d old new → new.before ++ print new.tokens ≡ compact_text d
written_text d old new before tokens wrote = rw (wrote.0, before, wrote.1, tokens) (print-outline d)
