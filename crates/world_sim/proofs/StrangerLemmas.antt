-- Records that others write by rows, met one after the other.
use Rattle.std.proofs.Common.{◌≡◌, ◌<◌, ◌+◌, ◌||◌, ℕ, suc, Bool, true, false, cond, List, [], ◌∷◌, ◌++◌, Option, Some, None, length, take, drop, refl, ap, sym, subst, ◌∙◌, append-nil, append_assoc, option_to_list, arith}
use Rattle.std.proofs.Math.ListN.{get_or}
use Rattle.std.proofs.Math.Seq.{take-suc}
use Rattle.std.proofs.lemmas.List.{at_drop_more}
use Rattle.std.proofs.lemmas.List.Folds.{list_any-append}
use Rattle.std.specs.BTreeSet.{BTreeSet, IsEmpty, Updates, contains}
use Rattle.scim_key.specs.RecordOrder.{tied}
use Rattle.scim_key.specs.Records.{name_cmp, same_name}
use Rattle.scim_key.specs.declared.records.RecordName.{RecordName}
use Rattle.world_sim.specs.Strangers.{HasNames, is_one_of, met, offer, offered, strangers}
use Rattle.world_sim.specs.declared.acting.Act.{Act}

-- ---- names in a set

pub no_names : (set : BTreeSet RecordName) → IsEmpty set → HasNames set []
no_names set empty name = rw empty refl

either : (a b : Bool) → (a || (b || false)) ≡ cond b true a
either true true = refl
either true false = refl
either false true = refl
either false false = refl

-- one name more
pub one_name : (old new : BTreeSet RecordName) (names : List RecordName) (added : RecordName) → Updates name_cmp old new added true → HasNames old names → HasNames new (names ++ added ∷ [])
one_name old new names added updates has name =
    updates.0 name
    ∙ ap (λ b. cond b true (contains name_cmp old name)) (tied added name)
    ∙ ap (λ b. cond (same_name added name) true b) (has name)
    ∙ sym (either (is_one_of names name) (same_name added name))
    ∙ sym (list_any-append (λ one. same_name one name) names (added ∷ []))

-- the next of some names
pub next_name : (old new : BTreeSet RecordName) (names : List RecordName) (i : ℕ) (name : RecordName) → i < length names → name ≡ get_or names i name → Updates name_cmp old new name true
    → HasNames old (take i names) → HasNames new (take (i + 1) names)
next_name old new names i name less at updates has =
    let one_on : i + 1 ≡ suc i = omega arith in
    let next : take (i + 1) names ≡ take i names ++ name ∷ [] = ap (λ n. take n names) one_on ∙ take-suc names i name less ∙ ap (λ n. take i names ++ n ∷ []) (sym at) in
    subst (HasNames new) (sym next) (one_name old new (take i names) name updates has)

-- ---- records that others write

-- the records so far, and then those that the acts from here on bring
abbrev pub AreMetSoFar : (ours : List RecordName) → List Act → (names : List RecordName) → ℕ → Type 0
AreMetSoFar ours acts names i = strangers ours acts ≡ names ++ strangers (ours ++ names) (drop i acts)

next_act : (known : List RecordName) (acts : List Act) (i : ℕ) (act : Act) (found : Option RecordName) → i < length acts → act ≡ get_or acts i act → found ≡ met known act
    → strangers known (drop i acts) ≡ option_to_list found ++ strangers (known ++ option_to_list found) (drop (i + 1) acts)
next_act known acts i act found less at is =
    at_drop_more (strangers known) acts i act less
    ∙ ap (λ a. strangers known (a ∷ drop (i + 1) acts)) (sym at)
    ∙ ap (λ m. option_to_list m ++ strangers (known ++ option_to_list m) (drop (i + 1) acts)) (sym is)

pub none_met : (ours names : List RecordName) (acts : List Act) (i : ℕ) (act : Act) → i < length acts → act ≡ get_or acts i act → None ≡ met (ours ++ names) act
    → AreMetSoFar ours acts names i → AreMetSoFar ours acts names (i + 1)
none_met ours names acts i act less at is far =
    far ∙ ap (λ l. names ++ l) (next_act (ours ++ names) acts i act None less at is ∙ ap (λ known. strangers known (drop (i + 1) acts)) (append-nil (ours ++ names)))

pub one_met : (ours names : List RecordName) (acts : List Act) (i : ℕ) (act : Act) (name : RecordName) → i < length acts → act ≡ get_or acts i act → Some name ≡ met (ours ++ names) act
    → AreMetSoFar ours acts names i → AreMetSoFar ours acts (names ++ name ∷ []) (i + 1)
one_met ours names acts i act name less at is far =
    far ∙ ap (λ l. names ++ l) (next_act (ours ++ names) acts i act (Some name) less at is ∙ ap (λ known. name ∷ strangers known (drop (i + 1) acts)) (append_assoc ours names (name ∷ [])))
    ∙ sym (append_assoc names (name ∷ []) (strangers (ours ++ (names ++ name ∷ [])) (drop (i + 1) acts)))

-- the records so far, and then those that the acts from here on offer
abbrev pub AreOfferedSoFar : List Act → (names : List RecordName) → ℕ → Type 0
AreOfferedSoFar acts names i = offered acts ≡ names ++ offered (drop i acts)

next_offer : (acts : List Act) (i : ℕ) (act : Act) (found : Option RecordName) → i < length acts → act ≡ get_or acts i act → found ≡ offer act
    → offered (drop i acts) ≡ option_to_list found ++ offered (drop (i + 1) acts)
next_offer acts i act found less at is =
    at_drop_more offered acts i act less
    ∙ ap (λ a. offered (a ∷ drop (i + 1) acts)) (sym at)
    ∙ ap (λ m. option_to_list m ++ offered (drop (i + 1) acts)) (sym is)

pub none_offered : (names : List RecordName) (acts : List Act) (i : ℕ) (act : Act) → i < length acts → act ≡ get_or acts i act → None ≡ offer act
    → AreOfferedSoFar acts names i → AreOfferedSoFar acts names (i + 1)
none_offered names acts i act less at is far = far ∙ ap (λ l. names ++ l) (next_offer acts i act None less at is)

pub one_offered : (names : List RecordName) (acts : List Act) (i : ℕ) (act : Act) (name : RecordName) → i < length acts → act ≡ get_or acts i act → Some name ≡ offer act
    → AreOfferedSoFar acts names i → AreOfferedSoFar acts (names ++ name ∷ []) (i + 1)
one_offered names acts i act name less at is far =
    far ∙ ap (λ l. names ++ l) (next_offer acts i act (Some name) less at is) ∙ sym (append_assoc names (name ∷ []) (offered (drop (i + 1) acts)))
