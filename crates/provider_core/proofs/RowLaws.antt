-- How rows are found, and that what a request updates is there.
use Rattle.std.proofs.Common.{◌≡◌, ℕ, ◌==◌, Bool, true, false, ◌&&◌, List, [], ◌∷◌, Option, Some, None, cond, refl, sym, ap, subst, ◌∙◌, rules, tests}
use Rattle.std.specs.List.{find}
use Rattle.std.specs.Cmp.{IsEquivalence}
use Rattle.std.specs.Str.{bytes_eq}
use Rattle.std.proofs.lemmas.Bool.{false_from_ne_true}
use Rattle.std.proofs.lemmas.Bool.Decides.{Decides-eqb}
use Rattle.std.proofs.lemmas.Slice.Eq.{bytes_eq-Decides}
use Rattle.scim_key.specs.Identifiers.{id_text}
use Rattle.scim_key.specs.declared.records.Kind.{Kind}
use Rattle.scim_key.specs.declared.records.Kind.TheVariants.{User, Group}
use Rattle.scim_key.specs.declared.records.RecordName.{RecordName}
use Rattle.scim_version.specs.declared.conditions.Condition.{Condition}
use Rattle.scim_resource.specs.declared.contents.Content.{Content}
use Rattle.scim_resource.specs.Contents.{content_kind, content_name}
use Rattle.scim_resource.specs.Rows.{StoredRecord}
use Rattle.scim_message.specs.declared.messages.Request.{Request}
use Rattle.scim_message.specs.declared.messages.Request.TheVariants.{Create, Retrieve, Search, Replace}
use Rattle.provider_core.specs.Rows.{same_kind, same_name, has_id, row_with_id, if_of_kind, resource, row_numbered}
use Rattle.provider_core.specs.Outcomes.{outcome, creating, reading, retrieving, writing, replacing, next_row, IsChange}
use Rattle.provider_core.specs.Stores.{HoldsNumber}
use Rattle.provider_core.specs.declared.pending.Change.{Change}
use Rattle.provider_core.specs.declared.pending.Change.TheVariants.{Update}

-- ---- names

same_parts : (k l : Kind) (x y : List ℕ) → (same_kind k l && bytes_eq x y) ≡ true → (k ≡ l) × (x ≡ y)
same_parts User User x y same = (refl, (bytes_eq-Decides x y).0 same)
same_parts User Group x y same = absurd (cc)
same_parts Group User x y same = absurd (cc)
same_parts Group Group x y same = (refl, (bytes_eq-Decides x y).0 same)

abbrev name_of : Kind → List ℕ → RecordName
name_of kind key = record { kind = kind; key = key }

name_eq : (a b : RecordName) → a.kind ≡ b.kind → a.key ≡ b.key → a ≡ b
name_eq a b kinds keys = ap (λ kind. name_of kind a.key) kinds ∙ ap (λ key. name_of b.kind key) keys

pub same_name-eq : (a b : RecordName) → same_name a b ≡ true → a ≡ b
same_name-eq a b same = let parts = same_parts a.kind b.kind a.key b.key same in name_eq a b parts.0 parts.1

pub both_true : (b c : Bool) → (b ≡ true → c ≡ true) → (c ≡ true → b ≡ true) → b ≡ c
both_true true true to from = refl
both_true true false to from = sym (to refl)
both_true false true to from = from refl
both_true false false to from = refl

turned : (a b : RecordName) → same_name a b ≡ true → same_name b a ≡ true
turned a b same =
    let e = same_name-eq a b same in
    let P : RecordName → Type 0 = λ x. same_name x a ≡ true in
    let Q : RecordName → Type 0 = λ x. same_name a x ≡ true in
    subst P e (subst Q (sym e) same)

pub same_name-sym : (a b : RecordName) → same_name a b ≡ same_name b a
same_name-sym a b = both_true (same_name a b) (same_name b a) (turned a b) (turned b a)

congruent : (a b c : RecordName) → same_name a b ≡ true → same_name a c ≡ same_name b c
congruent a b c same = ap (λ name. same_name name c) (same_name-eq a b same)

pub same_name-self : (a : RecordName) → same_name a a ≡ true
same_name-self a = itself a.kind a.key
  where
    itself : (k : Kind) (x : List ℕ) → (same_kind k k && bytes_eq x x) ≡ true
    itself User x = (bytes_eq-Decides x x).1 refl
    itself Group x = (bytes_eq-Decides x x).1 refl

pub same_name-equivalence : IsEquivalence same_name
same_name-equivalence = record { refl = same_name-self; symm = same_name-sym; congr = congruent }

-- ---- rows

pub find-passes : {A : Type 0} (p : A → Bool) (xs : List A) (x : A) → find p xs ≡ Some x → p x ≡ true
find-passes p [] x found = absurd (cc)
find-passes p (y ∷ ys) x found = here (p y) refl (find-passes p ys x) found
  where
    here : (b : Bool) → p y ≡ b → (find p ys ≡ Some x → p x ≡ true) → cond b (Some y) (find p ys) ≡ Some x → p x ≡ true
    here true test ih was = let same : y ≡ x = cc in ap p (sym same) ∙ test
    here false test ih was = ih was

pub numbers_same : (m n : ℕ) → (m == n) ≡ true → m ≡ n
numbers_same m n same = (Decides-eqb m n).0 same

-- the first row with an id is the first with its number
same-row : (id : List ℕ) (rows : List StoredRecord) (held : StoredRecord) → row_with_id id rows ≡ Some held → row_numbered held.number rows ≡ Some held
same-row id [] held found = absurd (cc)
same-row id (r ∷ rs) held found = here (has_id id r) refl (same-row id rs held) found
  where
    passes : bytes_eq id (id_text held.number) ≡ true
    passes = find-passes (has_id id) (r ∷ rs) held found

    here : (b : Bool) → has_id id r ≡ b → (row_with_id id rs ≡ Some held → row_numbered held.number rs ≡ Some held) → cond b (Some r) (row_with_id id rs) ≡ Some held → row_numbered held.number (r ∷ rs) ≡ Some held
    here true test ih was =
        let same : r ≡ held = cc in
        let tested : (r.number == held.number) ≡ true = rw same (search (rules, tests)) in
        rw tested (ap Some same)
    here false test ih was =
        let tested : (r.number == held.number) ≡ false = false_from_ne_true _ (λ same.
        let equal : r.number ≡ held.number = numbers_same r.number held.number same in
        let clash : false ≡ true = sym test ∙ ap (λ n. bytes_eq id (id_text n)) equal ∙ passes in
        cc) in
        rw tested (ih was)

of-kind : (kind : Kind) (found : Option StoredRecord) (held : StoredRecord) → if_of_kind kind found ≡ Some held → found ≡ Some held
of-kind kind None held is = absurd (cc)
of-kind kind (Some row) held is = here (same_kind kind (content_kind row.content)) is
  where
    here : (b : Bool) → cond b (Some row) None ≡ Some held → Some row ≡ Some held
    here true was = was
    here false was = absurd (cc)

resource-numbered : (kind : Kind) (id : List ℕ) (rows : List StoredRecord) (held : StoredRecord) → resource kind id rows ≡ Some held → row_numbered held.number rows ≡ Some held
resource-numbered kind id rows held is = same-row id rows held (of-kind kind (row_with_id id rows) held is)

-- ---- an update

create_updates : (taken : Option StoredRecord) (full : Bool) (count : ℕ) (content : Content) (row : StoredRecord) → (creating taken full count content).change ≡ Update row → ⊥
create_updates (Some t) full count content row is = cc
create_updates None true count content row is = cc
create_updates None false count content row is = cc

reading_updates : (matches fresh : Bool) (held row : StoredRecord) → (reading matches fresh held).change ≡ Update row → ⊥
reading_updates false fresh held row is = cc
reading_updates true false held row is = cc
reading_updates true true held row is = cc

retrieving_updates : (found : Option StoredRecord) (if_match if_none_match : Condition) (row : StoredRecord) → (retrieving found if_match if_none_match).change ≡ Update row → ⊥
retrieving_updates None if_match if_none_match row is = cc
retrieving_updates (Some held) if_match if_none_match row is = reading_updates _ _ held row is

writing_updates : (rows : List StoredRecord) (keeps_name at_last holds : Bool) (held : StoredRecord) (content : Content) (row : StoredRecord)
    → (keeps_name ≡ true → content_name held.content ≡ content_name content) → row_numbered held.number rows ≡ Some held → (writing keeps_name at_last holds held content).change ≡ Update row → HoldsNumber rows row
writing_updates rows false at_last holds held content row named there is = absurd (cc)
writing_updates rows true true holds held content row named there is = absurd (cc)
writing_updates rows true false false held content row named there is = absurd (cc)
writing_updates rows true false true held content row named there is =
    let same : next_row held content ≡ row = cc in
    let P : StoredRecord → Type 0 = λ r. HoldsNumber rows r in
    subst P same (record { held = held; there = there; name = named refl })

replacing_updates : (rows : List StoredRecord) (found : Option StoredRecord) (content : Content) (if_match if_none_match : Condition) (row : StoredRecord)
    → ((held : StoredRecord) → found ≡ Some held → row_numbered held.number rows ≡ Some held) → (replacing found content if_match if_none_match).change ≡ Update row → HoldsNumber rows row
replacing_updates rows None content if_match if_none_match row there is = absurd (cc)
replacing_updates rows (Some held) content if_match if_none_match row there is =
    writing_updates rows _ _ _ held content row (same_name-eq (content_name held.content) (content_name content)) (there held refl) is

-- the row that a request updates is there
updates : (rows : List StoredRecord) (request : Request) (row : StoredRecord) → (outcome rows request).change ≡ Update row → HoldsNumber rows row
updates rows (Create content) row is = absurd (create_updates _ _ _ content row is)
updates rows (Retrieve kind id if_match if_none_match) row is = absurd (retrieving_updates _ if_match if_none_match row is)
updates rows (Search kind wanted start count) row is = absurd (cc)
updates rows (Replace id content if_match if_none_match) row is =
    replacing_updates rows (resource (content_kind content) id rows) content if_match if_none_match row (resource-numbered (content_kind content) id rows) is

pub updated-there : (rows : List StoredRecord) (change : Change) (row : StoredRecord) → IsChange rows change → change ≡ Update row → HoldsNumber rows row
updated-there rows change row change_of is = updates rows change_of.request row (sym change_of.is ∙ is)
