-- Tables stay whole, entries are found by name, what a request writes, and that an answer shows facts.
use Rattle.std.proofs.Common.{◌≡◌, ℕ, zero, suc, ◌+◌, ◌-◌, ◌<◌, Bool, true, false, List, [], ◌∷◌, ◌++◌, Option, Some, None, ◌⊎◌, inl, inr, map, take, drop, length, nat_le, cond, refl, sym, ap, subst, ◌∙◌, arith, append_assoc}
use Rattle.std.specs.Prelude.{slice_get}
use Rattle.std.specs.List.{find, filter, AllByRecursion}
use Rattle.std.specs.Option.{option_map}
use Rattle.std.proofs.lemmas.Bool.{and_parts}
use Rattle.std.proofs.lemmas.Bool.Decides.{nat_tests}
use Rattle.std.proofs.lemmas.List.{append-nil}
use Rattle.std.proofs.lemmas.Slice.Eq.{bytes_eq-Decides}
use Rattle.scim_key.specs.Identifiers.{id_text}
use Rattle.scim_key.specs.declared.records.Kind.{Kind}
use Rattle.scim_key.specs.declared.records.Kind.TheVariants as kinds
use Rattle.scim_key.specs.declared.records.RecordName.{RecordName}
use Rattle.scim_version.specs.Conditions.{holds_match, holds_none_match}
use Rattle.scim_version.specs.declared.conditions.Condition.{Condition}
use Rattle.scim_resource.specs.declared.contents.Content.{Content}
use Rattle.scim_resource.specs.Contents.{content_kind, content_name}
use Rattle.scim_resource.specs.Rows.{StoredRecord, ShownRecord, shown, last_version}
use Rattle.scim_filter.specs.Expressions.{Expression}
use Rattle.scim_message.specs.declared.messages.Request.{Request}
use Rattle.scim_message.specs.declared.messages.Request.TheVariants.{Create, Retrieve, Search, Replace}
use Rattle.provider_core.specs.Rows.{same_kind, same_name, is_named, row_named}
use Rattle.provider_core.specs.Searches.{page_from, first_place, page_size}
use Rattle.provider_core.specs.Stories.{Entry, story, first_entry, renewed, row_of, rows_from, is_entry_of, Numbered, numbered_from, has_entry_id, if_entry_of_kind, entry_with_id, renew_at, is_entry_hit, found_entries, creating_entry, writing_entry, replacing_entry, reading_entry, retrieving_entry, IsTable, GoesOn}
use Rattle.provider_core.specs.Tables.{is_numbered_of, entry_named, IsWholeTable, TablesStayWhole, FoundByName, EntriesAreFound, Writes, Writes.nothing, Writes.created, Writes.replaced, StepsWrite, IsFact, shown_in, ShowsFacts, GoOnAt, GoOnStaying, GoOnFurther}
use Rattle.provider_core.proofs.RowLaws.{same_name-eq, find-passes}

-- ---- lists

-- what is in a list with one more element at its end
pub at_push : {X : Type 0} (xs : List X) (x : X) (i : ℕ) (y : X) → slice_get (xs ++ x ∷ []) i ≡ Some y → (slice_get xs i ≡ Some y) ⊎ ((i ≡ length xs) × (x ≡ y))
at_push [] x zero y at = inr (refl, cc)
at_push [] x (suc i) y at = absurd (cc)
at_push (z ∷ xs) x zero y at = inl at
at_push (z ∷ xs) x (suc i) y at = elim (at_push xs x i y at) [
  | inl old ↦ inl old
  | inr new ↦ inr (ap suc new.0, new.1)
]

pub at_end : {X : Type 0} (xs : List X) (x : X) → slice_get (xs ++ x ∷ []) (length xs) ≡ Some x
at_end [] x = refl
at_end (z ∷ xs) x = at_end xs x

pub at_more : {X : Type 0} (xs more : List X) (i : ℕ) (y : X) → slice_get xs i ≡ Some y → slice_get (xs ++ more) i ≡ Some y
at_more [] more i y at = absurd (cc)
at_more (z ∷ xs) more zero y at = at
at_more (z ∷ xs) more (suc i) y at = at_more xs more i y at

pub at_one : {X : Type 0} (x : X) (i : ℕ) (y : X) → slice_get (x ∷ []) i ≡ Some y → x ≡ y
at_one x zero y at = cc
at_one x (suc i) y at = absurd (cc)

at_take : {X : Type 0} (n : ℕ) (xs : List X) (i : ℕ) (y : X) → slice_get (take n xs) i ≡ Some y → slice_get xs i ≡ Some y
at_take zero xs i y at = absurd (cc)
at_take (suc n) [] i y at = absurd (cc)
at_take (suc n) (x ∷ xs) zero y at = at
at_take (suc n) (x ∷ xs) (suc i) y at = at_take n xs i y at

at_drop : {X : Type 0} (n : ℕ) (xs : List X) (i : ℕ) (y : X) → slice_get (drop n xs) i ≡ Some y → (j : ℕ) × (slice_get xs j ≡ Some y)
at_drop zero xs i y at = (i, at)
at_drop (suc n) [] i y at = absurd (cc)
at_drop (suc n) (x ∷ xs) i y at = let rest = at_drop n xs i y at in (suc rest.0, rest.1)

at_map : {X Y : Type 0} (f : X → Y) (xs : List X) (i : ℕ) (y : Y) → slice_get (map f xs) i ≡ Some y → (x : X) × (slice_get xs i ≡ Some x) × (f x ≡ y)
at_map f [] i y at = absurd (cc)
at_map f (x ∷ xs) zero y at = (x, refl, cc)
at_map f (x ∷ xs) (suc i) y at = at_map f xs i y at

at_cond : {X : Type 0} (b : Bool) (x : X) (xs rest : List X) (i : ℕ) (y : X) → ((k : ℕ) → slice_get rest k ≡ Some y → (j : ℕ) × (slice_get xs j ≡ Some y))
    → slice_get (cond b (x ∷ rest) rest) i ≡ Some y → (j : ℕ) × (slice_get (x ∷ xs) j ≡ Some y)
at_cond true x xs rest zero y later at = (0, at)
at_cond true x xs rest (suc i) y later at = let found = later i at in (suc found.0, found.1)
at_cond false x xs rest i y later at = let found = later i at in (suc found.0, found.1)

at_filter : {X : Type 0} (p : X → Bool) (xs : List X) (i : ℕ) (y : X) → slice_get (filter p xs) i ≡ Some y → (j : ℕ) × (slice_get xs j ≡ Some y)
at_filter p [] i y at = absurd (cc)
at_filter p (x ∷ xs) i y at = at_cond (p x) x xs (filter p xs) i y (λ k. at_filter p xs k y) at

pub at_numbered : (m : ℕ) (es : List Entry) (j : ℕ) (n : Numbered) → slice_get (numbered_from m es) j ≡ Some n → (n.number ≡ m + j) × (slice_get es j ≡ Some n.entry)
at_numbered m [] j n at = absurd (cc)
at_numbered m (e ∷ es) zero n at =
    let first : Numbered = record { number = m; entry = e } in
    let same : first ≡ n = cc in
    (omega (arith, ap (λ x. x.number) same), ap (λ x. Some x.entry) same)
at_numbered m (e ∷ es) (suc j) n at = let rest = at_numbered (suc m) es j n at in (omega (arith, rest.0), rest.1)

all_at : (P : Entry → Type 0) (es : List Entry) → ((i : ℕ) (e : Entry) → slice_get es i ≡ Some e → P e) → AllByRecursion P es
all_at P [] each = tt
all_at P (e ∷ es) each = (each 0 e refl, all_at P es (λ i. each (suc i)))

cond_none : {X : Type 0} (b : Bool) (x : X) (rest : Option X) → cond b (Some x) rest ≡ None → (b ≡ false) × (rest ≡ None)
cond_none true x rest none = absurd (cc)
cond_none false x rest none = (refl, none)

find_none : {X : Type 0} (p : X → Bool) (xs : List X) (i : ℕ) (x : X) → find p xs ≡ None → slice_get xs i ≡ Some x → p x ≡ false
find_none p [] i x none at = absurd (cc)
find_none p (y ∷ ys) zero x none at = let same : y ≡ x = cc in ap p (sym same) ∙ (cond_none (p y) y (find p ys) none).0
find_none p (y ∷ ys) (suc i) x none at = find_none p ys i x (cond_none (p y) y (find p ys) none).1 at

-- ---- names

kind_itself : (k : Kind) → same_kind k k ≡ true
kind_itself kinds.User = refl
kind_itself kinds.Group = refl

pub record_itself : (name : RecordName) → same_name name name ≡ true
record_itself name = rw (kind_itself name.kind) ((bytes_eq-Decides name.key name.key).1 refl)

pub same_if_eq : (a b : RecordName) → a ≡ b → same_name a b ≡ true
same_if_eq a b e = subst (λ x. same_name a x ≡ true) e (record_itself a)

-- ---- how the entry of a record is found

abbrev entry_of : Numbered → Entry
entry_of n = n.entry

mapped_entry : (b : Bool) (n : Numbered) (p : Option Entry) (q : Option Numbered) → p ≡ option_map entry_of q → cond b (Some n.entry) p ≡ option_map entry_of (cond b (Some n) q)
mapped_entry true n p q same = refl
mapped_entry false n p q same = same

find_entry : (name : RecordName) (m : ℕ) (es : List Entry) → find (is_entry_of name) es ≡ option_map entry_of (find (is_numbered_of name) (numbered_from m es))
find_entry name m [] = refl
find_entry name m (e ∷ es) = mapped_entry (is_entry_of name e) (record { number = m; entry = e }) _ _ (find_entry name (suc m) es)

none_of : (o : Option Numbered) → option_map entry_of o ≡ None → o ≡ None
none_of None none = refl
none_of (Some n) none = absurd (cc)

abbrev row_at : Numbered → StoredRecord
row_at n = row_of n.number n.entry

-- an entry that is found is at the place of its number
pub found_at : (p : Numbered → Bool) (m : ℕ) (es : List Entry) (n : Numbered) → find p (numbered_from m es) ≡ Some n → (i : ℕ) × (n.number ≡ m + i) × (slice_get es i ≡ Some n.entry)
found_at p m [] n found = absurd (cc)
found_at p m (e ∷ es) n found = here (p (record { number = m; entry = e })) (found_at p (suc m) es n) found
  where
    here : (b : Bool) → (find p (numbered_from (suc m) es) ≡ Some n → (i : ℕ) × (n.number ≡ suc m + i) × (slice_get es i ≡ Some n.entry))
        → cond b (Some (record { number = m; entry = e })) (find p (numbered_from (suc m) es)) ≡ Some n → (i : ℕ) × (n.number ≡ m + i) × (slice_get (e ∷ es) i ≡ Some n.entry)
    here true later was =
        let first : Numbered = record { number = m; entry = e } in
        let same : first ≡ n = cc in
        (0, omega (arith, ap (λ x. x.number) same), ap (λ x. Some x.entry) same)
    here false later was = let rest = later was in (suc rest.0, omega (arith, rest.1), rest.2)

cond_both : (a b : Bool) (n : Numbered) (p : Option StoredRecord) (q : Option Numbered) → a ≡ b → p ≡ option_map row_at q → cond a (Some (row_at n)) p ≡ option_map row_at (cond b (Some n) q)
cond_both true true n p q test same = refl
cond_both true false n p q test same = absurd (cc)
cond_both false true n p q test same = absurd (cc)
cond_both false false n p q test same = same

row_found : (name : RecordName) (m : ℕ) (es : List Entry) → IsTable es → row_named name (rows_from m es) ≡ option_map row_at (find (is_numbered_of name) (numbered_from m es))
row_found name m [] table = refl
row_found name m (e ∷ es) table =
    cond_both (is_named name (row_of m e)) (is_entry_of name e) (record { number = m; entry = e }) _ _ (ap (same_name name) table.0) (row_found name (suc m) es table.1)

-- what an entry holds is the last content of its story
pub held_at : (e : Entry) → slice_get (story e) (length e.earlier) ≡ Some e.held
held_at e = at_end e.earlier e.held

pub is_table : (es : List Entry) → IsWholeTable es → IsTable es
is_table es whole = all_at (λ e. content_name e.held ≡ e.name) es (λ i e at. whole.named i (length e.earlier) e e.held at (held_at e))

pub found_by_name : FoundByName
found_by_name name es whole = row_found name 1 es (is_table es whole)

-- the entry that is found is of the record
pub named_found : (name : RecordName) (es : List Entry) (n : Numbered) → entry_named name es ≡ Some n → (i : ℕ) × (n.number ≡ suc i) × (slice_get es i ≡ Some n.entry) × (n.entry.name ≡ name)
named_found name es n found =
    let at = found_at (is_numbered_of name) 1 es n found in
    (at.0, omega (arith, at.1), at.2, sym (same_name-eq name n.entry.name (find-passes (is_numbered_of name) (numbered_from 1 es) n found)))

-- no entry is of a record that has none
pub not_named : (name : RecordName) (es : List Entry) (i : ℕ) (e : Entry) → entry_named name es ≡ None → slice_get es i ≡ Some e → e.name ≡ name → ⊥
not_named name es i e none at named =
    let free : find (is_entry_of name) es ≡ None = find_entry name 1 es ∙ ap (option_map entry_of) none in
    let tested : same_name name e.name ≡ false = find_none (is_entry_of name) es i e free at in
    let clash : false ≡ true = sym tested ∙ same_if_eq name e.name (sym named) in
    cc

numbered_eq : (n : Numbered) (number : ℕ) (e : Entry) → n.number ≡ number → n.entry ≡ e → Some n ≡ Some (record { number = number; entry = e })
numbered_eq n number e same_number same_entry = rw (same_number, same_entry) refl

-- an entry of the record is the one that is found
pub entry_here : (name : RecordName) (es : List Entry) (i : ℕ) (e : Entry) → IsWholeTable es → slice_get es i ≡ Some e → e.name ≡ name
    → entry_named name es ≡ Some (record { number = suc i; entry = e })
entry_here name es i e whole at named = go (entry_named name es) refl
  where
    go : (o : Option Numbered) → entry_named name es ≡ o → o ≡ Some (record { number = suc i; entry = e })
    go None is = absurd (not_named name es i e is at named)
    go (Some n) is =
        let (j, number, there, of_name) = named_found name es n is in
        let place : j ≡ i = whole.distinct j i n.entry e there at (of_name ∙ sym named) in
        let same : Some n.entry ≡ Some e = sym there ∙ ap (slice_get es) place ∙ at in
        numbered_eq n (suc i) e (number ∙ ap suc place) (cc)

pub entries_are_found : EntriesAreFound
entries_are_found name es whole = record { found = named_found name es; here = λ i e. entry_here name es i e whole }

-- ---- what a request writes

-- where the entry with an id is
record Placed (id : List ℕ) (es : List Entry) (n : Numbered) : Type 0 where
  place : ℕ
  number : n.number ≡ suc place
  there : slice_get es place ≡ Some n.entry
  named : id ≡ id_text (suc place)

of_kind : (kind : Kind) (found : Option Numbered) (n : Numbered) → if_entry_of_kind kind found ≡ Some n → found ≡ Some n
of_kind kind None n is = absurd (cc)
of_kind kind (Some m) n is = here (same_kind kind m.entry.name.kind) is
  where
    here : (b : Bool) → cond b (Some m) None ≡ Some n → Some m ≡ Some n
    here true was = was
    here false was = absurd (cc)

placed : (kind : Kind) (id : List ℕ) (es : List Entry) (n : Numbered) → entry_with_id kind id es ≡ Some n → Placed id es n
placed kind id es n is =
    let found = of_kind kind (find (has_entry_id id) (numbered_from 1 es)) n is in
    let at = found_at (has_entry_id id) 1 es n found in
    let number : n.number ≡ suc at.0 = omega (arith, at.1) in
    record {
      place = at.0;
      number = number;
      there = at.2;
      named = (bytes_eq-Decides id (id_text n.number)).0 (find-passes (has_entry_id id) (numbered_from 1 es) n found) ∙ ap id_text number;
    }

create_writes : (taken : Option Entry) (full : Bool) (es : List Entry) (content : Content) → find (is_entry_of (content_name content)) es ≡ taken
    → Writes es (Create content) (creating_entry taken full es content).entries
create_writes (Some e) full es content was = nothing
create_writes None true es content was = nothing
create_writes None false es content was = created content (none_of (entry_named (content_name content) es) (sym (find_entry (content_name content) 1 es) ∙ was))

reading_writes : (r : Request) (matches fresh : Bool) (n : Numbered) (es : List Entry) → Writes es r (reading_entry matches fresh n es).entries
reading_writes r false fresh n es = nothing
reading_writes r true false n es = nothing
reading_writes r true true n es = nothing

retrieving_writes : (r : Request) (entry : Option Numbered) (es : List Entry) (if_match if_none_match : Condition) → Writes es r (retrieving_entry entry es if_match if_none_match).entries
retrieving_writes r None es if_match if_none_match = nothing
retrieving_writes r (Some n) es if_match if_none_match = reading_writes r _ _ n es

below_last : (v : ℕ) → nat_le last_version v ≡ false → v < last_version
below_last v test = grind (arith, nat_tests)

renew_writes : (id : List ℕ) (n : Numbered) (es : List Entry) (content : Content) (if_match if_none_match : Condition) → Placed id es n → n.entry.name ≡ content_name content
    → length (story n.entry) < last_version → holds_match if_match (Some (length (story n.entry))) ≡ true
    → Writes es (Replace id content if_match if_none_match) (renew_at (n.number - 1) content es)
renew_writes id n es content if_match if_none_match at named short holds =
    let P : List ℕ → ℕ → Type 0 = λ i place. Writes es (Replace i content if_match if_none_match) (renew_at place content es) in
    let place : at.place ≡ n.number - 1 = omega (arith, at.number) in
    subst (λ (i : List ℕ). P i (n.number - 1)) (sym at.named) (subst (λ (p : ℕ). P (id_text (suc at.place)) p) place
    (replaced at.place n.entry content if_match if_none_match at.there named short holds))

writing_writes : (keeps_name at_last holds : Bool) (id : List ℕ) (n : Numbered) (es : List Entry) (content : Content) (if_match if_none_match : Condition) → Placed id es n
    → (keeps_name ≡ true → n.entry.name ≡ content_name content) → (at_last ≡ false → length (story n.entry) < last_version)
    → (holds ≡ true → holds_match if_match (Some (length (story n.entry))) ≡ true)
    → Writes es (Replace id content if_match if_none_match) (writing_entry keeps_name at_last holds n es content).entries
writing_writes false at_last holds id n es content if_match if_none_match at named short held = nothing
writing_writes true true holds id n es content if_match if_none_match at named short held = nothing
writing_writes true false false id n es content if_match if_none_match at named short held = nothing
writing_writes true false true id n es content if_match if_none_match at named short held =
    renew_writes id n es content if_match if_none_match at (named refl) (short refl) (held refl)

replacing_writes : (o : Option Numbered) (id : List ℕ) (es : List Entry) (content : Content) (if_match if_none_match : Condition) → entry_with_id (content_kind content) id es ≡ o
    → Writes es (Replace id content if_match if_none_match) (replacing_entry o es content if_match if_none_match).entries
replacing_writes None id es content if_match if_none_match was = nothing
replacing_writes (Some n) id es content if_match if_none_match was =
    writing_writes _ _ _ id n es content if_match if_none_match (placed (content_kind content) id es n was)
    (same_name-eq n.entry.name (content_name content)) (below_last (length (story n.entry)))
    (λ both. (and_parts (holds_match if_match (Some (length (story n.entry)))) (holds_none_match if_none_match (Some (length (story n.entry)))) both).0)

pub steps_write : StepsWrite
steps_write es (Create content) = create_writes (find (is_entry_of (content_name content)) es) _ es content refl
steps_write es (Retrieve kind id if_match if_none_match) = retrieving_writes _ _ es if_match if_none_match
steps_write es (Search kind wanted start count) = nothing
steps_write es (Replace id content if_match if_none_match) = replacing_writes (entry_with_id (content_kind content) id es) id es content if_match if_none_match refl

-- ---- tables stay whole

first_named : (content : Content) (j : ℕ) (c : Content) → slice_get (story (first_entry content)) j ≡ Some c → content_name c ≡ content_name content
first_named content j c at = ap content_name (sym (at_one content j c at))

created_named : (es : List Entry) (content : Content) → IsWholeTable es → (i j : ℕ) (e : Entry) (c : Content) → slice_get (es ++ first_entry content ∷ []) i ≡ Some e
    → slice_get (story e) j ≡ Some c → content_name c ≡ e.name
created_named es content whole i j e c at held = elim (at_push es (first_entry content) i e at) [
  | inl old ↦ whole.named i j e c old held
  | inr new ↦ subst (λ (x : Entry). slice_get (story x) j ≡ Some c → content_name c ≡ x.name) new.1 (first_named content j c) held
]

created_distinct : (es : List Entry) (content : Content) → entry_named (content_name content) es ≡ None → IsWholeTable es → (i j : ℕ) (d e : Entry)
    → slice_get (es ++ first_entry content ∷ []) i ≡ Some d → slice_get (es ++ first_entry content ∷ []) j ≡ Some e → d.name ≡ e.name → i ≡ j
created_distinct es content free whole i j d e at_d at_e same = elim (at_push es (first_entry content) i d at_d) [
  | inl old ↦ elim (at_push es (first_entry content) j e at_e) [
    | inl old' ↦ whole.distinct i j d e old old' same
    | inr new' ↦ absurd (not_named (content_name content) es i d free old (same ∙ ap (λ x. x.name) (sym new'.1)))
  ]
  | inr new ↦ elim (at_push es (first_entry content) j e at_e) [
    | inl old' ↦ absurd (not_named (content_name content) es j e free old' (sym same ∙ ap (λ x. x.name) (sym new.1)))
    | inr new' ↦ new.0 ∙ sym new'.0
  ]
]

-- the entry at a place of the renewed table is that of the old one, or that whose story went on
pub at_renew : (place : ℕ) (content : Content) (es : List Entry) (k : ℕ) (f : Entry) → slice_get (renew_at place content es) k ≡ Some f
    → (e : Entry) × (slice_get es k ≡ Some e) × ((f ≡ e) ⊎ ((k ≡ place) × (f ≡ renewed e content)))
at_renew place content [] k f at = absurd (cc)
at_renew zero content (e ∷ es) zero f at = (e, refl, inr (refl, cc))
at_renew zero content (e ∷ es) (suc k) f at = (f, at, inl refl)
at_renew (suc place) content (e ∷ es) zero f at = (e, refl, inl (cc))
at_renew (suc place) content (e ∷ es) (suc k) f at =
    let (d, here, which) = at_renew place content es k f at in (
      d,
      here,
      elim which [
        | inl old ↦ inl old
        | inr new ↦ inr (ap suc new.0, new.1)
      ],
    )

renew_name : (f e : Entry) (content : Content) (P : Type 0) → (f ≡ e) ⊎ (P × (f ≡ renewed e content)) → f.name ≡ e.name
renew_name f e content P (inl old) = ap (λ x. x.name) old
renew_name f e content P (inr new) = ap (λ x. x.name) new.1

renewed_named : (es : List Entry) (place : ℕ) (held : Entry) (content : Content) → slice_get es place ≡ Some held → held.name ≡ content_name content → IsWholeTable es
    → (i j : ℕ) (f : Entry) (c : Content) → slice_get (renew_at place content es) i ≡ Some f → slice_get (story f) j ≡ Some c → content_name c ≡ f.name
renewed_named es place held content there named whole i j f c at in_story =
    let (e, here, which) = at_renew place content es i f at in
    elim which [
      | inl old ↦ subst (λ (x : Entry). slice_get (story x) j ≡ Some c → content_name c ≡ x.name) (sym old) (whole.named i j e c here) in_story
      | inr new ↦
          let same : Some e ≡ Some held = sym here ∙ ap (slice_get es) new.0 ∙ there in
          let entry : held ≡ e = cc in
          let its_name : content_name content ≡ e.name = sym named ∙ ap (λ x. x.name) entry in
          subst (λ (x : Entry). slice_get (story x) j ≡ Some c → content_name c ≡ x.name) (sym new.1) (λ in_new.
          elim (at_push (story e) content j c in_new) [
            | inl old ↦ whole.named i j e c here old
            | inr last ↦ ap content_name (sym last.1) ∙ its_name
          ]) in_story
    ]

renewed_distinct : (es : List Entry) (place : ℕ) (content : Content) → IsWholeTable es → (i j : ℕ) (d e : Entry)
    → slice_get (renew_at place content es) i ≡ Some d → slice_get (renew_at place content es) j ≡ Some e → d.name ≡ e.name → i ≡ j
renewed_distinct es place content whole i j d e at_d at_e same =
    let (d', here, which) = at_renew place content es i d at_d in
    let (e', here', which') = at_renew place content es j e at_e in
    whole.distinct i j d' e' here here' (sym (renew_name d d' content (i ≡ place) which) ∙ same ∙ renew_name e e' content (j ≡ place) which')

pub writes_stay_whole : {es : List Entry} {r : Request} {fs : List Entry} → Writes es r fs → IsWholeTable es → IsWholeTable fs
writes_stay_whole nothing whole = whole
writes_stay_whole (created {es = es} content free) whole = record { named = created_named es content whole; distinct = created_distinct es content free whole }
writes_stay_whole (replaced {es = es} i e content m n there named short holds) whole =
    record { named = renewed_named es i e content there named whole; distinct = renewed_distinct es i content whole }

pub tables_stay_whole : TablesStayWhole
tables_stay_whole es request whole = writes_stay_whole (steps_write es request) whole

-- ---- what an answer shows

pub fact_at : (es : List Entry) (i : ℕ) (e : Entry) → slice_get es i ≡ Some e → IsFact es (shown (row_of (suc i) e))
fact_at es i e at = record { place = i; turn = length e.earlier; entry = e; here = at; held = held_at e; id = refl; version = refl }

fact_of : (es : List Entry) (i number : ℕ) (e : Entry) → number ≡ suc i → slice_get es i ≡ Some e → IsFact es (shown (row_of number e))
fact_of es i number e is at = subst (λ (k : ℕ). IsFact es (shown (row_of k e))) (sym is) (fact_at es i e at)

one_fact : (es : List Entry) (x : ShownRecord) → IsFact es x → (i : ℕ) (s : ShownRecord) → slice_get (x ∷ []) i ≡ Some s → IsFact es s
one_fact es x fact i s at = subst (IsFact es) (at_one x i s at) fact

no_fact : (es : List Entry) (i : ℕ) (s : ShownRecord) → slice_get [] i ≡ Some s → IsFact es s
no_fact es i s at = absurd (cc)

abbrev ShowsFactsOf : List Entry → List ShownRecord → Type 0
ShowsFactsOf es shows = (i : ℕ) (s : ShownRecord) → slice_get shows i ≡ Some s → IsFact es s

creating_shows : (taken : Option Entry) (full : Bool) (es : List Entry) (content : Content)
    → ShowsFactsOf (creating_entry taken full es content).entries (shown_in (creating_entry taken full es content).answer)
creating_shows (Some e) full es content = no_fact es
creating_shows None true es content = no_fact es
creating_shows None false es content =
    let more = es ++ first_entry content ∷ [] in
    one_fact more (shown (row_of (suc (length es)) (first_entry content))) (fact_at more (length es) (first_entry content) (at_end es (first_entry content)))

reading_shows : (matches fresh : Bool) (n : Numbered) (es : List Entry) → IsFact es (shown (row_of n.number n.entry))
    → ShowsFactsOf (reading_entry matches fresh n es).entries (shown_in (reading_entry matches fresh n es).answer)
reading_shows false fresh n es fact = no_fact es
reading_shows true false n es fact = no_fact es
reading_shows true true n es fact = one_fact es (shown (row_of n.number n.entry)) fact

retrieving_shows : (o : Option Numbered) (kind : Kind) (id : List ℕ) (es : List Entry) (if_match if_none_match : Condition) → entry_with_id kind id es ≡ o
    → ShowsFactsOf (retrieving_entry o es if_match if_none_match).entries (shown_in (retrieving_entry o es if_match if_none_match).answer)
retrieving_shows None kind id es if_match if_none_match was = no_fact es
retrieving_shows (Some n) kind id es if_match if_none_match was =
    let at = placed kind id es n was in
    reading_shows _ _ n es (fact_of es at.place n.number n.entry at.number at.there)

at_renewed : (place : ℕ) (content : Content) (es : List Entry) (e : Entry) → slice_get es place ≡ Some e → slice_get (renew_at place content es) place ≡ Some (renewed e content)
at_renewed place content [] e at = absurd (cc)
at_renewed zero content (f ∷ es) e at = let same : f ≡ e = cc in ap (λ x. Some (renewed x content)) same
at_renewed (suc place) content (f ∷ es) e at = at_renewed place content es e at

renewed_fact : (es : List Entry) (i : ℕ) (n : Numbered) (content : Content) → n.number ≡ suc i → slice_get es i ≡ Some n.entry
    → IsFact (renew_at (n.number - 1) content es) (shown (row_of n.number (renewed n.entry content)))
renewed_fact es i n content number there =
    let place : i ≡ n.number - 1 = omega (arith, number) in
    subst (λ (p : ℕ). IsFact (renew_at p content es) (shown (row_of n.number (renewed n.entry content)))) place
    (fact_of (renew_at i content es) i n.number (renewed n.entry content) number (at_renewed i content es n.entry there))

writing_shows : (keeps_name at_last holds : Bool) (n : Numbered) (es : List Entry) (content : Content) (i : ℕ) → n.number ≡ suc i → slice_get es i ≡ Some n.entry
    → ShowsFactsOf (writing_entry keeps_name at_last holds n es content).entries (shown_in (writing_entry keeps_name at_last holds n es content).answer)
writing_shows false at_last holds n es content i number there = no_fact es
writing_shows true true holds n es content i number there = no_fact es
writing_shows true false false n es content i number there = no_fact es
writing_shows true false true n es content i number there =
    one_fact (renew_at (n.number - 1) content es) (shown (row_of n.number (renewed n.entry content))) (renewed_fact es i n content number there)

replacing_shows : (o : Option Numbered) (id : List ℕ) (es : List Entry) (content : Content) (if_match if_none_match : Condition) → entry_with_id (content_kind content) id es ≡ o
    → ShowsFactsOf (replacing_entry o es content if_match if_none_match).entries (shown_in (replacing_entry o es content if_match if_none_match).answer)
replacing_shows None id es content if_match if_none_match was = no_fact es
replacing_shows (Some n) id es content if_match if_none_match was =
    let at = placed (content_kind content) id es n was in
    writing_shows _ _ _ n es content at.place at.number at.there

found_shows : (kind : Kind) (wanted : Option Expression) (es : List Entry) (first size : ℕ) → ShowsFactsOf es (page_from first size (found_entries kind wanted es))
found_shows kind wanted es first size i s at =
    let hits : List Numbered = filter (is_entry_hit kind wanted) (numbered_from 1 es) in
    let all = found_entries kind wanted es in
    let (j, in_all) = at_drop (first - 1) all i s (at_take size (drop (first - 1) all) i s at) in
    let (n, in_hits, shows) = at_map (λ n. shown (row_of n.number n.entry)) hits j s in_all in
    let (k, numbered) = at_filter (is_entry_hit kind wanted) (numbered_from 1 es) j n in_hits in
    let (number, there) = at_numbered 1 es k n numbered in
    subst (IsFact es) shows (fact_of es k n.number n.entry (omega (arith, number)) there)

pub answers_show_facts : ShowsFacts
answers_show_facts es (Create content) = creating_shows _ _ es content
answers_show_facts es (Retrieve kind id if_match if_none_match) = retrieving_shows (entry_with_id kind id es) kind id es if_match if_none_match refl
answers_show_facts es (Search kind wanted start count) = found_shows kind wanted es (first_place start) (page_size count)
answers_show_facts es (Replace id content if_match if_none_match) = replacing_shows (entry_with_id (content_kind content) id es) id es content if_match if_none_match refl

-- ---- entries that go on

goes_on_itself : (e : Entry) → GoesOn e e
goes_on_itself e = record { name = refl; more = []; story = sym (append-nil (story e)) }

goes_on_further : (e f g : Entry) → GoesOn e f → GoesOn f g → GoesOn e g
goes_on_further e f g p q = record {
  name = q.name ∙ p.name;
  more = p.more ++ q.more;
  story = q.story ∙ ap (λ (l : List Content). l ++ q.more) p.story ∙ append_assoc (story e) p.more q.more;
}

pub go_on_at : GoOnAt
go_on_at [] fs i e all at = absurd (cc)
go_on_at (d ∷ es) [] i e all at = absurd all
go_on_at (d ∷ es) (f ∷ fs) zero e all at = let same : d ≡ e = cc in (f, refl, subst (λ (x : Entry). GoesOn x f) same all.0)
go_on_at (d ∷ es) (f ∷ fs) (suc i) e all at = go_on_at es fs i e all.1 at

pub go_on_staying : GoOnStaying
go_on_staying [] = tt
go_on_staying (e ∷ es) = (goes_on_itself e, go_on_staying es)

pub go_on_further : GoOnFurther
go_on_further [] fs gs p q = tt
go_on_further (e ∷ es) [] gs p q = absurd p
go_on_further (e ∷ es) (f ∷ fs) [] p q = absurd q
go_on_further (e ∷ es) (f ∷ fs) (g ∷ gs) p q = (goes_on_further e f g p.0 q.0, go_on_further es fs gs p.1 q.1)
