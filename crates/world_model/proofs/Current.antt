-- An answer shows what the provider holds after the request.
use Rattle.std.proofs.Common.{◌≡◌, ℕ, zero, suc, ◌+◌, ◌-◌, Bool, true, false, cond, List, [], ◌∷◌, ◌++◌, Option, Some, None, map, take, drop, length, refl, ap, sym, subst, arith}
use Rattle.std.specs.List.{find, filter, slice_get}
use Rattle.scim_key.specs.declared.records.Kind.{Kind}
use Rattle.scim_version.specs.declared.conditions.Condition.{Condition}
use Rattle.scim_resource.specs.Contents.{content_kind}
use Rattle.scim_resource.specs.Rows.{ShownRecord, shown}
use Rattle.scim_resource.specs.declared.contents.Content.{Content}
use Rattle.scim_filter.specs.Expressions.{Expression}
use Rattle.scim_message.specs.declared.messages.Request.{Request}
use Rattle.scim_message.specs.declared.messages.Request.TheVariants.{Create, Retrieve, Search, Replace}
use Rattle.provider_core.specs.Rows.{same_kind}
use Rattle.provider_core.specs.Searches.{page_from, first_place, page_size}
use Rattle.provider_core.specs.Stories.{Entry, first_entry, renewed, row_of, Numbered, numbered_from, has_entry_id, if_entry_of_kind, entry_with_id, renew_at, is_entry_hit, found_entries, creating_entry, writing_entry, replacing_entry, reading_entry, retrieving_entry, step}
use Rattle.provider_core.specs.Tables.{shown_in}
use Rattle.provider_core.proofs.TableLaws.{at_end, at_one, at_numbered, found_at}
use Rattle.world_model.specs.Safe.{IsAt}
use Rattle.world_model.proofs.Stepping.{renewed_here}

-- an entry holds what is shown
pub record IsCurrent (es : List Entry) (s : ShownRecord) : Type 0 where
  pub place : ℕ
  pub entry : Entry
  pub here : IsAt es place entry
  pub content : s.content ≡ entry.held

abbrev ShowsCurrent : List Entry → List ShownRecord → Type 0
ShowsCurrent es shows = (i : ℕ) (s : ShownRecord) → IsAt shows i s → IsCurrent es s

none_current : (es : List Entry) → ShowsCurrent es []
none_current es i s at = absurd (cc)

one_current : (es : List Entry) (place number : ℕ) (e : Entry) → IsAt es place e → ShowsCurrent es (shown (row_of number e) ∷ [])
one_current es place number e here i s at =
    record { place = place; entry = e; here = here; content = ap (λ (x : ShownRecord). x.content) (sym (at_one (shown (row_of number e)) i s at)) }

creating_current : (taken : Option Entry) (full : Bool) (es : List Entry) (content : Content)
    → ShowsCurrent (creating_entry taken full es content).entries (shown_in (creating_entry taken full es content).answer)
creating_current (Some e) full es content = none_current es
creating_current None true es content = none_current es
creating_current None false es content =
    one_current (es ++ first_entry content ∷ []) (length es) (suc (length es)) (first_entry content) (at_end es (first_entry content))

-- the entry with an id is at its place
of_kind : (kind : Kind) (found : Option Numbered) (n : Numbered) → if_entry_of_kind kind found ≡ Some n → found ≡ Some n
of_kind kind None n is = absurd (cc)
of_kind kind (Some m) n is = here (same_kind kind m.entry.name.kind) is
  where
    here : (b : Bool) → cond b (Some m) None ≡ Some n → Some m ≡ Some n
    here true was = was
    here false was = absurd (cc)

with_id : (kind : Kind) (id : List ℕ) (es : List Entry) (n : Numbered) → entry_with_id kind id es ≡ Some n → (i : ℕ) × (n.number ≡ 1 + i) × IsAt es i n.entry
with_id kind id es n is = found_at (has_entry_id id) 1 es n (of_kind kind (find (has_entry_id id) (numbered_from 1 es)) n is)

reading_current : (matches fresh : Bool) (n : Numbered) (es : List Entry) (i : ℕ) → IsAt es i n.entry
    → ShowsCurrent (reading_entry matches fresh n es).entries (shown_in (reading_entry matches fresh n es).answer)
reading_current false fresh n es i there = none_current es
reading_current true false n es i there = none_current es
reading_current true true n es i there = one_current es i n.number n.entry there

retrieving_current : (o : Option Numbered) (kind : Kind) (id : List ℕ) (es : List Entry) (if_match if_none_match : Condition) → entry_with_id kind id es ≡ o
    → ShowsCurrent (retrieving_entry o es if_match if_none_match).entries (shown_in (retrieving_entry o es if_match if_none_match).answer)
retrieving_current None kind id es if_match if_none_match was = none_current es
retrieving_current (Some n) kind id es if_match if_none_match was =
    let (i, number, there) = with_id kind id es n was in reading_current _ _ n es i there

writing_current : (keeps_name at_last holds : Bool) (n : Numbered) (es : List Entry) (content : Content) (i : ℕ) → n.number ≡ 1 + i → IsAt es i n.entry
    → ShowsCurrent (writing_entry keeps_name at_last holds n es content).entries (shown_in (writing_entry keeps_name at_last holds n es content).answer)
writing_current false at_last holds n es content i number there = none_current es
writing_current true true holds n es content i number there = none_current es
writing_current true false false n es content i number there = none_current es
writing_current true false true n es content i number there =
    let place : i ≡ n.number - 1 = omega (arith, number) in
    subst (λ (p : ℕ). ShowsCurrent (renew_at p content es) (shown (row_of n.number (renewed n.entry content)) ∷ [])) place
    (one_current (renew_at i content es) i n.number (renewed n.entry content) (renewed_here es i n.entry content there))

replacing_current : (o : Option Numbered) (id : List ℕ) (es : List Entry) (content : Content) (if_match if_none_match : Condition) → entry_with_id (content_kind content) id es ≡ o
    → ShowsCurrent (replacing_entry o es content if_match if_none_match).entries (shown_in (replacing_entry o es content if_match if_none_match).answer)
replacing_current None id es content if_match if_none_match was = none_current es
replacing_current (Some n) id es content if_match if_none_match was =
    let (i, number, there) = with_id (content_kind content) id es n was in writing_current _ _ _ n es content i number there

-- ---- a search

at_take : {X : Type 0} (n : ℕ) (xs : List X) (i : ℕ) (y : X) → slice_get (take n xs) i ≡ Some y → slice_get xs i ≡ Some y
at_take zero xs i y at = absurd (cc)
at_take (suc n) [] i y at = absurd (cc)
at_take (suc n) (x ∷ xs) zero y at = at
at_take (suc n) (x ∷ xs) (suc i) y at = at_take n xs i y at

at_drop : {X : Type 0} (n : ℕ) (xs : List X) (i : ℕ) (y : X) → slice_get (drop n xs) i ≡ Some y → (j : ℕ) × (slice_get xs j ≡ Some y)
at_drop zero xs i y at = (i, at)
at_drop (suc n) [] i y at = absurd (cc)
at_drop (suc n) (x ∷ xs) i y at = let rest = at_drop n xs i y at in (suc rest.0, rest.1)

at_map : {X Y : Type 0} (f : X → Y) (xs : List X) (i : ℕ) (y : Y) → slice_get (map f xs) i ≡ Some y → (x : X) × (slice_get xs i ≡ Some x) × (f x ≡ y)
at_map f [] i y at = absurd (cc)
at_map f (x ∷ xs) zero y at = (x, refl, cc)
at_map f (x ∷ xs) (suc i) y at = at_map f xs i y at

at_cond : {X : Type 0} (b : Bool) (x : X) (xs rest : List X) (i : ℕ) (y : X) → ((k : ℕ) → slice_get rest k ≡ Some y → (j : ℕ) × (slice_get xs j ≡ Some y))
    → slice_get (cond b (x ∷ rest) rest) i ≡ Some y → (j : ℕ) × (slice_get (x ∷ xs) j ≡ Some y)
at_cond true x xs rest zero y later at = (0, at)
at_cond true x xs rest (suc i) y later at = let found = later i at in (suc found.0, found.1)
at_cond false x xs rest i y later at = let found = later i at in (suc found.0, found.1)

at_filter : {X : Type 0} (p : X → Bool) (xs : List X) (i : ℕ) (y : X) → slice_get (filter p xs) i ≡ Some y → (j : ℕ) × (slice_get xs j ≡ Some y)
at_filter p [] i y at = absurd (cc)
at_filter p (x ∷ xs) i y at = at_cond (p x) x xs (filter p xs) i y (λ k. at_filter p xs k y) at

found_current : (kind : Kind) (wanted : Option Expression) (es : List Entry) (first size : ℕ) → ShowsCurrent es (page_from first size (found_entries kind wanted es))
found_current kind wanted es first size i s at =
    let hits : List Numbered = filter (is_entry_hit kind wanted) (numbered_from 1 es) in
    let all = found_entries kind wanted es in
    let (j, in_all) = at_drop (first - 1) all i s (at_take size (drop (first - 1) all) i s at) in
    let (n, in_hits, shows) = at_map (λ n. shown (row_of n.number n.entry)) hits j s in_all in
    let (k, numbered) = at_filter (is_entry_hit kind wanted) (numbered_from 1 es) j n in_hits in
    let (number, there) = at_numbered 1 es k n numbered in
    record { place = k; entry = n.entry; here = there; content = ap (λ (x : ShownRecord). x.content) (sym shows) }

pub answers_show_current : (es : List Entry) (request : Request) → ShowsCurrent (step es request).entries (shown_in (step es request).answer)
answers_show_current es (Create content) = creating_current _ _ es content
answers_show_current es (Retrieve kind id if_match if_none_match) = retrieving_current (entry_with_id kind id es) kind id es if_match if_none_match refl
answers_show_current es (Search kind wanted start count) = found_current kind wanted es (first_place start) (page_size count)
answers_show_current es (Replace id content if_match if_none_match) = replacing_current (entry_with_id (content_kind content) id es) id es content if_match if_none_match refl
