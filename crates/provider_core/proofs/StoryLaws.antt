-- Rows with a version counter answer and change as the table of whole stories does, and stories only grow.
use Rattle.std.proofs.Common.{◌≡◌, ℕ, zero, suc, ◌+◌, ◌-◌, ◌==◌, ◌&&◌, Bool, true, false, List, [], ◌∷◌, ◌++◌, Option, Some, None, map, length, is_some, nat_le, cond, refl, sym, ap, subst, ◌∙◌, arith, rules, tests, length-append}
use Rattle.std.specs.Prelude.{slice_get}
use Rattle.std.specs.List.{find, filter, AllByRecursion}
use Rattle.std.specs.Option.{option_map}
use Rattle.std.specs.Str.{bytes_eq}
use Rattle.std.proofs.lemmas.List.{append-nil}
use Rattle.scim_key.specs.Identifiers.{id_text}
use Rattle.scim_key.specs.declared.records.Kind.{Kind}
use Rattle.scim_key.specs.declared.records.RecordName.{RecordName}
use Rattle.scim_version.specs.Conditions.{holds_match, holds_none_match}
use Rattle.scim_version.specs.declared.conditions.Condition.{Condition}
use Rattle.scim_resource.specs.declared.contents.Content.{Content}
use Rattle.scim_resource.specs.Contents.{content_kind, content_name}
use Rattle.scim_resource.specs.Rows.{StoredRecord, ShownRecord, shown, last_version}
use Rattle.scim_message.specs.declared.messages.Request.{Request}
use Rattle.scim_message.specs.declared.messages.Request.TheVariants.{Create, Retrieve, Search, Replace}
use Rattle.scim_message.specs.declared.messages.Answer.TheVariants as answers
use Rattle.scim_filter.specs.Expressions.{Expression}
use Rattle.provider_core.specs.Rows.{same_kind, same_name, is_named, has_id, row_with_id, resource, with_row}
use Rattle.provider_core.specs.Searches.{is_wanted, is_hit, listing}
use Rattle.provider_core.specs.Outcomes.{Outcome, outcome, creating, reading, retrieving, writing, replacing, next_row, changed_rows, most_resources}
use Rattle.provider_core.specs.Stories.{Entry, story, row_of, rows_from, rows_of, is_entry_of, first_entry, renewed, Numbered, numbered_from, has_entry_id, entry_with_id, is_entry_hit, renew_at, Step, creating_entry, writing_entry, replacing_entry, reading_entry, retrieving_entry, step, IsTable, RowsFollowStories, GoesOn, AllGoOn, StoriesGrow}
use Rattle.provider_core.proofs.RowLaws.{same_name-eq}

-- an outcome on the rows of a table, and a step on the table, that say the same
record Same (es : List Entry) (o : Outcome) (s : Step) : Type 0 where
  answer : o.answer ≡ s.answer
  rows : changed_rows (rows_of es) o.change ≡ rows_of s.entries
  table : IsTable s.entries

-- ---- Create
length-rows_from : (n : ℕ) (es : List Entry) → length (rows_from n es) ≡ length es
length-rows_from n [] = refl
length-rows_from n (e ∷ es) = ap suc (length-rows_from (suc n) es)

rows_from-append : (n m : ℕ) (es : List Entry) (e : Entry) → m ≡ n + length es → rows_from n (es ++ e ∷ []) ≡ rows_from n es ++ row_of m e ∷ []
rows_from-append n m [] e at =
    let same : m ≡ n = omega arith in ap (λ k. row_of k e ∷ []) (sym same)
rows_from-append n m (f ∷ es) e at = ap (λ rest. row_of n f ∷ rest) (rows_from-append (suc n) m es e (omega arith))

AllByRecursion-append : (P : Entry → Type 0) (es : List Entry) (e : Entry) → AllByRecursion P es → P e → AllByRecursion P (es ++ e ∷ [])
AllByRecursion-append P [] e all here = (here, tt)
AllByRecursion-append P (f ∷ es) e all here = (all.0, AllByRecursion-append P es e all.1 here)

either_way : {A B : Type 0} (a b : Bool) (x : A) (y : B) (p : Option A) (q : Option B) → a ≡ b → is_some p ≡ is_some q → is_some (cond a (Some x) p) ≡ is_some (cond b (Some y) q)
either_way true true x y p q test same = refl
either_way true false x y p q test same = absurd (cc)
either_way false true x y p q test same = absurd (cc)
either_way false false x y p q test same = same

-- a name is taken in the rows if it is taken in the table
same_taken : (k : RecordName) (n : ℕ) (es : List Entry) → IsTable es → is_some (find (is_named k) (rows_from n es)) ≡ is_some (find (is_entry_of k) es)
same_taken k n [] table = refl
same_taken k n (e ∷ es) table =
    either_way (is_named k (row_of n e)) (is_entry_of k e) (row_of n e) e _ _ (ap (λ name. same_name k name) table.0) (same_taken k (suc n) es table.1)

create_same : (t : Option StoredRecord) (u : Option Entry) (full : Bool) (es : List Entry) (content : Content)
    → is_some t ≡ is_some u → IsTable es → Same es (creating t full (length (rows_of es)) content) (creating_entry u full es content)
create_same (Some row) (Some e) full es content same table = record { answer = refl; rows = refl; table = table }
create_same (Some row) None full es content same table = absurd (cc)
create_same None (Some e) full es content same table = absurd (cc)
create_same None None true es content same table = record { answer = refl; rows = refl; table = table }
create_same None None false es content same table = rw (length-rows_from 1 es) (record {
  answer = refl;
  rows = sym (rows_from-append 1 (suc (length es)) es (first_entry content) (omega arith));
  table = AllByRecursion-append (λ e. content_name e.held ≡ e.name) es (first_entry content) table refl;
})

-- ---- the entry of an id

abbrev row_at : Numbered → StoredRecord
row_at n = row_of n.number n.entry

mapped-cond : (b : Bool) (n : Numbered) (rows : Option StoredRecord) (entries : Option Numbered) → rows ≡ option_map row_at entries
    → cond b (Some (row_at n)) rows ≡ option_map row_at (cond b (Some n) entries)
mapped-cond true n rows entries same = refl
mapped-cond false n rows entries same = same

abbrev found_in : List ℕ → ℕ → List Entry → Option Numbered
found_in id k es = find (has_entry_id id) (numbered_from k es)

found-rows : (id : List ℕ) (k : ℕ) (es : List Entry) → find (has_id id) (rows_from k es) ≡ option_map row_at (found_in id k es)
found-rows id k [] = refl
found-rows id k (e ∷ es) = mapped-cond (bytes_eq id (id_text k)) (record { number = k; entry = e }) _ _ (found-rows id (suc k) es)

-- an entry that is found is at the place of its number
found-place : (p : Numbered → Bool) (k : ℕ) (es : List Entry) (n : Numbered) → find p (numbered_from k es) ≡ Some n → (i : ℕ) × (n.number ≡ k + i) × (slice_get es i ≡ Some n.entry)
found-place p k [] n found = absurd (cc)
found-place p k (e ∷ es) n found = here (p (record { number = k; entry = e })) (found-place p (suc k) es n) found
  where
    here : (b : Bool) → (find p (numbered_from (suc k) es) ≡ Some n → (i : ℕ) × (n.number ≡ suc k + i) × (slice_get es i ≡ Some n.entry))
        → cond b (Some (record { number = k; entry = e })) (find p (numbered_from (suc k) es)) ≡ Some n → (i : ℕ) × (n.number ≡ k + i) × (slice_get (e ∷ es) i ≡ Some n.entry)
    here true ih was =
        let first : Numbered = record { number = k; entry = e } in
        let same : first ≡ n = cc in
        (0, omega (arith, ap (λ m. m.number) same), ap (λ m. Some m.entry) same)
    here false ih was = let rest = ih was in (suc rest.0, omega (arith, rest.1), rest.2)

named-at : (es : List Entry) (i : ℕ) (e : Entry) → IsTable es → slice_get es i ≡ Some e → content_name e.held ≡ e.name
named-at [] i e table there = absurd (cc)
named-at (f ∷ es) zero e table there =
    let same : f ≡ e = cc in
    let P : Entry → Type 0 = λ x. content_name x.held ≡ x.name in
    subst P same table.0
named-at (f ∷ es) (suc i) e table there = named-at es i e table.1 there

-- what is known about an entry that a request is about
record Spoken (es : List Entry) (n : Numbered) : Type 0 where
  place : ℕ
  number : n.number ≡ 1 + place
  there : slice_get es place ≡ Some n.entry
  named : content_name n.entry.held ≡ n.entry.name

spoken : (id : List ℕ) (es : List Entry) (n : Numbered) → IsTable es → found_in id 1 es ≡ Some n → Spoken es n
spoken id es n table found =
    let at = found-place (has_entry_id id) 1 es n found in
    record { place = at.0; number = at.1; there = at.2; named = named-at es at.0 n.entry table at.2 }

-- the row of a type and an id is that of the entry
record Meets (es : List Entry) (row : Option StoredRecord) (entry : Option Numbered) : Type 0 where
  same : row ≡ option_map row_at entry
  spoken_of : (n : Numbered) → entry ≡ Some n → Spoken es n

kind-meets : (b : Bool) (n : Numbered) (es : List Entry) → Spoken es n → Meets es (cond b (Some (row_at n)) None) (cond b (Some n) None)
kind-meets true n es known = record {
  same = refl;
  spoken_of = λ m is. let same : n ≡ m = cc in let P : Numbered → Type 0 = λ x. Spoken es x in subst P same known;
}
kind-meets false n es known = record { same = refl; spoken_of = λ m is. absurd (cc) }

resource-meets : (kind : Kind) (id : List ℕ) (es : List Entry) → IsTable es → Meets es (resource kind id (rows_of es)) (entry_with_id kind id es)
resource-meets kind id es table = here (found_in id 1 es) refl
  where
    here : (o : Option Numbered) → found_in id 1 es ≡ o → Meets es (resource kind id (rows_of es)) (entry_with_id kind id es)
    here None was =
        let row : row_with_id id (rows_of es) ≡ None = found-rows id 1 es ∙ ap (option_map row_at) was in
        rw (row, was) (record { same = refl; spoken_of = λ m is. absurd (cc) })
    here (Some n) was =
        let row : row_with_id id (rows_of es) ≡ Some (row_at n) = found-rows id 1 es ∙ ap (option_map row_at) was in
        let known = spoken id es n table was in
        let kinds : content_kind n.entry.held ≡ n.entry.name.kind = ap (λ name. name.kind) known.named in
        rw (row, was, kinds) (kind-meets (same_kind kind n.entry.name.kind) n es known)

-- ---- Retrieve

counted : (e : Entry) → suc (length e.earlier) ≡ length (story e)
counted e = omega (arith, length-append e.earlier (e.held ∷ []))

reading_same : (matches fresh : Bool) (n : Numbered) (es : List Entry) → Spoken es n → IsTable es → Same es (reading matches fresh (row_at n)) (reading_entry matches fresh n es)
reading_same false fresh n es known table = record { answer = refl; rows = refl; table = table }
reading_same true false n es known table =
    let kinds : content_kind n.entry.held ≡ n.entry.name.kind = ap (λ name. name.kind) known.named in
    record { answer = rw (kinds, counted n.entry) refl; rows = refl; table = table }
reading_same true true n es known table = record { answer = refl; rows = refl; table = table }

retrieve_same : (row : Option StoredRecord) (entry : Option Numbered) (es : List Entry) (if_match if_none_match : Condition)
    → Meets es row entry → IsTable es → Same es (retrieving row if_match if_none_match) (retrieving_entry entry es if_match if_none_match)
retrieve_same row None es if_match if_none_match meets table = rw meets.same (record { answer = refl; rows = refl; table = table })
retrieve_same row (Some n) es if_match if_none_match meets table =
    let P : ℕ → Type 0 = λ v. Same es (retrieving (Some (row_at n)) if_match if_none_match) (reading_entry (holds_match if_match (Some v)) (holds_none_match if_none_match (Some v)) n es) in
    rw meets.same (subst P (counted n.entry) (reading_same _ _ n es (meets.spoken_of n refl) table))

-- ---- Search

abbrev shown_at : Numbered → ShownRecord
shown_at n = shown (row_at n)

kept-both : (a b : Bool) (n : Numbered) (rows : List StoredRecord) (entries : List Numbered) → a ≡ b → map shown rows ≡ map shown_at entries
    → map shown (cond a (row_at n ∷ rows) rows) ≡ map shown_at (cond b (n ∷ entries) entries)
kept-both true true n rows entries test same = ap (λ rest. shown_at n ∷ rest) same
kept-both true false n rows entries test same = absurd (cc)
kept-both false true n rows entries test same = absurd (cc)
kept-both false false n rows entries test same = same

-- a filter finds the same in the rows and in the table
found-same : (kind : Kind) (wanted : Option Expression) (k : ℕ) (es : List Entry) → IsTable es
    → map shown (filter (is_hit kind wanted) (rows_from k es)) ≡ map shown_at (filter (is_entry_hit kind wanted) (numbered_from k es))
found-same kind wanted k [] table = refl
found-same kind wanted k (e ∷ es) table =
    let kinds : content_kind e.held ≡ e.name.kind = ap (λ name. name.kind) table.0 in
    kept-both (is_hit kind wanted (row_of k e)) (is_entry_hit kind wanted (record { number = k; entry = e })) (record { number = k; entry = e }) _ _
    (ap (λ other. same_kind kind other && is_wanted wanted (row_of k e)) kinds) (found-same kind wanted (suc k) es table.1)

-- ---- Replace

renewed-row : (k number : ℕ) (e f : Entry) (content : Content) → number ≡ k → f ≡ e → next_row (row_of number e) content ≡ row_of k (renewed f content)
renewed-row k number e f content at same = rw (at, same) (rw (counted e) refl)

renew-rows : (k number place : ℕ) (es : List Entry) (e : Entry) (content : Content) → number ≡ k + place → slice_get es place ≡ Some e
    → with_row (next_row (row_of number e) content) (rows_from k es) ≡ rows_from k (renew_at place content es)
renew-rows k number place [] e content at there = absurd (cc)
renew-rows k number zero (f ∷ es) e content at there =
    let same : f ≡ e = cc in
    let tested : (k == number) ≡ true = search (rules, tests) in
    rw tested (ap (λ row. row ∷ rows_from (suc k) es) (renewed-row k number e f content (omega arith) same))
renew-rows k number (suc place) (f ∷ es) e content at there =
    let tested : (k == number) ≡ false = search (rules, tests) in
    rw tested (ap (λ rows. row_of k f ∷ rows) (renew-rows (suc k) number place es e content (omega arith) there))

table-renew : (place : ℕ) (es : List Entry) (e : Entry) (content : Content) → IsTable es → slice_get es place ≡ Some e → e.name ≡ content_name content → IsTable (renew_at place content es)
table-renew place [] e content table there named = absurd (cc)
table-renew zero (f ∷ es) e content table there named =
    let same : f ≡ e = cc in
    (sym (ap (λ x. x.name) same ∙ named), table.1)
table-renew (suc place) (f ∷ es) e content table there named = (table.0, table-renew place es e content table.1 there named)

writing_same : (keeps_name at_last holds : Bool) (n : Numbered) (es : List Entry) (content : Content) → Spoken es n → IsTable es → (keeps_name ≡ true → n.entry.name ≡ content_name content)
    → Same es (writing keeps_name at_last holds (row_at n) content) (writing_entry keeps_name at_last holds n es content)
writing_same false at_last holds n es content known table named = record { answer = refl; rows = refl; table = table }
writing_same true true holds n es content known table named = record { answer = refl; rows = refl; table = table }
writing_same true false false n es content known table named = record { answer = refl; rows = refl; table = table }
writing_same true false true n es content known table named =
    let at : n.number - 1 ≡ known.place = omega (arith, known.number) in
    record {
      answer = rw (counted n.entry) refl;
      rows = rw at (renew-rows 1 n.number known.place es n.entry content known.number known.there);
      table = rw at (table-renew known.place es n.entry content table known.there (named refl));
    }

replace_same : (row : Option StoredRecord) (entry : Option Numbered) (es : List Entry) (content : Content) (if_match if_none_match : Condition)
    → Meets es row entry → IsTable es → Same es (replacing row content if_match if_none_match) (replacing_entry entry es content if_match if_none_match)
replace_same row None es content if_match if_none_match meets table = rw meets.same (record { answer = refl; rows = refl; table = table })
replace_same row (Some n) es content if_match if_none_match meets table =
    let known = meets.spoken_of n refl in
    let held = content_name n.entry.held in
    let Q : RecordName → ℕ → Type 0 = λ name v. Same es (replacing (Some (row_at n)) content if_match if_none_match)
    (writing_entry (same_name name (content_name content)) (nat_le last_version v) (holds_match if_match (Some v) && holds_none_match if_none_match (Some v)) n es content) in
    let here : Q held (suc (length n.entry.earlier)) =
    writing_same _ _ _ n es content known table (λ same. sym known.named ∙ same_name-eq held (content_name content) same) in
    let counts : Q held (length (story n.entry)) = subst (λ (v : ℕ). Q held v) (counted n.entry) here in
    rw meets.same (subst (λ (name : RecordName). Q name (length (story n.entry))) known.named counts)

-- ---- the law

same : (es : List Entry) (request : Request) → IsTable es → Same es (outcome (rows_of es) request) (step es request)
same es (Create content) table =
    let P : ℕ → Type 0 = λ count. Same es (outcome (rows_of es) (Create content)) (creating_entry (find (is_entry_of (content_name content)) es) (nat_le most_resources count) es content) in
    subst P (length-rows_from 1 es) (create_same _ _ (nat_le most_resources (length (rows_of es))) es content (same_taken (content_name content) 1 es table) table)
same es (Retrieve kind id if_match if_none_match) table = retrieve_same _ _ es if_match if_none_match (resource-meets kind id es table) table
same es (Search kind wanted start count) table =
    record { answer = ap (λ resources. answers.List (listing start count resources)) (found-same kind wanted 1 es table); rows = refl; table = table }
same es (Replace id content if_match if_none_match) table = replace_same _ _ es content if_match if_none_match (resource-meets (content_kind content) id es table) table

pub rows_follow_stories : RowsFollowStories
rows_follow_stories es request table = let s = same es request table in record { answer = s.answer; rows = s.rows; table = s.table }

-- ---- stories only grow

goes-on : (e : Entry) → GoesOn e e
goes-on e = record { name = refl; more = []; story = sym (append-nil (story e)) }

all-stay : (es : List Entry) → AllGoOn es es
all-stay [] = tt
all-stay (e ∷ es) = (goes-on e, all-stay es)

all-append : (es : List Entry) (e : Entry) → AllGoOn es (es ++ e ∷ [])
all-append [] e = tt
all-append (f ∷ es) e = (goes-on f, all-append es e)

all-renew : (place : ℕ) (content : Content) (es : List Entry) → AllGoOn es (renew_at place content es)
all-renew place content [] = tt
all-renew zero content (e ∷ es) = (record { name = refl; more = content ∷ []; story = refl }, all-stay es)
all-renew (suc place) content (e ∷ es) = (goes-on e, all-renew place content es)

creating_grows : (taken : Option Entry) (full : Bool) (es : List Entry) (content : Content) → AllGoOn es (creating_entry taken full es content).entries
creating_grows (Some e) full es content = all-stay es
creating_grows None true es content = all-stay es
creating_grows None false es content = all-append es (first_entry content)

reading_grows : (matches fresh : Bool) (n : Numbered) (es : List Entry) → AllGoOn es (reading_entry matches fresh n es).entries
reading_grows false fresh n es = all-stay es
reading_grows true false n es = all-stay es
reading_grows true true n es = all-stay es

retrieving_grows : (entry : Option Numbered) (es : List Entry) (if_match if_none_match : Condition) → AllGoOn es (retrieving_entry entry es if_match if_none_match).entries
retrieving_grows None es if_match if_none_match = all-stay es
retrieving_grows (Some n) es if_match if_none_match = reading_grows _ _ n es

writing_grows : (keeps_name at_last holds : Bool) (n : Numbered) (es : List Entry) (content : Content) → AllGoOn es (writing_entry keeps_name at_last holds n es content).entries
writing_grows false at_last holds n es content = all-stay es
writing_grows true true holds n es content = all-stay es
writing_grows true false false n es content = all-stay es
writing_grows true false true n es content = all-renew (n.number - 1) content es

replacing_grows : (entry : Option Numbered) (es : List Entry) (content : Content) (if_match if_none_match : Condition) → AllGoOn es (replacing_entry entry es content if_match if_none_match).entries
replacing_grows None es content if_match if_none_match = all-stay es
replacing_grows (Some n) es content if_match if_none_match = writing_grows _ _ _ n es content

pub stories_only_grow : StoriesGrow
stories_only_grow es (Create content) = creating_grows _ _ es content
stories_only_grow es (Retrieve kind id if_match if_none_match) = retrieving_grows _ es if_match if_none_match
stories_only_grow es (Search kind wanted start count) = all-stay es
stories_only_grow es (Replace id content if_match if_none_match) = replacing_grows _ es content if_match if_none_match
