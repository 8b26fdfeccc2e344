-- What the numbers and the index of a registry in memory say about its rows.
use Rattle.std.proofs.Common.{◌≡◌, ◌≢◌, ◌==◌, ℕ, zero, suc, ◌+◌, ◌-◌, ◌<◌, ◌≤◌, Bool, true, false, ◌&&◌, ◌||◌, List, [], ◌∷◌, ◌++◌, Option, Some, None, length, cond, drop, take, nat_lt, refl, sym, ap, subst, ◌∙◌, arith, rules, tests, length-append, inl, inr, ◌⊎◌}
use Rattle.std.specs.Prelude.{slice_get, slice_set}
use Rattle.std.specs.List.{find, filter, list_any, IsDistinct}
use Rattle.std.specs.Option.{option_map, option_or}
use Rattle.std.specs.Ordering.{is_eq}
use Rattle.std.specs.Str.{bytes_eq}
use Rattle.std.proofs.Math.ListN.{length-set}
use Rattle.std.specs.BTreeMap.{BTreeMap, get, Updates}
use Rattle.std.proofs.lemmas.Bool.{cases_eq, cases_lt, false_from_ne_true}
use Rattle.std.proofs.lemmas.List.{drop_all}
use Rattle.std.proofs.lemmas.Option.{slice_get_within}
use Rattle.std.proofs.lemmas.List.Folds.{find-append}
use Rattle.std.proofs.lemmas.Map.Keys.{IsDistinct-push}
use Rattle.std.proofs.lemmas.Map.Text.{is_eq-slice_cmp}
use Rattle.std.proofs.lemmas.Slice.Eq.{bytes_eq-Decides}
use Rattle.scim_key.proofs.IdLemmas.{ids_differ}
use Rattle.scim_key.specs.Identifiers.{id_text, last_number}
use Rattle.scim_key.specs.declared.records.Kind.{Kind}
use Rattle.scim_key.specs.declared.records.Kind.TheVariants.{User, Group}
use Rattle.scim_key.specs.declared.records.RecordName.{RecordName}
use Rattle.scim_resource.specs.Contents.{content_name}
use Rattle.scim_resource.specs.Rows.{StoredRecord}
use Rattle.provider_core.specs.Rows.{same_name, is_named, row_named, row_with_id, is_after, page_after, has_number, row_numbered, with_row, same_kind, IsNumberedFrom, names_of, AreNamedApart}
use Rattle.provider_core.specs.Stores.{HoldsNumber}
use Rattle.provider_core.proofs.RowLaws.{same_name-eq, same_name-sym, same_name-equivalence, numbers_same, find-passes}
use Rattle.provider_core.specs.Memory.{name_cmp, IsIndexed}

-- ---- names

is_eq-parts : (k l : Kind) (x y : List ℕ) → is_eq (name_cmp (record { kind = k; key = x }) (record { kind = l; key = y })) ≡ (same_kind k l && bytes_eq x y)
is_eq-parts User User x y = is_eq-slice_cmp x y
is_eq-parts User Group x y = refl
is_eq-parts Group User x y = refl
is_eq-parts Group Group x y = is_eq-slice_cmp x y

is_eq-name_cmp : (a b : RecordName) → is_eq (name_cmp a b) ≡ same_name a b
is_eq-name_cmp a b = is_eq-parts a.kind b.kind a.key b.key

-- ---- rows by number

-- the row that a search finds is at the place of its number
pub found-at : (p : StoredRecord → Bool) (n : ℕ) (rows : List StoredRecord) (row : StoredRecord) → IsNumberedFrom n rows → find p rows ≡ Some row → (n ≤ row.number) × (slice_get rows (row.number - n) ≡ Some row)
found-at p n [] row numbered found = absurd (cc)
found-at p n (r ∷ rs) row numbered found = here (p r) (λ later. found-at p (suc n) rs row numbered.1 later) found
  where
    here : (b : Bool) → (find p rs ≡ Some row → (suc n ≤ row.number) × (slice_get rs (row.number - suc n) ≡ Some row)) → cond b (Some r) (find p rs) ≡ Some row → (n ≤ row.number) × (slice_get (r ∷ rs) (row.number - n) ≡ Some row)
    here true ih was =
        let same : r ≡ row = cc in
        let at : row.number ≡ n = ap (λ x. x.number) (sym same) ∙ numbered.0 in
        let first : row.number - n ≡ 0 = omega arith in
        (omega arith, rw first (ap Some same))
    here false ih was =
        let rest = ih was in
        let next : row.number - n ≡ suc (row.number - suc n) = omega (arith, rest.0) in
        (omega (arith, rest.0), rw next rest.1)

-- a number that no row has, by a test of numbers
none-found : (test : ℕ → Bool) (n : ℕ) (rows : List StoredRecord) → IsNumberedFrom n rows → ((k : ℕ) → n ≤ k → k < n + length rows → test k ≡ false) → find (λ row. test row.number) rows ≡ None
none-found test n [] numbered fails = refl
none-found test n (r ∷ rs) numbered fails =
    let here : test r.number ≡ false = rw numbered.0 (fails n (omega arith) (omega arith)) in
    rw here (none-found test (suc n) rs numbered.1 (λ k low high. fails k (omega arith) (omega arith)))

-- the row of the only number that passes
one-found : (test : ℕ → Bool) (m n : ℕ) (rows : List StoredRecord) → IsNumberedFrom n rows → n ≤ m → test m ≡ true
    → ((k : ℕ) → n ≤ k → k < n + length rows → k ≢ m → test k ≡ false) → find (λ row. test row.number) rows ≡ slice_get rows (m - n)
one-found test m n [] numbered low passes fails = refl
one-found test m n (r ∷ rs) numbered low passes fails =
    here (cases_eq n m) (λ above. one-found test m (suc n) rs numbered.1 above passes (λ k from to apart. fails k (omega arith) (omega arith) apart))
  where
    here : (n ≡ m) ⊎ (n ≢ m) → (suc n ≤ m → find (λ row. test row.number) rs ≡ slice_get rs (m - suc n)) → find (λ row. test row.number) (r ∷ rs) ≡ slice_get (r ∷ rs) (m - n)
    here (inl same) ih =
        let tested : test r.number ≡ true = rw numbered.0 (rw same passes) in
        let first : m - n ≡ 0 = omega arith in
        rw (tested, first) refl
    here (inr apart) ih =
        let tested : test r.number ≡ false = rw numbered.0 (fails n (omega arith) (omega arith) apart) in
        let next : m - n ≡ suc (m - suc n) = omega arith in
        rw (tested, next) (ih (omega arith))

-- the rows with a number above `after` are those after the first `after`
after-dropped : (after n : ℕ) (rows : List StoredRecord) → IsNumberedFrom n rows → filter (is_after after) rows ≡ drop (suc after - n) rows
after-dropped after n [] numbered = sym (drop_all (suc after - n) [] (omega arith))
after-dropped after n (r ∷ rs) numbered = here (cases_lt after n) (after-dropped after (suc n) rs numbered.1)
  where
    here : (after < n) ⊎ (n ≤ after) → filter (is_after after) rs ≡ drop (suc after - suc n) rs → filter (is_after after) (r ∷ rs) ≡ drop (suc after - n) (r ∷ rs)
    here (inl above) ih =
        let tested : nat_lt after r.number ≡ true = rw numbered.0 (search (rules, tests)) in
        let none : suc after - n ≡ 0 = omega arith in
        let none' : suc after - suc n ≡ 0 = omega arith in
        rw (tested, none) (ap (λ xs. r ∷ xs) (rw none' at ih))
    here (inr below) ih =
        let tested : nat_lt after r.number ≡ false = rw numbered.0 (search (rules, tests)) in
        let next : suc after - n ≡ suc (suc after - suc n) = omega arith in
        rw (tested, next) ih

pub page-dropped : (after limit : ℕ) (rows : List StoredRecord) → IsNumberedFrom 1 rows → take limit (drop after rows) ≡ page_after after limit rows
page-dropped after limit rows numbered =
    let all : suc after - 1 ≡ after = omega arith in
    let e : filter (is_after after) rows ≡ drop after rows = rw all at (after-dropped after 1 rows numbered) in
    ap (take limit) (sym e)

-- ---- rows by id

passes-id : (m : ℕ) → bytes_eq (id_text m) (id_text m) ≡ true
passes-id m = (bytes_eq-Decides (id_text m) (id_text m)).1 refl

-- the row with the id of a number is at its place
pub id-at : (id : List ℕ) (m : ℕ) (rows : List StoredRecord) → length rows ≤ last_number → IsNumberedFrom 1 rows → 1 ≤ m → m ≤ last_number → id ≡ id_text m → slice_get rows (m - 1) ≡ row_with_id id rows
id-at id m rows within numbered low high is =
    rw is (sym (one-found (λ k. bytes_eq (id_text m) (id_text k)) m 1 rows numbered low (passes-id m)
    (λ k from to apart. false_from_ne_true _ (λ passed. apart (sym (ids_differ m k high (omega arith) ((bytes_eq-Decides (id_text m) (id_text k)).0 passed)))))))

pub id-none : (id : List ℕ) (rows : List StoredRecord) → length rows ≤ last_number → IsNumberedFrom 1 rows → ((n : ℕ) → 1 ≤ n → n ≤ last_number → id ≢ id_text n) → None ≡ row_with_id id rows
id-none id rows within numbered none =
    sym (none-found (λ k. bytes_eq id (id_text k)) 1 rows numbered (λ k from to. false_from_ne_true _ (λ passed. none k from (omega arith) ((bytes_eq-Decides id (id_text k)).0 passed))))

-- ---- rows by name

abbrev number_of : Option StoredRecord → Option ℕ
number_of row = option_map (λ r. r.number) row

-- the index leads to the row of a name, or says that there is none
pub name-at : (numbers : BTreeMap RecordName ℕ) (rows : List StoredRecord) (name : RecordName) (k : ℕ) → IsIndexed numbers rows → get name_cmp numbers name ≡ Some k → (0 < k) × (slice_get rows (k - 1) ≡ row_named name rows)
name-at numbers rows name k indexed gets = here (row_named name rows) refl (sym (indexed.found name) ∙ gets)
  where
    here : (found : Option StoredRecord) → row_named name rows ≡ found → number_of found ≡ Some k → (0 < k) × (slice_get rows (k - 1) ≡ row_named name rows)
    here None was is = absurd (cc)
    here (Some row) was is =
        let at = found-at (is_named name) 1 rows row indexed.numbered was in
        let same : row.number ≡ k = cc in
        (omega (arith, at.0), ap (λ j. slice_get rows (j - 1)) (sym same) ∙ at.1 ∙ sym was)

pub name-none : (numbers : BTreeMap RecordName ℕ) (rows : List StoredRecord) (name : RecordName) → IsIndexed numbers rows → get name_cmp numbers name ≡ None → None ≡ row_named name rows
name-none numbers rows name indexed gets = here (row_named name rows) (sym (indexed.found name) ∙ gets)
  where
    here : (found : Option StoredRecord) → number_of found ≡ None → None ≡ found
    here None is = refl
    here (Some row) is = absurd (cc)

-- ---- rows of distinct records

pub apart-none : AreNamedApart []
unfolding IsDistinct
apart-none = tt

names-append : (rows : List StoredRecord) (row : StoredRecord) → names_of (rows ++ row ∷ []) ≡ names_of rows ++ content_name row.content ∷ []
names-append [] row = refl
names-append (r ∷ rs) row = ap (λ names. content_name r.content ∷ names) (names-append rs row)

free-name : (name : RecordName) (rows : List StoredRecord) → row_named name rows ≡ None → list_any (same_name name) (names_of rows) ≡ false
free-name name [] free = refl
free-name name (r ∷ rs) free = here (is_named name r) (free-name name rs) free
  where
    here : (b : Bool) → (row_named name rs ≡ None → list_any (same_name name) (names_of rs) ≡ false) → cond b (Some r) (row_named name rs) ≡ None → (b || list_any (same_name name) (names_of rs)) ≡ false
    here true ih was = absurd (cc)
    here false ih was = ih was

apart-append : (rows : List StoredRecord) (row : StoredRecord) → AreNamedApart rows → row_named (content_name row.content) rows ≡ None → AreNamedApart (rows ++ row ∷ [])
apart-append rows row apart free =
    subst (λ (names : List RecordName). IsDistinct same_name names) (sym (names-append rows row))
    (IsDistinct-push same_name-equivalence (names_of rows) (content_name row.content) apart (free-name (content_name row.content) rows free))

names-set : (rows : List StoredRecord) (i : ℕ) (held row : StoredRecord) → slice_get rows i ≡ Some held → content_name held.content ≡ content_name row.content → names_of (slice_set rows i row) ≡ names_of rows
names-set [] i held row there same = refl
names-set (r ∷ rs) zero held row there same =
    let e : r ≡ held = cc in
    ap (λ name. name ∷ names_of rs) (sym same ∙ ap (λ x. content_name x.content) (sym e))
names-set (r ∷ rs) (suc i) held row there same = ap (λ names. content_name r.content ∷ names) (names-set rs i held row there same)

apart-set : (rows : List StoredRecord) (i : ℕ) (held row : StoredRecord) → AreNamedApart rows → slice_get rows i ≡ Some held → content_name held.content ≡ content_name row.content → AreNamedApart (slice_set rows i row)
apart-set rows i held row apart there same =
    subst (λ (names : List RecordName). IsDistinct same_name names) (sym (names-set rows i held row there same)) apart

-- ---- a row joins

numbered-append : (n : ℕ) (rows : List StoredRecord) (row : StoredRecord) → IsNumberedFrom n rows → row.number ≡ n + length rows → IsNumberedFrom n (rows ++ row ∷ [])
numbered-append n [] row numbered at = (omega arith, tt)
numbered-append n (r ∷ rs) row numbered at = (numbered.0, numbered-append (suc n) rs row numbered.1 (omega arith))

joined-cases : (b c : Bool) (o : Option StoredRecord) (row : StoredRecord) → c ≡ b → (b ≡ true → o ≡ None)
    → number_of (option_or o (cond c (Some row) None)) ≡ cond b (Some row.number) (number_of o)
joined-cases true true None row same free = refl
joined-cases true true (Some r) row same free = absurd (let e = free refl in cc)
joined-cases true false o row same free = absurd (cc)
joined-cases false true o row same free = absurd (cc)
joined-cases false false None row same free = refl
joined-cases false false (Some r) row same free = refl

name-append : (rows : List StoredRecord) (row : StoredRecord) (q : RecordName) → row_named (content_name row.content) rows ≡ None
    → number_of (row_named q (rows ++ row ∷ [])) ≡ cond (same_name (content_name row.content) q) (Some row.number) (number_of (row_named q rows))
name-append rows row q free =
    let name = content_name row.content in
    rw (find-append (is_named q) rows (row ∷ []))
    (joined-cases (same_name name q) (same_name q name) (row_named q rows) row (same_name-sym q name)
    (λ same. rw (same_name-eq name q same) at free))

pub indexed-insert : (numbers new : BTreeMap RecordName ℕ) (rows : List StoredRecord) (row : StoredRecord) → IsIndexed numbers rows
    → row.number ≡ length rows + 1 → row.number ≤ last_number → row_named (content_name row.content) rows ≡ None
    → Updates name_cmp numbers new (content_name row.content) (Some row.number) → IsIndexed new (rows ++ row ∷ [])
indexed-insert numbers new rows row indexed next within free updates = record {
  within = omega (arith, length-append rows (row ∷ []));
  numbered = numbered-append 1 rows row indexed.numbered (omega arith);
  apart = apart-append rows row indexed.apart free;
  found = λ q. updates.0 q ∙ ap (λ b. cond b (Some row.number) (get name_cmp numbers q)) (is_eq-name_cmp (content_name row.content) q) ∙ rw (indexed.found q) (sym (name-append rows row q free));
}

-- the same, of what the calls of an insertion give
pub indexed-calls : (numbers new : BTreeMap RecordName ℕ) (rows shown_rows reserved pushed : List StoredRecord) (row : StoredRecord) (name : RecordName) (number : ℕ)
    → IsIndexed numbers rows → rows ≡ shown_rows → row.number ≡ length shown_rows + 1 → row_named (content_name row.content) shown_rows ≡ None
    → number ≡ row.number → number ≤ last_number → name ≡ content_name row.content → Updates name_cmp numbers new name (Some number)
    → reserved ≡ rows → pushed ≡ reserved ++ row ∷ [] → IsIndexed new pushed
indexed-calls numbers new rows shown_rows reserved pushed row name number indexed shows next free is within named updates stays items =
    let P : RecordName → Type 0 = λ n. Updates name_cmp numbers new n (Some row.number) in
    let Q : ℕ → Type 0 = λ n. Updates name_cmp numbers new name (Some n) in
    rw (items, stays)
    (indexed-insert numbers new rows row indexed (next ∙ ap (λ rs. length rs + 1) (sym shows)) (omega arith)
    (ap (λ rs. row_named (content_name row.content) rs) shows ∙ free) (subst P named (subst Q is updates)))

-- ---- a row is replaced

numbered-set : (n : ℕ) (rows : List StoredRecord) (i : ℕ) (held row : StoredRecord) → IsNumberedFrom n rows → slice_get rows i ≡ Some held → held.number ≡ row.number → IsNumberedFrom n (slice_set rows i row)
numbered-set n [] i held row numbered there same = tt
numbered-set n (r ∷ rs) zero held row numbered there same =
    let e : r ≡ held = cc in
    (sym same ∙ ap (λ x. x.number) (sym e) ∙ numbered.0, numbered.1)
numbered-set n (r ∷ rs) (suc i) held row numbered there same = (numbered.0, numbered-set (suc n) rs i held row numbered.1 there same)

set-here : (b c : Bool) (held row : StoredRecord) (o : Option StoredRecord) → b ≡ c → held.number ≡ row.number → number_of (cond b (Some row) o) ≡ number_of (cond c (Some held) o)
set-here true true held row o same number = ap Some (sym number)
set-here true false held row o same number = absurd (cc)
set-here false true held row o same number = absurd (cc)
set-here false false held row o same number = refl

set-later : (b : Bool) (r : StoredRecord) (o p : Option StoredRecord) → number_of o ≡ number_of p → number_of (cond b (Some r) o) ≡ number_of (cond b (Some r) p)
set-later true r o p same = refl
set-later false r o p same = same

name-set : (p : StoredRecord → Bool) (rows : List StoredRecord) (i : ℕ) (held row : StoredRecord) → slice_get rows i ≡ Some held → p row ≡ p held → held.number ≡ row.number
    → number_of (find p (slice_set rows i row)) ≡ number_of (find p rows)
name-set p [] i held row there same number = refl
name-set p (r ∷ rs) zero held row there same number =
    let e : r ≡ held = cc in
    rw e (set-here (p row) (p held) held row (find p rs) same number)
name-set p (r ∷ rs) (suc i) held row there same number = set-later (p r) r _ _ (name-set p rs i held row there same number)

-- a row with a number that is there takes the place of that number
with_row-set : (n : ℕ) (rows : List StoredRecord) (row : StoredRecord) → IsNumberedFrom n rows → n ≤ row.number → with_row row rows ≡ slice_set rows (row.number - n) row
with_row-set n [] row numbered low = refl
with_row-set n (r ∷ rs) row numbered low = here (cases_eq n row.number) (with_row-set (suc n) rs row numbered.1)
  where
    here : (n ≡ row.number) ⊎ (n ≢ row.number) → (suc n ≤ row.number → with_row row rs ≡ slice_set rs (row.number - suc n) row) → with_row row (r ∷ rs) ≡ slice_set (r ∷ rs) (row.number - n) row
    here (inl same) ih =
        let tested : (r.number == row.number) ≡ true = rw numbered.0 (search (rules, tests)) in
        let first : row.number - n ≡ 0 = omega arith in
        rw (tested, first) refl
    here (inr apart) ih =
        let tested : (r.number == row.number) ≡ false = rw numbered.0 (search (rules, tests)) in
        let next : row.number - n ≡ suc (row.number - suc n) = omega arith in
        rw (tested, next) (ap (λ xs. r ∷ xs) (ih (omega arith)))

-- the row that an update replaces
held-at : (rows : List StoredRecord) (row : StoredRecord) (held : StoredRecord) → IsNumberedFrom 1 rows → row_numbered row.number rows ≡ Some held
    → (held.number ≡ row.number) × (1 ≤ row.number) × (slice_get rows (row.number - 1) ≡ Some held)
held-at rows row held numbered there =
    let same = numbers_same held.number row.number (find-passes (has_number row.number) rows held there) in
    let at = found-at (has_number row.number) 1 rows held numbered there in
    (same, omega (arith, at.0), ap (λ n. slice_get rows (n - 1)) (sym same) ∙ at.1)

pub update-within : (rows : List StoredRecord) (row : StoredRecord) → IsNumberedFrom 1 rows → HoldsNumber rows row → row.number - 1 < length rows
update-within rows row numbered holds = slice_get_within rows (row.number - 1) holds.held (held-at rows row holds.held numbered holds.there).2

pub update-sets : (rows : List StoredRecord) (row : StoredRecord) → IsNumberedFrom 1 rows → HoldsNumber rows row → slice_set rows (row.number - 1) row ≡ with_row row rows
update-sets rows row numbered holds = sym (with_row-set 1 rows row numbered (held-at rows row holds.held numbered holds.there).1)

pub indexed-update : (numbers : BTreeMap RecordName ℕ) (rows : List StoredRecord) (row : StoredRecord) → IsIndexed numbers rows → HoldsNumber rows row → IsIndexed numbers (slice_set rows (row.number - 1) row)
indexed-update numbers rows row indexed holds =
    let at = held-at rows row holds.held indexed.numbered holds.there in
    record {
      within = rw (length-set rows (row.number - 1) row) indexed.within;
      numbered = numbered-set 1 rows (row.number - 1) holds.held row indexed.numbered at.2 at.0;
      apart = apart-set rows (row.number - 1) holds.held row indexed.apart at.2 holds.name;
      found = λ q. indexed.found q ∙ sym (name-set (is_named q) rows (row.number - 1) holds.held row at.2 (ap (λ name. same_name q name) (sym holds.name)) at.0);
    }
