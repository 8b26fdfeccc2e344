-- The places of rows, and what a list without a filter shows by them.
use Rattle.std.proofs.Common.{◌≡◌, ℕ, zero, suc, ◌+◌, ◌-◌, ◌<◌, ◌≤◌, Bool, true, false, ◌&&◌, cond, List, [], ◌∷◌, ◌++◌, length, take, drop, refl, sym, ap, subst, ◌∙◌, arith, length-append}
use Rattle.std.specs.Prelude.{Option, Some, None, ℤ, pos, negsuc, map, slice_index}
use Rattle.std.specs.List.{filter, range_with_len}
use Rattle.std.proofs.Math.Seq.{take-add}
use Rattle.std.proofs.lemmas.Grind.{flat_map-append}
use Rattle.std.proofs.lemmas.List.{append_assoc, drop-drop, drop-map, drop_at, length-map, map-append, map-id, take-map, take_more}
use Rattle.std.proofs.lemmas.List.FromFn.{map-range_with_len_more}
use Rattle.scim_key.specs.declared.records.Kind.{Kind}
use Rattle.scim_key.specs.declared.records.Kind.TheVariants.{User, Group}
use Rattle.scim_resource.specs.Contents.{content_kind}
use Rattle.scim_resource.specs.Rows.{StoredRecord, ShownRecord, shown}
use Rattle.scim_message.specs.declared.messages.Answer.TheVariants as answers
use Rattle.provider_core.specs.Listing.{Places, places_in, place_of, kind_places, places_of, rows_at}
use Rattle.provider_core.specs.Rows.{same_kind, has_number, row_numbered, with_row, IsNumberedFrom}
use Rattle.provider_core.specs.Searches.{is_hit, found, first_place, page_size, page_from, listing}
use Rattle.provider_core.specs.Stores.{HoldsNumber}
use Rattle.provider_core.specs.declared.registry.TheConstants.{ROWS_AT_ONCE}
use Rattle.provider_core.proofs.RowLaws.{numbers_same}

-- ---- rows by their places

-- the rows of places that follow each other
rows-of-run : (run place : ℕ) (rows : List StoredRecord) → rows_at (range_with_len place run) rows ≡ take run (drop place rows)
rows-of-run zero place rows = refl
rows-of-run (suc run) place rows =
    let one : 1 + run ≡ suc run = omega arith in
    let later : rows_at (range_with_len (place + 1) run) rows ≡ take run (drop 1 (drop place rows)) = rows-of-run run (place + 1) rows ∙ ap (take run) (sym (drop-drop 1 place rows)) in
    ap (λ rest. take 1 (drop place rows) ++ rest) later ∙ sym (take-add 1 run (drop place rows)) ∙ ap (λ n. take n (drop place rows)) one

-- a run with a place more
pub run-more : (places : List ℕ) (first run : ℕ) → run < length places → take run places ≡ range_with_len first run → slice_index places run ≡ first + run → take (run + 1) places ≡ range_with_len first (run + 1)
run-more places first run within follows next =
    let places-of-run = range_with_len first run in
    let more : range_with_len first (run + 1) ≡ places-of-run ++ (first + run) ∷ [] =
    sym (map-id (range_with_len first (run + 1))) ∙ map-range_with_len_more (λ place. place) first run (first + run) refl ∙ ap (λ places. places ++ (first + run) ∷ []) (map-id places-of-run) in
    take_more places run 0 within ∙ ap (λ earlier. earlier ++ slice_index places run ∷ []) follows ∙ ap (λ last. places-of-run ++ last ∷ []) next ∙ sym more

-- a page with a run more
pub shows-further : (rows : List StoredRecord) (places : List ℕ) (done run first : ℕ) (start middle new : List ShownRecord)
    → take run (drop done places) ≡ range_with_len first run → middle ≡ start ++ map shown (rows_at (take done places) rows)
    → new ≡ middle ++ map shown (take run (drop first rows)) → new ≡ start ++ map shown (rows_at (take (done + run) places) rows)
shows-further rows places done run first start middle new follows before page =
    let earlier = rows_at (take done places) rows in
    let part = take run (drop first rows) in
    let whole : rows_at (take (done + run) places) rows ≡ earlier ++ part =
    ap (λ ps. rows_at ps rows) (take-add done run places) ∙ flat_map-append (λ place. take 1 (drop place rows)) (take done places) (take run (drop done places))
    ∙ ap (λ later. earlier ++ later) (ap (λ ps. rows_at ps rows) follows ∙ rows-of-run run first rows) in
    page ∙ ap (λ shows. shows ++ map shown part) before ∙ append_assoc start (map shown earlier) (map shown part)
    ∙ ap (λ shows. start ++ shows) (sym (ap (map shown) whole ∙ map-append shown earlier part))

-- each of these is the row at its place
abbrev AreAt : List StoredRecord → List StoredRecord → Type 0
AreAt rows [] = Unit {0}
AreAt rows (x ∷ xs) = (take 1 (drop (place_of x) rows) ≡ x ∷ []) × AreAt rows xs

at-filter : (p : StoredRecord → Bool) (rows xs : List StoredRecord) → AreAt rows xs → AreAt rows (filter p xs)
at-filter p rows [] are = tt
at-filter p rows (x ∷ xs) are = here (p x) (at-filter p rows xs are.1)
  where
    here : (b : Bool) → AreAt rows (filter p xs) → AreAt rows (cond b (x ∷ filter p xs) (filter p xs))
    here true rest = (are.0, rest)
    here false rest = rest

at-drop : (n : ℕ) (rows xs : List StoredRecord) → AreAt rows xs → AreAt rows (drop n xs)
at-drop zero rows xs are = are
at-drop (suc n) rows [] are = tt
at-drop (suc n) rows (x ∷ xs) are = at-drop n rows xs are.1

at-take : (n : ℕ) (rows xs : List StoredRecord) → AreAt rows xs → AreAt rows (take n xs)
at-take zero rows xs are = tt
at-take (suc n) rows [] are = tt
at-take (suc n) rows (x ∷ xs) are = (are.0, at-take n rows xs are.1)

at-own : (before rows : List StoredRecord) → IsNumberedFrom (length before + 1) rows → AreAt (before ++ rows) rows
at-own before [] numbered = tt
at-own before (r ∷ rs) numbered =
    let place : place_of r ≡ length before = omega (arith, numbered.0) in
    let more : suc (length before + 1) ≡ length (before ++ r ∷ []) + 1 = omega (arith, length-append before (r ∷ [])) in
    let later = at-own (before ++ r ∷ []) rs (subst (λ n. IsNumberedFrom n rs) more numbered.1) in (
      ap (λ n. take 1 (drop n (before ++ r ∷ rs))) place ∙ ap (take 1) (drop_at before (r ∷ rs) (length before) refl),
      subst (λ (all : List StoredRecord). AreAt all rs) (append_assoc before (r ∷ []) rs) later,
    )

rows-at : (rows xs : List StoredRecord) → AreAt rows xs → rows_at (map place_of xs) rows ≡ xs
rows-at rows [] are = refl
rows-at rows (x ∷ xs) are = ap (λ first. first ++ rows_at (map place_of xs) rows) are.0 ∙ ap (λ rest. x ∷ rest) (rows-at rows xs are.1)

rows-of-page : (rows page : List StoredRecord) → (0 < length page → AreAt rows page) → rows_at (map place_of page) rows ≡ page
rows-of-page rows [] are = refl
rows-of-page rows (x ∷ xs) are = rows-at rows (x ∷ xs) (are (omega arith))

-- the rows at a part of the places are that part of the rows
page-listed : (kind : Kind) (rows : List StoredRecord) (skip most : ℕ) → (0 < length (take most (drop skip (kind_places kind rows))) → IsNumberedFrom 1 rows)
    → rows_at (take most (drop skip (kind_places kind rows))) rows ≡ take most (drop skip (filter (is_hit kind None) rows))
page-listed kind rows skip most numbered =
    let hits = filter (is_hit kind None) rows in
    let page = take most (drop skip hits) in
    let same : take most (drop skip (kind_places kind rows)) ≡ map place_of page = ap (take most) (drop-map place_of skip hits) ∙ take-map place_of most (drop skip hits) in
    ap (λ places. rows_at places rows) same
    ∙ rows-of-page rows page (λ some.
    at-take most rows (drop skip hits) (at-drop skip rows hits (at-filter (is_hit kind None) rows rows (at-own [] rows (numbered (omega (arith, some, ap length same, length-map page place_of)))))))

-- ---- the list message

kind-places : (kind : Kind) (rows : List StoredRecord) → places_in kind (places_of rows) ≡ kind_places kind rows
kind-places User rows = refl
kind-places Group rows = refl

pub page_size-few : (count : Option ℤ) → page_size count ≤ ROWS_AT_ONCE
page_size-few None = omega arith
page_size-few (Some (pos n)) = omega arith
page_size-few (Some (negsuc n)) = omega arith

pub lists-page : (kind : Kind) (start : ℤ) (count : Option ℤ) (rows : List StoredRecord) (places : Places) (total first size : ℕ) (wanted : List ℕ) (page : List ShownRecord)
    → places ≡ places_of rows → total ≡ length (places_in kind places) → first ≡ first_place start → size ≡ page_size count → wanted ≡ take size (drop (first - 1) (places_in kind places))
    → (0 < length wanted → IsNumberedFrom 1 rows) → page ≡ map shown (rows_at wanted rows)
    → answers.List (record { total = total; start = first; resources = page }) ≡ answers.List (listing start count (found kind None rows))
lists-page kind start count rows places total first size wanted page are counted at sized part numbered shows =
    let hits = filter (is_hit kind None) rows in
    let of-kind : places_in kind places ≡ kind_places kind rows = ap (places_in kind) are ∙ kind-places kind rows in
    let parts : wanted ≡ take size (drop (first - 1) (kind_places kind rows)) = part ∙ ap (λ ps. take size (drop (first - 1) ps)) of-kind in
    let rows-shown : rows_at wanted rows ≡ take size (drop (first - 1) hits) =
    ap (λ ps. rows_at ps rows) parts ∙ page-listed kind rows (first - 1) size (λ some. numbered (omega (arith, some, ap length parts))) in
    let is : page ≡ page_from first size (found kind None rows) =
    shows ∙ ap (map shown) rows-shown ∙ sym (take-map shown size (drop (first - 1) hits)) ∙ ap (take size) (sym (drop-map shown (first - 1) hits)) in
    let all : total ≡ length (found kind None rows) = counted ∙ ap length of-kind ∙ length-map hits place_of ∙ sym (length-map hits shown) in
    rw (all, is, at, sized) refl

-- ---- a row is replaced

here-same : (b : Bool) (row r : StoredRecord) (xs : List StoredRecord) → place_of row ≡ place_of r → map place_of (cond b (row ∷ xs) xs) ≡ map place_of (cond b (r ∷ xs) xs)
here-same true row r xs same = ap (λ place. place ∷ map place_of xs) same
here-same false row r xs same = refl

later-same : (b : Bool) (r : StoredRecord) (xs ys : List StoredRecord) → map place_of xs ≡ map place_of ys → map place_of (cond b (r ∷ xs) xs) ≡ map place_of (cond b (r ∷ ys) ys)
later-same true r xs ys same = ap (λ places. place_of r ∷ places) same
later-same false r xs ys same = same

kind-places-kept : (kind : Kind) (rows : List StoredRecord) (row held : StoredRecord) → row_numbered row.number rows ≡ Some held → content_kind held.content ≡ content_kind row.content
    → kind_places kind (with_row row rows) ≡ kind_places kind rows
kind-places-kept kind [] row held there same = refl
kind-places-kept kind (r ∷ rs) row held there same = here (has_number row.number r) refl there (λ later. kind-places-kept kind rs row held later same)
  where
    here : (b : Bool) → has_number row.number r ≡ b → cond b (Some r) (row_numbered row.number rs) ≡ Some held → (row_numbered row.number rs ≡ Some held → kind_places kind (with_row row rs) ≡ kind_places kind rs)
        → kind_places kind (cond b (row ∷ rs) (r ∷ with_row row rs)) ≡ kind_places kind (r ∷ rs)
    here true test was ih =
        let is : r ≡ held = cc in
        let number : r.number ≡ row.number = numbers_same r.number row.number test in
        let kinds : content_kind row.content ≡ content_kind r.content = sym same ∙ ap (λ x. content_kind x.content) (sym is) in
        let rest = filter (is_hit kind None) rs in
        ap (λ c. map place_of (cond (same_kind kind c && true) (row ∷ rest) rest)) kinds ∙ here-same (is_hit kind None r) row r rest (ap (λ n. n - 1) (sym number))
    here false test was ih = later-same (is_hit kind None r) r (filter (is_hit kind None) (with_row row rs)) (filter (is_hit kind None) rs) (ih was)

abbrev places-from : List ℕ → List ℕ → Places
places-from users groups = record { users = users; groups = groups }

same-places : (a b c d : List ℕ) → a ≡ c → b ≡ d → places-from a b ≡ places-from c d
same-places a b c d users groups = ap (λ of-users. places-from of-users b) users ∙ ap (places-from c) groups

pub places-kept : (rows : List StoredRecord) (row : StoredRecord) → HoldsNumber rows row → places_of (with_row row rows) ≡ places_of rows
places-kept rows row holds =
    let same : content_kind holds.held.content ≡ content_kind row.content = ap (λ name. name.kind) holds.name in
    same-places _ _ _ _ (kind-places-kept User rows row holds.held holds.there same) (kind-places-kept Group rows row holds.held holds.there same)
