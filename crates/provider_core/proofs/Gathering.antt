-- What is gathered of a search goes with the rows that are looked through.
use Rattle.std.proofs.Common.{◌≡◌, ℕ, ◌+◌, ◌-◌, ◌^◌, suc, ◌≤◌, ◌<◌, min, Bool, true, false, cond, List, [], ◌∷◌, ◌++◌, length, take, drop, refl, sym, ap, subst, ◌∙◌, arith}
use Rattle.std.specs.Prelude.{Option, Some, None, Ok, ℤ, map}
use Rattle.std.specs.Option.{option_and_then, option_to_list}
use Rattle.std.specs.List.{filter, slice_index_or}
use Rattle.std.proofs.Math.Seq.{take-add}
use Rattle.std.proofs.lemmas.List.{append-nil, append_assoc, length-map, map-append, take_all, take_min, take_more}
use Rattle.std.proofs.lemmas.List.Elements.{filter-append}
use Rattle.scim_key.specs.declared.records.Kind.{Kind}
use Rattle.scim_key.specs.declared.records.RecordName.{RecordName}
use Rattle.scim_resource.specs.Rows.{StoredRecord, shown}
use Rattle.scim_filter.specs.Expressions.{Expression}
use Rattle.scim_filter.specs.Names.{single_key}
use Rattle.provider_core.specs.Rows.{row_named, AreNamedApart}
use Rattle.provider_core.specs.Searches.{is_hit, found, first_place, page_size, listing}
use Rattle.provider_core.specs.Gathering.{Gathered, gathered, greatest_total, IsPlace, Gathers, GoesThrough, listed}
use Rattle.provider_core.proofs.IndexLaws.{hits-named}
use Rattle.scim_message.specs.declared.messages.Answer.TheVariants as answers
use Rattle.provider_core.specs.Calls.{Reads}
use Rattle.provider_core.specs.Stores.{CountsProviderFault}
use Rattle.provider_core.specs.declared.registry.Registry.{Ghosts}

pub goes-none : (kind : Kind) (wanted : Option Expression) (g : Gathered) → GoesThrough kind wanted [] g g
goes-none kind wanted g first size before place was = was ∙ ap (λ rows. gathered first size (found kind wanted rows)) (sym (append-nil before))

pub goes-on : (kind : Kind) (wanted : Option Expression) (xs ys : List StoredRecord) (old middle new : Gathered)
    → GoesThrough kind wanted xs old middle → GoesThrough kind wanted ys middle new → GoesThrough kind wanted (xs ++ ys) old new
goes-on kind wanted xs ys old middle new first-part second-part first size before place was =
    second-part first size (before ++ xs) place (first-part first size before place was)
    ∙ ap (λ rows. gathered first size (found kind wanted rows)) (append_assoc before xs ys)

-- ---- the list message

kept-length : (b : Bool) (row : StoredRecord) (kept : List StoredRecord) (n : ℕ) → length kept ≤ n → length (cond b (row ∷ kept) kept) ≤ suc n
kept-length true row kept n few = omega (arith, few)
kept-length false row kept n few = omega (arith, few)

found-length : (kind : Kind) (wanted : Option Expression) (rows : List StoredRecord) → length (filter (is_hit kind wanted) rows) ≤ length rows
found-length kind wanted [] = omega arith
found-length kind wanted (row ∷ rows) = kept-length (is_hit kind wanted row) row (filter (is_hit kind wanted) rows) (length rows) (found-length kind wanted rows)

counts-all : (n m : ℕ) → n ≤ m → min n m ≡ n
counts-all n m few = omega (arith, few)

found-after : (kind : Kind) (wanted : Option Expression) (before rows : List StoredRecord) → found kind wanted (before ++ rows) ≡ found kind wanted before ++ map shown (filter (is_hit kind wanted) rows)
found-after kind wanted before rows =
    ap (map shown) (filter-append (is_hit kind wanted) before rows) ∙ map-append shown (filter (is_hit kind wanted) before) (filter (is_hit kind wanted) rows)

-- the state for all rows is the page of the list message, and its count
pub listed-whole : (kind : Kind) (wanted : Option Expression) (start : ℤ) (count : Option ℤ) (rows : List StoredRecord) (first size : ℕ) (old new : Gathered)
    → first ≡ first_place start → size ≡ page_size count → IsPlace first → old ≡ gathered first size [] → Gathers kind wanted rows old new
    → listed new ≡ answers.List (listing start count (found kind wanted rows))
listed-whole kind wanted start count rows first size old new place page lawful none gathers =
    let is : new ≡ gathered first size (found kind wanted rows) = gathers.through first size [] lawful none in
    rw (is, place, page, counts-all (length (found kind wanted rows)) greatest_total gathers.few) refl

-- as many rows as a number of 32 bits counts can be counted
pub gathers-few : (kind : Kind) (wanted : Option Expression) (rows : List StoredRecord) (old new : Gathered) → length rows ≤ 2 ^ 32 - 1 → GoesThrough kind wanted rows old new → Gathers kind wanted rows old new
gathers-few kind wanted rows old new few through = record {
  through = through;
  few = omega (arith, found-length kind wanted rows, length-map (filter (is_hit kind wanted) rows) shown, few);
}

-- ---- the row of one record

few-named : (row : Option StoredRecord) → length (option_to_list row) ≤ 1
few-named None = omega arith
few-named (Some row) = omega arith

by-name : (kind : Kind) (wanted : Option Expression) (rows looked : List StoredRecord) (old new : Gathered) → length looked ≤ 1
    → filter (is_hit kind wanted) rows ≡ filter (is_hit kind wanted) looked → GoesThrough kind wanted looked old new → Gathers kind wanted rows old new
by-name kind wanted rows looked old new few same through = record {
  through = λ first size before place was.
      through first size before place was ∙ ap (λ resources. gathered first size resources) (found-after kind wanted before looked ∙ sym (found-after kind wanted before rows ∙ ap (λ hits. found kind wanted before ++ map shown hits) same));
  few = rw same (omega (arith, length-map (filter (is_hit kind wanted) looked) shown, found-length kind wanted looked));
}

-- if a filter names one record, looking at its row is looking at all rows
pub gathers-named : (kind : Kind) (wanted : Option Expression) (name : RecordName) (rows : List StoredRecord) (old new : Gathered)
    → option_and_then single_key wanted ≡ Some name → AreNamedApart rows → GoesThrough kind wanted (option_to_list (row_named name rows)) old new → Gathers kind wanted rows old new
gathers-named kind None name rows old new names apart through = absurd (cc)
gathers-named kind (Some wanted) name rows old new names apart through =
    by-name kind (Some wanted) rows (option_to_list (row_named name rows)) old new (few-named (row_named name rows)) (hits-named kind wanted name rows names apart) through

-- ---- pages of rows

-- the state after the rows before `after` were looked through
pub record IsGathering {R : Type 0} (g : Ghosts R) (kind : Kind) (wanted : Option Expression) (all after : ℕ) (old new : R) (gathered_old gathered_new : Gathered) : Type 0 where
  pub reads : Reads g CountsProviderFault old new (Ok (tt {0}))
  pub through : g.is_faithful new → length (g.rows old) ≤ all → GoesThrough kind wanted (take after (g.rows old)) gathered_old gathered_new

-- a number past all rows takes them all
past : (n m : ℕ) (xs : List StoredRecord) → length xs ≤ m → take (min n m) xs ≡ take n xs
past n m xs short =
    let same : min (min n m) (length xs) ≡ min n (length xs) = omega arith in
    sym (take_min (min n m) xs) ∙ ap (λ k. take k xs) same ∙ take_min n xs

-- one row more
pub goes-one : (kind : Kind) (wanted : Option Expression) (at : ℕ) (row : StoredRecord) (rows : List StoredRecord) (old middle new : Gathered) → at < length rows → row ≡ slice_index_or rows at row
    → GoesThrough kind wanted (take at rows) old middle → GoesThrough kind wanted (row ∷ []) middle new → GoesThrough kind wanted (take (at + 1) rows) old new
goes-one kind wanted at row rows old middle new there is before this =
    let parts : take at rows ++ row ∷ [] ≡ take (at + 1) rows = ap (λ (r : StoredRecord). take at rows ++ r ∷ []) is ∙ sym (take_more rows at row there) in
    subst (λ (part : List StoredRecord). GoesThrough kind wanted part old new) parts (goes-on kind wanted (take at rows) (row ∷ []) old middle new before this)

-- some rows more
pub goes-further : (kind : Kind) (wanted : Option Expression) (most all after more : ℕ) (rows : List StoredRecord) (old middle new : Gathered) → all ≤ most → length rows ≤ all
    → GoesThrough kind wanted (take after rows) old middle → GoesThrough kind wanted (take more (drop after rows)) middle new → GoesThrough kind wanted (take (min (after + more) most) rows) old new
goes-further kind wanted most all after more rows old middle new within short before page =
    let parts : take (min (after + more) most) rows ≡ take after rows ++ take more (drop after rows) = past (after + more) most rows (omega arith) ∙ take-add after more rows in
    subst (λ (part : List StoredRecord). GoesThrough kind wanted part old new) (sym parts) (goes-on kind wanted (take after rows) (take more (drop after rows)) old middle new before page)

-- all rows
pub goes-all : (kind : Kind) (wanted : Option Expression) (all after : ℕ) (rows : List StoredRecord) (old new : Gathered) → all ≤ after → length rows ≤ all
    → GoesThrough kind wanted (take after rows) old new → GoesThrough kind wanted rows old new
goes-all kind wanted all after rows old new end short through =
    subst (λ (part : List StoredRecord). GoesThrough kind wanted part old new) (take_all after rows (omega arith)) through
