-- What the journal keeps of the book: when the connector is opened, and when a row is put.
use Rattle.std.proofs.Common.{◌≡◌, Bool, true, false, cond, T, ◌&&◌, List, [], ◌∷◌, Option, Some, None, IsSome, map, refl, ap, sym, subst, ◌∙◌, inl}
use Rattle.std.proofs.lemmas.List.Elements.{All-head, All-tail}
use Rattle.std.specs.BTreeSet.{insert_key}
use Rattle.std.specs.FinMap.{FinMap, entries, get, insert, keys, remove, entries-insert, entries_sorted, get-entries, get-insert, get-remove, get-from_entries, same_map}
use Rattle.std.specs.FinMap.Entries.{below_all, by_order, find, is_sorted, put}
use Rattle.std.specs.List.{All, AllByRecursion}
use Rattle.std.specs.List.Sorted.{IsStrictlySortedBy}
use Rattle.std.specs.Option.{option_map}
use Rattle.std.specs.Ordering.{is_eq, is_lt, match_ordering}
use Rattle.std.specs.declared.cmp.Ordering.{Ordering}
use Rattle.std.specs.declared.cmp.Ordering.TheVariants.{Less, Equal, Greater}
use Rattle.scim_key.proofs.RevisionLaws.{none_first}
use Rattle.scim_key.specs.RecordOrder.{names_total, tied}
use Rattle.scim_key.specs.Records.{name_cmp}
use Rattle.scim_key.specs.Revisions.{◌≼◌}
use Rattle.scim_key.specs.declared.records.RecordName.{RecordName}
use Rattle.source_csv.specs.Records.{row_name, row_revision}
use Rattle.source_csv.specs.declared.rows.Row.{Row}
use Rattle.journal_core.specs.Entries.{EntryMap, IsListOf, IsUpTo, entry_with, named, with_row}
use Rattle.journal_core.specs.declared.entries.Entry.{Entry}
use Rattle.journal_core.proofs.Trees.{listed, name_from_test, names_same, turned}
use Rattle.connector_core.specs.Book.{put as put_in_book, wanting, wanting_now}
use Rattle.connector_core.specs.Maps.{BookMap, MapsAreBooks, book_of, changed, changed_at}
use Rattle.connector_core.specs.State.{IsKept, IsOpened, entry_of, opened, opened_book, opened_named}
use Rattle.connector_core.specs.declared.knowledge.Known.{Known}

-- ---- maps as books

keys-put : {X : Type 0} (name : RecordName) (x : X) (es : List (RecordName × X)) → map (λ e. e.0) (put name_cmp name x es) ≡ insert_key name_cmp (map (λ e. e.0) es) name
keys-put name x [] = refl
keys-put {X} name x (e ∷ es) = go (name_cmp name e.0) (keys-put name x es)
  where
    go : (r : Ordering) → map (λ e. e.0) (put name_cmp name x es) ≡ insert_key name_cmp (map (λ e. e.0) es) name
        → map (λ e. e.0) (by_order r ((name, x) ∷ e ∷ es) ((e.0, x) ∷ es) (e ∷ put name_cmp name x es))
        ≡ match_ordering r (name ∷ e.0 ∷ map (λ e. e.0) es) (e.0 ∷ map (λ e. e.0) es) (e.0 ∷ insert_key name_cmp (map (λ e. e.0) es) name)
    go Less ih = refl
    go Equal ih = refl
    go Greater ih = ap (λ names. e.0 ∷ names) ih

-- the names after an insertion
pub names-put : {X : Type 0} (m : FinMap name_cmp X) (name : RecordName) (x : X) → keys (insert m name x) ≡ insert_key name_cmp (keys m) name
names-put m name x = ap (map (λ e. e.0)) (entries-insert names_total m name x) ∙ keys-put name x (entries m)

book-put : (m : BookMap) (name : RecordName) (known : Known) (q : RecordName) → get (insert m name known) q ≡ put_in_book (book_of m) name known q
book-put m name known q = get-insert names_total m name known q ∙ ap (λ b. cond b (Some known) (get m q)) (turned q name ∙ tied name q)

pub maps_are_books : (m : BookMap) (name : RecordName) (known : Known) → MapsAreBooks m name known
maps_are_books m name known = record { book = λ i q. book-put m name known q i; names = names-put m name known }

-- ---- opening

and-parts : (a b : Bool) → T (a && b) → T a × T b
and-parts true b t = (tt, t)
and-parts false b t = absurd t

less : (o : Ordering) → T (is_lt o) → o ≡ Less
less Less t = refl
less Equal t = absurd t
less Greater t = absurd t

below-keys : {X : Type 0} (name : RecordName) (es : List (RecordName × X)) → T (below_all name_cmp name es) → AllByRecursion (λ y. name_cmp name y ≡ Less) (map (λ e. e.0) es)
below-keys name [] t = tt
below-keys name (e ∷ es) t = let both = and-parts (is_lt (name_cmp name e.0)) (below_all name_cmp name es) t in (less _ both.0, below-keys name es both.1)

rising-keys : {X : Type 0} (es : List (RecordName × X)) → T (is_sorted name_cmp es) → IsStrictlySortedBy name_cmp (map (λ e. e.0) es)
unfolding IsStrictlySortedBy
rising-keys [] t = tt
rising-keys (e ∷ es) t = let both = and-parts (below_all name_cmp e.0 es) (is_sorted name_cmp es) t in (below-keys e.0 es both.0, rising-keys es both.1)

same-keys : (list : List Entry) → map (λ (e : RecordName × Known). e.0) (map opened_named list) ≡ map (λ (e : RecordName × Entry). e.0) (map named list)
same-keys [] = refl
same-keys (entry ∷ list) = ap (λ names. row_name entry.row ∷ names) (same-keys list)

opened-cond : (b : Bool) (entry : Entry) (x : Option Known) (y : Option Entry) → x ≡ option_map opened y → cond b (Some (opened entry)) x ≡ option_map opened (cond b (Some entry) y)
opened-cond true entry x y same = refl
opened-cond false entry x y same = same

pub opened-found : (q : RecordName) (list : List Entry) → find name_cmp q (map opened_named list) ≡ option_map opened (find name_cmp q (map named list))
opened-found q [] = refl
opened-found q (entry ∷ list) = opened-cond (is_eq (name_cmp q (row_name entry.row))) entry _ _ (opened-found q list)

kept-back : (o : Option Entry) → o ≡ option_map entry_of (option_map opened o)
kept-back None = refl
kept-back (Some entry) = refl

abbrev IsWithin : Entry → Type 0
IsWithin entry = IsUpTo entry.row entry.confirmed

within-first : (b : Bool) (e entry : Entry) (o : Option Entry) → IsWithin e → (o ≡ Some entry → IsWithin entry) → cond b (Some e) o ≡ Some entry → IsWithin entry
within-first true e entry o here rest is = let same : e ≡ entry = cc in subst IsWithin same here
within-first false e entry o here rest is = rest is

within-found : (q : RecordName) (list : List Entry) (entry : Entry) → All IsWithin list → find name_cmp q (map named list) ≡ Some entry → IsWithin entry
within-found q [] entry lawful found = absurd (cc)
within-found q (e ∷ list) entry lawful found =
    within-first (is_eq (name_cmp q (row_name e.row))) e entry (find name_cmp q (map named list)) (All-head IsWithin e list lawful) (within-found q list entry (All-tail IsWithin e list lawful)) found

known-within : (o : Option Entry) (known : Known) → ((entry : Entry) → o ≡ Some entry → IsWithin entry) → option_map opened o ≡ Some known → IsUpTo known.wanted known.confirmed
known-within None known within is = absurd (cc)
known-within (Some entry) known within is = let same : opened entry ≡ known = cc in subst (λ k. IsUpTo k.wanted k.confirmed) same (within entry refl)

module _ (kept : EntryMap) (list : List Entry) (is : IsListOf kept list) where
  kept-found : (q : RecordName) → get kept q ≡ find name_cmp q (map named list)
  kept-found q = get-entries kept q ∙ ap (find name_cmp q) is.whole

  book-found : (q : RecordName) → get (opened_book list) q ≡ option_map opened (get kept q)
  book-found q = get-from_entries names_total (map opened_named list) q ∙ opened-found q list ∙ ap (option_map opened) (sym (kept-found q))

  names-found : keys (opened_book list) ≡ keys kept
  names-found =
      let sorted : IsStrictlySortedBy name_cmp (map (λ (e : RecordName × Entry). e.0) (map named list)) =
      rising-keys (map named list) (subst (λ es. T (is_sorted name_cmp es)) is.whole (entries_sorted kept)) in
      ap (map (λ e. e.0)) (listed (map opened_named list) (subst (IsStrictlySortedBy name_cmp) (sym (same-keys list)) sorted))
      ∙ same-keys list ∙ ap (map (λ e. e.0)) (sym is.whole)

  pub opens : IsOpened kept (opened_book list)
  opens = record { entries = book-found; names = names-found }

  pub opens-kept : IsKept kept (opened_book list)
  opens-kept = record {
    same = λ q. kept-back (get kept q) ∙ ap (option_map entry_of) (sym (book-found q));
    names = sym names-found;
    within = λ q known here. known-within (get kept q) known (λ entry there. within-found q list entry is.lawful (sym (kept-found q) ∙ there)) (sym (book-found q) ∙ here);
  }

-- ---- a row is put

-- what the journal keeps of a record whose row is put
entry-wanting : (o : Option Known) (row : Row) → entry_with row (option_map entry_of o) ≡ entry_of (wanting o row)
entry-wanting None row = refl
entry-wanting (Some known) row = refl

same-cond : (b : Bool) (entry : Entry) (known : Known) (x : Option Entry) (y : Option Known) → entry ≡ entry_of known → x ≡ option_map entry_of y → cond b (Some entry) x ≡ option_map entry_of (cond b (Some known) y)
same-cond true entry known x y put rest = ap Some put
same-cond false entry known x y put rest = rest

abbrev IsKnownWithin : Known → Type 0
IsKnownWithin known = IsUpTo known.wanted known.confirmed

-- a property of the new value and of the old one holds for both results
pub either-holds : (P : Known → Type 0) (b : Bool) (put known : Known) (o : Option Known) → P put → ((k : Known) → o ≡ Some k → P k) → cond b (Some put) o ≡ Some known → P known
either-holds P true put known o here rest is = let same : put ≡ known = cc in subst P same here
either-holds P false put known o here rest is = rest known is

within-wanting : (o : Option Known) (row : Row) → ((known : Known) → o ≡ Some known → IsUpTo row known.confirmed) → IsKnownWithin (wanting o row)
within-wanting None row up_to = record { known = inl refl; within = none_first (row_revision row) }
within-wanting (Some known) row up_to = up_to known refl

-- the book and the journal stay kept after putting into both
pub kept-put : (kept : EntryMap) (book : BookMap) (name : RecordName) (entry : Entry) (known : Known) → IsKept kept book → entry ≡ entry_of known → IsKnownWithin known
    → IsKept (insert kept name entry) (insert book name known)
kept-put kept book name entry known is put within = record {
  same = λ q. get-insert names_total kept name entry q ∙ same-cond (is_eq (name_cmp q name)) entry known _ _ put (is.same q) ∙ ap (option_map entry_of) (sym (get-insert names_total book name known q));
  names = names-put kept name entry ∙ ap (λ names. insert_key name_cmp names name) is.names ∙ sym (names-put book name known);
  within = λ q k here. either-holds IsKnownWithin (is_eq (name_cmp q name)) known k (get book q) within (λ k' there. is.within q k' there) (sym (get-insert names_total book name known q) ∙ here);
}

pub kept-row : (kept : EntryMap) (book : BookMap) (row : Row) → IsKept kept book → ((known : Known) → get book (row_name row) ≡ Some known → known.confirmed ≼ row_revision row)
    → IsKept (with_row kept row) (insert book (row_name row) (wanting (get book (row_name row)) row))
kept-row kept book row is below =
    let put : entry_with row (get kept (row_name row)) ≡ entry_of (wanting (get book (row_name row)) row) =
    ap (entry_with row) (is.same (row_name row)) ∙ entry-wanting (get book (row_name row)) row in
    kept-put kept book (row_name row) _ _ is put (within-wanting (get book (row_name row)) row (λ known there. record { known = (is.within (row_name row) known there).known; within = below known there }))

undone-cond : (b : Bool) (known : Known) (o here : Option Known) → (b ≡ true → o ≡ here) → here ≡ None → cond b None (cond b (Some known) o) ≡ o
undone-cond true known o here same none = sym (same refl ∙ none)
undone-cond false known o here same none = refl

-- what was put of a new record, and taken out again, leaves the book as it was
undone : (book : BookMap) (name : RecordName) (known : Known) → get book name ≡ None → remove (insert book name known) name ≡ book
undone book name known none = same_map names_total names_same _ _ (λ q.
    get-remove names_total (insert book name known) name q ∙ ap (cond (is_eq (name_cmp q name)) None) (get-insert names_total book name known q)
    ∙ undone-cond (is_eq (name_cmp q name)) known (get book q) (get book name) (λ same. ap (get book) (name_from_test q name (sym (tied q name) ∙ same))) none)

-- ---- the book with a row that is new

next-at : (book : BookMap) (name : RecordName) (row : Row) (o : Option Known) → IsSome o → changed_at (wanting_now row) book name o ≡ insert book name (wanting o row)
next-at book name row None there = absurd (cc)
next-at book name row (Some known) there = refl

pub next-book : (book : BookMap) (name : RecordName) (row : Row) → name ≡ row_name row → IsSome (get book name)
    → changed (wanting_now row) book name ≡ insert book (row_name row) (wanting (get book (row_name row)) row)
next-book book name row is there = next-at book name row (get book name) there ∙ ap (λ n. insert book n (wanting (get book n) row)) is

pub first-book : (book new : BookMap) (name copied : RecordName) (row : Row) (known : Known) → name ≡ row_name row → get book name ≡ None → copied ≡ name → known ≡ wanting None row
    → new ≡ insert book copied known → new ≡ insert book (row_name row) (wanting (get book (row_name row)) row)
first-book book new name copied row known is none same first put =
    put ∙ ap (λ k. insert book copied k) first ∙ ap (λ n. insert book n (wanting None row)) same
    ∙ ap (λ o. insert book name (wanting o row)) (sym none) ∙ ap (λ n. insert book n (wanting (get book n) row)) is

pub first-undone : (book new out : BookMap) (name copied : RecordName) (known : Known) → get book name ≡ None → copied ≡ name → new ≡ insert book copied known → out ≡ remove new name → out ≡ book
first-undone book new out name copied known none same put taken =
    taken ∙ ap (λ b. remove b name) (put ∙ ap (λ n. insert book n known) same) ∙ undone book name known none
