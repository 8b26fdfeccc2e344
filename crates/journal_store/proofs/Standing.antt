-- The entries in the tables, as a map.
use Rattle.std.proofs.Common.{◌≡◌, ℕ, Bool, true, false, cond, List, [], ◌∷◌, ◌++◌, filter, Option, Some, None, Ordering, Less, Equal, Greater, refl, sym, ap, ◌∙◌, subst, inl, inr}
use Rattle.std.specs.Cmp.{tied_itself}
use Rattle.std.specs.FinMap.{find, get, get-from_entries}
use Rattle.std.specs.Ordering.{is_eq}
use Rattle.std.proofs.lemmas.Bool.{cases_Bool}
use Rattle.std.proofs.lemmas.Slice.Eq.{bytes_eq-Decides}
use Rattle.sqlite_rules.specs.Lists.{Has}
use Rattle.sqlite_rules.proofs.ListLemmas.{has_left, has_right, has_either}
use Rattle.sqlite_value.specs.declared.value.Value.TheVariants.{Text}
use Rattle.sqlite_value.specs.Order.{Row, column}
use Rattle.sqlite_trees.specs.Tree.{Trees}
use Rattle.scim_key.specs.RecordOrder.{names_total}
use Rattle.scim_key.specs.Records.{name_cmp}
use Rattle.scim_key.specs.declared.records.Kind.{Kind}
use Rattle.scim_key.specs.declared.records.Kind.TheVariants.{User, Group}
use Rattle.scim_key.specs.declared.records.RecordName.{RecordName}
use Rattle.source_csv.specs.Records.{row_name}
use Rattle.journal_core.specs.Entries.{named}
use Rattle.journal_core.specs.declared.entries.Entry.{Entry}
use Rattle.journal_core.proofs.Trees.{names_same}
use Rattle.journal_store.specs.Format.{entry_tree}
use Rattle.journal_store.specs.Rows.{entries_by, entries_in, entry_in, named_by, named_if, named_in, shown_row}
use Rattle.journal_store.specs.Connections.{has_key}
use Rattle.journal_store.proofs.Decoding.{key_from, shown_key}
use Rattle.journal_store.proofs.Values.{key_test}

-- ---- look-ups in lists

equal_from : (o : Ordering) → is_eq o ≡ true → o ≡ Equal
equal_from Less same = absurd (cc)
equal_from Equal same = refl
equal_from Greater same = absurd (cc)

pub same_from : (a b : RecordName) → is_eq (name_cmp a b) ≡ true → a ≡ b
same_from a b tie = names_same a b (equal_from (name_cmp a b) tie)

pub tied_self : (a : RecordName) → is_eq (name_cmp a a) ≡ true
tied_self a = ap is_eq (tied_itself names_total a)

pub find_has : (q : RecordName) (es : List (RecordName × Entry)) (v : Entry) → find name_cmp q es ≡ Some v → Has es (q, v)
find_has q [] v found = absurd (cc)
find_has q (e ∷ es) v found = elim (cases_Bool (is_eq (name_cmp q e.0))) [
  | inl tie ↦
      let value : e.1 ≡ v = cc (rw tie at found) in
      let name = same_from q e.0 tie in
      inl (λ i. (name i, sym value i))
  | inr apart ↦ inr (find_has q es v (rw apart at found))
]

pub has_find : (q : RecordName) (es : List (RecordName × Entry)) (v : Entry) → Has es (q, v) → find name_cmp q es ≡ None → ⊥
has_find q [] v h none = h
has_find q (e ∷ es) v h none = elim (cases_Bool (is_eq (name_cmp q e.0))) [
  | inl tie ↦ absurd (cc (rw tie at none))
  | inr apart ↦ elim h [
    | inl same ↦ absurd (let tie : is_eq (name_cmp q e.0) ≡ true = ap (λ (p : RecordName × Entry). is_eq (name_cmp q p.0)) (sym same) ∙ tied_self q in cc)
    | inr later ↦ has_find q es v later (rw apart at none)
  ]
]

abbrev or_else : Option Entry → Option Entry → Option Entry
or_else None o = o
or_else (Some v) o = Some v

find_both : (q : RecordName) (xs ys : List (RecordName × Entry)) → find name_cmp q (xs ++ ys) ≡ or_else (find name_cmp q xs) (find name_cmp q ys)
find_both q [] ys = refl
find_both q (x ∷ xs) ys =
    elim (is_eq (name_cmp q x.0)) as (λ b. cond b (Some x.1) (find name_cmp q (xs ++ ys)) ≡ or_else (cond b (Some x.1) (find name_cmp q xs)) (find name_cmp q ys)) [ true ↦ refl | false ↦ find_both q xs ys ]

-- ---- the entries of a table

-- given which columns of a row a query shows
module _ (columns : Row → Row) (kind : Kind) where
  pub named_has : (table : List Row) (r : Row) (e : Entry) → Has table r → entry_in kind (columns r) ≡ Some e → Has (named_by columns kind table) (named e)
  named_has [] r e h is = h
  named_has (x ∷ xs) r e (inl same) is =
      let here : entry_in kind (columns x) ≡ Some e = ap (λ (y : Row). entry_in kind (columns y)) (sym same) ∙ is in
      has_left (named_if (entry_in kind (columns x))) (named_by columns kind xs) (named e) (subst (λ o. Has (named_if o) (named e)) (sym here) (inl refl))
  named_has (x ∷ xs) r e (inr later) is = has_right (named_if (entry_in kind (columns x))) (named_by columns kind xs) (named e) (named_has xs r e later is)

  one_named : (o : Option Entry) (p : RecordName × Entry) → Has (named_if o) p → (o ≡ Some p.1) × (p.0 ≡ row_name p.1.row)
  one_named None p h = absurd h
  one_named (Some e) p (inl same) =
      (ap (λ (x : RecordName × Entry). Some x.1) (sym same), ap (λ (x : RecordName × Entry). x.0) same ∙ ap (λ (x : RecordName × Entry). row_name x.1.row) (sym same))
  one_named (Some e) p (inr none) = absurd none

  pub has_named : (table : List Row) (p : RecordName × Entry) → Has (named_by columns kind table) p → (r : Row) × Has table r × (entry_in kind (columns r) ≡ Some p.1) × (p.0 ≡ row_name p.1.row)
  has_named [] p h = absurd h
  has_named (x ∷ xs) p h = elim (has_either (named_if (entry_in kind (columns x))) (named_by columns kind xs) p h) [
    | inl here ↦ let it = one_named (entry_in kind (columns x)) p here in (x, inl refl, it.0, it.1)
    | inr later ↦ let it = has_named xs p later in (it.0, inr it.1, it.2, it.3)
  ]

-- whether the entry of a row has a name
abbrev pub tie_if : RecordName → Option Entry → Bool
tie_if q None = false
tie_if q (Some e) = is_eq (name_cmp q (row_name e.row))

abbrev pub is_of : Kind → RecordName → Row → Bool
is_of kind q r = tie_if q (entry_in kind (shown_row kind r))

find_rows : (kind : Kind) (q : RecordName) (table : List Row) → find name_cmp q (named_in kind table) ≡ find name_cmp q (named_in kind (filter (is_of kind q) table))
find_rows kind q [] = refl
find_rows kind q (x ∷ xs) = go (entry_in kind (shown_row kind x)) refl (find_rows kind q xs)
  where
    go : (o : Option Entry) → entry_in kind (shown_row kind x) ≡ o → find name_cmp q (named_in kind xs) ≡ find name_cmp q (named_in kind (filter (is_of kind q) xs))
        → find name_cmp q (named_if o ++ named_in kind xs) ≡ find name_cmp q (named_in kind (cond (tie_if q o) (x ∷ filter (is_of kind q) xs) (filter (is_of kind q) xs)))
    go None is ih = ih
    go (Some e) is ih = elim (cases_Bool (is_eq (name_cmp q (row_name e.row)))) [
      | inl tie ↦ rw (tie, is, tie) refl
      | inr apart ↦ rw apart ih
    ]

-- ---- both tables

abbrev pub all_named : Trees → List (RecordName × Entry)
all_named db = named_in User (db (entry_tree User)) ++ named_in Group (db (entry_tree Group))

-- the entry is in a row
pub record Stands (db : Trees) (kind : Kind) (e : Entry) : Type 0 where
  pub row : Row
  pub there : Has (db (entry_tree kind)) row
  pub shows : entry_in kind (shown_row kind row) ≡ Some e

stands_of : (db : Trees) (q : RecordName) (v : Entry) → Has (all_named db) (q, v) → Stands db q.kind v × (row_name v.row ≡ q)
stands_of db q v h = elim (has_either (named_in User (db (entry_tree User))) (named_in Group (db (entry_tree Group))) (q, v) h) [
  | inl here ↦
      let it = has_named (shown_row User) User (db (entry_tree User)) (q, v) here in
      let kind_is : User ≡ q.kind = sym (key_from User (shown_row User it.0) v it.2).1 ∙ ap (λ (n : RecordName). n.kind) (sym it.3) in
      (subst (λ k. Stands db k v) kind_is (record { row = it.0; there = it.1; shows = it.2 }), sym it.3)
  | inr here ↦
      let it = has_named (shown_row Group) Group (db (entry_tree Group)) (q, v) here in
      let kind_is : Group ≡ q.kind = sym (key_from Group (shown_row Group it.0) v it.2).1 ∙ ap (λ (n : RecordName). n.kind) (sym it.3) in
      (subst (λ k. Stands db k v) kind_is (record { row = it.0; there = it.1; shows = it.2 }), sym it.3)
]

stands_has : (db : Trees) (kind : Kind) (e : Entry) → Stands db kind e → Has (all_named db) (named e)
stands_has db User e s = has_left (named_in User (db (entry_tree User))) (named_in Group (db (entry_tree Group))) (named e) (named_has (shown_row User) User (db (entry_tree User)) s.row e s.there s.shows)
stands_has db Group e s = has_right (named_in User (db (entry_tree User))) (named_in Group (db (entry_tree Group))) (named e) (named_has (shown_row Group) Group (db (entry_tree Group)) s.row e s.there s.shows)

pub get_is : (db : Trees) (q : RecordName) → get (entries_in db) q ≡ find name_cmp q (all_named db)
unfolding entries_by
get_is db q = get-from_entries names_total (all_named db) q

pub get_none : (db : Trees) (q : RecordName) → ((e : Entry) → Stands db q.kind e → row_name e.row ≡ q → ⊥) → get (entries_in db) q ≡ None
get_none db q none = get_is db q ∙ go (find name_cmp q (all_named db)) refl
  where
    go : (o : Option Entry) → find name_cmp q (all_named db) ≡ o → o ≡ None
    go None is = refl
    go (Some v) is = let it = stands_of db q v (find_has q (all_named db) v is) in absurd (none v it.0 it.1)

pub get_some : (db : Trees) (q : RecordName) (e : Entry) → Stands db q.kind e → row_name e.row ≡ q → ((f : Entry) → Stands db q.kind f → row_name f.row ≡ q → f ≡ e) → get (entries_in db) q ≡ Some e
get_some db q e stands name only = get_is db q ∙ go (find name_cmp q (all_named db)) refl
  where
    go : (o : Option Entry) → find name_cmp q (all_named db) ≡ o → o ≡ Some e
    go None is = absurd (has_find q (all_named db) e (subst (λ n. Has (all_named db) (n, e)) name (stands_has db q.kind e stands)) is)
    go (Some v) is = let it = stands_of db q v (find_has q (all_named db) v is) in ap Some (only v it.0 it.1)

pub stands_some : (db : Trees) (q : RecordName) (e : Entry) → get (entries_in db) q ≡ Some e → Stands db q.kind e × (row_name e.row ≡ q)
stands_some db q e is = stands_of db q e (find_has q (all_named db) e (sym (get_is db q) ∙ is))

-- what other rows show is no matter
pub get_same : (old new : Trees) (q : RecordName) → filter (is_of User q) (new (entry_tree User)) ≡ filter (is_of User q) (old (entry_tree User))
    → filter (is_of Group q) (new (entry_tree Group)) ≡ filter (is_of Group q) (old (entry_tree Group)) → get (entries_in new) q ≡ get (entries_in old) q
get_same old new q users groups =
    let same_users : find name_cmp q (named_in User (new (entry_tree User))) ≡ find name_cmp q (named_in User (old (entry_tree User))) =
    find_rows User q (new (entry_tree User)) ∙ ap (λ l. find name_cmp q (named_in User l)) users ∙ sym (find_rows User q (old (entry_tree User))) in
    let same_groups : find name_cmp q (named_in Group (new (entry_tree Group))) ≡ find name_cmp q (named_in Group (old (entry_tree Group))) =
    find_rows Group q (new (entry_tree Group)) ∙ ap (λ l. find name_cmp q (named_in Group l)) groups ∙ sym (find_rows Group q (old (entry_tree Group))) in
    get_is new q ∙ find_both q (named_in User (new (entry_tree User))) (named_in Group (new (entry_tree Group)))
    ∙ (λ i. or_else (same_users i) (same_groups i))
    ∙ sym (get_is old q ∙ find_both q (named_in User (old (entry_tree User))) (named_in Group (old (entry_tree Group))))

-- a row that shows an entry has its key
pub shows_key : (kind : Kind) (r : Row) (e : Entry) → entry_in kind (shown_row kind r) ≡ Some e → column r 1 ≡ Text (row_name e.row).key
shows_key kind r e is = sym (shown_key kind r) ∙ (key_from kind (shown_row kind r) e is).0

pub has_own_key : (kind : Kind) (r : Row) (e : Entry) (q : RecordName) → entry_in kind (shown_row kind r) ≡ Some e → row_name e.row ≡ q → has_key q.key r ≡ true
has_own_key kind r e q is name =
    key_test r (row_name e.row).key q.key (shows_key kind r e is) ∙ (bytes_eq-Decides (row_name e.row).key q.key).1 (ap (λ (n : RecordName). n.key) name)

pub name_of_key : (kind : Kind) (r : Row) (e : Entry) (key : List ℕ) → entry_in kind (shown_row kind r) ≡ Some e → has_key key r ≡ true → row_name e.row ≡ record { kind = kind; key = key }
name_of_key kind r e key is has =
    let same : (row_name e.row).key ≡ key = (bytes_eq-Decides (row_name e.row).key key).0 (sym (key_test r (row_name e.row).key key (shows_key kind r e is)) ∙ has) in
    let type : (row_name e.row).kind ≡ kind = (key_from kind (shown_row kind r) e is).1 in
    λ i. record { kind = type i; key = same i }
