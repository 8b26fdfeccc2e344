-- All entries, in order of their names.
use Rattle.std.proofs.Common.{◌≡◌, ℕ, zero, suc, true, List, [], ◌∷◌, ◌++◌, map, Option, Some, None, Less, refl, sym, ap, ◌∙◌, subst, inl, inr, IsPermutation, arith}
use Rattle.std.specs.Prelude.{MatchOption}
use Rattle.std.specs.FinMap.{entries, find, from_entries, get-from_entries, same_map}
use Rattle.std.specs.List.{All, AllByRecursion, AllZip}
use Rattle.std.specs.List.Sorted.{IsStrictlySortedBy}
use Rattle.std.specs.Ordering.{is_eq}
use Rattle.std.proofs.lemmas.List.Sorted.{IsPermutation-sym}
use Rattle.std.proofs.lemmas.List.{map-append}
use Rattle.sqlite_rules.specs.Lists.{Has}
use Rattle.sqlite_rules.proofs.ListLemmas.{all_has, all_from, has_either, has_left, has_right}
use Rattle.sqlite_trees.proofs.ListLemmas.{all-append, all-permutation}
use Rattle.sqlite_trees.specs.Tree.{Trees}
use Rattle.sqlite_value.specs.Order.{Row}
use Rattle.scim_key.specs.RecordOrder.{names_total}
use Rattle.scim_key.specs.Records.{name_cmp}
use Rattle.scim_key.specs.declared.records.Kind.{Kind}
use Rattle.scim_key.specs.declared.records.Kind.TheVariants.{User, Group}
use Rattle.scim_key.specs.declared.records.RecordName.{RecordName}
use Rattle.source_csv.specs.Records.{row_name}
use Rattle.journal_core.specs.Entries.{IsListOf, IsUpTo, named}
use Rattle.journal_core.specs.declared.entries.Entry.{Entry}
use Rattle.journal_core.proofs.Trees.{listed, names_same}
use Rattle.journal_store.specs.Rows.{entries_by, entry_in, named_by}
use Rattle.journal_store.specs.Connections.{AreShownBy, ListsAllBy, Shows, last_name}
use Rattle.journal_store.proofs.Decoding.{key_from, known_from}
use Rattle.journal_store.proofs.Standing.{find_has, has_find, has_named, named_has, tied_self}

-- ---- names in order

abbrev pub Sorted : List RecordName → Type 0
Sorted names = IsStrictlySortedBy name_cmp names

below_last : (names : List RecordName) (new : RecordName) → Sorted names → MatchOption (last_name names) (Unit {0}) (λ p. name_cmp p new ≡ Less) → AllByRecursion (λ k. name_cmp k new ≡ Less) names
unfolding IsStrictlySortedBy
below_last [] new sorted last = tt
below_last (x ∷ []) new sorted last = (last, tt)
below_last (x ∷ y ∷ names) new sorted last = let later = below_last (y ∷ names) new sorted.1 last in (names_total.trans x y new sorted.0.0 later.0, later)

sorted_push : (names : List RecordName) (new : RecordName) → Sorted names → AllByRecursion (λ k. name_cmp k new ≡ Less) names → Sorted (names ++ new ∷ [])
unfolding IsStrictlySortedBy
sorted_push [] new sorted below = (tt, tt)
sorted_push (x ∷ names) new sorted below = (all-append (λ y. name_cmp x y ≡ Less) names (new ∷ []) sorted.0 (below.0, tt), sorted_push names new sorted.1 below.1)

sorted_append : (xs ys : List RecordName) → Sorted xs → Sorted ys → ((x y : RecordName) → Has xs x → Has ys y → name_cmp x y ≡ Less) → Sorted (xs ++ ys)
unfolding IsStrictlySortedBy
sorted_append [] ys first second apart = second
sorted_append (x ∷ xs) ys first second apart =
    (all-append (λ y. name_cmp x y ≡ Less) xs ys first.0 (all_from (λ y. name_cmp x y ≡ Less) ys (λ y there. apart x y (inl refl) there)), sorted_append xs ys first.1 second (λ a b here there. apart a b (inr here) there))

abbrev pub names_of : List Entry → List RecordName
names_of list = map (λ (e : Entry). row_name e.row) list

last_push : (names : List RecordName) (new : RecordName) → last_name (names ++ new ∷ []) ≡ Some new
last_push [] new = refl
last_push (x ∷ []) new = refl
last_push (x ∷ y ∷ names) new = last_push (y ∷ names) new

zip_push : {A B : Type 0} (R : A → B → Type 0) (xs : List A) (ys : List B) (x : A) (y : B) → AllZip R xs ys → R x y → AllZip R (xs ++ x ∷ []) (ys ++ y ∷ [])
zip_push R [] [] x y zip is = (is, tt)
zip_push R [] (b ∷ ys) x y zip is = absurd zip
zip_push R (a ∷ xs) [] x y zip is = absurd zip
zip_push R (a ∷ xs) (b ∷ ys) x y zip is = (zip.0, zip_push R xs ys x y zip.1 is)

-- one more row, whose name comes after the last
pub shown_push : (Valid : Row → Entry → Type 0) (rows : List Row) (list : List Entry) (row : Row) (entry : Entry) → AreShownBy Valid rows list → Valid row entry
    → MatchOption (last_name (names_of list)) (Unit {0}) (λ p. name_cmp p (row_name entry.row) ≡ Less)
    → AreShownBy Valid (rows ++ row ∷ []) (list ++ entry ∷ []) × (last_name (names_of (list ++ entry ∷ [])) ≡ Some (row_name entry.row))
shown_push Valid rows list row entry are shows after =
    let names : names_of (list ++ entry ∷ []) ≡ names_of list ++ row_name entry.row ∷ [] = map-append (λ (e : Entry). row_name e.row) list (entry ∷ []) in (
      record {
        each = zip_push Valid rows list row entry are.each shows;
        rising = subst Sorted (sym names) (sorted_push (names_of list) (row_name entry.row) are.rising (below_last (names_of list) (row_name entry.row) are.rising after));
      },
      ap last_name names ∙ last_push (names_of list) (row_name entry.row),
    )

pub none_shown : (Valid : Row → Entry → Type 0) (list : List Entry) → list ≡ [] → AreShownBy Valid [] list × (None ≡ last_name (names_of list))
unfolding IsStrictlySortedBy
none_shown Valid list none = (subst (AreShownBy Valid []) (sym none) (record { each = tt; rising = tt }), ap (λ l. last_name (names_of l)) (sym none))

-- the same, of what a turn of the loop gave
pub next_shown : (Valid : Row → Entry → Type 0) (rows : List Row) (list : List Entry) (row : Row) (entry : Entry) (previous : Option RecordName) (name : RecordName) (rows_now : List Row) (list_now : List Entry)
    → rows_now ≡ rows ++ row ∷ [] → list_now ≡ list ++ entry ∷ [] → name ≡ row_name entry.row → AreShownBy Valid rows list → previous ≡ last_name (names_of list) → Valid row entry
    → MatchOption previous (Unit {0}) (λ p. name_cmp p (row_name entry.row) ≡ Less) → AreShownBy Valid rows_now list_now × (Some name ≡ last_name (names_of list_now))
next_shown Valid rows list row entry previous name rows_now list_now more pushed name_is are last shows after =
    let next = shown_push Valid rows list row entry are shows (subst (λ (o : Option RecordName). MatchOption o (Unit {0}) (λ p. name_cmp p (row_name entry.row) ≡ Less)) last after) in (
      subst (λ l. AreShownBy Valid rows_now l) (sym pushed) (subst (λ r. AreShownBy Valid r (list ++ entry ∷ [])) (sym more) next.0),
      ap Some name_is ∙ sym next.1 ∙ ap (λ l. last_name (names_of l)) (sym pushed),
    )

-- ---- entries and rows

pub zip_right : (Valid : Row → Entry → Type 0) (rows : List Row) (list : List Entry) (e : Entry) → AllZip Valid rows list → Has list e → (r : Row) × Has rows r × Valid r e
zip_right Valid [] [] e zip there = absurd there
zip_right Valid [] (b ∷ list) e zip there = absurd zip
zip_right Valid (r ∷ rows) [] e zip there = absurd zip
zip_right Valid (r ∷ rows) (b ∷ list) e zip (inl same) = (r, inl refl, subst (Valid r) (sym same) zip.0)
zip_right Valid (r ∷ rows) (b ∷ list) e zip (inr later) = let it = zip_right Valid rows list e zip.1 later in (it.0, inr it.1, it.2)

pub zip_left : (Valid : Row → Entry → Type 0) (rows : List Row) (list : List Entry) (r : Row) → AllZip Valid rows list → Has rows r → (e : Entry) × Has list e × Valid r e
zip_left Valid [] [] r zip there = absurd there
zip_left Valid [] (b ∷ list) r zip there = absurd zip
zip_left Valid (q ∷ rows) [] r zip there = absurd zip
zip_left Valid (q ∷ rows) (b ∷ list) r zip (inl same) = (b, inl refl, subst (λ x. Valid x b) (sym same) zip.0)
zip_left Valid (q ∷ rows) (b ∷ list) r zip (inr later) = let it = zip_left Valid rows list r zip.1 later in (it.0, inr it.1, it.2)

pub permuted : {X : Type 0} (xs ys : List X) (x : X) → IsPermutation xs ys → Has ys x → Has xs x
permuted xs ys x same = all_has (Has xs) ys x (all-permutation (Has xs) xs ys same (all_from (Has xs) xs (λ e h. h)))

pub map_has : {A B : Type 0} (f : A → B) (xs : List A) (x : A) → Has xs x → Has (map f xs) (f x)
map_has f [] x h = absurd h
map_has f (y ∷ xs) x (inl same) = inl (ap f same)
map_has f (y ∷ xs) x (inr later) = inr (map_has f xs x later)

pub has_map : {A B : Type 0} (f : A → B) (xs : List A) (y : B) → Has (map f xs) y → (x : A) × Has xs x × (y ≡ f x)
has_map f [] y h = absurd h
has_map f (x ∷ xs) y (inl same) = (x, inl refl, same)
has_map f (x ∷ xs) y (inr later) = let found = has_map f xs y later in (found.0, inr found.1, found.2)

-- given which columns of the rows of a table a query shows
module _ (kind : Kind) (columns : Row → Row) (table : List Row) (list : List Entry) (lists : ListsAllBy (Shows kind) columns table list) where
  shown_there : (r : Row) → Has table r → Has lists.rows (columns r)
  shown_there r there = permuted lists.rows (map columns table) (columns r) (IsPermutation-sym (map columns table) lists.rows lists.all) (map_has columns table r there)

  -- an entry is on the list if a row shows it
  listed_there : (p : RecordName × Entry) → Has (named_by columns kind table) p → Has (map named list) p
  listed_there p there =
      let it = has_named columns kind table p there in
      let held = zip_left (Shows kind) lists.rows list (columns it.0) lists.shown.each (shown_there it.0 it.1) in
      let same : held.0 ≡ p.1 = (let both : Some held.0 ≡ Some p.1 = sym held.2.entry_is ∙ it.2 in cc) in
      subst (Has (map named list)) (λ i. (sym it.3 i, same i)) (subst (λ e. Has (map named list) (row_name e.row, held.0)) same (map_has named list held.0 held.1))

  there_listed : (p : RecordName × Entry) → Has (map named list) p → Has (named_by columns kind table) p
  there_listed p there =
      let it = has_map named list p there in
      let shown = zip_right (Shows kind) lists.rows list it.0 lists.shown.each it.1 in
      let back = has_map columns table shown.0 (permuted (map columns table) lists.rows shown.0 lists.all shown.1) in
      subst (Has (named_by columns kind table)) (sym it.2) (named_has columns kind table back.0 it.0 back.1 (ap (entry_in kind) (sym back.2) ∙ shown.2.entry_is))

  kind_at : (name : RecordName) → Has (names_of list) name → name.kind ≡ kind
  kind_at name there =
      let it = has_map (λ (e : Entry). row_name e.row) list name there in
      let shown = zip_right (Shows kind) lists.rows list it.0 lists.shown.each it.1 in
      ap (λ (n : RecordName). n.kind) it.2 ∙ (key_from kind shown.0 it.0 shown.2.entry_is).1

-- ---- both types

above : (e : RecordName × Entry) (es : List (RecordName × Entry)) (q : RecordName) (v w : Entry) → AllByRecursion (λ y. name_cmp e.0 y ≡ Less) (map (λ x. x.0) es) → (q, v) ≡ e → Has es (q, w) → ⊥
above e es q v w below here there =
    let less : name_cmp e.0 q ≡ Less = all_has (λ y. name_cmp e.0 y ≡ Less) (map (λ (x : RecordName × Entry). x.0) es) q below (map_has (λ (x : RecordName × Entry). x.0) es (q, w) there) in
    let tie : is_eq (name_cmp e.0 q) ≡ true = ap (λ (p : RecordName × Entry). is_eq (name_cmp p.0 q)) (sym here) ∙ tied_self q in
    let clash : is_eq Less ≡ true = ap is_eq (sym less) ∙ tie in
    cc

-- of a list in order each name has one entry
one_each : (es : List (RecordName × Entry)) (q : RecordName) (v w : Entry) → Sorted (map (λ e. e.0) es) → Has es (q, v) → Has es (q, w) → v ≡ w
unfolding IsStrictlySortedBy
one_each [] q v w sorted a b = absurd a
one_each (e ∷ es) q v w sorted (inl a) (inl b) = ap (λ (p : RecordName × Entry). p.1) (a ∙ sym b)
one_each (e ∷ es) q v w sorted (inl a) (inr b) = absurd (above e es q v w sorted.0 a b)
one_each (e ∷ es) q v w sorted (inr a) (inl b) = absurd (above e es q w v sorted.0 b a)
one_each (e ∷ es) q v w sorted (inr a) (inr b) = one_each es q v w sorted.1 a b

first_names : (list : List Entry) → map (λ (e : RecordName × Entry). e.0) (map named list) ≡ names_of list
first_names [] = refl
first_names (e ∷ list) = ap (λ l. row_name e.row ∷ l) (first_names list)

users_first : (a b : RecordName) → a.kind ≡ User → b.kind ≡ Group → name_cmp a b ≡ Less
users_first a b users groups = rw (users, groups) refl

zip_up_to : (kind : Kind) (rows : List Row) (list : List Entry) → AllZip (Shows kind) rows list → AllByRecursion (λ (e : Entry). IsUpTo e.row e.confirmed) list
zip_up_to kind [] [] zip = tt
zip_up_to kind [] (e ∷ list) zip = absurd zip
zip_up_to kind (r ∷ rows) [] zip = tt
zip_up_to kind (r ∷ rows) (e ∷ list) zip = (record { known = known_from kind r e zip.0.entry_is; within = zip.0.within }, zip_up_to kind rows list zip.1)

all_by : {X : Type 0} (P : X → Type 0) (xs : List X) → AllByRecursion P xs → All P xs
all_by P [] all k d low = absurd (omega arith)
all_by P (x ∷ xs) all zero d low = all.0
all_by P (x ∷ xs) all (suc k) d low = all_by P xs all.1 k d (omega arith)

module _ (tree : Kind → ℕ) (columns : Kind → Row → Row) (db : Trees) (users groups : List Entry) (lists_users : ListsAllBy (Shows User) (columns User) (db (tree User)) users)
    (lists_groups : ListsAllBy (Shows Group) (columns Group) (db (tree Group)) groups) where
  abbrev in_tables : List (RecordName × Entry)
  in_tables = named_by (columns User) User (db (tree User)) ++ named_by (columns Group) Group (db (tree Group))

  abbrev both : List Entry
  both = users ++ groups

  in_order : Sorted (names_of both)
  in_order = subst Sorted (sym (map-append (λ (e : Entry). row_name e.row) users groups))
      (sorted_append (names_of users) (names_of groups) lists_users.shown.rising lists_groups.shown.rising (λ a b here there. users_first a b (kind_at User (columns User) (db (tree User)) users lists_users a here) (kind_at Group (columns Group) (db (tree Group)) groups lists_groups b there)))

  sorted_pairs : Sorted (map (λ (e : RecordName × Entry). e.0) (map named both))
  sorted_pairs = subst Sorted (sym (first_names both)) in_order

  named_both : map named both ≡ map named users ++ map named groups
  named_both = map-append named users groups

  from_tables : (p : RecordName × Entry) → Has in_tables p → Has (map named both) p
  from_tables p there = subst (λ l. Has l p) (sym named_both) (elim (has_either (named_by (columns User) User (db (tree User))) (named_by (columns Group) Group (db (tree Group))) p there) [
    | inl here ↦ has_left (map named users) (map named groups) p (listed_there User (columns User) (db (tree User)) users lists_users p here)
    | inr here ↦ has_right (map named users) (map named groups) p (listed_there Group (columns Group) (db (tree Group)) groups lists_groups p here)
  ])

  to_tables : (p : RecordName × Entry) → Has (map named both) p → Has in_tables p
  to_tables p there = elim (has_either (map named users) (map named groups) p (subst (λ l. Has l p) named_both there)) [
    | inl here ↦ has_left (named_by (columns User) User (db (tree User))) (named_by (columns Group) Group (db (tree Group))) p (there_listed User (columns User) (db (tree User)) users lists_users p here)
    | inr here ↦ has_right (named_by (columns User) User (db (tree User))) (named_by (columns Group) Group (db (tree Group))) p (there_listed Group (columns Group) (db (tree Group)) groups lists_groups p here)
  ]

  find_same : (q : RecordName) → find name_cmp q in_tables ≡ find name_cmp q (map named both)
  find_same q = go (find name_cmp q in_tables) (find name_cmp q (map named both)) refl refl
    where
      go : (o p : Option Entry) → find name_cmp q in_tables ≡ o → find name_cmp q (map named both) ≡ p → o ≡ p
      go None None a b = refl
      go None (Some w) a b = absurd (has_find q in_tables w (to_tables (q, w) (find_has q (map named both) w b)) a)
      go (Some v) None a b = absurd (has_find q (map named both) v (from_tables (q, v) (find_has q in_tables v a)) b)
      go (Some v) (Some w) a b = ap Some (one_each (map named both) q v w sorted_pairs (from_tables (q, v) (find_has q in_tables v a)) (find_has q (map named both) w b))

  same_entries : entries_by tree columns db ≡ from_entries (map named both)
  unfolding entries_by
  same_entries = same_map names_total names_same (from_entries in_tables) (from_entries (map named both)) (λ q.
      get-from_entries names_total in_tables q ∙ find_same q ∙ sym (get-from_entries names_total (map named both) q))

  pub lists_both : IsListOf (entries_by tree columns db) both
  lists_both = record {
    whole = ap entries same_entries ∙ listed (map named both) sorted_pairs;
    lawful = all_by (λ (e : Entry). IsUpTo e.row e.confirmed) both
        (all-append (λ (e : Entry). IsUpTo e.row e.confirmed) users groups (zip_up_to User lists_users.rows users lists_users.shown.each) (zip_up_to Group lists_groups.rows groups lists_groups.shown.each));
  }
