-- What the tables hold once an entry is put.
use Rattle.std.proofs.Common.{◌≡◌, ◌⊎◌, ℕ, ℤ, Bool, true, false, not, cond, List, [], ◌∷◌, filter, Option, Some, None, Ordering, Less, Equal, Greater, refl, sym, ap, ◌∙◌, subst, inl, inr}
use Rattle.std.specs.Prelude.{is_some}
use Rattle.std.specs.FinMap.{get, get-insert, insert, same_map}
use Rattle.std.specs.List.{list_any}
use Rattle.std.specs.Ordering.{is_eq, int_eq, match_ordering}
use Rattle.std.proofs.lemmas.Bool.{cases_Bool, or_parts}
use Rattle.std.proofs.lemmas.Bool.Decides.{Decides-int_eq}
use Rattle.sqlite_rules.specs.Edit.{is_taken}
use Rattle.sqlite_rules.specs.Lists.{Has}
use Rattle.sqlite_rules.proofs.ListLemmas.{has_kept, has_filtered}
use Rattle.sqlite_value.specs.declared.value.Value.TheVariants.{Int, Text}
use Rattle.sqlite_value.specs.Order.{Row, value_cmp}
use Rattle.sqlite_trees.specs.Tree.{Trees, rowid, has_rowid, put_row, without_rowid}
use Rattle.scim_key.specs.RecordOrder.{names_total}
use Rattle.scim_key.specs.Records.{name_cmp}
use Rattle.scim_key.specs.declared.records.Kind.{Kind}
use Rattle.scim_key.specs.declared.records.Kind.TheVariants.{User, Group}
use Rattle.scim_key.specs.declared.records.RecordName.{RecordName}
use Rattle.source_csv.specs.Records.{row_name}
use Rattle.journal_core.specs.declared.entries.Entry.{Entry}
use Rattle.journal_core.proofs.Trees.{names_same}
use Rattle.journal_store.specs.Format.{entry_tree}
use Rattle.sql_tables.proofs.Trees.{free, put_here, put_other, without_here}
use Rattle.sql_tables.proofs.Values.{rowid_is}
use Rattle.journal_store.specs.Rows.{entries_in, entry_in, row_of, shown_row}
use Rattle.journal_store.specs.Connections.{AreNumbered, Finds, HasNumbers, IsThere, Puts, PutsIn, has_key}
use Rattle.journal_store.proofs.Decoding.{shown_stored}
use Rattle.journal_store.proofs.Standing.{Stands, get_none, get_same, get_some, has_own_key, is_of, name_of_key, same_from, shows_key, tie_if}

-- ---- rows that are put and taken out

put_has : (new : Row) (rows : List Row) (x : Row) → Has (put_row new rows) x → (x ≡ new) ⊎ Has rows x
put_has new [] x (inl same) = inl same
put_has new [] x (inr none) = absurd none
put_has new (r ∷ rows) x h = go (value_cmp (rowid r) (rowid new)) (put_has new rows x) h
  where
    go : (o : Ordering) → (Has (put_row new rows) x → (x ≡ new) ⊎ Has rows x) → Has (match_ordering o (r ∷ put_row new rows) (new ∷ rows) (new ∷ r ∷ rows)) x → (x ≡ new) ⊎ Has (r ∷ rows) x
    go Less ih (inl same) = inr (inl same)
    go Less ih (inr later) = elim (ih later) [ inl same ↦ inl same | inr there ↦ inr (inr there) ]
    go Equal ih (inl same) = inl same
    go Equal ih (inr later) = inr (inr later)
    go Greater ih (inl same) = inl same
    go Greater ih (inr later) = inr later

put_there : (new : Row) (rows : List Row) → Has (put_row new rows) new
put_there new [] = inl refl
put_there new (r ∷ rows) = go (value_cmp (rowid r) (rowid new)) (put_there new rows)
  where
    go : (o : Ordering) → Has (put_row new rows) new → Has (match_ordering o (r ∷ put_row new rows) (new ∷ rows) (new ∷ r ∷ rows)) new
    go Less ih = inr ih
    go Equal ih = inl refl
    go Greater ih = inl refl

pub not_true : (b : Bool) → not b ≡ true → b ≡ false
not_true true e = absurd (cc)
not_true false e = refl

without_has : (n : ℤ) (rows : List Row) (x : Row) → Has (without_rowid n rows) x → Has rows x × (has_rowid n x ≡ false)
without_has n rows x h = let it = has_filtered (λ r. not (has_rowid n r)) rows x h in (it.0, not_true (has_rowid n x) it.1)

-- a test that no row fails which is taken out
without_rest : (p : Row → Bool) (n : ℤ) (rows : List Row) → ((x : Row) → Has rows x → p x ≡ true → has_rowid n x ≡ false) → filter p (without_rowid n rows) ≡ filter p rows
without_rest p n [] apart = refl
without_rest p n (x ∷ rows) apart =
    let ih = without_rest p n rows (λ y there is. apart y (inr there) is) in
    elim (cases_Bool (has_rowid n x)) [
      | inl gone ↦ elim (cases_Bool (p x)) [
        | inl is ↦ absurd (let stays = apart x (inl refl) is in cc)
        | inr fails ↦ rw (gone, fails) ih
      ]
      | inr stays ↦ rw stays (ap (λ l. cond (p x) (x ∷ l) l) ih)
    ]

pub only_one : {X : Type 0} (xs : List X) (x y : X) → xs ≡ x ∷ [] → Has xs y → y ≡ x
only_one xs x y is there = elim (subst (λ l. Has l y) is there) [ inl same ↦ same | inr none ↦ absurd none ]

-- ---- numbers

none_taken : (p : Row → Bool) (rows : List Row) → list_any p rows ≡ false → filter p rows ≡ []
none_taken p [] none = refl
none_taken p (r ∷ rows) none = let parts = or_parts (p r) (list_any p rows) none in rw parts.0 (none_taken p rows parts.1)

int_same : (m n : ℤ) → int_eq m n ≡ true → m ≡ n
int_same m n = (Decides-int_eq m n).0

int_apart : (m n : ℤ) → int_eq m n ≡ false → int_eq n m ≡ false
int_apart m n apart = elim (cases_Bool (int_eq n m)) [
  | inl same ↦ absurd (let again : int_eq m n ≡ true = (Decides-int_eq m n).1 (sym (int_same n m same)) in cc)
  | inr other ↦ other
]

pub own_number : (r : Row) (n : ℤ) → rowid r ≡ Int n → has_rowid n r ≡ true
own_number r n is = rowid_is r n n is ∙ (Decides-int_eq n n).1 refl

number_taken : (rows : List Row) (new : Row) (n : ℤ) → rowid new ≡ Int n → is_taken rows new ≡ false → filter (has_rowid n) rows ≡ []
number_taken rows new n is none = none_taken (has_rowid n) rows (subst (λ v. list_any (λ r. is_eq (value_cmp (rowid r) v)) rows ≡ false) is none)

empty_has : {X : Type 0} (xs : List X) (x : X) → xs ≡ [] → Has xs x → ⊥
empty_has xs x none there = subst (λ l. Has l x) none there

pub put_numbered : (new : Row) (n : ℤ) (rows : List Row) → rowid new ≡ Int n → is_taken rows new ≡ false → AreNumbered rows → AreNumbered (put_row new rows)
put_numbered new n rows number none numbered x there = elim (put_has new rows x there) [
  | inl same ↦
      let alone = put_here (has_rowid n) new rows (own_number new n number) (number_taken rows new n number none) in
      subst (λ y. (m : ℤ) × (rowid y ≡ Int m) × (filter (has_rowid m) (put_row new rows) ≡ y ∷ [])) (sym same) (n, number, alone)
  | inr old ↦
      let it = numbered x old in
      let apart : int_eq it.0 n ≡ false = elim (cases_Bool (int_eq it.0 n)) [
        | inl equal ↦ absurd (empty_has _ x (number_taken rows new n number none) (has_kept (has_rowid n) rows x old (rowid_is x it.0 n it.1 ∙ equal)))
        | inr other ↦ other
      ] in
      (it.0, it.1, put_other (has_rowid it.0) new rows (rowid_is new n it.0 number ∙ int_apart it.0 n apart) none ∙ it.2)
]

pub without_numbered : (n : ℤ) (rows : List Row) → AreNumbered rows → AreNumbered (without_rowid n rows)
without_numbered n rows numbered x there =
    let was = without_has n rows x there in
    let it = numbered x was.0 in
    (it.0, it.1, without_rest (has_rowid it.0) n rows (λ y here is. subst (λ z. has_rowid n z ≡ false) (sym (only_one (filter (has_rowid it.0) rows) x y it.2 (has_kept (has_rowid it.0) rows y here is))) was.1) ∙ it.2)

-- the one row with a number
pub numbered_one : (rows : List Row) (r x : Row) (n : ℤ) → AreNumbered rows → Has rows r → rowid r ≡ Int n → Has rows x → has_rowid n x ≡ true → x ≡ r
numbered_one rows r x n numbered there number here has =
    let it = numbered r there in
    let same : it.0 ≡ n = (let e : Int it.0 ≡ Int n = sym it.1 ∙ number in cc) in
    only_one (filter (has_rowid n) rows) r x (subst (λ m. filter (has_rowid m) rows ≡ r ∷ []) same it.2) (has_kept (has_rowid n) rows x here has)

-- ---- the table of the entry

-- a row with these columns is added with a free number, or replaces the only row with this key
abbrev pub PutsCells : Bool → (key : List ℕ) → (cells : Row) → (old new : List Row) → Type 0
PutsCells false key cells old new = (n : ℤ) × (is_taken old (Int n ∷ cells) ≡ false) × (new ≡ put_row (Int n ∷ cells) old)
PutsCells true key cells old new = (r : Row) × (n : ℤ) × (rowid r ≡ Int n) × (filter (has_key key) old ≡ r ∷ []) × (new ≡ put_row (Int n ∷ cells) (without_rowid n old))

-- what was found of a name
abbrev pub FindsIn : Kind → List ℕ → List Row → Bool → Type 0
FindsIn kind key table false = filter (has_key key) table ≡ []
FindsIn kind key table true = (r : Row) → filter (has_key key) table ≡ r ∷ [] → (e : Entry) × (entry_in kind (shown_row kind r) ≡ Some e)

puts_numbered : (is_there : Bool) (key : List ℕ) (cells : Row) (old new : List Row) → AreNumbered old → PutsCells is_there key cells old new → AreNumbered new
puts_numbered false key cells old new numbered puts = subst AreNumbered (sym puts.2) (put_numbered (Int puts.0 ∷ cells) puts.0 old refl puts.1 numbered)
puts_numbered true key cells old new numbered puts =
    let n = puts.1 in
    let fresh = free n (Int n ∷ cells) (without_rowid n old) refl (without_here n old) in
    subst AreNumbered (sym puts.4) (put_numbered (Int n ∷ cells) n (without_rowid n old) refl fresh (without_numbered n old numbered))

-- a row with these columns shows the entry
abbrev ShowsAs : Row → Entry → Type 0
ShowsAs cells entry = (n : ℤ) → entry_in (row_name entry.row).kind (shown_row (row_name entry.row).kind (Int n ∷ cells)) ≡ Some entry

-- rows of other names are as they were
puts_other : (is_there : Bool) (entry : Entry) (cells : Row) (old new : List Row) (q : RecordName) → AreNumbered old → PutsCells is_there (row_name entry.row).key cells old new → ShowsAs cells entry
    → FindsIn (row_name entry.row).kind (row_name entry.row).key old is_there → is_eq (name_cmp q (row_name entry.row)) ≡ false
    → filter (is_of (row_name entry.row).kind q) new ≡ filter (is_of (row_name entry.row).kind q) old
puts_other false entry cells old new q numbered puts shows finds apart =
    let fails : is_of (row_name entry.row).kind q (Int puts.0 ∷ cells) ≡ false = ap (tie_if q) (shows puts.0) ∙ apart in
    ap (filter (is_of (row_name entry.row).kind q)) puts.2 ∙ put_other (is_of (row_name entry.row).kind q) (Int puts.0 ∷ cells) old fails puts.1
puts_other true entry cells old new q numbered puts shows finds apart =
    let r = puts.0 in
    let n = puts.1 in
    let test = is_of (row_name entry.row).kind q in
    let fails : is_of (row_name entry.row).kind q (Int n ∷ cells) ≡ false = ap (tie_if q) (shows n) ∙ apart in
    let fresh = free n (Int n ∷ cells) (without_rowid n old) refl (without_here n old) in
    let was = has_filtered (has_key (row_name entry.row).key) old r (subst (λ l. Has l r) (sym puts.3) (inl refl)) in
    let held = finds r puts.3 in
    let held_name : row_name held.0.row ≡ row_name entry.row = name_of_key (row_name entry.row).kind r held.0 (row_name entry.row).key held.1 was.1 in
    let other : is_of (row_name entry.row).kind q r ≡ false = ap (tie_if q) held.1 ∙ ap (λ (m : RecordName). is_eq (name_cmp q m)) held_name ∙ apart in
    ap (filter test) puts.4
    ∙ put_other test (Int n ∷ cells) (without_rowid n old) fails fresh
    ∙ without_rest test n old (λ x there is. elim (cases_Bool (has_rowid n x)) [
      | inl has ↦ absurd (let same : x ≡ r = numbered_one old r x n numbered was.0 puts.2 there has in let also : test r ≡ true = subst (λ y. test y ≡ true) same is in cc)
      | inr stays ↦ stays
    ])

-- the rows of its name are the one of the entry
puts_only : (is_there : Bool) (entry : Entry) (cells : Row) (old new : List Row) → PutsCells is_there (row_name entry.row).key cells old new → ShowsAs cells entry
    → FindsIn (row_name entry.row).kind (row_name entry.row).key old is_there → (x : Row) (f : Entry) → Has new x
    → entry_in (row_name entry.row).kind (shown_row (row_name entry.row).kind x) ≡ Some f → row_name f.row ≡ row_name entry.row → f ≡ entry
puts_only false entry cells old new puts shown finds x f there shows name = elim (put_has (Int puts.0 ∷ cells) old x (subst (λ l. Has l x) puts.2 there)) [
  | inl same ↦
      let both : Some f ≡ Some entry = sym shows ∙ ap (λ y. entry_in (row_name entry.row).kind (shown_row (row_name entry.row).kind y)) same ∙ shown puts.0 in
      cc
  | inr was ↦ absurd (empty_has _ x finds (has_kept (has_key (row_name entry.row).key) old x was (has_own_key (row_name entry.row).kind x f (row_name entry.row) shows name)))
]
puts_only true entry cells old new puts shown finds x f there shows name = elim (put_has (Int puts.1 ∷ cells) (without_rowid puts.1 old) x (subst (λ l. Has l x) puts.4 there)) [
  | inl same ↦
      let both : Some f ≡ Some entry = sym shows ∙ ap (λ y. entry_in (row_name entry.row).kind (shown_row (row_name entry.row).kind y)) same ∙ shown puts.1 in
      cc
  | inr left ↦
      let was = without_has puts.1 old x left in
      let same : x ≡ puts.0 = only_one _ puts.0 x puts.3 (has_kept (has_key (row_name entry.row).key) old x was.0 (has_own_key (row_name entry.row).kind x f (row_name entry.row) shows name)) in
      absurd (let own : has_rowid puts.1 x ≡ true = subst (λ y. has_rowid puts.1 y ≡ true) (sym same) (own_number puts.0 puts.1 puts.2) in let gone = was.1 in cc)
]

puts_there : (is_there : Bool) (key : List ℕ) (cells : Row) (old new : List Row) → PutsCells is_there key cells old new → (n : ℤ) × Has new (Int n ∷ cells)
puts_there false key cells old new puts = (puts.0, subst (λ l. Has l (Int puts.0 ∷ cells)) (sym puts.2) (put_there (Int puts.0 ∷ cells) old))
puts_there true key cells old new puts = (puts.1, subst (λ l. Has l (Int puts.1 ∷ cells)) (sym puts.4) (put_there (Int puts.1 ∷ cells) (without_rowid puts.1 old)))

-- ---- both tables

pub numbers_of : (kind : Kind) (db : Trees) → HasNumbers db → AreNumbered (db (entry_tree kind))
numbers_of User db has = has.users
numbers_of Group db has = has.groups

-- the entry's columns are put into its table, and the other table stays
module _ (is_there : Bool) (entry : Entry) (cells : Row) (old new : Trees) (numbers : HasNumbers old)
    (found : FindsIn (row_name entry.row).kind (row_name entry.row).key (old (entry_tree (row_name entry.row).kind)) is_there)
    (puts : PutsCells is_there (row_name entry.row).key cells (old (entry_tree (row_name entry.row).kind)) (new (entry_tree (row_name entry.row).kind)))
    (users : (row_name entry.row).kind ≡ Group → new (entry_tree User) ≡ old (entry_tree User)) (groups : (row_name entry.row).kind ≡ User → new (entry_tree Group) ≡ old (entry_tree Group)) (shows : ShowsAs cells entry) where
  abbrev its_kind : Kind
  its_kind = (row_name entry.row).kind

  here : AreNumbered (old (entry_tree its_kind))
  here = numbers_of its_kind old numbers

  same_at : (k : Kind) (q : RecordName) → is_eq (name_cmp q (row_name entry.row)) ≡ false → filter (is_of k q) (new (entry_tree k)) ≡ filter (is_of k q) (old (entry_tree k))
  same_at k q apart = go k its_kind refl
    where
      its : (k : Kind) → its_kind ≡ k → filter (is_of k q) (new (entry_tree k)) ≡ filter (is_of k q) (old (entry_tree k))
      its k is = subst (λ j. filter (is_of j q) (new (entry_tree j)) ≡ filter (is_of j q) (old (entry_tree j))) is
          (puts_other is_there entry cells (old (entry_tree its_kind)) (new (entry_tree its_kind)) q here puts shows found apart)

      go : (k j : Kind) → its_kind ≡ j → filter (is_of k q) (new (entry_tree k)) ≡ filter (is_of k q) (old (entry_tree k))
      go User User is = its User is
      go User Group is = ap (filter (is_of User q)) (users is)
      go Group User is = ap (filter (is_of Group q)) (groups is)
      go Group Group is = its Group is

  numbers_at : (k j : Kind) → its_kind ≡ j → AreNumbered (new (entry_tree k))
  numbers_at User User is = subst (λ k. AreNumbered (new (entry_tree k))) is (puts_numbered is_there (row_name entry.row).key cells (old (entry_tree its_kind)) (new (entry_tree its_kind)) here puts)
  numbers_at User Group is = subst AreNumbered (sym (users is)) numbers.users
  numbers_at Group User is = subst AreNumbered (sym (groups is)) numbers.groups
  numbers_at Group Group is = subst (λ k. AreNumbered (new (entry_tree k))) is (puts_numbered is_there (row_name entry.row).key cells (old (entry_tree its_kind)) (new (entry_tree its_kind)) here puts)

  pub cells_numbered : HasNumbers new
  cells_numbered = record { users = numbers_at User its_kind refl; groups = numbers_at Group its_kind refl }

  stands : Stands new its_kind entry
  stands = let it = puts_there is_there (row_name entry.row).key cells (old (entry_tree its_kind)) (new (entry_tree its_kind)) puts in
      record { row = Int it.0 ∷ cells; there = it.1; shows = shows it.0 }

  get_put : get (entries_in new) (row_name entry.row) ≡ Some entry
  get_put = get_some new (row_name entry.row) entry stands refl (λ f stands_too name.
      puts_only is_there entry cells (old (entry_tree its_kind)) (new (entry_tree its_kind)) puts shows found stands_too.row f stands_too.there stands_too.shows name)

  -- the map has the entry, and all else as before
  pub cells_put : entries_in new ≡ insert (entries_in old) (row_name entry.row) entry
  cells_put = same_map names_total names_same (entries_in new) (insert (entries_in old) (row_name entry.row) entry) (λ q. elim (cases_Bool (is_eq (name_cmp q (row_name entry.row)))) [
    | inl tie ↦
        let same : q ≡ row_name entry.row = same_from q (row_name entry.row) tie in
        ap (get (entries_in new)) same ∙ get_put ∙ sym (get-insert names_total (entries_in old) (row_name entry.row) entry q ∙ rw tie refl)
    | inr apart ↦
        get_same old new q (same_at User q apart) (same_at Group q apart) ∙ sym (get-insert names_total (entries_in old) (row_name entry.row) entry q ∙ rw apart refl)
  ])

-- ---- an entry that is put whole

whole_row : (is_there : Bool) (entry : Entry) (old new : List Row) → Puts is_there entry old new → PutsCells is_there (row_name entry.row).key (row_of entry) old new
whole_row false entry old new puts = puts
whole_row true entry old new puts = puts

is_found : (db : Trees) (name : RecordName) (held : Option Entry) → Finds db name held → FindsIn name.kind name.key (db (entry_tree name.kind)) (is_some held)
is_found db name None finds = finds
is_found db name (Some e) finds = λ r is. let same : finds.0 ≡ r = (let l : finds.0 ∷ [] ≡ r ∷ [] = sym finds.1 ∙ is in cc) in (e, subst (λ y. entry_in name.kind (shown_row name.kind y) ≡ Some e) same finds.2.entry_is)

module _ (held : Option Entry) (entry : Entry) (old new : Trees) (numbers : HasNumbers old) (finds : Finds old (row_name entry.row) held)
    (puts : PutsIn (is_some held) entry old new) (back : entry_in (row_name entry.row).kind (row_of entry) ≡ Some entry) where
  found_so : FindsIn (row_name entry.row).kind (row_name entry.row).key (old (entry_tree (row_name entry.row).kind)) (is_some held)
  found_so = is_found old (row_name entry.row) held finds

  puts_so : PutsCells (is_some held) (row_name entry.row).key (row_of entry) (old (entry_tree (row_name entry.row).kind)) (new (entry_tree (row_name entry.row).kind))
  puts_so = whole_row (is_some held) entry (old (entry_tree (row_name entry.row).kind)) (new (entry_tree (row_name entry.row).kind)) puts.puts

  shows_so : ShowsAs (row_of entry) entry
  shows_so n = ap (entry_in (row_name entry.row).kind) (shown_stored n entry.row entry.confirmed entry.id) ∙ back

  pub numbers_still : HasNumbers new
  numbers_still = cells_numbered (is_some held) entry (row_of entry) old new numbers found_so puts_so puts.users puts.groups shows_so

  pub entry_put : entries_in new ≡ insert (entries_in old) (row_name entry.row) entry
  entry_put = cells_put (is_some held) entry (row_of entry) old new numbers found_so puts_so puts.users puts.groups shows_so

-- ---- what a look-up found

pub found_none : (db : Trees) (name : RecordName) → Finds db name None → get (entries_in db) name ≡ None
found_none db name none = get_none db name (λ e stands is.
    empty_has _ stands.row none (has_kept (has_key name.key) (db (entry_tree name.kind)) stands.row stands.there (has_own_key name.kind stands.row e name stands.shows is)))

pub found_some : (db : Trees) (name : RecordName) (e : Entry) → Finds db name (Some e) → (get (entries_in db) name ≡ Some e) × (row_name e.row ≡ name)
found_some db name e finds =
    let r = finds.0 in
    let was = has_filtered (has_key name.key) (db (entry_tree name.kind)) r (subst (λ l. Has l r) (sym finds.1) (inl refl)) in
    let is : row_name e.row ≡ name = name_of_key name.kind r e name.key finds.2.entry_is was.1 in (
      get_some db name e (record { row = r; there = was.0; shows = finds.2.entry_is }) is (λ f stands name_is.
          let same : stands.row ≡ r = only_one _ r stands.row finds.1 (has_kept (has_key name.key) (db (entry_tree name.kind)) stands.row stands.there (has_own_key name.kind stands.row f name stands.shows name_is)) in
          let both : Some f ≡ Some e = sym stands.shows ∙ ap (λ y. entry_in name.kind (shown_row name.kind y)) same ∙ finds.2.entry_is in
          cc),
      is,
    )

pub found_entry : (db : Trees) (name : RecordName) (held : Option Entry) → Finds db name held → get (entries_in db) name ≡ held
found_entry db name None finds = found_none db name finds
found_entry db name (Some e) finds = (found_some db name e finds).0

-- the row of an entry that is found is one that an update may replace
pub there_of : (db : Trees) (name : RecordName) (e : Entry) → HasNumbers db → Finds db name (Some e) → IsThere db name
there_of db name e numbers finds =
    let r = finds.0 in
    let was = has_filtered (has_key name.key) (db (entry_tree name.kind)) r (subst (λ l. Has l r) (sym finds.1) (inl refl)) in
    let number = numbers_of name.kind db numbers r was.0 in
    record {
      row = r;
      number = number.0;
      numbered = number.1;
      keyed = shows_key name.kind r e finds.2.entry_is ∙ ap (λ (n : RecordName). Text n.key) (found_some db name e finds).1;
      only = finds.1;
    }
