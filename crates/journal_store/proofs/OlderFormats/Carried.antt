-- What a store holds that was carried over from another format.
use Rattle.std.proofs.Common.{◌≡◌, ◌++◌, ℕ, pos, List, [], ◌∷◌, map, Ok, refl, sym, ap, ◌∙◌, subst, IsPermutation}
use Rattle.std.proofs.lemmas.List.{append-nil}
use Rattle.std.specs.FinMap.{find, get-entries, same_map}
use Rattle.std.proofs.lemmas.List.Sorted.{IsPermutation-refl, IsPermutation-sym, IsPermutation-trans}
use Rattle.sqlite_value.specs.declared.keys.Order.{Order}
use Rattle.sqlite_value.specs.declared.value.Value.{Value}
use Rattle.sqlite_value.specs.declared.value.Value.TheVariants.{Int}
use Rattle.sqlite_value.specs.Order.{Row, column}
use Rattle.sqlite.specs.State.{State, Executes}
use Rattle.scim_key.specs.RecordOrder.{names_total}
use Rattle.scim_key.specs.Records.{name_cmp}
use Rattle.scim_key.specs.declared.records.Kind.{Kind}
use Rattle.scim_key.specs.declared.records.Kind.TheVariants.{User, Group}
use Rattle.journal_core.specs.Entries.{EntryMap, IsListOf}
use Rattle.journal_core.specs.declared.entries.Entry.{Entry}
use Rattle.journal_core.proofs.Trees.{names_same}
use Rattle.sql_tables.specs.Layouts.{IsFormat}
use Rattle.sql_tables.proofs.Making.{creates}
use Rattle.journal_store.specs.Batches.{settled}
use Rattle.journal_store.specs.Older.Carrying.{AreMoved, CanMove, IsCopied, MakesTables, MovesAll, ShowsEach}
use Rattle.journal_store.specs.Connections.{AreNumbered, ListsAllBy, Shows}
use Rattle.journal_store.specs.Older.Format.{FirstForm, create_second_text, first_schema, first_tree, remark_text, second_number, second_schema, second_tree, second_users}
use Rattle.journal_store.specs.Format.{create_text, entry_tree, format_number, journal_schema, third_groups, third_users}
use Rattle.journal_store.specs.Tables.{format_name, table_of}
use Rattle.journal_store.specs.Formats.{FormatData, current_format}
use Rattle.journal_store.specs.Older.Formats.{first_format, second_format}
use Rattle.journal_store.specs.Opening.{IsFirstStore, IsSecond, IsSecondStore, IsStore, IsStoreBy}
use Rattle.journal_store.specs.Rows.{entries_by, shown_row}
use Rattle.journal_store.specs.Older.Rows.{first_row, second_row}
use Rattle.journal_store.specs.declared.older.moving.Moved.TheVariants.{FirstUsers, SecondGroups, SecondUsers}
use Rattle.journal_store.proofs.OlderFormats.CarryTexts.{groups_created, groups_made, journal_alone, remark_is, remark_second_is, second_alone, second_created, second_made, users_created, users_made, users_schema}
use Rattle.journal_store.proofs.OlderFormats.Carrying.{renumbers}
use Rattle.journal_store.proofs.Loading.{lists_both, map_has, permuted, zip_left}

pub by_kind : (P : Kind → Type 0) → P User → P Group → (kind : Kind) → P kind
by_kind P user group User = user
by_kind P user group Group = group

-- ---- the tables of a format

-- each row that is listed shows an entry
pub shows_each : (kind : Kind) (columns : Row → Row) (table : List Row) (list : List Entry) → ListsAllBy (Shows kind) columns table list → ShowsEach kind columns table
shows_each kind columns table list lists r there =
    let among = permuted lists.rows (map columns table) (columns r) (IsPermutation-sym (map columns table) lists.rows lists.all) (map_has columns table r there) in
    let it = zip_left (Shows kind) lists.rows list (columns r) lists.shown.each among in
    (it.0, it.2)

-- the one row of the format
one_row : (table : List Row) (v : Value) → map (λ (r : Row). column r 2) table ≡ v ∷ [] → (r : Row) × (table ≡ r ∷ [])
one_row [] v is = absurd (cc)
one_row (r ∷ []) v is = (r, refl)
one_row (r ∷ x ∷ table) v is = absurd (cc)

-- a table that stays is a copy of itself
stays_copied : (columns : Row → Row) (old new : List Row) → AreNumbered old → new ≡ old → IsCopied columns columns old new
stays_copied columns old new numbers same = subst (IsCopied columns columns old) (sym same) (record { shown = IsPermutation-refl (map columns old); numbered = numbers })

-- ---- what is copied is listed

copied_lists : (kind : Kind) (sent kept : Row → Row) (old new : List Row) (list : List Entry) → IsCopied sent kept old new → ListsAllBy (Shows kind) sent old list → ListsAllBy (Shows kind) kept new list
copied_lists kind sent kept old new list copied lists = record {
  rows = lists.rows;
  all = IsPermutation-trans (map kept new) (map sent old) lists.rows (IsPermutation-sym (map sent old) (map kept new) copied.shown) lists.all;
  shown = lists.shown;
}

-- two maps with the same list of entries
same_list : (m n : EntryMap) (list : List Entry) → IsListOf m list → IsListOf n list → m ≡ n
same_list m n list a b = same_map names_total names_same m n (λ q. get-entries m q ∙ ap (find name_cmp q) (a.whole ∙ sym b.whole) ∙ sym (get-entries n q))

-- a store whose tables are copies of those of another format
module _ (from to : FormatData) where
  pub carried_store : (old new : State) (held : EntryMap) → IsStoreBy from old held → (form : to.form) → new.now.schema ≡ to.layout form → IsFormat new to.number
      → ((kind : Kind) → IsCopied (from.columns kind) (to.columns kind) (old.now.trees (from.tree kind)) (new.now.trees (to.tree kind))) → IsStoreBy to (settled new) held
  carried_store old new held it form schema format copied =
      let users = it.holds.users in
      let groups = it.holds.groups in
      let all_users = copied_lists User (from.columns User) (to.columns User) (old.now.trees (from.tree User)) (new.now.trees (to.tree User)) users (copied User) it.holds.all_users in
      let all_groups = copied_lists Group (from.columns Group) (to.columns Group) (old.now.trees (from.tree Group)) (new.now.trees (to.tree Group)) groups (copied Group) it.holds.all_groups in
      record {
        laid = record { form = form; schema = schema; committed = refl; autocommit = refl };
        format = format;
        numbers = record { users = (copied User).numbered; groups = (copied Group).numbered };
        holds = record { users = users; groups = groups; all_users = all_users; all_groups = all_groups; lawful = it.holds.lawful };
        are = same_list (entries_by to.tree to.columns new.now.trees) (entries_by from.tree from.columns old.now.trees) (users ++ groups)
            (lists_both to.tree to.columns new.now.trees users groups all_users all_groups) (lists_both from.tree from.columns old.now.trees users groups it.holds.all_users it.holds.all_groups)
            ∙ it.are;
      }

-- ---- all rows of a table are moved

all_moved : (sent kept : Row → Row) (old new_from new : List Row) (into : List Row) → into ≡ [] → new_from ≡ [] → AreMoved sent kept old into new_from new → IsCopied sent kept old new
all_moved sent kept old new_from new into empty none moved = record {
  shown = subst (λ l. IsPermutation l (map kept new)) (append-nil (map sent old))
      (subst (λ l. IsPermutation (map sent old ++ map kept l) (map kept new)) empty (subst (λ l. IsPermutation (map sent old ++ map kept into) (map sent l ++ map kept new)) none moved.shown));
  numbered = moved.numbered;
}

no_numbers : AreNumbered []
no_numbers r there = absurd there

-- ---- from the first format to the second one

module _ (s0 s1 : State) (n1 : ℕ) (one : Executes create_second_text [] s0 s1 (Ok n1)) (held : EntryMap) (it : IsFirstStore (settled s0) held) where
  abbrev form : FirstForm
  form = it.laid.form

  abbrev users : Order
  users = (second_made form).0

  made : (s1.now.schema ≡ second_schema (record { first = form; users = users })) × (s1.now.trees 5 ≡ []) × (s1.now.trees 0 ≡ s0.now.trees 0) × (s1.now.trees 1 ≡ s0.now.trees 1) × (s1.now.trees 3 ≡ s0.now.trees 3)
  made =
      let all = creates create_second_text (first_schema form) (record (table_of second_users users) { tree = 0 }) s0 s1 n1 (second_made form).1 refl it.laid.schema one in
      (all.0 ∙ second_created form users, all.1, all.2.0, all.2.1.0, all.2.1.1.0)

  pub first_movable : CanMove FirstUsers s1
  first_movable = record {
    both = record { form = record { first = form; users = users }; is = made.0 };
    left_numbered = subst AreNumbered (sym made.3) it.numbers.users;
    numbered = subst AreNumbered (sym made.1) no_numbers;
    shown = subst (ShowsEach User (first_row User)) (sym made.3) (shows_each User (first_row User) (s0.now.trees 1) it.holds.users it.holds.all_users);
  }

  module _ (s2 s3 : State) (n3 : ℕ) (moved : MovesAll FirstUsers s1 s2) (last : Executes remark_text (Int (pos second_number) ∷ []) s2 s3 (Ok n3)) (changed : n3 ≡ 1) where
    pub first_carried : IsSecondStore (settled s3) held × (s3.now.trees 1 ≡ [])
    first_carried =
        let f = moved.moves.both.form in
        let mark = one_row (s0.now.trees 0) (Int (pos 1)) it.format in
        let format : s2.now.trees 0 ≡ mark.0 ∷ [] = moved.moves.others.0 ∙ made.2 ∙ mark.1 in
        let marked = renumbers second_schema f s2 s3 n3 moved.moves.both.is (second_alone f) remark_second_is format_name f.first.format_checks refl (pos second_number) mark.0 format changed last in
        let groups : s3.now.trees 3 ≡ s0.now.trees 3 = marked.2 3 refl refl ∙ moved.moves.others.1.0 ∙ made.4 in
        let copied : IsCopied (first_row User) (second_row User) (s1.now.trees 1) (s2.now.trees 5) = all_moved (first_row User) (second_row User) (s1.now.trees 1) (s2.now.trees 1) (s2.now.trees 5) (s1.now.trees 5) made.1 moved.none moved.moves.moved in
        let all_users : IsCopied (first_row User) (second_row User) (s0.now.trees 1) (s3.now.trees 5) =
        subst (λ t. IsCopied (first_row User) (second_row User) t (s3.now.trees 5)) made.3 (subst (IsCopied (first_row User) (second_row User) (s1.now.trees 1)) (sym (marked.2 5 refl refl)) copied) in (
          carried_store first_format second_format (settled s0) s3 held it f marked.0 marked.1
              (by_kind (λ kind. IsCopied (first_row kind) (second_row kind) (s0.now.trees (first_tree kind)) (s3.now.trees (second_tree kind))) all_users (stays_copied (second_row Group) (s0.now.trees 3) (s3.now.trees 3) it.numbers.groups groups)),
          marked.2 1 refl refl ∙ moved.none,
        )

-- ---- from the second format to the current one

pub tables_made : (s0 s1 s2 : State) (n1 n2 : ℕ) → IsSecond s0.now.schema → Executes (create_text User) [] s0 s1 (Ok n1) → Executes (create_text Group) [] s1 s2 (Ok n2) → MakesTables s0 s2
tables_made s0 s1 s2 n1 n2 second one two =
    let f = second.form in
    let u = users_made f in
    let first = creates (create_text User) (second_schema f) (record (table_of third_users u.0) { tree = 0 }) s0 s1 n1 u.1 refl second.is one in
    let g = groups_made f u.0 in
    let last = creates (create_text Group) (users_schema f u.0) (record (table_of third_groups g.0) { tree = 0 }) s1 s2 n2 g.1 refl (first.0 ∙ users_created f u.0) two in
    record {
      journal = record { form = record { second = f; users = u.0; groups = g.0 }; is = last.0 ∙ groups_created f u.0 g.0 };
      empty = by_kind (λ kind. s2.now.trees (entry_tree kind) ≡ []) (last.2.1.1.1.1.0 ∙ first.1) last.1;
      seconds = by_kind (λ kind. s2.now.trees (second_tree kind) ≡ s0.now.trees (second_tree kind)) (last.2.1.1.1.0 ∙ first.2.1.1.1.0) (last.2.1.1.0 ∙ first.2.1.1.0);
      others = (last.2.0 ∙ first.2.0, (last.2.1.0 ∙ first.2.1.0, tt));
    }

-- what the store before shows of its tables still holds while they are moved
module _ (s0 s1 : State) (held : EntryMap) (it : IsSecondStore (settled s0) held) (made : MakesTables s0 s1) where
  pub users_movable : CanMove SecondUsers s1
  users_movable = record {
    both = made.journal;
    left_numbered = subst AreNumbered (sym (made.seconds User)) it.numbers.users;
    numbered = subst AreNumbered (sym (made.empty User)) no_numbers;
    shown = subst (ShowsEach User (second_row User)) (sym (made.seconds User)) (shows_each User (second_row User) (s0.now.trees 5) it.holds.users it.holds.all_users);
  }

  module _ (s2 : State) (users : MovesAll SecondUsers s1 s2) where
    pub groups_movable : CanMove SecondGroups s2
    groups_movable =
        let same : s2.now.trees 3 ≡ s0.now.trees 3 = users.moves.others.1.1.0 ∙ made.seconds Group in
        record {
          both = users.moves.both;
          left_numbered = subst AreNumbered (sym same) it.numbers.groups;
          numbered = subst AreNumbered (sym (users.moves.others.1.1.1.0 ∙ made.empty Group)) no_numbers;
          shown = subst (ShowsEach Group (second_row Group)) (sym same) (shows_each Group (second_row Group) (s0.now.trees 3) it.holds.groups it.holds.all_groups);
        }

    pub second_carried : (s3 s4 : State) (n : ℕ) → MovesAll SecondGroups s2 s3 → Executes remark_text (Int (pos format_number) ∷ []) s3 s4 (Ok n) → n ≡ 1 → IsStore (settled s4) held × ((kind : Kind) → s4.now.trees (second_tree kind) ≡ []) × (s4.now.trees 1 ≡ s0.now.trees 1)
    second_carried s3 s4 n groups last changed =
        let f = groups.moves.both.form in
        let mark = one_row (s0.now.trees 0) (Int (pos 2)) it.format in
        let format : s3.now.trees 0 ≡ mark.0 ∷ [] = groups.moves.others.0 ∙ users.moves.others.0 ∙ made.others.0 ∙ mark.1 in
        let marked = renumbers journal_schema f s3 s4 n groups.moves.both.is (journal_alone f) remark_is format_name f.second.first.format_checks refl (pos format_number) mark.0 format changed last in
        let user_rows : s4.now.trees 7 ≡ s2.now.trees 7 = marked.2 7 refl refl ∙ groups.moves.others.1.1.1.0 in
        let group_rows : s4.now.trees 9 ≡ s3.now.trees 9 = marked.2 9 refl refl in
        let left : s2.now.trees 3 ≡ s1.now.trees 3 = users.moves.others.1.1.0 in
        let all = λ (kind : Kind) (t : List Row). IsCopied (second_row kind) (shown_row kind) t (s4.now.trees (entry_tree kind)) in
        let all_users : IsCopied (second_row User) (shown_row User) (s1.now.trees 5) (s2.now.trees 7) = all_moved (second_row User) (shown_row User) (s1.now.trees 5) (s2.now.trees 5) (s2.now.trees 7) (s1.now.trees 7) (made.empty User) users.none users.moves.moved in
        let all_groups : IsCopied (second_row Group) (shown_row Group) (s2.now.trees 3) (s3.now.trees 9) = all_moved (second_row Group) (shown_row Group) (s2.now.trees 3) (s3.now.trees 3) (s3.now.trees 9) (s2.now.trees 9) (users.moves.others.1.1.1.0 ∙ made.empty Group) groups.none groups.moves.moved in (
          carried_store second_format current_format (settled s0) s4 held it f marked.0 marked.1 (by_kind (λ kind. all kind (s0.now.trees (second_tree kind)))
              (subst (all User) (made.seconds User) (subst (IsCopied (second_row User) (shown_row User) (s1.now.trees 5)) (sym user_rows) all_users))
              (subst (all Group) (left ∙ made.seconds Group) (subst (IsCopied (second_row Group) (shown_row Group) (s2.now.trees 3)) (sym group_rows) all_groups))),
          by_kind (λ kind. s4.now.trees (second_tree kind) ≡ []) (marked.2 5 refl refl ∙ groups.moves.others.1.1.0 ∙ users.none) (marked.2 3 refl refl ∙ groups.none),
          marked.2 1 refl refl ∙ groups.moves.others.1.0 ∙ users.moves.others.1.0 ∙ made.others.1.0,
        )
