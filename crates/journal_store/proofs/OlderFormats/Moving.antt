-- Rows that are moved from the table of an older format to that of the next one.
use Rattle.std.proofs.Common.{◌≡◌, ◌==◌, ℕ, Bool, true, false, not, List, [], ◌∷◌, ◌++◌, map, filter, slice_get, Some, Ok, IsTrue, refl, sym, ap, ◌∙◌, subst, append_assoc, IsPermutation, arith}
use Rattle.std.specs.List.{list_any}
use Rattle.std.proofs.lemmas.List.{map-append}
use Rattle.std.proofs.lemmas.List.Sorted.{IsPermutation-append_comm, IsPermutation-append_left, IsPermutation-append_right, IsPermutation-filter_both, IsPermutation-refl, IsPermutation-trans}
use Rattle.sqlite_value.specs.declared.keys.Order.{Order}
use Rattle.sqlite_value.specs.declared.value.Value.{Value}
use Rattle.sqlite_value.specs.Order.{Row}
use Rattle.sqlite_sql.specs.Program.{overlay}
use Rattle.sqlite_sql.specs.Term.{Term}
use Rattle.sqlite_trees.specs.Tree.{Trees}
use Rattle.sqlite_schema.specs.declared.schema.Column.{Column}
use Rattle.sqlite_schema.specs.declared.schema.Schema.{Schema}
use Rattle.sqlite_schema.specs.declared.schema.Table.{Table}
use Rattle.sqlite_rules.specs.Lists.{Has}
use Rattle.sqlite_rules.proofs.ListLemmas.{has_filtered}
use Rattle.sqlite.specs.State.{Executes, HasCleanDisk, State, Survives}
use Rattle.sqlite.proofs.StateLemmas.{survives_then}
use Rattle.scim_key.specs.declared.records.Kind.TheVariants.{Group, User}
use Rattle.sql_tables.specs.Statements.{LeavesStore}
use Rattle.sql_tables.proofs.Editing.{IsWrite}
use Rattle.sql_tables.proofs.Leaving.{leaves_then}
use Rattle.sql_tables.proofs.Looking.{survives_same}
use Rattle.sql_tables.proofs.Selecting.{mapped, passes}
use Rattle.journal_store.specs.Older.Carrying.{AreMoved, CanMove, Moves, MovesAll, Stay, moved_from, unmoved}
use Rattle.journal_store.specs.Connections.{AreNumbered}
use Rattle.journal_store.specs.Older.Format.{copy_part_text, copy_text, empty_part_text, empty_text, first_groups, first_users, second_schema, second_users}
use Rattle.journal_store.specs.Format.{journal_schema, third_groups, third_users}
use Rattle.journal_store.specs.Tables.{keyed_table}
use Rattle.journal_store.specs.Older.Rows.{first_row, second_row}
use Rattle.journal_store.specs.Rows.{shown_row}
use Rattle.journal_store.specs.declared.older.moving.Moved.{Moved}
use Rattle.journal_store.specs.declared.older.moving.Moved.TheVariants.{FirstUsers, SecondGroups, SecondUsers}
use Rattle.journal_store.proofs.OlderFormats.Carrying.{HasNoKeys, copies, copy_command, empties, empty_command}
use Rattle.journal_store.proofs.OlderFormats.CarryTexts.{AreMoving, journal_alone, part_is, rest_is, second_alone}
use Rattle.journal_store.proofs.OlderFormats.Copying.{KeepsEach}
use Rattle.journal_store.proofs.OlderFormats.Keeping.{keeps_each, unnumbered}

-- ---- rows

-- rows that pass a test are taken out of a list, once they are in the other one
moved_shown : (p : Row → Bool) (sent kept : Row → Row) (from olds news : List Row) → IsPermutation (map sent (filter p from) ++ map kept olds) (map kept news)
    → IsPermutation (map sent from ++ map kept olds) (map sent (filter (λ r. not (p r)) from) ++ map kept news)
moved_shown p sent kept from olds news copied =
    let passed = filter p from in
    let rest = filter (λ r. not (p r)) from in
    let split : IsPermutation (map sent from) (map sent passed ++ map sent rest) =
    subst (IsPermutation (map sent from)) (map-append sent passed rest) (mapped sent from (passed ++ rest) (IsPermutation-filter_both p (λ r. not (p r)) (λ x. refl) from)) in
    let turned = IsPermutation-trans (map sent from) (map sent passed ++ map sent rest) (map sent rest ++ map sent passed) split (IsPermutation-append_comm (map sent passed) (map sent rest)) in
    let first : IsPermutation (map sent from ++ map kept olds) (map sent rest ++ (map sent passed ++ map kept olds)) =
    subst (IsPermutation (map sent from ++ map kept olds)) (append_assoc (map sent rest) (map sent passed) (map kept olds)) (IsPermutation-append_left (map kept olds) (map sent from) (map sent rest ++ map sent passed) turned) in
    IsPermutation-trans (map sent from ++ map kept olds) (map sent rest ++ (map sent passed ++ map kept olds)) (map sent rest ++ map kept news) first
    (IsPermutation-append_right (map sent rest) (map sent passed ++ map kept olds) (map kept news) copied)

none_left : (params : Row) (rows : List Row) → filter (λ r. not (passes [] params r)) rows ≡ []
none_left params [] = refl
none_left params (r ∷ rows) = none_left params rows

-- ---- the statements, over the tables of a layout

module _ {Form : Type 0} (layout : Form → Schema) (form : Form) (s t u : State) (n m : ℕ) (has : s.now.schema ≡ layout form) (alone : HasNoKeys (layout form)) where
  abbrev IsTree : ℕ → Type 0
  IsTree tree = list_any (λ (x : Table). x.tree == tree) (layout form).tables ≡ true

  moves_by : {copy drop : List ℕ} {place from_place from : ℕ} {tests terms : List Term} (params : Row) → IsWrite layout copy (copy_command place from tests terms) → IsWrite layout drop (empty_command from_place from tests) → ((db : Trees) → overlay db [] from ≡ db from)
      → (name : List ℕ) (tree : ℕ) (columns : List Column) (order : Order) → slice_get (layout form).tables place ≡ Some (keyed_table name tree columns order)
      → (from_name : List ℕ) (from_columns : List Column) (from_order : Order) → slice_get (layout form).tables from_place ≡ Some (keyed_table from_name from from_columns from_order)
      → IsTree from → (from == tree) ≡ false → IsTree tree → (tree == from) ≡ false
      → (sent kept : Row → Row) (any : (v w : Value) (rest : Row) → kept (v ∷ rest) ≡ kept (w ∷ rest)) → KeepsEach kept any (keyed_table name tree columns order) terms sent params (filter (passes tests params) (s.now.trees from))
      → AreNumbered (s.now.trees from) → AreNumbered (s.now.trees tree) → Executes copy params s t (Ok n) → Executes drop params t u (Ok m)
      → (u.now.schema ≡ layout form) × AreMoved sent kept (s.now.trees from) (s.now.trees tree) (u.now.trees from) (u.now.trees tree)
      × ((x : ℕ) → IsTree x → (x == from) ≡ false → (x == tree) ≡ false → u.now.trees x ≡ s.now.trees x) × (u.now.trees from ≡ filter (λ r. not (passes tests params r)) (s.now.trees from))
  moves_by {from = from} {tests} {terms} params copy_is drop_is own name tree columns order at from_name from_columns from_order from_at inside apart into other sent kept any same left numbers one two =
      let p = passes tests params in
      let copied = copies layout form s t n has alone params copy_is own name tree columns order at sent kept any same numbers one in
      let stays : t.now.trees from ≡ s.now.trees from = copied.2 from inside apart in
      let dropped = empties layout form t u m copied.0 alone params drop_is own from_name from_columns from_order from_at (subst AreNumbered (sym stays) left) two in
      let rest : u.now.trees from ≡ filter (λ r. not (p r)) (s.now.trees from) = dropped.1.0 ∙ ap (filter (λ r. not (p r))) stays in
      let news : u.now.trees tree ≡ t.now.trees tree = dropped.2 tree into other in
      let shown = moved_shown p sent kept (s.now.trees from) (s.now.trees tree) (t.now.trees tree) copied.1.0 in (
        dropped.0,
        record {
          shown = subst (λ l. IsPermutation (map sent (s.now.trees from) ++ map kept (s.now.trees tree)) (map sent l ++ map kept (u.now.trees tree))) (sym rest)
              (subst (λ l. IsPermutation (map sent (s.now.trees from) ++ map kept (s.now.trees tree)) (map sent (filter (λ r. not (p r)) (s.now.trees from)) ++ map kept l)) (sym news) shown);
          left_numbered = dropped.1.1;
          numbered = subst AreNumbered (sym news) copied.1.1;
          among = λ r there. (has_filtered (λ x. not (p x)) (s.now.trees from) r (subst (λ l. Has l r) rest there)).0;
        },
        λ x there not_from not_into. dropped.2 x there not_from ∙ copied.2 x there not_into,
        rest,
      )

-- ---- the tables

module _ (s t u : State) (n m : ℕ) where
  moved_so : (table : Moved) {tests : List Term} {copy drop : List ℕ} (params : Row) → AreMoving table tests copy drop → CanMove table s → Executes copy params s t (Ok n) → Executes drop params t u (Ok m)
      → Moves table s u × (u.now.trees (moved_from table) ≡ filter (λ r. not (passes tests params r)) (s.now.trees (moved_from table)))
  moved_so FirstUsers {tests} params is can one two =
      let f = can.both.form in
      let passed = filter (passes tests params) (s.now.trees 1) in
      let it = moves_by second_schema f s t u n m can.both.is (second_alone f) params is.copies is.empties (λ _. refl) second_users.name 5 second_users.columns f.users refl first_users.name first_users.columns f.first.users refl refl refl refl refl
      (first_row User) (second_row User) (unnumbered FirstUsers) (keeps_each FirstUsers f.users params passed (λ r there. can.shown r (has_filtered (passes tests params) (s.now.trees 1) r there).0)) can.left_numbered can.numbered one two in
      (record { both = record { form = f; is = it.0 }; moved = it.1; others = (it.2 0 refl refl refl, (it.2 3 refl refl refl, tt)) }, it.3)
  moved_so SecondUsers {tests} params is can one two =
      let f = can.both.form in
      let passed = filter (passes tests params) (s.now.trees 5) in
      let it = moves_by journal_schema f s t u n m can.both.is (journal_alone f) params is.copies is.empties (λ _. refl) third_users.name 7 third_users.columns f.users refl second_users.name second_users.columns f.second.users refl refl refl refl refl
      (second_row User) (shown_row User) (unnumbered SecondUsers) (keeps_each SecondUsers f.users params passed (λ r there. can.shown r (has_filtered (passes tests params) (s.now.trees 5) r there).0)) can.left_numbered can.numbered one two in
      (record { both = record { form = f; is = it.0 }; moved = it.1; others = (it.2 0 refl refl refl, (it.2 1 refl refl refl, (it.2 3 refl refl refl, (it.2 9 refl refl refl, tt)))) }, it.3)
  moved_so SecondGroups {tests} params is can one two =
      let f = can.both.form in
      let passed = filter (passes tests params) (s.now.trees 3) in
      let it = moves_by journal_schema f s t u n m can.both.is (journal_alone f) params is.copies is.empties (λ _. refl) third_groups.name 9 third_groups.columns f.groups refl first_groups.name first_groups.columns f.second.first.groups refl refl refl refl refl
      (second_row Group) (shown_row Group) (unnumbered SecondGroups) (keeps_each SecondGroups f.groups params passed (λ r there. can.shown r (has_filtered (passes tests params) (s.now.trees 3) r there).0)) can.left_numbered can.numbered one two in
      (record { both = record { form = f; is = it.0 }; moved = it.1; others = (it.2 0 refl refl refl, (it.2 1 refl refl refl, (it.2 5 refl refl refl, (it.2 7 refl refl refl, tt)))) }, it.3)

  pub part_moves : (table : Moved) (copy drop : List ℕ) (params : Row) → copy ≡ copy_part_text table → drop ≡ empty_part_text table → CanMove table s → Executes copy params s t (Ok n) → Executes drop params t u (Ok m) → Moves table s u
  part_moves table copy drop params copy_is drop_is can one two =
      (moved_so table params (part_is table) can (subst (λ sql. Executes sql params s t (Ok n)) copy_is one) (subst (λ sql. Executes sql params t u (Ok m)) drop_is two)).0

  pub rest_moves : (table : Moved) (copy drop : List ℕ) (params : Row) → copy ≡ copy_text table → drop ≡ empty_text table → CanMove table s → Executes copy params s t (Ok n) → Executes drop params t u (Ok m) → MovesAll table s u
  rest_moves table copy drop params copy_is drop_is can one two =
      let it = moved_so table params (rest_is table) can (subst (λ sql. Executes sql params s t (Ok n)) copy_is one) (subst (λ sql. Executes sql params t u (Ok m)) drop_is two) in
      record { moves = it.0; none = it.1 ∙ none_left params (s.now.trees (moved_from table)) }

-- ---- parts, one after another

stay_same : (trees : List ℕ) (db : Trees) → Stay trees db db
stay_same [] db = tt
stay_same (tree ∷ trees) db = (refl, stay_same trees db)

stay_then : (trees : List ℕ) (a b c : Trees) → Stay trees a b → Stay trees b c → Stay trees a c
stay_then [] a b c one two = tt
stay_then (tree ∷ trees) a b c one two = (two.0 ∙ one.0, stay_then trees a b c one.1 two.1)

moves_none : (table : Moved) (s : State) → CanMove table s → Moves table s s
moves_none table s can = record {
  both = can.both;
  moved = record { shown = IsPermutation-refl _; left_numbered = can.left_numbered; numbered = can.numbered; among = λ r there. there };
  others = stay_same (unmoved table) s.now.trees;
}

pub moves_then : (table : Moved) (a b c : State) → Moves table a b → Moves table b c → Moves table a c
moves_then table a b c one two = record {
  both = two.both;
  moved = record {
    shown = IsPermutation-trans _ _ _ one.moved.shown two.moved.shown;
    left_numbered = two.moved.left_numbered;
    numbered = two.moved.numbered;
    among = λ r there. one.moved.among r (two.moved.among r there);
  };
  others = stay_then (unmoved table) a.now.trees b.now.trees c.now.trees one.others two.others;
}

pub can_still : (table : Moved) (old new : State) → CanMove table old → Moves table old new → CanMove table new
can_still table old new can moves = record {
  both = moves.both;
  left_numbered = moves.moved.left_numbered;
  numbered = moves.moved.numbered;
  shown = λ r there. can.shown r (moves.moved.among r there);
}

-- in a transaction some rows of the table are moved so far
pub record MovedSoFar (table : Moved) (old now : State) : Type 0 where
  pub inside : HasCleanDisk now → IsTrue now.in_transaction
  pub left : HasCleanDisk now → LeavesStore old now
  pub quiet : Survives old now (λ _. ⊥)
  pub moves : HasCleanDisk now → IsTrue now.is_open → Moves table old now

module _ (table : Moved) (old : State) (movable : HasCleanDisk old → IsTrue old.is_open → CanMove table old) where
  pub moved_none : (HasCleanDisk old → IsTrue old.in_transaction) → MovedSoFar table old old
  moved_none inside = record {
    inside = inside;
    left = λ clean. record { was_open = λ opened. opened; committed = λ opened. refl };
    quiet = survives_same old (λ _. ⊥);
    moves = λ clean opened. moves_none table old (movable clean opened);
  }

  pub movable_still : (now : State) → MovedSoFar table old now → HasCleanDisk now → IsTrue now.is_open → CanMove table now
  movable_still now so_far clean opened =
      let first : HasCleanDisk old = omega (arith, clean, so_far.quiet.clean) in
      can_still table old now (movable first ((so_far.left clean).was_open opened)) (so_far.moves clean opened)

pub moved_next : (table : Moved) (old mid new : State) → MovedSoFar table old mid → (HasCleanDisk new → IsTrue new.in_transaction) → (HasCleanDisk new → LeavesStore mid new) → Survives mid new (λ _. ⊥) → (HasCleanDisk new → Moves table mid new) → MovedSoFar table old new
moved_next table old mid new so_far inside left quiet moves = record {
  inside = inside;
  left = λ clean. leaves_then old mid new (so_far.left (before clean)) (left clean);
  quiet = survives_then old mid new _ _ (λ _. ⊥) (λ _ db it. it) (λ _ db it. it) so_far.quiet quiet;
  moves = λ clean opened. moves_then table old mid new (so_far.moves (before clean) ((left clean).was_open opened)) (moves clean);
}
  where
    before : HasCleanDisk new → HasCleanDisk mid
    before clean = omega (arith, clean, quiet.clean)
