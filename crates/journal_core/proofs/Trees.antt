-- The order of names, and trees of names as maps.
use Rattle.std.proofs.Common.{◌≡◌, true, cond, length, List, [], ◌∷◌, Some, map, refl, ap, sym, ◌∙◌, arith}
use Rattle.std.specs.BTreeMap.{BTreeMap, Updates, IsOrdered, get as get_in}
use Rattle.std.specs.FinMap.{FinMap, IsAntisymmetric, entries, from_entries, get, insert, get-insert, empty, get-from_entries, entries-insert, len-empty, len-entries, same_map}
use Rattle.std.specs.FinMap.Entries.{by_order, find, put}
use Rattle.std.specs.List.{AllByRecursion}
use Rattle.std.specs.List.Sorted.{IsStrictlySortedBy}
use Rattle.std.specs.Map.{lookup}
use Rattle.std.specs.Ordering.{is_eq, ordering_reverse}
use Rattle.std.specs.declared.cmp.Ordering.{Ordering}
use Rattle.std.specs.declared.cmp.Ordering.TheVariants.{Less, Equal, Greater}
use Rattle.scim_key.proofs.RecordLaws.{same as same_names}
use Rattle.scim_key.specs.RecordOrder.{names_total, tied}
use Rattle.scim_key.specs.Records.{name_cmp, same_name}
use Rattle.scim_key.specs.declared.records.RecordName.{RecordName}

-- ---- the order of names

pub name_from_test : (a b : RecordName) → same_name a b ≡ true → a ≡ b
name_from_test a b = (same_names a b).0

pub names_same : IsAntisymmetric name_cmp
names_same a b e = name_from_test a b (sym (tied a b) ∙ ap is_eq e)

reversed : (o : Ordering) → is_eq (ordering_reverse o) ≡ is_eq o
reversed Less = refl
reversed Equal = refl
reversed Greater = refl

-- the test the other way about
pub turned : (a b : RecordName) → is_eq (name_cmp a b) ≡ is_eq (name_cmp b a)
turned a b = ap is_eq (names_total.antisymm a b) ∙ reversed (name_cmp b a)

-- ---- a tree as a map

module _ {X : Type 0} where
  found : (q : RecordName) (es : List (RecordName × X)) → find name_cmp q es ≡ lookup (λ k. is_eq (name_cmp q k)) es
  found q [] = refl
  found q (e ∷ es) = ap (cond (is_eq (name_cmp q e.0)) (Some e.1)) (found q es)

  abbrev pub map_of : BTreeMap RecordName X → FinMap name_cmp X
  map_of tree = from_entries tree.entries

  pub get-tree : (tree : BTreeMap RecordName X) (q : RecordName) → get (map_of tree) q ≡ get_in name_cmp tree q
  get-tree tree q = get-from_entries names_total tree.entries q ∙ found q tree.entries

  -- putting into the tree is putting into the map
  pub insert-tree : (old new : BTreeMap RecordName X) (k : RecordName) (v : X) → Updates name_cmp old new k (Some v) → map_of new ≡ insert (map_of old) k v
  insert-tree old new k v updates = same_map names_total names_same _ _ (λ q.
      get-tree new q ∙ updates.0 q ∙ ap (λ o. cond (is_eq (name_cmp k q)) (Some v) o) (sym (get-tree old q))
      ∙ ap (λ b. cond b (Some v) (get (map_of old) q)) (turned k q) ∙ sym (get-insert names_total (map_of old) k v q))

  first-put : (k : RecordName) (v : X) (es : List (RecordName × X)) → AllByRecursion (λ y. name_cmp k y ≡ Less) (map (λ e. e.0) es) → put name_cmp k v es ≡ (k, v) ∷ es
  first-put k v [] below = refl
  first-put k v (e ∷ es) below = ap (λ r. by_order r ((k, v) ∷ e ∷ es) ((e.0, v) ∷ es) (e ∷ put name_cmp k v es)) below.0

  nothing : (es : List (RecordName × X)) → length es ≡ 0 → es ≡ []
  nothing [] none = refl
  nothing (e ∷ es) none = absurd (omega arith)

  pub listed : (es : List (RecordName × X)) → IsStrictlySortedBy name_cmp (map (λ e. e.0) es) → entries (from_entries {R = name_cmp} es) ≡ es
  unfolding IsStrictlySortedBy
  listed [] sorted = nothing (entries (empty {X = X} {R = name_cmp})) (sym (len-entries (empty {X = X} {R = name_cmp})) ∙ len-empty name_cmp X)
  listed (e ∷ es) sorted =
      entries-insert names_total (from_entries es) e.0 e.1 ∙ ap (put name_cmp e.0 e.1) (listed es sorted.1) ∙ first-put e.0 e.1 es sorted.0

  -- the map has the entries of the tree, in their order
  pub entries-tree : (tree : BTreeMap RecordName X) → IsOrdered name_cmp tree → entries (map_of tree) ≡ tree.entries
  entries-tree tree ordered = listed tree.entries ordered
