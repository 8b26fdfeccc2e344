-- Two trees by key as one book by name.
use Rattle.std.proofs.Common.{◌≡◌, ℕ, suc, ◌+◌, cond, length, List, [], ◌∷◌, ◌++◌, Option, Some, None, IsSome, map, refl, ap, sym, subst, ◌∙◌, arith}
use Rattle.std.specs.BTreeMap as tree
use Rattle.std.specs.BTreeMap.{Updates, IsOrdered}
use Rattle.std.specs.FinMap.{get, insert, keys, remove, get-insert, get-remove, get-from_entries, same_map}
use Rattle.std.specs.FinMap.Entries.{find}
use Rattle.std.specs.List.{AllByRecursion, count_by}
use Rattle.std.specs.List.Sorted.{IsStrictlySortedBy}
use Rattle.std.specs.Map.{lookup}
use Rattle.std.specs.Option.{option_map}
use Rattle.std.specs.Ordering.{is_eq}
use Rattle.std.specs.declared.cmp.Ordering.TheVariants.{Less}
use Rattle.std.proofs.lemmas.List.Sums.{sum_by-cons}
use Rattle.scim_key.specs.RecordOrder.{names_total}
use Rattle.scim_key.specs.Records.{name_cmp}
use Rattle.scim_key.specs.declared.records.Kind.{Kind}
use Rattle.scim_key.specs.declared.records.Kind.TheVariants.{User, Group}
use Rattle.scim_key.specs.declared.records.RecordName.{RecordName}
use Rattle.journal_core.specs.Entries.{count_of}
use Rattle.journal_core.proofs.Trees.{listed, names_same, turned}
use Rattle.connector_core.specs.History.{same_kind}
use Rattle.connector_core.specs.Maps.{BookMap, changed, changed_at}
use Rattle.connector_core.specs.Trees.{Tree, book_in, key_cmp, named_in, of}
use Rattle.connector_core.specs.declared.knowledge.Known.{Known}

abbrev Entries : Type 0
Entries = List (List ℕ × Known)

-- ---- what is read

no-user : (key : List ℕ) (gs : Entries) → find name_cmp (of User key) (named_in Group gs) ≡ None
no-user key [] = refl
no-user key (g ∷ gs) = no-user key gs

user-found : (key : List ℕ) (us gs : Entries) → find name_cmp (of User key) (named_in User us ++ named_in Group gs) ≡ lookup (λ k. is_eq (key_cmp key k)) us
user-found key [] gs = no-user key gs
user-found key (u ∷ us) gs = ap (cond (is_eq (key_cmp key u.0)) (Some u.1)) (user-found key us gs)

group-only : (key : List ℕ) (gs : Entries) → find name_cmp (of Group key) (named_in Group gs) ≡ lookup (λ k. is_eq (key_cmp key k)) gs
group-only key [] = refl
group-only key (g ∷ gs) = ap (cond (is_eq (key_cmp key g.0)) (Some g.1)) (group-only key gs)

group-found : (key : List ℕ) (us gs : Entries) → find name_cmp (of Group key) (named_in User us ++ named_in Group gs) ≡ lookup (λ k. is_eq (key_cmp key k)) gs
group-found key [] gs = group-only key gs
group-found key (u ∷ us) gs = group-found key us gs

pub get-user : (us gs : Tree) (key : List ℕ) → get (book_in us gs) (of User key) ≡ tree.get key_cmp us key
get-user us gs key = get-from_entries names_total (named_in User us.entries ++ named_in Group gs.entries) (of User key) ∙ user-found key us.entries gs.entries

pub get-group : (us gs : Tree) (key : List ℕ) → get (book_in us gs) (of Group key) ≡ tree.get key_cmp gs key
get-group us gs key = get-from_entries names_total (named_in User us.entries ++ named_in Group gs.entries) (of Group key) ∙ group-found key us.entries gs.entries

-- ---- what changes

-- the test of a map, the other way about
keys-turned : (a b : List ℕ) → is_eq (key_cmp a b) ≡ is_eq (key_cmp b a)
keys-turned a b = turned (of User a) (of User b)

pub put-user : (old new gs : Tree) (key : List ℕ) (known : Known) → Updates key_cmp old new key (Some known) → book_in new gs ≡ insert (book_in old gs) (of User key) known
put-user old new gs key known updates = same_map names_total names_same _ _ (λ q. at q.kind q.key)
  where
    at : (kind : Kind) (k : List ℕ) → get (book_in new gs) (of kind k) ≡ get (insert (book_in old gs) (of User key) known) (of kind k)
    at User k = get-user new gs k ∙ updates.0 k ∙ ap (λ b. cond b (Some known) (tree.get key_cmp old k)) (keys-turned key k)
        ∙ ap (cond (is_eq (key_cmp k key)) (Some known)) (sym (get-user old gs k)) ∙ sym (get-insert names_total (book_in old gs) (of User key) known (of User k))
    at Group k = get-group new gs k ∙ sym (get-group old gs k) ∙ sym (get-insert names_total (book_in old gs) (of User key) known (of Group k))

pub put-group : (us old new : Tree) (key : List ℕ) (known : Known) → Updates key_cmp old new key (Some known) → book_in us new ≡ insert (book_in us old) (of Group key) known
put-group us old new key known updates = same_map names_total names_same _ _ (λ q. at q.kind q.key)
  where
    at : (kind : Kind) (k : List ℕ) → get (book_in us new) (of kind k) ≡ get (insert (book_in us old) (of Group key) known) (of kind k)
    at Group k = get-group us new k ∙ updates.0 k ∙ ap (λ b. cond b (Some known) (tree.get key_cmp old k)) (keys-turned key k)
        ∙ ap (cond (is_eq (key_cmp k key)) (Some known)) (sym (get-group us old k)) ∙ sym (get-insert names_total (book_in us old) (of Group key) known (of Group k))
    at User k = get-user us new k ∙ sym (get-user us old k) ∙ sym (get-insert names_total (book_in us old) (of Group key) known (of User k))

pub drop-user : (old new gs : Tree) (key : List ℕ) → Updates key_cmp old new key None → book_in new gs ≡ remove (book_in old gs) (of User key)
drop-user old new gs key updates = same_map names_total names_same _ _ (λ q. at q.kind q.key)
  where
    at : (kind : Kind) (k : List ℕ) → get (book_in new gs) (of kind k) ≡ get (remove (book_in old gs) (of User key)) (of kind k)
    at User k = get-user new gs k ∙ updates.0 k ∙ ap (λ b. cond b None (tree.get key_cmp old k)) (keys-turned key k)
        ∙ ap (cond (is_eq (key_cmp k key)) None) (sym (get-user old gs k)) ∙ sym (get-remove names_total (book_in old gs) (of User key) (of User k))
    at Group k = get-group new gs k ∙ sym (get-group old gs k) ∙ sym (get-remove names_total (book_in old gs) (of User key) (of Group k))

pub drop-group : (us old new : Tree) (key : List ℕ) → Updates key_cmp old new key None → book_in us new ≡ remove (book_in us old) (of Group key)
drop-group us old new key updates = same_map names_total names_same _ _ (λ q. at q.kind q.key)
  where
    at : (kind : Kind) (k : List ℕ) → get (book_in us new) (of kind k) ≡ get (remove (book_in us old) (of Group key)) (of kind k)
    at Group k = get-group us new k ∙ updates.0 k ∙ ap (λ b. cond b None (tree.get key_cmp old k)) (keys-turned key k)
        ∙ ap (cond (is_eq (key_cmp k key)) None) (sym (get-group us old k)) ∙ sym (get-remove names_total (book_in us old) (of Group key) (of Group k))
    at User k = get-user us new k ∙ sym (get-user us old k) ∙ sym (get-remove names_total (book_in us old) (of Group key) (of User k))

-- ---- a record that is there changes

-- by what was in the tree
pub change-user : (change : Known → Known) (old new gs : Tree) (key : List ℕ) (o : Option Known) → tree.get key_cmp old key ≡ o → IsSome o → Updates key_cmp old new key (option_map change o) → book_in new gs ≡ changed change (book_in old gs) (of User key)
change-user change old new gs key None held there updates = absurd (cc)
change-user change old new gs key (Some known) held there updates =
    put-user old new gs key (change known) updates ∙ ap (changed_at change (book_in old gs) (of User key)) (sym (get-user old gs key ∙ held))

pub change-group : (change : Known → Known) (us old new : Tree) (key : List ℕ) (o : Option Known) → tree.get key_cmp old key ≡ o → IsSome o → Updates key_cmp old new key (option_map change o) → book_in us new ≡ changed change (book_in us old) (of Group key)
change-group change us old new key None held there updates = absurd (cc)
change-group change us old new key (Some known) held there updates =
    put-group us old new key (change known) updates ∙ ap (changed_at change (book_in us old) (of Group key)) (sym (get-group us old key ∙ held))

-- ---- names

groups-below : (key : List ℕ) (ks : List (List ℕ)) → AllByRecursion (λ y. key_cmp key y ≡ Less) ks → AllByRecursion (λ name. name_cmp (of Group key) name ≡ Less) (map (of Group) ks)
groups-below key [] below = tt
groups-below key (k ∷ ks) below = (below.0, groups-below key ks below.1)

users-below : (key : List ℕ) (ks gs : List (List ℕ)) → AllByRecursion (λ y. key_cmp key y ≡ Less) ks → AllByRecursion (λ name. name_cmp (of User key) name ≡ Less) (map (of User) ks ++ map (of Group) gs)
users-below key [] [] below = tt
users-below key [] (g ∷ gs) below = (refl, users-below key [] gs below)
users-below key (k ∷ ks) gs below = (below.0, users-below key ks gs below.1)

groups-rise : (gs : List (List ℕ)) → IsStrictlySortedBy key_cmp gs → IsStrictlySortedBy name_cmp (map (of Group) gs)
unfolding IsStrictlySortedBy
groups-rise [] sorted = tt
groups-rise (g ∷ gs) sorted = (groups-below g gs sorted.0, groups-rise gs sorted.1)

all-rise : (us gs : List (List ℕ)) → IsStrictlySortedBy key_cmp us → IsStrictlySortedBy key_cmp gs → IsStrictlySortedBy name_cmp (map (of User) us ++ map (of Group) gs)
unfolding IsStrictlySortedBy
all-rise [] gs below sorted = groups-rise gs sorted
all-rise (u ∷ us) gs below sorted = (users-below u us gs below.0, all-rise us gs below.1 sorted)

keys-of : (kind : Kind) (es : Entries) → map (λ e. e.0) (named_in kind es) ≡ map (of kind) (map (λ e. e.0) es)
keys-of kind [] = refl
keys-of kind (e ∷ es) = ap (λ names. of kind e.0 ∷ names) (keys-of kind es)

names-in : (us gs : Entries) → map (λ e. e.0) (named_in User us ++ named_in Group gs) ≡ map (of User) (map (λ e. e.0) us) ++ map (of Group) (map (λ e. e.0) gs)
names-in [] gs = keys-of Group gs
names-in (u ∷ us) gs = ap (λ names. of User u.0 ∷ names) (names-in us gs)

-- the names of the book are the names of both trees
pub names-are : (us gs : Tree) → IsOrdered key_cmp us → IsOrdered key_cmp gs → keys (book_in us gs) ≡ map (of User) (tree.keys us) ++ map (of Group) (tree.keys gs)
names-are us gs users groups =
    let sorted : IsStrictlySortedBy name_cmp (map (λ (e : RecordName × Known). e.0) (named_in User us.entries ++ named_in Group gs.entries)) =
    subst (IsStrictlySortedBy name_cmp) (sym (names-in us.entries gs.entries)) (all-rise (tree.keys us) (tree.keys gs) users groups) in
    ap (map (λ e. e.0)) (listed (named_in User us.entries ++ named_in Group gs.entries) sorted) ∙ names-in us.entries gs.entries

-- ---- how many there are

more : (n : ℕ) → 1 + n ≡ suc n
more n = omega arith

no-users : (gs : List (List ℕ)) → count_by (λ name. same_kind User name.kind) (map (of Group) gs) ≡ 0
no-users [] = refl
no-users (g ∷ gs) = no-users gs

count-users : (us gs : List (List ℕ)) → count_of User (map (of User) us ++ map (of Group) gs) ≡ length us
count-users [] gs = no-users gs
count-users (u ∷ us) gs = sum_by-cons (λ (name : RecordName). cond (same_kind User name.kind) 1 0) (of User u) (map (of User) us ++ map (of Group) gs) ∙ ap (λ n. 1 + n) (count-users us gs) ∙ more (length us)

count-groups-only : (gs : List (List ℕ)) → count_of Group (map (of Group) gs) ≡ length gs
count-groups-only [] = refl
count-groups-only (g ∷ gs) = sum_by-cons (λ (name : RecordName). cond (same_kind Group name.kind) 1 0) (of Group g) (map (of Group) gs) ∙ ap (λ n. 1 + n) (count-groups-only gs) ∙ more (length gs)

count-groups : (us gs : List (List ℕ)) → count_of Group (map (of User) us ++ map (of Group) gs) ≡ length gs
count-groups [] gs = count-groups-only gs
count-groups (u ∷ us) gs = count-groups us gs

same-length : (es : Entries) → length (map (λ e. e.0) es) ≡ length es
same-length [] = refl
same-length (e ∷ es) = let l = same-length es in omega arith

pub users-counted : (us gs : Tree) → IsOrdered key_cmp us → IsOrdered key_cmp gs → count_of User (keys (book_in us gs)) ≡ length us.entries
users-counted us gs users groups = ap (count_of User) (names-are us gs users groups) ∙ count-users (tree.keys us) (tree.keys gs) ∙ same-length us.entries

pub groups-counted : (us gs : Tree) → IsOrdered key_cmp us → IsOrdered key_cmp gs → count_of Group (keys (book_in us gs)) ≡ length gs.entries
groups-counted us gs users groups = ap (count_of Group) (names-are us gs users groups) ∙ count-groups (tree.keys us) (tree.keys gs) ∙ same-length gs.entries

-- ---- the same of a book that both trees make, and of a name of this type

at-user : (name : RecordName) → name.kind ≡ User → of User name.key ≡ name
at-user name is = ap (λ kind. of kind name.key) (sym is)

at-group : (name : RecordName) → name.kind ≡ Group → of Group name.key ≡ name
at-group name is = ap (λ kind. of kind name.key) (sym is)

module _ (us gs : Tree) (book : BookMap) (shows : book_in us gs ≡ book) (name : RecordName) where
  pub user-is : name.kind ≡ User → tree.get key_cmp us name.key ≡ get book name
  user-is is = sym (get-user us gs name.key) ∙ ap (get (book_in us gs)) (at-user name is) ∙ ap (λ b. get b name) shows

  pub group-is : name.kind ≡ Group → tree.get key_cmp gs name.key ≡ get book name
  group-is is = sym (get-group us gs name.key) ∙ ap (get (book_in us gs)) (at-group name is) ∙ ap (λ b. get b name) shows

  pub user-there : name.kind ≡ User → IsSome (get book name) → IsSome (tree.get key_cmp us name.key)
  user-there is there = subst IsSome (sym (user-is is)) there

  pub group-there : name.kind ≡ Group → IsSome (get book name) → IsSome (tree.get key_cmp gs name.key)
  group-there is there = subst IsSome (sym (group-is is)) there

  pub user-put : (new : Tree) (known : Known) → name.kind ≡ User → Updates key_cmp us new name.key (Some known) → book_in new gs ≡ insert book name known
  user-put new known is updates = put-user us new gs name.key known updates ∙ ap (λ n. insert (book_in us gs) n known) (at-user name is) ∙ ap (λ b. insert b name known) shows

  pub group-put : (new : Tree) (known : Known) → name.kind ≡ Group → Updates key_cmp gs new name.key (Some known) → book_in us new ≡ insert book name known
  group-put new known is updates = put-group us gs new name.key known updates ∙ ap (λ n. insert (book_in us gs) n known) (at-group name is) ∙ ap (λ b. insert b name known) shows

  pub user-dropped : (new : Tree) → name.kind ≡ User → Updates key_cmp us new name.key None → book_in new gs ≡ remove book name
  user-dropped new is updates = drop-user us new gs name.key updates ∙ ap (λ n. remove (book_in us gs) n) (at-user name is) ∙ ap (λ b. remove b name) shows

  pub group-dropped : (new : Tree) → name.kind ≡ Group → Updates key_cmp gs new name.key None → book_in us new ≡ remove book name
  group-dropped new is updates = drop-group us gs new name.key updates ∙ ap (λ n. remove (book_in us gs) n) (at-group name is) ∙ ap (λ b. remove b name) shows

  pub user-changed : (change : Known → Known) (new : Tree) → name.kind ≡ User → IsSome (get book name) → Updates key_cmp us new name.key (option_map change (tree.get key_cmp us name.key)) → book_in new gs ≡ changed change book name
  user-changed change new is there updates =
      change-user change us new gs name.key _ refl (user-there is there) updates ∙ ap (changed change (book_in us gs)) (at-user name is) ∙ ap (λ b. changed change b name) shows

  pub group-changed : (change : Known → Known) (new : Tree) → name.kind ≡ Group → IsSome (get book name) → Updates key_cmp gs new name.key (option_map change (tree.get key_cmp gs name.key)) → book_in us new ≡ changed change book name
  group-changed change new is there updates =
      change-group change us gs new name.key _ refl (group-there is there) updates ∙ ap (changed change (book_in us gs)) (at-group name is) ∙ ap (λ b. changed change b name) shows
