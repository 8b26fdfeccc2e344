-- What a reset makes of the entries.
use Rattle.std.proofs.Common.{◌≡◌, ℕ, zero, suc, true, false, ◌&&◌, ◌||◌, cond, T, List, [], ◌∷◌, map, Some, refl, sym, ap, ◌∙◌, subst, inl, arith}
use Rattle.std.specs.FinMap.{entries, entries_sorted, entries-from_sorted, find, from_entries, from_sorted, get, get-entries, get-from_entries, get-from_sorted, is_sorted, same_map}
use Rattle.std.specs.FinMap.Entries.{below_all}
use Rattle.std.specs.List.{All, AllByRecursion, list_all}
use Rattle.std.specs.Option.{option_map}
use Rattle.std.specs.Ordering.{is_eq, is_lt}
use Rattle.std.proofs.lemmas.List.{length-map}
use Rattle.scim_key.proofs.RevisionLaws.{none_first, same}
use Rattle.scim_key.specs.Revisions.{no_revision}
use Rattle.scim_key.specs.RecordOrder.{names_total}
use Rattle.scim_key.specs.Records.{name_cmp}
use Rattle.scim_key.specs.declared.records.RecordName.{RecordName}
use Rattle.source_csv.specs.Records.{row_name, row_revision}
use Rattle.journal_core.specs.Entries.{EntryMap, IsListOf, IsUpTo, named}
use Rattle.journal_core.specs.Forgetting.{forgotten, unlearnt}
use Rattle.journal_core.specs.declared.entries.Entry.{Entry}
use Rattle.journal_core.proofs.Trees.{names_same}
use Rattle.journal_store.specs.Opening.{AreLawful, HasMembersOf, is_identified, keys_of}
use Rattle.journal_store.specs.Resets.{ForgetsOnly}

abbrev Named : Type 0
Named = RecordName × Entry

abbrev at_name : Named → Named
at_name e = (e.0, unlearnt e.1)

-- ---- each name

found : (q : RecordName) (es : List Named) → find name_cmp q (map at_name es) ≡ option_map unlearnt (find name_cmp q es)
found q [] = refl
found q (e ∷ es) =
    elim (is_eq (name_cmp q e.0)) as (λ b. cond b (Some (unlearnt e.1)) (find name_cmp q (map at_name es)) ≡ option_map unlearnt (cond b (Some e.1) (find name_cmp q es))) [ true ↦ refl | false ↦ found q es ]

each_unlearnt : (m : EntryMap) (q : RecordName) → get (forgotten m) q ≡ option_map unlearnt (get m q)
each_unlearnt m q = get-from_entries names_total (map at_name (entries m)) q ∙ found q (entries m) ∙ ap (option_map unlearnt) (sym (get-entries m q))

-- ---- all entries

-- a map is that of its entries
itself : (m : EntryMap) → from_entries (entries m) ≡ m
itself m = same_map names_total names_same (from_entries (entries m)) m (λ q. get-from_entries names_total (entries m) q ∙ sym (get-entries m q))

named_after : (list : List Entry) → map at_name (map named list) ≡ map named (map unlearnt list)
named_after [] = refl
named_after (e ∷ list) = ap (λ l. named (unlearnt e) ∷ l) (named_after list)

-- the map of the list of unlearnt entries is the one that is forgotten
pub forgotten_is : (old new : EntryMap) (list : List Entry) → IsListOf old list → IsListOf new (map unlearnt list) → new ≡ forgotten old
forgotten_is old new list was is = sym (itself new) ∙ ap from_entries (is.whole ∙ sym (named_after list) ∙ ap (map at_name) (sym was.whole))

below_still : (q : RecordName) (es : List Named) → below_all name_cmp q (map at_name es) ≡ below_all name_cmp q es
below_still q [] = refl
below_still q (e ∷ es) = ap (λ b. is_lt (name_cmp q e.0) && b) (below_still q es)

sorted_still : (es : List Named) → is_sorted name_cmp (map at_name es) ≡ is_sorted name_cmp es
sorted_still [] = refl
sorted_still (e ∷ es) = λ i. below_still e.0 es i && sorted_still es i

entries_forgotten : (m : EntryMap) → entries (forgotten m) ≡ map at_name (entries m)
entries_forgotten m =
    let es = map at_name (entries m) in
    let sorted : T (is_sorted name_cmp es) = subst T (sym (sorted_still (entries m))) (entries_sorted m) in
    let same : from_entries es ≡ from_sorted {R = name_cmp} es = same_map names_total names_same (from_entries es) (from_sorted es) (λ q. get-from_entries names_total es q ∙ sym (get-from_sorted name_cmp es q sorted)) in
    ap entries same ∙ entries-from_sorted name_cmp es sorted

none_confirmed : (list : List Entry) → All (λ (e : Entry). IsUpTo e.row e.confirmed) (map unlearnt list)
none_confirmed [] k d low = absurd (omega arith)
none_confirmed (e ∷ list) zero d low = record { known = inl refl; within = none_first (row_revision e.row) }
none_confirmed (e ∷ list) (suc k) d low = none_confirmed list k d (omega arith)

list_unlearnt : (m : EntryMap) (list : List Entry) → IsListOf m list → IsListOf (forgotten m) (map unlearnt list)
list_unlearnt m list is = record { whole = entries_forgotten m ∙ ap (map at_name) is.whole ∙ named_after list; lawful = none_confirmed list }

-- ---- entries that an opening accepts

identified : (list : List Entry) → list_all is_identified (map unlearnt list) ≡ true
identified [] = refl
identified (e ∷ list) = ap (λ b. (b || false) && list_all is_identified (map unlearnt list)) ((same no_revision no_revision).1 refl) ∙ identified list

keys_still : (list : List Entry) → keys_of (map unlearnt list) ≡ keys_of list
keys_still [] = refl
keys_still (e ∷ list) = ap (λ l. (row_name e.row).key ∷ l) (keys_still list)

members_still : (keys : List (List ℕ)) (groups : List Entry) → AllByRecursion (HasMembersOf keys) groups → AllByRecursion (HasMembersOf keys) (map unlearnt groups)
members_still keys [] all = tt
members_still keys (g ∷ groups) all = (all.0, members_still keys groups all.1)

lawful_unlearnt : (users groups : List Entry) → AreLawful users groups → AreLawful (map unlearnt users) (map unlearnt groups)
lawful_unlearnt users groups it = record {
  few_users = omega (arith, it.few_users, length-map users unlearnt);
  few_groups = omega (arith, it.few_groups, length-map groups unlearnt);
  identified_users = identified users;
  identified_groups = identified groups;
  members = subst (λ keys. AllByRecursion (HasMembersOf keys) (map unlearnt groups)) (sym (keys_still users)) (members_still (keys_of users) groups it.members);
}

pub forgets_only : ForgetsOnly
forgets_only = record { each = each_unlearnt; list = list_unlearnt; lawful = lawful_unlearnt }
