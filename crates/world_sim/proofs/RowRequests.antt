-- What others ask for by a row: ids that are looked up one after the other, and the reads of the registry.
use Rattle.std.proofs.Common.{arith, ◌≡◌, ◌<◌, ◌+◌, ℕ, suc, Bool, true, false, cond, List, [], ◌∷◌, ◌++◌, Option, Some, None, is_none, Result, Ok, Err, IfErr, length, take, refl, ap, sym, subst, ◌∙◌}
use Rattle.std.proofs.Math.ListN.{get_or}
use Rattle.std.proofs.Math.Seq.{take-suc}
use Rattle.std.proofs.lemmas.Map.Text.{is_eq-slice_cmp}
use Rattle.std.specs.BTreeMap.{BTreeMap, Updates, get}
use Rattle.std.specs.List.{AllByRecursion, filter_map, position_from}
use Rattle.std.specs.Option.{unwrap_or}
use Rattle.std.specs.Ordering.{is_eq}
use Rattle.provider_core.proofs.RowLaws.{same_name-eq}
use Rattle.scim_key.specs.declared.records.RecordName.{RecordName}
use Rattle.scim_resource.specs.Rows.{StoredRecord}
use Rattle.provider_core.specs.Calls.{Reads}
use Rattle.provider_core.specs.Rows.{row_named}
use Rattle.provider_core.specs.declared.registry.Registry.{Ghosts as Registries}
use Rattle.source_csv.specs.Records.{members_of, row_name, user}
use Rattle.source_csv.specs.declared.rows.Row.{Row}
use Rattle.source_csv.specs.declared.rows.Row.TheVariants.{User, Group}
use Rattle.mapping.specs.Images.{image_by, imaged}
use Rattle.mapping.specs.Ready.{unless_missing}
use Rattle.connector_core.specs.Trees.{key_cmp}
use Rattle.world_sim.specs.Imaging.{HasIdsOf, LooksUp, id_in, looked_up, request_told, row_request}
use Rattle.world_sim.specs.Sides.{CountsWorldFault}
use Rattle.world_sim.specs.declared.reports.WorldFault.{WorldFault}
use Rattle.world_sim.specs.declared.reports.WorldFault.TheVariants.{Memory}

-- ---- ids

abbrev Found : Type 0
Found = BTreeMap (List ℕ) (Option (List ℕ))

all_push : {X : Type 0} (P : X → Type 0) (xs : List X) (x : X) → AllByRecursion P xs → P x → AllByRecursion P (xs ++ x ∷ [])
all_push P [] x front back = (back, tt)
all_push P (y ∷ xs) x front back = (front.0, all_push P xs x front.1 back)

all_kept : {X : Type 0} (P Q : X → Type 0) (xs : List X) → ((x : X) → P x → Q x) → AllByRecursion P xs → AllByRecursion Q xs
all_kept P Q [] kept all = tt
all_kept P Q (x ∷ xs) kept all = (kept x all.0, all_kept P Q xs kept all.1)

looked_at : (before after : Found) (rows : List StoredRecord) (key other : List ℕ) → Updates key_cmp before after key (Some (id_in rows (user key)))
    → looked_up before other ≡ id_in rows (user other) → looked_up after other ≡ id_in rows (user other)
looked_at before after rows key other updates was = ap (λ id. unwrap_or id None) (updates.0 other) ∙ by_case (is_eq (key_cmp key other)) refl
  where
    by_case : (same : Bool) → same ≡ is_eq (key_cmp key other) → unwrap_or (cond same (Some (id_in rows (user key))) (get key_cmp before other)) None ≡ id_in rows (user other)
    by_case true same = ap (id_in rows) (same_name-eq (user key) (user other) (sym (is_eq-slice_cmp key other) ∙ sym same))
    by_case false same = was

looked_here : (before after : Found) (rows : List StoredRecord) (key : List ℕ) → Updates key_cmp before after key (Some (id_in rows (user key))) → looked_up after key ≡ id_in rows (user key)
looked_here before after rows key updates = ap (λ id. unwrap_or id None) updates.1

pub ids_more : (before after : Found) (rows : List StoredRecord) (keys : List (List ℕ)) (i : ℕ) (key : List ℕ) → i < length keys → key ≡ get_or keys i key
    → HasIdsOf before rows (take i keys) → Updates key_cmp before after key (Some (id_in rows (user key))) → HasIdsOf after rows (take (i + 1) keys)
ids_more before after rows keys i key less at has updates =
    let one_on : i + 1 ≡ suc i = omega arith in
    let next : take (i + 1) keys ≡ take i keys ++ key ∷ [] = ap (λ n. take n keys) one_on ∙ take-suc keys i key less ∙ ap (λ k. take i keys ++ k ∷ []) (sym at) in
    subst (HasIdsOf after rows) (sym next)
    (all_push (λ k. looked_up after k ≡ id_in rows (user k)) (take i keys) key
    (all_kept (λ k. looked_up before k ≡ id_in rows (user k)) (λ k. looked_up after k ≡ id_in rows (user k)) (take i keys) (λ k was. looked_at before after rows key k updates was) has)
    (looked_here before after rows key updates))

-- ids that are the same for these users give the same image
places_same : (f g : RecordName → Option (List ℕ)) (keys : List (List ℕ)) (n : ℕ) → AllByRecursion (λ key. f (user key) ≡ g (user key)) keys
    → position_from (λ key. is_none (f (user key))) n keys ≡ position_from (λ key. is_none (g (user key))) n keys
places_same f g [] n same = refl
places_same f g (key ∷ keys) n same = rw same.0 (ap (λ rest. cond (is_none (g (user key))) (Some n) rest) (places_same f g keys (n + 1) same.1))

ids_same : (f g : RecordName → Option (List ℕ)) (keys : List (List ℕ)) → AllByRecursion (λ key. f (user key) ≡ g (user key)) keys
    → filter_map (λ key. f (user key)) keys ≡ filter_map (λ key. g (user key)) keys
ids_same f g [] same = refl
ids_same f g (key ∷ keys) same = rw (same.0, ids_same f g keys same.1) refl

pub image_same : (f g : RecordName → Option (List ℕ)) (row : Row) → AllByRecursion (λ key. f (user key) ≡ g (user key)) (members_of row) → imaged f row ≡ imaged g row
image_same f g (User row) same = refl
image_same f g (Group row) same =
    ap (λ found. image_by found row) (ap (λ place. unless_missing place (filter_map (λ key. f (user key)) row.members)) (places_same f g row.members 0 same)
    ∙ ap (λ ids. unless_missing (position_from (λ key. is_none (g (user key))) 0 row.members) ids) (ids_same f g row.members same))

pub told_same : (row : Row) (rows : List StoredRecord) (held : Option StoredRecord) (found : Found) → held ≡ row_named (row_name row) rows → HasIdsOf found rows (members_of row)
    → request_told row held (imaged (λ name. looked_up found name.key) row) ≡ row_request rows row
told_same row rows held found is has =
    ap (λ h. request_told row h (imaged (λ name. looked_up found name.key) row)) is
    ∙ ap (request_told row (row_named (row_name row) rows)) (image_same (λ name. looked_up found name.key) (id_in rows) row has)

-- ---- reads

module _ {R : Type 0} (g : Registries R) where
  pub looks_none : {T : Type 0} (r : R) (x : T) → LooksUp g r r (Ok x)
  looks_none r x = record { was = λ faithful. faithful; same = λ faithful. refl; honest = λ honest. honest; stays = λ honest faithful. faithful; stop = λ honest found holds. holds; counted = refl; unwritten = refl }

  pub looks_more : {S T U : Type 0} (old mid new : R) (x : S) (y : T) (z : U) → LooksUp g old mid (Ok x) → Reads g CountsWorldFault mid new (Ok y) → LooksUp g old new (Ok z)
  looks_more old mid new x y z far one = record {
    was = λ faithful. far.was (one.was faithful);
    same = λ faithful. one.same faithful ∙ far.same (one.was faithful);
    honest = λ honest. far.honest (one.honest honest);
    stays = λ honest faithful. one.opened honest;
    stop = λ honest found holds. far.stop (one.honest honest) found (one.stop honest found holds);
    counted = one.counted ∙ far.counted;
    unwritten = one.unwritten ∙ far.unwritten;
  }

  pub looks_fails : {S T U : Type 0} (old mid new : R) (x : S) (fault : WorldFault) → LooksUp g old mid (Ok x) → Reads {T = T} g CountsWorldFault mid new (Err fault) → LooksUp {T = U} g old new (Err fault)
  looks_fails old mid new x fault far one = record {
    was = λ faithful. far.was (one.was faithful);
    same = λ faithful. one.same faithful ∙ far.same (one.was faithful);
    honest = λ honest. far.honest (one.honest honest);
    stays = λ honest faithful. tt;
    stop = λ honest found holds. far.stop (one.honest honest) found (one.stop honest found holds);
    counted = subst (λ n. CountsWorldFault n (g.faults new) fault) far.counted one.counted;
    unwritten = one.unwritten ∙ far.unwritten;
  }

  -- a row was read, ids were looked up, and then nothing more was read
  pub reads_then : {S T U : Type 0} (old mid new : R) (x : S) (y : T) (result : Result U WorldFault) → IfErr result (λ fault. fault ≡ Memory)
      → Reads g CountsWorldFault old mid (Ok x) → LooksUp g mid new (Ok y) → Reads g CountsWorldFault old new result
  reads_then old mid new x y (Ok z) memory one far = record {
    was = λ faithful. one.was (far.was faithful);
    same = λ faithful. far.same faithful ∙ one.same (far.was faithful);
    honest = λ honest. one.honest (far.honest honest);
    opened = λ honest. far.stays honest (one.opened (far.honest honest));
    stop = λ honest found holds. one.stop (far.honest honest) found (far.stop honest found holds);
    counted = far.counted ∙ one.counted;
    unwritten = far.unwritten ∙ one.unwritten;
  }
  reads_then old mid new x y (Err fault) memory one far = record {
    was = λ faithful. one.was (far.was faithful);
    same = λ faithful. far.same faithful ∙ one.same (far.was faithful);
    honest = λ honest. one.honest (far.honest honest);
    opened = λ honest. tt;
    stop = λ honest found holds. one.stop (far.honest honest) found (far.stop honest found holds);
    counted = subst (λ why. CountsWorldFault (g.faults old) (g.faults new) why) (sym memory) (far.counted ∙ one.counted);
    unwritten = far.unwritten ∙ one.unwritten;
  }

  pub reads_then_fails : {S T U : Type 0} (old mid new : R) (x : S) (fault : WorldFault) → Reads g CountsWorldFault old mid (Ok x) → LooksUp {T = T} g mid new (Err fault)
      → Reads {T = U} g CountsWorldFault old new (Err fault)
  reads_then_fails old mid new x fault one far = record {
    was = λ faithful. one.was (far.was faithful);
    same = λ faithful. far.same faithful ∙ one.same (far.was faithful);
    honest = λ honest. one.honest (far.honest honest);
    opened = λ honest. tt;
    stop = λ honest found holds. one.stop (far.honest honest) found (far.stop honest found holds);
    counted = subst (λ n. CountsWorldFault n (g.faults new) fault) one.counted far.counted;
    unwritten = far.unwritten ∙ one.unwritten;
  }
