-- Whether each member has an id, member by member.
use Rattle.std.proofs.Common.{◌≡◌, ◌<◌, ◌≤◌, ◌+◌, ℕ, suc, List, [], ◌∷◌, ◌++◌, Option, Some, None, IsSome, is_none, length, get_or, map, take, drop, refl, ap, sym, ◌∙◌, arith, add-one, add-zero, zero-add, drop-cons, length-take}
use Rattle.std.proofs.lemmas.List.{take-append-drop, take_all, take_more}
use Rattle.std.proofs.lemmas.List.Elements.{filter_map-append}
use Rattle.std.specs.List.{AllByRecursion, filter_map, position_from}
use Rattle.scim_key.specs.declared.records.RecordName.{RecordName}
use Rattle.source_csv.specs.Records.{user}
use Rattle.mapping.specs.Readiness.{GoesOn, HaveIds, ReadyMeans}
use Rattle.mapping.specs.Ready.{ready, unless_missing}
use Rattle.mapping.specs.declared.ids.Ready.TheVariants.{Ids, Waits}

abbrev Key : Type 0
Key = List ℕ

-- over any look-up of ids by key
module _ (id : Key → Option (List ℕ)) where
  abbrev missing : ℕ → List Key → Option ℕ
  missing from keys = position_from (λ key. is_none (id key)) from keys

  missing-push : (keys : List Key) (key : Key) (found : List ℕ) (from : ℕ) → missing from keys ≡ None → id key ≡ Some found → missing from (keys ++ key ∷ []) ≡ None
  missing-push [] key found from none is = rw is refl
  missing-push (k ∷ keys) key found from none is = elim (id k) as (λ o. id k ≡ o → missing from ((k ∷ keys) ++ key ∷ []) ≡ None) [
    | None ↦ λ e. absurd (cc (rw e at none))
    | Some other ↦ λ e. rw e (missing-push keys key found (from + 1) (rw e at none) is)
  ] refl

  missing_at : (earlier later : List Key) (key : Key) (from : ℕ) → missing from earlier ≡ None → id key ≡ None → missing from (earlier ++ key ∷ later) ≡ Some (from + length earlier)
  missing_at [] later key from none is = rw is (ap Some (sym (add-zero from)))
  missing_at (k ∷ earlier) later key from none is = elim (id k) as (λ o. id k ≡ o → missing from ((k ∷ earlier) ++ key ∷ later) ≡ Some (from + length (k ∷ earlier))) [
    | None ↦ λ e. absurd (cc (rw e at none))
    | Some other ↦ λ e.
        let place : from + 1 + length earlier ≡ from + suc (length earlier) = omega arith in
        rw e (missing_at earlier later key (from + 1) (rw e at none) is ∙ ap Some place)
  ] refl

  -- if none is missing, each has an id
  each_found : (keys : List Key) (from : ℕ) → missing from keys ≡ None → map id keys ≡ map Some (filter_map id keys)
  each_found [] from none = refl
  each_found (k ∷ keys) from none = elim (id k) as (λ o. id k ≡ o → map id (k ∷ keys) ≡ map Some (filter_map id (k ∷ keys))) [
    | None ↦ λ e. absurd (cc (rw e at none))
    | Some found ↦ λ e. rw e (ap (λ (os : List (Option (List ℕ))). Some found ∷ os) (each_found keys (from + 1) (rw e at none)))
  ] refl

  found_missing : (keys ids : List Key) (from : ℕ) → map id keys ≡ map Some ids → missing from keys ≡ None
  found_missing [] ids from all = refl
  found_missing (k ∷ keys) [] from all = absurd (cc all)
  found_missing (k ∷ keys) (i ∷ ids) from all =
      let here : id k ≡ Some i = cc all in
      rw here (found_missing keys ids (from + 1) (cc all))

  found_listed : (keys ids : List Key) → map id keys ≡ map Some ids → filter_map id keys ≡ ids
  found_listed [] [] all = refl
  found_listed [] (i ∷ ids) all = absurd (cc all)
  found_listed (k ∷ keys) [] all = absurd (cc all)
  found_listed (k ∷ keys) (i ∷ ids) all =
      let here : id k ≡ Some i = cc all in
      rw here (ap (λ (is : List Key). i ∷ is) (found_listed keys ids (cc all)))

  -- the first that is missing
  abbrev Waited : List Key → ℕ → ℕ → Type 0
  Waited keys from place = (earlier : List Key) × (key : Key) × (later : List Key)
      × (keys ≡ earlier ++ key ∷ later) × (from + length earlier ≡ place) × AllByRecursion (λ k. IsSome (id k)) earlier × (id key ≡ None)

  first_missing : (keys : List Key) (from place : ℕ) → missing from keys ≡ Some place → Waited keys from place
  first_missing [] from place is = absurd (cc is)
  first_missing (k ∷ keys) from place is = elim (id k) as (λ o. id k ≡ o → Waited (k ∷ keys) from place) [
    | None ↦ λ e.
        let here : from ≡ place = cc (rw e at is) in
        ([], k, keys, refl, add-zero from ∙ here, tt, e)
    | Some found ↦ λ e.
        let (earlier, key, later, split, at, known, none) = first_missing keys (from + 1) place (rw e at is) in
        (k ∷ earlier, key, later, ap (λ (ks : List Key). k ∷ ks) split, omega (arith, at), (rw e refl, known), none)
  ] refl

  -- by the place of the first that is missing, and by the ids
  ids_listed : (o : Option ℕ) (found ids : List Key) → unless_missing o found ≡ Ids ids → (o ≡ None) × (found ≡ ids)
  ids_listed None found ids is = (refl, cc is)
  ids_listed (Some place) found ids is = absurd (cc is)

  place_waited : (o : Option ℕ) (found : List Key) (place : ℕ) → unless_missing o found ≡ Waits place → o ≡ Some place
  place_waited None found place is = absurd (cc is)
  place_waited (Some other) found place is = cc is

  -- member by member
  pub record Found (keys ids : List Key) (n : ℕ) : Type 0 where
    pub none : missing 0 (take n keys) ≡ None
    pub listed : ids ≡ filter_map id (take n keys)

  pub found_none : (keys ids : List Key) → ids ≡ [] → Found keys ids 0
  found_none keys ids none = record { none = refl; listed = none }

  pub found_more : (keys ids : List Key) (n : ℕ) (key found : Key) → n < length keys → key ≡ get_or keys n key → id key ≡ Some found → Found keys ids n → Found keys (ids ++ found ∷ []) (n + 1)
  found_more keys ids n key found fits at is before =
      let more : take (n + 1) keys ≡ take n keys ++ key ∷ [] = take_more keys n key fits ∙ ap (λ (k : Key). take n keys ++ k ∷ []) (sym at) in
      record {
        none = rw more (missing-push (take n keys) key found 0 before.none is);
        listed = rw (more, filter_map-append id (take n keys) (key ∷ []), is, ← before.listed) refl;
      }

  pub found_stop : (keys ids : List Key) (n : ℕ) (key : Key) → n < length keys → key ≡ get_or keys n key → id key ≡ None → Found keys ids n → unless_missing (missing 0 keys) (filter_map id keys) ≡ Waits n
  found_stop keys ids n key fits at is before =
      let rest : drop n keys ≡ key ∷ drop (n + 1) keys = rw (add-one, drop-cons keys n key, ← at) refl in
      let split : keys ≡ take n keys ++ key ∷ drop (n + 1) keys = sym (take-append-drop n keys) ∙ ap (λ (ks : List Key). take n keys ++ ks) rest in
      let place : 0 + length (take n keys) ≡ n = simp length-take (omega arith) in
      let first : missing 0 keys ≡ Some n = ap (missing 0) split ∙ missing_at (take n keys) (drop (n + 1) keys) key 0 before.none is ∙ ap Some place in
      rw first refl

  pub found_all : (keys ids : List Key) (n : ℕ) → length keys ≤ n → Found keys ids n → unless_missing (missing 0 keys) (filter_map id keys) ≡ Ids ids
  found_all keys ids n done found =
      let all = take_all n keys done in
      rw (rw all at found.none, ← (rw all at found.listed)) refl

abbrev by_key : (RecordName → Option (List ℕ)) → Key → Option (List ℕ)
by_key id_of key = id_of (user key)

ready_ids : (id_of : RecordName → Option (List ℕ)) (keys ids : List Key) → ready id_of keys ≡ Ids ids → HaveIds id_of keys ids
ready_ids id_of keys ids is =
    let (none, listed) = ids_listed (by_key id_of) (missing (by_key id_of) 0 keys) (filter_map (by_key id_of) keys) ids is in
    each_found (by_key id_of) keys 0 none ∙ ap (map Some) listed

have_ids : (id_of : RecordName → Option (List ℕ)) (keys ids : List Key) → HaveIds id_of keys ids → ready id_of keys ≡ Ids ids
have_ids id_of keys ids all = rw (found_missing (by_key id_of) keys ids 0 all, found_listed (by_key id_of) keys ids all) refl

have_later : (id_of later : RecordName → Option (List ℕ)) (keys ids : List Key) → GoesOn id_of later → HaveIds id_of keys ids → HaveIds later keys ids
have_later id_of later [] ids on all = all
have_later id_of later (k ∷ keys) [] on all = absurd (cc all)
have_later id_of later (k ∷ keys) (i ∷ ids) on all =
    let here : later (user k) ≡ Some i = on (user k) i (cc all) in
    rw here (ap (λ (os : List (Option (List ℕ))). Some i ∷ os) (have_later id_of later keys ids on (cc all)))

pub means : ReadyMeans
means = record {
  ids = λ id_of keys ids. (ready_ids id_of keys ids, have_ids id_of keys ids);
  waits = λ id_of keys place is.
      let (earlier, key, later, split, at, known, none) = first_missing (by_key id_of) keys 0 place (place_waited (by_key id_of) (missing (by_key id_of) 0 keys) (filter_map (by_key id_of) keys) place is) in
      (earlier, key, later, split, sym (zero-add (length earlier)) ∙ at, known, none);
  stays = λ id_of later keys ids on is. have_ids later keys ids (have_later id_of later keys ids on (ready_ids id_of keys ids is));
}
