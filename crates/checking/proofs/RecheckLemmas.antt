-- What is compared, and what is doubted after that.
use Rattle.std.proofs.Common.{◌≡◌, ◌<◌, ◌+◌, ◌∙◌, ℕ, true, false, not, List, [], ◌∷◌, ◌++◌, Option, Some, None, Result, Ok, Err, filter, get_or, length, map, take, refl, subst, sym, ap, inl, inr, append-nil}
use Rattle.std.specs.FinMap.{keys}
use Rattle.std.specs.List.{count_by}
use Rattle.std.proofs.lemmas.List.{map-append, take_more}
use Rattle.std.proofs.lemmas.List.Elements.{filter_more}
use Rattle.scim_key.specs.declared.records.RecordName.{RecordName}
use Rattle.mapping.specs.Settling.{IsSettleOrder}
use Rattle.connector_core.specs.Book.{doubting}
use Rattle.connector_core.specs.Maps.{BookMap, book_of, changed}
use Rattle.connector_core.specs.State.{State}
use Rattle.provisioning.specs.Openings.{Opening, Opens}
use Rattle.provisioning.specs.declared.faults.RunFault.{RunFault}
use Rattle.provisioning.specs.declared.faults.RunFault.TheVariants.{Memory}
use Rattle.provisioning.specs.Services.{Service}
use Rattle.checking.proofs.CheckLemmas.{all_begun, none_opened}
use Rattle.checking.specs.Checks.{ChecksEach, ChecksSome, notes_of}
use Rattle.checking.specs.Rechecks.{AreDoubted, Compares, ComparesSome, EndsComparing, Rechecks, carried, doubtful_if, doubting_each, groups_in, is_user, names_in, unasked, uncarried, with_groups}
use Rattle.checking.specs.declared.counts.Counts.{Counts}
use Rattle.checking.specs.declared.doubtful.Doubtful.{Doubtful}

-- ---- groups

pub one_more_group : (names : List RecordName) (i : ℕ) (d : RecordName) (groups more : List Doubtful)
    → i < length names → groups ≡ groups_in (take i names) → is_user (get_or names i d) ≡ false
    → more ≡ groups ++ unasked (get_or names i d) ∷ [] → more ≡ groups_in (take (i + 1) names)
one_more_group names i d groups more h e other is =
    let name : RecordName = get_or names i d in
    let so_far : List RecordName = filter (λ n. not (is_user n)) (take i names) in
    let all : filter (λ n. not (is_user n)) (take (i + 1) names) ≡ so_far ++ name ∷ [] =
    filter_more (λ n. not (is_user n)) names i d h ∙ rw other refl in
    is ∙ ap (λ l. l ++ unasked name ∷ []) e ∙ sym (ap (map unasked) all ∙ map-append unasked so_far (name ∷ []))

pub no_more_group : (names : List RecordName) (i : ℕ) (d : RecordName) (groups : List Doubtful)
    → i < length names → groups ≡ groups_in (take i names) → is_user (get_or names i d) ≡ true
    → groups ≡ groups_in (take (i + 1) names)
no_more_group names i d groups h e user =
    let so_far : List RecordName = filter (λ n. not (is_user n)) (take i names) in
    let all : filter (λ n. not (is_user n)) (take (i + 1) names) ≡ so_far =
    filter_more (λ n. not (is_user n)) names i d h ∙ rw user (append-nil so_far) in
    e ∙ sym (ap (map unasked) all)

-- ---- doubts

doubting_more : (book : BookMap) (names : List RecordName) (name : RecordName)
    → doubting_each book (names ++ name ∷ []) ≡ changed doubting (doubting_each book names) name
doubting_more book [] name = refl
doubting_more book (n ∷ names) name = doubting_more (changed doubting book n) names name

pub one_more_doubted : (old now new : BookMap) (doubtful : List Doubtful) (i : ℕ) (this : Doubtful)
    → i < length doubtful → this ≡ get_or doubtful i this → now ≡ doubting_each old (names_in (take i doubtful))
    → new ≡ changed doubting now this.name → new ≡ doubting_each old (names_in (take (i + 1) doubtful))
one_more_doubted old now new doubtful i this h item so_far is =
    let next : Doubtful = get_or doubtful i this in
    let before : List RecordName = names_in (take i doubtful) in
    is ∙ ap (λ (d : Doubtful). changed doubting now d.name) item
    ∙ ap (λ b. changed doubting b next.name) so_far ∙ sym (doubting_more old before next.name)
    ∙ ap (doubting_each old) (sym (map-append (λ (d : Doubtful). d.name) (take i doubtful) (next ∷ [])))
    ∙ ap (λ l. doubting_each old (names_in l)) (sym (take_more doubtful i this h))

-- ---- the run

module _ {I O : Type 0} (remaining : I → Option (List ℕ)) (contents : O → Option (List ℕ)) (service : Service) where
  -- memory ran out before the first record
  pub not_compared : (book : BookMap) (known : Option (List (Opening I O))) (fault : RunFault) → fault ≡ Memory
      → Opens known known (λ opened. ComparesSome remaining contents service book opened fault)
  not_compared book known fault memory = ([], none_opened known, inr (refl, memory))

  module _ (book : BookMap) (old new : Option (List (Opening I O))) (names asked others : List RecordName)
      (order : IsSettleOrder (keys book) names)
      (are : (asked ≡ carried (book_of book) names) × (others ≡ uncarried (book_of book) names)) where
    -- each record was checked
    pub compared : (groups before doubtful more : List Doubtful) (counts : Counts)
        → Opens old new (λ opened. ChecksEach doubtful_if remaining contents service (book_of book)
        asked opened (Some before) (Some doubtful) counts)
        → before ≡ map unasked others → groups ≡ groups_in asked → more ≡ with_groups groups doubtful
        → Opens old new (λ opened. Compares remaining contents service book opened more)
    compared groups before doubtful more counts checks first behind is =
        let each = checks.2 in (
          checks.0,
          checks.1,
          record {
            names = names;
            counts = counts;
            order = order;
            checks = record {
              checked = each.checked;
              names_are = sym are.0 ∙ each.names_are;
              opened_are = each.opened_are;
              each = each.each;
              noted = tt;
              counts_are = each.counts_are;
            };
            doubtful_are = is ∙ ap (λ gs. with_groups gs doubtful) (behind ∙ ap groups_in are.0)
                ∙ ap (with_groups (groups_in (carried (book_of book) names)))
                (each.noted ∙ ap (λ l. l ++ notes_of doubtful_if each.checked) (first ∙ ap (map unasked) are.1));
          },
        )

    -- a fault ended the check
    pub not_checked : (fault : RunFault)
        → Opens old new (λ opened. ChecksSome remaining contents service (book_of book) asked opened fault)
        → Opens old new (λ opened. ComparesSome remaining contents service book opened fault)
    not_checked fault checks = (
      checks.0,
      checks.1,
      inl (
        names,
        order,
        subst (λ l. ChecksSome remaining contents service (book_of book) l checks.0 fault) are.0 checks.2,
      ),
    )

    -- memory ran out after it
    pub checked_in_vain : (before after : Option (List Doubtful)) (counts : Counts) (fault : RunFault)
        → Opens old new (λ opened. ChecksEach doubtful_if remaining contents service (book_of book)
        asked opened before after counts)
        → fault ≡ Memory → Opens old new (λ opened. ComparesSome remaining contents service book opened fault)
    checked_in_vain before after counts fault checks memory = not_checked fault (
      checks.0,
      checks.1,
      all_begun doubtful_if remaining contents service (book_of book) asked checks.0 before after counts fault checks.2
          memory,
    )

  pub rechecked : {J : Type 0} (known later : Option (List (Opening I O))) (old new : State J)
      (doubtful : List Doubtful) (leavers : ℕ)
      → Opens known later (λ opened. EndsComparing remaining contents service old.book opened (Ok doubtful))
      → AreDoubted doubtful old new → leavers ≡ count_by (λ d. d.is_leaver) doubtful
      → Opens known later (λ opened. Rechecks remaining contents service opened old new (Ok leavers))
  rechecked known later old new doubtful leavers compares doubts counts = (
    compares.0,
    compares.1,
    record { doubtful = doubtful; compares = compares.2; doubts = doubts; leavers_are = counts },
  )
