-- A recheck: what the provider has of each confirmed record is compared with what is wanted, and what isn't in step is
-- doubted.
use Rattle.std.specs.Prelude.{◌≡◌, ◌⊎◌, ◌&&◌, ◌++◌, ℕ, Bool, true, false, not, List, [], ◌∷◌, Option, None, Result, Ok, Err, filter, map, if◌then◌else◌}
use Rattle.std.specs.FinMap.{keys}
use Rattle.std.specs.List.{count_by, list_any}
use Rattle.scim_key.specs.Revisions.{same_revision}
use Rattle.scim_key.specs.Records.{same_kind}
use Rattle.scim_key.specs.declared.records.Kind.TheVariants as kinds
use Rattle.scim_key.specs.declared.records.RecordName.{RecordName}
use Rattle.mapping.specs.Settling.{IsSettleOrder}
use Rattle.comparing.specs.Aspects.{is_active}
use Rattle.connector_core.specs.Book.{Book, confirmed_of, doubting, wanted_of}
use Rattle.connector_core.specs.Maps.{BookMap, book_of, changed}
use Rattle.connector_core.specs.State.{State}
use Rattle.provisioning.specs.Openings.{Opening}
use Rattle.provisioning.specs.declared.faults.RunFault.{RunFault}
use Rattle.provisioning.specs.declared.faults.RunFault.TheVariants.{Memory}
use Rattle.provisioning.specs.Services.{Service}
use Rattle.checking.specs.Checks.{ChecksEach, ChecksSome, notes_of}
use Rattle.checking.specs.Findings.{is_in_step, same_id}
use Rattle.checking.specs.declared.counts.Counts.{Counts}
use Rattle.checking.specs.declared.findings.Finding.{Finding}
use Rattle.checking.specs.declared.findings.Finding.TheVariants.{Found, Above, Gone, Unchecked}
use Rattle.checking.specs.declared.doubtful.Doubtful.{Doubtful}

-- ---- what is doubted

-- what was found is what is wanted
abbrev pub finds_in_step : Finding → Bool
finds_in_step (Found b) = is_in_step b
finds_in_step (Above b) = false
finds_in_step Gone = false
finds_in_step (Unchecked why) = false

-- the account is active, and shouldn't be
abbrev pub finds_leaver : Finding → Bool
finds_leaver (Found b) = is_active b.found.content && not (is_active b.wanted)
finds_leaver (Above b) = false
finds_leaver Gone = false
finds_leaver (Unchecked why) = false

-- the id that the connector knows may not be the resource's
abbrev pub finds_other_id : Finding → Bool
finds_other_id (Found b) = not (same_id b.known b.found.id)
finds_other_id (Above b) = false
finds_other_id Gone = true
finds_other_id (Unchecked why) = true

abbrev pub is_user : RecordName → Bool
is_user name = same_kind name.kind kinds.User

-- a record is doubted unless it was found in step
abbrev pub doubtful_if : RecordName → Finding → List Doubtful
doubtful_if name finding = if finds_in_step finding then []
    else record {
      name = name;
      is_leaver = finds_leaver finding;
      may_move = is_user name && finds_other_id finding;
    } ∷ []

-- a record that is doubted, though nothing was asked about it
abbrev pub unasked : RecordName → Doubtful
unasked name = record { name = name; is_leaver = false; may_move = is_user name }

-- ---- which records are asked about

-- the wanted revision is confirmed
abbrev pub is_carried : Book → RecordName → Bool
is_carried book name = same_revision (wanted_of book name) (confirmed_of book name)

abbrev pub carried : Book → List RecordName → List RecordName
carried book names = filter (is_carried book) names

abbrev pub uncarried : Book → List RecordName → List RecordName
uncarried book names = filter (λ name. not (is_carried book name)) names

abbrev pub groups_in : List RecordName → List Doubtful
groups_in names = map unasked (filter (λ name. not (is_user name)) names)

-- groups name their members by id: if the id of a user may change, each group is doubted too
abbrev pub with_groups : (groups doubtful : List Doubtful) → List Doubtful
with_groups groups doubtful = if list_any (λ d. d.may_move) doubtful then doubtful ++ groups else doubtful

-- ---- the run

module _ {I O : Type 0} (remaining : I → Option (List ℕ)) (contents : O → Option (List ℕ)) (service : Service)
    (book : BookMap) where
  -- Each record whose wanted revision is confirmed was checked, in the order of a push, and no other. Doubtful is each
  -- record that wasn't checked, each that wasn't found in step, and, if a user's id may change, each group
  pub record Compares (opened : List (Opening I O)) (doubtful : List Doubtful) : Type 0 where
    pub names : List RecordName
    pub counts : Counts
    pub order : IsSettleOrder (keys book) names
    pub checks : ChecksEach doubtful_if remaining contents service (book_of book) (carried (book_of book) names)
        opened None None counts
    pub doubtful_are : doubtful ≡ with_groups (groups_in (carried (book_of book) names))
        (map unasked (uncarried (book_of book) names) ++ notes_of doubtful_if checks.checked)

  -- a fault ended that; or memory ran out before the first of them
  abbrev pub ComparesSome : (opened : List (Opening I O)) → RunFault → Type 0
  ComparesSome opened fault = ((names : List RecordName) × IsSettleOrder (keys book) names
      × ChecksSome remaining contents service (book_of book) (carried (book_of book) names) opened fault)
      ⊎ ((opened ≡ []) × (fault ≡ Memory))

  -- one of these
  abbrev pub EndsComparing : (opened : List (Opening I O)) → Result (List Doubtful) RunFault → Type 0
  EndsComparing opened (Ok doubtful) = Compares opened doubtful
  EndsComparing opened (Err fault) = ComparesSome opened fault

-- ---- what becomes of the connector

abbrev pub names_in : List Doubtful → List RecordName
names_in doubtful = map (λ d. d.name) doubtful

-- the book in which each of these records is doubted
abbrev pub doubting_each : BookMap → List RecordName → BookMap
doubting_each book [] = book
doubting_each book (name ∷ names) = doubting_each (changed doubting book name) names

-- these records are doubted, and nothing else has changed
pub record AreDoubted {J : Type 0} (doubtful : List Doubtful) (old new : State J) : Type 0 where
  pub book : new.book ≡ doubting_each old.book (names_in doubtful)
  pub journal : new.journal ≡ old.journal

module _ {I O J : Type 0} (remaining : I → Option (List ℕ)) (contents : O → Option (List ℕ))
    (service : Service) where
  -- the records were compared, and what isn't in step is doubted: of so many records the account is active, and
  -- shouldn't be
  pub record Doubts (opened : List (Opening I O)) (old new : State J) (leavers : ℕ) : Type 0 where
    pub doubtful : List Doubtful
    pub compares : Compares remaining contents service old.book opened doubtful
    pub doubts : AreDoubted doubtful old new
    pub leavers_are : leavers ≡ count_by (λ d. d.is_leaver) doubtful

  -- that; or a fault ended the run, and the connector is as it was
  abbrev pub Rechecks : (opened : List (Opening I O)) → (old new : State J) → Result ℕ RunFault → Type 0
  Rechecks opened old new (Ok leavers) = Doubts opened old new leavers
  Rechecks opened old new (Err fault) = ComparesSome remaining contents service old.book opened fault × (new ≡ old)

  -- the same, if it isn't known which streams were opened before
  abbrev pub RechecksAt : (old new : State J) → Result ℕ RunFault → Type 0
  RechecksAt old new result = (opened : List (Opening I O)) × Rechecks opened old new result
