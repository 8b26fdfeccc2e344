-- Calls of the connector as reports: what a stop leaves after them.
use Rattle.std.specs.Prelude.{◌⊎◌, ℕ, IfErr, IfOk, OnOk}
use Rattle.std.proofs.Common.{◌≡◌, inl, inr, List, Result, Ok, Err, ap, refl, sym, ◌∙◌, subst}
use Rattle.std.specs.FinMap.{keys}
use Rattle.scim_key.specs.declared.records.RecordName.{RecordName}
use Rattle.source_csv.specs.declared.rows.Row.{Row}
use Rattle.journal_core.specs.Entries.{EntryMap}
use Rattle.journal_core.specs.declared.journals.Journal.{Ghosts as Journals}
use Rattle.connector_core.specs.declared.accepting.Verdict.{Verdict}
use Rattle.connector_core.specs.Book.{Book}
use Rattle.connector_core.specs.Changing as changing
use Rattle.connector_core.specs.Changing.{IsNoVerdict, accepted_map}
use Rattle.connector_core.specs.Learning.{Learning, after_learning}
use Rattle.connector_core.specs.Maps.{BookMap, book_of}
use Rattle.connector_core.specs.Noting as noting
use Rattle.connector_core.specs.Noting.{MayStandFor, learnt_of}
use Rattle.connector_core.specs.State.{AreOf, IsKept, Leaves, LeavesBook, LeavesOneOf, State}
use Rattle.connector_core.specs.declared.changing.ChangeFault.{ChangeFault}
use Rattle.connector_core.specs.declared.changing.ChangeFault.TheVariants as change
use Rattle.connector_core.specs.declared.learning.LearnFault.{LearnFault}
use Rattle.connector_core.specs.declared.learning.LearnFault.TheVariants as learn
use Rattle.connector_core.proofs.Leaving.{open-leaves}
use Rattle.world_model.specs.Reports as model
use Rattle.world_sim.specs.Events.{report_of, unaccepted, unlearnt}
use Rattle.world_sim.specs.Sides.{CountsWorldFault}
use Rattle.world_sim.specs.declared.reports.Report.{Report}
use Rattle.world_sim.specs.declared.reports.WorldFault.{WorldFault}

module _ {J : Type 0} (h : Journals J) where
  -- a rejection is a report: journal and book are as they were
  rejected_open : (old new : State J) → new.journal ≡ old.journal → h.is_faithful old.journal → h.is_faithful new.journal
  rejected_open old new same faithful = subst h.is_faithful (sym same) faithful

  rejected_leaves : {T F : Type 0} (old new : State J) (later : Book) (names : List RecordName) (told : T) → new.journal ≡ old.journal → new.book ≡ old.book → LeavesBook h old → Leaves {F = F} h old new later names (Ok told)
  rejected_leaves old new later names told same book was = record {
    done = λ found holds.
        let B : BookMap → Type 0 = λ b. AreOf found (book_of b) (keys b) in
        subst B (sym book) (was found (subst (λ j. h.may_hold j found) same holds));
    failed = tt;
  }

  -- an open store leaves what it holds
  pub still_leaves : (new : State J) → ((found : EntryMap) → h.is_faithful new.journal → h.may_hold new.journal found → found ≡ h.entries new.journal)
      → (h.is_faithful new.journal → IsKept (h.entries new.journal) new.book) → h.is_faithful new.journal → LeavesBook h new
  still_leaves new settled kept faithful = open-leaves h new settled kept faithful

  -- what is told of a fault is a report only if the fault is a rejection
  module _ {T F : Type 0} (old new : State J) (Rejected : Type 0) (same : Rejected → new.journal ≡ old.journal) where
    pub told_open : (told : Result T F) → IfOk told (λ _. Rejected) → h.is_faithful old.journal → OnOk told (h.is_faithful new.journal)
    told_open (Ok x) rejected faithful = rejected_open old new (same rejected) faithful
    told_open (Err e) rejected faithful = tt

    pub told_leaves : (told : Result T F) → IfOk told (λ _. Rejected) → new.book ≡ old.book → (later : Book) (names : List RecordName) → LeavesBook h old
        → LeavesOneOf h new.journal (book_of old.book) later (keys old.book) names → Leaves h old new later names told
    told_leaves (Ok x) rejected book later names was left = rejected_leaves old new later names x (same rejected) book was
    told_leaves (Err e) rejected book later names was left = record { done = tt; failed = left }

-- ---- nothing was learnt

unlearnt_counts : (old new : ℕ) (fault : LearnFault) → noting.CountsLearn old new fault → IfErr (unlearnt fault) (CountsWorldFault old new)
unlearnt_counts old new learn.Unfit counts = tt
unlearnt_counts old new learn.Unversioned counts = tt
unlearnt_counts old new (learn.Refused status) counts = tt
unlearnt_counts old new learn.NoSuchRecord counts = tt
unlearnt_counts old new learn.Store counts = counts
unlearnt_counts old new learn.Memory counts = counts

unlearnt_rejected : (fault : LearnFault) → IfOk (unlearnt fault) (λ _. noting.IsRejection fault)
unlearnt_rejected learn.Unfit = tt
unlearnt_rejected learn.Unversioned = tt
unlearnt_rejected (learn.Refused status) = tt
unlearnt_rejected learn.NoSuchRecord = tt
unlearnt_rejected learn.Store = tt
unlearnt_rejected learn.Memory = tt

module _ (learning : Result Learning LearnFault) where
  answer_of : (fault : LearnFault) → noting.IsRejection fault → MayStandFor learning fault ⊎ (learnt_of learning ≡ Err fault) → learnt_of learning ≡ Err fault
  answer_of learn.Unfit rejected (inl none) = absurd none
  answer_of learn.Unfit rejected (inr is) = is
  answer_of learn.Unversioned rejected (inl none) = absurd none
  answer_of learn.Unversioned rejected (inr is) = is
  answer_of (learn.Refused status) rejected (inl none) = absurd none
  answer_of (learn.Refused status) rejected (inr is) = is
  answer_of learn.NoSuchRecord rejected (inl none) = absurd none
  answer_of learn.NoSuchRecord rejected (inr is) = is
  answer_of learn.Store rejected given = absurd rejected
  answer_of learn.Memory rejected given = absurd rejected

  unlearnt_report : (fault : LearnFault) → MayStandFor learning fault ⊎ (learnt_of learning ≡ Err fault) → IfOk (unlearnt fault) (λ told. report_of told ≡ model.Taught (learnt_of learning))
  unlearnt_report learn.Unfit given = ap model.Taught (sym (answer_of learn.Unfit tt given))
  unlearnt_report learn.Unversioned given = ap model.Taught (sym (answer_of learn.Unversioned tt given))
  unlearnt_report (learn.Refused status) given = ap model.Taught (sym (answer_of (learn.Refused status) tt given))
  unlearnt_report learn.NoSuchRecord given = ap model.Taught (sym (answer_of learn.NoSuchRecord tt given))
  unlearnt_report learn.Store given = tt
  unlearnt_report learn.Memory given = tt

nothing_after : (book : Book) (learning : Result Learning LearnFault) (fault : LearnFault) → learnt_of learning ≡ Err fault → after_learning book learning ≡ book
nothing_after book (Ok l) fault is = absurd (cc is)
nothing_after book (Err e) fault is = refl

-- what is told of the fault
module _ (fault : LearnFault) (told : Result Report WorldFault) (e : told ≡ unlearnt fault) where
  pub is_rejected : IfOk told (λ _. noting.IsRejection fault)
  is_rejected = subst (λ t. IfOk t (λ _. noting.IsRejection fault)) (sym e) (unlearnt_rejected fault)

  pub counts_fault : (old new : ℕ) → noting.CountsLearn old new fault → IfErr told (CountsWorldFault old new)
  counts_fault old new counts = subst (λ t. IfErr t (CountsWorldFault old new)) (sym e) (unlearnt_counts old new fault counts)

  pub reports_fault : (learning : Result Learning LearnFault) → MayStandFor learning fault ⊎ (learnt_of learning ≡ Err fault) → IfOk told (λ told. report_of told ≡ model.Taught (learnt_of learning))
  reports_fault learning given = subst (λ t. IfOk t (λ told. report_of told ≡ model.Taught (learnt_of learning))) (sym e) (unlearnt_report learning fault given)

pub learns_nothing : {F : Type 0} (learning : Result Learning LearnFault) (fault : LearnFault) → MayStandFor learning fault ⊎ (learnt_of learning ≡ Err fault) → (old new : Book) → new ≡ old
    → (told : Result Report F) → IfOk told (λ _. noting.IsRejection fault) → OnOk told (new ≡ after_learning old learning)
learns_nothing learning fault given old new same (Ok report) rejected = same ∙ sym (nothing_after old learning fault (answer_of learning fault rejected given))
learns_nothing learning fault given old new same (Err e) rejected = tt

-- ---- a row wasn't accepted

unaccepted_counts : (old new : ℕ) (fault : ChangeFault) → changing.CountsChange old new fault → IfErr (unaccepted fault) (CountsWorldFault old new)
unaccepted_counts old new change.Differs counts = tt
unaccepted_counts old new (change.NoSuchMember key) counts = tt
unaccepted_counts old new change.TooMany counts = tt
unaccepted_counts old new change.Store counts = counts
unaccepted_counts old new change.Memory counts = counts

unaccepted_rejected : (fault : ChangeFault) → IfOk (unaccepted fault) (λ _. changing.IsRejection fault)
unaccepted_rejected change.Differs = tt
unaccepted_rejected (change.NoSuchMember key) = tt
unaccepted_rejected change.TooMany = tt
unaccepted_rejected change.Store = tt
unaccepted_rejected change.Memory = tt

module _ (verdict : Result Verdict ChangeFault) where
  verdict_of : (fault : ChangeFault) → changing.IsRejection fault → IsNoVerdict fault ⊎ (verdict ≡ Err fault) → verdict ≡ Err fault
  verdict_of change.Differs rejected (inl none) = absurd none
  verdict_of change.Differs rejected (inr is) = is
  verdict_of (change.NoSuchMember key) rejected (inl none) = absurd none
  verdict_of (change.NoSuchMember key) rejected (inr is) = is
  verdict_of change.TooMany rejected (inl none) = absurd none
  verdict_of change.TooMany rejected (inr is) = is
  verdict_of change.Store rejected given = absurd rejected
  verdict_of change.Memory rejected given = absurd rejected

  unaccepted_report : (fault : ChangeFault) → IsNoVerdict fault ⊎ (verdict ≡ Err fault) → IfOk (unaccepted fault) (λ told. report_of told ≡ model.Judged verdict)
  unaccepted_report change.Differs given = ap model.Judged (sym (verdict_of change.Differs tt given))
  unaccepted_report (change.NoSuchMember key) given = ap model.Judged (sym (verdict_of (change.NoSuchMember key) tt given))
  unaccepted_report change.TooMany given = ap model.Judged (sym (verdict_of change.TooMany tt given))
  unaccepted_report change.Store given = tt
  unaccepted_report change.Memory given = tt

-- what is told of the fault
module _ (fault : ChangeFault) (told : Result Report WorldFault) (e : told ≡ unaccepted fault) where
  pub is_no_row : IfOk told (λ _. changing.IsRejection fault)
  is_no_row = subst (λ t. IfOk t (λ _. changing.IsRejection fault)) (sym e) (unaccepted_rejected fault)

  pub counts_no_row : (old new : ℕ) → changing.CountsChange old new fault → IfErr told (CountsWorldFault old new)
  counts_no_row old new counts = subst (λ t. IfErr t (CountsWorldFault old new)) (sym e) (unaccepted_counts old new fault counts)

  pub reports_no_row : (verdict : Result Verdict ChangeFault) → IsNoVerdict fault ⊎ (verdict ≡ Err fault) → IfOk told (λ told. report_of told ≡ model.Judged verdict)
  reports_no_row verdict given = subst (λ t. IfOk t (λ told. report_of told ≡ model.Judged verdict)) (sym e) (unaccepted_report verdict fault given)

pub takes_no_row : {F : Type 0} (verdict : Result Verdict ChangeFault) (fault : ChangeFault) → IsNoVerdict fault ⊎ (verdict ≡ Err fault) → (row : Row) (old new : BookMap) → new ≡ old
    → (told : Result Report F) → IfOk told (λ _. changing.IsRejection fault) → OnOk told (new ≡ accepted_map old row verdict)
takes_no_row verdict fault given row old new same (Ok report) rejected = same ∙ sym (ap (accepted_map old row) (verdict_of verdict fault rejected given))
takes_no_row verdict fault given row old new same (Err e) rejected = tt
