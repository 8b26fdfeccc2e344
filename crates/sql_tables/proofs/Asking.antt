-- What a query and a write do, once they are prepared.
use Rattle.std.proofs.Common.{◌≡◌, ◌≤◌, ℕ, true, false, cond, List, [], append-nil, Option, Some, None, Result, Ok, Err, IsTrue, IfOk, IfErr, OnErr, OnOk, refl, sym, ap, ◌∙◌, subst, inl, inr, arith}
use Rattle.sqlite_value.specs.Order.{Row}
use Rattle.sqlite_trees.specs.Tree.{Trees}
use Rattle.sqlite_trees.specs.declared.error.StoreError.{StoreError}
use Rattle.sqlite_trees.specs.declared.error.StoreError.TheVariants.{OutOfMemory, Io, Corrupt, Full, Broken, Unstorable}
use Rattle.sqlite_resolve.specs.declared.compiled.Compiled.{Compiled}
use Rattle.sqlite_schema.specs.declared.schema.Schema.{Schema}
use Rattle.sqlite_schema.specs.declared.command.Returning.{Returning}
use Rattle.sqlite_schema.specs.declared.command.Command.{Command}
use Rattle.sqlite_schema.specs.declared.command.Command.TheVariants.{Insert, Update, Commit, Release}
use Rattle.sqlite.specs.Effect.{Database, Reads, RefusesToRead, is_query}
use Rattle.sqlite.specs.Does.{Does, Tally}
use Rattle.sqlite.specs.Given.{IsPlain}
use Rattle.sqlite.specs.Listing.{IsSourceOf, understood, reads_listing}
use Rattle.sqlite.specs.declared.error.Error.{Error}
use Rattle.sqlite.specs.Clock.{timed}
use Rattle.sqlite.specs.State.{State, HasCleanDisk, IsUnchanged, Shown, ShowsRows, FailsToQuery, FailsToShow, HasCause, IsMisplaced, IsNotRun, RunsCommand, Survives, CommitsShowing, CommitsBy, Executes, ExecutesIn, Runs, Writes, is_pragma, shows_rows, text_of}
use Rattle.sqlite.proofs.StateLemmas.{survives_then}
use Rattle.sqlite.proofs.Callers.{command_of, reads_as, never_commits, unchanged_then}
use Rattle.sqlite.proofs.StreamLemmas.{fails_since as store_fails_since, rolled_back_since}
use Rattle.sql_tables.specs.Layouts.{IsLaid}
use Rattle.sql_tables.specs.Statements.{Keeps, IsQuery, IsEdit, IsEditText, Answers, Ran, RanOn, MayLeave, plain_mode}
use Rattle.sql_tables.proofs.Keeping.{unchanged_keeps, laid_still, execute_keeps, keeps_then, query_keeps}

pub laid_mid : {Form : Type 0} {layout : Form → Schema} (old mid : State) → IsUnchanged old mid → IsLaid layout old → IsLaid layout mid
laid_mid old mid same laid = laid_still old mid (unchanged_keeps old mid same) same.0.is_open laid

-- ---- queries

pub query_at : {Form : Type 0} {layout : Form → Schema} (s : State) (sql : List ℕ) → IsQuery layout sql → IsLaid layout s → IsPlain (understood s.now.schema sql) × (reads_listing s.now.schema sql ≡ false)
query_at s sql query laid =
    subst (λ (schema : Schema). IsPlain (understood schema sql) × (reads_listing schema sql ≡ false)) (sym laid.schema) (query laid.form)

pub asked : {Form : Type 0} {layout : Form → Schema} (old mid new : State) (sql : List ℕ) (params : Row) (rows : List Row) → IsQuery layout sql → IsLaid layout old → IsUnchanged old mid → Shown sql params mid new rows → Answers sql params old rows
asked old mid new sql params rows query laid same shown c is =
    let at = query_at mid sql query (laid_mid old mid same laid) in
    let known : understood mid.now.schema sql ≡ Ok c = ap (λ (d : Database). understood d.schema sql) same.0.now_is ∙ is in
    subst (λ (d : Database). Reads c.command d params rows) same.0.now_is
    (reads_as sql params mid new mid.now.schema refl c.command (ap command_of known) at.0 at.1 rows shown)

pub ask_quiet : {Form : Type 0} {layout : Form → Schema} (old mid new : State) (sql text : List ℕ) (params : Row) → IsQuery layout sql → (HasCleanDisk old → IsTrue old.is_open → IsLaid layout old) → (HasCleanDisk mid → (text ≡ sql) × IsUnchanged old mid)
    → Survives old mid (λ _. ⊥) → Survives mid new (CommitsShowing text params mid) → Survives old new (λ _. ⊥)
ask_quiet old mid new sql text params query laid same first second =
    survives_then old mid new _ _ (λ _. ⊥) (λ _ db none. none)
    (λ clean db commits.
    let early : HasCleanDisk mid = omega (arith, second.clean) in
    let first_early : HasCleanDisk old = omega (arith, early, first.clean) in
    let stays = same early in
    let plain = (query_at mid sql query (laid_mid old mid stays.1 (laid first_early stays.1.0.was_open))).0 in
    never_commits sql params mid db plain (subst (λ t. CommitsShowing t params mid db) stays.0 commits))
    first second

-- the rows of a query are those of its answer
pub shown_unchanged : (mid new : State) (sql : List ℕ) (params : Row) (rows : List Row) → IsPlain (understood mid.now.schema sql) → Shown sql params mid new rows → IsUnchanged mid new
unfolding Shown
shown_unchanged mid new sql params rows plain h =
    let none : h.0.returning ≡ None = (subst IsPlain h.1.is plain).0 in
    (subst (λ (o : Option Returning). ShowsRows mid new sql h.0 (timed params h.0.formats h.1.now) rows o) none h.2).3

pub not_run_fails : (old new : State) (sql : List ℕ) (params : Row) (e : Error) → IsNotRun old new sql params e → FailsToQuery sql params old new e
unfolding FailsToQuery
not_run_fails old new sql params e it = inl it

pub not_run_executes : (old new : State) (sql : List ℕ) (params : Row) (e : Error) → IsNotRun old new sql params e → Executes sql params old new (Err e)
unfolding ExecutesIn
not_run_executes old new sql params e it = inl it

-- what fails once it is prepared fails so from before
fails_since : (old mid new : State) (sql : List ℕ) (params : Row) (e : Error) → IsUnchanged old mid → old.faults ≤ mid.faults → mid.step_limit ≡ old.step_limit → IsPlain (understood old.now.schema sql)
    → FailsToQuery sql params mid new e → FailsToQuery sql params old new e
unfolding FailsToQuery IsNotRun
fails_since old mid new sql params e same counts limit plain (inl (inl h)) = inl (inl (rw (← same.0.now_is) h.0, unchanged_then old mid new same h.1))
fails_since old mid new sql params e same counts limit plain (inl (inr h)) = inl (inr (store_fails_since old mid new same counts e h))
fails_since old mid new sql params e same counts limit plain (inr h) =
    let is : understood old.now.schema sql ≡ Ok h.0 = ap (λ (d : Database). understood d.schema sql) (sym same.0.now_is) ∙ h.1.is in
    let none : h.0.returning ≡ None = (subst IsPlain is plain).0 in
    let full = timed params h.0.formats h.1.now in
    let it = subst (FailsToShow mid new sql h.0 full e) none h.2 in
    inr (
      h.0,
      record { is = is; whole = h.1.whole; given = h.1.given; now = h.1.now },
      subst (FailsToShow old new sql h.0 full e) (sym none) (
        it.0,
        subst (λ (d : Database). IsSourceOf (reads_listing d.schema sql) d it.0) same.0.now_is it.1,
        subst (λ l. RefusesToRead l h.0.command it.0 full e) limit it.2,
        unchanged_then old mid new same it.3,
      ),
    )

module _ {X Form : Type 0} {layout : Form → Schema} (items : X → List Row) (old mid new : State) (sql text : List ℕ) (params : Row) (query_text : IsQuery layout sql) (laid : IsTrue old.is_open → IsLaid layout old)
    (prepared : (text ≡ sql) × IsUnchanged old mid) where
  laid_now : IsLaid layout old
  laid_now = laid prepared.1.0.was_open

  plain_now : IsPlain (understood mid.now.schema sql)
  plain_now = (query_at mid sql query_text (laid_mid old mid prepared.1 laid_now)).0

  pub answers : (r : Result X Error) → IfOk r (λ x. Shown text params mid new (items x)) → IfOk r (λ x. Answers sql params old (items x))
  answers (Ok x) shown = asked old mid new sql params (items x) query_text laid_now prepared.1 (subst (λ t. Shown t params mid new (items x)) prepared.0 shown)
  answers (Err e) shown = tt

  pub stays_open : (r : Result X Error) → IfOk r (λ x. Shown text params mid new (items x)) → OnOk r (IsTrue new.is_open)
  stays_open (Ok x) shown = (shown_unchanged mid new sql params (items x) plain_now (subst (λ t. Shown t params mid new (items x)) prepared.0 shown)).0.is_open
  stays_open (Err e) shown = tt

  pub ask_fails : (r : Result X Error) → old.faults ≤ mid.faults → mid.step_limit ≡ old.step_limit → IfErr r (FailsToQuery text params mid new) → IfErr r (FailsToQuery sql params old new)
  ask_fails (Ok x) counts limit fails = tt
  ask_fails (Err e) counts limit fails =
      fails_since old mid new sql params e prepared.1 counts limit (query_at old sql query_text laid_now).0 (subst (λ t. FailsToQuery t params mid new e) prepared.0 fails)

  pub ask_keeps : (r : Result X Error) → IfOk r (λ x. Shown text params mid new (items x)) → IfErr r (FailsToQuery text params mid new) → Keeps old new
  ask_keeps (Ok x) shown fails = keeps_then old mid new (unchanged_keeps old mid prepared.1) (unchanged_keeps mid new (shown_unchanged mid new sql params (items x) plain_now (subst (λ t. Shown t params mid new (items x)) prepared.0 shown)))
  ask_keeps (Err e) shown fails = keeps_then old mid new (unchanged_keeps old mid prepared.1) (query_keeps mid new text params e fails)

-- ---- writes

pub edit_at : {Form : Type 0} {layout : Form → Schema} (s : State) (sql : List ℕ) (c : Compiled) → IsEditText layout sql → IsLaid layout s → understood s.now.schema sql ≡ Ok c → (c.returning ≡ None) × (c.formats ≡ []) × IsEdit c.command
edit_at s sql c edit laid is = edit laid.form c (ap (λ schema. understood schema sql) (sym laid.schema) ∙ is)

shows_none : (command : Command) → IsEdit command → (is_query command ≡ false) × (is_pragma command ≡ false)
shows_none (Insert at from) edit = (refl, refl)
shows_none (Update at q) edit = (refl, refl)
shows_none command edit = absurd edit

writes_of : (old new : State) (command : Command) (text : List ℕ) (params : Row) (count : ℕ) → IsEdit command → Runs old new None command text params count → Writes old new None command text params count
writes_of old new (Insert at from) text params count edit runs = runs
writes_of old new (Update at q) text params count edit runs = runs
writes_of old new command text params count edit runs = absurd edit

-- what the one write of a text does
pub writes_by : (old new : State) (sql : List ℕ) (params : Row) (count : ℕ) → ((c : Compiled) → understood old.now.schema sql ≡ Ok c → (c.returning ≡ None) × (c.formats ≡ []) × IsEdit c.command) → Executes sql params old new (Ok count)
    → (c : Compiled) × (understood old.now.schema sql ≡ Ok c) × Writes old new None c.command (text_of sql c) params count
unfolding ExecutesIn
writes_by old new sql params count edit h =
    let c = h.0 in
    let facts = edit c h.1.is in
    let none = shows_none c.command facts.2 in
    let quiet : shows_rows false c ≡ false = rw (none.0, none.1, facts.0) refl in
    let runs : Runs old new c.returning c.command (text_of sql c) (timed params c.formats h.1.now) count = rw quiet at h.2 in
    let plain : Runs old new None c.command (text_of sql c) params count = rw (facts.0, facts.1, append-nil params) at runs in
    (c, h.1.is, writes_of old new c.command (text_of sql c) params count facts.2 plain)

ran : {Form : Type 0} {layout : Form → Schema} (old mid new : State) (sql : List ℕ) (params : Row) (count : ℕ) → IsEditText layout sql → IsLaid layout old → IsUnchanged old mid → Executes sql params mid new (Ok count) → RanOn sql params old new count
ran old mid new sql params count edit laid same h =
    let laid_now = laid_mid old mid same laid in
    let it = writes_by mid new sql params count (λ c is. edit_at mid sql c edit laid_now is) h in
    let c = it.0 in
    let w = it.2 in
    record {
      ran = record {
        was_open = same.0.was_open;
        is_open = w.shown.is_open;
        compiled = c;
        is = ap (λ (d : Database). understood d.schema sql) (sym same.0.now_is) ∙ it.1;
        limit = mid.step_limit;
        tally = w.tally;
        text = text_of sql c;
        does = subst (λ (d : Database). Does mid.step_limit plain_mode params d (text_of sql c) None c.command (Ok (w.tally, new.now))) same.0.now_is w.changed;
        settled = λ autocommit. (w.shown.committed_is ∙ ap (λ b. cond b mid.committed new.now) (same.0.mode ∙ autocommit), w.shown.mode ∙ same.0.mode ∙ autocommit);
      };
      counted = w.counted;
    }

not_misplaced : (s : State) (command : Command) (e : Error) → IsEdit command → IsMisplaced s command e → ⊥
not_misplaced s command e edit (inl (_, inl (is, _))) = subst IsEdit is edit
not_misplaced s command e edit (inl (_, inr (inl is, _))) = subst IsEdit is edit
not_misplaced s command e edit (inl (_, inr (inr is, _))) = subst IsEdit is edit
not_misplaced s command e edit (inr (_, _, inl is, _)) = subst IsEdit is edit
not_misplaced s command e edit (inr (_, _, inr is, _)) = subst IsEdit is edit

-- a command that fails once it is prepared fails so from before
module _ (old mid new : State) (same : IsUnchanged old mid) (counts : old.faults ≤ mid.faults) (limit : mid.step_limit ≡ old.step_limit) where
  does_since : (params : Row) (text : List ℕ) (returning : Option Returning) (command : Command) (r : Result (Tally × Database) (Option Error))
      → Does mid.step_limit plain_mode params mid.now text returning command r → Does old.step_limit plain_mode params old.now text returning command r
  does_since params text returning command r it =
      subst (λ (d : Database). Does old.step_limit plain_mode params d text returning command r) same.0.now_is (subst (λ l. Does l plain_mode params mid.now text returning command r) limit it)

  cause_since : (P Q : Type 0) → (P → Q) → (cause : StoreError) → HasCause mid new P cause → HasCause old new Q cause
  cause_since P Q f OutOfMemory it = tt
  cause_since P Q f Io it = omega (arith, counts, it)
  cause_since P Q f Corrupt it = omega (arith, counts, it)
  cause_since P Q f Full it = omega (arith, counts, it)
  cause_since P Q f Broken it = absurd (let clash : true ≡ false = sym same.0.is_open ∙ it in cc)
  cause_since P Q f Unstorable it = f it

  command_since : (sql : List ℕ) (c : Compiled) (params : Row) (e : Error) → IsEdit c.command → RunsCommand mid new sql c params (Err e) → RunsCommand old new sql c params (Err e)
  command_since sql c params e edit (inl (inl misplaced, still)) = absurd (not_misplaced mid c.command e edit misplaced)
  command_since sql c params e edit (inl (inr (may, does), still)) = inl (inr (may, does_since params (text_of sql c) c.returning c.command (Err (Some e)) does), unchanged_then old mid new same still)
  command_since sql c params e edit (inr failed) =
      inr (failed.0, failed.1, cause_since _ _ (does_since params (text_of sql c) c.returning c.command (Err None)) failed.0 failed.2, rolled_back_since old mid new same counts failed.3, failed.4)

  write_fails : {Form : Type 0} {layout : Form → Schema} (sql : List ℕ) (params : Row) (e : Error) → IsEditText layout sql → IsLaid layout old → Executes sql params mid new (Err e) → Executes sql params old new (Err e)
  unfolding ExecutesIn IsNotRun
  write_fails sql params e edit laid (inl (inl it)) = inl (inl (rw (← same.0.now_is) it.0, unchanged_then old mid new same it.1))
  write_fails sql params e edit laid (inl (inr it)) = inl (inr (store_fails_since old mid new same counts e it))
  write_fails sql params e edit laid (inr it) =
      let c = it.0 in
      let facts = edit_at mid sql c edit (laid_mid old mid same laid) it.1.is in
      let none = shows_none c.command facts.2 in
      let quiet : shows_rows false c ≡ false = rw (none.0, none.1, facts.0) refl in
      let full = timed params c.formats it.1.now in
      let failed : RunsCommand mid new sql c full (Err e) = rw quiet at it.2 in
      let is = ap (λ (d : Database). understood d.schema sql) (sym same.0.now_is) ∙ it.1.is in
      inr (c, record { is = is; whole = it.1.whole; given = it.1.given; now = it.1.now }, rw quiet (command_since sql c full e facts.2 failed))

-- what a prepared write answers
module _ {Form : Type 0} {layout : Form → Schema} (old mid new : State) (sql text : List ℕ) (params : Row) (edit : IsEditText layout sql) (laid : IsTrue old.is_open → IsLaid layout old) (prepared : (text ≡ sql) × IsUnchanged old mid) where
  pub write_ran : (r : Result ℕ Error) → Executes text params mid new r → IfOk r (RanOn sql params old new)
  write_ran (Ok count) h = ran old mid new sql params count edit (laid prepared.1.0.was_open) prepared.1 (subst (λ t. Executes t params mid new (Ok count)) prepared.0 h)
  write_ran (Err e) h = tt

  pub write_failed : (r : Result ℕ Error) → old.faults ≤ mid.faults → mid.step_limit ≡ old.step_limit → Executes text params mid new r → IfErr r (λ e. Executes sql params old new (Err e))
  write_failed (Ok count) counts limit h = tt
  write_failed (Err e) counts limit h = write_fails old mid new prepared.1 counts limit sql params e edit (laid prepared.1.0.was_open) (subst (λ t. Executes t params mid new (Err e)) prepared.0 h)

  pub write_keeps : (r : Result ℕ Error) → Executes text params mid new r → OnErr r (Keeps old new)
  write_keeps (Ok count) h = tt
  write_keeps (Err e) h = keeps_then old mid new (unchanged_keeps old mid prepared.1) (execute_keeps mid new text params e h)

pub ran_of : (sql : List ℕ) (params : Row) (old new : State) (r : Result ℕ Error) → IfOk r (RanOn sql params old new) → OnOk r (Ran sql params old new)
ran_of sql params old new (Ok count) it = it.ran
ran_of sql params old new (Err e) it = tt

no_commit : (command : Command) → IsEdit command → command ≡ Commit → ⊥
no_commit command edit is = subst IsEdit is edit

no_release : (command : Command) (name : List ℕ) → IsEdit command → command ≡ Release name → ⊥
no_release command name edit is = subst IsEdit is edit

pub left_by : {Form : Type 0} {layout : Form → Schema} (old mid : State) (sql : List ℕ) (params : Row) (db : Trees) → IsEditText layout sql → IsLaid layout old → IsUnchanged old mid → CommitsBy sql params mid db → MayLeave sql params old db
unfolding CommitsBy
left_by old mid sql params db edit laid same h =
    let c = h.0 in
    let facts = edit_at mid sql c edit (laid_mid old mid same laid) h.1.is in
    elim h.2 [
      | inl ends ↦ absurd (elim ends.0 [ inl commit ↦ no_commit c.command facts.2 commit | inr release ↦ no_release c.command release.0 facts.2 release.2 ])
      | inr writes ↦
          let does = writes.3 in
          let plain : Does mid.step_limit plain_mode params mid.now (text_of sql c) None c.command (Ok (writes.1, writes.2)) = rw (facts.0, facts.1, append-nil params) at does in
          record {
            was_open = same.0.was_open;
            compiled = c;
            is = ap (λ (d : Database). understood d.schema sql) (sym same.0.now_is) ∙ h.1.is;
            limit = mid.step_limit;
            tally = writes.1;
            text = text_of sql c;
            after = writes.2;
            does = subst (λ (d : Database). Does mid.step_limit plain_mode params d (text_of sql c) None c.command (Ok (writes.1, writes.2))) same.0.now_is plain;
            trees = writes.5;
          }
    ]

pub write_stops : {Form : Type 0} {layout : Form → Schema} (old mid new : State) (sql text : List ℕ) (params : Row) → IsEditText layout sql → (HasCleanDisk old → IsTrue old.is_open → IsLaid layout old) → (HasCleanDisk mid → (text ≡ sql) × IsUnchanged old mid)
    → Survives old mid (λ _. ⊥) → Survives mid new (CommitsBy text params mid) → Survives old new (MayLeave sql params old)
write_stops old mid new sql text params edit laid same first second =
    survives_then old mid new _ _ (MayLeave sql params old) (λ _ db none. absurd none)
    (λ clean db commits.
    let early : HasCleanDisk mid = omega (arith, second.clean) in
    let first_early : HasCleanDisk old = omega (arith, early, first.clean) in
    let stays = same early in
    left_by old mid sql params db edit (laid first_early stays.1.0.was_open) stays.1 (subst (λ t. CommitsBy t params mid db) stays.0 commits))
    first second
