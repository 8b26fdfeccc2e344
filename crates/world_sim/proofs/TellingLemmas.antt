-- What is told of a run: nothing yet, one report more, and all of them.
use Rattle.std.proofs.Common.{arith, ◌≡◌, ℕ, zero, suc, ◌+◌, ◌<◌, List, [], ◌∷◌, ◌++◌, length, take, drop, inl, inr, refl, ap, sym, subst, ◌∙◌, append-nil, append_assoc, length-append}
use Rattle.std.proofs.Math.ListN.{get_or}
use Rattle.std.proofs.lemmas.Fn.{FoldsTo-push}
use Rattle.std.proofs.lemmas.List.{length-map, map-append, map_push}
use Rattle.std.specs.List.{AllByRecursion}
use Rattle.provider_core.specs.declared.registry.Registry.{Ghosts as Registries}
use Rattle.journal_core.specs.declared.journals.Journal.{Ghosts as Journals}
use Rattle.world_model.specs.World.{Event}
use Rattle.world_sim.specs.Amid.{Does, EndsRunAmong, RunsAmong}
use Rattle.world_sim.specs.Events.{event_of, events_of}
use Rattle.world_sim.specs.Following.{EndsAt, EndsTelling, EndsTellingAmong, EndsTold, Follows, RunsFrom, RunsTelling, RunsTellingAmong, RunsTold, Tells, run_fault}
use Rattle.world_sim.specs.Running.{EndsRun, FailsOurs, Happens, Runs, StartsAt}
use Rattle.world_sim.specs.Transitions.{AreRuns}
use Rattle.world_sim.specs.declared.acting.Act.{Act}
use Rattle.world_sim.specs.declared.acting.ActReport.{ActReport}
use Rattle.world_sim.specs.declared.events.Event.{Event as EventOf}
use Rattle.world_sim.specs.declared.following.TellingFault.{TellingFault}
use Rattle.world_sim.specs.declared.following.TellingFault.TheVariants.{World, Untold}
use Rattle.world_sim.specs.declared.reports.Report.{Report}
use Rattle.world_sim.specs.declared.reports.WorldFault.{WorldFault}
use Rattle.world_sim.specs.declared.reports.WorldFault.TheVariants.{Memory, Store}
use Rattle.world_sim.specs.declared.worlds.World.{World as Running}
use Rattle.world_sim.proofs.Amid.{among_none, among_on, ran_among}
use Rattle.world_sim.proofs.Walks.{split_at, take_next}
use Rattle.world_sim.proofs.WholeRuns.{ran_from_empty, runs_none, runs_on}

one_more : {X Y : Type 0} (xs : List X) (ys : List Y) (x : X) (y : Y) → length xs ≡ length ys → length (xs ++ x ∷ []) ≡ length (ys ++ y ∷ [])
one_more xs ys x y same = length-append xs (x ∷ []) ∙ ap (λ n. n + 1) same ∙ sym (length-append ys (y ∷ []))

pub all_of : {X : Type 0} (P Q : X → Type 0) → ((x : X) → P x → Q x) → (xs : List X) → AllByRecursion P xs → AllByRecursion Q xs
all_of P Q so [] all = tt
all_of P Q so (x ∷ xs) all = (so x all.0, all_of P Q so xs all.1)

pub all_at : {X : Type 0} (P : X → Type 0) (xs : List X) (i : ℕ) (x : X) → i < length xs → x ≡ get_or xs i x → AllByRecursion P xs → P x
all_at P [] i x less at all = absurd (omega (arith, less))
all_at P (y ∷ xs) zero x less at all = subst P (sym at) all.0
all_at P (y ∷ xs) (suc i) x less at all = all_at P xs i x (omega (arith, less)) at all.1

pub all_fit : {X : Type 0} (xs : List X) → AllByRecursion (λ _. Unit {0}) xs
all_fit [] = tt
all_fit (x ∷ xs) = (tt, all_fit xs)

-- ---- one transition after the other

module _ {W D T F : Type 0} (makes : W → W → D → T → Type 0) (runs : W → W → List D → List T → Type 0) (are : AreRuns makes runs) (told : F → List T) (does : F → T → F → Type 0) where
  pub none_told : (w : W) (f : F) → RunsTold runs told does w w [] f f
  none_told w f = record { reports = []; one_each = refl; runs = are.none w; tells = record { added = sym (append-nil (told f)); done = refl } }

  pub one_told : (first mid new : W) (all : List D) (i : ℕ) (next : D) (before between after : F) → i < length all → next ≡ get_or all i next
      → RunsTold runs told does first mid (take i all) before between → Follows makes told does mid new next between after
      → RunsTold runs told does first new (take (i + 1) all) before after
  one_told first mid new all i next before between after less is far one =
      subst (λ made. RunsTold runs told does first new made before after) (sym (take_next all i next less is)) (record {
        reports = far.reports ++ one.report ∷ [];
        one_each = one_more far.reports (take i all) one.report next far.one_each;
        runs = are.more first mid new (take i all) next far.reports one.report far.runs one.makes;
        tells = record {
          added = one.added ∙ ap (λ l. l ++ one.report ∷ []) far.tells.added ∙ append_assoc (told before) far.reports (one.report ∷ []);
          done = FoldsTo-push does before far.reports between one.report after far.tells.done one.done;
        };
      })

  -- the run ended at this one
  pub told_ends : {E : Type 0} (fails : W → W → D → WorldFault → Type 0) (first last left : W) (all : List D) (i : ℕ) (next : D) (before between after : F) (fault : TellingFault E)
      → i < length all → next ≡ get_or all i next → RunsTold runs told does first last (take i all) before between → EndsAt makes fails told last left next between after fault
      → EndsTold runs fails told does first all before after fault
  told_ends fails first last left all i next before between after (World fault) less is far ends = record {
    fails = record {
      last = last;
      left = left;
      early = take i all;
      failed = next;
      late = drop (i + 1) all;
      reports = far.reports;
      split = split_at all i next less is;
      runs = far.runs;
      fails = ends.0;
    };
    one_each = far.one_each;
    tells = subst (λ f. Tells told does before f far.reports) (sym ends.1) far.tells;
  }
  told_ends fails first last left all i next before between after (Untold why) less is far ends = record {
    last = left;
    early = take i all;
    next = next;
    late = drop (i + 1) all;
    reports = far.reports;
    report = ends.report;
    split = split_at all i next less is;
    runs = are.more first last left (take i all) next far.reports ends.report far.runs ends.makes;
    one_each = far.one_each;
    misses = record { between = between; tells = far.tells; same = ends.same };
  }

-- ---- acts, and events

module _ {R J : Type 0} (g : Registries R) (h : Journals J) where
  pub acts_run : AreRuns (Does g h) (RunsAmong g h)
  acts_run = record { none = among_none g h; more = among_on g h }

  pub events_run : AreRuns (λ old new (event : EventOf). Happens g h old new (event_of event)) (λ old new (events : List EventOf). Runs g h old new (events_of events))
  events_run = record {
    none = runs_none g h;
    more = λ old mid new early next reports report ran one.
        subst (λ es. Runs g h old new es (reports ++ report ∷ [])) (sym (map_push event_of early next)) (runs_on g h old mid new (events_of early) (event_of next) reports report ran one);
  }

  -- a run whose reports are kept ends as this one does
  pub acts_end : {F E : Type 0} (told : F → List ActReport) (does : F → ActReport → F → Type 0) (registry : R) (journal : J) (base : List ℕ) (all : List Act) (before after : F) (fault : TellingFault E)
      → EndsTellingAmong g h told does registry journal base all before after fault → EndsRunAmong g h registry journal base all (run_fault fault)
  acts_end told does registry journal base all before after (Untold why) ends = inl refl
  acts_end told does registry journal base all before after (World Memory) ends = inl refl
  acts_end told does registry journal base all before after (World Store) (inl unstarted) = inr (inl (unstarted.left, unstarted.counts.1))
  acts_end told does registry journal base all before after (World Store) (inr failing) = let (first, starts, ends) = failing in inr (inr (first, starts, ends.fails))

  pub events_end : {F E : Type 0} (told : F → List Report) (does : F → Report → F → Type 0) (registry : R) (journal : J) (base : List ℕ) (events : List Event) (before after : F) (fault : TellingFault E)
      → EndsTelling g h told does registry journal base events before after fault → EndsRun g h registry journal base events (run_fault fault)
  events_end told does registry journal base events before after (Untold why) ends = inl refl
  events_end told does registry journal base events before after (World Memory) ends = inl refl
  events_end told does registry journal base events before after (World Store) (inl unstarted) = inr (inl (unstarted.left, unstarted.counts.1))
  events_end told does registry journal base events before after (World Store) (inr failing) = let (first, starts, ends) = failing in inr (inr (first, starts, ends.fails))

  -- a run of the code's events ends as one of the model's
  pub events_end_early : {F E : Type 0} (told : F → List Report) (does : F → Report → F → Type 0) (first : Running R J) (events : List EventOf) (before after : F) (fault : TellingFault E)
      → EndsTold (λ old new (es : List EventOf). Runs g h old new (events_of es)) (λ old new (event : EventOf). FailsOurs g h old new (event_of event)) told does first events before after fault
      → EndsTold (Runs g h) (FailsOurs g h) told does first (events_of events) before after fault
  events_end_early told does first events before after (World fault) ends = record {
    fails = record {
      last = ends.fails.last;
      left = ends.fails.left;
      early = events_of ends.fails.early;
      failed = event_of ends.fails.failed;
      late = events_of ends.fails.late;
      reports = ends.fails.reports;
      split = ap events_of ends.fails.split ∙ map-append event_of ends.fails.early (ends.fails.failed ∷ ends.fails.late);
      runs = ends.fails.runs;
      fails = ends.fails.fails;
    };
    one_each = ends.one_each ∙ sym (length-map ends.fails.early event_of);
    tells = ends.tells;
  }
  events_end_early told does first events before after (Untold why) ends = record {
    last = ends.last;
    early = events_of ends.early;
    next = event_of ends.next;
    late = events_of ends.late;
    reports = ends.reports;
    report = ends.report;
    split = ap events_of ends.split ∙ map-append event_of ends.early (ends.next ∷ ends.late);
    runs = subst (λ es. Runs g h first ends.last es (ends.reports ++ ends.report ∷ [])) (map_push event_of ends.early ends.next) ends.runs;
    one_each = ends.one_each ∙ sym (length-map ends.early event_of);
    misses = ends.misses;
  }

  -- the run is over, and it is one of the model's events
  pub events_ran : {F : Type 0} (told : F → List Report) (does : F → Report → F → Type 0) (registry : R) (journal : J) (base : List ℕ) (first ran : Running R J) (events : List EventOf) (before after : F)
      → StartsAt g h registry journal base first → RunsTold (λ old new (es : List EventOf). Runs g h old new (events_of es)) told does first ran events before after
      → RunsTelling g h told does registry journal base (events_of events) before after ran
  events_ran told does registry journal base first ran events before after starts far = record {
    first = first;
    starts = starts;
    run = record { reports = far.reports; one_each = far.one_each ∙ sym (length-map events event_of); runs = far.runs; tells = far.tells };
    from_empty = ran_from_empty g h first ran registry journal base (events_of events) far.reports starts.base_is starts.starts far.runs;
  }

  pub acts_ran : {F : Type 0} (told : F → List ActReport) (does : F → ActReport → F → Type 0) (registry : R) (journal : J) (base : List ℕ) (first ran : Running R J) (all : List Act) (before after : F)
      → StartsAt g h registry journal base first → RunsTold (RunsAmong g h) told does first ran all before after → RunsTellingAmong g h told does registry journal base all before after ran
  acts_ran told does registry journal base first ran all before after starts far = record {
    first = first;
    starts = starts;
    run = far;
    from_empty = ran_among g h first ran registry journal base far.reports starts.base_is starts.starts all far.runs;
  }

-- the reports that were kept are those of the run, if none was kept before
pub kept_run : {W D T F : Type 0} (starts : W → Type 0) (runs : W → W → List D → List T → Type 0) (promise : W → List T → Type 0) (told : F → List T) (does : F → T → F → Type 0) (all : List D) (before after : F) (ran : W) (kept : List T)
    → told before ≡ [] → kept ≡ told after → RunsFrom starts runs promise told does all before after ran → promise ran kept
kept_run starts runs promise told does all before after ran kept none is from =
    subst (λ reports. promise ran reports) (sym (is ∙ from.run.tells.added ∙ ap (λ l. l ++ from.run.reports) none)) from.from_empty
