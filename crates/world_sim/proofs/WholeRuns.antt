-- Whole runs: none yet, one event more, and from empty stores.
use Rattle.std.proofs.Common.{arith, ◌≡◌, ◌+◌, ℕ, List, [], ◌∷◌, ◌++◌, None, map, length, refl, ap, sym, subst, ◌∙◌}
use Rattle.std.proofs.lemmas.List.{map_push}
use Rattle.std.specs.FinMap.{get, get-empty, keys}
use Rattle.std.specs.FinMap as fin
use Rattle.journal_core.specs.declared.entries.Entry.{Entry}
use Rattle.std.specs.List.{AllByRecursion}
use Rattle.std.specs.Option.{option_map}
use Rattle.scim_key.specs.Bases.{IsBase}
use Rattle.scim_key.specs.Records.{name_cmp}
use Rattle.scim_key.specs.declared.records.RecordName.{RecordName}
use Rattle.scim_resource.specs.Rows.{StoredRecord}
use Rattle.provider_core.specs.declared.registry.Registry.{Ghosts as Registries}
use Rattle.journal_core.specs.declared.journals.Journal.{Ghosts as Journals}
use Rattle.connector_core.specs.Book.{empty_book}
use Rattle.connector_core.specs.Maps.{book_of}
use Rattle.connector_core.specs.State.{State, IsOpened, LeavesBook, opened}
use Rattle.world_model.specs.Invariant.{all_names}
use Rattle.world_model.specs.Others.{OfOurs}
use Rattle.world_model.specs.World.{World, Message, Event, happens, empty, run}
use Rattle.world_model.proofs.Invariant.{all_of_ours}
use Rattle.world_model.specs.Reports as model
use Rattle.world_model.proofs.Safety.{always_safe}
use Rattle.world_model.proofs.Onwards.{always_onward}
use Rattle.world_model.proofs.Headlines.{headline_holds}
use Rattle.world_sim.specs.Events.{report_of}
use Rattle.world_sim.specs.Messages.{messages_of, texts_of, message_size}
use Rattle.world_sim.specs.Running.{Happens, HasBook, IsAmong, IsSound, Runs, RunsFromEmpty, Scope, Starts, journal_in}
use Rattle.world_sim.specs.declared.reports.Report.{Report}
use Rattle.world_sim.specs.declared.sides.Side.TheVariants.{Open}
use Rattle.world_sim.specs.declared.worlds.World.{World as Running}
use Rattle.world_sim.proofs.Reaching.{run-more, formed_none, is_at, is_empty, is_of_ours}
use Rattle.world_sim.proofs.Steps.{are_moved}

nothing : {X Y : Type 0} (f : X → Y) (xs : List X) → length xs ≡ 0 → map f xs ≡ []
nothing f [] e = refl
nothing f (x ∷ xs) e = absurd (omega (arith, e))

keys-empty : keys (fin.empty {X = Entry} {R = name_cmp}) ≡ []
keys-empty = nothing (λ e. e.0) (fin.entries (fin.empty {X = Entry} {R = name_cmp})) (sym (fin.len-entries (fin.empty {X = Entry} {R = name_cmp})) ∙ fin.len-empty name_cmp Entry)

reports-more : (size : Message → ℕ) (w : World) (events : List Event) (event : Event)
    → model.reports size w (events ++ event ∷ []) ≡ model.reports size w events ++ model.report size (run w events) event ∷ []
reports-more size w [] event = refl
reports-more size w (e ∷ events) event = ap (λ rs. model.report size w e ∷ rs) (reports-more size (happens w e) events event)

pub all_front : {X : Type 0} (P : X → Type 0) (xs ys : List X) → AllByRecursion P (xs ++ ys) → AllByRecursion P xs
all_front P [] ys all = tt
all_front P (x ∷ xs) ys all = (all.0, all_front P xs ys all.1)

pub all_back : {X : Type 0} (P : X → Type 0) (xs ys : List X) → AllByRecursion P (xs ++ ys) → AllByRecursion P ys
all_back P [] ys all = all
all_back P (x ∷ xs) ys all = all_back P xs ys all.1

-- without others, each event is of ours
all_own : (events : List Event) → AllByRecursion (OfOurs all_names) events
all_own [] = tt
all_own (event ∷ events) = (all_of_ours event, all_own events)

module _ {R J : Type 0} (g : Registries R) (h : Journals J) where
  pub own_front : {scope : Scope} (r : Running R J) (w : World) → IsAmong g h scope r w → (events more : List Event) → AllByRecursion (OfOurs scope.ours) (events ++ more) → AllByRecursion (OfOurs scope.ours) events
  own_front {scope} r w is events more own = all_front (OfOurs scope.ours) events more own

  pub own_back : {scope : Scope} (r : Running R J) (w : World) → IsAmong g h scope r w → (events more : List Event) → AllByRecursion (OfOurs scope.ours) (events ++ more) → AllByRecursion (OfOurs scope.ours) more
  own_back {scope} r w is events more own = all_back (OfOurs scope.ours) events more own

  pub runs_none : (r : Running R J) → Runs g h r r [] []
  runs_none r = record { was = λ sound. sound; base = refl; stays_open = λ sound faithful. faithful; journal_open = λ sound faithful. faithful; is = λ sound w is own. is; told_so = λ sound w is own. refl }

  pub runs_on : (old mid new : Running R J) (events : List Event) (event : Event) (told : List Report) (last : Report)
      → Runs g h old mid events told → Happens g h mid new event last → Runs g h old new (events ++ event ∷ []) (told ++ last ∷ [])
  runs_on old mid new events event told last ran more = record {
    was = λ sound. ran.was (more.was sound);
    base = more.base ∙ ran.base;
    stays_open = λ sound faithful. more.stays_open sound (ran.stays_open (more.was sound) faithful);
    journal_open = λ sound faithful. more.journal_open sound (ran.journal_open (more.was sound) faithful);
    is = λ sound w is own. is_at g h new (happens (run w events) event) (run w (events ++ event ∷ [])) (run-more w events event)
        (more.is sound (run w events) (ran.is (more.was sound) w is (own_front old w is events (event ∷ []) own)) (own_back old w is events (event ∷ []) own).0);
    told_so = λ sound w is own. map_push report_of told last
        ∙ ap (λ rs. rs ++ report_of last ∷ []) (ran.told_so (more.was sound) w is (own_front old w is events (event ∷ []) own))
        ∙ ap (λ r. model.reports (message_size old.service) w events ++ r ∷ []) (more.report sound (run w events) (ran.is (more.was sound) w is (own_front old w is events (event ∷ []) own)) ∙ ap (λ b. model.report (message_size b) (run w events) event) ran.base)
        ∙ sym (reports-more (message_size old.service) w events event);
  }

  pub starts_now : (r : Running R J) (registry : R) (connector : State J) (journal : J) → IsBase r.service → r.provider ≡ registry → r.connector ≡ Open connector → r.sent.items ≡ []
      → (h.is_faithful connector.journal → IsOpened (h.entries journal) connector.book) → (h.is_faithful connector.journal → h.is_faithful journal)
      → (h.is_honest connector.journal → h.is_faithful connector.journal) → (h.is_honest connector.journal → LeavesBook h connector)
      → ((found : List StoredRecord) → g.is_faithful registry → g.may_hold registry found → found ≡ g.rows registry)
      → Starts g h registry journal r
  starts_now r registry connector journal base at e sent opens was stays leaves settled = record {
    was = λ sound. (subst g.is_honest at sound.registry, was (stays (now sound)));
    stays_open = λ faithful. subst g.is_faithful (sym at) faithful;
    journal_open = λ sound. subst (λ s. h.is_faithful (journal_in s)) (sym e) (stays (now sound));
    is = λ sound faithful rows kept ours. is_empty g h ours r base (record {
      rows = λ _. ap g.rows at ∙ rows;
      found = λ found holds. settled found faithful (subst (λ p. g.may_hold p found) at holds) ∙ rows;
      table = tt;
      book = subst (λ s. HasBook s empty_book []) (sym e) (book sound kept, names sound kept);
      kept = λ found holds. are_moved found (book_of connector.book) empty_book (keys connector.book) [] (book sound kept) (names sound kept)
          (leaves (now sound) found (subst (λ s. h.may_hold (journal_in s) found) e holds));
      messages = ap messages_of sent;
      texts = ap texts_of sent;
      formed = formed_none g h r;
    });
  }
    where
      now : IsSound g h r → h.is_honest connector.journal
      now sound = subst (λ s. h.is_honest (journal_in s)) e sound.journal

      none : IsSound g h r → h.entries journal ≡ fin.empty → (name : RecordName) → book_of connector.book name ≡ None
      none sound kept name = (opens (stays (now sound))).entries name ∙ ap (λ m. option_map opened (get m name)) kept ∙ ap (option_map opened) (get-empty name_cmp name)

      book : IsSound g h r → h.entries journal ≡ fin.empty → book_of connector.book ≡ empty_book
      book sound kept = λ i name. none sound kept name i

      names : IsSound g h r → h.entries journal ≡ fin.empty → keys connector.book ≡ []
      names sound kept = (opens (stays (now sound))).names ∙ ap keys kept ∙ keys-empty

  pub ran_from_empty : (first ran : Running R J) (registry : R) (journal : J) (base : List ℕ) (events : List Event) (told : List Report)
      → first.service ≡ base → Starts g h registry journal first → Runs g h first ran events told → RunsFromEmpty g h registry journal base events ran told
  ran_from_empty first ran registry journal base events told at starts runs faithful rows kept sound = record {
    base = runs.base ∙ at;
    opened = runs.stays_open sound (starts.stays_open faithful);
    journal_open = runs.journal_open sound (starts.journal_open (runs.was sound));
    is = is_of_ours g h ran (run empty events) (runs.is sound empty (starts.is (runs.was sound) faithful rows kept all_names) (all_own events));
    told_so = runs.told_so sound empty (starts.is (runs.was sound) faithful rows kept all_names) (all_own events) ∙ ap (λ b. model.reports (message_size b) empty events) at;
    safe = λ early late _. always_safe early;
    onward = λ early middle late _. always_onward early middle;
    headline = λ early middle late _. headline_holds early middle;
  }
