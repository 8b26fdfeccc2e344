-- Resets: what `reset` forgets of the journal, and with what the connector is opened then. The promise from any start,
-- through doubts and resets, with messages from before them still under way.
use Rattle.std.specs.Prelude.{◌≡◌, ◌≢◌, ◌⊎◌, ℕ, Bool, true, false, List, [], ◌∷◌, ◌++◌, Some, None, map}
use Rattle.std.specs.List.{AllByRecursion}
use Rattle.std.specs.Option.{option_map}
use Rattle.scim_key.specs.Revisions.{no_revision, ◌≼◌}
use Rattle.scim_key.specs.declared.records.RecordName.{RecordName}
use Rattle.provider_core.specs.Stories.{Entry}
use Rattle.connector_core.specs.Book.{Book, undoubted}
use Rattle.connector_core.specs.Learning.{shown_revision}
use Rattle.connector_core.specs.declared.knowledge.Known.{Known}
use Rattle.connector_core.specs.declared.knowledge.Seen.TheVariants.{Unknown}
use Rattle.world_model.specs.World.{World, empty, names}
use Rattle.world_model.specs.Safe.{IsAt, Has, IsEntryOf, IsImage, Headline, id_in}
use Rattle.world_model.specs.Invariant.{Names}
use Rattle.world_model.specs.Others.{Act, Ours, Theirs, acts, run_among, IsApart, HeadlineAmong}
use Rattle.world_model.specs.Room.{HasRoom, IsLawfulAct}
use Rattle.world_model.specs.Healing.{AllHealable, HealsFrom, IsHealed, IsStart, Promised}

-- ---- a reset

-- the wanted row stays; what the provider has shown is forgotten, and so is what was seen and doubted
abbrev pub unlearnt : Known → Known
unlearnt known =
    record { wanted = known.wanted; confirmed = no_revision; id = None; seen = Unknown; is_doubted = false }

-- after a reset the connector is opened: what was seen of the other records is forgotten as by any restart
abbrev pub opened_after : (is_reset : Bool) → Known → Known
opened_after true known = unlearnt known
opened_after false known = undoubted known

-- the book that the connector is opened with, once the journal has forgotten these records
abbrev pub reset_book : (these : Names) → Book → Book
reset_book these book name = option_map (opened_after (these name)) (book name)

-- ---- stories

-- An act, or a reset of these records: `reset` names all of them, or some
pub data Happening : Type 0 where
  Does : (act : Act) → Happening
  Forgets : (these : Names) → Happening

abbrev pub undergoes : World → Happening → World
undergoes w (Does act) = acts w act
undergoes w (Forgets these) = record w { book = reset_book these w.book }

-- One after the other
abbrev pub run_through : World → List Happening → World
run_through w [] = w
run_through w (happening ∷ later) = run_through (undergoes w happening) later

-- our source keeps to our records, and others leave them alone
abbrev pub StaysApart : Names → Happening → Type 0
StaysApart ours (Does act) = IsApart ours act
StaysApart ours (Forgets these) = Unit {0}

abbrev pub StayApart : Names → List Happening → Type 0
StayApart ours later = AllByRecursion (StaysApart ours) later

-- each row that our source offers is within the limits of the source
abbrev pub IsLawfulHappening : Happening → Type 0
IsLawfulHappening (Does act) = IsLawfulAct act
IsLawfulHappening (Forgets these) = Unit {0}

-- nobody else asks for anything
abbrev pub IsOwn : Happening → Type 0
IsOwn (Does (Ours event)) = Unit {0}
IsOwn (Does (Theirs request)) = ⊥
IsOwn (Forgets these) = Unit {0}

-- this record was reset
abbrev pub WasReset : List Happening → RecordName → Type 0
WasReset story name = (these : Names) × Has story (Forgets these) × (these name ≡ true)

-- ---- the promise

-- the record has a resource with the known id, at the confirmed revision or a later one
pub record HoldsConfirmed (es : List Entry) (name : RecordName) (known : Known) : Type 0 where
  pub entry : Entry
  pub of_record : IsEntryOf es name entry
  pub its_id : known.id ≡ id_in es name
  pub reached : known.confirmed ≼ shown_revision entry.held

-- if a revision of the record counts as confirmed, it is held or surpassed
abbrev pub CountsTruly : World → RecordName → Type 0
CountsTruly w name = (known : Known) → w.book name ≡ Some known → known.confirmed ≢ no_revision
    → HoldsConfirmed w.entries name known

-- After this story from the start, and later. No two resources have the same name. Each resource of ours is as it was
-- at the start, or holds the image of an accepted row, at the revision of the row. It stays under its name, and never
-- shows a lower revision. What counts as confirmed is held or surpassed, if it was so at the start, or the record was
-- reset since
pub record HeadlineFrom (ours : Names) (start : World) (story : List Happening) (early late : World) : Type 0 where
  pub one_each : (i j : ℕ) (d e : Entry) → IsAt early.entries i d → IsAt early.entries j e → d.name ≡ e.name → i ≡ j
  pub images : (i : ℕ) (e : Entry) → IsAt early.entries i e → ours e.name ≡ true
      → IsAt start.entries i e ⊎ IsImage early.history early.entries e.name e.held
  pub never_back : (i : ℕ) (e : Entry) → IsAt early.entries i e → ours e.name ≡ true
      → (f : Entry) × IsAt late.entries i f × (f.name ≡ e.name) × (shown_revision e.held ≼ shown_revision f.held)
  pub reached : (name : RecordName) → ours name ≡ true → CountsTruly start name ⊎ WasReset story name
      → CountsTruly early name

-- from any start, whoever wrote what the provider holds, if from then on others leave our records alone
abbrev pub HeadlineFromAnyStart : Type 0
HeadlineFromAnyStart = (ours : Names) (start : World) (early late : List Happening) → IsStart start
    → StayApart ours (early ++ late)
    → HeadlineFrom ours start early (run_through start early) (run_through start (early ++ late))

-- from the empty start it is the promise, word for word: among others, and without them
abbrev pub HeadlineThroughResets : Type 0
HeadlineThroughResets = (ours : Names) (early late : List Happening) → StayApart ours (early ++ late)
    → HeadlineAmong ours (run_through empty early) (run_through empty (early ++ late))

abbrev pub HeadlineAlone : Type 0
HeadlineAlone = (early late : List Happening) → AllByRecursion IsOwn (early ++ late)
    → Headline (run_through empty early) (run_through empty (early ++ late))

-- and from any start, whatever anybody did before: once all records are healed, the promise holds for them
abbrev pub PromisedThroughResets : Type 0
PromisedThroughResets = (ours : Names) (start : World) (early late : List Happening) → IsStart start
    → IsHealed (run_through start early)
    → ((name : RecordName) → Has (names (run_through start early)) name → ours name ≡ true) → StayApart ours late
    → Promised (names (run_through start early)) (run_through start early)
    (run_through (run_through start early) late)

-- after any story in which anybody requests anything, doubting each record and at most two exchanges for each heal all
-- records, if there is room, and each record may be healed
abbrev pub HealsAfterResets : Type 0
HealsAfterResets = (start : World) (story : List Happening) → IsStart start → AllByRecursion IsLawfulHappening story
    → HasRoom (run_through start story) → AllHealable (run_through start story)
    → HealsFrom (λ u. []) (run_through start story)

-- a story without resets is acts
abbrev pub WithoutResets : Type 0
WithoutResets = (w : World) (later : List Act) → run_through w (map Does later) ≡ run_among w later
