-- One connection to an empty provider in memory or to stored rows, and the exit status after it.
use Rattle.std.specs.Prelude.{◌≡◌, ◌⊎◌, ℕ, List, [], Option, Some, None, Result, Ok, Err, codes}
use Rattle.clap.specs.Matches.{first_value}
use Rattle.clap.specs.declared.parser.matches.Found.{Found}
use Rattle.scim_key.specs.Outcome.{Gives}
use Rattle.scim_resource.specs.Rows.{StoredRecord}
use Rattle.provider_core.specs.declared.registry.Registry.{Ghosts}
use Rattle.provider_store.specs.declared.opening.RegistryOpenFault.{RegistryOpenFault}
use Rattle.http_text.specs.declared.fault.ReadFault.{ReadFault}
use Rattle.http_text.specs.Counts.{Reading, Writing}
use Rattle.http_text.specs.Message.{Message}
use Rattle.connection.specs.declared.answering.Served.{Served}
use Rattle.connection.specs.Serving.{HasRead, Serves}
use Rattle.commands.specs.Stored.{AnswersFrom}
use Rattle.commands.specs.Words.{wanted_base}
use Rattle.commands.specs.declared.status.CommandFault.{CommandFault}
use Rattle.commands.specs.declared.status.CommandFault.TheVariants as fault
use Rattle.commands.specs.declared.status.Status.{Status}
use Rattle.commands.specs.Statuses.{served_status, store_fault}

pub record AnswersOne (base : List ℕ) (old new : Reading) (before after : Writing)
    (ended : Result Status CommandFault) : Type 0 where
  -- what was read, and the answer of a provider at this base that had no row
  pub read : Result Message ReadFault
  pub has_read : HasRead old new read
  pub served : Served
  pub rows : List StoredRecord
  pub serves : Serves (Unit {0}) base [] rows before after read served
  -- the exit status
  pub ended_is : ended ≡ served_status served

-- The rows are opened, and the answer is that of a provider over them; or nothing is read or written
abbrev pub AnswersStored : {R : Type 0} → Ghosts R → (base : List ℕ) → (old new : Reading)
    → (before after : Writing) → (ended : Result Status CommandFault) → Type 0
AnswersStored g base old new before after ended =
    ((served : Served) × AnswersFrom g base old new before after served × (ended ≡ served_status served))
    ⊎ ((fault : RegistryOpenFault) × (ended ≡ Err (store_fault fault)) × (new ≡ old) × (after ≡ before))

-- from the rows of a store, if one is named
abbrev pub AnswersNamed : {R K : Type 0} → Ghosts R → (store : Option K) → (base : List ℕ) → (old new : Reading)
    → (before after : Writing) → (ended : Result Status CommandFault) → Type 0
AnswersNamed g (Some store) base old new before after ended = AnswersStored g base old new before after ended
AnswersNamed g None base old new before after ended = AnswersOne base old new before after ended

-- at the base that the arguments name; or they name none, or memory ran out
abbrev pub Answers : {R K : Type 0} → Ghosts R → Found → (store : Option K) → (ended : Result Status CommandFault)
    → Type 0
Answers g found store ended =
    ((base : List ℕ) × (wanted_base (first_value found (codes "base")) ≡ Ok base)
    × ((old new : Reading) × (before after : Writing) × AnswersNamed g store base old new before after ended))
    ⊎ ((why : CommandFault) × Gives fault.Memory (Err why) (wanted_base (first_value found (codes "base")))
    × (ended ≡ Err why))
