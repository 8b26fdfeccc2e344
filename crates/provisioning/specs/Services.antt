-- Where records are carried to.
use Rattle.std.specs.Prelude.{ℕ, Bool, true, false, ◌==◌, ◌||◌, List, Option, Some, None}
use Rattle.scim_message.specs.Messages.{answer_under, request_with, unconditional}
use Rattle.scim_message.specs.declared.messages.Answer.{Answer}
use Rattle.scim_message.specs.declared.messages.Request.{Request}
use Rattle.connector_core.specs.Keeps.{no_version}
use Rattle.connector_core.specs.declared.keeps.Keeps.{Keeps}
use Rattle.connector_core.specs.declared.keeps.Keeps.TheVariants.{Revisions, Versions}
use Rattle.provisioning.specs.declared.faults.RecordFault.{RecordFault}
use Rattle.provisioning.specs.declared.faults.RecordFault.TheVariants as faults
use Rattle.provisioning.specs.declared.services.ProviderKeeps.{ProviderKeeps}
use Rattle.provisioning.specs.declared.services.ProviderKeeps.TheVariants as kept

-- A service: its base, what it keeps of what it is sent, and whether it has versions. One that has them shows one in
-- every answer, never uses one twice for a resource, and obeys `If-Match`
pub record Service : Type 0 where
  pub base : List ℕ
  pub keeps : Keeps
  pub is_versioned : Bool

-- the service at this base, by what its provider keeps
abbrev pub service_at : ProviderKeeps → List ℕ → Service
service_at kept.Revisions base = record { base = base; keeps = Revisions; is_versioned = true }
service_at kept.Versions base = record { base = base; keeps = Versions; is_versioned = true }
service_at kept.Nothing base = record { base = base; keeps = Versions; is_versioned = false }

-- the one that keeps all it is sent, and has versions
abbrev pub keeping_at : List ℕ → Service
keeping_at base = service_at kept.Revisions base

-- ---- requests

-- the request without the source extension, if that isn't kept
abbrev pub kept_for : Keeps → Request → Request
kept_for Revisions request = request
kept_for Versions request = request_with None request

-- the request without conditions, if there are no versions
abbrev pub conditioned : (is_versioned : Bool) → Request → Request
conditioned true request = request
conditioned false request = unconditional request

-- The request as it is written to the service
abbrev pub written_for : Service → Request → Request
written_for service request = kept_for service.keeps (conditioned service.is_versioned request)

-- ---- answers

-- The answer as it is taken from the service: if it has no versions, each resource is under the same one
abbrev pub taken_from : (is_versioned : Bool) → Answer → Answer
taken_from true answer = answer
taken_from false answer = answer_under no_version answer

-- no answer came, or a gateway before the provider got none (502, 504): the request may still be carried out
abbrev pub may_be_under_way : RecordFault → Bool
may_be_under_way (faults.Unanswered fault) = true
may_be_under_way (faults.Refused status) = (status == 502) || (status == 504)
may_be_under_way faults.Unfit = false
may_be_under_way faults.Unversioned = false
may_be_under_way faults.NoSuchRecord = false

-- Without versions, nothing more is sent for a record after an exchange with such a fault, its last one. Nothing would
-- keep a request that is still under way from being carried out after a later one
abbrev pub is_held_back : (is_versioned : Bool) → (last : Option RecordFault) → Bool
is_held_back true last = false
is_held_back false None = false
is_held_back false (Some fault) = may_be_under_way fault
