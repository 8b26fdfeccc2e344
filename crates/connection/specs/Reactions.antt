-- What a connection does after a fault of reading.
use Rattle.scim_message.specs.declared.refusals.Refusal.TheVariants as refusals
use Rattle.http_text.specs.declared.fault.ReadFault.{ReadFault}
use Rattle.http_text.specs.declared.fault.ReadFault.TheVariants as faults
use Rattle.connection.specs.declared.reactions.Reaction.{Reaction}
use Rattle.connection.specs.declared.reactions.Reaction.TheVariants.{Refuse, GiveUp, StaySilent}

-- a refusal, without a body for HEAD; the fixed text; or nothing
abbrev pub reaction_to : ReadFault → Reaction
reaction_to (faults.Malformed is_head) = Refuse refusals.Malformed is_head
reaction_to (faults.HostMissingOrRepeated is_head) = Refuse refusals.Host is_head
reaction_to (faults.LengthMissing is_head) = Refuse refusals.LengthMissing is_head
reaction_to (faults.BodyTooLong is_head) = Refuse refusals.BodyTooLong is_head
reaction_to (faults.HeadTooLong is_head) = Refuse refusals.HeadTooLong is_head
reaction_to (faults.TransferCoding is_head) = Refuse refusals.TransferCoding is_head
reaction_to (faults.Expectation is_head) = Refuse refusals.Expectation is_head
reaction_to faults.EndedEarly = StaySilent
reaction_to faults.ReadFailed = StaySilent
reaction_to faults.OutOfMemory = GiveUp
reaction_to faults.TurnsExhausted = StaySilent
