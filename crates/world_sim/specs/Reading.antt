-- How the bytes of a message are read by the side that they come to.
use Rattle.std.specs.Prelude.{◌≡◌, ◌⊎◌, List, ℕ, Result, Ok, Err, ⊤}
use Rattle.scim_message.specs.declared.messages.Request.{Request}
use Rattle.scim_message.specs.declared.refusals.Refusal.{Refusal}
use Rattle.http_text.specs.Message.{Message as Incoming}
use Rattle.scim_http.specs.Meaning.{Asks}
use Rattle.scim_client.specs.declared.answers.AnswerFault.{AnswerFault}
use Rattle.scim_client.specs.declared.answers.AnswerFault.TheVariants.{NotOneResponse, NotJson, WrongShape, OutOfMemory}
use Rattle.scim_client.specs.Answers.{AnswersSo}
use Rattle.scim_client.specs.Spelling.{SpellsRequest}
use Rattle.world_model.specs.World.{Message, Asked, Answered}
use Rattle.world_sim.specs.declared.reading.ReadingFault.{ReadingFault}
use Rattle.world_sim.specs.declared.reading.ReadingFault.TheVariants.{Unread, Memory}

-- The server reads the bytes as this request, the client as this answer to its request
abbrev pub IsReadAs : (bytes : List ℕ) → Message → Type 0
IsReadAs bytes (Asked request) = SpellsRequest bytes request
IsReadAs bytes (Answered request answer) = AnswersSo bytes request answer

-- the result is this, or out of memory
abbrev pub IsOrMemory : {X : Type 0} → X → Result X ReadingFault → Type 0
IsOrMemory x result = (result ≡ Ok x) ⊎ (result ≡ Err Memory)

-- what a message asks for; a refused message is unread
abbrev pub MeansSo : Incoming → Result Request ReadingFault → Type 0
MeansSo m (Ok request) = Asks m (Ok request)
MeansSo m (Err Unread) = (refusal : Refusal) × Asks m (Err refusal)
MeansSo m (Err Memory) = ⊤

-- bytes that aren't an answer are unread
abbrev pub reading_fault : AnswerFault → ReadingFault
reading_fault NotOneResponse = Unread
reading_fault NotJson = Unread
reading_fault WrongShape = Unread
reading_fault OutOfMemory = Memory
