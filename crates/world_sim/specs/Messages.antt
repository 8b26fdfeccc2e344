-- The bytes of a message, and the messages that were sent.
use Rattle.std.specs.Prelude.{◌≡◌, ℕ, zero, suc, List, Option, None, map, length, false}
use Rattle.std.specs.List.{slice_get}
use Rattle.scim_client.specs.Requests.{text_of}
use Rattle.scim_http.specs.Replies.{answer_text}
use Rattle.world_model.specs.World.{Message, Asked, Answered}
use Rattle.world_sim.specs.declared.messages.Said.{Said}
use Rattle.world_sim.specs.declared.messages.Said.TheVariants as said
use Rattle.world_sim.specs.declared.messages.Sent.{Sent}

-- The bytes of a message between a service at this base and its client
abbrev pub message_text : (base : List ℕ) → Message → List ℕ
message_text base (Asked request) = text_of base request
message_text base (Answered request answer) = answer_text base false answer

-- the number of a message's bytes
abbrev pub message_size : (base : List ℕ) → Message → ℕ
message_size base message = length (message_text base message)

-- what a message says
abbrev pub says : Said → Message
says (said.Asked asked) = Asked asked.request
says (said.Answered asked answer) = Answered asked.request answer

-- what was sent is this message, in its bytes
pub record IsMessage (base : List ℕ) (sent : Sent) (message : Message) : Type 0 where
  pub is : says sent.said ≡ message
  pub text : sent.bytes.items ≡ message_text base message

abbrev pub messages_of : List Sent → List Message
messages_of sent = map (λ s. says s.said) sent

abbrev pub texts_of : List Sent → List (List ℕ)
texts_of sent = map (λ s. s.bytes.items) sent

-- the text with this number, counted from 1
abbrev pub text_at : List (List ℕ) → (number : ℕ) → Option (List ℕ)
text_at texts zero = None
text_at texts (suc place) = slice_get texts place
