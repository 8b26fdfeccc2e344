-- What is read of a request, and when each refusal comes: the definitions of Heads, for requests.
use Rattle.std.specs.Prelude.{ℕ, List, Option, Result}
use Rattle.http_text.specs.declared.fault.ReadFault.{ReadFault}
use Rattle.http_text.specs.Message.{Message}
use Rattle.http_text.specs.Forms.{request_form}
use Rattle.http_text.specs.Heads as heads

abbrev pub IsPartOfBody : List ℕ → Type 0
IsPartOfBody = heads.IsPartOfBody request_form

abbrev pub IsPartOfHead : List ℕ → Type 0
IsPartOfHead = heads.IsPartOfHead request_form

abbrev pub IsLongPart : List ℕ → Type 0
IsLongPart = heads.IsLongPart request_form

abbrev pub HasLongSection : List ℕ → Type 0
HasLongSection = heads.HasLongSection request_form

abbrev pub TakesMessage : Option (List ℕ) → Option (List ℕ) → Message → Type 0
TakesMessage = heads.TakesMessage request_form

abbrev pub TakesRefused : Option (List ℕ) → Option (List ℕ) → ReadFault → Type 0
TakesRefused = heads.TakesRefused request_form

abbrev pub FindsMessage : Option (List ℕ) → Option (List ℕ) → Result Message ReadFault → Type 0
FindsMessage = heads.FindsMessage request_form

abbrev pub FindsRefusedHead : Option (List ℕ) → Result Message ReadFault → Type 0
FindsRefusedHead = heads.FindsRefusedHead request_form

abbrev pub FindsEnd : Option (List ℕ) → Result Message ReadFault → Type 0
FindsEnd = heads.FindsEnd request_form

abbrev pub FindsLong : Option (List ℕ) → Result Message ReadFault → Type 0
FindsLong = heads.FindsLong request_form

abbrev pub AnswersMalformed : List ℕ → Result Message ReadFault → Type 0
AnswersMalformed = heads.AnswersMalformed request_form

abbrev pub FindsMalformed : Option (List ℕ) → Result Message ReadFault → Type 0
FindsMalformed = heads.FindsMalformed request_form

-- no proper prefix of a request is a request, and bytes are at most one request
abbrev pub MessagesAreApart : Type 0
MessagesAreApart = heads.AreApart request_form
