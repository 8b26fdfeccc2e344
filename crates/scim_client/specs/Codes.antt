-- What faults are printed as.
use Rattle.std.specs.Prelude.{ℕ, List, codes}
use Rattle.http_text.specs.Codes.{send_fault_text}
use Rattle.scim_client.specs.declared.answers.AnswerFault.{AnswerFault}
use Rattle.scim_client.specs.declared.answers.AnswerFault.TheVariants as answers
use Rattle.scim_client.specs.declared.exchange.ExchangeFault.{ExchangeFault}
use Rattle.scim_client.specs.declared.exchange.ExchangeFault.TheVariants as exchanges

abbrev pub answer_fault_text : AnswerFault → List ℕ
answer_fault_text answers.NotOneResponse = codes "K1"
answer_fault_text answers.NotJson = codes "K2"
answer_fault_text answers.WrongShape = codes "K3"
answer_fault_text answers.OutOfMemory = codes "K4"

abbrev pub exchange_fault_text : ExchangeFault → List ℕ
exchange_fault_text (exchanges.Unsent fault) = send_fault_text fault
exchange_fault_text exchanges.EndedEarly = codes "H10"
exchange_fault_text exchanges.ReadFailed = codes "H11"
exchange_fault_text exchanges.OutOfMemory = codes "H13"
exchange_fault_text exchanges.TurnsExhausted = codes "H14"
exchange_fault_text (exchanges.NoAnswer fault) = answer_fault_text fault
