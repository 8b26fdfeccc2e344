-- What faults are printed as.
use Rattle.std.specs.Prelude.{ℕ, List, codes}
use Rattle.http_text.specs.declared.fault.ReadFault.{ReadFault}
use Rattle.http_text.specs.declared.fault.ReadFault.TheVariants as reads
use Rattle.http_text.specs.declared.fault.SendFault.{SendFault}
use Rattle.http_text.specs.declared.fault.SendFault.TheVariants as sends

abbrev pub read_fault_text : ReadFault → List ℕ
read_fault_text (reads.Malformed _) = codes "H1"
read_fault_text (reads.HostMissingOrRepeated _) = codes "H2"
read_fault_text (reads.LengthMissing _) = codes "H3"
read_fault_text (reads.BodyTooLong _) = codes "H4"
read_fault_text (reads.HeadTooLong _) = codes "H5"
read_fault_text (reads.TransferCoding _) = codes "H6"
read_fault_text (reads.Expectation _) = codes "H7"
read_fault_text reads.EndedEarly = codes "H10"
read_fault_text reads.ReadFailed = codes "H11"
read_fault_text reads.OutOfMemory = codes "H13"
read_fault_text reads.TurnsExhausted = codes "H14"

abbrev pub send_fault_text : SendFault → List ℕ
send_fault_text (sends.WriteFailed _) = codes "H12"
send_fault_text (sends.TurnsExhausted _) = codes "H14"
