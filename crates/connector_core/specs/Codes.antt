-- What faults are printed as.
use Rattle.std.specs.Prelude.{ℕ, List, ◌++◌, codes}
use Rattle.std.specs.Fmt.{decimal}
use Rattle.connector_core.specs.declared.changing.ChangeFault.{ChangeFault}
use Rattle.connector_core.specs.declared.changing.ChangeFault.TheVariants as changes
use Rattle.connector_core.specs.declared.learning.LearnFault.{LearnFault}
use Rattle.connector_core.specs.declared.learning.LearnFault.TheVariants as lessons

-- a member that is no user record is named
abbrev pub change_fault_text : ChangeFault → List ℕ
change_fault_text changes.Differs = codes "S7"
change_fault_text (changes.NoSuchMember member) = codes "S8 " ++ member
change_fault_text changes.TooMany = codes "S12"
change_fault_text changes.Store = codes "C5"
change_fault_text changes.Memory = codes "C6"

-- a refusal has its status
abbrev pub learn_fault_text : LearnFault → List ℕ
learn_fault_text lessons.Unfit = codes "C1"
learn_fault_text lessons.Unversioned = codes "C2"
learn_fault_text (lessons.Refused status) = codes "C4 " ++ decimal status
learn_fault_text lessons.NoSuchRecord = codes "C7"
learn_fault_text lessons.Store = codes "C5"
learn_fault_text lessons.Memory = codes "C6"
