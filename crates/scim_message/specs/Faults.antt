-- The fault of a body for a fault of a text as JSON, and for a fault of a resource.
use Rattle.scim_json.specs.declared.parsing.JsonFault.{JsonFault}
use Rattle.scim_json.specs.declared.parsing.JsonFault.TheVariants as json
use Rattle.scim_resource.specs.declared.faults.ContentFault.{ContentFault}
use Rattle.scim_resource.specs.declared.faults.ContentFault.TheVariants as reading
use Rattle.scim_message.specs.declared.answers.BodyFault.{BodyFault}
use Rattle.scim_message.specs.declared.answers.BodyFault.TheVariants.{NotJson, WrongShape, Memory}

abbrev pub fault_of_json : JsonFault → BodyFault
fault_of_json json.NotJson = NotJson
fault_of_json json.Memory = Memory

abbrev pub fault_of_reading : ContentFault → BodyFault
fault_of_reading reading.InvalidSyntax = WrongShape
fault_of_reading reading.InvalidValue = WrongShape
fault_of_reading reading.Memory = Memory
