-- The fault of a resource for a fault of a name, and for a fault of a text as JSON.
use Rattle.scim_key.specs.declared.names.NameFault.{NameFault}
use Rattle.scim_key.specs.declared.names.NameFault.TheVariants as names
use Rattle.scim_json.specs.declared.parsing.JsonFault.{JsonFault}
use Rattle.scim_json.specs.declared.parsing.JsonFault.TheVariants as json
use Rattle.scim_resource.specs.declared.faults.ContentFault.{ContentFault}
use Rattle.scim_resource.specs.declared.faults.ContentFault.TheVariants.{InvalidSyntax, InvalidValue, Memory}

abbrev pub fault_of_name : NameFault → ContentFault
fault_of_name names.Empty = InvalidValue
fault_of_name names.TooLong = InvalidValue
fault_of_name names.Character = InvalidValue
fault_of_name names.SpaceAtEnd = InvalidValue
fault_of_name names.Memory = Memory

abbrev pub fault_of_json : JsonFault → ContentFault
fault_of_json json.NotJson = InvalidSyntax
fault_of_json json.Memory = Memory
