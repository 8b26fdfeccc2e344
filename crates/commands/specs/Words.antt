-- The values of arguments: the value of a required one, or the fault that it is missing.
use Rattle.std.specs.Prelude.{◌≡◌, ◌^◌, ◌-◌, ◌<◌, ◌≤◌, List, ℕ, Option, None, Some, Result, Ok, Err}
use denote.Ref.{Bor}
use Rattle.std.specs.Str.Parse.{IsNumeral, digits_value, without_leading_plus}
use Rattle.connection.specs.declared.limits.TheConstants.{SEARCH_SECONDS}
use Rattle.scim_key.specs.Bases.{base_fault}
use Rattle.scim_key.specs.Outcome.{◌>>=◌}
use Rattle.scim_key.specs.declared.names.NameFault.{NameFault}
use Rattle.scim_client.specs.ServicePaths.{address_text, service_path_fault}
use Rattle.commands.specs.Statuses.{base_fault as fault_of_base, text_fault}
use Rattle.commands.specs.declared.status.CommandFault.{CommandFault}
use Rattle.commands.specs.declared.status.CommandFault.TheVariants as fault
use Rattle.commands.specs.declared.words.TheConstants.{MOST_SEARCH_SECONDS}

-- by the value, if the argument is there
abbrev pub wanted : (lacking : CommandFault) → Option (List ℕ) → Result (List ℕ) CommandFault
wanted lacking None = Err lacking
wanted lacking (Some value) = Ok value

-- the text that was given, or the fault
abbrev pub given_text : Result (Bor (List ℕ)) CommandFault → Result (List ℕ) CommandFault
given_text (Ok text) = Ok text.now
given_text (Err fault) = Err fault

-- a text as a base, by its first fault
abbrev pub as_base : Option NameFault → (text : List ℕ) → Result (List ℕ) CommandFault
as_base None text = Ok text
as_base (Some why) text = Err (fault_of_base why)

abbrev pub wanted_base : Option (List ℕ) → Result (List ℕ) CommandFault
wanted_base None = Err fault.Base
wanted_base (Some text) = as_base (base_fault text) text

-- a text as the path of a service, by its first fault
abbrev pub as_path : Option NameFault → (text : List ℕ) → Result (Option (List ℕ)) CommandFault
as_path None text = Ok (Some text)
as_path (Some why) text = Err (text_fault why fault.Path)

abbrev pub wanted_path : Option (List ℕ) → Result (Option (List ℕ)) CommandFault
wanted_path None = Ok None
wanted_path (Some text) = as_path (service_path_fault text) text

-- the service at the host of the base, with the path in place of the base's if there is one
abbrev pub wanted_service : (base path : Option (List ℕ)) → Result (List ℕ) CommandFault
wanted_service base path = wanted_base base >>= (λ origin. wanted_path path >>= (λ own. Ok (address_text origin own)))

-- the number that a text of digits spells
abbrev pub number_in : (text : List ℕ) → ℕ
number_in text = digits_value 10 (without_leading_plus text)

-- digits that spell a number of at most so many bits
abbrev pub IsNumber : (bits : ℕ) → (text : List ℕ) → Type 0
IsNumber bits text = IsNumeral 10 (without_leading_plus text) × (number_in text < 2 ^ bits)

-- the number that the text of an argument spells; none exactly if there is no text, or if it spells no such number
abbrev pub GivesNumber : (bits : ℕ) → (given : Option (List ℕ)) → (result : Option ℕ) → Type 0
GivesNumber bits None result = result ≡ None
GivesNumber bits (Some text) (Some number) = IsNumber bits text × (number ≡ number_in text)
GivesNumber bits (Some text) None = IsNumber bits text → ⊥

-- digits that spell a number from 1 to this one
abbrev pub IsCount : (most : ℕ) → (text : List ℕ) → Type 0
IsCount most text = IsNumber 32 text × (0 < number_in text) × (number_in text ≤ most)

-- the count that the text of an argument spells; this fault exactly if there is no text, or if it spells none
abbrev pub GivesCount : (most : ℕ) → (wrong : CommandFault) → (given : Option (List ℕ)) → Result ℕ CommandFault → Type 0
GivesCount most wrong None result = result ≡ Err wrong
GivesCount most wrong (Some text) (Ok count) = IsCount most text × (count ≡ number_in text)
GivesCount most wrong (Some text) (Err why) = (IsCount most text → ⊥) × (why ≡ wrong)

-- how many requests are served: the number that is given, from 1 to 1,000,000, or else more than ever come
abbrev pub GivesRequests : (value text : Option (List ℕ)) → Result ℕ CommandFault → Type 0
GivesRequests None text result = result ≡ Ok (2 ^ 64 - 1)
GivesRequests (Some value) text result = GivesCount 1_000_000 fault.Requests text result

-- how many seconds a search may take: the number that is given, from 1 to the most, or else the default
abbrev pub GivesLongestSearch : (value text : Option (List ℕ)) → Result ℕ CommandFault → Type 0
GivesLongestSearch None text result = result ≡ Ok SEARCH_SECONDS
GivesLongestSearch (Some value) text result = GivesCount MOST_SEARCH_SECONDS fault.LongestSearch text result
