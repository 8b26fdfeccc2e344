-- The records that the arguments of `reset` name.
use Rattle.std.specs.Prelude.{◌≡◌, ◌==◌, ℕ, Bool, false, List, [], ◌∷◌, map, Option, Some, None, is_none, is_some, option_map, codes, if◌then◌else◌, unwrap_or}
use Rattle.std.specs.List.{after_first, before_first, list_all}
use Rattle.std.specs.Str.{bytes_eq}
use Rattle.clap.specs.Matches.{matched_of, raw_values}
use Rattle.clap.specs.declared.parser.matches.Found.{Found}
use Rattle.scim_key.specs.Names.{group_name_fault, key_of, user_name_fault}
use Rattle.scim_key.specs.declared.records.Kind.{Kind}
use Rattle.scim_key.specs.declared.records.Kind.TheVariants.{Group, User}
use Rattle.scim_key.specs.declared.records.RecordName.{RecordName}
use Rattle.journal_store.specs.declared.scopes.Scope.{Scope}
use Rattle.journal_store.specs.declared.scopes.Scope.TheVariants.{All, These}
use Rattle.commands.specs.declared.scopes.Named.{Named}
use Rattle.commands.specs.declared.scopes.Named.TheVariants as named

-- a valid name of a record of this type
abbrev pub is_valid : Kind → List ℕ → Bool
is_valid User name = is_none (user_name_fault name)
is_valid Group name = is_none (group_name_fault name)

abbrev pub record_of : Kind → (name : List ℕ) → Option RecordName
record_of kind name = if is_valid kind name then Some (record { kind = kind; key = key_of name }) else None

abbrev pub type_in : List ℕ → List ℕ
type_in text = before_first (λ b. b == 58) text

abbrev pub name_in : List ℕ → List ℕ
name_in text = after_first (λ b. b == 58) text

-- user:LOGIN or group:NAME
abbrev pub record_in : List ℕ → Option RecordName
record_in text =
    if bytes_eq (type_in text) (codes "user") then record_of User (name_in text)
    else if bytes_eq (type_in text) (codes "group") then record_of Group (name_in text)
    else None

-- the words that name records, in their order
abbrev pub record_texts : Found → List (List ℕ)
record_texts found = unwrap_or (option_map raw_values (matched_of found (codes "record"))) []

-- each word names a record
abbrev pub are_records : List (List ℕ) → Bool
are_records texts = list_all (λ text. is_some (record_in text)) texts

-- these are the records of the words; without words, all
abbrev pub IsScope : (texts : List (List ℕ)) → Scope → Type 0
IsScope texts All = texts ≡ []
IsScope texts (These names) = map Some names.items ≡ map record_in texts

-- the words name these records, or one of them names none
abbrev pub Names : (texts : List (List ℕ)) → Named → Type 0
Names texts (named.Scope scope) = IsScope texts scope
Names texts (named.Wrong text) = are_records texts ≡ false
