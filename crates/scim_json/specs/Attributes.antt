-- Finding an attribute in an object. Names are compared with ASCII letters in lower case.
use Rattle.std.specs.Prelude.{ℕ, List, length, Bool, true, false, ◌||◌, ◌==◌, Option, None, Some, if◌then◌else◌, bytes_eq}
use Rattle.std.specs.Str.{str_to_ascii_lowercase}
use Rattle.serde_json.specs.Data.{Data, null, boolean, number, string, array, object, Items, no_items, item, Members, no_members, member}

abbrev pub same_name : List ℕ → List ℕ → Bool
same_name a b = bytes_eq (str_to_ascii_lowercase a) (str_to_ascii_lowercase b)

-- the value of the first member with this name, in any case
unfoldable pub named : List ℕ → Members → Option Data
named name no_members = None
named name (member k d ms) = if same_name k name then Some d else named name ms

-- `null` and the empty text
abbrev pub is_empty : Data → Bool
is_empty null = true
is_empty (boolean b) = false
is_empty (number n) = false
is_empty (string s) = length s == 0
is_empty (array ds) = false
is_empty (object ms) = false

-- `null` and the empty text count as absent
abbrev pub present : Option Data → Option Data
present None = None
present (Some d) = if is_empty d then None else Some d

abbrev pub attribute : List ℕ → Members → Option Data
attribute name ms = present (named name ms)

-- some name of the object is this one, in any case
unfoldable pub has_name : List ℕ → Members → Bool
has_name name no_members = false
has_name name (member k d ms) = same_name name k || has_name name ms

-- Two names of the object are equal in lower case. (A value that was read never has the same name twice, byte for byte,
-- so the two differ in bytes.)
unfoldable pub repeats : Members → Bool
repeats no_members = false
repeats (member k d ms) = has_name k ms || repeats ms

-- the value is an object with two names that are equal in lower case
abbrev pub value_repeats : Option Data → Bool
value_repeats None = false
value_repeats (Some null) = false
value_repeats (Some (boolean b)) = false
value_repeats (Some (number n)) = false
value_repeats (Some (string s)) = false
value_repeats (Some (array ds)) = false
value_repeats (Some (object ms)) = repeats ms

unfoldable pub items_repeat : Items → Bool
items_repeat no_items = false
items_repeat (item d ds) = value_repeats (Some d) || items_repeat ds

-- the value is a list that contains an object with two names that are equal in lower case
abbrev pub list_repeats : Option Data → Bool
list_repeats None = false
list_repeats (Some null) = false
list_repeats (Some (boolean b)) = false
list_repeats (Some (number n)) = false
list_repeats (Some (string s)) = false
list_repeats (Some (array ds)) = items_repeat ds
list_repeats (Some (object ms)) = false
