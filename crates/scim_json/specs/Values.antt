-- What an attribute's value must be. An absent value isn't a fault.
use Rattle.std.specs.Prelude.{ℕ, List, Bool, false, ◌||◌, Option, None, Some, Result, Ok, Err}
use Rattle.serde_json.specs.Data.{unsigned, negative, float, Data, null, boolean, number, string, array, object, Items, no_items, item, Members}
use Rattle.scim_json.specs.Attributes.{same_name}
use Rattle.scim_json.specs.declared.values.ValueFault.{ValueFault}
use Rattle.scim_json.specs.declared.values.ValueFault.TheVariants.{WrongType}

-- a boolean, or `absent` if there is no value
abbrev pub flag_or : Bool → Option Data → Result Bool ValueFault
flag_or absent None = Ok absent
flag_or absent (Some null) = Err WrongType
flag_or absent (Some (boolean b)) = Ok b
flag_or absent (Some (number n)) = Err WrongType
flag_or absent (Some (string s)) = Err WrongType
flag_or absent (Some (array ds)) = Err WrongType
flag_or absent (Some (object ms)) = Err WrongType

-- a whole number without sign, fraction or exponent
abbrev pub whole_in : Option Data → Result (Option ℕ) ValueFault
whole_in None = Ok None
whole_in (Some null) = Err WrongType
whole_in (Some (boolean b)) = Err WrongType
whole_in (Some (number (unsigned n))) = Ok (Some n)
whole_in (Some (number (negative z))) = Err WrongType
whole_in (Some (number (float x))) = Err WrongType
whole_in (Some (string s)) = Err WrongType
whole_in (Some (array ds)) = Err WrongType
whole_in (Some (object ms)) = Err WrongType

-- the items of a list; an absent list has none
abbrev pub items_in : Option Data → Result Items ValueFault
items_in None = Ok no_items
items_in (Some null) = Err WrongType
items_in (Some (boolean b)) = Err WrongType
items_in (Some (number n)) = Err WrongType
items_in (Some (string s)) = Err WrongType
items_in (Some (array ds)) = Ok ds
items_in (Some (object ms)) = Err WrongType

abbrev pub members_in : Option Data → Result (Option Members) ValueFault
members_in None = Ok None
members_in (Some null) = Err WrongType
members_in (Some (boolean b)) = Err WrongType
members_in (Some (number n)) = Err WrongType
members_in (Some (string s)) = Err WrongType
members_in (Some (array ds)) = Err WrongType
members_in (Some (object ms)) = Ok (Some ms)

-- the value is this text, in any case
abbrev pub is_text : List ℕ → Data → Bool
is_text text null = false
is_text text (boolean b) = false
is_text text (number n) = false
is_text text (string s) = same_name s text
is_text text (array ds) = false
is_text text (object ms) = false

unfoldable pub some_text : List ℕ → Items → Bool
some_text text no_items = false
some_text text (item d ds) = is_text text d || some_text text ds

-- a list that contains this text, in any case
abbrev pub lists_text : List ℕ → Option Data → Bool
lists_text text None = false
lists_text text (Some null) = false
lists_text text (Some (boolean b)) = false
lists_text text (Some (number n)) = false
lists_text text (Some (string s)) = false
lists_text text (Some (array ds)) = some_text text ds
lists_text text (Some (object ms)) = false

-- the text, if the value is a text
abbrev pub text_of : Option Data → Option (List ℕ)
text_of None = None
text_of (Some null) = None
text_of (Some (boolean b)) = None
text_of (Some (number n)) = None
text_of (Some (string s)) = Some s
text_of (Some (array ds)) = None
text_of (Some (object ms)) = None
