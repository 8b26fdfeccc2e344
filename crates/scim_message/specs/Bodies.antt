-- The bodies of answers (RFC 7644 sections 3.1 and 3.12).
use Rattle.std.specs.Prelude.{ℕ, List, [], ◌∷◌, Option, Some, None, option_map, map, length, codes}
use Rattle.std.specs.Option.{option_map_or}
use Rattle.std.specs.Fmt.{decimal}
use Rattle.serde_json.specs.Data.{Data, unsigned, number, string, array, object, Items, no_items, item}
use Rattle.serde_json.specs.View.{items_of}
use Rattle.serde_json.specs.Written.{compact_text}
use Rattle.scim_json.specs.Writing.{Part, members_from}
use Rattle.scim_resource.specs.Rows.{ShownRecord}
use Rattle.scim_resource.specs.Locations.{location_text}
use Rattle.scim_resource.specs.Writing.{shown_data, shown_location}
use Rattle.scim_message.specs.Refusals.{ErrorRecord}
use Rattle.scim_message.specs.declared.lists.ListResponse.{ListResponse}
use Rattle.scim_message.specs.declared.messages.Answer.{Answer}
use Rattle.scim_message.specs.declared.messages.Answer.TheVariants.{Created, Found, Replaced, NotModified, Error}
use Rattle.scim_message.specs.declared.messages.Answer.TheVariants as answers

-- the URI of the resource that an answer shows or is about, if it is about one
abbrev pub answer_location : List ℕ → Answer → Option (List ℕ)
answer_location base (Created shown) = Some (shown_location base shown)
answer_location base (Found shown) = Some (shown_location base shown)
answer_location base (Replaced shown) = Some (shown_location base shown)
answer_location base (answers.List list) = None
answer_location base (NotModified kind id version) = Some (location_text base kind id)
answer_location base (Error error) = None

-- the URN of an error message
unfoldable pub error_message : List ℕ
error_message = codes "urn:ietf:params:scim:api:messages:2.0:Error"

-- the members of an error message in byte order; the status is a text
abbrev pub error_parts : ErrorRecord → List Part
error_parts e =
    (codes "detail", option_map string e.detail)
    ∷ (codes "schemas", Some (array (item (string error_message) no_items)))
    ∷ (codes "scimType", option_map string e.scim_type)
    ∷ (codes "status", Some (string (decimal e.status)))
    ∷ []

unfoldable pub error_data : ErrorRecord → Data
error_data e = object (members_from (error_parts e))

-- the URN of a list message (RFC 7644 section 3.4.2)
unfoldable pub list_message : List ℕ
list_message = codes "urn:ietf:params:scim:api:messages:2.0:ListResponse"

-- the resources of a page as a service at this base shows them
abbrev pub page_data : List ℕ → List ShownRecord → Items
page_data base page = items_of (map (shown_data base) page)

-- the members of a list message in byte order
abbrev pub list_parts : List ℕ → ListResponse → List Part
list_parts base list =
    (codes "Resources", Some (array (page_data base list.resources)))
    ∷ (codes "itemsPerPage", Some (number (unsigned (length list.resources))))
    ∷ (codes "schemas", Some (array (item (string list_message) no_items)))
    ∷ (codes "startIndex", Some (number (unsigned list.start)))
    ∷ (codes "totalResults", Some (number (unsigned list.total)))
    ∷ []

unfoldable pub list_data : List ℕ → ListResponse → Data
list_data base list = object (members_from (list_parts base list))

-- what an answer says, by a service at this base
abbrev pub body_data : List ℕ → Answer → Option Data
body_data base (Created shown) = Some (shown_data base shown)
body_data base (Found shown) = Some (shown_data base shown)
body_data base (Replaced shown) = Some (shown_data base shown)
body_data base (answers.List list) = Some (list_data base list)
body_data base (NotModified kind id version) = None
body_data base (Error error) = Some (error_data error)

-- The body of an answer: the compact text of what it says, or nothing
abbrev pub body_text : List ℕ → Answer → List ℕ
body_text base answer = option_map_or compact_text (body_data base answer) []
