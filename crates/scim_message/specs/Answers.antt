-- How an answer is read: from its status and its body, and by the request that it answers.
use Rattle.std.specs.Prelude.{ℕ, Bool, true, false, List, [], ◌∷◌, Option, Some, None, Result, Ok, Err, ◌==◌, ◌&&◌, not, nat_le, if◌then◌else◌, codes, is_none}
use Rattle.scim_key.specs.Outcome.{◌>>=◌}
use Rattle.scim_key.specs.declared.records.Kind.{Kind}
use Rattle.scim_version.specs.Tags.{tag_fault}
use Rattle.serde_json.specs.Data.{Data, null, boolean, number, string, array, object, Items, no_items, item, Members}
use Rattle.scim_json.specs.Attributes.{attribute, repeats}
use Rattle.scim_json.specs.Parsing.{json_of}
use Rattle.scim_json.specs.Values.{whole_in, items_in, lists_text, text_of}
use Rattle.scim_json.specs.declared.values.ValueFault.{ValueFault}
use Rattle.scim_resource.specs.Contents.{content_kind}
use Rattle.scim_resource.specs.Rows.{ShownRecord}
use Rattle.scim_resource.specs.Showing.{read_shown}
use Rattle.scim_message.specs.Bodies.{error_message}
use Rattle.scim_message.specs.Refusals.{ErrorRecord, bare_error}
use Rattle.scim_message.specs.declared.answers.BodyFault.{BodyFault}
use Rattle.scim_message.specs.declared.answers.BodyFault.TheVariants.{NotJson, WrongShape}
use Rattle.scim_message.specs.declared.lists.ListResponse.{ListResponse}
use Rattle.scim_message.specs.declared.messages.Answer.{Answer}
use Rattle.scim_message.specs.declared.messages.Answer.TheVariants.{Created, Found, Replaced, NotModified, Error}
use Rattle.scim_message.specs.declared.messages.Answer.TheVariants as answers
use Rattle.scim_message.specs.declared.messages.Request.{Request}
use Rattle.scim_message.specs.declared.messages.Request.TheVariants.{Create, Retrieve, Search, Replace}

-- any fault of a value or of a resource means that the body has a wrong shape
abbrev pub shaped : {X F : Type 0} → Result X F → Result X BodyFault
shaped (Ok x) = Ok x
shaped (Err fault) = Err WrongShape

-- ---- errors

-- a status code from 400 to 599
abbrev pub is_error_status : ℕ → Bool
is_error_status status = nat_le 400 status && nat_le status 599

-- an error message: it repeats no name, and its schemas contain the URN of error messages, in any case
abbrev pub is_error_message : Members → Bool
is_error_message ms = not (repeats ms) && lists_text error_message (attribute (codes "schemas") ms)

-- `scimType` and `detail`, if they are texts and not empty
abbrev pub error_with : (status : ℕ) → Members → ErrorRecord
error_with status ms =
    record {
      status = status;
      scim_type = text_of (attribute (codes "scimType") ms);
      detail = text_of (attribute (codes "detail") ms);
    }

abbrev pub error_of_members : (status : ℕ) → Members → ErrorRecord
error_of_members status ms = if is_error_message ms then error_with status ms else bare_error status

abbrev pub error_from : (status : ℕ) → Option Data → ErrorRecord
error_from status None = bare_error status
error_from status (Some null) = bare_error status
error_from status (Some (boolean b)) = bare_error status
error_from status (Some (number n)) = bare_error status
error_from status (Some (string s)) = bare_error status
error_from status (Some (array ds)) = bare_error status
error_from status (Some (object ms)) = error_of_members status ms

-- the error that an answer with this status and body is; a body that isn't an error message adds nothing to the status
abbrev pub error_in : (status : ℕ) → (body : List ℕ) → ErrorRecord
error_in status body = error_from status (json_of body)

-- ---- lists

abbrev pub some_shown : Result ShownRecord BodyFault → Result (Option ShownRecord) BodyFault
some_shown (Ok s) = Ok (Some s)
some_shown (Err fault) = Err fault

-- a resource of this type; a `null` is ignored
abbrev pub shown_in : Kind → Data → Result (Option ShownRecord) BodyFault
shown_in kind null = Ok None
shown_in kind (boolean b) = some_shown (shaped (read_shown kind (boolean b)))
shown_in kind (number n) = some_shown (shaped (read_shown kind (number n)))
shown_in kind (string s) = some_shown (shaped (read_shown kind (string s)))
shown_in kind (array ds) = some_shown (shaped (read_shown kind (array ds)))
shown_in kind (object ms) = some_shown (shaped (read_shown kind (object ms)))

abbrev pub with_shown : Option ShownRecord → List ShownRecord → List ShownRecord
with_shown None page = page
with_shown (Some s) page = s ∷ page

-- all resources of a list, in their order
unfoldable pub page_of : Kind → Items → Result (List ShownRecord) BodyFault
page_of kind no_items = Ok []
page_of kind (item d ds) = shown_in kind d >>= (λ s. page_of kind ds >>= (λ page. Ok (with_shown s page)))

-- `Resources`, which may be absent
abbrev pub resources_in : Kind → Option Data → Result (List ShownRecord) BodyFault
resources_in kind value = shaped (items_in value) >>= page_of kind

abbrev pub required : Option ℕ → Result ℕ BodyFault
required None = Err WrongShape
required (Some n) = Ok n

-- `totalResults`, a whole number
abbrev pub total_in : Option Data → Result ℕ BodyFault
total_in value = shaped (whole_in value) >>= required

abbrev pub first_unless : Result (Option ℕ) ValueFault → ℕ
first_unless (Ok None) = 1
first_unless (Ok (Some n)) = if nat_le 1 n then n else 1
first_unless (Err fault) = 1

-- `startIndex`, or 1 if it isn't a whole number from 1
abbrev pub start_in : Option Data → ℕ
start_in value = first_unless (whole_in value)

unfoldable pub list_fields : Kind → Members → Result ListResponse BodyFault
list_fields kind ms =
    total_in (attribute (codes "totalResults") ms) >>= (λ total.
    resources_in kind (attribute (codes "Resources") ms) >>= (λ resources.
    Ok (record { total = total; start = start_in (attribute (codes "startIndex") ms); resources = resources })))

abbrev pub unless_repeated : {X : Type 0} → Bool → Result X BodyFault → Result X BodyFault
unless_repeated true answer = Err WrongShape
unless_repeated false answer = answer

-- a list of resources of this type
abbrev pub read_list : Kind → Data → Result ListResponse BodyFault
read_list kind null = Err WrongShape
read_list kind (boolean b) = Err WrongShape
read_list kind (number n) = Err WrongShape
read_list kind (string s) = Err WrongShape
read_list kind (array ds) = Err WrongShape
read_list kind (object ms) = unless_repeated (repeats ms) (list_fields kind ms)

-- ---- answers

-- the status of a successful answer to a request, except for 304
abbrev pub fits_status : Request → (status : ℕ) → Bool
fits_status (Create content) status = status == 201
fits_status (Retrieve kind id if_match if_none_match) status = status == 200
fits_status (Search kind wanted start count) status = status == 200
fits_status (Replace id content if_match if_none_match) status = status == 200

-- what a JSON body says as the answer to a request
abbrev pub said : Request → Data → Result Answer BodyFault
said (Create content) d = shaped (read_shown (content_kind content) d) >>= (λ s. Ok (Created s))
said (Retrieve kind id if_match if_none_match) d = shaped (read_shown kind d) >>= (λ s. Ok (Found s))
said (Search kind wanted start count) d = read_list kind d >>= (λ list. Ok (answers.List list))
said (Replace id content if_match if_none_match) d =
    shaped (read_shown (content_kind content) d) >>= (λ s. Ok (Replaced s))

abbrev pub said_if : Request → (status : ℕ) → Option Data → Result Answer BodyFault
said_if request status None = Err NotJson
said_if request status (Some d) = if fits_status request status then said request d else Err WrongShape

-- a body is parsed as JSON before the status is checked
abbrev pub said_in : Request → (status : ℕ) → (body : List ℕ) → Result Answer BodyFault
said_in request status body = said_if request status (json_of body)

abbrev pub tag_of : List ℕ → Result (List ℕ) BodyFault
tag_of tag = if is_none (tag_fault tag) then Ok tag else Err WrongShape

-- a 304: the resource's tag is in the field `ETag`, and there is no body
abbrev pub not_modified : Kind → (id : List ℕ) → (etag : Option (List ℕ)) → Result Answer BodyFault
not_modified kind id None = Err WrongShape
not_modified kind id (Some tag) = tag_of tag >>= (λ version. Ok (NotModified kind id version))

-- an answer that isn't an error
abbrev pub success : Request → (status : ℕ) → (etag : Option (List ℕ)) → (body : List ℕ) → Result Answer BodyFault
success (Create content) status etag body = said_in (Create content) status body
success (Retrieve kind id if_match if_none_match) status etag body =
    if status == 304 then not_modified kind id etag else said_in (Retrieve kind id if_match if_none_match) status body
success (Search kind wanted start count) status etag body = said_in (Search kind wanted start count) status body
success (Replace id content if_match if_none_match) status etag body =
    said_in (Replace id content if_match if_none_match) status body

-- The answer to a request, read from this status, this field `ETag` and this body. A status from 400 to 599 is an error
-- whatever the body says
abbrev pub read_body : Request → (status : ℕ) → (etag : Option (List ℕ)) → (body : List ℕ) → Result Answer BodyFault
read_body request status etag body =
    if is_error_status status then Ok (Error (error_in status body)) else success request status etag body
