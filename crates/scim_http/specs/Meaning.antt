-- What an accepted message asks for, or the first refusal that applies.
use Rattle.std.specs.Prelude.{◌≡◌, ℕ, List, [], ◌∷◌, Option, Some, None, Result, Ok, Err, if◌then◌else◌, codes, ⊤}
use Rattle.std.specs.List.{join_by}
use Rattle.std.specs.Str.{bytes_eq}
use Rattle.scim_key.specs.Outcome.{◌>>=◌}
use Rattle.scim_key.specs.declared.records.Kind.{Kind}
use Rattle.scim_version.specs.declared.tags.TagFault.{TagFault}
use Rattle.scim_version.specs.declared.conditions.Condition.{Condition}
use Rattle.scim_version.specs.declared.conditions.Condition.TheVariants.{Always}
use Rattle.scim_version.specs.Conditions.{condition_of}
use Rattle.scim_resource.specs.declared.contents.Content.{Content}
use Rattle.scim_resource.specs.declared.faults.ContentFault.{ContentFault}
use Rattle.scim_resource.specs.declared.faults.ContentFault.TheVariants.{InvalidSyntax, InvalidValue, Memory}
use Rattle.scim_resource.specs.Reading.{content_in}
use Rattle.scim_message.specs.declared.messages.Request.{Request}
use Rattle.scim_message.specs.declared.messages.Request.TheVariants.{Create, Retrieve, Replace}
use Rattle.scim_message.specs.declared.refusals.Refusal.{Refusal}
use Rattle.scim_message.specs.declared.refusals.Refusal.TheVariants.{NoSuchPath, MethodNotSupported, MediaType, UnreadableBody, ValueNotAllowed}
use Rattle.http_text.specs.Message.{Message, method_of, target_of, values}
use Rattle.scim_http.specs.declared.routes.Route.{Route}
use Rattle.scim_http.specs.declared.routes.Route.TheVariants.{Collection, Resource}
use Rattle.scim_http.specs.declared.requests.MeaningFault.{MeaningFault}
use Rattle.scim_http.specs.declared.requests.MeaningFault.TheVariants.{Refused, OutOfMemory}
use Rattle.scim_http.specs.Routes.{path_of, query_of, route_of}
use Rattle.scim_http.specs.Media.{is_type_served}
use Rattle.scim_http.specs.Searches.{IsSearch}

-- the refusal of a value that can't be read as a resource (no definition gives `Memory`)
abbrev pub refusal_of : ContentFault → Refusal
refusal_of InvalidSyntax = UnreadableBody
refusal_of InvalidValue = ValueNotAllowed
refusal_of Memory = ValueNotAllowed

abbrev pub content_read : Result Content ContentFault → Result Content Refusal
content_read (Ok content) = Ok content
content_read (Err fault) = Err (refusal_of fault)

-- the content that a body has
abbrev pub content_of : Kind → List ℕ → Result Content Refusal
content_of kind body = content_read (content_in kind body)

-- a media type that isn't supported is refused
abbrev pub type_accepted : Message → Result (Unit {0}) Refusal
type_accepted m = if is_type_served (values (codes "content-type") m.head.fields) then Ok tt else Err MediaType

-- ---- conditions

-- the values of all lines of a field, joined by commas, in order
abbrev pub joined : List (List ℕ) → List ℕ
joined values_ = join_by (λ value. value) (codes ",") values_

-- a text that spells no condition is refused as a value that isn't allowed
abbrev pub condition_read : Result Condition TagFault → Result Condition Refusal
condition_read (Ok condition) = Ok condition
condition_read (Err fault) = Err ValueNotAllowed

-- the condition that a text spells
abbrev pub condition_text : List ℕ → Result Condition Refusal
condition_text text = condition_read (condition_of text)

-- the condition in the lines of a field; `Always` if there are none
abbrev pub condition_in : List (List ℕ) → Result Condition Refusal
condition_in [] = Ok Always
condition_in (first ∷ others) = condition_text (joined (first ∷ others))

-- the condition of the field with this name
abbrev pub condition_named : List ℕ → Message → Result Condition Refusal
condition_named name m = condition_in (values name m.head.fields)

-- `If-Match` and `If-None-Match`
abbrev pub conditions_of : Message → Result (Condition × Condition) Refusal
conditions_of m = do
  if_match ← condition_named (codes "if-match") m
  if_none_match ← condition_named (codes "if-none-match") m
  Ok (if_match, if_none_match)

-- ---- requests

-- the content that a message sends; the media type is checked before the body
abbrev pub content_sent : Kind → Message → Result Content Refusal
content_sent kind m = do
  _ ← type_accepted m
  content_of kind m.body

-- POST on a collection
abbrev pub create_request : Kind → Message → Result Request Refusal
create_request kind m = do
  content ← content_sent kind m
  Ok (Create content)

-- A message asks for something by itself, or is refused; or it is a search, and its query decides
pub data Asked : Type 0 where
  outright : Result Request Refusal → Asked
  by_query : Kind → (query : List ℕ) → Asked

-- the methods of a collection
abbrev pub collection_asked : Kind → Message → Asked
collection_asked kind m =
    if bytes_eq (method_of m.head.start) (codes "POST") then outright (create_request kind m)
    else if bytes_eq (method_of m.head.start) (codes "GET") then by_query kind (query_of (target_of m.head.start))
    else outright (Err MethodNotSupported)

-- GET on one resource
abbrev pub retrieve_request : Kind → List ℕ → Message → Result Request Refusal
retrieve_request kind id m = do
  conditions ← conditions_of m
  Ok (Retrieve kind id conditions.0 conditions.1)

-- PUT on one resource; the body is checked before the conditions
abbrev pub replace_request : Kind → List ℕ → Message → Result Request Refusal
replace_request kind id m = do
  content ← content_sent kind m
  conditions ← conditions_of m
  Ok (Replace id content conditions.0 conditions.1)

-- the methods of one resource
abbrev pub resource_request : Kind → List ℕ → Message → Result Request Refusal
resource_request kind id m =
    if bytes_eq (method_of m.head.start) (codes "GET") then retrieve_request kind id m
    else if bytes_eq (method_of m.head.start) (codes "PUT") then replace_request kind id m
    else Err MethodNotSupported

abbrev pub routed_asked : Option Route → Message → Asked
routed_asked None m = outright (Err NoSuchPath)
routed_asked (Some (Collection kind)) m = collection_asked kind m
routed_asked (Some (Resource kind id)) m = outright (resource_request kind id m)

abbrev pub IsAsked : Asked → Result Request Refusal → Type 0
IsAsked (outright asked) answer = asked ≡ answer
IsAsked (by_query kind query) answer = IsSearch kind query answer

-- What a message asks for, or the first refusal, in this order: the path, the method, the media type, the body, the
-- conditions or the query
abbrev pub Asks : Message → Result Request Refusal → Type 0
Asks m answer = IsAsked (routed_asked (route_of (path_of (target_of m.head.start))) m) answer

-- the result is exactly what the definition says, or out of memory
abbrev pub Tells : {X : Type 0} → Result X MeaningFault → Result X Refusal → Type 0
Tells (Ok x) answer = answer ≡ Ok x
Tells (Err (Refused refusal)) answer = answer ≡ Err refusal
Tells (Err OutOfMemory) answer = ⊤

-- the same for a relation: the result is one that the definition allows, or out of memory
abbrev pub TellsOf : {X : Type 0} → (Result X Refusal → Type 0) → Result X MeaningFault → Type 0
TellsOf Allows (Ok x) = Allows (Ok x)
TellsOf Allows (Err (Refused refusal)) = Allows (Err refusal)
TellsOf Allows (Err OutOfMemory) = ⊤
