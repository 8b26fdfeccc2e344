-- What the target of a request names.
use Rattle.std.specs.Prelude.{ℕ, List, [], ◌∷◌, Option, Some, None, ◌==◌, if◌then◌else◌, take, drop, length, codes}
use Rattle.std.specs.List.{before_first, after_first}
use Rattle.std.specs.Str.{bytes_eq}
use Rattle.scim_key.specs.declared.records.Kind.{Kind}
use Rattle.scim_key.specs.declared.records.Kind.TheVariants as kinds
use Rattle.scim_http.specs.Segments.{id_of}
use Rattle.scim_http.specs.declared.routes.Route.{Route}
use Rattle.scim_http.specs.declared.routes.Route.TheVariants.{Collection, Resource}

-- the path of a target: the part before its first `?`
abbrev pub path_of : List ℕ → List ℕ
path_of target = before_first (λ byte. byte == 63) target

-- the query of a target: the part after its first `?`
abbrev pub query_of : List ℕ → List ℕ
query_of target = after_first (λ byte. byte == 63) target

-- the path of a collection
abbrev pub collection_path : Kind → List ℕ
collection_path kinds.User = codes "/v2/Users"
collection_path kinds.Group = codes "/v2/Groups"

-- the part of a text after this prefix, if it begins with the prefix
abbrev pub after : List ℕ → List ℕ → Option (List ℕ)
after prefix text = if bytes_eq (take (length prefix) text) prefix then Some (drop (length prefix) text) else None

abbrev pub resource_route : Kind → Option (List ℕ) → Option Route
resource_route kind None = None
resource_route kind (Some id) = Some (Resource kind id)

-- the collection if nothing is left, one of its resources if a `/` and one segment are left
abbrev pub route_from : Kind → Option (List ℕ) → Option Route
route_from kind None = None
route_from kind (Some []) = Some (Collection kind)
route_from kind (Some (byte ∷ segment)) = if byte == 47 then resource_route kind (id_of segment) else None

-- a collection, or one resource in it
abbrev pub route_in : Kind → List ℕ → Option Route
route_in kind path = route_from kind (after (collection_path kind) path)

abbrev pub or_else : Option Route → Option Route → Option Route
or_else None route = route
or_else (Some found) route = Some found

-- What a path names, if it names something; case matters
abbrev pub route_of : List ℕ → Option Route
route_of path = or_else (route_in kinds.User path) (route_in kinds.Group path)
