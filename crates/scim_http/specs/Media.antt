-- The media type that a request states for its body.
use Rattle.std.specs.Prelude.{ℕ, Bool, true, false, List, [], ◌∷◌, Option, Some, None, ◌==◌, ◌&&◌, ◌||◌, not, find, take, drop, length, codes}
use Rattle.std.specs.Str.{bytes_eq}
use Rattle.http_text.specs.Message.{lowered}

-- a space or a tab
abbrev pub is_blank : ℕ → Bool
is_blank b = (b == 32) || (b == 9)

-- nothing, or a `;`
abbrev pub begins_parameters : Option ℕ → Bool
begins_parameters None = true
begins_parameters (Some b) = b == 59

-- the first byte that isn't a blank, if there is one, is the `;` of parameters
abbrev pub ends_type : List ℕ → Bool
ends_type rest = begins_parameters (find (λ byte. not (is_blank byte)) rest)

-- a text is this media type in any case, with any parameters
abbrev pub is_media_type : List ℕ → List ℕ → Bool
is_media_type name text =
    bytes_eq (lowered (take (length name) text)) (lowered name) && ends_type (drop (length name) text)

-- the media type of SCIM (RFC 7644 section 3.1)
abbrev pub media_type : List ℕ
media_type = codes "application/scim+json"

-- the media types that a body may have
abbrev pub is_json_type : List ℕ → Bool
is_json_type text = is_media_type media_type text || is_media_type (codes "application/json") text

-- there is no `Content-Type`, or exactly one, with such a media type
abbrev pub is_type_served : List (List ℕ) → Bool
is_type_served [] = true
is_type_served (text ∷ []) = is_json_type text
is_type_served (text ∷ other ∷ texts) = false
