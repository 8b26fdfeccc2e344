-- Conditions of a request (RFC 7232 sections 3.1 and 3.2).
use Rattle.std.specs.Prelude.{◌<◌, ℕ, Bool, true, false, List, [], ◌∷◌, not, length, if◌then◌else◌, ◌==◌, codes, Option, Some, None, Result, Ok, Err}
use Rattle.std.specs.List.{list_all, list_any, AllByRecursion}
use Rattle.std.specs.Str.{bytes_eq}
use Rattle.scim_key.specs.Outcome.{◌>>=◌}
use Rattle.scim_version.specs.declared.tags.TagFault.{TagFault}
use Rattle.scim_version.specs.declared.tags.TagFault.TheVariants.{Malformed}
use Rattle.scim_version.specs.declared.conditions.Condition.{Condition}
use Rattle.scim_version.specs.declared.conditions.Condition.TheVariants.{Always, AnyTag, Tags}
use Rattle.scim_version.specs.Tags.{IsEntityTag, is_entity_tag, version_tag, strong_eq, weak_eq}
use Rattle.scim_version.specs.Lists.{IsListOf, elements}

-- The grammar: `*` alone, or a list of at least one tag. No text spells `Always`, which is for requests without the
-- field.
abbrev pub Spells : List ℕ → Condition → Type 0
Spells text Always = ⊥
Spells text AnyTag = IsListOf text (codes "*" ∷ [])
Spells text (Tags tags) = IsListOf text tags × (0 < length tags) × AllByRecursion IsEntityTag tags

-- the tags that these texts are; `Malformed` if one of them isn't a tag
unfoldable pub tags_from : List (List ℕ) → Result (List (List ℕ)) TagFault
tags_from texts = if list_all is_entity_tag texts then Ok texts else Err Malformed

-- whether `*` is the only element
unfoldable pub is_star : List (List ℕ) → Bool
is_star [] = false
is_star (element ∷ []) = bytes_eq element (codes "*")
is_star (element ∷ other ∷ more) = false

-- the condition that the elements of a list spell
unfoldable pub condition_from : List (List ℕ) → Result Condition TagFault
condition_from found =
    if length found == 0 then Err Malformed
    else if is_star found then Ok AnyTag
    else (tags_from found >>= λ tags. Ok (Tags tags))

-- the condition that a text spells, or `Malformed`
unfoldable pub condition_of : List ℕ → Result Condition TagFault
condition_of text = condition_from (elements text)

-- whether some tag is strongly equal to the tag of a version; whether some tag is weakly equal to it
unfoldable pub has_version : List (List ℕ) → ℕ → Bool
has_version tags version = list_any (λ tag. strong_eq tag (version_tag version)) tags

unfoldable pub has_version_weakly : List (List ℕ) → ℕ → Bool
has_version_weakly tags version = list_any (λ tag. weak_eq tag (version_tag version)) tags

-- whether `If-Match` holds for a resource at this version, or for none
abbrev pub holds_match : Condition → Option ℕ → Bool
holds_match Always current = true
holds_match AnyTag (Some version) = true
holds_match AnyTag None = false
holds_match (Tags tags) (Some version) = has_version tags version
holds_match (Tags tags) None = false

-- whether `If-None-Match` holds for a resource at this version, or for none
abbrev pub holds_none_match : Condition → Option ℕ → Bool
holds_none_match Always current = true
holds_none_match AnyTag (Some version) = false
holds_none_match AnyTag None = true
holds_none_match (Tags tags) (Some version) = not (has_version_weakly tags version)
holds_none_match (Tags tags) None = true
