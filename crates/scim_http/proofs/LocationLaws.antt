-- The path in the location of a user names that user.
use Rattle.std.proofs.Common.{◌≡◌, ◌≢◌, refl, sym, ap, subst, ◌∙◌, ℕ, ◌+◌, ◌*◌, ◌/◌, ◌%◌, ◌<◌, ◌≤◌, Bool, true, false, cond, List, [], ◌∷◌, ◌++◌, Some, None, nat_eq, nat_lt, arith, append_assoc}
use Rattle.std.specs.Prelude.{codes}
use Rattle.std.specs.Char.{digit_value}
use Rattle.std.specs.List.{list_any, AllByRecursion}
use Rattle.std.specs.Str.{IsUtf8}
use Rattle.std.proofs.lemmas.Bool.{ne_eqb, ltb-true, ltb-false}
use Rattle.std.proofs.lemmas.Bool.Decides.{nat_tests}
use Rattle.std.proofs.lemmas.List.Folds.{list_any-append}
use Rattle.std.proofs.lemmas.Str.{is_utf8-from_IsUtf8}
use Rattle.scim_key.specs.Identifiers.{IsId}
use Rattle.scim_key.specs.declared.records.Kind.{Kind}
use Rattle.scim_key.specs.declared.records.Kind.TheVariants as kinds
use Rattle.scim_resource.specs.Locations.{is_unreserved, upper_hex, escaped, location_text}
use Rattle.scim_resource.specs.Locations as locations
use Rattle.scim_http.specs.declared.routes.Route.TheVariants.{Resource}
use Rattle.scim_http.specs.Segments.{SpellsText, nothing, plain, escape, hex_value, unescaped, lawful_id, without_fault, id_of}
use Rattle.scim_http.specs.Routes.{or_else, route_in, route_of, resource_route}
use Rattle.scim_http.specs.Laws.{resource_path, LocationsAreRouted}
use Rattle.scim_http.proofs.SegmentLaws.{from_SpellsText}

-- ---- the digits that are written are read

low_digit : (d : ℕ) → d < 10 → digit_value (48 + d) ≡ d
low_digit d h = grind (arith, nat_tests)

high_digit : (d : ℕ) → 10 ≤ d → d < 16 → digit_value (55 + d) ≡ d
high_digit d from to = grind (arith, nat_tests)

hex_from : (digit value : ℕ) → digit_value digit ≡ value → value < 16 → hex_value digit ≡ Some value
unfolding hex_value
hex_from digit value e h =
    let P : ℕ → Type 0 = λ v. cond (nat_lt v 16) (Some v) None ≡ Some value in
    let at_value : cond (nat_lt value 16) (Some value) None ≡ Some value = grind (arith, nat_tests) in
    subst P (sym e) at_value

hex_where : (d : ℕ) (test : Bool) → nat_lt d 10 ≡ test → d < 16 → hex_value (cond test (48 + d) (55 + d)) ≡ Some d
hex_where d true is h = hex_from (48 + d) d (low_digit d (ltb-true d 10 is)) h
hex_where d false is h = hex_from (55 + d) d (high_digit d (ltb-false d 10 is) h) h

no_slash_where : (d : ℕ) (test : Bool) → nat_eq (cond test (48 + d) (55 + d)) 47 ≡ false
no_slash_where d true = ne_eqb (48 + d) 47 (λ e. omega arith)
no_slash_where d false = ne_eqb (55 + d) 47 (λ e. omega arith)

hex_upper : (d : ℕ) → d < 16 → hex_value (upper_hex d) ≡ Some d
hex_upper d h = hex_where d (nat_lt d 10) refl h

upper_no_slash : (d : ℕ) → nat_eq (upper_hex d) 47 ≡ false
upper_no_slash d = no_slash_where d (nat_lt d 10)

-- ---- an escaped id

not_escaped : (byte other : ℕ) → is_unreserved byte ≡ true → is_unreserved other ≡ false → byte ≢ other
not_escaped byte other one two e = let both : is_unreserved byte ≡ is_unreserved other = ap is_unreserved e in cc

spells_one : (byte : ℕ) (rest text : List ℕ) (test : Bool) → is_unreserved byte ≡ test → byte < 256 → SpellsText rest text
    → SpellsText (cond test (byte ∷ []) (37 ∷ upper_hex (byte / 16) ∷ upper_hex (byte % 16) ∷ []) ++ rest) (byte ∷ text)
spells_one byte rest text true is small s = plain byte (not_escaped byte 37 is refl) s
spells_one byte rest text false is small s =
    let whole : 16 * (byte / 16) + byte % 16 ≡ byte = omega arith in
    subst (λ b. SpellsText (37 ∷ upper_hex (byte / 16) ∷ upper_hex (byte % 16) ∷ rest) (b ∷ text)) whole
    (escape (upper_hex (byte / 16)) (upper_hex (byte % 16)) (byte / 16) (byte % 16) (hex_upper (byte / 16) (omega arith)) (hex_upper (byte % 16) (omega arith)) s)

spells_escaped : (id : List ℕ) → AllByRecursion (λ byte. byte < 256) id → SpellsText (escaped id) id
unfolding locations.escaped_byte
spells_escaped [] small = nothing
spells_escaped (byte ∷ id) small = spells_one byte (escaped id) id (is_unreserved byte) refl small.0 (spells_escaped id small.1)

no_slash_in : (byte : ℕ) (test : Bool) → is_unreserved byte ≡ test
    → list_any (λ b. nat_eq b 47) (cond test (byte ∷ []) (37 ∷ upper_hex (byte / 16) ∷ upper_hex (byte % 16) ∷ [])) ≡ false
no_slash_in byte true is = rw (ne_eqb byte 47 (not_escaped byte 47 is refl)) refl
no_slash_in byte false is = rw (upper_no_slash (byte / 16), upper_no_slash (byte % 16)) refl

no_slash : (id : List ℕ) → list_any (λ b. nat_eq b 47) (escaped id) ≡ false
unfolding locations.escaped_byte
no_slash [] = refl
no_slash (byte ∷ id) =
    list_any-append (λ b. nat_eq b 47) (locations.escaped_byte byte) (escaped id) ∙ rw (no_slash_in byte (is_unreserved byte) refl) (no_slash id)

-- ---- the path

lawful : (id : List ℕ) → IsUtf8 id → IsId id → lawful_id (Some id) ≡ Some id
lawful id text is = rw (is_utf8-from_IsUtf8 id text) (ap (λ fault. without_fault fault id) is)

id_read : (id : List ℕ) → AllByRecursion (λ byte. byte < 256) id → IsUtf8 id → IsId id → id_of (escaped id) ≡ Some id
id_read id small text is =
    ap (λ test. cond test None (lawful_id (unescaped (escaped id)))) (no_slash id)
    ∙ ap lawful_id (from_SpellsText (escaped id) id (spells_escaped id small))
    ∙ lawful id text is

routed : (kind : Kind) (id : List ℕ) → AllByRecursion (λ byte. byte < 256) id → IsUtf8 id → IsId id → route_of (resource_path kind id) ≡ Some (Resource kind id)
routed kinds.User id small text is = ap (λ found. or_else (resource_route kinds.User found) (route_in kinds.Group (resource_path kinds.User id))) (id_read id small text is)
routed kinds.Group id small text is = ap (resource_route kinds.Group) (id_read id small text is)

located : (origin : List ℕ) (kind : Kind) (id : List ℕ) → location_text (origin ++ codes "/v2") kind id ≡ origin ++ resource_path kind id
unfolding location_text
located origin kinds.User id =
    ap (λ front. front ++ escaped id) (append_assoc origin (codes "/v2") (codes "/Users/"))
    ∙ append_assoc origin (codes "/v2" ++ codes "/Users/") (escaped id)
located origin kinds.Group id =
    ap (λ front. front ++ escaped id) (append_assoc origin (codes "/v2") (codes "/Groups/"))
    ∙ append_assoc origin (codes "/v2" ++ codes "/Groups/") (escaped id)

pub locations_are_routed : LocationsAreRouted
locations_are_routed = record { located = located; routed = routed }
