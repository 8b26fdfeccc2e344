-- What the writers of bodies add is the data that their definitions name.
use Rattle.std.proofs.Common.{◌≡◌, ℕ, List, [], ◌∷◌, ◌++◌, length, Result, OnOk, Some, option_map, codes, flat_map, ap, append-nil}
use Rattle.std.proofs.lemmas.Grind.{flat_map-append}
use Rattle.std.specs.Fmt.{decimal}
use Rattle.json.specs.Token.{Token, begin_object, end_object}
use Rattle.json.specs.Written.{Written}
use Rattle.json.specs.Written as token
use Rattle.serde_json.specs.Data.{unsigned, number, string, array, no_items, item}
use Rattle.scim_json.specs.Writing.{data_tokens, part_tokens, Adds, Writes, WritesPart}
use Rattle.scim_json.proofs.Written.{then, object_closed}
use Rattle.scim_resource.specs.Rows.{ShownRecord}
use Rattle.scim_resource.specs.Writing.{shown_data}
use Rattle.scim_message.specs.Fitting.{IsLawful, AreLawful}
use Rattle.scim_message.specs.Bodies.{error_message, error_parts, error_data, list_message, page_data, list_parts, list_data}
use Rattle.scim_message.specs.declared.lists.ListResponse.{ListResponse}
use Rattle.scim_message.specs.Refusals.{ErrorRecord}

four : (p q r s : List Token) → p ++ (q ++ (r ++ (s ++ []))) ≡ p ++ (q ++ (r ++ s))
four p q r s = simp append-nil

pub error_closed : {E : Type 0} (x : Result (Unit {0}) E) (m : ErrorRecord) (a b c d e f g : Written) → Adds (begin_object ∷ []) a b
    → WritesPart (codes "detail") (option_map string m.detail) b c → WritesPart (codes "schemas") (Some (array (item (string error_message) no_items))) c d
    → WritesPart (codes "scimType") (option_map string m.scim_type) d e → WritesPart (codes "status") (Some (string (decimal m.status))) e f
    → token.Writes x f g end_object → OnOk x (Writes (error_data m) a g)
unfolding error_data
error_closed x m a b c d e f g first detail schemas kind status last =
    let p = part_tokens (codes "detail") (option_map string m.detail) in
    let q = part_tokens (codes "schemas") (Some (array (item (string error_message) no_items))) in
    let r = part_tokens (codes "scimType") (option_map string m.scim_type) in
    let s = part_tokens (codes "status") (Some (string (decimal m.status))) in
    object_closed x (error_parts m) (p ++ (q ++ (r ++ s))) a b f g (four p q r s) first (then p (q ++ (r ++ s)) b c f detail (then q (r ++ s) c d f schemas (then r s d e f kind status))) last

-- ---- lists

pub page_closed : {E : Type 0} (x : Result (Unit {0}) E) (base : List ℕ) (l : ListResponse) (a b c d e f g h : Written) → Adds (begin_object ∷ []) a b
    → WritesPart (codes "Resources") (Some (array (page_data base l.resources))) b c → WritesPart (codes "itemsPerPage") (Some (number (unsigned (length l.resources)))) c d
    → WritesPart (codes "schemas") (Some (array (item (string list_message) no_items))) d e → WritesPart (codes "startIndex") (Some (number (unsigned l.start))) e f
    → WritesPart (codes "totalResults") (Some (number (unsigned l.total))) f g → token.Writes x g h end_object → OnOk x (Writes (list_data base l) a h)
unfolding list_data
page_closed x base l a b c d e f g h first page count schemas start total last =
    let o = part_tokens (codes "Resources") (Some (array (page_data base l.resources))) in
    let p = part_tokens (codes "itemsPerPage") (Some (number (unsigned (length l.resources)))) in
    let q = part_tokens (codes "schemas") (Some (array (item (string list_message) no_items))) in
    let r = part_tokens (codes "startIndex") (Some (number (unsigned l.start))) in
    let s = part_tokens (codes "totalResults") (Some (number (unsigned l.total))) in
    object_closed x (list_parts base l) (o ++ (p ++ (q ++ (r ++ s)))) a b g h (ap (λ ts. o ++ ts) (four p q r s)) first
    (then o (p ++ (q ++ (r ++ s))) b c g page (then p (q ++ (r ++ s)) c d g count (then q (r ++ s) d e g schemas (then r s e f g start total)))) last

pub page_step : (base : List ℕ) (done : List ShownRecord) (s : ShownRecord) (a b c : Written) → Adds (flat_map (λ x. data_tokens (shown_data base x)) done) a b → Writes (shown_data base s) b c
    → Adds (flat_map (λ x. data_tokens (shown_data base x)) (done ++ s ∷ [])) a c
page_step base done s a b c before next =
    let told : ShownRecord → List Token = λ x. data_tokens (shown_data base x) in
    rw (flat_map-append told done (s ∷ []), append-nil (told s)) (then (flat_map told done) (told s) a b c before next)

pub AreLawful-push : (page : List ShownRecord) (s : ShownRecord) → AreLawful page → IsLawful s → AreLawful (page ++ s ∷ [])
AreLawful-push [] s h one = (one, tt)
AreLawful-push (x ∷ xs) s h one = (h.0, AreLawful-push xs s h.1 one)
