-- The tokens of what is written, part by part.
use Rattle.std.proofs.Common.{◌≡◌, ℕ, List, [], ◌∷◌, ◌++◌, Option, None, Some, Result, OnOk, option_map, codes, map, length, is_some, take, take_all, flat_map, ◌≤◌, ◌||◌, ◌==◌, Bool, true, false, refl, sym, ap, ◌∙◌, append_assoc, append-nil}
use Rattle.json.specs.Token.{Token, begin_array, begin_object, end_array, end_object, key}
use Rattle.json.specs.Tree.{items_tokens}
use Rattle.json.specs.Written.{Written}
use Rattle.json.specs.Written as token
use Rattle.serde_json.specs.Data.{Data, array, string, object, Items, Members, no_members}
use Rattle.serde_json.specs.View.{items_of}
use Rattle.serde_json.specs.Written.{items_outline}
use Rattle.scim_json.specs.Writing.{data_tokens, member_if, members_from, part_tokens, parts_tokens, Adds, Writes, WritesPart, WritesParts}
use Rattle.scim_json.proofs.Written.{parts_tokens-append, then, closed, keyed, object_closed}
use Rattle.scim_resource.specs.Contents.{content_kind}
use Rattle.scim_resource.specs.Groups.{GroupRecord}
use Rattle.scim_resource.specs.Locations.{type_name}
use Rattle.scim_resource.specs.Rows.{ShownRecord}
use Rattle.scim_resource.specs.UserTexts.{UserTexts, has_some, name_of, text_at}
use Rattle.scim_resource.specs.Users.{UserRecord}
use Rattle.scim_resource.specs.declared.emails.Email.{Email}
use Rattle.scim_resource.specs.declared.user_texts.UserText.{UserText}
use Rattle.scim_resource.specs.Writing.{Extension, urn_if, urns_of, urn_tokens, schemas_data, group_parts, group_data, group_front, group_back, group_members_data, member_data, user_parts, user_data, user_front, user_back, text_parts, object_if, email_parts, email_data, primary_data, emails_data, meta_parts, meta_data}

pub user_closed : {E : Type 0} (r : Result (Unit {0}) E) (id meta : Option Data) (u : UserRecord) (a b c d e f g : Written) → Adds (begin_object ∷ []) a b → WritesParts (user_front u) b c
    → WritesPart (codes "id") id c d → WritesPart (codes "meta") meta d e → WritesParts (user_back u) e f → token.Writes r f g end_object
    → OnOk r (Writes (user_data id meta u) a g)
unfolding user_data user_front user_back
user_closed r id meta u a b c d e f g first front named shown back last =
    let p = parts_tokens (user_front u) in
    let i = part_tokens (codes "id") id in
    let m = part_tokens (codes "meta") meta in
    let q = parts_tokens (user_back u) in
    object_closed r (user_parts id meta u) (p ++ (i ++ (m ++ q))) a b f g (parts_tokens-append (user_front u) ((codes "id", id) ∷ (codes "meta", meta) ∷ user_back u)) first
    (then p (i ++ (m ++ q)) b c f front (then i (m ++ q) c d f named (then m q d e f shown back))) last

pub group_closed : {E : Type 0} (r : Result (Unit {0}) E) (id meta : Option Data) (o : GroupRecord) (a b c d e f g h : Written) → Adds (begin_object ∷ []) a b → WritesParts (group_front o) b c
    → WritesPart (codes "id") id c d → WritesPart (codes "members") (group_members_data o.members) d e → WritesPart (codes "meta") meta e f → WritesParts (group_back o) f g
    → token.Writes r g h end_object → OnOk r (Writes (group_data id meta o) a h)
unfolding group_data group_front group_back
group_closed r id meta o a b c d e f g h first front named members shown back last =
    let p = parts_tokens (group_front o) in
    let i = part_tokens (codes "id") id in
    let v = part_tokens (codes "members") (group_members_data o.members) in
    let m = part_tokens (codes "meta") meta in
    let q = parts_tokens (group_back o) in
    object_closed r (group_parts id meta o) (p ++ (i ++ (v ++ (m ++ q)))) a b g h
    (parts_tokens-append (group_front o) ((codes "id", id) ∷ (codes "members", group_members_data o.members) ∷ (codes "meta", meta) ∷ group_back o)) first
    (then p (i ++ (v ++ (m ++ q))) b c g front (then i (v ++ (m ++ q)) c d g named (then v (m ++ q) d e g members (then m q e f g shown back)))) last

three : (a b c : List Token) → a ++ (b ++ (c ++ [])) ≡ a ++ (b ++ c)
three a b c = simp append-nil

pub meta_closed : {E : Type 0} (r : Result (Unit {0}) E) (location : List ℕ) (s : ShownRecord) (a b c d e f : Written) → Adds (begin_object ∷ []) a b
    → WritesPart (codes "location") (Some (string location)) b c → WritesPart (codes "resourceType") (Some (string (type_name (content_kind s.content)))) c d
    → WritesPart (codes "version") (option_map string s.version) d e → token.Writes r e f end_object → OnOk r (Writes (meta_data location s) a f)
unfolding meta_data
meta_closed r location s a b c d e f first place name version last =
    let p = part_tokens (codes "location") (Some (string location)) in
    let n = part_tokens (codes "resourceType") (Some (string (type_name (content_kind s.content)))) in
    let v = part_tokens (codes "version") (option_map string s.version) in
    object_closed r (meta_parts location s) (p ++ (n ++ v)) a b e f (three p n v) first (then p (n ++ v) b c e place (then n v c d e name version)) last

pub email_closed : {E : Type 0} (r : Result (Unit {0}) E) (m : Email) (a b c d e f : Written) → Adds (begin_object ∷ []) a b
    → WritesPart (codes "primary") (primary_data m.primary) b c → WritesPart (codes "type") (option_map string m.type_text) c d → WritesPart (codes "value") (Some (string m.value)) d e
    → token.Writes r e f end_object → OnOk r (Writes (email_data m) a f)
unfolding email_data
email_closed r m a b c d e f first primary kind value last =
    let p = part_tokens (codes "primary") (primary_data m.primary) in
    let t = part_tokens (codes "type") (option_map string m.type_text) in
    let v = part_tokens (codes "value") (Some (string m.value)) in
    object_closed r (email_parts m) (p ++ (t ++ v)) a b e f (three p t v) first (then p (t ++ v) b c e primary (then t v c d e kind value)) last

-- the texts of a user, one by one
abbrev pub text_tokens : UserTexts → UserText → List Token
text_tokens texts which = part_tokens (name_of which) (option_map string (text_at which texts))

pub texts_tokens : (texts : UserTexts) (ws : List UserText) → flat_map (text_tokens texts) ws ≡ parts_tokens (text_parts texts ws)
texts_tokens texts [] = refl
texts_tokens texts (w ∷ ws) = ap (λ ts. text_tokens texts w ++ ts) (texts_tokens texts ws)

-- all texts are written when the loop has come to its end
pub texts_written : (texts : UserTexts) (ws : List UserText) (i : ℕ) (a b : Written) → length ws ≤ i → Adds (flat_map (text_tokens texts) (take i ws)) a b → WritesParts (text_parts texts ws) a b
texts_written texts ws i a b past each =
    (each.0, each.1 ∙ ap (λ vs. a.tokens ++ flat_map (text_tokens texts) vs) (take_all i ws past) ∙ ap (λ ts. a.tokens ++ ts) (texts_tokens texts ws))

none_written : (o : Option (List ℕ)) (name : List ℕ) (ms : Members) → is_some o ≡ false → member_if name (option_map string o) ms ≡ ms
none_written None name ms h = refl
none_written (Some text) name ms h = cc

no_text : (a b : Bool) → (a || b) ≡ false → (a ≡ false) × (b ≡ false)
no_text true b h = cc
no_text false b h = (refl, h)

no_members_of : (texts : UserTexts) (ws : List UserText) → has_some texts ws ≡ false → members_from (text_parts texts ws) ≡ no_members
no_members_of texts [] h = refl
no_members_of texts (w ∷ ws) h =
    let none = no_text (is_some (text_at w texts)) (has_some texts ws) h in
    none_written (text_at w texts) (name_of w) (members_from (text_parts texts ws)) none.0 ∙ no_members_of texts ws none.1

-- an object of texts is there if the user has one of them
texts_none : (texts : UserTexts) (ws : List UserText) → has_some texts ws ≡ false → object_if (members_from (text_parts texts ws)) ≡ None
texts_none texts ws h = ap object_if (no_members_of texts ws h)

object_some : (o : Option (List ℕ)) (name : List ℕ) (ms : Members) (more : Bool) → (is_some o || more) ≡ true → (more ≡ true → object_if ms ≡ Some (object ms))
    → object_if (member_if name (option_map string o) ms) ≡ Some (object (member_if name (option_map string o) ms))
object_some None name ms more h rest = rest h
object_some (Some text) name ms more h rest = refl

texts_some : (texts : UserTexts) (ws : List UserText) → has_some texts ws ≡ true → object_if (members_from (text_parts texts ws)) ≡ Some (object (members_from (text_parts texts ws)))
texts_some texts [] h = cc
texts_some texts (w ∷ ws) h = object_some (text_at w texts) (name_of w) (members_from (text_parts texts ws)) (has_some texts ws) h (λ more. texts_some texts ws more)

pub held_none : (name : List ℕ) (texts : UserTexts) (ws : List UserText) (a : Written) → has_some texts ws ≡ false → WritesPart name (object_if (members_from (text_parts texts ws))) a a
held_none name texts ws a h = rw (texts_none texts ws h) (refl, sym (append-nil a.tokens))

pub held_some : {E : Type 0} (r : Result (Unit {0}) E) (name : List ℕ) (texts : UserTexts) (ws : List UserText) (a b : Written) → has_some texts ws ≡ true
    → OnOk r (WritesPart name (Some (object (members_from (text_parts texts ws)))) a b) → OnOk r (WritesPart name (object_if (members_from (text_parts texts ws))) a b)
held_some r name texts ws a b h written = rw (texts_some texts ws h) written

pub emails_some : (es : List Email) → (length es == 0) ≡ false → emails_data es ≡ Some (array (items_of (map email_data es)))
emails_some [] h = cc
emails_some (e ∷ es) h = refl

-- ---- the URNs of extensions

abbrev tokens_of : {A : Type 0} → (A → Extension) → A → List Token
tokens_of seen x = urn_tokens (seen x).0 (seen x).1

urn_written : (urn : List ℕ) (there : Bool) (ds : Items) → items_tokens (items_outline (urn_if urn there ds)) ≡ urn_tokens urn there ++ items_tokens (items_outline ds)
urn_written urn true ds = refl
urn_written urn false ds = refl

urns_written : {A : Type 0} (seen : A → Extension) (xs : List A) → items_tokens (items_outline (urns_of (map seen xs))) ≡ flat_map (tokens_of seen) xs ++ end_array ∷ []
urns_written seen [] = refl
urns_written seen (x ∷ xs) =
    urn_written (seen x).0 (seen x).1 (urns_of (map seen xs)) ∙ ap (λ ts. tokens_of seen x ++ ts) (urns_written seen xs)
    ∙ sym (append_assoc (tokens_of seen x) (flat_map (tokens_of seen) xs) (end_array ∷ []))

-- the core URN and those of these extensions, whose loop has come to its end
pub schemas_closed : {E A : Type 0} (r : Result (Unit {0}) E) (core : List ℕ) (seen : A → Extension) (xs : List A) (i : ℕ) (a b c d e f : Written) → length xs ≤ i
    → Adds (key (codes "schemas") ∷ []) a b → Adds (begin_array ∷ []) b c → Adds (data_tokens (string core)) c d → Adds (flat_map (tokens_of seen) (take i xs)) d e → token.Writes r e f end_array
    → OnOk r (WritesPart (codes "schemas") (Some (array (schemas_data core (map seen xs)))) a f)
schemas_closed r core seen xs i a b c d e f past named first front each last =
    let us = flat_map (tokens_of seen) xs in
    let value = array (schemas_data core (map seen xs)) in
    let whole : Adds us d e = (each.0, each.1 ∙ ap (λ ys. d.tokens ++ flat_map (tokens_of seen) ys) (take_all i xs past)) in
    keyed r (codes "schemas") value a b f named
    (closed r value (begin_array ∷ (data_tokens (string core) ++ us)) end_array b e f (ap (λ ts. begin_array ∷ (data_tokens (string core) ++ ts)) (urns_written seen xs))
    (then (begin_array ∷ []) (data_tokens (string core) ++ us) b c e first (then (data_tokens (string core)) us c d e front whole)) last)

pub members_some : (vs : List (List ℕ)) → (length vs == 0) ≡ false → group_members_data vs ≡ Some (array (items_of (map member_data vs)))
members_some [] h = cc
members_some (v ∷ vs) h = refl
