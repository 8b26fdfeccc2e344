-- The target of a request: bytes that a target may have, a path that is routed, and a query behind it.
use Rattle.std.proofs.Common.{◌≡◌, ◌≢◌, ℕ, ◌+◌, ◌/◌, ◌%◌, ◌<◌, ◌≤◌, Bool, true, false, cond, List, [], ◌∷◌, ◌++◌, ◌&&◌, length, Option, Some, None, refl, ⊎_elim, arith, nat_lt, length-append}
use Rattle.std.specs.Prelude.{All, ◌==◌, codes, nat_le, not}
use Rattle.std.specs.List.{AllByRecursion, list_all}
use Rattle.std.proofs.lemmas.Bool.Decides.{nat_tests}
use Rattle.std.proofs.lemmas.List.Elements.{All-nil, All-cons, All-append, All-weaker}
use Rattle.std.proofs.lemmas.List.Sums.{AllPass-from_list_all}
use Rattle.std.proofs.lemmas.Str.{IsUtf8-from_ascii}
use Rattle.std.proofs.lemmas.Str.Ascii.{IsAscii-from_all}
use Rattle.httparse.specs.Grammar.{is_uri_byte}
use Rattle.form_urlencoded.specs.Form.{separator, serialize_pair, byte_serialize, is_nonempty}
use Rattle.form_urlencoded.proofs.FormLemmas.{IsSerializedByte, All-byte_serialize, split_once_before_at, split_once_after_at, split_once_before_none, split_once_after_none}
use Rattle.scim_key.specs.declared.records.Kind.{Kind}
use Rattle.scim_key.specs.declared.records.Kind.TheVariants as kinds
use Rattle.scim_resource.specs.Locations.{is_unreserved, upper_hex, escaped_byte, escaped}
use Rattle.http_text.specs.Texts.{IsTarget}
use Rattle.scim_http.specs.Laws.{resource_path}
use Rattle.scim_http.specs.Routes.{path_of, query_of, collection_path}
use Rattle.scim_client.specs.Requests.{with_parameter, with_query}
use Rattle.scim_client.proofs.Lines.{together}
use Rattle.scim_client.proofs.Queries.{query_with}

-- a visible ASCII byte
pub record IsTargetByte (b : ℕ) : Type 0 where
  pub low : 33 ≤ b
  pub high : b ≤ 126

uri_byte : (b : ℕ) → IsTargetByte b → is_uri_byte b ≡ true
uri_byte b is = let low = is.low in let high = is.high in grind (arith, nat_tests)

ascii_byte : (b : ℕ) → IsTargetByte b → b < 128
ascii_byte b is = let high = is.high in omega arith

pub is_target : (target : List ℕ) → 0 < length target → All IsTargetByte target → IsTarget target
is_target target some all = record {
  some = some;
  visible = All-weaker IsTargetByte (λ b. is_uri_byte b ≡ true) uri_byte target all;
  text = IsUtf8-from_ascii target (IsAscii-from_all target (All-weaker IsTargetByte (λ b. b < 128) ascii_byte target all));
}

-- ---- paths

-- a visible ASCII byte that is no `?`
abbrev pub is_path_byte : ℕ → Bool
is_path_byte b = nat_le 33 b && (nat_le b 126 && not (b == 63))

target_byte : (b : ℕ) → is_path_byte b ≡ true → IsTargetByte b
target_byte b h = record { low = grind (arith, nat_tests); high = grind (arith, nat_tests) }

no_mark : (b : ℕ) → is_path_byte b ≡ true → b ≢ 63
no_mark b h e = grind (arith, nat_tests)

abbrev pub IsPath : List ℕ → Type 0
IsPath path = list_all is_path_byte path ≡ true

pub path_bytes : (path : List ℕ) → IsPath path → All IsTargetByte path
path_bytes path is = All-weaker (λ b. is_path_byte b ≡ true) IsTargetByte target_byte path (AllPass-from_list_all is_path_byte path is)

path_unmarked : (path : List ℕ) → IsPath path → All (λ b. b ≢ 63) path
path_unmarked path is = All-weaker (λ b. is_path_byte b ≡ true) (λ b. b ≢ 63) no_mark path (AllPass-from_list_all is_path_byte path is)

pub collection_is_path : (kind : Kind) → IsPath (collection_path kind)
collection_is_path kinds.User = refl
collection_is_path kinds.Group = refl

unreserved_in_path : (b : ℕ) → is_unreserved b ≡ true → is_path_byte b ≡ true
unreserved_in_path b h = grind (arith, nat_tests)

hex_where : (d : ℕ) (test : Bool) → nat_lt d 10 ≡ test → d < 16 → is_path_byte (cond test (48 + d) (55 + d)) ≡ true
hex_where d true is h = grind (arith, nat_tests)
hex_where d false is h = grind (arith, nat_tests)

hex_in_path : (d : ℕ) → d < 16 → is_path_byte (upper_hex d) ≡ true
hex_in_path d h = hex_where d (nat_lt d 10) refl h

escaped_where : (b : ℕ) (test : Bool) → is_unreserved b ≡ test → b < 256 → IsPath (cond test (b ∷ []) (37 ∷ upper_hex (b / 16) ∷ upper_hex (b % 16) ∷ []))
escaped_where b true is small = rw (unreserved_in_path b is) refl
escaped_where b false is small = rw (hex_in_path (b / 16) (omega arith), hex_in_path (b % 16) (omega arith)) refl

escaped_is_path : (id : List ℕ) → AllByRecursion (λ byte. byte < 256) id → IsPath (escaped id)
unfolding escaped_byte
escaped_is_path [] small = refl
escaped_is_path (b ∷ id) small = together is_path_byte (escaped_byte b) (escaped id) (escaped_where b (is_unreserved b) refl small.0) (escaped_is_path id small.1)

pub resource_is_path : (kind : Kind) (id : List ℕ) → AllByRecursion (λ byte. byte < 256) id → IsPath (resource_path kind id)
resource_is_path kinds.User id small = together is_path_byte (codes "/v2/Users/") (escaped id) refl (escaped_is_path id small)
resource_is_path kinds.Group id small = together is_path_byte (codes "/v2/Groups/") (escaped id) refl (escaped_is_path id small)

-- ---- a path and a query

pub path_alone : (path : List ℕ) → IsPath path → path_of path ≡ path
path_alone path is = split_once_before_none 63 path (path_unmarked path is)

pub path_found : (path query : List ℕ) → IsPath path → path_of (with_query path query) ≡ path
path_found path [] is = path_alone path is
path_found path (b ∷ query) is = split_once_before_at 63 path (b ∷ query) (path_unmarked path is)

pub query_found : (path query : List ℕ) → IsPath path → query_of (with_query path query) ≡ query
query_found path [] is = split_once_after_none 63 path (path_unmarked path is)
query_found path (b ∷ query) is = split_once_after_at 63 path (b ∷ query) (path_unmarked path is)

pub target_bytes : (path query : List ℕ) → IsPath path → All IsTargetByte query → All IsTargetByte (with_query path query)
target_bytes path [] is all = path_bytes path is
target_bytes path (b ∷ query) is all =
    All-append IsTargetByte path (63 ∷ b ∷ query) (path_bytes path is) (All-cons IsTargetByte 63 (b ∷ query) (record { low = omega arith; high = omega arith }) all)

pub target_some : (path query : List ℕ) → 0 < length path → 0 < length (with_query path query)
target_some path [] some = some
target_some path (b ∷ query) some = simp length-append (omega (arith, some))

-- ---- the bytes of a query

serialized_byte : (b : ℕ) → IsSerializedByte b → IsTargetByte b
serialized_byte b is =
    ⊎_elim
    (λ kept. record { low = grind (arith, nat_tests); high = grind (arith, nat_tests) })
    (λ other. record { low = grind arith; high = grind arith })
    is.allowed

serialized_bytes : (text : List ℕ) → All IsTargetByte (byte_serialize text)
serialized_bytes text = All-weaker IsSerializedByte IsTargetByte serialized_byte (byte_serialize text) (All-byte_serialize text)

separator_where : (test : Bool) → All IsTargetByte (cond test (38 ∷ []) [])
separator_where true = All-cons IsTargetByte 38 [] (record { low = omega arith; high = omega arith }) (All-nil IsTargetByte)
separator_where false = All-nil IsTargetByte

mark_byte : (b : ℕ) → 33 ≤ b → b ≤ 126 → All IsTargetByte (b ∷ [])
mark_byte b low high = All-cons IsTargetByte b [] (record { low = low; high = high }) (All-nil IsTargetByte)

pair_bytes : (name value : List ℕ) → All IsTargetByte (serialize_pair (name, value))
pair_bytes name value =
    All-append IsTargetByte (byte_serialize name ++ 61 ∷ []) (byte_serialize value)
    (All-append IsTargetByte (byte_serialize name) (61 ∷ []) (serialized_bytes name) (mark_byte 61 (omega arith) (omega arith)))
    (serialized_bytes value)

parameter_bytes : (form name : List ℕ) (value : Option (List ℕ)) → All IsTargetByte form → All IsTargetByte (with_parameter form name value)
parameter_bytes form name None all = all
parameter_bytes form name (Some value) all =
    All-append IsTargetByte (form ++ separator form) (serialize_pair (name, value))
    (All-append IsTargetByte form (separator form) all (separator_where (is_nonempty form))) (pair_bytes name value)

pub query_bytes : (filter start count : Option (List ℕ)) → All IsTargetByte (query_with filter start count)
query_bytes filter start count =
    parameter_bytes _ (codes "count") count (parameter_bytes _ (codes "startIndex") start (parameter_bytes [] (codes "filter") filter (All-nil IsTargetByte)))
