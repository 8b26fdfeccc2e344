-- The host and the path of an address, of a base and of a base with another path.
use Rattle.std.proofs.Common.{◌≡◌, ◌≢◌, ℕ, true, List, [], ◌∷◌, ◌++◌, ◌==◌, length, drop, codes, Option, Some, None, ap, sym, subst, ◌∙◌, arith}
use Rattle.std.specs.Prelude.{All}
use Rattle.std.proofs.Math.Seq.{drop-append_seam}
use Rattle.std.proofs.lemmas.Bool.{and_parts}
use Rattle.std.proofs.lemmas.Bool.Decides.{nat_tests}
use Rattle.std.proofs.lemmas.List.Elements.{All-weaker}
use Rattle.std.proofs.lemmas.List.Sums.{AllPass-from_list_all}
use Rattle.form_urlencoded.proofs.FormLemmas.{split_once_before_at}
use Rattle.scim_key.specs.Bases.{IsAuthority, IsBase, authority_of, base_text, is_authority_byte}
use Rattle.scim_key.proofs.BaseLemmas.{are_spelled}
use Rattle.scim_client.specs.ServicePaths.{IsAddress, IsServicePath, address_text, are_placed, host_of, is_service_path, path_text, service_path_fault, service_path_of}

no_slash : (b : ℕ) → is_authority_byte b ≡ true → b ≢ 47
no_slash b h e = grind (arith, nat_tests)

without_slash : (authority : List ℕ) → IsAuthority authority → All (λ b. b ≢ 47) authority
without_slash authority is =
    All-weaker (λ b. is_authority_byte b ≡ true) (λ b. b ≢ 47) no_slash authority (AllPass-from_list_all is_authority_byte authority is.bytes)

-- ---- an authority, and behind it a path

host_at : (authority rest : List ℕ) → IsAuthority authority → host_of (codes "http://" ++ authority ++ 47 ∷ rest) ≡ authority
host_at authority rest is = split_once_before_at 47 authority rest (without_slash authority is)

path_at : (authority rest : List ℕ) → IsAuthority authority → service_path_of (codes "http://" ++ authority ++ 47 ∷ rest) ≡ 47 ∷ rest
path_at authority rest is =
    ap (λ (h : List ℕ). drop (length h) (authority ++ 47 ∷ rest)) (host_at authority rest is) ∙ drop-append_seam authority (47 ∷ rest)

-- ---- a base

-- an authority of which a text is the base
abbrev IsBaseOf : List ℕ → List ℕ → Type 0
IsBaseOf base authority = IsAuthority authority × (base ≡ base_text authority)

base_of : (base : List ℕ) → IsBase base → IsBaseOf base (authority_of base)
base_of base is =
    let spelled = (are_spelled.lawful base).0 is in
    let same : authority_of base ≡ spelled.0 = ap authority_of spelled.2 ∙ are_spelled.read_back spelled.0 in
    subst (IsBaseOf base) (sym same) (spelled.1, spelled.2)

pub base_host : (base : List ℕ) → IsBase base → host_of base ≡ authority_of base
base_host base is = ap host_of (base_of base is).1 ∙ host_at (authority_of base) (codes "v2") (base_of base is).0

pub base_path : (base : List ℕ) → IsBase base → service_path_of base ≡ codes "/v2"
base_path base is = ap service_path_of (base_of base is).1 ∙ path_at (authority_of base) (codes "v2") (base_of base is).0

-- ---- a path

is_path_of : (path : List ℕ) → IsServicePath path → is_service_path path ≡ true
unfolding service_path_fault
is_path_of path lawful = grind (arith, nat_tests)

begins : (path : List ℕ) → is_service_path path ≡ true → (rest : List ℕ) × (path ≡ 47 ∷ rest)
begins [] is = absurd (cc)
begins (b ∷ bs) is =
    let first = (and_parts (b == 47) (are_placed (b ∷ bs)) is).0 in
    let same : b ≡ 47 = grind (arith, nat_tests) in
    (bs, ap (λ (n : ℕ). n ∷ bs) same)

pub path_begins : (path : List ℕ) → IsServicePath path → (rest : List ℕ) × (path ≡ 47 ∷ rest)
path_begins path lawful = begins path (is_path_of path lawful)

-- ---- an address

pub address_host : (base : List ℕ) (path : Option (List ℕ)) → IsAddress base path → host_of (address_text base path) ≡ authority_of base
address_host base None is = base_host base is.0
address_host base (Some path) is =
    let behind = path_begins path is.1 in
    ap (λ (p : List ℕ). host_of (codes "http://" ++ authority_of base ++ p)) behind.1 ∙ host_at (authority_of base) behind.0 (base_of base is.0).0

pub address_path : (base : List ℕ) (path : Option (List ℕ)) → IsAddress base path
    → service_path_of (address_text base path) ≡ path_text path
address_path base None is = base_path base is.0
address_path base (Some path) is =
    let behind = path_begins path is.1 in
    ap (λ (p : List ℕ). service_path_of (codes "http://" ++ authority_of base ++ p)) behind.1
    ∙ path_at (authority_of base) behind.0 (base_of base is.0).0 ∙ sym behind.1

-- an address that is a base is the base that it was made of
pub base_again : (base : List ℕ) (path : Option (List ℕ)) → IsAddress base path → IsBase (address_text base path) → base ≡ address_text base path
base_again base path is lawful =
    let address = address_text base path in
    let same : authority_of base ≡ authority_of address = sym (address_host base path is) ∙ base_host address lawful in
    (base_of base is.0).1 ∙ ap base_text same ∙ sym (base_of address lawful).1
