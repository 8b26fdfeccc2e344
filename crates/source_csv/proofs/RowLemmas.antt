-- Rows are the same exactly if all their fields are.
use Rattle.std.proofs.Common.{◌≡◌, ℕ, List, Bool, true, false, refl, ap, sym, ◌&&◌, ◌∙◌}
use Rattle.std.proofs.lemmas.Bool.{and_parts}
use Rattle.std.proofs.lemmas.Slice.Eq.{bytes_eq-Decides, slice_eq-Decides}
use Rattle.std.specs.Bool.{beq}
use Rattle.std.specs.Cmp.Lexicographic.{pointwise}
use Rattle.std.specs.Str.{bytes_eq}
use Rattle.scim_key.specs.Revisions.{RevisionValue, same_revision}
use Rattle.scim_key.proofs.RevisionLaws.{is_order}
use Rattle.source_csv.specs.Rows.{GroupFields, UserFields, group_says_the_same, same_group, same_user, user_says_the_same}

same_flag : (a b : Bool) → beq a b ≡ true → a ≡ b
same_flag true true e = refl
same_flag true false e = sym e
same_flag false true e = e
same_flag false false e = refl

flag_itself : (a : Bool) → beq a a ≡ true
flag_itself true = refl
flag_itself false = refl

bytes_itself : (bs : List ℕ) → bytes_eq bs bs ≡ true
bytes_itself bs = (bytes_eq-Decides bs bs).1 refl

keys_itself : (keys : List (List ℕ)) → pointwise bytes_eq keys keys ≡ true
keys_itself keys = (slice_eq-Decides bytes_eq-Decides keys keys _ refl).1 refl

abbrev user_fields : (login : List ℕ) (revision : RevisionValue) (texts : List (List ℕ)) (active : Bool) → UserFields
user_fields login revision texts active = record { login = login; revision = revision; texts = texts; active = active }

same_user_fields : (l l' : List ℕ) (r r' : RevisionValue) (t t' : List (List ℕ)) (x x' : Bool) → l ≡ l' → r ≡ r' → t ≡ t' → x ≡ x' → user_fields l r t x ≡ user_fields l' r' t' x'
same_user_fields l l' r r' t t' x x' el er et ex = rw (el, er, et, ex)

pub user_said : (a b : UserFields) → user_says_the_same a b ≡ true → record a { revision = b.revision } ≡ b
user_said a b e =
    let all = and_parts (bytes_eq a.login b.login && beq a.active b.active) (pointwise bytes_eq a.texts b.texts) e in
    let front = and_parts (bytes_eq a.login b.login) (beq a.active b.active) all.0 in
    same_user_fields _ _ _ _ _ _ _ _
    ((bytes_eq-Decides a.login b.login).0 front.0)
    refl
    ((slice_eq-Decides bytes_eq-Decides a.texts b.texts _ refl).0 all.1)
    (same_flag a.active b.active front.1)

pub user_says_itself : (a b : UserFields) → record a { revision = b.revision } ≡ b → user_says_the_same a b ≡ true
user_says_itself a b e = rw (← e) (rw (bytes_itself a.login, flag_itself a.active, keys_itself a.texts) refl)

pub user_from_test : (a b : UserFields) → same_user a b ≡ true → a ≡ b
user_from_test a b e =
    let all = and_parts (user_says_the_same a b) (same_revision a.revision b.revision) e in
    ap (λ (r : RevisionValue). record a { revision = r }) ((is_order.same a.revision b.revision).0 all.1) ∙ user_said a b all.0

pub user_itself : (a : UserFields) → same_user a a ≡ true
user_itself a = rw (user_says_itself a a refl) ((is_order.same a.revision a.revision).1 refl)

abbrev group_fields : (name : List ℕ) (revision : RevisionValue) (members : List (List ℕ)) → GroupFields
group_fields name revision members = record { name = name; revision = revision; members = members }

same_group_fields : (n n' : List ℕ) (r r' : RevisionValue) (m m' : List (List ℕ)) → n ≡ n' → r ≡ r' → m ≡ m' → group_fields n r m ≡ group_fields n' r' m'
same_group_fields n n' r r' m m' en er em = rw (en, er, em)

pub group_said : (a b : GroupFields) → group_says_the_same a b ≡ true → record a { revision = b.revision } ≡ b
group_said a b e =
    let all = and_parts (bytes_eq a.name b.name) (pointwise bytes_eq a.members b.members) e in
    same_group_fields _ _ _ _ _ _
    ((bytes_eq-Decides a.name b.name).0 all.0)
    refl
    ((slice_eq-Decides bytes_eq-Decides a.members b.members _ refl).0 all.1)

pub group_says_itself : (a b : GroupFields) → record a { revision = b.revision } ≡ b → group_says_the_same a b ≡ true
group_says_itself a b e = rw (← e) (rw (bytes_itself a.name, keys_itself a.members) refl)

pub group_from_test : (a b : GroupFields) → same_group a b ≡ true → a ≡ b
group_from_test a b e =
    let all = and_parts (group_says_the_same a b) (same_revision a.revision b.revision) e in
    ap (λ (r : RevisionValue). record a { revision = r }) ((is_order.same a.revision b.revision).0 all.1) ∙ group_said a b all.0

pub group_itself : (a : GroupFields) → same_group a a ≡ true
group_itself a = rw (group_says_itself a a refl) ((is_order.same a.revision a.revision).1 refl)
