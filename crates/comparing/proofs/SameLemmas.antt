-- A content agrees with what is wanted in every aspect exactly if it is as wanted.
use Rattle.std.proofs.Common.{◌≡◌, ℕ, zero, suc, ◌+◌, ◌<◌, Bool, true, false, not, ◌&&◌, ◌||◌, ◌==◌, cond, List, [], ◌∷◌, Option, Some, None, length, get_or, refl, sym, ap, ◌∙◌, arith, inl, inr, rules, subst}
use Rattle.std.specs.List.{list_all, zip}
use Rattle.std.specs.Str.{bytes_eq}
use Rattle.std.proofs.lemmas.Bool.{and_parts, cases_Bool}
use Rattle.std.proofs.lemmas.List.Sums.{sum_by-cons}
use Rattle.std.proofs.lemmas.Slice.Eq.{bytes_eq-Decides}
use Rattle.scim_key.proofs.RevisionLaws.{same as same_revisions}
use Rattle.scim_key.specs.Revisions.{RevisionValue}
use Rattle.scim_resource.specs.declared.emails.Email.{Email}
use Rattle.scim_resource.specs.Groups.{GroupRecord}
use Rattle.scim_resource.specs.UserTexts.{UserTexts, text_at}
use Rattle.scim_resource.specs.Users.{UserRecord}
use Rattle.scim_resource.specs.declared.user_texts.TheConstants.{TEXT_COUNT}
use Rattle.scim_resource.specs.Contents.{IsContent}
use Rattle.scim_resource.specs.declared.contents.Content.{Content}
use Rattle.scim_resource.specs.declared.contents.Content.TheVariants.{User, Group}
use Rattle.scim_resource.specs.declared.user_texts.UserText.TheVariants as texts
use Rattle.comparing.specs.Laws.{AgreesWithItself, AsWantedMeans, HaveSame, IsContentAs}
use Rattle.comparing.specs.declared.aspects.Aspect.TheVariants as aspect
use Rattle.comparing.specs.Aspects.{absent_from, agree, is_in, is_same, same_email, same_emails, same_flag, same_revision_if, same_text}

-- ---- tests that decide

flag_same : (a b : Bool) → same_flag a b ≡ true → b ≡ a
flag_same true b e = e
flag_same false true e = cc
flag_same false false e = refl

flag_itself : (a : Bool) → same_flag a a ≡ true
flag_itself true = refl
flag_itself false = refl

text_same : (a b : Option (List ℕ)) → same_text a b ≡ true → b ≡ a
text_same None None e = refl
text_same None (Some t) e = cc
text_same (Some t) None e = cc
text_same (Some t) (Some s) e = ap Some (sym ((bytes_eq-Decides t s).0 e))

text_itself : (a : Option (List ℕ)) → same_text a a ≡ true
text_itself None = refl
text_itself (Some t) = (bytes_eq-Decides t t).1 refl

revision_same : (a b : Option RevisionValue) → same_revision_if a b ≡ true → b ≡ a
revision_same None None e = refl
revision_same None (Some r) e = cc
revision_same (Some r) None e = cc
revision_same (Some r) (Some s) e = ap Some (sym ((same_revisions r s).0 e))

revision_itself : (a : Option RevisionValue) → same_revision_if a a ≡ true
revision_itself None = refl
revision_itself (Some r) = (same_revisions r r).1 refl

abbrev email_of : (value : List ℕ) → Option (List ℕ) → Bool → Email
email_of value kind primary = record { value = value; type_text = kind; primary = primary }

email_from_parts : (v w : List ℕ) (k l : Option (List ℕ)) (p q : Bool) → w ≡ v → l ≡ k → q ≡ p
    → email_of w l q ≡ email_of v k p
email_from_parts v w k l p q a b c = rw (a, b, c) refl

email_same : (a b : Email) → same_email a b ≡ true → b ≡ a
email_same a b e =
    let parts = and_parts (bytes_eq a.value b.value && same_text a.type_text b.type_text) (same_flag a.primary b.primary) e in
    let front = and_parts (bytes_eq a.value b.value) (same_text a.type_text b.type_text) parts.0 in
    email_from_parts a.value b.value a.type_text b.type_text a.primary b.primary
    (sym ((bytes_eq-Decides a.value b.value).0 front.0)) (text_same a.type_text b.type_text front.1) (flag_same a.primary b.primary parts.1)

email_itself : (a : Email) → same_email a a ≡ true
email_itself a = rw ((bytes_eq-Decides a.value a.value).1 refl, text_itself a.type_text, flag_itself a.primary) refl

pairs_same : (xs ys : List Email) → length xs ≡ length ys → list_all (λ p. same_email p.0 p.1) (zip xs ys) ≡ true → ys ≡ xs
pairs_same [] [] h e = refl
pairs_same [] (y ∷ ys) h e = absurd (omega arith)
pairs_same (x ∷ xs) [] h e = absurd (omega arith)
pairs_same (x ∷ xs) (y ∷ ys) h e =
    let parts = and_parts (same_email x y) (list_all (λ p. same_email p.0 p.1) (zip xs ys)) e in
    let first : y ≡ x = email_same x y parts.0 in
    let rest : ys ≡ xs = pairs_same xs ys (omega arith) parts.1 in
    cc

pairs_itself : (xs : List Email) → list_all (λ p. same_email p.0 p.1) (zip xs xs) ≡ true
pairs_itself [] = refl
pairs_itself (x ∷ xs) = rw (email_itself x, pairs_itself xs) refl

emails_same : (xs ys : List Email) → same_emails xs ys ≡ true → ys ≡ xs
emails_same xs ys e =
    let parts = and_parts (length xs == length ys) (list_all (λ p. same_email p.0 p.1) (zip xs ys)) e in
    pairs_same xs ys (search (rules, parts.0)) parts.1

emails_itself : (xs : List Email) → same_emails xs xs ≡ true
emails_itself xs =
    let long : (length xs == length xs) ≡ true = search rules in
    rw (long, pairs_itself xs) refl

flag_alike : (a b : Bool) → b ≡ a → same_flag a b ≡ true
flag_alike a b e = rw e (flag_itself a)

text_alike : (a b : Option (List ℕ)) → b ≡ a → same_text a b ≡ true
text_alike a b e = rw e (text_itself a)

emails_alike : (xs ys : List Email) → ys ≡ xs → same_emails xs ys ≡ true
emails_alike xs ys e = rw e (emails_itself xs)

revision_alike : (a b : Option RevisionValue) → b ≡ a → same_revision_if a b ≡ true
revision_alike a b e = rw e (revision_itself a)

-- ---- members

absent_step : (x : List ℕ) (xs ys : List (List ℕ)) → absent_from (x ∷ xs) ys ≡ cond (not (is_in ys x)) 1 0 + absent_from xs ys
absent_step x xs ys = sum_by-cons (λ id. cond (not (is_in ys id)) 1 0) x xs

none_absent : (xs ys : List (List ℕ)) → absent_from xs ys ≡ 0 → (id : List ℕ) → is_in xs id ≡ true → is_in ys id ≡ true
none_absent [] ys none id there = cc
none_absent (x ∷ xs) ys none id there = elim (cases_Bool (is_in ys x)) [
  | inl held ↦
      let stepped : absent_from (x ∷ xs) ys ≡ 0 + absent_from xs ys = absent_step x xs ys ∙ rw held refl in
      let rest : absent_from xs ys ≡ 0 = omega (arith, stepped, none) in
      elim (cases_Bool (bytes_eq x id)) [
        | inl here ↦ subst (λ other. is_in ys other ≡ true) ((bytes_eq-Decides x id).0 here) held
        | inr elsewhere ↦ none_absent xs ys rest id (rw elsewhere at there)
      ]
  | inr lost ↦
      let stepped : absent_from (x ∷ xs) ys ≡ 1 + absent_from xs ys = absent_step x xs ys ∙ rw lost refl in
      absurd (omega (arith, stepped, none))
]

or_true : (b : Bool) → (b || true) ≡ true
or_true true = refl
or_true false = refl

absent_none : (xs ys : List (List ℕ)) → ((id : List ℕ) → is_in xs id ≡ true → is_in ys id ≡ true) → absent_from xs ys ≡ 0
absent_none [] ys all = refl
absent_none (x ∷ xs) ys all =
    let itself : bytes_eq x x ≡ true = (bytes_eq-Decides x x).1 refl in
    let here : is_in ys x ≡ true = all x (rw itself refl) in
    let rest : absent_from xs ys ≡ 0 = absent_none xs ys (λ id there. all id (rw there (or_true (bytes_eq x id)))) in
    absent_step x xs ys ∙ rw (here, rest) refl

both_ways : (p q : Bool) → (p ≡ true → q ≡ true) → (q ≡ true → p ≡ true) → p ≡ q
both_ways true q f g = sym (f refl)
both_ways false true f g = g refl
both_ways false false f g = refl

zero_from_test : (n : ℕ) → (n == 0) ≡ true → n ≡ 0
zero_from_test n e = search (rules, e)

members_same : (xs ys : List (List ℕ)) → ((absent_from xs ys == 0) && (absent_from ys xs == 0)) ≡ true → HaveSame xs ys
members_same xs ys e id =
    let parts = and_parts (absent_from xs ys == 0) (absent_from ys xs == 0) e in
    both_ways (is_in xs id) (is_in ys id) (none_absent xs ys (zero_from_test _ parts.0) id)
    (none_absent ys xs (zero_from_test _ parts.1) id)

members_alike : (xs ys : List (List ℕ)) → HaveSame xs ys → ((absent_from xs ys == 0) && (absent_from ys xs == 0)) ≡ true
members_alike xs ys same =
    let first : absent_from xs ys ≡ 0 = absent_none xs ys (λ id there. sym (same id) ∙ there) in
    let second : absent_from ys xs ≡ 0 = absent_none ys xs (λ id there. same id ∙ there) in
    rw (first, second) refl

-- ---- the texts of a user

texts_by : (n : ℕ) (xs ys : UserTexts) → length xs ≡ n → length ys ≡ n
    → ((k : ℕ) → k < n → get_or ys k None ≡ get_or xs k None) → ys ≡ xs
texts_by n [] [] long wide each = refl
texts_by n [] (y ∷ ys) long wide each = absurd (omega arith)
texts_by n (x ∷ xs) [] long wide each = absurd (omega arith)
texts_by n (x ∷ xs) (y ∷ ys) long wide each =
    let first : y ≡ x = each 0 (omega arith) in
    let rest : ys ≡ xs = texts_by (length xs) xs ys refl (omega arith) (λ k h. each (suc k) (omega arith)) in
    cc

at_four : (xs ys : UserTexts) → get_or ys 0 None ≡ get_or xs 0 None → get_or ys 1 None ≡ get_or xs 1 None
    → get_or ys 2 None ≡ get_or xs 2 None → get_or ys 3 None ≡ get_or xs 3 None
    → (k : ℕ) → k < 4 → get_or ys k None ≡ get_or xs k None
at_four xs ys one two three four zero h = one
at_four xs ys one two three four (suc zero) h = two
at_four xs ys one two three four (suc (suc zero)) h = three
at_four xs ys one two three four (suc (suc (suc zero))) h = four
at_four xs ys one two three four (suc (suc (suc (suc k)))) h = absurd (omega arith)

texts_from_parts : (xs ys : UserTexts) → length xs ≡ TEXT_COUNT → length ys ≡ TEXT_COUNT
    → get_or ys 0 None ≡ get_or xs 0 None → get_or ys 1 None ≡ get_or xs 1 None
    → get_or ys 2 None ≡ get_or xs 2 None → get_or ys 3 None ≡ get_or xs 3 None → ys ≡ xs
texts_from_parts xs ys long wide one two three four =
    texts_by 4 xs ys long wide (at_four xs ys one two three four)

-- ---- users and groups

user_from_parts : (u v : UserRecord) → v.user_name ≡ u.user_name → v.texts ≡ u.texts → v.emails ≡ u.emails
    → v.active ≡ u.active → v.revision ≡ u.revision → v ≡ u
user_from_parts u v a b c d e =
    let made : UserRecord = record { user_name = v.user_name; texts = v.texts; emails = v.emails; active = v.active; revision = v.revision } in
    let is : made ≡ record { user_name = u.user_name; texts = u.texts; emails = u.emails; active = u.active; revision = u.revision } = rw (a, b, c, d, e) refl in
    is

group_from_parts : (g h : GroupRecord) → h.display_name ≡ g.display_name → h.external_id ≡ g.external_id
    → h.revision ≡ g.revision → h ≡ record g { members = h.members }
group_from_parts g h a b c =
    let is : h ≡ record { display_name = g.display_name; external_id = g.external_id; members = h.members; revision = g.revision } = rw (sym a, sym b, sym c) refl in
    is

-- ---- the parts of a test

-- each of the nine tests holds
abbrev Nine : (a b c d e f g h i : Bool) → Type 0
Nine a b c d e f g h i = (a ≡ true) × (b ≡ true) × (c ≡ true) × (d ≡ true) × (e ≡ true) × (f ≡ true) × (g ≡ true)
    × (h ≡ true) × (i ≡ true)

abbrev all_nine : (a b c d e f g h i : Bool) → Bool
all_nine a b c d e f g h i = a && (b && (c && (d && (e && (f && (g && (h && (i && true))))))))

nine_from : (a b c d e f g h i : Bool) → all_nine a b c d e f g h i ≡ true → Nine a b c d e f g h i
nine_from a b c d e f g h i all =
    let p = and_parts a (b && (c && (d && (e && (f && (g && (h && (i && true)))))))) all in
    let q = and_parts b (c && (d && (e && (f && (g && (h && (i && true))))))) p.1 in
    let r = and_parts c (d && (e && (f && (g && (h && (i && true)))))) q.1 in
    let s = and_parts d (e && (f && (g && (h && (i && true))))) r.1 in
    let t = and_parts e (f && (g && (h && (i && true)))) s.1 in
    let u = and_parts f (g && (h && (i && true))) t.1 in
    let v = and_parts g (h && (i && true)) u.1 in
    let w = and_parts h (i && true) v.1 in
    let x = and_parts i true w.1 in
    (p.0, q.0, r.0, s.0, t.0, u.0, v.0, w.0, x.0)

to_nine : (a b c d e f g h i : Bool) → Nine a b c d e f g h i → all_nine a b c d e f g h i ≡ true
to_nine a b c d e f g h i all =
    rw (all.0, all.1, all.2, all.3, all.4, all.5, all.6, all.7, all.8) refl

abbrev Agree : (wanted found : Content) → Type 0
Agree wanted found = Nine (agree wanted found aspect.Active) (agree wanted found aspect.Name)
    (agree wanted found (aspect.Text texts.GivenName)) (agree wanted found (aspect.Text texts.FamilyName))
    (agree wanted found (aspect.Text texts.ExternalId)) (agree wanted found (aspect.Text texts.Department))
    (agree wanted found aspect.Emails) (agree wanted found aspect.Members) (agree wanted found aspect.Revision)

agree_from : (wanted found : Content) → is_same wanted found ≡ true → Agree wanted found
agree_from wanted found all = nine_from (agree wanted found aspect.Active) (agree wanted found aspect.Name)
    (agree wanted found (aspect.Text texts.GivenName)) (agree wanted found (aspect.Text texts.FamilyName))
    (agree wanted found (aspect.Text texts.ExternalId)) (agree wanted found (aspect.Text texts.Department))
    (agree wanted found aspect.Emails) (agree wanted found aspect.Members) (agree wanted found aspect.Revision) all

to_agree : (wanted found : Content) → Agree wanted found → is_same wanted found ≡ true
to_agree wanted found all = to_nine (agree wanted found aspect.Active) (agree wanted found aspect.Name)
    (agree wanted found (aspect.Text texts.GivenName)) (agree wanted found (aspect.Text texts.FamilyName))
    (agree wanted found (aspect.Text texts.ExternalId)) (agree wanted found (aspect.Text texts.Department))
    (agree wanted found aspect.Emails) (agree wanted found aspect.Members) (agree wanted found aspect.Revision) all

-- ---- the law

content_from : (wanted found : Content) → IsContent wanted → IsContent found → Agree wanted found
    → IsContentAs wanted found
content_from (User u) (User v) a b all =
    let spelled : v.user_name ≡ u.user_name = sym ((bytes_eq-Decides u.user_name v.user_name).0 all.1) in
    let texts : v.texts ≡ u.texts = texts_from_parts u.texts v.texts a.texts.count b.texts.count
    (text_same _ _ all.5) (text_same _ _ all.4) (text_same _ _ all.3) (text_same _ _ all.2) in
    user_from_parts u v spelled texts (emails_same u.emails v.emails all.6) (flag_same u.active v.active all.0)
    (revision_same u.revision v.revision all.8)
content_from (User u) (Group g) a b all = let wrong : false ≡ true = all.1 in cc
content_from (Group g) (User u) a b all = let wrong : false ≡ true = all.1 in cc
content_from (Group g) (Group h) a b all =
    let spelled : h.display_name ≡ g.display_name = sym ((bytes_eq-Decides g.display_name h.display_name).0 all.1) in (
      group_from_parts g h spelled (text_same g.external_id h.external_id all.4)
          (revision_same g.revision h.revision all.8),
      members_same g.members h.members all.7,
    )

content_to : (wanted found : Content) → IsContentAs wanted found → Agree wanted found
content_to (User u) (User v) same = (
  flag_alike u.active v.active (ap (λ w. w.active) same),
  (bytes_eq-Decides u.user_name v.user_name).1 (sym (ap (λ w. w.user_name) same)),
  text_alike _ _ (ap (λ w. text_at texts.GivenName w.texts) same),
  text_alike _ _ (ap (λ w. text_at texts.FamilyName w.texts) same),
  text_alike _ _ (ap (λ w. text_at texts.ExternalId w.texts) same),
  text_alike _ _ (ap (λ w. text_at texts.Department w.texts) same),
  emails_alike u.emails v.emails (ap (λ w. w.emails) same),
  refl,
  revision_alike u.revision v.revision (ap (λ w. w.revision) same),
)
content_to (User u) (Group g) same = absurd same
content_to (Group g) (User u) same = absurd same
content_to (Group g) (Group h) same = (
  refl,
  (bytes_eq-Decides g.display_name h.display_name).1 (sym (ap (λ w. w.display_name) same.0)),
  refl,
  refl,
  text_alike g.external_id h.external_id (ap (λ w. w.external_id) same.0),
  refl,
  refl,
  members_alike g.members h.members same.1,
  revision_alike g.revision h.revision (ap (λ w. w.revision) same.0),
)

pub as_wanted_means : AsWantedMeans
as_wanted_means wanted found a b = (
  λ e. content_from wanted found a b (agree_from wanted found e),
  λ is. to_agree wanted found (content_to wanted found is),
)

content_itself : (wanted : Content) → IsContentAs wanted wanted
content_itself (User u) = refl
content_itself (Group g) = (refl, λ id. refl)

pub agrees_with_itself : AgreesWithItself
agrees_with_itself wanted = to_agree wanted wanted (content_to wanted wanted (content_itself wanted))
