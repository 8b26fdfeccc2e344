-- The token at the front of a text, as the code reads it, is the first of the tokens that the text consists of.
use Rattle.std.proofs.Common.{◌≡◌, ℕ, suc, zero, ◌+◌, ◌-◌, ◌<◌, ◌≤◌, List, [], ◌∷◌, ◌++◌, Bool, true, false, cond, length, take, drop, Option, Some, None, refl, sym, ap, ◌∙◌, subst, arith, one-add, add-one, get_or, length-append, length-drop, append_assoc}
use Rattle.std.specs.Prelude.{option_map, Result, Ok, Err, ◌==◌, ◌&&◌}
use Rattle.std.specs.List.{list_all, prefix_len}
use Rattle.std.proofs.lemmas.List.{take_at, drop_at, take-append-drop}
use Rattle.std.proofs.lemmas.Bool.Decides.{nat_tests}
use Rattle.serde_json.specs.Data.{Data, null, boolean, number, string, array, object}
use Rattle.serde_json.specs.Read.{read}
use Rattle.scim_key.specs.Outcome.{◌>>=◌}
use Rattle.scim_filter.specs.Words.{word_named, joining_word, comparing_word, attribute_word, text_attribute_named, flag_attribute_named}
use Rattle.scim_filter.specs.Tokens.{is_space, is_word_byte, quote_at, IsGap, IsWord, IsString, IsToken, EndsBefore, Consists, nothing, token}
use Rattle.scim_filter.specs.Lexing.{or_unsupported, string_in, text_of, word_at, gap_at, quoted_to, quoted_at, token_at}
use Rattle.scim_filter.specs.declared.words.Word.{Word}
use Rattle.scim_filter.specs.declared.tokens.Token.{Token}
use Rattle.scim_filter.specs.declared.tokens.Token.TheVariants.{Gap, Open, Close, Plain, Quoted}
use Rattle.scim_filter.specs.declared.filters.FilterFault.{FilterFault}
use Rattle.scim_filter.specs.declared.filters.FilterFault.TheVariants.{Unsupported}

pub by_cond : {A : Type 0} (P : A → Type 0) (c : Bool) (x y : A) → (c ≡ true → P x) → (c ≡ false → P y) → P (cond c x y)
by_cond P true x y f g = f refl
by_cond P false x y f g = g refl

-- ---- fronts of bytes that pass a test

abbrev begins : (ℕ → Bool) → List ℕ → Bool
begins p [] = false
begins p (b ∷ bs) = p b

passes_step : (p : ℕ → Bool) (b : ℕ) (bs : List ℕ) (n : ℕ) (c : Bool) → p b ≡ c → list_all p (take n bs) ≡ true → list_all p (take (cond c (1 + n) 0) (b ∷ bs)) ≡ true
passes_step p b bs n true e h = rw (one-add, e) h
passes_step p b bs n false e h = refl

prefix_passes : (p : ℕ → Bool) (bs : List ℕ) → list_all p (take (prefix_len p bs) bs) ≡ true
prefix_passes p [] = refl
prefix_passes p (b ∷ bs) = passes_step p b bs (prefix_len p bs) (p b) refl (prefix_passes p bs)

ends_step : (p : ℕ → Bool) (b : ℕ) (bs : List ℕ) (n : ℕ) (c : Bool) → p b ≡ c → begins p (drop n bs) ≡ false → begins p (drop (cond c (1 + n) 0) (b ∷ bs)) ≡ false
ends_step p b bs n true e h = rw one-add h
ends_step p b bs n false e h = e

prefix_ends : (p : ℕ → Bool) (bs : List ℕ) → begins p (drop (prefix_len p bs) bs) ≡ false
prefix_ends p [] = refl
prefix_ends p (b ∷ bs) = ends_step p b bs (prefix_len p bs) (p b) refl (prefix_ends p bs)

prefix_some : (p : ℕ → Bool) (b : ℕ) (bs : List ℕ) → p b ≡ true → 0 < length (take (prefix_len p (b ∷ bs)) (b ∷ bs))
prefix_some p b bs e = rw (e, one-add) (omega arith)

prefix_none : (p : ℕ → Bool) (rest : List ℕ) → begins p rest ≡ false → prefix_len p rest ≡ 0
prefix_none p [] e = refl
prefix_none p (b ∷ bs) e = rw e refl

both_true : (a b : Bool) → (a && b) ≡ true → (a ≡ true) × (b ≡ true)
both_true true b h = (refl, h)
both_true false b h = absurd (cc)

prefix_front : (p : ℕ → Bool) (front rest : List ℕ) → list_all p front ≡ true → begins p rest ≡ false → prefix_len p (front ++ rest) ≡ length front
prefix_front p [] rest a e = prefix_none p rest e
prefix_front p (b ∷ bs) rest a e =
    let k = both_true (p b) (list_all p bs) a in
    rw (k.0, one-add, prefix_front p bs rest k.1 e) refl

-- ---- quotes

made : {A B : Type 0} (f : A → B) (o : Option A) (y : B) → option_map f o ≡ Some y → (x : A) × (o ≡ Some x) × (f x ≡ y)
made f None y e = absurd (cc)
made f (Some x) y e = (x, refl, cc)

one_less : (o : Option ℕ) (n : ℕ) → option_map suc o ≡ Some (suc n) → o ≡ Some n
one_less None n e = absurd (cc)
one_less (Some x) n e = let k : suc x ≡ suc n = cc in ap Some (omega arith)

cons_same : (b : ℕ) (bs cs : List ℕ) → b ≡ 34 → bs ≡ cs → b ∷ bs ≡ 34 ∷ cs
cons_same b bs cs e f = cc

quoted_long : (body : List ℕ) (n : ℕ) → length body ≡ n → length (34 ∷ (body ++ 34 ∷ [])) ≡ n + 2
quoted_long body n e = simp length-append (omega arith)

-- the text up to a quote, and what follows it
record Found (escaped : Bool) (bs : List ℕ) (n : ℕ) : Type 0 where
  body : List ℕ
  rest : List ℕ
  is : bs ≡ body ++ (34 ∷ rest)
  long : length body ≡ n
  alone : quote_at escaped (body ++ 34 ∷ []) ≡ Some (length body)

found_step : (b : ℕ) (bs : List ℕ) (n : ℕ) (c : Bool) → (b == 92) ≡ c → (d : Bool) → (b == 34) ≡ d
    → cond c (option_map suc (quote_at true bs)) (cond d (Some 0) (option_map suc (quote_at false bs))) ≡ Some n
    → ((e : Bool) (m : ℕ) → quote_at e bs ≡ Some m → Found e bs m) → Found false (b ∷ bs) n
unfolding quote_at
found_step b bs n true e d f h again =
    let k = made suc (quote_at true bs) n h in
    let i = again true k.0 k.1 in
    record { body = b ∷ i.body; rest = i.rest; is = ap (λ x. b ∷ x) i.is; long = ap suc i.long ∙ k.2; alone = rw e (ap (option_map suc) i.alone) }
found_step b bs n false e true f h again =
    let k : b ≡ 34 = grind (arith, nat_tests) in
    record { body = []; rest = bs; is = ap (λ x. x ∷ bs) k; long = cc; alone = refl }
found_step b bs n false e false f h again =
    let k = made suc (quote_at false bs) n h in
    let i = again false k.0 k.1 in
    record { body = b ∷ i.body; rest = i.rest; is = ap (λ x. b ∷ x) i.is; long = ap suc i.long ∙ k.2; alone = rw (e, f) (ap (option_map suc) i.alone) }

quote_found : (escaped : Bool) (bs : List ℕ) (n : ℕ) → quote_at escaped bs ≡ Some n → Found escaped bs n
unfolding quote_at
quote_found escaped [] n h = absurd (cc)
quote_found true (b ∷ bs) n h =
    let k = made suc (quote_at false bs) n h in
    let i = quote_found false bs k.0 k.1 in
    record { body = b ∷ i.body; rest = i.rest; is = ap (λ x. b ∷ x) i.is; long = ap suc i.long ∙ k.2; alone = ap (option_map suc) i.alone }
quote_found false (b ∷ bs) n h = found_step b bs n (b == 92) refl (b == 34) refl h (λ e m g. quote_found e bs m g)

place_in : (body rest : List ℕ) (n : ℕ) → length body ≡ n → (n < length (body ++ (34 ∷ rest))) × (get_or (body ++ (34 ∷ rest)) n 0 ≡ 34)
place_in [] rest n e = (omega (arith, e), rw (← e) refl)
place_in (b ∷ bs) rest zero e = absurd (omega (arith, e))
place_in (b ∷ bs) rest (suc n) e = let k = place_in bs rest n (omega (arith, e)) in (omega (arith, k.0), k.1)

-- the place of a quote behind the first byte
pub quote_place : (bs : List ℕ) (n : ℕ) → quote_at false (drop 1 bs) ≡ Some n → (n + 2 ≤ length bs) × (get_or bs (n + 1) 0 ≡ 34)
unfolding quote_at
quote_place [] n e = absurd (cc)
quote_place (b ∷ bs) n e =
    let w = quote_found false bs n e in
    let k = place_in w.body w.rest n w.long in
    let m : n < length bs = rw w.is k.0 in
    (omega (arith, m), rw add-one (rw w.is k.1))

kept_step : (b : ℕ) (body rest : List ℕ) (c : Bool) → (b == 92) ≡ c → (d : Bool) → (b == 34) ≡ d
    → cond c (option_map suc (quote_at true (body ++ 34 ∷ []))) (cond d (Some 0) (option_map suc (quote_at false (body ++ 34 ∷ [])))) ≡ Some (suc (length body))
    → ((e : Bool) → quote_at e (body ++ 34 ∷ []) ≡ Some (length body) → quote_at e (body ++ (34 ∷ rest)) ≡ Some (length body))
    → cond c (option_map suc (quote_at true (body ++ (34 ∷ rest)))) (cond d (Some 0) (option_map suc (quote_at false (body ++ (34 ∷ rest))))) ≡ Some (suc (length body))
kept_step b body rest true e d f h again = ap (option_map suc) (again true (one_less (quote_at true (body ++ 34 ∷ [])) (length body) h))
kept_step b body rest false e true f h again = let k : 0 ≡ suc (length body) = cc in absurd (omega arith)
kept_step b body rest false e false f h again = ap (option_map suc) (again false (one_less (quote_at false (body ++ 34 ∷ [])) (length body) h))

quote_kept : (escaped : Bool) (body rest : List ℕ) → quote_at escaped (body ++ 34 ∷ []) ≡ Some (length body) → quote_at escaped (body ++ (34 ∷ rest)) ≡ Some (length body)
unfolding quote_at
quote_kept true [] rest h = absurd (cc)
quote_kept false [] rest h = refl
quote_kept true (b ∷ body) rest h = ap (option_map suc) (quote_kept false body rest (one_less (quote_at false (body ++ 34 ∷ [])) (length body) h))
quote_kept false (b ∷ body) rest h = kept_step b body rest (b == 92) refl (b == 34) refl h (λ e g. quote_kept e body rest g)

-- ---- what may follow a token

not_this : (b x : ℕ) → is_word_byte b ≡ true → is_word_byte x ≡ false → (b == x) ≡ false
not_this b x h f = go (b == x) refl where
  go : (c : Bool) → (b == x) ≡ c → c ≡ false
  go true e = let k : b ≡ x = grind (arith, nat_tests) in let g = rw k at h in absurd (cc)
  go false e = refl

a_space : (b : ℕ) → (b == 32) ≡ true → b ≡ 32
a_space b e = grind (arith, nat_tests)

no_empty_word : (w : Word) → word_named [] ≡ Some w → ⊥
unfolding word_named joining_word comparing_word attribute_word text_attribute_named flag_attribute_named
no_empty_word w e = cc

space_after_word : (w : Word) (front rest : List ℕ) → IsWord w front → begins is_space (front ++ rest) ≡ false
space_after_word w [] rest is = absurd (no_empty_word w is.1)
space_after_word w (b ∷ bs) rest is = not_this b 32 (both_true (is_word_byte b) (list_all is_word_byte bs) is.0).0 refl

word_after_space : (front rest : List ℕ) → IsGap front → begins is_word_byte (front ++ rest) ≡ false
word_after_space [] rest is = absurd (omega (arith, is.0))
word_after_space (b ∷ bs) rest is = rw (a_space b (both_true (is_space b) (list_all is_space bs) is.1).0) refl

-- a token that begins so isn't a gap, or isn't a word
no_space : {rest : List ℕ} {ts : List Token} → Consists rest ts → EndsBefore Gap ts → begins is_space rest ≡ false
no_space nothing e = refl
no_space (token front Gap is b more) e = absurd (cc)
no_space (token front {rest} Open is b more) e = rw is refl
no_space (token front {rest} Close is b more) e = rw is refl
no_space (token front {rest} (Plain w) is b more) e = space_after_word w front rest is
no_space (token front {rest} (Quoted s) is b more) e = rw is.quoted refl

no_word : (w : Word) {rest : List ℕ} {ts : List Token} → Consists rest ts → EndsBefore (Plain w) ts → begins is_word_byte rest ≡ false
no_word w nothing e = refl
no_word w (token front {rest} Gap is b more) e = word_after_space front rest is
no_word w (token front {rest} Open is b more) e = rw is refl
no_word w (token front {rest} Close is b more) e = rw is refl
no_word w (token front {rest} (Plain v) is b more) e = absurd (cc)
no_word w (token front {rest} (Quoted s) is b more) e = rw is.quoted refl

a_gap_begins : (front rest : List ℕ) → IsGap front → begins is_space (front ++ rest) ≡ true
a_gap_begins [] rest is = absurd (omega (arith, is.0))
a_gap_begins (b ∷ bs) rest is = (both_true (is_space b) (list_all is_space bs) is.1).0

a_word_begins : (w : Word) (front rest : List ℕ) → IsWord w front → begins is_word_byte (front ++ rest) ≡ true
a_word_begins w [] rest is = absurd (no_empty_word w is.1)
a_word_begins w (b ∷ bs) rest is = (both_true (is_word_byte b) (list_all is_word_byte bs) is.0).0

gap_ends : {rest : List ℕ} {ts : List Token} → Consists rest ts → begins is_space rest ≡ false → EndsBefore Gap ts
gap_ends nothing e = tt
gap_ends (token front {rest} Gap is b more) e = let k = a_gap_begins front rest is in absurd (cc)
gap_ends (token front Open is b more) e = refl
gap_ends (token front Close is b more) e = refl
gap_ends (token front (Plain w) is b more) e = refl
gap_ends (token front (Quoted s) is b more) e = refl

word_ends : (w : Word) {rest : List ℕ} {ts : List Token} → Consists rest ts → begins is_word_byte rest ≡ false → EndsBefore (Plain w) ts
word_ends w nothing e = tt
word_ends w (token front Gap is b more) e = refl
word_ends w (token front Open is b more) e = refl
word_ends w (token front Close is b more) e = refl
word_ends w (token front {rest} (Plain v) is b more) e = let k = a_word_begins v front rest is in absurd (cc)
word_ends w (token front (Quoted s) is b more) e = refl

pub open_ends : (ts : List Token) → EndsBefore Open ts
open_ends [] = tt
open_ends (Gap ∷ ts) = refl
open_ends (Open ∷ ts) = refl
open_ends (Close ∷ ts) = refl
open_ends (Plain w ∷ ts) = refl
open_ends (Quoted s ∷ ts) = refl

pub close_ends : (ts : List Token) → EndsBefore Close ts
close_ends [] = tt
close_ends (Gap ∷ ts) = refl
close_ends (Open ∷ ts) = refl
close_ends (Close ∷ ts) = refl
close_ends (Plain w ∷ ts) = refl
close_ends (Quoted s ∷ ts) = refl

pub text_ends : (x : List ℕ) (ts : List Token) → EndsBefore (Quoted x) ts
text_ends x [] = tt
text_ends x (Gap ∷ ts) = refl
text_ends x (Open ∷ ts) = refl
text_ends x (Close ∷ ts) = refl
text_ends x (Plain w ∷ ts) = refl
text_ends x (Quoted s ∷ ts) = refl

-- ---- from the token to the tokens

abbrev pub Leads : List ℕ → Result (Token × List ℕ) FilterFault → Type 0
Leads bs (Ok x) = (ts : List Token) → Consists x.1 ts → Consists bs (x.0 ∷ ts)
Leads bs (Err e) = Unit {0}

gap_leads : (b : ℕ) (bs : List ℕ) → (b == 32) ≡ true → Leads (b ∷ bs) (Ok (gap_at (b ∷ bs)))
unfolding gap_at
gap_leads b bs e = λ ts c.
    let l : List ℕ = b ∷ bs in
    let n : ℕ = prefix_len is_space l in
    let q : Consists (take n l ++ drop n l) (Gap ∷ ts) = token (take n l) Gap (prefix_some is_space b bs e, prefix_passes is_space l) (gap_ends c (prefix_ends is_space l)) c in
    subst (λ (x : List ℕ). Consists x (Gap ∷ ts)) (take-append-drop n l) q

word_leads_to : (l : List ℕ) (o : Option Word) → word_named (take (prefix_len is_word_byte l) l) ≡ o → Leads l (or_unsupported (option_map (λ w. (Plain w, drop (prefix_len is_word_byte l) l)) o))
word_leads_to l None e = tt
word_leads_to l (Some w) e = λ ts c.
    let n : ℕ = prefix_len is_word_byte l in
    let q : Consists (take n l ++ drop n l) (Plain w ∷ ts) = token (take n l) (Plain w) (prefix_passes is_word_byte l, e) (word_ends w c (prefix_ends is_word_byte l)) c in
    subst (λ (x : List ℕ). Consists x (Plain w ∷ ts)) (take-append-drop n l) q

-- where no word begins, there is none
pub no_word_at : (l : List ℕ) → prefix_len is_word_byte l ≡ 0 → word_at l ≡ Err Unsupported
unfolding word_at word_named joining_word comparing_word attribute_word text_attribute_named flag_attribute_named
no_word_at l e = ap (λ n. or_unsupported (option_map (λ w. (Plain w, drop n l)) (word_named (take n l)))) e

word_leads : (l : List ℕ) → Leads l (word_at l)
unfolding word_at
word_leads l = word_leads_to l (word_named (take (prefix_len is_word_byte l) l)) refl

string_read : (o : Option Data) (s : List ℕ) → or_unsupported (string_in o) ≡ Ok s → o ≡ Some (string s)
string_read None s e = absurd (cc)
string_read (Some null) s e = absurd (cc)
string_read (Some (boolean b)) s e = absurd (cc)
string_read (Some (number n)) s e = absurd (cc)
string_read (Some (string x)) s e = let k : x ≡ s = cc in ap (λ y. Some (string y)) k
string_read (Some (array ds)) s e = absurd (cc)
string_read (Some (object ms)) s e = absurd (cc)

text_read : (q : List ℕ) (s : List ℕ) → text_of q ≡ Ok s → read q ≡ Some (string s)
unfolding text_of
text_read q s e = string_read (read q) s e

text_leads : (b : ℕ) (bs : List ℕ) (n : ℕ) → b ≡ 34 → quote_at false bs ≡ Some n → (r : Result (List ℕ) FilterFault) → text_of (take (n + 2) (b ∷ bs)) ≡ r → Leads (b ∷ bs) (r >>= λ s. Ok (Quoted s, drop (n + 2) (b ∷ bs)))
text_leads b bs n k f (Err x) e = tt
text_leads b bs n k f (Ok s) e = λ ts c.
    let w = quote_found false bs n f in
    let q : List ℕ = 34 ∷ (w.body ++ 34 ∷ []) in
    let whole : b ∷ bs ≡ q ++ w.rest = cons_same b bs (w.body ++ (34 ∷ w.rest)) k w.is ∙ ap (λ x. 34 ∷ x) (sym (append_assoc w.body (34 ∷ []) w.rest)) in
    let long : length q ≡ n + 2 = quoted_long w.body n w.long in
    let front : take (n + 2) (b ∷ bs) ≡ q = ap (take (n + 2)) whole ∙ take_at q w.rest (n + 2) long in
    let back : drop (n + 2) (b ∷ bs) ≡ w.rest = ap (drop (n + 2)) whole ∙ drop_at q w.rest (n + 2) long in
    let is : IsString s q = record { body = w.body; quoted = refl; ends = w.alone; spells = text_read q s (ap text_of (sym front) ∙ e) } in
    let d : Consists w.rest ts = subst (λ (x : List ℕ). Consists x ts) back c in
    subst (λ (x : List ℕ). Consists x (Quoted s ∷ ts)) (sym whole) (token q (Quoted s) is (text_ends s ts) d)

quoted_leads_to : (b : ℕ) (bs : List ℕ) (o : Option ℕ) → b ≡ 34 → quote_at false bs ≡ o → Leads (b ∷ bs) (quoted_to (b ∷ bs) o)
quoted_leads_to b bs None k e = tt
quoted_leads_to b bs (Some n) k e = text_leads b bs n k e (text_of (take (n + 2) (b ∷ bs))) refl

quoted_leads : (b : ℕ) (bs : List ℕ) → b ≡ 34 → Leads (b ∷ bs) (quoted_at (b ∷ bs))
unfolding quoted_at
quoted_leads b bs k = quoted_leads_to b bs (quote_at false bs) k refl

pub leads : (bs : List ℕ) → Leads bs (token_at bs)
unfolding token_at
leads [] = tt
leads (b ∷ bs) =
    let P : Result (Token × List ℕ) FilterFault → Type 0 = Leads (b ∷ bs) in
    by_cond P (b == 32) _ _ (λ e. gap_leads b bs e)
    (λ e. by_cond P (b == 40) _ _ (λ f. let k : b ≡ 40 = grind (arith, nat_tests) in λ ts c. token (b ∷ []) Open (ap (λ x. x ∷ []) k) (open_ends ts) c)
    (λ f. by_cond P (b == 41) _ _ (λ g. let k : b ≡ 41 = grind (arith, nat_tests) in λ ts c. token (b ∷ []) Close (ap (λ x. x ∷ []) k) (close_ends ts) c)
    (λ g. by_cond P (b == 34) _ _ (λ h. quoted_leads b bs (grind (arith, nat_tests))) (λ h. word_leads (b ∷ bs)))))

-- ---- each token takes some of the text

abbrev pub Shorter : List ℕ → Result (Token × List ℕ) FilterFault → Type 0
Shorter bs (Ok x) = length x.1 < length bs
Shorter bs (Err e) = Unit {0}

drop_shorter : (n b : ℕ) (bs : List ℕ) → 0 < n → length (drop n (b ∷ bs)) < length (b ∷ bs)
drop_shorter n b bs h = let k : length (drop n (b ∷ bs)) ≡ suc (length bs) - n = length-drop n (b ∷ bs) in omega arith

gap_shorter : (b : ℕ) (bs : List ℕ) → (b == 32) ≡ true → Shorter (b ∷ bs) (Ok (gap_at (b ∷ bs)))
unfolding gap_at
gap_shorter b bs e = drop_shorter (prefix_len is_space (b ∷ bs)) b bs (rw e (omega arith))

named_some : (w : Word) (n : ℕ) (l : List ℕ) → word_named (take n l) ≡ Some w → 0 < n
named_some w zero l e = absurd (no_empty_word w e)
named_some w (suc n) l e = omega arith

word_shorter_to : (b : ℕ) (bs : List ℕ) (n : ℕ) (o : Option Word) → word_named (take n (b ∷ bs)) ≡ o → Shorter (b ∷ bs) (or_unsupported (option_map (λ w. (Plain w, drop n (b ∷ bs))) o))
word_shorter_to b bs n None e = tt
word_shorter_to b bs n (Some w) e = drop_shorter n b bs (named_some w n (b ∷ bs) e)

word_shorter : (b : ℕ) (bs : List ℕ) → Shorter (b ∷ bs) (word_at (b ∷ bs))
unfolding word_at
word_shorter b bs = word_shorter_to b bs (prefix_len is_word_byte (b ∷ bs)) (word_named (take (prefix_len is_word_byte (b ∷ bs)) (b ∷ bs))) refl

text_shorter : (b : ℕ) (bs : List ℕ) (n : ℕ) (r : Result (List ℕ) FilterFault) → Shorter (b ∷ bs) (r >>= λ s. Ok (Quoted s, drop (n + 2) (b ∷ bs)))
text_shorter b bs n (Err e) = tt
text_shorter b bs n (Ok s) = drop_shorter (n + 2) b bs (omega arith)

quoted_shorter_to : (b : ℕ) (bs : List ℕ) (o : Option ℕ) → Shorter (b ∷ bs) (quoted_to (b ∷ bs) o)
quoted_shorter_to b bs None = tt
quoted_shorter_to b bs (Some n) = text_shorter b bs n (text_of (take (n + 2) (b ∷ bs)))

quoted_shorter : (b : ℕ) (bs : List ℕ) → Shorter (b ∷ bs) (quoted_at (b ∷ bs))
unfolding quoted_at
quoted_shorter b bs = quoted_shorter_to b bs (quote_at false bs)

pub shorter : (bs : List ℕ) → Shorter bs (token_at bs)
unfolding token_at
shorter [] = tt
shorter (b ∷ bs) =
    let P : Result (Token × List ℕ) FilterFault → Type 0 = Shorter (b ∷ bs) in
    by_cond P (b == 32) _ _ (λ e. gap_shorter b bs e)
    (λ e. by_cond P (b == 40) _ _ (λ f. omega arith) (λ f. by_cond P (b == 41) _ _ (λ g. omega arith) (λ g. by_cond P (b == 34) _ _ (λ h. quoted_shorter b bs) (λ h. word_shorter b bs))))

-- ---- from the tokens to the token

pub record First (bs : List ℕ) (ts : List Token) : Type 0 where
  pub first : Token
  pub rest : List ℕ
  pub others : List Token
  pub found : token_at bs ≡ Ok (first, rest)
  pub all_of : ts ≡ first ∷ others
  pub consists : Consists rest others

takes_gap : (b : ℕ) (bs : List ℕ) → (b == 32) ≡ true → token_at (b ∷ bs) ≡ Ok (gap_at (b ∷ bs))
unfolding token_at
takes_gap b bs e = rw e refl

gap_taken : (front rest : List ℕ) → IsGap front → begins is_space rest ≡ false → gap_at (front ++ rest) ≡ (Gap, rest)
unfolding gap_at
gap_taken front rest is e =
    ap (λ n. (Gap, drop n (front ++ rest))) (prefix_front is_space front rest is.1 e) ∙ ap (λ x. (Gap, x)) (drop_at front rest (length front) refl)

finds_gap : (front rest : List ℕ) → IsGap front → begins is_space rest ≡ false → token_at (front ++ rest) ≡ Ok (Gap, rest)
finds_gap [] rest is e = absurd (omega (arith, is.0))
finds_gap (b ∷ bs) rest is e = takes_gap b (bs ++ rest) (a_gap_begins (b ∷ bs) rest is) ∙ ap (λ x. Ok x) (gap_taken (b ∷ bs) rest is e)

finds_word : (w : Word) (front rest : List ℕ) → IsWord w front → begins is_word_byte rest ≡ false → token_at (front ++ rest) ≡ Ok (Plain w, rest)
unfolding token_at word_at
finds_word w [] rest is e = absurd (no_empty_word w is.1)
finds_word w (b ∷ bs) rest is e =
    let k = a_word_begins w (b ∷ bs) rest is in
    let m = prefix_front is_word_byte (b ∷ bs) rest is.0 e in
    let l : List ℕ = (b ∷ bs) ++ rest in
    rw (not_this b 32 k refl, not_this b 40 k refl, not_this b 41 k refl, not_this b 34 k refl)
    (ap (λ n. or_unsupported (option_map (λ x. (Plain x, drop n l)) (word_named (take n l)))) m
    ∙ ap (λ x. or_unsupported (option_map (λ y. (Plain y, drop (length (b ∷ bs)) l)) (word_named x))) (take_at (b ∷ bs) rest (length (b ∷ bs)) refl)
    ∙ ap (λ o. or_unsupported (option_map (λ y. (Plain y, drop (length (b ∷ bs)) l)) o)) is.1
    ∙ ap (λ x. Ok (Plain w, x)) (drop_at (b ∷ bs) rest (length (b ∷ bs)) refl))

finds_text : (s front rest : List ℕ) → IsString s front → token_at (front ++ rest) ≡ Ok (Quoted s, rest)
unfolding token_at quoted_at text_of
finds_text s front rest is =
    let q : List ℕ = 34 ∷ (is.body ++ 34 ∷ []) in
    let n : ℕ = length is.body in
    let long : length q ≡ n + 2 = quoted_long is.body n refl in
    let e : quote_at false ((is.body ++ 34 ∷ []) ++ rest) ≡ Some n = ap (quote_at false) (append_assoc is.body (34 ∷ []) rest) ∙ quote_kept false is.body rest is.ends in
    let r : read q ≡ Some (string s) = ap read (sym is.quoted) ∙ is.spells in
    ap (λ x. token_at (x ++ rest)) is.quoted
    ∙ ap (quoted_to (q ++ rest)) e
    ∙ ap (λ x. or_unsupported (string_in (read x)) >>= λ y. Ok (Quoted y, drop (n + 2) (q ++ rest))) (take_at q rest (n + 2) long)
    ∙ ap (λ o. or_unsupported (string_in o) >>= λ y. Ok (Quoted y, drop (n + 2) (q ++ rest))) r
    ∙ ap (λ x. Ok (Quoted s, x)) (drop_at q rest (n + 2) long)

finds : (t : Token) (front : List ℕ) {rest : List ℕ} {ts : List Token} → IsToken t front → EndsBefore t ts → Consists rest ts → token_at (front ++ rest) ≡ Ok (t, rest)
unfolding token_at
finds Gap front {rest} is e c = finds_gap front rest is (no_space c e)
finds Open front {rest} is e c = ap (λ x. token_at (x ++ rest)) is
finds Close front {rest} is e c = ap (λ x. token_at (x ++ rest)) is
finds (Plain w) front {rest} is e c = finds_word w front rest is (no_word w c e)
finds (Quoted s) front {rest} is e c = finds_text s front rest is

pub first_token : {bs : List ℕ} {ts : List Token} → Consists bs ts → 0 < length bs → First bs ts
first_token nothing h = absurd (omega arith)
first_token (token front {rest} t {ts} is e c) h = record { first = t; rest = rest; others = ts; found = finds t front is e c; all_of = refl; consists = c }

no_empty_token : (t : Token) → IsToken t [] → ⊥
no_empty_token Gap is = omega (arith, is.0)
no_empty_token Open is = cc
no_empty_token Close is = cc
no_empty_token (Plain w) is = no_empty_word w is.1
no_empty_token (Quoted s) is = let k = is.quoted in cc

empty_front : (t : Token) (front rest : List ℕ) → IsToken t front → front ++ rest ≡ [] → ⊥
empty_front t [] rest is e = no_empty_token t is
empty_front t (b ∷ bs) rest is e = cc

none_left : {bs : List ℕ} {ts : List Token} → Consists bs ts → bs ≡ [] → ts ≡ []
none_left nothing e = refl
none_left (token front {rest} t is b c) e = absurd (empty_front t front rest is e)

pub nothing_left : {ts : List Token} → Consists [] ts → ts ≡ []
nothing_left c = none_left c refl

some_front : (t : Token) (front rest : List ℕ) → IsToken t front → 0 < length (front ++ rest)
some_front t [] rest is = absurd (no_empty_token t is)
some_front t (b ∷ bs) rest is = omega arith

pub ok_same : (x y : Token × List ℕ) → ◌≡◌ {A = Result (Token × List ℕ) FilterFault} (Ok x) (Ok y) → x ≡ y
ok_same x y e = cc

-- a text consists of tokens in one way
pub one_way : {bs : List ℕ} {ts : List Token} → Consists bs ts → (us : List Token) → Consists bs us → ts ≡ us
one_way nothing us d = sym (nothing_left d)
one_way (token front {rest} t {ts} is e c) us d =
    let f = first_token d (some_front t front rest is) in
    let k : (t, rest) ≡ (f.first, f.rest) = ok_same _ _ (sym (finds t front is e c) ∙ f.found) in
    let more = one_way c f.others (subst (λ (x : Token × List ℕ). Consists x.1 f.others) (sym k) f.consists) in
    ap (λ x. t ∷ x) more ∙ ap (λ x. x.0 ∷ f.others) k ∙ sym f.all_of
