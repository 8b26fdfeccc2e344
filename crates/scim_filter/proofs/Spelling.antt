-- The text that is written for a filter spells it.
use Rattle.std.proofs.Common.{◌≡◌, ℕ, suc, zero, ◌≤◌, List, [], ◌∷◌, ◌++◌, Bool, true, false, length, refl, sym, subst, arith, append_assoc, append-nil}
use Rattle.std.specs.Prelude.{codes}
use Rattle.json.specs.Print.{quoted}
use Rattle.scim_filter.specs.Expressions.{Expression, Only, Both, Either, Negated}
use Rattle.scim_filter.specs.Words.{word_named, joining_word, comparing_word, attribute_word, text_attribute_named, flag_attribute_named}
use Rattle.scim_filter.specs.Tokens.{IsWord, EndsBefore, runs_on, Consists, nothing, token}
use Rattle.scim_filter.specs.Grammar.{as_text, text_limit, depth_limit, IsTest, presence, text_test, flag_test, IsItem, negation, group, test, IsAll, item, and, IsFilter, all, or, whole, Spells}
use Rattle.scim_filter.specs.Texts.{text_attribute_name, flag_attribute_name, attribute_name, operator_name, truth_name, test_text, is_either, is_joined, in_parentheses_if, filter_text, deeper_if, nesting}
use Rattle.scim_filter.specs.declared.terms.TextAttribute.TheVariants.{UserName, DisplayName, GivenName, FamilyName, EmailValue, EmailType, Member, Id, ExternalId, Version}
use Rattle.scim_filter.specs.declared.terms.FlagAttribute.TheVariants.{Active, EmailPrimary}
use Rattle.scim_filter.specs.declared.terms.Attribute.{Attribute}
use Rattle.scim_filter.specs.declared.terms.Attribute.TheVariants.{OfText, OfFlag}
use Rattle.scim_filter.specs.declared.terms.TextOperator.{TextOperator}
use Rattle.scim_filter.specs.declared.terms.TextOperator.TheVariants.{Equal, NotEqual, Contains, StartsWith, EndsWith}
use Rattle.scim_filter.specs.declared.terms.Test.{Test}
use Rattle.scim_filter.specs.declared.terms.Test.TheVariants as tests
use Rattle.scim_filter.specs.declared.words.Word.{Word}
use Rattle.scim_filter.specs.declared.words.Word.TheVariants.{Not, And, Or, Present, Compare, Truth, Name}
use Rattle.scim_filter.specs.declared.tokens.Token.{Token}
use Rattle.scim_filter.specs.declared.tokens.Token.TheVariants.{Gap, Open, Close, Plain, Quoted}
use Rattle.scim_filter.proofs.Strings.{quoted_is_string}
use Rattle.scim_filter.proofs.Lexical.{open_ends, close_ends, text_ends}

-- ---- the tokens of the text

abbrev test_tokens : Test → List Token
test_tokens (tests.Present a) = Plain (Name a) ∷ Gap ∷ Plain Present ∷ []
test_tokens (tests.Text a o s) = Plain (Name (OfText a)) ∷ Gap ∷ Plain (Compare o) ∷ Gap ∷ Quoted s ∷ []
test_tokens (tests.Flag a o v) = Plain (Name (OfFlag a)) ∷ Gap ∷ Plain (Compare (as_text o)) ∷ Gap ∷ Plain (Truth v) ∷ []

abbrev grouped_if : Bool → List Token → List Token
grouped_if true ts = Open ∷ (ts ++ Close ∷ [])
grouped_if false ts = ts

abbrev tokens_of : Expression → List Token
tokens_of (Only t) = test_tokens t
tokens_of (Both a b) = grouped_if (is_either a) (tokens_of a) ++ (Gap ∷ Plain And ∷ Gap ∷ grouped_if (is_joined b) (tokens_of b))
tokens_of (Either a b) = tokens_of a ++ (Gap ∷ Plain Or ∷ Gap ∷ grouped_if (is_either b) (tokens_of b))
tokens_of (Negated a) = Plain Not ∷ Gap ∷ Open ∷ (tokens_of a ++ Close ∷ [])

-- ---- they are grammatical

test_is : (t : Test) → IsTest (test_tokens t) t
test_is (tests.Present a) = presence a
test_is (tests.Text a o s) = text_test a o s
test_is (tests.Flag a o v) = flag_test a o v

record Forms (e : Expression) : Type 0 where
  as_filter : (d : ℕ) → nesting e ≤ d → IsFilter d (tokens_of e) e
  as_all : is_either e ≡ false → (d : ℕ) → nesting e ≤ d → IsAll d (tokens_of e) e
  as_item : is_joined e ≡ false → (d : ℕ) → nesting e ≤ d → IsItem d (tokens_of e) e

grouped_item : (e : Expression) → Forms e → (d : ℕ) → suc (nesting e) ≤ d → IsItem d (Open ∷ (tokens_of e ++ Close ∷ [])) e
grouped_item e f zero h = absurd (omega (arith, h))
grouped_item e f (suc d) h = group false false (f.as_filter d (omega (arith, h)))

negated_item : (e : Expression) → Forms e → (d : ℕ) → suc (nesting e) ≤ d → IsItem d (Plain Not ∷ Gap ∷ Open ∷ (tokens_of e ++ Close ∷ [])) (Negated e)
negated_item e f zero h = absurd (omega (arith, h))
negated_item e f (suc d) h = negation true false false (f.as_filter d (omega (arith, h)))

-- an operand of which one form is grouped
all_operand : (e : Expression) → Forms e → (c : Bool) → is_either e ≡ c → (d : ℕ) → deeper_if c (nesting e) ≤ d → IsAll d (grouped_if c (tokens_of e)) e
all_operand e f true k d h = item (grouped_item e f d h)
all_operand e f false k d h = f.as_all k d h

item_operand : (e : Expression) → Forms e → (c : Bool) → is_joined e ≡ c → (d : ℕ) → deeper_if c (nesting e) ≤ d → IsItem d (grouped_if c (tokens_of e)) e
item_operand e f true k d h = grouped_item e f d h
item_operand e f false k d h = f.as_item k d h

both_all : (a b : Expression) → Forms a → Forms b → (d : ℕ) → nesting (Both a b) ≤ d → IsAll d (tokens_of (Both a b)) (Both a b)
both_all a b f g d h =
    and (all_operand a f (is_either a) refl d (omega (arith, h))) (item_operand b g (is_joined b) refl d (omega (arith, h)))

forms : (e : Expression) → Forms e
forms (Only t) = record {
  as_filter = λ d h. all (item (test (test_is t)));
  as_all = λ k d h. item (test (test_is t));
  as_item = λ k d h. test (test_is t);
}
forms (Both a b) =
    let f = forms a in
    let g = forms b in
    record {
      as_filter = λ d h. all (both_all a b f g d h);
      as_all = λ k d h. both_all a b f g d h;
      as_item = λ k d h. absurd (let q : true ≡ false = k in cc);
    }
forms (Either a b) =
    let f = forms a in
    let g = forms b in
    record {
      as_filter = λ d h. or (f.as_filter d (omega (arith, h))) (all_operand b g (is_either b) refl d (omega (arith, h)));
      as_all = λ k d h. absurd (let q : true ≡ false = k in cc);
      as_item = λ k d h. absurd (let q : true ≡ false = k in cc);
    }
forms (Negated a) =
    let f = forms a in
    record {
      as_filter = λ d h. all (item (negated_item a f d h));
      as_all = λ k d h. item (negated_item a f d h);
      as_item = λ k d h. negated_item a f d h;
    }

-- ---- the text consists of them

-- what may follow a filter: the end, a parenthesis that closes, or a gap
abbrev MayEnd : List Token → Type 0
MayEnd [] = Unit {0}
MayEnd (Gap ∷ ts) = Unit {0}
MayEnd (Open ∷ ts) = ⊥
MayEnd (Close ∷ ts) = Unit {0}
MayEnd (Plain w ∷ ts) = ⊥
MayEnd (Quoted s ∷ ts) = ⊥

-- some tokens, of which the first is no gap
abbrev Begin : List Token → Type 0
Begin [] = ⊥
Begin (t ∷ ts) = runs_on Gap t ≡ false

record Writes (text : List ℕ) (ts : List Token) : Type 0 where
  begin : Begin ts
  on : (rest : List ℕ) (us : List Token) → Consists rest us → MayEnd us → Consists (text ++ rest) (ts ++ us)

begin_ends : (ts us : List Token) → Begin ts → EndsBefore Gap (ts ++ us)
begin_ends [] us b = absurd b
begin_ends (t ∷ ts) us b = b

begin_more : (ts us : List Token) → Begin ts → Begin (ts ++ us)
begin_more [] us b = absurd b
begin_more (t ∷ ts) us b = b

word_may_end : (w : Word) (us : List Token) → MayEnd us → EndsBefore (Plain w) us
word_may_end w [] m = tt
word_may_end w (Gap ∷ ts) m = refl
word_may_end w (Open ∷ ts) m = refl
word_may_end w (Close ∷ ts) m = refl
word_may_end w (Plain v ∷ ts) m = absurd m
word_may_end w (Quoted s ∷ ts) m = refl

attribute_is : (a : Attribute) → IsWord (Name a) (attribute_name a)
unfolding word_named joining_word comparing_word attribute_word text_attribute_named flag_attribute_named
attribute_is (OfText UserName) = (refl, refl)
attribute_is (OfText DisplayName) = (refl, refl)
attribute_is (OfText GivenName) = (refl, refl)
attribute_is (OfText FamilyName) = (refl, refl)
attribute_is (OfText EmailValue) = (refl, refl)
attribute_is (OfText EmailType) = (refl, refl)
attribute_is (OfText Member) = (refl, refl)
attribute_is (OfText Id) = (refl, refl)
attribute_is (OfText ExternalId) = (refl, refl)
attribute_is (OfText Version) = (refl, refl)
attribute_is (OfFlag Active) = (refl, refl)
attribute_is (OfFlag EmailPrimary) = (refl, refl)

operator_is : (o : TextOperator) → IsWord (Compare o) (operator_name o)
unfolding word_named joining_word comparing_word
operator_is Equal = (refl, refl)
operator_is NotEqual = (refl, refl)
operator_is Contains = (refl, refl)
operator_is StartsWith = (refl, refl)
operator_is EndsWith = (refl, refl)

truth_is : (v : Bool) → IsWord (Truth v) (truth_name v)
unfolding word_named joining_word
truth_is true = (refl, refl)
truth_is false = (refl, refl)

present_is : IsWord Present (codes "pr")
unfolding word_named joining_word
present_is = (refl, refl)

and_is : IsWord And (codes "and")
unfolding word_named joining_word
and_is = (refl, refl)

or_is : IsWord Or (codes "or")
unfolding word_named joining_word
or_is = (refl, refl)

not_is : IsWord Not (codes "not")
unfolding word_named joining_word
not_is = (refl, refl)

-- one space before tokens that don't begin with a gap
gap_before : (text : List ℕ) (ts : List Token) → EndsBefore Gap ts → Consists text ts → Consists (32 ∷ text) (Gap ∷ ts)
gap_before text ts e c = token (32 ∷ []) Gap (omega arith, refl) e c

-- a word before a gap
word_before : (w : Word) (bs text : List ℕ) (ts : List Token) → IsWord w bs → Consists text (Gap ∷ ts) → Consists (bs ++ text) (Plain w ∷ Gap ∷ ts)
word_before w bs text ts is c = token bs (Plain w) is refl c

-- three words of a test, and what follows them
line_on : (name operator value rest : List ℕ) → (name ++ (codes " " ++ (operator ++ (codes " " ++ value)))) ++ rest ≡ name ++ (32 ∷ (operator ++ (32 ∷ (value ++ rest))))
line_on name operator value rest = simp append_assoc

test_on : (t : Test) (rest : List ℕ) (us : List Token) → Consists rest us → MayEnd us → Consists (test_text t ++ rest) (test_tokens t ++ us)
test_on (tests.Present a) rest us c m =
    rw append_assoc (word_before (Name a) (attribute_name a) _ _ (attribute_is a)
    (gap_before _ _ refl (token (codes "pr") (Plain Present) present_is (word_may_end Present us m) c)))
test_on (tests.Text a o s) rest us c m =
    let line : Consists (text_attribute_name a ++ (32 ∷ (operator_name o ++ (32 ∷ (quoted s ++ rest))))) (test_tokens (tests.Text a o s) ++ us) =
    word_before (Name (OfText a)) (text_attribute_name a) _ _ (attribute_is (OfText a))
    (gap_before _ _ refl (word_before (Compare o) (operator_name o) _ _ (operator_is o)
    (gap_before _ _ refl (token (quoted s) (Quoted s) (quoted_is_string s) (text_ends s us) c)))) in
    subst (λ (x : List ℕ). Consists x (test_tokens (tests.Text a o s) ++ us)) (sym (line_on (text_attribute_name a) (operator_name o) (quoted s) rest)) line
test_on (tests.Flag a o v) rest us c m =
    let line : Consists (flag_attribute_name a ++ (32 ∷ (operator_name (as_text o) ++ (32 ∷ (truth_name v ++ rest))))) (test_tokens (tests.Flag a o v) ++ us) =
    word_before (Name (OfFlag a)) (flag_attribute_name a) _ _ (attribute_is (OfFlag a))
    (gap_before _ _ refl (word_before (Compare (as_text o)) (operator_name (as_text o)) _ _ (operator_is (as_text o))
    (gap_before _ _ refl (token (truth_name v) (Plain (Truth v)) (truth_is v) (word_may_end (Truth v) us m) c)))) in
    subst (λ (x : List ℕ). Consists x (test_tokens (tests.Flag a o v) ++ us)) (sym (line_on (flag_attribute_name a) (operator_name (as_text o)) (truth_name v) rest)) line

test_begins : (t : Test) → Begin (test_tokens t)
test_begins (tests.Present a) = refl
test_begins (tests.Text a o s) = refl
test_begins (tests.Flag a o v) = refl

-- in parentheses
grouped_on : (text : List ℕ) (ts : List Token) → Writes text ts → (rest : List ℕ) (us : List Token) → Consists rest us → Consists ((40 ∷ (text ++ 41 ∷ [])) ++ rest) ((Open ∷ (ts ++ Close ∷ [])) ++ us)
grouped_on text ts w rest us c =
    let inner : Consists (text ++ (41 ∷ rest)) (ts ++ (Close ∷ us)) = w.on (41 ∷ rest) (Close ∷ us) (token (41 ∷ []) Close refl (close_ends us) c) tt in
    rw (append_assoc text (41 ∷ []) rest, append_assoc ts (Close ∷ []) us) (token (40 ∷ []) Open refl (open_ends (ts ++ (Close ∷ us))) inner)

grouped_writes : (c : Bool) (text : List ℕ) (ts : List Token) → Writes text ts → Writes (in_parentheses_if c text) (grouped_if c ts)
grouped_writes true text ts w = record { begin = refl; on = λ rest us c m. grouped_on text ts w rest us c }
grouped_writes false text ts w = w

-- two operands and the tokens between them
joined_writes : (k : Word) (bs : List ℕ) → IsWord k bs → (text more : List ℕ) (ts us : List Token) → Writes text ts → Writes more us
    → Writes (text ++ ((32 ∷ (bs ++ 32 ∷ [])) ++ more)) (ts ++ (Gap ∷ Plain k ∷ Gap ∷ us))
joined_writes k bs is text more ts us v w = record {
  begin = begin_more ts (Gap ∷ Plain k ∷ Gap ∷ us) v.begin;
  on = λ rest vs c m.
      let right : Consists (more ++ rest) (us ++ vs) = w.on rest vs c m in
      let spaced : Consists (32 ∷ (bs ++ (32 ∷ (more ++ rest)))) (Gap ∷ Plain k ∷ Gap ∷ (us ++ vs)) =
      gap_before _ _ refl (word_before k bs _ _ is (gap_before (more ++ rest) (us ++ vs) (begin_ends us vs w.begin) right)) in
      let left = v.on (32 ∷ (bs ++ (32 ∷ (more ++ rest)))) (Gap ∷ Plain k ∷ Gap ∷ (us ++ vs)) spaced tt in
      simp append_assoc left;
}

negated_writes : (text : List ℕ) (ts : List Token) → Writes text ts → Writes (codes "not (" ++ (text ++ codes ")")) (Plain Not ∷ Gap ∷ Open ∷ (ts ++ Close ∷ []))
negated_writes text ts w = record {
  begin = refl;
  on = λ rest us c m. word_before Not (codes "not") _ _ not_is (gap_before _ _ refl (grouped_on text ts w rest us c));
}

writes : (e : Expression) → Writes (filter_text e) (tokens_of e)
writes (Only t) = record { begin = test_begins t; on = test_on t }
writes (Both a b) =
    joined_writes And (codes "and") and_is (in_parentheses_if (is_either a) (filter_text a)) (in_parentheses_if (is_joined b) (filter_text b)) (grouped_if (is_either a) (tokens_of a)) (grouped_if (is_joined b) (tokens_of b))
    (grouped_writes (is_either a) (filter_text a) (tokens_of a) (writes a)) (grouped_writes (is_joined b) (filter_text b) (tokens_of b) (writes b))
writes (Either a b) =
    joined_writes Or (codes "or") or_is (filter_text a) (in_parentheses_if (is_either b) (filter_text b)) (tokens_of a) (grouped_if (is_either b) (tokens_of b))
    (writes a) (grouped_writes (is_either b) (filter_text b) (tokens_of b) (writes b))
writes (Negated a) = negated_writes (filter_text a) (tokens_of a) (writes a)

-- The text spells the filter, if it is within the limits
pub text_spells : (e : Expression) → length (filter_text e) ≤ text_limit → nesting e ≤ depth_limit → Spells (filter_text e) e
text_spells e short shallow = record {
  short = short;
  tokens = tokens_of e;
  consists = rw (← append-nil (filter_text e), ← append-nil (tokens_of e)) ((writes e).on [] [] nothing tt);
  grammatical = rw (← append-nil (tokens_of e)) (whole false false ((forms e).as_filter depth_limit shallow));
}
