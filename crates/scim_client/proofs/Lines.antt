-- The field lines of a request are such as a head may have, and each is found by its name.
use Rattle.std.proofs.Common.{◌≡◌, ℕ, ◌^◌, ◌<◌, ◌≤◌, Bool, true, false, List, [], ◌∷◌, ◌++◌, ◌&&◌, length, Option, Some, None, Result, Ok, refl, ap, sym, subst, ◌∙◌, arith, inl, inr, nat_lt, append_assoc, append-nil}
use Rattle.std.specs.Prelude.{All, IfSome, nat_le, not, codes, option_to_list, reverse}
use Rattle.std.specs.Char.{is_ascii_digit}
use Rattle.std.specs.Fmt.{decimal}
use Rattle.std.specs.List.{AllByRecursion, flat_map, list_all}
use Rattle.std.specs.Str.Parse.{digits_value}
use Rattle.std.proofs.lemmas.Bool.Decides.{nat_tests}
use Rattle.std.proofs.lemmas.Fmt.{decimal_is_IsNumeral, digits_decimal, length-decimal-le}
use Rattle.std.proofs.lemmas.List.{reverse-append}
use Rattle.std.proofs.lemmas.List.Elements.{All-nil, All-cons, All-append, All-weaker}
use Rattle.std.proofs.lemmas.List.Folds.{list_all-append}
use Rattle.std.proofs.lemmas.List.Sums.{AllPass-from_list_all, list_all-from_AllPass}
use Rattle.std.proofs.lemmas.Str.Parse.{numerals_by_value, tells_all_ascii_digits}
use Rattle.httparse.specs.Grammar.{is_token_byte, is_uri_byte, is_value_byte, skip_ows, IsToken}
use Rattle.scim_key.specs.Bases.{is_authority_byte}
use Rattle.scim_version.specs.declared.conditions.Condition.{Condition}
use Rattle.scim_version.specs.declared.conditions.Condition.TheVariants.{Always, AnyTag, Tags}
use Rattle.scim_version.specs.Lists.{IsListOf, IsBlank, single}
use Rattle.scim_version.specs.Lists as lists
use Rattle.scim_version.specs.Tags.{is_tag_byte, quoted, IsEntityTag}
use Rattle.scim_version.specs.Conditions.{condition_of}
use Rattle.scim_version.proofs.Spelling.{condition-from_Spells}
use Rattle.http_text.specs.Message.{NamedValue, values, Length, absent, stated, length_in, is_length, body_limit, field_limit}
use Rattle.http_text.specs.declared.fault.ReadFault.{ReadFault}
use Rattle.http_text.specs.declared.fault.ReadFault.TheVariants.{HostMissingOrRepeated, TransferCoding, Expectation}
use Rattle.http_text.specs.Judging.{◌>>=◌, refused_where, readable_length, length_wanted, is_any, is_host_byte, is_host_wrong}
use Rattle.http_text.specs.Response.{line_with, written_lines}
use Rattle.http_text.specs.Texts.{IsFieldLine}
use Rattle.http_text.proofs.TextLemmas.{IsFieldLine-visible}
use Rattle.scim_http.specs.Media.{is_type_served}
use Rattle.scim_http.specs.Meaning.{condition_in, condition_read}
use Rattle.scim_http.specs.Replies.{stated_type}
use Rattle.scim_http.proofs.NumberLemmas.{all_digits}
use Rattle.scim_client.specs.Requests.{condition_value, lines_of}
use Rattle.scim_client.specs.Spelling.{HasEntityTags, HasSomeTag}

-- ---- visible texts

abbrev pub IsVisible : List ℕ → Type 0
IsVisible text = list_all is_uri_byte text ≡ true

pub both : (a b : Bool) → a ≡ true → b ≡ true → (a && b) ≡ true
both a b x y = rw x y

pub weaker : (test other : ℕ → Bool) → ((b : ℕ) → test b ≡ true → other b ≡ true) → (text : List ℕ) → list_all test text ≡ true → list_all other text ≡ true
weaker test other implies text passes =
    list_all-from_AllPass other text (All-weaker (λ b. test b ≡ true) (λ b. other b ≡ true) implies text (AllPass-from_list_all test text passes))

pub together : (test : ℕ → Bool) (a b : List ℕ) → list_all test a ≡ true → list_all test b ≡ true → list_all test (a ++ b) ≡ true
together test a b x y = list_all-append test a b ∙ both (list_all test a) (list_all test b) x y

authority_visible : (b : ℕ) → is_authority_byte b ≡ true → is_uri_byte b ≡ true
authority_visible b h = grind (arith, nat_tests)

authority_in_host : (b : ℕ) → is_authority_byte b ≡ true → is_host_byte b ≡ true
authority_in_host b h = grind (arith, nat_tests)

tag_is_value : (b : ℕ) → is_tag_byte b ≡ true → is_value_byte b ≡ true
tag_is_value b h = grind (arith, nat_tests)

digit_visible : (b : ℕ) → is_ascii_digit b ≡ true → is_uri_byte b ≡ true
digit_visible b h = grind (arith, nat_tests)

pub decimal_is_digits : (n : ℕ) → n < 2 ^ 64 → list_all is_ascii_digit (decimal n) ≡ true
decimal_is_digits n h = all_digits (decimal n) ∙ digits_decimal (numerals_by_value _ tells_all_ascii_digits) n h

-- ---- values that a field line may have

pub record IsValue (value : List ℕ) : Type 0 where
  pub line : (name : List ℕ) → IsToken name → IsFieldLine (name, value)

pub visible_value : (value : List ℕ) → IsVisible value → IsValue value
visible_value value shows = record { line = λ name token. IsFieldLine-visible name value token (AllPass-from_list_all is_uri_byte value shows) }

pub host_value : (authority : List ℕ) → list_all is_authority_byte authority ≡ true → IsValue authority
host_value authority lawful = visible_value authority (weaker is_authority_byte is_uri_byte authority_visible authority lawful)

pub decimal_value : (n : ℕ) → n < 2 ^ 64 → IsValue (decimal n)
decimal_value n small = visible_value (decimal n) (weaker is_ascii_digit is_uri_byte digit_visible (decimal n) (decimal_is_digits n small))

-- ---- entity tags

-- a text that ends with a double quote, all of whose bytes a value may have
record IsQuotedText (text : List ℕ) : Type 0 where
  init : List ℕ
  ends : text ≡ init ++ 0x22 ∷ []
  bytes : list_all is_value_byte text ≡ true

quoted_bytes : (opaque : List ℕ) → list_all is_tag_byte opaque ≡ true → list_all is_value_byte (quoted opaque) ≡ true
quoted_bytes opaque passes =
    together is_value_byte (0x22 ∷ opaque) (0x22 ∷ []) (together is_value_byte (0x22 ∷ []) opaque refl (weaker is_tag_byte is_value_byte tag_is_value opaque passes)) refl

is_quoted_text : (tag : List ℕ) → IsEntityTag tag → IsQuotedText tag
is_quoted_text tag is =
    elim is.2 [
      | inl strong ↦ subst IsQuotedText (sym strong) (record { init = 0x22 ∷ is.0; ends = refl; bytes = quoted_bytes is.0 is.1 })
      | inr weak ↦ subst IsQuotedText (sym weak) (record { init = codes "W/" ++ 0x22 ∷ is.0; ends = refl; bytes = together is_value_byte (codes "W/") (quoted is.0) refl (quoted_bytes is.0 is.1) })
    ]

-- a tag begins with no blank, whatever follows it
begins : (tag more : List ℕ) → IsEntityTag tag → skip_ows (tag ++ more) ≡ tag ++ more
begins tag more is =
    let P : List ℕ → Type 0 = λ text. skip_ows (text ++ more) ≡ text ++ more in
    elim is.2 [ inl strong ↦ subst P (sym strong) refl | inr weak ↦ subst P (sym weak) refl ]

-- the text after the first tag
abbrev behind : List (List ℕ) → List ℕ
behind tags = flat_map (λ tag. codes ", " ++ tag) tags

list_is_quoted_text : (first : List ℕ) (others : List (List ℕ)) → IsEntityTag first → AllByRecursion IsEntityTag others → IsQuotedText (first ++ behind others)
list_is_quoted_text first [] is all = subst IsQuotedText (sym (append-nil first)) (is_quoted_text first is)
list_is_quoted_text first (next ∷ others) is all =
    let rest = list_is_quoted_text next others all.0 all.1 in
    let one = is_quoted_text first is in
    record {
      init = first ++ (codes ", " ++ rest.init);
      ends = ap (λ (t : List ℕ). first ++ (codes ", " ++ t)) rest.ends ∙ sym (append_assoc first (codes ", " ++ rest.init) (0x22 ∷ []));
      bytes = together is_value_byte first (codes ", " ++ (next ++ behind others)) one.bytes (together is_value_byte (codes ", ") (next ++ behind others) refl rest.bytes);
    }

ends_so : (text init : List ℕ) → text ≡ init ++ 0x22 ∷ [] → skip_ows (reverse text) ≡ reverse text
ends_so text init is =
    let P : List ℕ → Type 0 = λ back. skip_ows back ≡ back in
    subst P (sym (ap reverse is ∙ reverse-append init (0x22 ∷ []))) refl

list_value : (first : List ℕ) (others : List (List ℕ)) → IsEntityTag first → AllByRecursion IsEntityTag others → IsValue (first ++ behind others)
list_value first others is all =
    let text = list_is_quoted_text first others is all in
    record {
      line = λ name token. record {
        name = token;
        value = AllPass-from_list_all is_value_byte (first ++ behind others) text.bytes;
        front = begins first (behind others) is;
        back = ends_so (first ++ behind others) text.init text.ends;
      };
    }

-- the tags are read as a list, with blanks before the first
list_read : (before first : List ℕ) (others : List (List ℕ)) → IsBlank before → IsEntityTag first → AllByRecursion IsEntityTag others
    → IsListOf (before ++ (first ++ behind others)) (first ∷ others)
list_read before first [] blank is all =
    let P : List ℕ → Type 0 = λ text. IsListOf text (first ∷ []) in
    subst P (append_assoc before first []) (single before first [] blank (inr is) refl)
list_read before first (next ∷ others) blank is all =
    let P : List ℕ → Type 0 = λ text. IsListOf text (first ∷ next ∷ others) in
    let rest = list_read (codes " ") next others refl all.0 all.1 in
    let tail = 0x2C ∷ (codes " " ++ (next ++ behind others)) in
    let text : ((before ++ first) ++ []) ++ tail ≡ before ++ (first ++ tail) =
    append_assoc (before ++ first) [] tail ∙ append_assoc before first tail in
    subst P text (lists.joined (single before first [] blank (inr is) refl) rest)

-- ---- conditions

-- a condition that a field may have
abbrev pub IsSentCondition : Condition → Type 0
IsSentCondition condition = HasSomeTag condition × HasEntityTags condition

abbrev pub IsValueOf : Option (List ℕ) → Type 0
IsValueOf value = IfSome value IsValue

pub condition_is_value : (condition : Condition) → IsSentCondition condition → IsValueOf (condition_value condition)
condition_is_value Always is = tt
condition_is_value AnyTag is = visible_value (codes "*") refl
condition_is_value (Tags []) is = absurd (omega (arith, is.0))
condition_is_value (Tags (first ∷ others)) is = list_value first others is.1.0 is.1.1

-- the value of the field is read as the condition
pub condition_found : (condition : Condition) → IsSentCondition condition → condition_in (option_to_list (condition_value condition)) ≡ Ok condition
condition_found Always is = refl
condition_found AnyTag is = ap condition_read (condition-from_Spells (codes "*") AnyTag (single [] (codes "*") [] refl (inl refl) refl))
condition_found (Tags []) is = absurd (omega (arith, is.0))
condition_found (Tags (first ∷ others)) is =
    let P : List ℕ → Type 0 = λ text. condition_read (condition_of text) ≡ Ok (Tags (first ∷ others)) in
    let text = first ++ behind others in
    subst P (sym (append-nil text))
    (ap condition_read (condition-from_Spells text (Tags (first ∷ others)) (list_read [] first others refl is.1.0 is.1.1, omega arith, is.1)))

-- ---- the lines

line_is : (name : List ℕ) (value : Option (List ℕ)) → IsToken name → IsValueOf value → All IsFieldLine (line_with name value)
line_is name None token is = All-nil IsFieldLine
line_is name (Some value) token is = All-cons IsFieldLine (name, value) [] (is.line name token) (All-nil IsFieldLine)

token : (name : List ℕ) → 0 < length name → list_all is_token_byte name ≡ true → IsToken name
token name some passes = (some, AllPass-from_list_all is_token_byte name passes)

more : (name : List ℕ) (value : Option (List ℕ)) (rest : List NamedValue) → IsToken name → IsValueOf value → All IsFieldLine rest → All IsFieldLine (line_with name value ++ rest)
more name value rest is shows all = All-append IsFieldLine (line_with name value) rest (line_is name value is shows) all

type_value : (length_ : Option (List ℕ)) → IsValueOf (stated_type length_)
type_value None = tt
type_value (Some text) = visible_value (codes "application/scim+json") refl

abbrev lines_from_type : (length_ if_match if_none_match : Option (List ℕ)) → List NamedValue
lines_from_type length_ if_match if_none_match =
    line_with (codes "Content-Type") (stated_type length_) ++ (line_with (codes "If-Match") if_match ++ (line_with (codes "If-None-Match") if_none_match ++ []))

abbrev lines_from_length : (length_ if_match if_none_match : Option (List ℕ)) → List NamedValue
lines_from_length length_ if_match if_none_match = line_with (codes "Content-Length") length_ ++ lines_from_type length_ if_match if_none_match

abbrev lines_from_connection : (length_ if_match if_none_match : Option (List ℕ)) → List NamedValue
lines_from_connection length_ if_match if_none_match = line_with (codes "Connection") (Some (codes "close")) ++ lines_from_length length_ if_match if_none_match

pub lines_are : (host : List ℕ) (length_ if_match if_none_match : Option (List ℕ)) → IsValue host → IsValueOf length_ → IsValueOf if_match → IsValueOf if_none_match
    → All IsFieldLine (written_lines (lines_of host length_ if_match if_none_match))
unfolding is_token_byte
lines_are host length_ if_match if_none_match at long first second =
    let type = visible_value (codes "application/scim+json") refl in
    let close = visible_value (codes "close") refl in
    more (codes "Host") (Some host) (line_with (codes "Accept") (Some (codes "application/scim+json")) ++ lines_from_connection length_ if_match if_none_match) (token (codes "Host") (omega arith) refl) at
    (more (codes "Accept") (Some (codes "application/scim+json")) (lines_from_connection length_ if_match if_none_match) (token (codes "Accept") (omega arith) refl) type
    (more (codes "Connection") (Some (codes "close")) (lines_from_length length_ if_match if_none_match) (token (codes "Connection") (omega arith) refl) close
    (more (codes "Content-Length") length_ (lines_from_type length_ if_match if_none_match) (token (codes "Content-Length") (omega arith) refl) long
    (more (codes "Content-Type") (stated_type length_) (line_with (codes "If-Match") if_match ++ (line_with (codes "If-None-Match") if_none_match ++ [])) (token (codes "Content-Type") (omega arith) refl) (type_value length_)
    (more (codes "If-Match") if_match (line_with (codes "If-None-Match") if_none_match ++ []) (token (codes "If-Match") (omega arith) refl) first
    (more (codes "If-None-Match") if_none_match [] (token (codes "If-None-Match") (omega arith) refl) second (All-nil IsFieldLine)))))))

-- what is found for each field that the server looks at
pub record Finds (lines : List NamedValue) (host : List ℕ) (length_ if_match if_none_match : Option (List ℕ)) : Type 0 where
  pub at : values (codes "host") lines ≡ host ∷ []
  pub long : values (codes "content-length") lines ≡ option_to_list length_
  pub coding : values (codes "transfer-encoding") lines ≡ []
  pub expect : values (codes "expect") lines ≡ []
  pub media : is_type_served (values (codes "content-type") lines) ≡ true
  pub first : values (codes "if-match") lines ≡ option_to_list if_match
  pub second : values (codes "if-none-match") lines ≡ option_to_list if_none_match
  pub few : length lines ≤ field_limit

pub finds : (host : List ℕ) (length_ if_match if_none_match : Option (List ℕ)) → Finds (written_lines (lines_of host length_ if_match if_none_match)) host length_ if_match if_none_match
finds host None None None = record { at = refl; long = refl; coding = refl; expect = refl; media = refl; first = refl; second = refl; few = omega arith }
finds host None None (Some b) = record { at = refl; long = refl; coding = refl; expect = refl; media = refl; first = refl; second = refl; few = omega arith }
finds host None (Some a) None = record { at = refl; long = refl; coding = refl; expect = refl; media = refl; first = refl; second = refl; few = omega arith }
finds host None (Some a) (Some b) = record { at = refl; long = refl; coding = refl; expect = refl; media = refl; first = refl; second = refl; few = omega arith }
finds host (Some l) None None = record { at = refl; long = refl; coding = refl; expect = refl; media = refl; first = refl; second = refl; few = omega arith }
finds host (Some l) None (Some b) = record { at = refl; long = refl; coding = refl; expect = refl; media = refl; first = refl; second = refl; few = omega arith }
finds host (Some l) (Some a) None = record { at = refl; long = refl; coding = refl; expect = refl; media = refl; first = refl; second = refl; few = omega arith }
finds host (Some l) (Some a) (Some b) = record { at = refl; long = refl; coding = refl; expect = refl; media = refl; first = refl; second = refl; few = omega arith }

-- ---- the judge

length_where : (text : List ℕ) (n : ℕ) (test : Bool) → is_length text ≡ test → test ≡ true → digits_value 10 text ≡ n → length_in (text ∷ []) ≡ stated n
length_where text n test is holds value = rw (is ∙ holds) (ap stated value)

decimal_is_length : (n : ℕ) → n ≤ body_limit → is_length (decimal n) ≡ true
decimal_is_length n small =
    let short = length-decimal-le 7 n (omega arith) (omega arith) (omega arith) in
    let number = decimal_is_IsNumeral n (omega arith) in
    let some = number.0.0 in
    both (nat_lt 0 (length (decimal n))) (nat_le (length (decimal n)) 18 && list_all is_ascii_digit (decimal n)) (grind (arith, nat_tests))
    (both (nat_le (length (decimal n)) 18) (list_all is_ascii_digit (decimal n)) (grind (arith, nat_tests)) (decimal_is_digits n (omega arith)))

pub stated_decimal : (n : ℕ) → n ≤ body_limit → length_in (decimal n ∷ []) ≡ stated n
stated_decimal n small =
    let number = decimal_is_IsNumeral n (omega arith) in
    length_where (decimal n) n (is_length (decimal n)) refl (decimal_is_length n small) number.1

abbrev pub judged : (has_body : Bool) → Length → List (List ℕ) → List (List ℕ) → List (List ℕ) → Result ℕ ReadFault
judged has_body l host coding expect =
    readable_length false l >>= (λ length_. refused_where (is_host_wrong 1 host) (HostMissingOrRepeated false)
    >>= (λ _. refused_where (is_any coding) (TransferCoding false) >>= (λ _. refused_where (is_any expect) (Expectation false)
    >>= (λ _. length_wanted has_body false length_))))

-- a host and port of a base is a host
pub host_is_right : (authority : List ℕ) → list_all is_authority_byte authority ≡ true → is_host_wrong 1 (authority ∷ []) ≡ false
host_is_right authority lawful = ap not (weaker is_authority_byte is_host_byte authority_in_host authority lawful)

pub judged_body : (n : ℕ) (l : Length) (hosts coding expect : List (List ℕ)) → n ≤ body_limit → l ≡ stated n → is_host_wrong 1 hosts ≡ false → coding ≡ [] → expect ≡ []
    → judged true l hosts coding expect ≡ Ok n
judged_body n l hosts coding expect small is one none no_more =
    let fits : nat_lt body_limit n ≡ false = grind (arith, nat_tests) in
    rw (is, one, none, no_more, fits) refl

pub judged_bodiless : (l : Length) (hosts coding expect : List (List ℕ)) → l ≡ absent → is_host_wrong 1 hosts ≡ false → coding ≡ [] → expect ≡ []
    → judged false l hosts coding expect ≡ Ok 0
judged_bodiless l hosts coding expect is one none no_more = rw (is, one, none, no_more) refl
