-- The text of an answer is a response of the grammar.
use Rattle.std.proofs.Common.{◌≡◌, ℕ, ◌+◌, ◌/◌, ◌%◌, ◌^◌, ◌<◌, ◌≤◌, Bool, true, false, cond, List, [], ◌∷◌, ◌++◌, ◌&&◌, not, length, Option, Some, None, Result, Ok, refl, ap, ◌∙◌, arith, inl, inr, nat_lt}
use Rattle.std.specs.Prelude.{All, IfSome, ◌==◌, nat_le, codes, option_to_list}
use Rattle.std.specs.Char.{is_ascii_digit}
use Rattle.std.specs.Fmt.{decimal}
use Rattle.std.specs.List.{AllByRecursion, list_all}
use Rattle.std.specs.Str.Parse.{digits_value}
use Rattle.std.proofs.lemmas.Bool.Decides.{nat_tests}
use Rattle.std.proofs.lemmas.Fmt.{decimal_is_IsNumeral, digits_decimal, length-decimal-le}
use Rattle.std.proofs.lemmas.List.Elements.{All-nil, All-cons, All-append, All-weaker}
use Rattle.std.proofs.lemmas.List.Folds.{list_all-append}
use Rattle.std.proofs.lemmas.List.Sums.{AllPass-from_list_all, list_all-from_AllPass}
use Rattle.std.proofs.lemmas.Str.Parse.{numerals_by_value, tells_all_ascii_digits}
use Rattle.httparse.specs.Grammar.{is_token_byte, is_uri_byte, IsToken}
use Rattle.scim_key.specs.Bases.{base_text, is_authority_byte}
use Rattle.scim_key.specs.declared.records.Kind.{Kind}
use Rattle.scim_key.specs.declared.records.Kind.TheVariants as kinds
use Rattle.scim_version.specs.Tags.{is_tag_byte, quoted, IsEntityTag}
use Rattle.scim_resource.specs.Contents.{content_kind}
use Rattle.scim_resource.specs.Locations.{is_unreserved, upper_hex, escaped_byte, escaped, collection_path, location_text}
use Rattle.scim_message.specs.declared.messages.Answer.TheVariants.{Created, Found, Replaced, NotModified, Error}
use Rattle.scim_message.specs.declared.messages.Answer.TheVariants as answers
use Rattle.scim_message.specs.Bodies.{body_text}
use Rattle.http_text.specs.declared.fault.ReadFault.{ReadFault}
use Rattle.http_text.specs.declared.fault.ReadFault.TheVariants.{Malformed}
use Rattle.http_text.specs.Message.{status_line, NamedValue, values, Length, stated, length_in, is_length, body_length, head_limit, field_limit, response_body_limit}
use Rattle.http_text.specs.Judging.{◌>>=◌, refused_where, readable_length, is_any, is_chunked_alone, is_bodiless, is_no_status, response_length}
use Rattle.http_text.specs.Forms.{IsResponseMessage}
use Rattle.http_text.specs.Response.{line_with, response_text, written_lines}
use Rattle.http_text.specs.Texts.{IsFieldLine}
use Rattle.http_text.proofs.TextLemmas.{IsFieldLine-visible}
use Rattle.http_text.proofs.InterimLemmas.{stated_is_response}
use Rattle.http_text.proofs.TextLemmas as texts
use Rattle.scim_http.specs.Replies.{lines_of, stated_type, value_if}
use Rattle.scim_http.specs.Laws.{AnswersAreResponses}
use Rattle.scim_http.proofs.NumberLemmas.{all_digits}

-- ---- visible texts

abbrev IsVisible : List ℕ → Type 0
IsVisible text = list_all is_uri_byte text ≡ true

both : (a b : Bool) → a ≡ true → b ≡ true → (a && b) ≡ true
both a b x y = rw x y

joined : (a b : List ℕ) → IsVisible a → IsVisible b → IsVisible (a ++ b)
joined a b x y = list_all-append is_uri_byte a b ∙ both (list_all is_uri_byte a) (list_all is_uri_byte b) x y

weaker : (test : ℕ → Bool) → ((b : ℕ) → test b ≡ true → is_uri_byte b ≡ true) → (text : List ℕ) → list_all test text ≡ true → IsVisible text
weaker test implies text passes =
    list_all-from_AllPass is_uri_byte text (All-weaker (λ b. test b ≡ true) (λ b. is_uri_byte b ≡ true) implies text (AllPass-from_list_all test text passes))

authority_visible : (b : ℕ) → is_authority_byte b ≡ true → is_uri_byte b ≡ true
authority_visible b h = grind (arith, nat_tests)

tag_visible : (b : ℕ) → is_tag_byte b ≡ true → is_uri_byte b ≡ true
tag_visible b h = grind (arith, nat_tests)

digit_visible : (b : ℕ) → is_ascii_digit b ≡ true → is_uri_byte b ≡ true
digit_visible b h = grind (arith, nat_tests)

unreserved_visible : (b : ℕ) → is_unreserved b ≡ true → is_uri_byte b ≡ true
unreserved_visible b h = grind (arith, nat_tests)

hex_where : (d : ℕ) (test : Bool) → nat_lt d 10 ≡ test → d < 16 → is_uri_byte (cond test (48 + d) (55 + d)) ≡ true
hex_where d true is h = grind (arith, nat_tests)
hex_where d false is h = grind (arith, nat_tests)

hex_visible : (d : ℕ) → d < 16 → is_uri_byte (upper_hex d) ≡ true
hex_visible d h = hex_where d (nat_lt d 10) refl h

escaped_where : (b : ℕ) (test : Bool) → is_unreserved b ≡ test → b < 256 → IsVisible (cond test (b ∷ []) (37 ∷ upper_hex (b / 16) ∷ upper_hex (b % 16) ∷ []))
escaped_where b true is small = rw (unreserved_visible b is) refl
escaped_where b false is small = rw (hex_visible (b / 16) (omega arith), hex_visible (b % 16) (omega arith)) refl

escaped_is_visible : (id : List ℕ) → AllByRecursion (λ byte. byte < 256) id → IsVisible (escaped id)
unfolding escaped_byte
escaped_is_visible [] small = refl
escaped_is_visible (b ∷ id) small = joined (escaped_byte b) (escaped id) (escaped_where b (is_unreserved b) refl small.0) (escaped_is_visible id small.1)

tag_is_visible : (tag : List ℕ) → IsEntityTag tag → IsVisible tag
tag_is_visible tag is =
    let inner = weaker is_tag_byte tag_visible is.0 is.1 in
    let whole : IsVisible (quoted is.0) = joined (0x22 ∷ is.0) (0x22 ∷ []) (joined (0x22 ∷ []) is.0 refl inner) refl in
    elim is.2 [
      | inl strong ↦ rw strong whole
      | inr weak ↦ rw weak (joined (codes "W/") (quoted is.0) refl whole)
    ]

decimal_is_digits : (n : ℕ) → n < 2 ^ 64 → list_all is_ascii_digit (decimal n) ≡ true
decimal_is_digits n h = all_digits (decimal n) ∙ digits_decimal (numerals_by_value _ tells_all_ascii_digits) n h

kind_visible : (kind : Kind) → IsVisible (collection_path kind)
kind_visible kinds.User = refl
kind_visible kinds.Group = refl

location_is_visible : (authority : List ℕ) (kind : Kind) (id : List ℕ) → list_all is_authority_byte authority ≡ true → AllByRecursion (λ byte. byte < 256) id
    → IsVisible (location_text (base_text authority) kind id)
unfolding location_text
location_is_visible authority kind id lawful small =
    let host = weaker is_authority_byte authority_visible authority lawful in
    let base = joined (codes "http://" ++ authority) (codes "/v2") (joined (codes "http://") authority refl host) refl in
    joined (base_text authority ++ collection_path kind) (escaped id) (joined (base_text authority) (collection_path kind) base (kind_visible kind)) (escaped_is_visible id small)

-- ---- field lines

line_is : (name : List ℕ) (value : Option (List ℕ)) → IsToken name → IfSome value IsVisible → All IsFieldLine (line_with name value)
line_is name None token shows = All-nil IsFieldLine
line_is name (Some value) token shows =
    All-cons IsFieldLine (name, value) [] (IsFieldLine-visible name value token (AllPass-from_list_all is_uri_byte value shows)) (All-nil IsFieldLine)

token : (name : List ℕ) → 0 < length name → list_all is_token_byte name ≡ true → IsToken name
token name some passes = (some, AllPass-from_list_all is_token_byte name passes)

type_visible : (length_ : Option (List ℕ)) → IfSome (stated_type length_) IsVisible
type_visible None = tt
type_visible (Some text) = refl

created_visible : (created : Bool) (location : Option (List ℕ)) → IfSome location IsVisible → IfSome (value_if created location) IsVisible
created_visible true location shows = shows
created_visible false location shows = tt

more : (name : List ℕ) (value : Option (List ℕ)) (rest : List NamedValue) → IsToken name → IfSome value IsVisible → All IsFieldLine rest → All IsFieldLine (line_with name value ++ rest)
more name value rest is shows all = All-append IsFieldLine (line_with name value) rest (line_is name value is shows) all

lines_are : (length_ location tag : Option (List ℕ)) (created : Bool) → IfSome length_ IsVisible → IfSome location IsVisible → IfSome tag IsVisible
    → All IsFieldLine (written_lines (lines_of length_ location tag created))
unfolding is_token_byte
lines_are length_ location tag created long where_ version =
    more (codes "Connection") (Some (codes "close")) _ (token (codes "Connection") (omega arith) refl) refl
    (more (codes "Content-Length") length_ _ (token (codes "Content-Length") (omega arith) refl) long
    (more (codes "Content-Location") location _ (token (codes "Content-Location") (omega arith) refl) where_
    (more (codes "Content-Type") (stated_type length_) _ (token (codes "Content-Type") (omega arith) refl) (type_visible length_)
    (more (codes "ETag") tag _ (token (codes "ETag") (omega arith) refl) version
    (more (codes "Location") (value_if created location) [] (token (codes "Location") (omega arith) refl) (created_visible created location where_) (All-nil IsFieldLine))))))

-- ---- what the judge looks at

no_coding : (length_ location tag : Option (List ℕ)) (created : Bool) → values (codes "transfer-encoding") (written_lines (lines_of length_ location tag created)) ≡ []
no_coding None None None true = refl
no_coding None None None false = refl
no_coding None None (Some t) true = refl
no_coding None None (Some t) false = refl
no_coding None (Some p) None true = refl
no_coding None (Some p) None false = refl
no_coding None (Some p) (Some t) true = refl
no_coding None (Some p) (Some t) false = refl
no_coding (Some l) None None true = refl
no_coding (Some l) None None false = refl
no_coding (Some l) None (Some t) true = refl
no_coding (Some l) None (Some t) false = refl
no_coding (Some l) (Some p) None true = refl
no_coding (Some l) (Some p) None false = refl
no_coding (Some l) (Some p) (Some t) true = refl
no_coding (Some l) (Some p) (Some t) false = refl

its_length : (length_ location tag : Option (List ℕ)) (created : Bool) → values (codes "content-length") (written_lines (lines_of length_ location tag created)) ≡ option_to_list length_
its_length None None None true = refl
its_length None None None false = refl
its_length None None (Some t) true = refl
its_length None None (Some t) false = refl
its_length None (Some p) None true = refl
its_length None (Some p) None false = refl
its_length None (Some p) (Some t) true = refl
its_length None (Some p) (Some t) false = refl
its_length (Some l) None None true = refl
its_length (Some l) None None false = refl
its_length (Some l) None (Some t) true = refl
its_length (Some l) None (Some t) false = refl
its_length (Some l) (Some p) None true = refl
its_length (Some l) (Some p) None false = refl
its_length (Some l) (Some p) (Some t) true = refl
its_length (Some l) (Some p) (Some t) false = refl

few_lines : (length_ location tag : Option (List ℕ)) (created : Bool) → length (written_lines (lines_of length_ location tag created)) ≤ field_limit
few_lines None None None true = omega arith
few_lines None None None false = omega arith
few_lines None None (Some t) true = omega arith
few_lines None None (Some t) false = omega arith
few_lines None (Some p) None true = omega arith
few_lines None (Some p) None false = omega arith
few_lines None (Some p) (Some t) true = omega arith
few_lines None (Some p) (Some t) false = omega arith
few_lines (Some l) None None true = omega arith
few_lines (Some l) None None false = omega arith
few_lines (Some l) None (Some t) true = omega arith
few_lines (Some l) None (Some t) false = omega arith
few_lines (Some l) (Some p) None true = omega arith
few_lines (Some l) (Some p) None false = omega arith
few_lines (Some l) (Some p) (Some t) true = omega arith
few_lines (Some l) (Some p) (Some t) false = omega arith

length_where : (text : List ℕ) (n : ℕ) (test : Bool) → is_length text ≡ test → test ≡ true → digits_value 10 text ≡ n → length_in (text ∷ []) ≡ stated n
length_where text n test is holds value = rw (is ∙ holds) (ap stated value)

decimal_is_length : (n : ℕ) → n ≤ response_body_limit → is_length (decimal n) ≡ true
decimal_is_length n small =
    let short = length-decimal-le 7 n (omega arith) (omega arith) (omega arith) in
    let number = decimal_is_IsNumeral n (omega arith) in
    let some = number.0.0 in
    both (nat_lt 0 (length (decimal n))) (nat_le (length (decimal n)) 18 && list_all is_ascii_digit (decimal n)) (grind (arith, nat_tests))
    (both (nat_le (length (decimal n)) 18) (list_all is_ascii_digit (decimal n)) (grind (arith, nat_tests)) (decimal_is_digits n (omega arith)))

stated_decimal : (n : ℕ) → n ≤ response_body_limit → length_in (decimal n ∷ []) ≡ stated n
stated_decimal n small =
    let number = decimal_is_IsNumeral n (omega arith) in
    length_where (decimal n) n (is_length (decimal n)) refl (decimal_is_length n small) number.1

abbrev judged : Length → Bool → Bool → List (List ℕ) → Result ℕ ReadFault
judged l a b found =
    refused_where a (Malformed false) >>= (λ _. refused_where (is_any found && not (is_chunked_alone found)) (Malformed false)
    >>= (λ _. readable_length false l >>= (λ length_. response_length b (is_chunked_alone found) length_)))

-- a head with a stated length within the limit and an ordinary status is followed by that length
accepted : (n status : ℕ) → n ≤ response_body_limit → 200 ≤ status → is_bodiless status ≡ false
    → (l : Length) → l ≡ stated n → (found : List (List ℕ)) → found ≡ [] → judged l (is_no_status status) (is_bodiless status) found ≡ Ok n
accepted n status small high other l is found none =
    let test : is_no_status status ≡ false = grind (arith, nat_tests) in
    let fits : nat_lt response_body_limit n ≡ false = grind (arith, nat_tests) in
    rw (test, none, is, other, fits) refl

no_chunks : (bodiless : Bool) (found : List (List ℕ)) → found ≡ [] → (not bodiless && is_chunked_alone found) ≡ false
no_chunks true found none = refl
no_chunks false found none = ap is_chunked_alone none

-- an answer with a body
bodied : (status : ℕ) (location tag : Option (List ℕ)) (created : Bool) (body : List ℕ) → 200 ≤ status → status < 1000 → is_bodiless status ≡ false
    → IfSome location IsVisible → IfSome tag IsVisible → length body ≤ response_body_limit
    → length (response_text status (written_lines (lines_of (Some (decimal (length body))) location tag created)) body) ≤ head_limit + length body
    → IsResponseMessage (response_text status (written_lines (lines_of (Some (decimal (length body))) location tag created)) body)
    (record { head = record { start = status_line 1 status; fields = written_lines (lines_of (Some (decimal (length body))) location tag created) }; body = body })
bodied status location tag created body low high other where_ version small size =
    let n = length body in
    let long = Some (decimal n) in
    let lines = written_lines (lines_of long location tag created) in
    let digits = weaker is_ascii_digit digit_visible (decimal n) (decimal_is_digits n (omega arith)) in
    let l : length_in (values (codes "content-length") lines) ≡ stated n = ap length_in (its_length long location tag created) ∙ stated_decimal n small in
    let states : n ≡ cond (is_bodiless status) 0 (body_length (length_in (values (codes "content-length") lines))) = rw (other, l) refl in
    let coding = no_coding long location tag created in
    let last : nat_lt status 200 ≡ false = grind (arith, nat_tests) in
    stated_is_response _ _ (no_chunks (is_bodiless status) (values (codes "transfer-encoding") lines) coding) last
    (texts.texts_are_read.response status lines body (omega (arith, low), high) (lines_are long location tag created digits where_ version) size (few_lines long location tag created) states)
    (n, accepted n status small low other (length_in (values (codes "content-length") lines)) l (values (codes "transfer-encoding") lines) coding)

-- 304 has none
bodiless : (location tag : Option (List ℕ)) → IfSome location IsVisible → IfSome tag IsVisible
    → length (response_text 304 (written_lines (lines_of None location tag false)) []) ≤ head_limit + 0
    → IsResponseMessage (response_text 304 (written_lines (lines_of None location tag false)) [])
    (record { head = record { start = status_line 1 304; fields = written_lines (lines_of None location tag false) }; body = [] })
bodiless location tag where_ version size =
    let lines = written_lines (lines_of None location tag false) in
    let found = its_length None location tag false in
    let coding = no_coding None location tag false in
    stated_is_response _ _ (no_chunks (is_bodiless 304) (values (codes "transfer-encoding") lines) coding) refl
    (texts.texts_are_read.response 304 lines [] (omega arith, omega arith) (lines_are None location tag false tt where_ version) size (few_lines None location tag false) refl)
    (0, λ i. judged (length_in (found i)) (is_no_status 304) (is_bodiless 304) (coding i))

shown_tag_visible : (version : Option (List ℕ)) → IfSome version IsEntityTag → IfSome version IsVisible
shown_tag_visible None is = tt
shown_tag_visible (Some tag) is = tag_is_visible tag is

status_is_other : (status : ℕ) → 400 ≤ status → is_bodiless status ≡ false
status_is_other status low = grind (arith, nat_tests)

pub answers_are_responses : AnswersAreResponses
answers_are_responses authority (Created shown) lawful parts size small =
    bodied 201 (Some (location_text (base_text authority) (content_kind shown.content) shown.id)) shown.version true (body_text (base_text authority) (Created shown)) (omega arith) (omega arith) refl
    (location_is_visible authority (content_kind shown.content) shown.id lawful parts.0) (shown_tag_visible shown.version parts.1) small size
answers_are_responses authority (Found shown) lawful parts size small =
    bodied 200 (Some (location_text (base_text authority) (content_kind shown.content) shown.id)) shown.version false (body_text (base_text authority) (Found shown)) (omega arith) (omega arith) refl
    (location_is_visible authority (content_kind shown.content) shown.id lawful parts.0) (shown_tag_visible shown.version parts.1) small size
answers_are_responses authority (Replaced shown) lawful parts size small =
    bodied 200 (Some (location_text (base_text authority) (content_kind shown.content) shown.id)) shown.version false (body_text (base_text authority) (Replaced shown)) (omega arith) (omega arith) refl
    (location_is_visible authority (content_kind shown.content) shown.id lawful parts.0) (shown_tag_visible shown.version parts.1) small size
answers_are_responses authority (answers.List list) lawful parts size small =
    bodied 200 None None false (body_text (base_text authority) (answers.List list)) (omega arith) (omega arith) refl tt tt small size
answers_are_responses authority (NotModified kind id version) lawful parts size small =
    bodiless (Some (location_text (base_text authority) kind id)) (Some version)
    (location_is_visible authority kind id lawful parts.0) (tag_is_visible version parts.1) size
answers_are_responses authority (Error error) lawful parts size small =
    let low = parts.0 in
    let high = parts.1 in
    bodied error.status None None false (body_text (base_text authority) (Error error)) (omega arith) (omega arith) (status_is_other error.status low) tt tt small size
