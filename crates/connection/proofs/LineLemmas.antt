-- A whole head ends with an empty line that isn't among the first ones.
use Rattle.std.proofs.Common.{inl, inr, ◌⊎◌, ◌+◌, ◌≡◌, ℕ, ◌-◌, zero, suc, ◌<◌, Bool, true, false, List, [], ◌∷◌, ◌++◌, length, take, drop, get_or, refl, sym, ap, subst, ◌∙◌, append_assoc, arith}
use Rattle.std.specs.Prelude.{◌==◌, ◌||◌, if◌then◌else◌, ⊤}
use Rattle.std.specs.List.{flat_map}
use Rattle.std.proofs.lemmas.Bool.{eqb-true}
use Rattle.std.proofs.lemmas.List.{length-drop, take-append-drop, take_all, take_more}
use Rattle.std.proofs.lemmas.List.Elements.{All-head}
use Rattle.httparse.specs.Ascii.{colon, space}
use Rattle.httparse.specs.Grammar.{IsRequestHead, IsToken, Field, RequestHead, LineEnd, crlf, lf, is_token_byte, print_blank, print_end, print_field, print_request, print_section, print_version}
use Rattle.http_text.specs.Forms.{request_form}
use Rattle.http_text.specs.Heads.{HasNone, IsPartOfBody}
use Rattle.http_text.proofs.FormLaws.{request_laws}
use Rattle.connection.specs.Lines.{line_after, lines_after}
use Rattle.connection.specs.declared.lines.HeadLines.{HeadLines}
use Rattle.connection.specs.declared.lines.HeadLines.TheVariants.{Blank, Inside, Start, Return, Ended}

-- ---- some bytes, and then others

pub lines_append : (l : HeadLines) (xs ys : List ℕ) → lines_after l (xs ++ ys) ≡ lines_after (lines_after l xs) ys
lines_append l [] ys = refl
lines_append l (x ∷ xs) ys = lines_append (line_after l x) xs ys

pub ended : (xs : List ℕ) → lines_after Ended xs ≡ Ended
ended [] = refl
ended (x ∷ xs) = ended xs

-- ---- bytes that change nothing

false_of : (b : Bool) → ((b ≡ true) → ⊥) → b ≡ false
false_of true never = absurd (never refl)
false_of false never = refl

-- within a line, as long as it doesn't end
pub inside_stays : (xs : List ℕ) (n : ℕ) → ((k : ℕ) → k < n → (get_or xs k 0 == 10 ≡ true) → ⊥) → lines_after Inside (take n xs) ≡ Inside
inside_stays xs zero none = refl
inside_stays [] (suc n) none = refl
inside_stays (x ∷ xs) (suc n) none =
    let other : (x == 10) ≡ false = false_of (x == 10) (none zero (omega arith)) in
    ap (λ (t : Bool). lines_after (if t then Start else Inside) (take n xs)) other
    ∙ inside_stays xs n (λ k below. none (suc k) (omega (arith, below)))

-- one more line end before the first line
pub blank_stays_by : (xs : List ℕ) (n : ℕ) → n < length xs → lines_after Blank (take n xs) ≡ Blank
    → (get_or xs n 0 ≡ 10) ⊎ (get_or xs n 0 ≡ 13) → lines_after Blank (take (n + 1) xs) ≡ Blank
blank_stays_by xs n there before is =
    ap (lines_after Blank) (take_more xs n 0 there)
    ∙ lines_append Blank (take n xs) (get_or xs n 0 ∷ [])
    ∙ ap (λ (l : HeadLines). line_after l (get_or xs n 0)) before
    ∙ elim is [
      | inl feed ↦ ap (line_after Blank) feed
      | inr return ↦ ap (line_after Blank) return
    ]

-- a slice up to the end
pub to_the_end : (n : ℕ) (xs : List ℕ) → take (length xs - n) (drop n xs) ≡ drop n xs
to_the_end n xs = take_all (length xs - n) (drop n xs) (omega (arith, length-drop n xs))

-- bytes behind some that change nothing
pub unchanged_before : (l : HeadLines) (n : ℕ) (xs : List ℕ) → lines_after l (take n xs) ≡ l → lines_after l xs ≡ lines_after l (drop n xs)
unchanged_before l n xs same =
    ap (lines_after l) (sym (take-append-drop n xs)) ∙ lines_append l (take n xs) (drop n xs)
    ∙ ap (λ (reached : HeadLines). lines_after reached (drop n xs)) same

-- ---- a line has begun

abbrev Begun : HeadLines → Type 0
Begun Blank = ⊥
Begun Inside = ⊤
Begun Start = ⊤
Begun Return = ⊤
Begun Ended = ⊤

inside_begun : (t : Bool) → Begun (if t then Start else Inside)
inside_begun true = tt
inside_begun false = tt

start_begun : (t u : Bool) → Begun (if t then Ended else (if u then Return else Inside))
start_begun true u = tt
start_begun false true = tt
start_begun false false = tt

return_begun : (t : Bool) → Begun (if t then Ended else Inside)
return_begun true = tt
return_begun false = tt

begun_more : (l : HeadLines) (x : ℕ) → Begun l → Begun (line_after l x)
begun_more Blank x b = absurd b
begun_more Inside x b = inside_begun (x == 10)
begun_more Start x b = start_begun (x == 10) (x == 13)
begun_more Return x b = return_begun (x == 10)
begun_more Ended x b = tt

begun_all : (xs : List ℕ) (l : HeadLines) → Begun l → Begun (lines_after l xs)
begun_all [] l b = b
begun_all (x ∷ xs) l b = begun_all xs (line_after l x) (begun_more l x b)

-- a method begins a line
is_no_end : (end c : ℕ) (t : Bool) → is_token_byte end ≡ false → (c == end) ≡ t → is_token_byte c ≡ true → t ≡ false
is_no_end end c false other e token = refl
is_no_end end c true other e token =
    let is : c ≡ end = eqb-true c end e in
    let clash : is_token_byte end ≡ true = subst (λ (k : ℕ). is_token_byte k ≡ true) is token in
    absurd (let never : true ≡ false = sym clash ∙ other in cc)

blank_begun : (t u : Bool) → t ≡ false → u ≡ false → Begun (if t || u then Blank else Inside)
blank_begun true u e f = absurd (let never : true ≡ false = e in cc)
blank_begun false true e f = absurd (let never : true ≡ false = f in cc)
blank_begun false false e f = tt

no_line_feed : is_token_byte 10 ≡ false
unfolding is_token_byte
no_line_feed = refl

no_return : is_token_byte 13 ≡ false
unfolding is_token_byte
no_return = refl

method_begins : (method : List ℕ) → IsToken method → Begun (lines_after Blank method)
method_begins [] token = absurd (let none : 0 < 0 = token.0 in omega (arith, none))
method_begins (c ∷ method) token =
    let first : is_token_byte c ≡ true = All-head (λ (byte : ℕ). is_token_byte byte ≡ true) c method token.1 in
    begun_all method (line_after Blank c)
    (blank_begun (c == 10) (c == 13) (is_no_end 10 c (c == 10) no_line_feed refl first) (is_no_end 13 c (c == 13) no_return refl first))

blank_stays : (ends : List LineEnd) → lines_after Blank (print_blank ends) ≡ Blank
blank_stays [] = refl
blank_stays (crlf ∷ ends) = blank_stays ends
blank_stays (lf ∷ ends) = blank_stays ends

-- ---- after a line end, and at the end of a head

abbrev AtLine : HeadLines → Type 0
AtLine Blank = ⊥
AtLine Inside = ⊥
AtLine Start = ⊤
AtLine Return = ⊥
AtLine Ended = ⊤

at_begun : (l : HeadLines) → AtLine l → Begun l
at_begun Blank at = absurd at
at_begun Inside at = absurd at
at_begun Start at = tt
at_begun Return at = absurd at
at_begun Ended at = tt

-- whatever line has begun, another begins after these bytes
abbrev Lands : List ℕ → Type 0
Lands xs = (l : HeadLines) → Begun l → AtLine (lines_after l xs)

end_lands : (end : LineEnd) → Lands (print_end end)
end_lands end Blank b = absurd b
end_lands crlf Inside b = tt
end_lands lf Inside b = tt
end_lands crlf Start b = tt
end_lands lf Start b = tt
end_lands crlf Return b = tt
end_lands lf Return b = tt
end_lands crlf Ended b = tt
end_lands lf Ended b = tt

lands_after : (xs ys : List ℕ) → Lands ys → Lands (xs ++ ys)
lands_after xs ys lands l b = subst AtLine (sym (lines_append l xs ys)) (lands (lines_after l xs) (begun_all xs l b))

field_lands : (f : Field) → Lands (print_field f)
field_lands f = lands_after (f.name ++ colon ∷ f.raw) (print_end f.end) (end_lands f.end)

last_ends : (last : LineEnd) (l : HeadLines) → AtLine l → lines_after l (print_end last) ≡ Ended
last_ends last Blank at = absurd at
last_ends last Inside at = absurd at
last_ends crlf Start at = refl
last_ends lf Start at = refl
last_ends last Return at = absurd at
last_ends crlf Ended at = refl
last_ends lf Ended at = refl

section_ends : (fields : List Field) (last : LineEnd) (l : HeadLines) → AtLine l → lines_after l (print_section fields last) ≡ Ended
section_ends [] last l at = last_ends last l at
section_ends (f ∷ fields) last l at =
    ap (lines_after l) (append_assoc (print_field f) (flat_map print_field fields) (print_end last))
    ∙ lines_append l (print_field f) (print_section fields last)
    ∙ section_ends fields last (lines_after l (print_field f)) (field_lands f l (at_begun l at))

begun_append : (xs ys : List ℕ) → Begun (lines_after Blank xs) → Begun (lines_after Blank (xs ++ ys))
begun_append xs ys b = subst Begun (sym (lines_append Blank xs ys)) (begun_all ys (lines_after Blank xs) b)

head_ends : (h : RequestHead) → IsRequestHead h → lines_after Blank (print_request h) ≡ Ended
unfolding print_request
head_ends h is =
    let first : List ℕ = print_blank h.blank ++ h.method in
    let front : List ℕ = (first ++ space ∷ h.target) ++ space ∷ print_version h.minor in
    let line : List ℕ = front ++ print_end h.line_end in
    let begins : Begun (lines_after Blank first) =
    subst Begun (sym (lines_append Blank (print_blank h.blank) h.method ∙ ap (λ (l : HeadLines). lines_after l h.method) (blank_stays h.blank)))
    (method_begins h.method is.method) in
    let within : Begun (lines_after Blank front) =
    begun_append (first ++ space ∷ h.target) (space ∷ print_version h.minor) (begun_append first (space ∷ h.target) begins) in
    let at : AtLine (lines_after Blank line) =
    subst AtLine (sym (lines_append Blank front (print_end h.line_end))) (end_lands h.line_end (lines_after Blank front) within) in
    lines_append Blank line (print_section h.fields h.last) ∙ section_ends h.fields h.last (lines_after Blank line) at

-- without an empty line behind a first line no head is whole
pub no_head : (bytes : List ℕ) → ((lines_after Blank bytes ≡ Ended) → ⊥) → HasNone request_form bytes
no_head bytes goes_on h rest reads =
    goes_on (ap (lines_after Blank) reads.1
    ∙ lines_append Blank (print_request h) rest
    ∙ ap (λ (l : HeadLines). lines_after l rest) (head_ends h reads.0)
    ∙ ended rest)

pub no_body : (bytes : List ℕ) → ((lines_after Blank bytes ≡ Ended) → ⊥) → ¬ (IsPartOfBody request_form bytes)
no_body bytes goes_on part =
    let head = part.is_head in
    no_head bytes goes_on head.tree part.part
    (subst (λ (t : List ℕ). request_form.Reads t head.tree part.part) (sym part.split) (request_laws.append part.front head.tree [] part.part head.reads))
