-- What a judged head says.
use Rattle.std.proofs.Common.{◌≡◌, ℕ, Bool, true, false, cond, not, ◌&&◌, Option, Some, None, Result, Ok, Err, refl}
use Rattle.std.specs.Prelude.{IfOk, IfErr, if◌then◌else◌, nat_lt, codes, ⊤}
use Rattle.std.proofs.lemmas.Result.{IfOk-at_ok, IfErr-at_err}
use Rattle.http_text.specs.declared.fault.ReadFault.{ReadFault}
use Rattle.http_text.specs.declared.fault.ReadFault.TheVariants.{Malformed, HostMissingOrRepeated, LengthMissing, BodyTooLong, HeadTooLong, TransferCoding, Expectation, EndedEarly, ReadFailed, OutOfMemory, TurnsExhausted}
use Rattle.http_text.specs.Message.{Head, minor_of, code_of, values, Length, absent, stated, unreadable, length_of, body_length, body_limit, response_body_limit}
use Rattle.http_text.specs.Judging.{◌>>=◌, refused_where, readable_length, length_wanted, is_head, has_body, is_host_wrong, is_any, judge_head, codings, is_chunked_alone, is_bodiless, is_no_status, has_chunks, response_length, judge_response}

-- a refusal by the head
abbrev pub IsHeadFault : ReadFault → Type 0
IsHeadFault (Malformed is_head) = ⊤
IsHeadFault (HostMissingOrRepeated is_head) = ⊤
IsHeadFault (LengthMissing is_head) = ⊤
IsHeadFault (BodyTooLong is_head) = ⊤
IsHeadFault (HeadTooLong is_head) = ⊥
IsHeadFault (TransferCoding is_head) = ⊤
IsHeadFault (Expectation is_head) = ⊤
IsHeadFault EndedEarly = ⊥
IsHeadFault ReadFailed = ⊥
IsHeadFault OutOfMemory = ⊥
IsHeadFault TurnsExhausted = ⊥

limit_fault : (b h : Bool) (n : ℕ) → IfErr (let r : Result ℕ ReadFault = cond b (Err (BodyTooLong h)) (Ok n) in r) IsHeadFault
limit_fault true h n = tt
limit_fault false h n = tt

wanted_fault : (w h : Bool) (length : Option ℕ) → IfErr (length_wanted w h length) IsHeadFault
wanted_fault true h None = tt
wanted_fault false h None = tt
wanted_fault true h (Some n) = limit_fault (nat_lt body_limit n) h n
wanted_fault false h (Some n) = limit_fault (nat_lt body_limit n) h n

-- the steps of judging, whatever they test
abbrev judged : Length → Bool → Bool → Bool → Bool → Bool → ReadFault → ReadFault → ReadFault → Result ℕ ReadFault
judged l a b c w h f g e = readable_length h l >>= (λ length. refused_where a f >>= (λ _. refused_where b g >>= (λ _. refused_where c e >>= (λ _. length_wanted w h length))))

refused : (a b c w h : Bool) (f g e : ReadFault) → IsHeadFault f → IsHeadFault g → IsHeadFault e → (length : Option ℕ)
    → IfErr (refused_where a f >>= (λ _. refused_where b g >>= (λ _. refused_where c e >>= (λ _. length_wanted w h length)))) IsHeadFault
refused true b c w h f g e x y z length = x
refused false true c w h f g e x y z length = y
refused false false true w h f g e x y z length = z
refused false false false w h f g e x y z length = wanted_fault w h length

faults : (l : Length) (a b c w h : Bool) (f g e : ReadFault) → IsHeadFault f → IsHeadFault g → IsHeadFault e → IfErr (judged l a b c w h f g e) IsHeadFault
faults absent a b c w h f g e x y z = refused a b c w h f g e x y z None
faults (stated n) a b c w h f g e x y z = refused a b c w h f g e x y z (Some n)
faults unreadable a b c w h f g e x y z = tt

abbrev host_wrong : Head → Bool
host_wrong head = is_host_wrong (minor_of head.start) (values (codes "host") head.fields)

abbrev coded : Head → Bool
coded head = is_any (values (codes "transfer-encoding") head.fields)

abbrev expects : Head → Bool
expects head = is_any (values (codes "expect") head.fields)

judge_faults : (head : Head) → IfErr (judge_head head) IsHeadFault
judge_faults head = faults (length_of head) (host_wrong head) (coded head) (expects head) (has_body head) (is_head head) (HostMissingOrRepeated (is_head head)) (TransferCoding (is_head head)) (Expectation (is_head head)) tt tt tt

-- a head is refused by a refusal of heads
pub judged_fault : (head : Head) (fault : ReadFault) → judge_head head ≡ Err fault → IsHeadFault fault
judged_fault head fault e = IfErr-at_err IsHeadFault e (judge_faults head)

limit_length : (b h : Bool) (n : ℕ) → IfOk (let r : Result ℕ ReadFault = cond b (Err (BodyTooLong h)) (Ok n) in r) (λ k. k ≡ n)
limit_length true h n = tt
limit_length false h n = refl

wanted_length : (w h : Bool) (n : ℕ) → IfOk (length_wanted w h (Some n)) (λ k. k ≡ n)
wanted_length true h n = limit_length (nat_lt body_limit n) h n
wanted_length false h n = limit_length (nat_lt body_limit n) h n

wanted_none : (w h : Bool) → IfOk (length_wanted w h None) (λ k. k ≡ 0)
wanted_none true h = tt
wanted_none false h = refl

accepted : (l : Length) (a b c w h : Bool) (f g e : ReadFault) → IfOk (judged l a b c w h f g e) (λ n. n ≡ body_length l)
accepted absent true b c w h f g e = tt
accepted absent false true c w h f g e = tt
accepted absent false false true w h f g e = tt
accepted absent false false false w h f g e = wanted_none w h
accepted (stated n) true b c w h f g e = tt
accepted (stated n) false true c w h f g e = tt
accepted (stated n) false false true w h f g e = tt
accepted (stated n) false false false w h f g e = wanted_length w h n
accepted unreadable a b c w h f g e = tt

-- an accepted head is followed by as many bytes as it states
pub accepted_length : (head : Head) (n : ℕ) → judge_head head ≡ Ok n → n ≡ body_length (length_of head)
accepted_length head n e =
    IfOk-at_ok (λ k. k ≡ body_length (length_of head)) e (accepted (length_of head) (host_wrong head) (coded head) (expects head) (has_body head) (is_head head) (HostMissingOrRepeated (is_head head)) (TransferCoding (is_head head)) (Expectation (is_head head)))

-- ---- responses

response_fault : (b k : Bool) (length : Option ℕ) → IfErr (response_length b k length) IsHeadFault
response_fault b true None = tt
response_fault b true (Some n) = tt
response_fault true false length = tt
response_fault false false None = tt
response_fault false false (Some n) = limit_fault (nat_lt response_body_limit n) false n

abbrev judged_response : Length → Bool → Bool → Bool → Bool → Result ℕ ReadFault
judged_response l a b c k = refused_where a (Malformed false) >>= (λ _. refused_where b (Malformed false) >>= (λ _. readable_length false l >>= (λ length. response_length c k length)))

response_faults : (l : Length) (a b c k : Bool) → IfErr (judged_response l a b c k) IsHeadFault
response_faults l true b c k = tt
response_faults l false true c k = tt
response_faults absent false false c k = response_fault c k None
response_faults (stated n) false false c k = response_fault c k (Some n)
response_faults unreadable false false c k = tt

abbrev coded_otherwise : Head → Bool
coded_otherwise head = is_any (codings head) && not (is_chunked_alone (codings head))

pub response_judged_fault : (head : Head) (fault : ReadFault) → judge_response head ≡ Err fault → IsHeadFault fault
response_judged_fault head fault e =
    IfErr-at_err IsHeadFault e
    (response_faults (length_of head) (is_no_status (code_of head.start)) (coded_otherwise head) (is_bodiless (code_of head.start)) (is_chunked_alone (codings head)))

response_accepted : (l : Length) (a b c k : Bool) → IfOk (judged_response l a b c k) (λ n. n ≡ (if c then 0 else body_length l))
response_accepted l true b c k = tt
response_accepted l false true c k = tt
response_accepted absent false false true true = refl
response_accepted absent false false false true = refl
response_accepted absent false false true false = refl
response_accepted absent false false false false = tt
response_accepted (stated n) false false c true = tt
response_accepted (stated n) false false true false = refl
response_accepted (stated n) false false false false = limit_length (nat_lt response_body_limit n) false n
response_accepted unreadable false false c k = tt

pub response_accepted_length : (head : Head) (n : ℕ) → judge_response head ≡ Ok n → n ≡ (if is_bodiless (code_of head.start) then 0 else body_length (length_of head))
response_accepted_length head n e =
    IfOk-at_ok (λ k. k ≡ (if is_bodiless (code_of head.start) then 0 else body_length (length_of head))) e
    (response_accepted (length_of head) (is_no_status (code_of head.start)) (coded_otherwise head) (is_bodiless (code_of head.start)) (is_chunked_alone (codings head)))

-- chunks follow an accepted head that states no length
chunks_length : (l : Length) (a b c k : Bool) (n : ℕ) → (not c && k) ≡ true → judged_response l a b c k ≡ Ok n → n ≡ 0
chunks_length l true b c k n chunks e = cc
chunks_length l false true c k n chunks e = cc
chunks_length unreadable false false c k n chunks e = cc
chunks_length absent false false true k n chunks e = cc
chunks_length absent false false false false n chunks e = cc
chunks_length absent false false false true n chunks e = cc
chunks_length (stated m) false false true k n chunks e = cc
chunks_length (stated m) false false false false n chunks e = cc
chunks_length (stated m) false false false true n chunks e = cc

pub response_chunks_length : (head : Head) (n : ℕ) → has_chunks head ≡ true → judge_response head ≡ Ok n → n ≡ 0
response_chunks_length head n chunks e =
    chunks_length (length_of head) (is_no_status (code_of head.start)) (coded_otherwise head) (is_bodiless (code_of head.start)) (is_chunked_alone (codings head)) n chunks e
