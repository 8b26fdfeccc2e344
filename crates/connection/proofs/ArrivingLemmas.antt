-- What is known of a request while its bytes arrive.
use Rattle.std.proofs.Common.{◌≡◌, ◌↔◌, ℕ, ◌+◌, ◌-◌, ◌*◌, ◌<◌, ◌≤◌, inl, inr, Bool, true, false, cond, List, [], ◌++◌, length, take, drop, Option, Some, None, Result, Ok, Err, refl, sym, ap, subst, ◌∙◌, append_assoc, append-nil, arith, length-append}
use Rattle.std.specs.Prelude.{IfOk, IfSome, if◌then◌else◌, not, nat_lt, codes}
use Rattle.std.proofs.lemmas.Bool.{false≢true}
use Rattle.std.proofs.lemmas.Bool.Decides.{nat_tests}
use Rattle.std.proofs.lemmas.Result.{IfOk-at_ok}
use Rattle.std.proofs.lemmas.List.{take-append-drop, length-take-le}
use Rattle.http_text.specs.declared.fault.ReadFault.{ReadFault}
use Rattle.http_text.specs.declared.fault.ReadFault.TheVariants.{Malformed, HostMissingOrRepeated, BodyTooLong, TransferCoding, Expectation}
use Rattle.http_text.specs.Message.{Head, Message, Length, absent, stated, unreadable, minor_of, values, length_of, body_limit, head_limit}
use Rattle.http_text.specs.Judging.{◌>>=◌, refused_where, readable_length, length_wanted, is_head, has_body, is_host_wrong, is_any, judge_head}
use Rattle.http_text.specs.Forms.{request_form}
use Rattle.http_text.specs.Heads.{IsPartOfBody, IsUnfinished, FindsMessage, TakesMessage}
use Rattle.http_text.proofs.FormLaws.{request_laws}
use Rattle.http_text.proofs.JudgeLemmas.{accepted_length}
use Rattle.http_text.proofs.ListLemmas.{front_of}
use Rattle.connection.specs.Arriving.{HasLength, AreUndecided, IsPutOff, Waits}
use Rattle.connection.specs.Lines.{lines_after}
use Rattle.connection.specs.declared.lines.HeadLines.{HeadLines}
use Rattle.connection.specs.declared.lines.HeadLines.TheVariants.{Blank, Ended}
use Rattle.connection.proofs.LineLemmas.{lines_append, no_head}

-- ---- a head that isn't refused states at most the longest body

limit_within : (b h : Bool) (n : ℕ) → nat_lt body_limit n ≡ b
    → IfOk (let r : Result ℕ ReadFault = cond b (Err (BodyTooLong h)) (Ok n) in r) (λ k. k ≤ body_limit)
limit_within true h n e = tt
limit_within false h n e = grind (arith, nat_tests)

wanted_within : (w h : Bool) (n : Option ℕ) → IfOk (length_wanted w h n) (λ k. k ≤ body_limit)
wanted_within true h None = tt
wanted_within false h None = omega arith
wanted_within true h (Some n) = limit_within (nat_lt body_limit n) h n refl
wanted_within false h (Some n) = limit_within (nat_lt body_limit n) h n refl

abbrev judged : Length → Bool → Bool → Bool → Bool → Bool → ReadFault → ReadFault → ReadFault → Result ℕ ReadFault
judged l a b c w h f g e = readable_length h l >>= (λ length. refused_where a f >>= (λ _. refused_where b g >>= (λ _. refused_where c e >>= (λ _. length_wanted w h length))))

within : (l : Length) (a b c w h : Bool) (f g e : ReadFault) → IfOk (judged l a b c w h f g e) (λ n. n ≤ body_limit)
within absent true b c w h f g e = tt
within absent false true c w h f g e = tt
within absent false false true w h f g e = tt
within absent false false false w h f g e = wanted_within w h None
within (stated n) true b c w h f g e = tt
within (stated n) false true c w h f g e = tt
within (stated n) false false true w h f g e = tt
within (stated n) false false false w h f g e = wanted_within w h (Some n)
within unreadable a b c w h f g e = tt

stated_within : (head : Head) (n : ℕ) → judge_head head ≡ Ok n → n ≤ body_limit
stated_within head n e =
    IfOk-at_ok (λ k. k ≤ body_limit) e (within (length_of head) (is_host_wrong (minor_of head.start) (values (codes "host") head.fields))
    (is_any (values (codes "transfer-encoding") head.fields)) (is_any (values (codes "expect") head.fields)) (has_body head) (is_head head)
    (HostMissingOrRepeated (is_head head)) (TransferCoding (is_head head)) (Expectation (is_head head)))

-- ---- a part of a body becomes a message if more bytes follow

regroup : (a b more : List ℕ) (n : ℕ) → (a ++ b) ++ more ≡ (a ++ (b ++ take n more)) ++ drop n more
regroup a b more n =
    append_assoc a b more
    ∙ ap (λ (t : List ℕ). a ++ (b ++ t)) (sym (take-append-drop n more))
    ∙ sym (append_assoc a (b ++ take n more) (drop n more) ∙ ap (λ (t : List ℕ). a ++ t) (append_assoc b (take n more) (drop n more)))

filled : (part more : List ℕ) (n : ℕ) → length part < n → n ≤ length more → length (part ++ take (n - length part) more) ≡ n
filled part more n short room =
    let taken : length (take (n - length part) more) ≡ n - length part = length-take-le (n - length part) more (omega (arith, short, room)) in
    let both : length (part ++ take (n - length part) more) ≡ length part + length (take (n - length part) more) = length-append part (take (n - length part) more) in
    omega (arith, taken, both, short)

-- what is malformed with the longest body behind it has no whole head
pub no_body : (bytes more : List ℕ) (old left : Option (List ℕ)) (fault : ReadFault) (is_head : Bool) → old ≡ Some (bytes ++ more) → body_limit ≤ length more
    → fault ≡ Malformed is_head → FindsMessage request_form old left (Err fault) → ¬ (IsPartOfBody request_form bytes)
no_body bytes more old left fault is_head is room malformed found part =
    let finds = subst (λ (f : ReadFault). FindsMessage request_form old left (Err f)) malformed found in
    let within : part.stated ≤ body_limit = stated_within part.head part.stated part.accepted in
    let count = part.stated - length part.part in
    let body = part.part ++ take count more in
    finds (part.front ++ body) (drop count more) (record { head = part.head; body = body })
    (is ∙ ap Some (ap (λ (t : List ℕ). t ++ more) part.split ∙ regroup part.front part.part more count))
    (record {
      front = part.front;
      head = part.is_head;
      split = refl;
      body = filled part.part more part.stated part.short (omega (arith, within, room)) ∙ accepted_length part.head part.stated part.accepted;
    })
    (part.stated, part.accepted)

-- a message that was read says how long it is
has_length : (bytes more rest : List ℕ) (old left : Option (List ℕ)) (m : Message) (whole : ℕ)
    → old ≡ Some (bytes ++ more) → left ≡ Some rest → TakesMessage request_form old left m
    → whole ≡ length (bytes ++ more) - length rest → whole - length m.body ≤ length bytes → HasLength bytes whole
has_length bytes more rest old left m whole is left_is takes whole_is head_within =
    let read = subst (λ now. TakesMessage request_form now (Some rest) m) is (subst (λ now. TakesMessage request_form old now m) left_is takes) in
    let message = read.2 in
    let split : bytes ++ more ≡ message.front ++ (m.body ++ rest) =
    read.1 ∙ ap (λ (t : List ℕ). t ++ rest) message.split ∙ append_assoc message.front m.body rest in
    let sizes : length (bytes ++ more) ≡ length message.front + length (m.body ++ rest) = ap length split ∙ length-append message.front (m.body ++ rest) in
    let after : length (m.body ++ rest) ≡ length m.body + length rest = length-append m.body rest in
    let parts = front_of message.front (m.body ++ rest) bytes more (sym split) (omega (arith, whole_is, head_within, sizes, after)) in
    let stated : read.3.0 ≡ length m.body = accepted_length m.head read.3.0 read.3.1 ∙ sym message.body in
    record {
      front = message.front;
      part = parts.0;
      head = m.head;
      stated = read.3.0;
      is_head = message.head;
      split = parts.1;
      accepted = read.3.1;
      whole_is = omega (arith, whole_is, sizes, after, stated);
    }

pub length_found : (bytes more : List ℕ) (old left : Option (List ℕ)) (m : Message) (whole count : ℕ)
    → old ≡ Some (bytes ++ more) → ((rest : List ℕ) → left ≡ Some rest → count ≡ length rest) → TakesMessage request_form old left m
    → whole ≡ length (bytes ++ more) - count → whole - length m.body ≤ length bytes → HasLength bytes whole
length_found bytes more old None m whole count is left_is takes whole_is head_within =
    absurd (subst (λ now. TakesMessage request_form now None m) is takes).1
length_found bytes more old (Some rest) m whole count is left_is takes whole_is head_within =
    has_length bytes more rest old (Some rest) m whole is refl takes (whole_is ∙ ap (λ (n : ℕ). length (bytes ++ more) - n) (left_is rest refl)) head_within

-- ---- more bytes come

length_stays : (bytes more : List ℕ) (whole : ℕ) → HasLength bytes whole → HasLength (bytes ++ more) whole
length_stays bytes more whole has = record {
  front = has.front;
  part = has.part ++ more;
  head = has.head;
  stated = has.stated;
  is_head = has.is_head;
  split = ap (λ (t : List ℕ). t ++ more) has.split ∙ append_assoc has.front has.part more;
  accepted = has.accepted;
  whole_is = has.whole_is;
}

lengths_stay : (bytes more : List ℕ) (whole : Option ℕ) → IfSome whole (HasLength bytes) → IfSome whole (HasLength (bytes ++ more))
lengths_stay bytes more None has = tt
lengths_stay bytes more (Some whole) has = length_stays bytes more whole has

undecided_stays : (bytes more : List ℕ) (count : ℕ) → AreUndecided bytes count → AreUndecided (bytes ++ more) count
undecided_stays bytes more count has = record {
  front = has.front;
  more = has.more ++ more;
  split = ap (λ (t : List ℕ). t ++ more) has.split ∙ append_assoc has.front has.more more;
  count_is = has.count_is;
  undecided = has.undecided;
}

-- bytes were added, or couldn't be
pub added_undecided : (b : Bool) (bytes more now : List ℕ) (count : ℕ) → now ≡ (if b then bytes ++ more else bytes)
    → AreUndecided bytes count → AreUndecided now count
added_undecided true bytes more now count is has = subst (λ (t : List ℕ). AreUndecided t count) (sym is) (undecided_stays bytes more count has)
added_undecided false bytes more now count is has = subst (λ (t : List ℕ). AreUndecided t count) (sym is) has

pub added_length : (b : Bool) (bytes more now : List ℕ) (whole : Option ℕ) → now ≡ (if b then bytes ++ more else bytes)
    → IfSome whole (HasLength bytes) → IfSome whole (HasLength now)
added_length true bytes more now whole is has = subst (λ (t : List ℕ). IfSome whole (HasLength t)) (sym is) (lengths_stay bytes more whole has)
added_length false bytes more now whole is has = subst (λ (t : List ℕ). IfSome whole (HasLength t)) (sym is) has

pub part_waits : (bytes : List ℕ) (whole : ℕ) → HasLength bytes whole → length bytes < whole → Waits bytes
part_waits bytes whole has short =
    let sizes : length bytes ≡ length has.front + length has.part = ap length has.split ∙ length-append has.front has.part in
    let whole_is : whole ≡ length has.front + has.stated = has.whole_is in
    inl (inr (record {
      front = has.front;
      part = has.part;
      head = has.head;
      stated = has.stated;
      is_head = has.is_head;
      split = has.split;
      accepted = has.accepted;
      short = omega (arith, sizes, whole_is, short);
    }))

-- what isn't a part of a body is a part of a head
pub all_undecided : (bytes : List ℕ) → IsUnfinished request_form bytes → ¬ (IsPartOfBody request_form bytes) → AreUndecided bytes (length bytes)
all_undecided bytes unfinished none = elim unfinished [
  | inl undecided ↦ record { front = bytes; more = []; split = sym (append-nil bytes); count_is = refl; undecided = undecided.0 }
  | inr part ↦ absurd (none part)
]

pub none_read : AreUndecided [] 0
none_read = record { front = []; more = []; split = refl; count_is = refl; undecided = request_laws.undecided }

-- ---- a request that is put off

pub goes_on : (b : Bool) (lines after : HeadLines) → ((b ≡ true) ↔ (lines ≡ Ended)) → (not b ≡ true) → lines ≡ after
    → (after ≡ Ended) → ⊥
goes_on true lines after decides unended is end = false≢true unended
goes_on false lines after decides unended is end = false≢true (decides.1 (is ∙ end))

pub put_off : (bytes : List ℕ) (read : ℕ) → AreUndecided bytes read → length bytes < head_limit
    → (length bytes - read) * 8 ≤ read → ((lines_after Blank bytes ≡ Ended) → ⊥) → IsPutOff bytes
put_off bytes read has size few goes_on = record {
  count = read;
  undecided = has;
  few = few;
  none = no_head bytes goes_on;
  size = size;
}

-- bytes were added, or couldn't be
pub added_lines : (b : Bool) (bytes more now : List ℕ) (before after : HeadLines) → now ≡ (if b then bytes ++ more else bytes)
    → before ≡ lines_after Blank bytes → after ≡ (if b then lines_after before more else before) → after ≡ lines_after Blank now
added_lines true bytes more now before after is was then_is =
    then_is ∙ ap (λ (l : HeadLines). lines_after l more) was ∙ sym (ap (lines_after Blank) is ∙ lines_append Blank bytes more)
added_lines false bytes more now before after is was then_is = then_is ∙ was ∙ ap (lines_after Blank) (sym is)
