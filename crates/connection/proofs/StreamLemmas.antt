-- Bytes that are kept beside a stream.
use Rattle.std.proofs.Common.{◌≡◌, ℕ, ◌+◌, ◌-◌, ◌≤◌, List, [], ◌++◌, length, take, drop, Option, Some, None, Result, refl, sym, ap, ◌∙◌, append_assoc, append-nil, length-drop, subst, nat_le, true, ◌∷◌, arith}
use Rattle.std.proofs.lemmas.Bool.Decides.{nat_tests}
use Rattle.std.proofs.lemmas.List.{drop_all, drop-drop, take-append-drop, take_all}
use Rattle.std.specs.Io.KnownBytes.{Keeps, Appends, ReadConsumes, prepend_known}
use Rattle.http_text.specs.declared.fault.ReadFault.{ReadFault}
use Rattle.http_text.specs.declared.fault.ReadFault.TheVariants.{EndedEarly}
use Rattle.http_text.specs.Forms.{request_form}
use Rattle.http_text.specs.Heads.{IsUnfinished}
use Rattle.http_text.specs.Requests.{TakesRefused}
use Rattle.connection.specs.Streams.{after_ahead, with_unsent}

prepend_none : (known : Option (List ℕ)) → prepend_known [] known ≡ known
prepend_none None = refl
prepend_none (Some xs) = refl

-- if all that was read ahead was given, the rest is the reader's
all_given : (ahead : List ℕ) (given : ℕ) (known : Option (List ℕ)) → length ahead ≤ given → after_ahead ahead given known ≡ known
all_given ahead given known h = ap (λ xs. prepend_known xs known) (drop_all given ahead h) ∙ prepend_none known

pub reads_after : {E : Type 0} (ahead : List ℕ) (given : ℕ) (old new : Option (List ℕ)) (result : Result ℕ E) (buffer : List ℕ)
    → length ahead ≤ given → ReadConsumes old new result buffer
    → ReadConsumes (after_ahead ahead given old) (after_ahead ahead given new) result buffer
reads_after ahead given old new result buffer h reads =
    subst (λ known. ReadConsumes known (after_ahead ahead given new) result buffer) (sym (all_given ahead given old h))
    (subst (λ known. ReadConsumes old known result buffer) (sym (all_given ahead given new h)) reads)

-- bytes that a reading finds to end early are only a part of a request
unfinished : (bytes : List ℕ) (left : Option (List ℕ)) → TakesRefused (Some bytes) left EndedEarly → IsUnfinished request_form bytes
unfinished bytes None taken = absurd taken.1
unfinished bytes (Some rest) taken = subst (IsUnfinished request_form) (sym (taken.1 ∙ ap (λ xs. taken.0 ++ xs) taken.2.1 ∙ append-nil taken.0)) taken.2.0

pub ended_early : (bytes : List ℕ) (old left : Option (List ℕ)) (fault : ReadFault) → old ≡ Some bytes → fault ≡ EndedEarly
    → TakesRefused old left fault → IsUnfinished request_form bytes
ended_early bytes old left fault is early taken =
    unfinished bytes left (subst (TakesRefused (Some bytes) left) early (subst (λ known. TakesRefused known left fault) is taken))

pub keeps_trans : (first second third : Option (List ℕ)) → Keeps first second → Keeps second third → Keeps first third
keeps_trans None second third a b = tt
keeps_trans (Some xs) None third a b = absurd a
keeps_trans (Some xs) (Some ys) None a b = absurd b
keeps_trans (Some xs) (Some ys) (Some zs) a b = b ∙ a

drop_more : (n m : ℕ) (xs : List ℕ) → drop (n + m) xs ≡ drop m (drop n xs)
drop_more n m xs = sym (drop-drop m n xs)

-- what is sent of the unsent bytes is only moved
sent_more : (old new : Option (List ℕ)) (unsent : List ℕ) (sent count : ℕ) → Appends old new (take count (drop sent unsent))
    → Keeps (with_unsent old unsent sent) (with_unsent new unsent (sent + count))
sent_more None new unsent sent count a = tt
sent_more (Some xs) None unsent sent count a = absurd a
sent_more (Some xs) (Some ys) unsent sent count a =
    ap (λ zs. zs ++ drop (sent + count) unsent) a
    ∙ append_assoc xs (take count (drop sent unsent)) (drop (sent + count) unsent)
    ∙ ap (λ zs. xs ++ zs) (ap (λ zs. take count (drop sent unsent) ++ zs) (drop_more sent count unsent) ∙ take-append-drop count (drop sent unsent))

-- a slice up to the end of the unsent bytes
part_is : (all unsent : List ℕ) (sent : ℕ) → all ≡ unsent → take (length all - sent) (drop sent all) ≡ drop sent unsent
part_is all unsent sent same = take_all (length all - sent) (drop sent all) (omega (arith, length-drop sent all)) ∙ ap (drop sent) same

pub keeps_sent : (first old new : Option (List ℕ)) (all unsent : List ℕ) (sent count : ℕ) → all ≡ unsent
    → Keeps first (with_unsent old unsent sent) → Appends old new (take count (take (length all - sent) (drop sent all)))
    → Keeps first (with_unsent new unsent (sent + count))
keeps_sent first old new all unsent sent count same keeps appends =
    keeps_trans first (with_unsent old unsent sent) (with_unsent new unsent (sent + count)) keeps
    (sent_more old new unsent sent count (subst (λ part. Appends old new (take count part)) (part_is all unsent sent same) appends))

keeps_itself : (known : Option (List ℕ)) → Keeps known known
keeps_itself None = tt
keeps_itself (Some xs) = refl

-- one write more
pub keeps_part : (old new : Option (List ℕ)) (all unsent : List ℕ) (sent count : ℕ) → all ≡ unsent
    → Appends old new (take count (take (length all - sent) (drop sent all)))
    → Keeps (with_unsent old unsent sent) (with_unsent new unsent (sent + count))
keeps_part old new all unsent sent count same appends =
    keeps_sent (with_unsent old unsent sent) old new all unsent sent count same (keeps_itself (with_unsent old unsent sent)) appends

-- all of them were sent if none was
pub none_unsent : (unsent : List ℕ) → nat_le (length unsent) 0 ≡ true → unsent ≡ []
none_unsent [] all = refl
none_unsent (b ∷ unsent) all = let none : length (b ∷ unsent) ≤ 0 = grind (arith, nat_tests) in absurd (omega (arith, none))
