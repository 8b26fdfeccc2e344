-- Lists of emails within their limits.
use Rattle.std.proofs.Common.{◌≡◌, ℕ, ◌+◌, ◌<◌, ◌≤◌, List, [], ◌∷◌, ◌++◌, length, get_or, drop, Some, None, Result, Ok, Err, refl, sym, ap, ◌∙◌, add-one, append_assoc, append-nil, drop-cons}
use Rattle.std.proofs.lemmas.List.{drop_all}
use Rattle.scim_key.specs.Outcome.{◌>>=◌}
use Rattle.serde_json.specs.Data.{item}
use Rattle.serde_json.specs.View.{view, items_view}
use Rattle.serde_json.specs.declared.value.Value.{Value}
use Rattle.scim_resource.specs.Emails.{AreEmails, IsEmail, IsEmailList, are_few}
use Rattle.scim_resource.specs.Reading.{email_in, emails_of, with_email}
use Rattle.scim_resource.specs.declared.emails.Email.{Email}
use Rattle.scim_resource.specs.declared.faults.ContentFault.{ContentFault}

pub no_emails : (es : List Email) → es ≡ [] → IsEmailList es
unfolding are_few
no_emails es none = rw none (record { each = tt; few = refl })

-- ---- reading a list of emails item by item

-- the list that is read, after these emails
abbrev pub after_emails : List Email → Result (List Email) ContentFault → Result (List Email) ContentFault
after_emails xs (Ok es) = Ok (xs ++ es)
after_emails xs (Err e) = Err e

after_none : (r : Result (List Email) ContentFault) → after_emails [] r ≡ r
after_none (Ok es) = refl
after_none (Err e) = refl

after_one : (xs : List Email) (e : Email) (r : Result (List Email) ContentFault) → after_emails (xs ++ e ∷ []) r ≡ after_emails xs (r >>= (λ es. Ok (e ∷ es)))
after_one xs e (Ok es) = ap Ok (append_assoc xs (e ∷ []) es)
after_one xs e (Err f) = refl

same_after : (r : Result (List Email) ContentFault) → r ≡ r >>= (λ es. Ok es)
same_after (Ok es) = refl
same_after (Err f) = refl

pub here : (vs : List Value) (i : ℕ) (v : Value) → i < length vs → v ≡ get_or vs i v → items_view (drop i vs) ≡ item (view v) (items_view (drop (i + 1) vs))
here vs i v h is = ap items_view (drop-cons vs i v h) ∙ rw (add-one, ← is)

pub reading_starts : (vs : List Value) → after_emails [] (emails_of (items_view (drop 0 vs))) ≡ emails_of (items_view vs)
reading_starts vs = after_none _

pub reads_one : (vs : List Value) (i : ℕ) (v : Value) (xs : List Email) (e : Email) (r : Result (List Email) ContentFault) → i < length vs → v ≡ get_or vs i v
    → email_in (view v) ≡ Ok (Some e) → after_emails xs (emails_of (items_view (drop i vs))) ≡ r → after_emails (xs ++ e ∷ []) (emails_of (items_view (drop (i + 1) vs))) ≡ r
unfolding emails_of
reads_one vs i v xs e r h is read so_far =
    after_one xs e (emails_of (items_view (drop (i + 1) vs)))
    ∙ ap (λ o. after_emails xs (o >>= (λ e. emails_of (items_view (drop (i + 1) vs)) >>= (λ es. Ok (with_email e es))))) (sym read)
    ∙ ap (λ ds. after_emails xs (emails_of ds)) (sym (here vs i v h is)) ∙ so_far

pub reads_none : (vs : List Value) (i : ℕ) (v : Value) (xs : List Email) (r : Result (List Email) ContentFault) → i < length vs → v ≡ get_or vs i v
    → email_in (view v) ≡ Ok None → after_emails xs (emails_of (items_view (drop i vs))) ≡ r → after_emails xs (emails_of (items_view (drop (i + 1) vs))) ≡ r
unfolding emails_of
reads_none vs i v xs r h is read so_far =
    ap (after_emails xs) (same_after (emails_of (items_view (drop (i + 1) vs))))
    ∙ ap (λ o. after_emails xs (o >>= (λ e. emails_of (items_view (drop (i + 1) vs)) >>= (λ es. Ok (with_email e es))))) (sym read)
    ∙ ap (λ ds. after_emails xs (emails_of ds)) (sym (here vs i v h is)) ∙ so_far

pub reads_fault : (vs : List Value) (i : ℕ) (v : Value) (xs : List Email) (f : ContentFault) (r : Result (List Email) ContentFault) → i < length vs → v ≡ get_or vs i v
    → email_in (view v) ≡ Err f → after_emails xs (emails_of (items_view (drop i vs))) ≡ r → r ≡ Err f
unfolding emails_of
reads_fault vs i v xs f r h is read so_far =
    sym so_far ∙ ap (λ ds. after_emails xs (emails_of ds)) (here vs i v h is)
    ∙ ap (λ o. after_emails xs (o >>= (λ e. emails_of (items_view (drop (i + 1) vs)) >>= (λ es. Ok (with_email e es))))) read

pub reading_ends : (vs : List Value) (i : ℕ) (xs : List Email) (r : Result (List Email) ContentFault) → length vs ≤ i
    → after_emails xs (emails_of (items_view (drop i vs))) ≡ r → r ≡ Ok xs
unfolding emails_of
reading_ends vs i xs r h so_far =
    sym so_far ∙ ap (λ ws. after_emails xs (emails_of (items_view ws))) (drop_all i vs h) ∙ ap Ok (append-nil xs)

pub AreEmails-push : (xs : List Email) (e : Email) → AreEmails xs → IsEmail e → AreEmails (xs ++ e ∷ [])
AreEmails-push [] e h one = (one, tt)
AreEmails-push (x ∷ xs) e h one = (h.0, AreEmails-push xs e h.1 one)
