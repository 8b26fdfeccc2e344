-- Reading the resources of a list one by one.
use Rattle.std.proofs.Common.{◌≡◌, ℕ, ◌+◌, ◌<◌, ◌≤◌, List, [], ◌∷◌, ◌++◌, length, get_or, drop, Option, Some, None, Result, Ok, Err, ◌⊎◌, inl, inr, refl, sym, ap, ◌∙◌, append_assoc, append-nil}
use Rattle.std.proofs.lemmas.List.{drop_all}
use Rattle.scim_key.specs.Outcome.{◌>>=◌}
use Rattle.scim_key.specs.declared.records.Kind.{Kind}
use Rattle.serde_json.specs.View.{view, items_view}
use Rattle.serde_json.specs.declared.value.Value.{Value}
use Rattle.scim_resource.proofs.EmailLists.{here}
use Rattle.scim_resource.specs.Rows.{ShownRecord}
use Rattle.scim_resource.specs.declared.faults.ContentFault.{ContentFault}
use Rattle.scim_resource.specs.declared.faults.ContentFault.TheVariants as reading
use Rattle.scim_message.specs.Answers.{shaped, shown_in, with_shown, page_of}
use Rattle.scim_message.specs.Faults.{fault_of_reading}
use Rattle.scim_message.specs.declared.answers.BodyFault.{BodyFault}
use Rattle.scim_message.specs.declared.answers.BodyFault.TheVariants.{Memory}

-- a fault of a resource as the body's
pub shaped_fault : {X : Type 0} (r : Result X ContentFault) (e : ContentFault) → (e ≡ reading.Memory) ⊎ (r ≡ Err e) → (fault_of_reading e ≡ Memory) ⊎ (shaped r ≡ Err (fault_of_reading e))
shaped_fault r reading.InvalidSyntax (inl h) = inl (ap fault_of_reading h)
shaped_fault r reading.InvalidSyntax (inr h) = inr (ap shaped h)
shaped_fault r reading.InvalidValue (inl h) = inl (ap fault_of_reading h)
shaped_fault r reading.InvalidValue (inr h) = inr (ap shaped h)
shaped_fault r reading.Memory h = inl refl

-- the list that is read, after these resources
abbrev pub after_page : List ShownRecord → Result (List ShownRecord) BodyFault → Result (List ShownRecord) BodyFault
after_page xs (Ok page) = Ok (xs ++ page)
after_page xs (Err e) = Err e

after_none : (r : Result (List ShownRecord) BodyFault) → after_page [] r ≡ r
after_none (Ok page) = refl
after_none (Err e) = refl

after_one : (xs : List ShownRecord) (s : ShownRecord) (r : Result (List ShownRecord) BodyFault) → after_page (xs ++ s ∷ []) r ≡ after_page xs (r >>= (λ page. Ok (s ∷ page)))
after_one xs s (Ok page) = ap Ok (append_assoc xs (s ∷ []) page)
after_one xs s (Err f) = refl

same_after : (r : Result (List ShownRecord) BodyFault) → r ≡ r >>= (λ page. Ok page)
same_after (Ok page) = refl
same_after (Err f) = refl

pub page_starts : (kind : Kind) (vs : List Value) (xs : List ShownRecord) → xs ≡ [] → after_page xs (page_of kind (items_view (drop 0 vs))) ≡ page_of kind (items_view vs)
page_starts kind vs xs none = rw none (after_none _)

-- one element, and what is read of it
pub page_grows : (kind : Kind) (vs : List Value) (i : ℕ) (v : Value) (xs : List ShownRecord) (o : Option ShownRecord) (r : Result (List ShownRecord) BodyFault) → i < length vs → v ≡ get_or vs i v
    → shown_in kind (view v) ≡ Ok o → after_page xs (page_of kind (items_view (drop i vs))) ≡ r
    → after_page xs (page_of kind (items_view (drop (i + 1) vs)) >>= (λ page. Ok (with_shown o page))) ≡ r
unfolding page_of
page_grows kind vs i v xs o r h is read so_far =
    ap (λ p. after_page xs (p >>= (λ s. page_of kind (items_view (drop (i + 1) vs)) >>= (λ page. Ok (with_shown s page))))) (sym read)
    ∙ ap (λ ds. after_page xs (page_of kind ds)) (sym (here vs i v h is)) ∙ so_far

pub reads_one : (kind : Kind) (vs : List Value) (i : ℕ) (v : Value) (xs : List ShownRecord) (s : ShownRecord) (r : Result (List ShownRecord) BodyFault) → i < length vs → v ≡ get_or vs i v
    → shown_in kind (view v) ≡ Ok (Some s) → after_page xs (page_of kind (items_view (drop i vs))) ≡ r → after_page (xs ++ s ∷ []) (page_of kind (items_view (drop (i + 1) vs))) ≡ r
reads_one kind vs i v xs s r h is read so_far = after_one xs s _ ∙ page_grows kind vs i v xs (Some s) r h is read so_far

pub reads_none : (kind : Kind) (vs : List Value) (i : ℕ) (v : Value) (xs : List ShownRecord) (r : Result (List ShownRecord) BodyFault) → i < length vs → v ≡ get_or vs i v
    → shown_in kind (view v) ≡ Ok None → after_page xs (page_of kind (items_view (drop i vs))) ≡ r → after_page xs (page_of kind (items_view (drop (i + 1) vs))) ≡ r
reads_none kind vs i v xs r h is read so_far = ap (after_page xs) (same_after _) ∙ page_grows kind vs i v xs None r h is read so_far

pub reads_fault : (kind : Kind) (vs : List Value) (i : ℕ) (v : Value) (xs : List ShownRecord) (f : BodyFault) (r : Result (List ShownRecord) BodyFault) → i < length vs → v ≡ get_or vs i v
    → shown_in kind (view v) ≡ Err f → after_page xs (page_of kind (items_view (drop i vs))) ≡ r → r ≡ Err f
unfolding page_of
reads_fault kind vs i v xs f r h is read so_far =
    sym so_far ∙ ap (λ ds. after_page xs (page_of kind ds)) (here vs i v h is)
    ∙ ap (λ p. after_page xs (p >>= (λ s. page_of kind (items_view (drop (i + 1) vs)) >>= (λ page. Ok (with_shown s page))))) read

pub page_ends : (kind : Kind) (vs : List Value) (i : ℕ) (xs : List ShownRecord) (r : Result (List ShownRecord) BodyFault) → length vs ≤ i
    → after_page xs (page_of kind (items_view (drop i vs))) ≡ r → r ≡ Ok xs
unfolding page_of
page_ends kind vs i xs r h so_far =
    sym so_far ∙ ap (λ ws. after_page xs (page_of kind (items_view ws))) (drop_all i vs h) ∙ ap Ok (append-nil xs)
