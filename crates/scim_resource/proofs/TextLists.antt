-- The texts of a user, read one after the other.
use Rattle.std.proofs.Common.{◌≡◌, ℕ, zero, suc, ◌<◌, List, [], ◌∷◌, length, get_or, Bool, true, false, cond, Option, Some, None, Result, Ok, Err, ◌⊎◌, inl, inr, IfOk, IfErr, map, refl, sym, ap, ◌∙◌, arith}
use Rattle.std.specs.List.{AllByRecursion, AllZip, IsAmong}
use Rattle.scim_key.specs.Outcome.{◌>>=◌, Gives}
use Rattle.serde_json.specs.Data.{Data, null, boolean, number, string, array, object, Members}
use Rattle.scim_json.specs.declared.values.ValueFault.{ValueFault}
use Rattle.scim_resource.specs.Reading.{text_in, text_of, value_of, texts_in, user_texts_in}
use Rattle.scim_resource.specs.Texts.{IsTextIf, is_short_text}
use Rattle.scim_resource.specs.UserTexts.{UserTexts}
use Rattle.scim_resource.specs.declared.faults.ContentFault.{ContentFault}
use Rattle.scim_resource.specs.declared.faults.ContentFault.TheVariants.{InvalidValue}
use Rattle.scim_resource.specs.declared.user_texts.TheConstants.{USER_TEXTS}

-- these values were read one by one
pub texts_made : {A : Type 0} {R : A → Option (List ℕ) → Type 0} (seen : A → Result (Option Data) ValueFault) (values : List A) (texts : UserTexts) → AllZip R values texts
    → ((v : A) (t : Option (List ℕ)) → R v t → (text_of (seen v) ≡ Ok t) × IsTextIf t)
    → (texts_in (map seen values) ≡ Ok texts) × AllByRecursion IsTextIf texts
unfolding texts_in
texts_made seen [] [] all read = (refl, tt)
texts_made seen [] (t ∷ texts) all read = absurd all
texts_made seen (v ∷ values) [] all read = absurd all
texts_made seen (v ∷ values) (t ∷ texts) all read =
    let one = read v t all.0 in
    let rest = texts_made seen values texts all.1 read in
    (rw (one.0, rest.0) refl, (one.1, rest.1))

-- there is one fault of a text
short_fault : (b : Bool) (s : List ℕ) (e : ContentFault) → cond b (Ok (Some s)) (Err InvalidValue) ≡ Err e → e ≡ InvalidValue
short_fault true s e h = cc
short_fault false s e h = cc

text_fault : (d : Option Data) (e : ContentFault) → text_in d ≡ Err e → e ≡ InvalidValue
text_fault None e h = cc
text_fault (Some null) e h = cc
text_fault (Some (boolean b)) e h = cc
text_fault (Some (number n)) e h = cc
text_fault (Some (string s)) e h = short_fault (is_short_text s) s e h
text_fault (Some (array ds)) e h = cc
text_fault (Some (object ms)) e h = cc

text_of_fault : (d : Result (Option Data) ValueFault) (e : ContentFault) → text_of d ≡ Err e → e ≡ InvalidValue
text_of_fault (Ok d) e h = text_fault d e h
text_of_fault (Err f) e h = cc

-- a fault behind a text that may be one itself
behind : (r : Result (Option (List ℕ)) ContentFault) (ds : List (Result (Option Data) ValueFault)) (e : ContentFault) → ((f : ContentFault) → r ≡ Err f → f ≡ e) → texts_in ds ≡ Err e
    → r >>= (λ text. texts_in ds >>= (λ texts. Ok (text ∷ texts))) ≡ Err e
behind (Ok t) ds e same h = rw h refl
behind (Err f) ds e same h = ap Err (same f refl)

fault_at : {A : Type 0} (seen : A → Result (Option Data) ValueFault) (values : List A) (i : ℕ) (v : A) (e : ContentFault) → i < length values → text_of (seen (get_or values i v)) ≡ Err e
    → texts_in (map seen values) ≡ Err e
unfolding texts_in
fault_at seen [] i v e fits h = absurd (omega arith)
fault_at seen (x ∷ values) zero v e fits h = rw h refl
fault_at seen (x ∷ values) (suc i) v e fits h =
    behind (text_of (seen x)) (map seen values) e (λ f is. text_of_fault (seen x) f is ∙ sym (text_of_fault (seen (get_or values i v)) e h)) (fault_at seen values i v e (omega (arith, fits)) h)

pub text_refused : {A : Type 0} (seen : A → Result (Option Data) ValueFault) (values : List A) (v : A) (e : ContentFault) → IsAmong values v → text_of (seen v) ≡ Err e → texts_in (map seen values) ≡ Err e
text_refused seen values v e (i, (fits, at)) h = fault_at seen values i v e fits (ap (λ x. text_of (seen x)) (sym at) ∙ h)

pub gives : {X F : Type 0} (memory : F) (r answer : Result X F) → IfOk r (λ x. answer ≡ Ok x) → IfErr r (λ e. (e ≡ memory) ⊎ (answer ≡ Err e)) → Gives memory r answer
gives memory (Ok x) answer ok err = ok
gives memory (Err e) answer ok err = err

pub refused_or_memory : {F : Type 0} {P Q : Type 0} (e memory : F) → (P → Q) → (e ≡ memory) ⊎ P → (e ≡ memory) ⊎ Q
refused_or_memory e memory f (inl is) = inl is
refused_or_memory e memory f (inr p) = inr (f p)

pub texts_of_user : (ms : Members) (ds : List (Result (Option Data) ValueFault)) (answer : Result UserTexts ContentFault) → ds ≡ map (value_of ms) USER_TEXTS → texts_in ds ≡ answer
    → user_texts_in ms ≡ answer
unfolding user_texts_in
texts_of_user ms ds answer is h = ap texts_in (sym is) ∙ h
