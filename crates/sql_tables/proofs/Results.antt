-- What holds of a result if something holds of its value or its fault.
use Rattle.std.proofs.Common.{◌≡◌, Result, Ok, Err, OnOk, OnErr, IfOk, IfErr, IsErrAnd, sym, subst}

pub on_ok : {T F P Q : Type 0} (r : Result T F) → (P → Q) → OnOk r P → OnOk r Q
on_ok (Ok x) f p = f p
on_ok (Err e) f p = tt

pub on_both : {T F P Q R : Type 0} (r : Result T F) → (P → Q → R) → OnOk r P → OnOk r Q → OnOk r R
on_both (Ok x) f p q = f p q
on_both (Err e) f p q = tt

pub if_ok : {T F : Type 0} {P Q : T → Type 0} (r : Result T F) → ((x : T) → P x → Q x) → IfOk r P → IfOk r Q
if_ok (Ok x) f p = f x p
if_ok (Err e) f p = tt

pub if_err : {T F : Type 0} {P Q : F → Type 0} (r : Result T F) → ((e : F) → P e → Q e) → IfErr r P → IfErr r Q
if_err (Ok x) f p = tt
if_err (Err e) f p = f e p

-- a fault that is handed on
pub handed_error : {X E : Type 0} (P : E → Type 0) (r : Result X E) (error : E) → IsErrAnd r (λ given. given ≡ error) → P error → IfErr r P
handed_error P (Ok x) error is it = tt
handed_error P (Err given) error is it = subst P (sym is) it

pub on_err : {X E P : Type 0} (r : Result X E) → P → OnErr r P
on_err (Ok x) p = tt
on_err (Err e) p = p

pub on_ok_of : {X E P : Type 0} (r : Result X E) → P → OnOk r P
on_ok_of (Ok x) p = p
on_ok_of (Err e) p = tt
