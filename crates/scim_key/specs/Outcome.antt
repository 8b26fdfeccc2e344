-- The result of a call that may run out of memory, compared with the answer of its definition.
use Rattle.std.specs.Prelude.{◌≡◌, ℕ, List, Option, None, Some, Result, Ok, Err, ◌⊎◌}

-- the result is exactly the answer, or out of memory
abbrev pub Gives : {X F : Type 0} → F → Result X F → Result X F → Type 0
Gives memory (Ok x) answer = answer ≡ Ok x
Gives memory (Err e) answer = (e ≡ memory) ⊎ (answer ≡ Err e)

-- the same, for a view of the result's value
abbrev pub GivesBy : {X Y F : Type 0} → (X → Y) → F → Result X F → Result Y F → Type 0
GivesBy view memory (Ok x) answer = answer ≡ Ok (view x)
GivesBy view memory (Err e) answer = (e ≡ memory) ⊎ (answer ≡ Err e)

-- the text was taken unchanged, or the result is its fault; only a valid text can run out of memory
abbrev pub Takes : {F : Type 0} → F → Option F → List ℕ → Result (List ℕ) F → Type 0
Takes memory fault text (Ok x) = (fault ≡ None) × (x ≡ text)
Takes memory fault text (Err e) = ((fault ≡ None) × (e ≡ memory)) ⊎ (fault ≡ Some e)

-- one step after the other, up to the first that fails
infixl 10 ◌>>=◌
abbrev pub ◌>>=◌ : {A B F : Type 0} → Result A F → (A → Result B F) → Result B F
(Ok x) >>= f = f x
(Err e) >>= f = Err e
