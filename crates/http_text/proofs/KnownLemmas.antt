-- What is known of a stream's bytes after one step and the next.
use Rattle.std.proofs.Common.{List, ℕ, [], ◌++◌, Option, Some, None, ap, sym, ◌∙◌, append_assoc, refl}
use Rattle.std.specs.Io.KnownBytes.{Keeps, Appends, Consumes}

pub Appends-kept : (old now new : Option (List ℕ)) (bytes : List ℕ) → Appends old now bytes → Keeps now new → Appends old new bytes
Appends-kept None now new bytes h k = tt
Appends-kept (Some xs) None new bytes h k = absurd h
Appends-kept (Some xs) (Some ys) None bytes h k = absurd k
Appends-kept (Some xs) (Some ys) (Some zs) bytes h k = k ∙ h

pub Appends-then : (old now new : Option (List ℕ)) (a b : List ℕ) → Appends old now a → Appends now new b → Appends old new (a ++ b)
Appends-then None now new a b h k = tt
Appends-then (Some xs) None new a b h k = absurd h
Appends-then (Some xs) (Some ys) None a b h k = absurd k
Appends-then (Some xs) (Some ys) (Some zs) a b h k = k ∙ ap (λ (t : List ℕ). t ++ b) h ∙ append_assoc xs a b

pub Consumes-kept : (old now new : Option (List ℕ)) (bytes : List ℕ) → Consumes old now bytes → Keeps now new → Consumes old new bytes
Consumes-kept None now new bytes h k = tt
Consumes-kept (Some xs) None new bytes h k = absurd h
Consumes-kept (Some xs) (Some ys) None bytes h k = absurd k
Consumes-kept (Some xs) (Some ys) (Some zs) bytes h k = h ∙ ap (λ (t : List ℕ). bytes ++ t) (sym k)

pub Consumes-then : (old now new : Option (List ℕ)) (a b : List ℕ) → Consumes old now a → Consumes now new b → Consumes old new (a ++ b)
Consumes-then None now new a b h k = tt
Consumes-then (Some xs) None new a b h k = absurd h
Consumes-then (Some xs) (Some ys) None a b h k = absurd k
Consumes-then (Some xs) (Some ys) (Some zs) a b h k = h ∙ ap (λ (t : List ℕ). a ++ t) k ∙ sym (append_assoc a b zs)

pub Consumes-none : (known : Option (List ℕ)) → Consumes known known []
Consumes-none None = tt
Consumes-none (Some xs) = refl
