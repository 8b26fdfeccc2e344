-- Lists that grow at their ends.
use Rattle.std.proofs.Common.{◌≡◌, ℕ, zero, suc, List, [], ◌∷◌, ◌++◌, map, refl, subst}
use Rattle.std.specs.List.{AllByRecursion}
use Rattle.provider_core.proofs.TableLaws.{at_more}
use Rattle.world_model.specs.Safe.{Has, IsAt}

pub all_mapped : {X Y : Type 0} (P : Y → Type 0) (f : X → Y) (xs : List X) → AllByRecursion (λ x. P (f x)) xs → AllByRecursion P (map f xs)
all_mapped P f [] all = tt
all_mapped P f (x ∷ xs) all = (all.0, all_mapped P f xs all.1)

pub has_last : {X : Type 0} (xs : List X) (x : X) → Has (xs ++ x ∷ []) x
has_last [] x = (0, refl)
has_last (y ∷ xs) x = let (place, at) = has_last xs x in (suc place, at)

pub has_more : {X : Type 0} (xs more : List X) (x : X) → Has xs x → Has (xs ++ more) x
has_more xs more x has = (has.0, at_more xs more has.0 x has.1)

each_at : {X : Type 0} (P : X → Type 0) (xs : List X) (last : X) → ((place : ℕ) (x : X) → IsAt xs place x → P x) → P last → (place : ℕ) (x : X) → IsAt (xs ++ last ∷ []) place x → P x
each_at P [] last all new zero x at = let e : last ≡ x = cc at in subst P e new
each_at P [] last all new (suc place) x at = absurd (cc at)
each_at P (y ∷ xs) last all new zero x at = all zero x at
each_at P (y ∷ xs) last all new (suc place) x at = each_at P xs last (λ p z e. all (suc p) z e) new place x at

-- what holds of each element, and of one more
pub each_more : {X : Type 0} (P : X → Type 0) (xs : List X) (last : X) → ((x : X) → Has xs x → P x) → P last → (x : X) → Has (xs ++ last ∷ []) x → P x
each_more P xs last all new x has = each_at P xs last (λ p z e. all z (p, e)) new has.0 x has.1
