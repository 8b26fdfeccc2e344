-- Additions after additions.
use Rattle.std.proofs.Common.{◌≡◌, List, [], ◌++◌, Option, Some, None, sym, ap, ◌∙◌, append_assoc, append-nil}
use Rattle.provisioning.specs.Lists.{Adds}

pub adds_none : {X : Type 0} (known : Option (List X)) → Adds known known []
adds_none None = tt
adds_none (Some all) = sym (append-nil all)

pub adds_more : {X : Type 0} (old between new : Option (List X)) (first then : List X) → Adds old between first → Adds between new then → Adds old new (first ++ then)
adds_more None between new first then a b = tt
adds_more (Some all) None new first then a b = absurd a
adds_more (Some all) (Some longer) None first then a b = absurd b
adds_more (Some all) (Some longer) (Some longest) first then a b = b ∙ ap (λ xs. xs ++ then) a ∙ append_assoc all first then

-- a list of two parts, by what each is
pub joined : {X : Type 0} (xs front back first last : List X) → xs ≡ front ++ back → front ≡ first → back ≡ last → xs ≡ first ++ last
joined xs front back first last is begins ends = is ∙ ap (λ l. l ++ back) begins ∙ ap (λ l. first ++ l) ends
