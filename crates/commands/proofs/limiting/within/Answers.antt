use Rattle.std.proofs.Common.{◌≡◌, ◌∙◌, ℕ, true, false, Some, None, ap, refl, subst, sym}
use Rattle.provisioning.specs.Leavers.{leavers_by}
use Rattle.commands.specs.Limits.{if_within, in_all, is_excess}
use Rattle.commands.proofs.limiting.within.Goals as goal

pub returns-then-tell_excess : goal.returns-then-tell_excess
returns-then-tell_excess g c =
    let sources = c.in_ok-sources.sources in
    let all : c.in_all-count.result ≡ in_all (leavers_by c.args.connector.now.book sources) c.args.rechecked =
    c.in_all-count.ensures ∙ ap (λ (n : ℕ). in_all n c.args.rechecked) c.in_ok-leavers.ensures in
    let excess : is_excess c.in_all-count.result (Some c.args.most) ≡ true = sym c.tell_excess.ensures ∙ c.if-tell_excess.true in
    (sources, c.in_ok-sources.ensures, subst (λ (n : ℕ). None ≡ if_within c.args.most n sources) all (rw excess refl))

pub returns-else-tell_excess : goal.returns-else-tell_excess
returns-else-tell_excess g c =
    let sources = c.in_ok-sources.sources in
    let all : c.in_all-count.result ≡ in_all (leavers_by c.args.connector.now.book sources) c.args.rechecked =
    c.in_all-count.ensures ∙ ap (λ (n : ℕ). in_all n c.args.rechecked) c.in_ok-leavers.ensures in
    let within : is_excess c.in_all-count.result (Some c.args.most) ≡ false = sym c.tell_excess.ensures ∙ c.if-tell_excess.false in
    (sources, c.in_ok-sources.ensures, subst (λ (n : ℕ). Some sources ≡ if_within c.args.most n sources) all (rw within refl))
