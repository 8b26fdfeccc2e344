use Rattle.std.proofs.Common.{◌≡◌, ◌∙◌, drop, sym, ap}
use Rattle.std.proofs.lemmas.List.{take_rest, at_drop_all}
use Rattle.scim_filter.specs.Comparing.{folded, begins_with, contains}
use Rattle.scim_filter.proofs.Comparisons.{contains-here, contains-on, contains-end}
use Rattle.scim_filter.proofs.comparing.contains.Goals as goal
use Rattle.scim_filter.proofs.comparing.contains.Goals.{After-begins_with}

here : (c : After-begins_with) → c.begins_with.result ≡ begins_with (folded c.args.exact (drop c.loop-start.start c.args.text.now)) (folded c.args.exact c.args.given.now)
here c = c.begins_with.ensures ∙ ap (λ x. begins_with (folded c.args.exact x) (folded c.args.exact c.args.given.now)) (take_rest c.args.text.now c.loop-start.start)

pub returns-then-begins_with : goal.returns-then-begins_with
returns-then-begins_with c =
    let k = here (goal.at.returns-then-begins_with c).After-begins_with in
    sym (contains-here c.args.exact c.args.text.now c.args.given.now c.loop-start.start c.loop-start-test.true (sym k ∙ c.if-begins_with.true)) ∙ c.loop-start.invariant

pub loop-start-preserved : goal.loop-start-preserved
loop-start-preserved c =
    let k = here (goal.at.loop-start-preserved c).After-begins_with in
    sym (contains-on c.args.exact c.args.text.now c.args.given.now c.loop-start.start c.loop-start-test.true (sym k ∙ c.if-begins_with.false)) ∙ c.loop-start.invariant

pub returns : goal.returns
returns c =
    c.is_empty.ensures
    ∙ sym (contains-end c.args.exact c.args.given.now)
    ∙ sym (at_drop_all (λ x. contains (folded c.args.exact x) (folded c.args.exact c.args.given.now)) c.args.text.now c.loop-start.start c.loop-start-test.false)
    ∙ c.loop-start.invariant
