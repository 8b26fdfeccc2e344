use Rattle.std.proofs.Common.{◌≡◌, ◌<◌, ◌+◌, ℕ, Bool, false, true, length, sym, subst, ap, ◌∙◌, arith}
use Rattle.connection.specs.declared.waiting.Waiting.{Waiting}
use Rattle.connection.specs.Holding.{LooksAt, TakesFirst}
use Rattle.connection.proofs.HoldingLemmas.{SoFar, no_look, one_look, passed_all, took_out}
use Rattle.connection.proofs.waiting.Waiting.take_from_round.Goals as goal
use Rattle.connection.proofs.waiting.Waiting.take_from_round.Goals.{then-is_time_at+else-looks-eq-MOST_LOOKS+else-is_ready_at, else-is_time_at}

pub loop-place-preserved : goal.loop-place-preserved
loop-place-preserved g c =
    let now = c.args.now in
    let first = c.args.self.now.next in
    let place = c.loop-place.place in
    let looks = c.loop-place.looks in
    let old = c.args.self.now.connections.items in
    let mid = c.loop-place.self.connections.items in
    let before = c.loop-place.invariant in
    let there : place < length old = omega (arith, c.loop-place-test.true, c.requires.end) in
    elim c.if-is_time_at.branch [
      | then-is_time_at+else-looks-eq-MOST_LOOKS+else-is_ready_at w ↦
          let new = w.is_ready_at.new.self.connections.items in
          let found : LooksAt g.S.Read.remaining place mid new false =
          subst (λ (ready : Bool). LooksAt g.S.Read.remaining place mid new ready) w.if-is_ready_at.false w.is_ready_at.ensures.looks in
          let passed : SoFar g.S.Read.remaining now first (place + 1) (looks + 1) old new =
          one_look g.S.Read.remaining now first place looks old mid new c.loop-place.auto.place there before.so_far
          (λ d. sym (c.is_time_at.ensures d) ∙ w.if-is_time_at.true) found in
          let counted : SoFar g.S.Read.remaining now first (place + 1) c.if-is_time_at.looks old new =
          subst (λ (n : ℕ). SoFar g.S.Read.remaining now first (place + 1) n old new) (sym w.looks-is) passed in record {
            so_far = subst (λ (self : Waiting _). SoFar g.S.Read.remaining now first (place + 1) c.if-is_time_at.looks old self.connections.items)
                (sym w.self-is) counted;
            few = omega (arith, before.few, w.looks-is, w.if-looks-eq-MOST_LOOKS.false);
            end = ap (λ (self : Waiting _). self.end) w.self-is ∙ w.is_ready_at.ensures.end ∙ before.end;
          }
      | else-is_time_at w ↦
          let passed : SoFar g.S.Read.remaining now first (place + 1) looks old mid =
          no_look g.S.Read.remaining now first place looks old mid c.loop-place.auto.place there before.so_far
          (λ d. sym (c.is_time_at.ensures d) ∙ w.if-is_time_at.false) in
          let counted : SoFar g.S.Read.remaining now first (place + 1) c.if-is_time_at.looks old mid =
          subst (λ (n : ℕ). SoFar g.S.Read.remaining now first (place + 1) n old mid) (sym w.looks-is) passed in record {
            so_far = subst (λ (self : Waiting _). SoFar g.S.Read.remaining now first (place + 1) c.if-is_time_at.looks old self.connections.items)
                (sym w.self-is) counted;
            few = omega (arith, before.few, w.looks-is);
            end = ap (λ (self : Waiting _). self.end) w.self-is ∙ before.end;
          }
    ]

pub returns-then-is_ready_at-clause-takes : goal.returns-then-is_ready_at-clause-takes
returns-then-is_ready_at-clause-takes g c =
    let now = c.args.now in
    let first = c.args.self.now.next in
    let end = c.args.self.now.end in
    let place = c.loop-place.place in
    let looks = c.loop-place.looks in
    let old = c.args.self.now.connections.items in
    let mid = c.loop-place.self.connections.items in
    let seen = c.is_ready_at.new.self.connections.items in
    let new = c.take_out.new.self.connections.items in
    let before = c.loop-place.invariant in
    let there : place < length old = omega (arith, c.loop-place-test.true, c.requires.end) in
    let few : looks < 4 = omega (arith, before.few, c.if-looks-eq-MOST_LOOKS.false) in
    let found : LooksAt g.S.Read.remaining place mid seen true =
    subst (λ (ready : Bool). LooksAt g.S.Read.remaining place mid seen ready) c.if-is_ready_at.true c.is_ready_at.ensures.looks in
    subst (λ (next : ℕ). TakesFirst g.S.Read.remaining now 4 first end next old new c.take_out.result)
    (sym (c.take_out.ensures.stays.next ∙ c.is_ready_at.ensures.next))
    (took_out g.S.Read.remaining now 4 first place looks end old mid seen new c.take_out.result c.loop-place.auto.place
    c.loop-place-test.true there few before.so_far found c.take_out.ensures.value c.take_out.ensures.items)

pub returns-clause-takes : goal.returns-clause-takes
returns-clause-takes g c =
    let first = c.args.self.now.next in
    let end = c.args.self.now.end in
    let place = c.loop-place.place in
    let last : place ≡ end = omega (arith, c.loop-place-test.false, c.loop-place.auto.place-end, c.requires.begun) in
    passed_all g.S.Read.remaining c.args.now 4 first place c.loop-place.looks end c.args.self.now.connections.items
    c.loop-place.self.connections.items c.loop-place.auto.place last c.loop-place.invariant.few c.loop-place.invariant.so_far
