-- The exchanges for each record in turn, until nothing is to be sent of it, are determined.
use Rattle.std.proofs.Common.{◌≡◌, ℕ, zero, suc, List, [], ◌∷◌, Some, refl, ap, sym, ◌∙◌, subst, arith}
use Rattle.scim_key.specs.declared.records.RecordName.{RecordName}
use Rattle.connector_core.specs.declared.asking.Ask.TheVariants.{Nothing, Send}
use Rattle.world_model.specs.Settled.{exchange, Wants, Rests, Exchanges, Turns, OneWay, LeadsOn}
use Rattle.world_model.specs.World.{World}

wants_or_rests : (w : World) (name : RecordName) → Wants w name → Rests w name → ⊥
wants_or_rests w name (request, asks) rests = let clash : Some Nothing ≡ Some (Send request) = sym rests ∙ asks in cc

same_exchanges : (m n : ℕ) (w : World) (name : RecordName) (u v : World) → Exchanges w name m u → Rests u name → Exchanges w name n v → Rests v name → (m ≡ n) × (u ≡ v)
same_exchanges zero zero w name u v to_u u_rests to_v v_rests = (refl, to_u ∙ sym to_v)
same_exchanges zero (suc n) w name u v to_u u_rests to_v v_rests = absurd (wants_or_rests w name to_v.0 (subst (λ (x : World). Rests x name) to_u u_rests))
same_exchanges (suc m) zero w name u v to_u u_rests to_v v_rests = absurd (wants_or_rests w name to_u.0 (subst (λ (x : World). Rests x name) to_v v_rests))
same_exchanges (suc m) (suc n) w name u v to_u u_rests to_v v_rests =
    let (count, world) = same_exchanges m n (exchange w name) name u v to_u.1 u_rests to_v.1 v_rests in
    (ap suc count, world)

same_turns : (names : List RecordName) (w : World) (m n : ℕ) (u v : World) → Turns w names m u → Turns w names n v → (m ≡ n) × (u ≡ v)
same_turns [] w m n u v to_u to_v = (to_u.1 ∙ sym to_v.1, to_u.0 ∙ sym to_v.0)
same_turns (name ∷ names) w m n u v to_u to_v =
    let (here, there, x, within, exchanges, rests, turns, count) = to_u in
    let (here', there', y, within', exchanges', rests', turns', count') = to_v in
    let (same_here, same_world) = same_exchanges here here' w name x y exchanges rests exchanges' rests' in
    let later : Turns x names there' v = subst (λ (z : World). Turns z names there' v) (sym same_world) turns' in
    let (same_there, same) = same_turns names x there there' u v turns later in
    (omega (arith, count, count', same_here, same_there), same)

pub one_way : OneWay
one_way w names m n u v to_u to_v = same_turns names w m n u v to_u to_v

pub leads_on : LeadsOn
leads_on w name zero n u v made all rests = (n, omega arith, subst (λ (x : World). Exchanges x name n v) (sym made) all)
leads_on w name (suc m) zero u v made all rests = absurd (wants_or_rests w name made.0 (subst (λ (x : World). Rests x name) all rests))
leads_on w name (suc m) (suc n) u v made all rests =
    let (left, count, more) = leads_on (exchange w name) name m n u v made.1 all.1 rests in
    (left, omega (arith, count), more)
