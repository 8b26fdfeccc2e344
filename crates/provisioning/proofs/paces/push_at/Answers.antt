use Rattle.std.proofs.Common.{[], ap, arith, Err, inl, inr, refl, ◌∙◌}
use Rattle.std.proofs.lemmas.Result.{err_from_is_err_and}
use Rattle.std.proofs.lemmas.List.Sums.{prefix_len-le-length}
use Rattle.std.specs.List.{prefix_len}
use Rattle.provisioning.specs.Abreast.{is_user}
use Rattle.provisioning.specs.Windows.{window_of}
use Rattle.provisioning.proofs.AbreastLemmas.{both_of, both_onward}
use Rattle.provisioning.proofs.ListLemmas.{adds_none}
use Rattle.provisioning.proofs.OnwardLemmas.{onward_still}
use Rattle.provisioning.proofs.paces.push_at.Goals as goal

pub split_off-requires : goal.split_off-requires
split_off-requires g c = omega (arith, prefix_len-le-length is_user c.as_slice.result.now, c.users_in-count.ensures, c.as_slice.ensures.len, c.from_vec-users.ensures.len)

pub returns-in_err-names-clause-pushes : goal.returns-in_err-names-clause-pushes
returns-in_err-names-clause-pushes g c =
    let p = err_from_is_err_and c.from_residual.result c.from_residual.ensures.1 in
    rw (p.1, p.2) ([], adds_none (g.D.Dial.opened c.args.dial.now), inr (refl, ap Err c.in_err-names.ensures.fault, refl))

pub returns-in_err-names-clause-onward : goal.returns-in_err-names-clause-onward
returns-in_err-names-clause-onward g c = onward_still c.args.connector.now.book

pub returns-in_err-groups-clause-pushes : goal.returns-in_err-groups-clause-pushes
returns-in_err-groups-clause-pushes g c =
    let p = err_from_is_err_and c.from_residual-in_err-groups.result c.from_residual-in_err-groups.ensures.1 in
    rw p.1 ([], adds_none (g.D.Dial.opened c.args.dial.now), inr (refl, ap Err p.2, refl))

pub returns-in_err-groups-clause-onward : goal.returns-in_err-groups-clause-onward
returns-in_err-groups-clause-onward g c = onward_still c.args.connector.now.book

pub returns-clause-pushes : goal.returns-clause-pushes
returns-clause-pushes g c =
    let b = c.push_both.ensures in (
      b.0,
      b.1,
      inl (
        c.in_ok-names.names.items,
        c.in_ok-names.ensures.order,
        both_of g.D.Reader.Read.remaining g.D.Writer.Write.contents g.J.Journal c.args.service.now (window_of c.args.pace.streams) c.args.pace.give_up_after c.in_ok-names.names.items c.from_vec-users.result.items c.split_off.new.self.items c.in_ok-groups.groups.items c.users_in-count.result
            b.0 c.args.connector.now c.push_both.new.connector (g.T.Tell.told c.args.teller.now) (g.T.Tell.told c.push_both.new.teller) c.push_both.result
            c.from_vec-users.ensures.items c.in_ok-groups.ensures.items c.in_ok-groups.ensures.tail (c.users_in-count.ensures ∙ ap (prefix_len is_user) c.as_slice.ensures.value) b.2,
      ),
    )

pub returns-clause-onward : goal.returns-clause-onward
returns-clause-onward g c =
    let b = c.push_both.ensures in
    both_onward g.D.Reader.Read.remaining g.D.Writer.Write.contents g.J.Journal c.args.service.now (window_of c.args.pace.streams) c.args.pace.give_up_after c.split_off.new.self.items c.in_ok-groups.groups.items
    b.0 c.args.connector.now c.push_both.new.connector (g.T.Tell.told c.args.teller.now) (g.T.Tell.told c.push_both.new.teller) c.push_both.result b.2
