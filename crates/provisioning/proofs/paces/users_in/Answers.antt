use Rattle.std.proofs.Common.{◌≡◌, ◌+◌, ◌∙◌, drop, ap, arith, sym}
use Rattle.std.proofs.lemmas.List.Sums.{prefix_len-drop_no, prefix_len-drop_yes}
use Rattle.std.specs.List.{prefix_len}
use Rattle.provisioning.specs.Abreast.{is_of_user, is_user}
use Rattle.provisioning.proofs.paces.users_in.Goals as goal

pub returns-in-Group : goal.returns-in-Group
returns-in-Group c =
    let none : prefix_len is_user (drop c.loop-place.place c.args.names.now) ≡ 0 = prefix_len-drop_no is_user c.args.names.now c.loop-place.place c.index-names-place.result c.loop-place-test.true (ap is_user (sym c.index-names-place.is) ∙ ap is_of_user c.in-Group.is) in
    omega (arith, c.loop-place.invariant, none)

pub loop-place-preserved : goal.loop-place-preserved
loop-place-preserved c =
    let one : prefix_len is_user (drop c.loop-place.place c.args.names.now) ≡ 1 + prefix_len is_user (drop (c.loop-place.place + 1) c.args.names.now) = prefix_len-drop_yes is_user c.args.names.now c.loop-place.place c.index-names-place.result c.loop-place-test.true (ap is_user (sym c.index-names-place.is) ∙ ap is_of_user c.in-User.is) in
    omega (arith, c.loop-place.invariant, one)
