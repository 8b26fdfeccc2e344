use Rattle.std.proofs.Common.{◌≡◌, ◌+◌, drop}
use Rattle.std.specs.List.{prefix_len}
use Rattle.provisioning.specs.Abreast.{is_user}
use Rattle.provisioning.proofs.paces.users_in.Given as goal

-- all records so far are users
abbrev pub invariant-loop-place : goal.invariant-loop-place
invariant-loop-place l = prefix_len is_user l.names ≡ l.place + prefix_len is_user (drop l.place l.names)
