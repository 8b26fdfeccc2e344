use Rattle.std.proofs.Common.{◌≡◌, ◌≢◌, ◌-◌, rules}
use Rattle.std.specs.List.{slice_get}
use Rattle.std.specs.Option.{option_copied}
use Rattle.core.proofs.slice.Searches.{copied_from_item}
use Rattle.world_sim.proofs.Steps.{said_at, bytes_at}
use Rattle.world_sim.proofs.messages.sent_at.Goals as goal

pub returns-clause-said : goal.returns-clause-said
returns-clause-said c =
    let some : c.args.number ≢ 0 = search rules in
    let found : option_copied c.get.result ≡ slice_get c.args.sent.now (c.args.number - 1) = copied_from_item c.args.sent.now (c.args.number - 1) (c.args.number - 1) c.get.result (λ l. l) (λ l. l) c.get.ensures.lookup in
    said_at c.args.sent.now c.args.number (option_copied c.get.result) some found

pub returns-clause-text : goal.returns-clause-text
returns-clause-text c =
    let some : c.args.number ≢ 0 = search rules in
    let found : option_copied c.get.result ≡ slice_get c.args.sent.now (c.args.number - 1) = copied_from_item c.args.sent.now (c.args.number - 1) (c.args.number - 1) c.get.result (λ l. l) (λ l. l) c.get.ensures.lookup in
    bytes_at c.args.sent.now c.args.number (option_copied c.get.result) some found
