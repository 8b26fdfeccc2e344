use Rattle.std.proofs.Common.{◌≡◌, rules}
use Rattle.std.proofs.lemmas.Result.{err_from_is_err_and}
use Rattle.scim_resource.specs.Contents.{content_name}
use Rattle.provider_core.specs.Rows.{row_named}
use Rattle.provider_core.specs.Stores.{LeavesNoMore}
use Rattle.world_sim.specs.Acts.{write_of, write_request}
use Rattle.world_sim.specs.GoingOn.{unknown_entries}
use Rattle.world_sim.specs.declared.reports.WorldFault.TheVariants.{Memory}
use Rattle.world_sim.proofs.Acts.{fails_told, theirs_to_read}
use Rattle.world_sim.proofs.worlds.World.write.Goals as goal

pub returns-in_err-request-clause-fails : goal.returns-in_err-request-clause-fails
returns-in_err-request-clause-fails g c =
    let r = g.R.Registry in
    let before = c.args.self.now.provider in
    let after = c.row_of.new.self in
    let honest : r.is_honest after → r.is_honest before = search rules in
    let was : r.is_faithful after → r.is_faithful before = search rules in
    let same : r.is_faithful after → r.rows after ≡ r.rows before = search rules in
    let stop : r.is_honest after → LeavesNoMore (r.may_hold before) (r.may_hold after) = search rules in
    let counted : r.faults after ≡ r.faults before = search rules in
    let p = err_from_is_err_and c.from_residual-in_err-request.result c.from_residual-in_err-request.ensures.1 in
    rw (p.1, p.2) (theirs_to_read r g.J.Journal c.args.self.now after (write_of (r.rows before) c.args.content) Memory honest was same stop counted)

pub returns-clause-fails : goal.returns-clause-fails
returns-clause-fails g c =
    let r = g.R.Registry in
    let before = c.args.self.now.provider in
    let after = c.row_of.new.self in
    let honest : r.is_honest after → r.is_honest before = search rules in
    let was : r.is_faithful after → r.is_faithful before = search rules in
    let same : r.is_faithful after → r.rows after ≡ r.rows before = search rules in
    let stop : r.is_honest after → LeavesNoMore (r.may_hold before) (r.may_hold after) = search rules in
    let counted : r.faults after ≡ r.faults before = search rules in
    let opened : r.is_honest after → r.is_faithful after = search rules in
    let finds : r.is_faithful after → c.in_ok-row.row ≡ row_named (content_name c.args.content) (r.rows before) = search rules in
    let is : c.in_ok-request.request ≡ write_request c.in_ok-row.row c.args.content = search rules in
    fails_told r g.J.Journal c.args.self.now after (record { honest = honest; was = was; same = same; opened = opened; stop = stop; counted = counted })
    c.arrive.new.self c.in_ok-row.row c.args.content c.in_ok-request.request finds is c.arrive.result c.arrive.ensures.fails

pub returns-in_err-request-clause-fails_on : goal.returns-in_err-request-clause-fails_on
returns-in_err-request-clause-fails_on g c =
    let r = g.R.Registry in
    let before = c.args.self.now.provider in
    let after = c.row_of.new.self in
    let honest : r.is_honest after → r.is_honest before = search rules in
    let was : r.is_faithful after → r.is_faithful before = search rules in
    let same : r.is_faithful after → r.rows after ≡ r.rows before = search rules in
    let stop : r.is_honest after → LeavesNoMore (r.may_hold before) (r.may_hold after) = search rules in
    let counted : r.faults after ≡ r.faults before = search rules in
    let p = err_from_is_err_and c.from_residual-in_err-request.result c.from_residual-in_err-request.ensures.1 in
    rw (p.1, p.2) (theirs_to_read r (unknown_entries g.J.Journal) c.args.self.now after (write_of (r.rows before) c.args.content) Memory honest was same stop counted)

pub returns-clause-fails_on : goal.returns-clause-fails_on
returns-clause-fails_on g c =
    let r = g.R.Registry in
    let before = c.args.self.now.provider in
    let after = c.row_of.new.self in
    let honest : r.is_honest after → r.is_honest before = search rules in
    let was : r.is_faithful after → r.is_faithful before = search rules in
    let same : r.is_faithful after → r.rows after ≡ r.rows before = search rules in
    let stop : r.is_honest after → LeavesNoMore (r.may_hold before) (r.may_hold after) = search rules in
    let counted : r.faults after ≡ r.faults before = search rules in
    let opened : r.is_honest after → r.is_faithful after = search rules in
    let finds : r.is_faithful after → c.in_ok-row.row ≡ row_named (content_name c.args.content) (r.rows before) = search rules in
    let is : c.in_ok-request.request ≡ write_request c.in_ok-row.row c.args.content = search rules in
    fails_told r (unknown_entries g.J.Journal) c.args.self.now after (record { honest = honest; was = was; same = same; opened = opened; stop = stop; counted = counted })
    c.arrive.new.self c.in_ok-row.row c.args.content c.in_ok-request.request finds is c.arrive.result c.arrive.ensures.fails_on
