use Rattle.std.proofs.Common.{◌≡◌, ◌∙◌, IfOk, rules, subst}
use Rattle.std.proofs.lemmas.Result.{IfOk-weaker}
use Rattle.provider_core.specs.Rows.{row_named}
use Rattle.source_csv.specs.Records.{members_of, row_name}
use Rattle.mapping.specs.Images.{imaged}
use Rattle.world_sim.specs.Imaging.{HasIdsOf, looked_up, request_told}
use Rattle.world_sim.proofs.RowRequests.{told_same}
use Rattle.world_sim.proofs.imaging.row_request.Goals as goal

pub returns-clause-request : goal.returns-clause-request
returns-clause-request g c = λ faithful.
    let r = g.R.Registry in
    let before = c.args.provider.now in
    let mid = c.row_of.new.self in
    let row = c.args.row.now in
    let found = c.in_ok-ids.ids.ids in
    let same : r.is_faithful mid → r.rows mid ≡ r.rows before = search rules in
    let held : r.is_faithful mid → c.in_ok-held.held ≡ row_named (row_name row) (r.rows before) = search rules in
    let was = c.in_ok-ids.ensures.looks.was faithful in
    let has : HasIdsOf found (r.rows mid) (members_of row) = search rules in
    let asked : IfOk c.request_with.result (λ asks. asks ≡ request_told row c.in_ok-held.held (imaged (λ name. looked_up found name.key) row)) = search rules in
    IfOk-weaker c.request_with.result _ _ (λ asks is. is ∙ told_same row (r.rows before) c.in_ok-held.held found (held was) (subst (λ rows. HasIdsOf found rows (members_of row)) (same was) has)) asked
