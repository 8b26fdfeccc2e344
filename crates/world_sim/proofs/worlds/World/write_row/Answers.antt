use Rattle.std.proofs.Common.{◌≡◌, rules}
use Rattle.std.proofs.lemmas.Result.{IfErr-weaker, IfOk-weaker}
use Rattle.world_sim.specs.Imaging.{row_request}
use Rattle.world_sim.specs.declared.imaging.RowRequest.TheVariants as requests
use Rattle.world_sim.proofs.Amid.{asks_lead, row_unwritten, row_waits, row_written, waits_lead}
use Rattle.world_sim.proofs.worlds.World.write_row.Goals as goal

pub returns-in-Asks-clause-done : goal.returns-in-Asks-clause-done
returns-in-Asks-clause-done g c =
    let r = g.R.Registry in
    let reads = c.in_ok-member.ensures.reads in
    let finds : r.is_faithful c.row_request.new.provider → requests.Asks c.in-Asks.request ≡ row_request (r.rows c.args.self.now.provider) c.args.row.now = search rules in
    IfOk-weaker c.arrive_theirs.result _ _
    (λ said does. row_written r g.J.Journal c.args.self.now c.row_request.new.provider
    (record { honest = reads.honest; was = reads.was; same = reads.same; opened = reads.opened; stop = reads.stop; counted = reads.counted })
    c.args.row.now c.arrive_theirs.new.self c.in-Asks.request finds said does)
    c.arrive_theirs.ensures.done

pub returns-in-Asks-clause-fails : goal.returns-in-Asks-clause-fails
returns-in-Asks-clause-fails g c =
    let r = g.R.Registry in
    let reads = c.in_ok-member.ensures.reads in
    let finds : r.is_faithful c.row_request.new.provider → requests.Asks c.in-Asks.request ≡ row_request (r.rows c.args.self.now.provider) c.args.row.now = search rules in
    IfErr-weaker c.arrive_theirs.result _ _
    (λ fault fails. row_unwritten r g.J.Journal c.args.self.now c.row_request.new.provider
    (record { honest = reads.honest; was = reads.was; same = reads.same; opened = reads.opened; stop = reads.stop; counted = reads.counted })
    c.args.row.now c.arrive_theirs.new.self c.in-Asks.request finds fault fails)
    c.arrive_theirs.ensures.fails

pub returns-in-Waits-clause-done : goal.returns-in-Waits-clause-done
returns-in-Waits-clause-done g c =
    let r = g.R.Registry in
    let reads = c.in_ok-member.ensures.reads in
    let finds : r.is_faithful c.row_request.new.provider → requests.Waits c.in-Waits.member ≡ row_request (r.rows c.args.self.now.provider) c.args.row.now = search rules in
    row_waits r g.J.Journal c.args.self.now c.row_request.new.provider
    (record { honest = reads.honest; was = reads.was; same = reads.same; opened = reads.opened; stop = reads.stop; counted = reads.counted })
    c.args.row.now c.in-Waits.member finds

pub returns-in-Waits-clause-mirrors : goal.returns-in-Waits-clause-mirrors
returns-in-Waits-clause-mirrors g c =
    let r = g.R.Registry in
    let reads = c.in_ok-member.ensures.reads in
    let finds : r.is_faithful c.row_request.new.provider → requests.Waits c.in-Waits.member ≡ row_request (r.rows c.args.self.now.provider) c.args.row.now = search rules in
    waits_lead r g.J.Journal c.args.self.now c.row_request.new.provider
    (record { honest = reads.honest; was = reads.was; same = reads.same; opened = reads.opened; stop = reads.stop; counted = reads.counted })
    c.args.row.now c.in-Waits.member finds

pub returns-in-Asks-clause-mirrors : goal.returns-in-Asks-clause-mirrors
returns-in-Asks-clause-mirrors g c =
    let r = g.R.Registry in
    let reads = c.in_ok-member.ensures.reads in
    let finds : r.is_faithful c.row_request.new.provider → requests.Asks c.in-Asks.request ≡ row_request (r.rows c.args.self.now.provider) c.args.row.now = search rules in
    asks_lead r g.J.Journal c.args.self.now c.row_request.new.provider
    (record { honest = reads.honest; was = reads.was; same = reads.same; opened = reads.opened; stop = reads.stop; counted = reads.counted })
    c.args.row.now c.arrive_theirs.new.self c.in-Asks.request finds c.arrive_theirs.result c.arrive_theirs.ensures.done c.arrive_theirs.ensures.mirrors
