use Rattle.std.proofs.Common.{◌∙◌}
use Rattle.std.proofs.lemmas.Result.{err_from_is_err_and}
use Rattle.connector_core.specs.Maps.{book_of}
use Rattle.checking.proofs.CheckLemmas.{all_wait, ends_unsent, ends_untold, finishes, goes_on, none_in}
use Rattle.checking.proofs.running.check_names.Goals as goal

pub loop-name-init : goal.loop-name-init
loop-name-init g c = all_wait g.T.TellFinding.note g.D.Reader.Read.remaining g.D.Writer.Write.contents c.args.service.now
    (book_of c.args.connector.now.book) (g.D.Dial.opened c.args.dial.now) c.args.waiting.items
    (g.T.TellFinding.noted c.args.teller.now) c.new-counts.result c.new-under_way.result.items c.new-counts.ensures
    c.new-under_way.ensures.items

pub returns-in_err-counts : goal.returns-in_err-counts
returns-in_err-counts g c =
    let p = err_from_is_err_and c.from_residual.result c.from_residual.ensures.1 in
    ends_untold g.T.TellFinding.note g.D.Reader.Read.remaining g.D.Writer.Write.contents c.args.service.now
    (book_of c.args.connector.now.book) (g.D.Dial.opened c.args.dial.now) (g.D.Dial.opened c.loop-name.dial)
    c.args.waiting.items c.loop-name.waiting.items (g.T.TellFinding.noted c.args.teller.now)
    (g.T.TellFinding.noted c.loop-name.teller) (g.T.TellFinding.noted c.make_room.new.teller) c.loop-name.counts
    c.loop-name.under_way.items c.in_err-counts.field-0.0 p.0 c.from_residual.result p.1 p.2 c.in_err-counts.ensures
    c.loop-name.invariant

pub loop-name-preserved : goal.loop-name-preserved
loop-name-preserved g c = goes_on g.T.TellFinding.note g.D.Reader.Read.remaining g.D.Writer.Write.contents c.args.service.now
    (book_of c.args.connector.now.book) (g.D.Dial.opened c.args.dial.now) (g.D.Dial.opened c.loop-name.dial)
    (g.D.Dial.opened c.send.new.dial) c.args.waiting.items c.loop-name.waiting.items c.pop_front.new.self.items
    c.in-Some.name (g.T.TellFinding.noted c.args.teller.now) (g.T.TellFinding.noted c.loop-name.teller)
    (g.T.TellFinding.noted c.make_room.new.teller) c.loop-name.counts c.in_ok-counts.counts
    c.loop-name.under_way.items c.make_room.new.under_way.items c.send.new.under_way.items c.in-Some.ensures.items
    c.loop-name.invariant c.in_ok-counts.ensures c.in_ok-send.ensures

pub returns-in_err-send : goal.returns-in_err-send
returns-in_err-send g c =
    let p = err_from_is_err_and c.from_residual-in_err-send.result c.from_residual-in_err-send.ensures.1 in
    ends_unsent g.T.TellFinding.note g.D.Reader.Read.remaining g.D.Writer.Write.contents c.args.service.now
    (book_of c.args.connector.now.book) (g.D.Dial.opened c.args.dial.now) (g.D.Dial.opened c.loop-name.dial)
    (g.D.Dial.opened c.send.new.dial) c.args.waiting.items c.loop-name.waiting.items
    (g.T.TellFinding.noted c.args.teller.now) (g.T.TellFinding.noted c.loop-name.teller)
    (g.T.TellFinding.noted c.make_room.new.teller) (g.T.TellFinding.noted c.make_room.new.teller) c.loop-name.counts
    c.in_ok-counts.counts c.loop-name.under_way.items c.make_room.new.under_way.items c.in_err-send.field-0.0 p.0
    c.from_residual-in_err-send.result p.1 p.2 c.loop-name.invariant c.in_ok-counts.ensures c.in_err-send.ensures

pub returns : goal.returns
returns g c = finishes g.T.TellFinding.note g.D.Reader.Read.remaining g.D.Writer.Write.contents c.args.service.now
    (book_of c.args.connector.now.book) (g.D.Dial.opened c.args.dial.now) (g.D.Dial.opened c.loop-name.dial)
    c.args.waiting.items c.loop-name.waiting.items (g.T.TellFinding.noted c.args.teller.now)
    (g.T.TellFinding.noted c.loop-name.teller) (g.T.TellFinding.noted c.report_rest.new.teller) c.loop-name.counts
    c.loop-name.under_way.items c.report_rest.result
    (none_in c.loop-name.waiting.items (c.in_default.ensures.items ∙ c.in_default.ensures.rest)) c.loop-name.invariant c.report_rest.ensures
