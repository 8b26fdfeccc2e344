use Rattle.std.proofs.Common.{◌<◌, ◌++◌, length, Ok, Err, arith}
use Rattle.std.proofs.lemmas.Result.{err_from_is_err_and}
use Rattle.provisioning.proofs.ListLemmas.{adds_more}
use Rattle.provisioning.proofs.WindowLemmas.{begins_last, begins_not, goes_more, scene}
use Rattle.provisioning.specs.Windows.{beside, scene_of}
use Rattle.provisioning.proofs.windows.fill.Goals as goal

pub returns-in_err-track : goal.returns-in_err-track
returns-in_err-track g c =
    let p = err_from_is_err_and c.from_residual.result c.from_residual.ensures.1 in
    let so = c.loop-alloc.invariant in
    let b = c.in_err-track.ensures in
    let room : length c.loop-alloc.window.tracks.items < beside c.args.streams = omega (arith, c.loop-alloc-test.ensures.window, c.loop-alloc.window.tracks.ok.0) in
    rw (p.1, p.2) (
      so.0 ++ b.0,
      adds_more (g.D.Dial.opened c.args.dial.now) (g.D.Dial.opened c.loop-alloc.dial) (g.D.Dial.opened c.begin.new.dial) so.0 b.0 so.1 b.1,
      goes_more g.D.Reader.Read.remaining g.D.Writer.Write.contents g.J.Journal c.args.service.now (beside c.args.streams) so.0 b.0 (scene_of c.args.window.now c.args.connector.now) (scene_of c.loop-alloc.window c.args.connector.now)
          (scene c.begin.new.waiting.items c.loop-alloc.window.tracks.items c.args.connector.now) (Err c.in_err-track.field-0.0) so.2
          (begins_not g.D.Reader.Read.remaining g.D.Writer.Write.contents g.J.Journal c.args.service.now (beside c.args.streams) b.0 c.loop-alloc.window.waiting.items c.begin.new.waiting.items c.loop-alloc.window.tracks.items c.args.connector.now c.in_err-track.field-0.0 room b.2),
    )

pub loop-alloc-preserved : goal.loop-alloc-preserved
loop-alloc-preserved g c =
    let so = c.loop-alloc.invariant in
    let b = c.in_ok-track.ensures in
    let room : length c.loop-alloc.window.tracks.items < beside c.args.streams = omega (arith, c.loop-alloc-test.ensures.window, c.loop-alloc.window.tracks.ok.0) in (
      so.0 ++ b.0,
      adds_more (g.D.Dial.opened c.args.dial.now) (g.D.Dial.opened c.loop-alloc.dial) (g.D.Dial.opened c.begin.new.dial) so.0 b.0 so.1 b.1,
      goes_more g.D.Reader.Read.remaining g.D.Writer.Write.contents g.J.Journal c.args.service.now (beside c.args.streams) so.0 b.0 (scene_of c.args.window.now c.args.connector.now) (scene_of c.loop-alloc.window c.args.connector.now)
          (scene c.begin.new.waiting.items c.push_back_reserved.new.self.items c.args.connector.now) (Ok tt) so.2
          (begins_last g.D.Reader.Read.remaining g.D.Writer.Write.contents g.J.Journal c.args.service.now (beside c.args.streams) b.0 c.loop-alloc.window.waiting.items c.begin.new.waiting.items c.loop-alloc.window.tracks.items c.push_back_reserved.new.self.items c.args.connector.now
          c.in-Some.track c.in_ok-track.field-0 room c.in-Some.is c.push_back_reserved.ensures.items b.2),
    )
