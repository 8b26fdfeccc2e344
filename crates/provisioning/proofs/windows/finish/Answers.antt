use Rattle.std.proofs.Common.{[], ◌++◌, arith}
use Rattle.std.proofs.lemmas.Result.{err_from_is_err_and}
use Rattle.provisioning.proofs.ListLemmas.{adds_more, adds_none}
use Rattle.provisioning.proofs.WindowLemmas.{beside_kept, beside_lost, fewer_left, finishing_done, finishing_steps, finishing_none, finishing_stopped, kept_is}
use Rattle.provisioning.specs.Windows.{beside, scene_of, window_of}
use Rattle.provisioning.proofs.windows.finish.Goals as goal

pub loop-first-init : goal.loop-first-init
loop-first-init g c = ([], adds_none (g.D.Dial.opened c.args.dial.now), finishing_none g.D.Reader.Read.remaining g.D.Writer.Write.contents g.J.Journal c.args.service.now (window_of c.args.streams) c.args.first (scene_of c.args.window.now c.args.connector.now))

pub returns-in_err-first : goal.returns-in_err-first
returns-in_err-first g c =
    let p = err_from_is_err_and c.from_residual.result c.from_residual.ensures.1 in
    let so = c.loop-first.invariant in
    let f = c.fill-filled.ensures in
    rw (p.1, p.2) (
      so.0 ++ f.0,
      adds_more (g.D.Dial.opened c.args.dial.now) (g.D.Dial.opened c.loop-first.dial) (g.D.Dial.opened c.fill-filled.new.dial) so.0 f.0 so.1 f.1,
      beside_lost g.D.Reader.Read.remaining g.D.Writer.Write.contents g.J.Journal c.args.service.now (window_of c.args.streams) (beside c.args.streams) (omega arith) so.0 f.0 c.args.first (scene_of c.args.window.now c.args.connector.now) c.loop-first.first (scene_of c.loop-first.window c.loop-first.connector) (scene_of c.fill-filled.new.window c.loop-first.connector) c.keep.new.connector c.fill-filled.result c.in_err-first.field-0.0 so.2 f.2 c.in_err-first.ensures,
    )

pub returns-in_err-track : goal.returns-in_err-track
returns-in_err-track g c =
    let p = err_from_is_err_and c.from_residual-in_err-track.result c.from_residual-in_err-track.ensures.1 in
    let so = c.loop-first.invariant in
    let f = c.fill-filled.ensures in
    let a = c.in_err-track.ensures in
    let kept = beside_kept g.D.Reader.Read.remaining g.D.Writer.Write.contents g.J.Journal c.args.service.now (window_of c.args.streams) (beside c.args.streams) (omega arith) so.0 f.0 c.args.first (scene_of c.args.window.now c.args.connector.now) c.loop-first.first c.in_ok-first.first (scene_of c.loop-first.window c.loop-first.connector) (scene_of c.fill-filled.new.window c.loop-first.connector) c.keep.new.connector c.fill-filled.result so.2 f.2 c.in_ok-first.ensures in
    rw (p.1, p.2) (
      (so.0 ++ f.0) ++ a.0,
      adds_more (g.D.Dial.opened c.args.dial.now) (g.D.Dial.opened c.fill-filled.new.dial) (g.D.Dial.opened c.advance_first.new.dial) (so.0 ++ f.0) a.0 (adds_more (g.D.Dial.opened c.args.dial.now) (g.D.Dial.opened c.loop-first.dial) (g.D.Dial.opened c.fill-filled.new.dial) so.0 f.0 so.1 f.1) a.1,
      finishing_stopped g.D.Reader.Read.remaining g.D.Writer.Write.contents g.J.Journal c.args.service.now (window_of c.args.streams) (so.0 ++ f.0) a.0 c.args.first (scene_of c.args.window.now c.args.connector.now) c.in_ok-first.first (scene_of c.fill-filled.new.window c.keep.new.connector) c.advance_first.new.connector c.in_err-track.field-0.0 kept a.2,
    )

pub returns-in-Done : goal.returns-in-Done
returns-in-Done g c =
    let so = c.loop-first.invariant in
    let f = c.fill-filled.ensures in
    let a = c.in_ok-track.ensures in
    let kept = beside_kept g.D.Reader.Read.remaining g.D.Writer.Write.contents g.J.Journal c.args.service.now (window_of c.args.streams) (beside c.args.streams) (omega arith) so.0 f.0 c.args.first (scene_of c.args.window.now c.args.connector.now) c.loop-first.first c.in_ok-first.first (scene_of c.loop-first.window c.loop-first.connector) (scene_of c.fill-filled.new.window c.loop-first.connector) c.keep.new.connector c.fill-filled.result so.2 f.2 c.in_ok-first.ensures in
    let next = finishing_steps g.D.Reader.Read.remaining g.D.Writer.Write.contents g.J.Journal c.args.service.now (window_of c.args.streams) c.loop-first.turns c.in_ok-track.left (so.0 ++ f.0) a.0 c.args.first (scene_of c.args.window.now c.args.connector.now) c.in_ok-first.first c.in_ok-track.track (scene_of c.fill-filled.new.window c.keep.new.connector) c.advance_first.new.connector kept a.2 in (
      (so.0 ++ f.0) ++ a.0,
      adds_more (g.D.Dial.opened c.args.dial.now) (g.D.Dial.opened c.fill-filled.new.dial) (g.D.Dial.opened c.advance_first.new.dial) (so.0 ++ f.0) a.0 (adds_more (g.D.Dial.opened c.args.dial.now) (g.D.Dial.opened c.loop-first.dial) (g.D.Dial.opened c.fill-filled.new.dial) so.0 f.0 so.1 f.1) a.1,
      finishing_done g.D.Reader.Read.remaining g.D.Writer.Write.contents g.J.Journal c.args.service.now (window_of c.args.streams) ((so.0 ++ f.0) ++ a.0) c.args.first (scene_of c.args.window.now c.args.connector.now) c.in_ok-track.track c.in-Done.account c.in-Done.standing (scene_of c.fill-filled.new.window c.advance_first.new.connector) c.done.result next c.in-Done.is c.done.ensures,
    )

pub returns-in_err-first-2 : goal.returns-in_err-first-2
returns-in_err-first-2 g c =
    let p = err_from_is_err_and c.from_residual-in_err-first-2.result c.from_residual-in_err-first-2.ensures.1 in
    let so = c.loop-first.invariant in
    let f = c.fill-filled.ensures in
    let a = c.in_ok-track.ensures in
    let o = c.advance_others-advanced.ensures in
    let kept = beside_kept g.D.Reader.Read.remaining g.D.Writer.Write.contents g.J.Journal c.args.service.now (window_of c.args.streams) (beside c.args.streams) (omega arith) so.0 f.0 c.args.first (scene_of c.args.window.now c.args.connector.now) c.loop-first.first c.in_ok-first.first (scene_of c.loop-first.window c.loop-first.connector) (scene_of c.fill-filled.new.window c.loop-first.connector) c.keep.new.connector c.fill-filled.result so.2 f.2 c.in_ok-first.ensures in
    let next = finishing_steps g.D.Reader.Read.remaining g.D.Writer.Write.contents g.J.Journal c.args.service.now (window_of c.args.streams) c.loop-first.turns c.in_ok-track.left (so.0 ++ f.0) a.0 c.args.first (scene_of c.args.window.now c.args.connector.now) c.in_ok-first.first c.in_ok-track.track (scene_of c.fill-filled.new.window c.keep.new.connector) c.advance_first.new.connector kept a.2 in
    rw (p.1, p.2) (
      ((so.0 ++ f.0) ++ a.0) ++ o.0,
      adds_more (g.D.Dial.opened c.args.dial.now) (g.D.Dial.opened c.advance_first.new.dial) (g.D.Dial.opened c.advance_others-advanced.new.dial) ((so.0 ++ f.0) ++ a.0) o.0 (adds_more (g.D.Dial.opened c.args.dial.now) (g.D.Dial.opened c.fill-filled.new.dial) (g.D.Dial.opened c.advance_first.new.dial) (so.0 ++ f.0) a.0 (adds_more (g.D.Dial.opened c.args.dial.now) (g.D.Dial.opened c.loop-first.dial) (g.D.Dial.opened c.fill-filled.new.dial) so.0 f.0 so.1 f.1) a.1) o.1,
      beside_lost g.D.Reader.Read.remaining g.D.Writer.Write.contents g.J.Journal c.args.service.now (window_of c.args.streams) 0 (omega arith) ((so.0 ++ f.0) ++ a.0) o.0 c.args.first (scene_of c.args.window.now c.args.connector.now) c.in_ok-track.track (scene_of c.fill-filled.new.window c.advance_first.new.connector) (scene_of c.advance_others-advanced.new.window c.advance_others-advanced.new.connector) c.keep-in-loop-first.new.connector c.advance_others-advanced.result c.in_err-first-2.field-0.0 next o.2 c.in_err-first-2.ensures,
    )

pub loop-first-preserved : goal.loop-first-preserved
loop-first-preserved g c =
    let so = c.loop-first.invariant in
    let f = c.fill-filled.ensures in
    let a = c.in_ok-track.ensures in
    let o = c.advance_others-advanced.ensures in
    let kept = beside_kept g.D.Reader.Read.remaining g.D.Writer.Write.contents g.J.Journal c.args.service.now (window_of c.args.streams) (beside c.args.streams) (omega arith) so.0 f.0 c.args.first (scene_of c.args.window.now c.args.connector.now) c.loop-first.first c.in_ok-first.first (scene_of c.loop-first.window c.loop-first.connector) (scene_of c.fill-filled.new.window c.loop-first.connector) c.keep.new.connector c.fill-filled.result so.2 f.2 c.in_ok-first.ensures in
    let next = finishing_steps g.D.Reader.Read.remaining g.D.Writer.Write.contents g.J.Journal c.args.service.now (window_of c.args.streams) c.loop-first.turns c.in_ok-track.left (so.0 ++ f.0) a.0 c.args.first (scene_of c.args.window.now c.args.connector.now) c.in_ok-first.first c.in_ok-track.track (scene_of c.fill-filled.new.window c.keep.new.connector) c.advance_first.new.connector kept a.2 in (
      ((so.0 ++ f.0) ++ a.0) ++ o.0,
      adds_more (g.D.Dial.opened c.args.dial.now) (g.D.Dial.opened c.advance_first.new.dial) (g.D.Dial.opened c.advance_others-advanced.new.dial) ((so.0 ++ f.0) ++ a.0) o.0 (adds_more (g.D.Dial.opened c.args.dial.now) (g.D.Dial.opened c.fill-filled.new.dial) (g.D.Dial.opened c.advance_first.new.dial) (so.0 ++ f.0) a.0 (adds_more (g.D.Dial.opened c.args.dial.now) (g.D.Dial.opened c.loop-first.dial) (g.D.Dial.opened c.fill-filled.new.dial) so.0 f.0 so.1 f.1) a.1) o.1,
      beside_kept g.D.Reader.Read.remaining g.D.Writer.Write.contents g.J.Journal c.args.service.now (window_of c.args.streams) 0 (omega arith) ((so.0 ++ f.0) ++ a.0) o.0 c.args.first (scene_of c.args.window.now c.args.connector.now) c.in_ok-track.track c.in_ok-first-2.first (scene_of c.fill-filled.new.window c.advance_first.new.connector) (scene_of c.advance_others-advanced.new.window c.advance_others-advanced.new.connector) c.keep-in-loop-first.new.connector c.advance_others-advanced.result next o.2 c.in_ok-first-2.ensures,
    )

pub loop-first-smaller : goal.loop-first-smaller
loop-first-smaller g c =
    fewer_left g.D.Reader.Read.remaining g.D.Writer.Write.contents g.J.Journal c.args.service.now c.loop-first.turns c.in_ok-track.left c.loop-first.first c.in_ok-first.first c.in_ok-track.ensures.0 c.keep.new.connector c.advance_first.new.connector c.in_ok-track.track c.in_ok-first-2.first
    (kept_is g.D.Reader.Read.remaining g.J.Journal c.args.service.now c.loop-first.first c.in_ok-first.first c.fill-filled.result c.loop-first.connector c.keep.new.connector c.in_ok-first.ensures)
    (kept_is g.D.Reader.Read.remaining g.J.Journal c.args.service.now c.in_ok-track.track c.in_ok-first-2.first c.advance_others-advanced.result c.advance_others-advanced.new.connector c.keep-in-loop-first.new.connector c.in_ok-first-2.ensures)
    c.in_default.not-Done c.in_ok-track.ensures.2
