use Rattle.std.proofs.Common.{[], ◌++◌, arith, sym}
use Rattle.std.proofs.lemmas.Result.{err_from_is_err_and}
use Rattle.provisioning.proofs.ListLemmas.{adds_more, adds_none}
use Rattle.provisioning.proofs.WindowLemmas.{fewer_names, takes_this, through_all, through_given_up, through_left, through_next, through_none, through_stopped, through_untold}
use Rattle.provisioning.specs.Windows.{scene_of, window_of}
use Rattle.provisioning.proofs.windows.push_through.Goals as goal

pub loop-first-init : goal.loop-first-init
loop-first-init g c = ([], adds_none (g.D.Dial.opened c.args.dial.now), through_none g.D.Reader.Read.remaining g.D.Writer.Write.contents g.J.Journal c.args.service.now (window_of c.args.streams) c.args.limit (scene_of c.args.window.now c.args.connector.now) (g.T.Tell.told c.args.teller.now))

pub returns-in_err-first : goal.returns-in_err-first
returns-in_err-first g c =
    let p = err_from_is_err_and c.from_residual.result c.from_residual.ensures.1 in
    let so = c.loop-first.invariant in
    let t = c.in_err-first.ensures in
    rw (p.1, p.2) (so.0 ++ t.0, adds_more (g.D.Dial.opened c.args.dial.now) (g.D.Dial.opened c.loop-first.dial) (g.D.Dial.opened c.first_track.new.dial) so.0 t.0 so.1 t.1, through_stopped g.D.Reader.Read.remaining g.D.Writer.Write.contents g.J.Journal c.args.service.now (window_of c.args.streams) c.args.limit so.0 t.0 (scene_of c.args.window.now c.args.connector.now) (scene_of c.loop-first.window c.loop-first.connector) (scene_of c.first_track.new.window c.loop-first.connector) (g.T.Tell.told c.args.teller.now) (g.T.Tell.told c.loop-first.teller) c.loop-first.tally c.loop-first.streak c.in_err-first.field-0.0 so.2 (t.2 (window_of c.args.streams) (omega arith)))

pub returns-in_err-name : goal.returns-in_err-name
returns-in_err-name g c =
    let p = err_from_is_err_and c.from_residual-in_err-name.result c.from_residual-in_err-name.ensures.1 in
    let so = c.loop-first.invariant in
    let t = c.in_ok-first.ensures in
    let takes = t.2 (window_of c.args.streams) (omega arith) in
    let f = c.in_err-name.ensures in
    rw (p.1, p.2) (
      (so.0 ++ t.0) ++ f.0,
      adds_more (g.D.Dial.opened c.args.dial.now) (g.D.Dial.opened c.first_track.new.dial) (g.D.Dial.opened c.finish.new.dial) (so.0 ++ t.0) f.0 (adds_more (g.D.Dial.opened c.args.dial.now) (g.D.Dial.opened c.loop-first.dial) (g.D.Dial.opened c.first_track.new.dial) so.0 t.0 so.1 t.1) f.1,
      through_left g.D.Reader.Read.remaining g.D.Writer.Write.contents g.J.Journal c.args.service.now (window_of c.args.streams) c.args.limit so.0 t.0 f.0 (scene_of c.args.window.now c.args.connector.now) (scene_of c.loop-first.window c.loop-first.connector) (scene_of c.first_track.new.window c.loop-first.connector) (scene_of c.finish.new.window c.finish.new.connector) c.in-Some.first (g.T.Tell.told c.args.teller.now) (g.T.Tell.told c.loop-first.teller) c.loop-first.tally c.loop-first.streak c.in_err-name.field-0.0 so.2 (takes_this g.D.Reader.Read.remaining g.D.Writer.Write.contents g.J.Journal c.args.service.now (window_of c.args.streams) t.0 (scene_of c.loop-first.window c.loop-first.connector) (scene_of c.first_track.new.window c.loop-first.connector) c.in_ok-first.field-0 c.in-Some.first c.in-Some.is takes) f.2,
    )

pub returns-in_err-tell : goal.returns-in_err-tell
returns-in_err-tell g c =
    let p = err_from_is_err_and c.from_residual-in_err-tell.result c.from_residual-in_err-tell.ensures.1 in
    let so = c.loop-first.invariant in
    let t = c.in_ok-first.ensures in
    let takes = t.2 (window_of c.args.streams) (omega arith) in
    let f = c.in_ok-name.ensures in
    rw (p.1, p.2) (
      ((so.0 ++ t.0) ++ f.0) ++ [],
      adds_more (g.D.Dial.opened c.args.dial.now) (g.D.Dial.opened c.finish.new.dial) (g.D.Dial.opened c.finish.new.dial) ((so.0 ++ t.0) ++ f.0) [] (adds_more (g.D.Dial.opened c.args.dial.now) (g.D.Dial.opened c.first_track.new.dial) (g.D.Dial.opened c.finish.new.dial) (so.0 ++ t.0) f.0 (adds_more (g.D.Dial.opened c.args.dial.now) (g.D.Dial.opened c.loop-first.dial) (g.D.Dial.opened c.first_track.new.dial) so.0 t.0 so.1 t.1) f.1) (adds_none (g.D.Dial.opened c.finish.new.dial)),
      through_untold g.D.Reader.Read.remaining g.D.Writer.Write.contents g.J.Journal c.args.service.now (window_of c.args.streams) c.args.limit so.0 t.0 f.0 (scene_of c.args.window.now c.args.connector.now) (scene_of c.loop-first.window c.loop-first.connector) (scene_of c.first_track.new.window c.loop-first.connector) (scene_of c.finish.new.window c.finish.new.connector) c.in-Some.first (g.T.Tell.told c.args.teller.now) (g.T.Tell.told c.loop-first.teller) c.loop-first.tally c.loop-first.streak (c.in_ok-name.name, c.in_ok-name.pushed) c.in_err-tell.field-0.0 so.2 (takes_this g.D.Reader.Read.remaining g.D.Writer.Write.contents g.J.Journal c.args.service.now (window_of c.args.streams) t.0 (scene_of c.loop-first.window c.loop-first.connector) (scene_of c.first_track.new.window c.loop-first.connector) c.in_ok-first.field-0 c.in-Some.first c.in-Some.is takes) f.2 c.in_err-tell.ensures.fault,
    )

pub returns-in_err-go_on_after : goal.returns-in_err-go_on_after
returns-in_err-go_on_after g c =
    let p = err_from_is_err_and c.from_residual-in_err-go_on_after.result c.from_residual-in_err-go_on_after.ensures.1 in
    let so = c.loop-first.invariant in
    let t = c.in_ok-first.ensures in
    let takes = t.2 (window_of c.args.streams) (omega arith) in
    let f = c.in_ok-name.ensures in
    rw (p.1, p.2) (
      (so.0 ++ t.0) ++ f.0,
      adds_more (g.D.Dial.opened c.args.dial.now) (g.D.Dial.opened c.first_track.new.dial) (g.D.Dial.opened c.finish.new.dial) (so.0 ++ t.0) f.0 (adds_more (g.D.Dial.opened c.args.dial.now) (g.D.Dial.opened c.loop-first.dial) (g.D.Dial.opened c.first_track.new.dial) so.0 t.0 so.1 t.1) f.1,
      through_given_up g.D.Reader.Read.remaining g.D.Writer.Write.contents g.J.Journal c.args.service.now (window_of c.args.streams) c.args.limit so.0 t.0 f.0 (scene_of c.args.window.now c.args.connector.now) (scene_of c.loop-first.window c.loop-first.connector) (scene_of c.first_track.new.window c.loop-first.connector) (scene_of c.finish.new.window c.finish.new.connector) c.in-Some.first (g.T.Tell.told c.args.teller.now) (g.T.Tell.told c.loop-first.teller) c.loop-first.tally c.loop-first.streak c.streak_with-streak.result (c.in_ok-name.name, c.in_ok-name.pushed) c.in_err-go_on_after.field-0.0 so.2 (takes_this g.D.Reader.Read.remaining g.D.Writer.Write.contents g.J.Journal c.args.service.now (window_of c.args.streams) t.0 (scene_of c.loop-first.window c.loop-first.connector) (scene_of c.first_track.new.window c.loop-first.connector) c.in_ok-first.field-0 c.in-Some.first c.in-Some.is takes) f.2 c.streak_with-streak.ensures (sym c.in_err-go_on_after.ensures),
    )

pub loop-first-preserved : goal.loop-first-preserved
loop-first-preserved g c =
    let so = c.loop-first.invariant in
    let t = c.in_ok-first.ensures in
    let takes = t.2 (window_of c.args.streams) (omega arith) in
    let f = c.in_ok-name.ensures in (
      ((so.0 ++ t.0) ++ f.0) ++ [],
      adds_more (g.D.Dial.opened c.args.dial.now) (g.D.Dial.opened c.finish.new.dial) (g.D.Dial.opened c.finish.new.dial) ((so.0 ++ t.0) ++ f.0) [] (adds_more (g.D.Dial.opened c.args.dial.now) (g.D.Dial.opened c.first_track.new.dial) (g.D.Dial.opened c.finish.new.dial) (so.0 ++ t.0) f.0 (adds_more (g.D.Dial.opened c.args.dial.now) (g.D.Dial.opened c.loop-first.dial) (g.D.Dial.opened c.first_track.new.dial) so.0 t.0 so.1 t.1) f.1) (adds_none (g.D.Dial.opened c.finish.new.dial)),
      through_next g.D.Reader.Read.remaining g.D.Writer.Write.contents g.J.Journal c.args.service.now (window_of c.args.streams) c.args.limit so.0 t.0 f.0 (scene_of c.args.window.now c.args.connector.now) (scene_of c.loop-first.window c.loop-first.connector) (scene_of c.first_track.new.window c.loop-first.connector) (scene_of c.finish.new.window c.finish.new.connector) c.in-Some.first (g.T.Tell.told c.args.teller.now) (g.T.Tell.told c.loop-first.teller) (g.T.Tell.told c.tell.new.teller) c.loop-first.tally c.with-tally.result c.loop-first.streak c.streak_with-streak.result (c.in_ok-name.name, c.in_ok-name.pushed) so.2 (takes_this g.D.Reader.Read.remaining g.D.Writer.Write.contents g.J.Journal c.args.service.now (window_of c.args.streams) t.0 (scene_of c.loop-first.window c.loop-first.connector) (scene_of c.first_track.new.window c.loop-first.connector) c.in_ok-first.field-0 c.in-Some.first c.in-Some.is takes) f.2 c.in_ok-tell.ensures.told c.with-tally.ensures c.streak_with-streak.ensures (sym c.in_ok-go_on_after.ensures),
    )

pub loop-first-smaller : goal.loop-first-smaller
loop-first-smaller g c =
    let t = c.in_ok-first.ensures in
    let takes = t.2 (window_of c.args.streams) (omega arith) in
    let f = c.in_ok-name.ensures in
    fewer_names g.D.Reader.Read.remaining g.D.Writer.Write.contents g.J.Journal c.args.service.now (window_of c.args.streams) t.0 f.0 (scene_of c.loop-first.window c.loop-first.connector) (scene_of c.first_track.new.window c.loop-first.connector) (scene_of c.finish.new.window c.finish.new.connector) c.in-Some.first (c.in_ok-name.name, c.in_ok-name.pushed) (takes_this g.D.Reader.Read.remaining g.D.Writer.Write.contents g.J.Journal c.args.service.now (window_of c.args.streams) t.0 (scene_of c.loop-first.window c.loop-first.connector) (scene_of c.first_track.new.window c.loop-first.connector) c.in_ok-first.field-0 c.in-Some.first c.in-Some.is takes) f.2

pub returns : goal.returns
returns g c =
    let so = c.loop-first.invariant in
    let t = c.in_ok-first.ensures in
    let takes = t.2 (window_of c.args.streams) (omega arith) in
    (so.0 ++ t.0, adds_more (g.D.Dial.opened c.args.dial.now) (g.D.Dial.opened c.loop-first.dial) (g.D.Dial.opened c.first_track.new.dial) so.0 t.0 so.1 t.1, through_all g.D.Reader.Read.remaining g.D.Writer.Write.contents g.J.Journal c.args.service.now (window_of c.args.streams) c.args.limit so.0 t.0 (scene_of c.args.window.now c.args.connector.now) (scene_of c.loop-first.window c.loop-first.connector) (scene_of c.first_track.new.window c.loop-first.connector) (g.T.Tell.told c.args.teller.now) (g.T.Tell.told c.loop-first.teller) c.loop-first.tally c.loop-first.streak c.in_ok-first.field-0 c.in_default.is so.2 takes)
