use Rattle.std.proofs.Common.{◌≡◌, ◌<◌, ◌∙◌, [], ◌++◌, length, map, refl, ap, arith}
use Rattle.std.proofs.lemmas.Result.{err_from_is_err_and}
use Rattle.provisioning.proofs.ListLemmas.{adds_more, adds_none}
use Rattle.provisioning.proofs.MoveLemmas.{no_moves}
use Rattle.provisioning.proofs.WindowLemmas.{none_left, not_turned, others_next, others_stop, turned_all, turned_none, turned_to}
use Rattle.provisioning.specs.Windows.{name_of, scene_of}
use Rattle.provisioning.proofs.windows.advance_others.Goals as goal

pub loop-turned-init : goal.loop-turned-init
loop-turned-init g c = (([], adds_none (g.D.Dial.opened c.args.dial.now), no_moves g.D.Reader.Read.remaining g.D.Writer.Write.contents g.J.Journal c.args.service.now 0 (scene_of c.args.window.now c.args.connector.now)), refl, not_turned c.args.window.now.tracks.items)

pub returns-in_default : goal.returns-in_default
returns-in_default g c =
    let all : c.loop-turned._turned < length c.args.window.now.tracks.items = omega (arith, c.loop-turned-test.true, c.len-turned-end.ensures, c.args.window.now.tracks.ok.0) in
    absurd (turned_none c.args.window.now.tracks.items c.loop-turned.window.tracks.items c.loop-turned._turned c.loop-turned.invariant.2 (none_left c.loop-turned.window.tracks.items (c.in_default.ensures.items ∙ c.in_default.ensures.rest)) all)

pub returns-in_err-track : goal.returns-in_err-track
returns-in_err-track g c =
    let p = err_from_is_err_and c.from_residual.result c.from_residual.ensures.1 in
    let so = c.loop-turned.invariant.0 in
    let b = c.in_err-track.ensures in
    rw (p.1, p.2) (
      so.0 ++ b.0,
      adds_more (g.D.Dial.opened c.args.dial.now) (g.D.Dial.opened c.loop-turned.dial) (g.D.Dial.opened c.advance_if_due.new.dial) so.0 b.0 so.1 b.1,
      others_stop g.D.Reader.Read.remaining g.D.Writer.Write.contents g.J.Journal c.args.service.now 0 so.0 b.0 (scene_of c.args.window.now c.args.connector.now) c.loop-turned.window.waiting.items c.loop-turned.window.tracks.items c.pop_front.new.self.items c.loop-turned.connector c.advance_if_due.new.connector
          c.in-Some.track c.in_err-track.field-0.0 so.2 c.in-Some.ensures.items b.2,
    )

pub loop-turned-preserved : goal.loop-turned-preserved
loop-turned-preserved g c =
    let so = c.loop-turned.invariant.0 in
    let b = c.in_ok-track.ensures in
    let less : c.loop-turned._turned < length c.args.window.now.tracks.items = omega (arith, c.loop-turned-test.true, c.len-turned-end.ensures, c.args.window.now.tracks.ok.0) in
    let next = others_next g.D.Reader.Read.remaining g.D.Writer.Write.contents g.J.Journal c.args.service.now 0 so.0 b.0 (scene_of c.args.window.now c.args.connector.now) c.loop-turned.window.waiting.items c.loop-turned.window.tracks.items c.pop_front.new.self.items c.push_back_reserved.new.self.items
    c.loop-turned.connector c.advance_if_due.new.connector c.in-Some.track c.in_ok-track.track so.2 c.in-Some.ensures.items c.push_back_reserved.ensures.items b.2 in (
      (so.0 ++ b.0, adds_more (g.D.Dial.opened c.args.dial.now) (g.D.Dial.opened c.loop-turned.dial) (g.D.Dial.opened c.advance_if_due.new.dial) so.0 b.0 so.1 b.1, next.0),
      c.loop-turned.invariant.1,
      turned_to c.args.window.now.tracks.items c.loop-turned.window.tracks.items c.pop_front.new.self.items c.push_back_reserved.new.self.items c.in-Some.track c.in_ok-track.track c.loop-turned._turned
          c.loop-turned.invariant.2 c.in-Some.ensures.items c.push_back_reserved.ensures.items next.1 less,
    )

pub returns : goal.returns
returns g c =
    let so = c.loop-turned.invariant.0 in
    let all : c.loop-turned._turned ≡ length c.args.window.now.tracks.items = omega (arith, c.loop-turned-test.false, c.loop-turned.auto._turned-end, c.len-turned-end.ensures, c.args.window.now.tracks.ok.0) in (
      so.0,
      so.1,
      (
        so.2,
        ap (λ xs. xs ++ c.loop-turned.window.waiting.items) (turned_all c.args.window.now.tracks.items c.loop-turned.window.tracks.items c.loop-turned._turned c.loop-turned.invariant.2 all)
            ∙ ap (λ q. map name_of c.args.window.now.tracks.items ++ q.items) c.loop-turned.invariant.1,
      ),
    )
