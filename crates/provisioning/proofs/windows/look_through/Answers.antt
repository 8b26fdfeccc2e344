use Rattle.std.proofs.Common.{◌∙◌, [], refl}
use Rattle.provisioning.proofs.WindowLemmas.{looked_all, looked_next}
use Rattle.provisioning.proofs.windows.look_through.Goals as goal

pub loop-track-init : goal.loop-track-init
loop-track-init g c = ([], refl, refl)

pub loop-track-preserved : goal.loop-track-preserved
loop-track-preserved g c =
    let so = c.loop-track.invariant in
    looked_next g.D.Reader.Read.remaining g.J.Journal c.args.service.now c.args.tracks.now.items c.loop-track.tracks.items c.pop_front.new.self.items so.0 c.in-Some.track c.close.result c.args.connector.now c.loop-track.connector c.close.new.connector
    so.1 c.in-Some.ensures.items so.2 c.close.ensures

pub returns : goal.returns
returns g c =
    let so = c.loop-track.invariant in
    looked_all g.D.Reader.Read.remaining g.J.Journal c.args.service.now c.args.tracks.now.items c.loop-track.tracks.items so.0 c.args.connector.now c.loop-track.connector so.1 (c.in_default.ensures.items ∙ c.in_default.ensures.rest) so.2
