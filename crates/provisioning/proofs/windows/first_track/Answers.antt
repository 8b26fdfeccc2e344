use Rattle.std.proofs.Common.{[]}
use Rattle.provisioning.proofs.ListLemmas.{adds_none}
use Rattle.provisioning.proofs.WindowLemmas.{begins_first, takes_first}
use Rattle.provisioning.proofs.windows.first_track.Goals as goal

pub returns-in-Some : goal.returns-in-Some
returns-in-Some g c = ([], adds_none (g.D.Dial.opened c.args.dial.now), λ most room. takes_first g.D.Reader.Read.remaining g.D.Writer.Write.contents g.J.Journal c.args.service.now most c.args.window.now.waiting.items c.args.window.now.tracks.items c.pop_front.new.self.items c.args.connector.now c.in-Some.track c.in-Some.ensures.items)

pub returns-in-None : goal.returns-in-None
returns-in-None g c =
    let b = c.begin.ensures in
    (b.0, b.1, λ most room. begins_first g.D.Reader.Read.remaining g.D.Writer.Write.contents g.J.Journal c.args.service.now most b.0 c.args.window.now.waiting.items c.begin.new.waiting.items c.args.window.now.tracks.items c.pop_front.new.self.items c.args.connector.now c.begin.result room c.in-None.ensures.items c.in-None.ensures.rest b.2)
