use Rattle.std.proofs.Common.{subst, sym}
use Rattle.sqlite.specs.Held.{state}
use Rattle.sqlite.specs.State.{IsLive}
use Rattle.storage.specs.JournalOpened.{CarriesOver}
use Rattle.storage.proofs.journal_file.opened_from.Goals as goal

pub returns-in-Ok-clause-opened : goal.returns-in-Ok-clause-opened
returns-in-Ok-clause-opened g c =
    let it = c.in-Ok.ensures in
    let is = c.connection_of.ensures.same in
    subst (λ h. CarriesOver (state g.S.Store c.args.conn) (state g.S.Store h)) (sym is) (record {
      carried = record { live = subst (λ h. IsLive (state g.S.Store h)) is c.connection_of.ensures.live; laid = λ clean. (it.faithful clean).whole.laid };
      stands = it.entries;
      stop = it.stop;
    })
