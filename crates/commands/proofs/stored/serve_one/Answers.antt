use Rattle.std.proofs.Common.{sym, subst}
use Rattle.storage.specs.StoreOpened.{IsOpenedAt}
use Rattle.commands.proofs.stored.serve_one.Goals as goal

pub returns-clause-found : goal.returns-clause-found
returns-clause-found g c =
    let it = c.serve-served.ensures.served in
    let opened = subst (IsOpenedAt g.K.Rows.Registry (g.K.RowStorage.finds c.args.storage.now)) (sym c.new-provider.ensures) c.in_ok-open.ensures.opened in
    record {
      answers = record { first = c.new-provider.result; last = c.serve-served.new.provider; opened = opened.opened; read = it.0; has_read = it.1; serves = it.2; leaves = it.3 };
      found = opened.found;
    }
