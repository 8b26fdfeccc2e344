use Rattle.std.proofs.Common.{◌≡◌, false, rules}
use Rattle.std.specs.Prelude.{IsTrue}
use Rattle.std.specs.Result.{is_ok}
use Rattle.journal_store.proofs.Members.{found_among, not_among}
use Rattle.journal_store.proofs.lawful.is_among.Goals as goal

pub returns-clause-is : goal.returns-clause-is
returns-clause-is c is =
    let found : IsTrue (is_ok c.binary_search.result) = search rules in
    found_among c.args.keys.now c.args.key.now c.binary_search.result c.binary_search.ensures.bound c.binary_search.ensures.ok found

pub returns-clause-not : goal.returns-clause-not
returns-clause-not c not =
    let none : is_ok c.binary_search.result ≡ false = search rules in
    not_among c.args.keys.now c.args.key.now c.binary_search.result c.binary_search.ensures.position none
