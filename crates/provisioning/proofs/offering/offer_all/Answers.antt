use Rattle.std.proofs.Common.{List, Result, Ok, Err, inl, inr, refl, subst}
use Rattle.std.proofs.lemmas.Result.{err_from_is_err_and}
use Rattle.source_csv.specs.declared.faults.RowFault.{RowFault}
use Rattle.source_csv.specs.declared.rows.Row.{Row}
use Rattle.provisioning.specs.Offering.{OffersFile}
use Rattle.provisioning.proofs.offering.offer_all.Goals as goal

pub returns-in_err-are_users_taken : goal.returns-in_err-are_users_taken
returns-in_err-are_users_taken g c =
    let p = err_from_is_err_and c.from_residual.result c.from_residual.ensures.1 in
    let fault = c.in_err-are_users_taken.field-0.0 in
    let users = subst (λ (rs : List (Result Row RowFault)). OffersFile g.J.Journal c.args.sources.now.users.kind rs c.args.connector.now c.offer_file.new.connector (g.T.Hear.heard c.args.teller.now) (g.T.Hear.heard c.offer_file.new.teller) (Err fault))
    c.records.ensures c.in_err-are_users_taken.ensures in
    rw (p.1, p.2) (inr (fault, users, refl))

pub returns-then-are_users_taken : goal.returns-then-are_users_taken
returns-then-are_users_taken g c =
    let told = g.T.Hear.heard c.offer_file.new.teller in
    let users = subst (λ (rs : List (Result Row RowFault)). OffersFile g.J.Journal c.args.sources.now.users.kind rs c.args.connector.now c.offer_file.new.connector (g.T.Hear.heard c.args.teller.now) told (Ok c.in_ok-are_users_taken.are_users_taken))
    c.records.ensures c.in_ok-are_users_taken.ensures in
    inl (c.offer_file.new.connector, told, c.in_ok-are_users_taken.are_users_taken, Ok c.in-Ok.are_groups_taken, users, c.in-Ok.ensures, rw c.if-are_users_taken.true refl)

pub returns-else-are_users_taken : goal.returns-else-are_users_taken
returns-else-are_users_taken g c =
    let told = g.T.Hear.heard c.offer_file.new.teller in
    let users = subst (λ (rs : List (Result Row RowFault)). OffersFile g.J.Journal c.args.sources.now.users.kind rs c.args.connector.now c.offer_file.new.connector (g.T.Hear.heard c.args.teller.now) told (Ok c.in_ok-are_users_taken.are_users_taken))
    c.records.ensures c.in_ok-are_users_taken.ensures in
    inl (c.offer_file.new.connector, told, c.in_ok-are_users_taken.are_users_taken, Ok c.in-Ok.are_groups_taken, users, c.in-Ok.ensures, rw c.if-are_users_taken.false refl)

pub returns-in-Err : goal.returns-in-Err
returns-in-Err g c =
    let told = g.T.Hear.heard c.offer_file.new.teller in
    let users = subst (λ (rs : List (Result Row RowFault)). OffersFile g.J.Journal c.args.sources.now.users.kind rs c.args.connector.now c.offer_file.new.connector (g.T.Hear.heard c.args.teller.now) told (Ok c.in_ok-are_users_taken.are_users_taken))
    c.records.ensures c.in_ok-are_users_taken.ensures in
    inl (c.offer_file.new.connector, told, c.in_ok-are_users_taken.are_users_taken, Err c.in-Err.fault, users, c.in-Err.ensures, refl)
