use Rattle.std.proofs.Common.{◌∙◌, ap, filter, rules}
use Rattle.std.proofs.lemmas.Fn.{filter_same}
use Rattle.connector_core.specs.Maps.{book_of}
use Rattle.provisioning.specs.Leavers.{is_in_use}
use Rattle.provisioning.proofs.leavers.names_in_use.Goals as goal

pub returns : goal.returns
returns g c =
    let here = is_in_use (book_of c.args.connector.now.book) in
    filter_same _ here _ (λ x b f' k. search rules) _ _ c.retain.ensures.filtered ∙ ap (filter here) c.in_ok-names.ensures
