use Rattle.std.proofs.Common.{◌≡◌, ◌∷◌, [], Ok, inl, inr, refl, ap, ◌∙◌}
use Rattle.std.specs.Option.{ok_or}
use Rattle.connector_core.specs.Asking.{asking}
use Rattle.connector_core.specs.Maps.{book_of}
use Rattle.connector_core.specs.declared.asking.Ask.TheVariants.{Nothing, Send}
use Rattle.connector_core.specs.declared.asking.AskFault.TheVariants.{NoSuchRecord}
use Rattle.provisioning.proofs.ListLemmas.{adds_none}
use Rattle.provisioning.proofs.RestLemmas.{confirmed_at_rest}
use Rattle.provisioning.proofs.TrackLemmas.{was_asked, went_on}
use Rattle.provisioning.proofs.tracks.ask.Goals as goal

pub returns-in-Ok-Nothing : goal.returns-in-Ok-Nothing
returns-in-Ok-Nothing g c =
    let book = book_of c.args.connector.now.book in
    let said : ok_or (asking book c.args.account.name) NoSuchRecord ≡ Ok Nothing = c.in-Ok-Nothing.ensures ∙ ap Ok c.in-Ok-Nothing.field-0-is in
    let asked = was_asked (asking book c.args.account.name) Nothing said in
    let rests = confirmed_at_rest book c.args.account.name asked in
    ([], adds_none (g.D.Dial.opened c.args.dial.now), (refl, refl, inl (asked, c.confirmed.ensures, c.confirmed.ensures ∙ rests)))

pub returns-in-Ok-Send : goal.returns-in-Ok-Send
returns-in-Ok-Send g c =
    let book = book_of c.args.connector.now.book in
    let said : ok_or (asking book c.args.account.name) NoSuchRecord ≡ Ok (Send c.in-Ok-Send.request) = c.in-Ok-Send.ensures ∙ ap Ok c.in-Ok-Send.field-0-is in
    let made = c.set_out.ensures in (
      made.0 ∷ [],
      made.1,
      went_on g.D.Writer.Write.contents c.args.service.now c.args.account book c.in-Ok-Send.request made.0 c.set_out.result
          c.requires.left c.requires.free (was_asked (asking book c.args.account.name) (Send c.in-Ok-Send.request) said) made.2,
    )

pub returns-in-Err-Memory : goal.returns-in-Err-Memory
returns-in-Err-Memory g c = ([], adds_none (g.D.Dial.opened c.args.dial.now), (c.requires.left, inr (refl, refl)))
