use Rattle.std.proofs.Common.{◌≡◌, true, false, refl, rules}
use Rattle.journal_core.specs.Entries.{EntryMap}
use Rattle.world_sim.specs.Running.{is_open, journal_in}
use Rattle.world_sim.specs.Sides.{CountsWorldFault, IsOpenedIn}
use Rattle.world_sim.proofs.GoingOn.{fails_on_restarting_connector, restarts_connector_on}
use Rattle.world_sim.proofs.Restarts.{fails_to_reopen_connector, reopens_connector}
use Rattle.world_sim.proofs.worlds.World.restart_connector.Goals as goal

pub returns-in-Ok-clause-done : goal.returns-in-Ok-clause-done
returns-in-Ok-clause-done g c =
    let h = g.J.Journal in
    let before = journal_in c.args.self.now.connector in
    let after = journal_in c.replace_with.new.dest in
    let is_so : is_open c.replace_with.new.dest ≡ true = search rules in
    let opened : IsOpenedIn h c.replace_with.new.dest = search rules in
    let was : h.is_honest after → h.is_honest before = search rules in
    let opens : h.is_honest after → h.is_faithful after = search rules in
    let holds : h.is_honest after → h.may_hold before (h.entries after) = search rules in
    let leaves : h.is_honest after → (found : EntryMap) → h.may_hold after found → h.may_hold before found = search rules in
    reopens_connector g.R.Registry h c.args.self.now c.replace_with.new.dest _ is_so opened was opens holds leaves refl

pub returns-in-Ok-clause-goes_on : goal.returns-in-Ok-clause-goes_on
returns-in-Ok-clause-goes_on g c =
    let h = g.J.Journal in
    let before = journal_in c.args.self.now.connector in
    let after = journal_in c.replace_with.new.dest in
    let is_so : is_open c.replace_with.new.dest ≡ true = search rules in
    let opened : IsOpenedIn h c.replace_with.new.dest = search rules in
    let was : h.is_honest after → h.is_honest before = search rules in
    let opens : h.is_honest after → h.is_faithful after = search rules in
    let holds : h.is_honest after → h.may_hold before (h.entries after) = search rules in
    let leaves : h.is_honest after → (found : EntryMap) → h.may_hold after found → h.may_hold before found = search rules in
    restarts_connector_on g.R.Registry h c.args.self.now c.replace_with.new.dest _ is_so opened was opens holds leaves refl

pub returns-in-Err-clause-fails : goal.returns-in-Err-clause-fails
returns-in-Err-clause-fails g c =
    let h = g.J.Journal in
    let before = journal_in c.args.self.now.connector in
    let after = journal_in c.replace_with.new.dest in
    let is_so : is_open c.replace_with.new.dest ≡ false = search rules in
    let was : h.is_honest after → h.is_honest before = search rules in
    let leaves : h.is_honest after → (found : EntryMap) → h.may_hold after found → h.may_hold before found = search rules in
    let counted : CountsWorldFault (h.faults before) (h.faults after) c.in-Err.fault = search rules in
    fails_to_reopen_connector g.R.Registry h c.args.self.now c.replace_with.new.dest c.in-Err.fault is_so was leaves counted

pub returns-in-Err-clause-fails_on : goal.returns-in-Err-clause-fails_on
returns-in-Err-clause-fails_on g c =
    let h = g.J.Journal in
    let before = journal_in c.args.self.now.connector in
    let after = journal_in c.replace_with.new.dest in
    let is_so : is_open c.replace_with.new.dest ≡ false = search rules in
    let was : h.is_honest after → h.is_honest before = search rules in
    let leaves : h.is_honest after → (found : EntryMap) → h.may_hold after found → h.may_hold before found = search rules in
    let counted : CountsWorldFault (h.faults before) (h.faults after) c.in-Err.fault = search rules in
    fails_on_restarting_connector g.R.Registry h c.args.self.now c.replace_with.new.dest c.in-Err.fault is_so was leaves counted
