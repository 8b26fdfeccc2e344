use Rattle.std.proofs.Common.{◌≡◌, true, refl, rules}
use Rattle.std.proofs.lemmas.Result.{err_from_is_err_and}
use Rattle.std.specs.Result.{is_ok}
use Rattle.source_csv.proofs.StreamLemmas.{adds_one, memory_alone, takes_none}
use Rattle.source_csv.proofs.files.add_next.Goals as goal

pub returns-then-not-branch-clause-adds : goal.returns-then-not-branch-clause-adds
returns-then-not-branch-clause-adds c left has =
    let taken = c.in_ok-read_next.ensures.records left has in
    (takes_none c.in_ok-read_next.field-0 c.read_next.new.self.fields c.read_next.new.self.config c.read_next.new.self.remaining c.read_next.new.self.state left c.if-not-branch.true taken, refl, refl)

pub returns-clause-adds : goal.returns-clause-adds
returns-clause-adds c left has =
    let good : is_ok c.push.result ≡ true = search rules in
    let items = rw good at c.push.ensures.items in
    let taken = c.in_ok-read_next.ensures.records left has in
    adds_one c.args.file.now c.read_next.new.self c.record_said.new.self c.in_ok-read_next.field-0 c.in_ok-record_said.field-0 c.args.records.now.items c.push.new.self.items c.args.multiline.now.items c.mark.new.multiline.items left c.if-not-branch.false c.read_next.ensures.kind c.read_next.ensures.columns c.in_ok-read_next.ensures.place c.record_said.ensures.rest c.in_ok-record_said.ensures.said items c.in_ok-mark.ensures.marks taken

pub returns-in_err-read_next-clause-err : goal.returns-in_err-read_next-clause-err
returns-in_err-read_next-clause-err c =
    let made = err_from_is_err_and c.from_residual.result c.from_residual.ensures.1 in
    rw (made.1, made.2) (memory_alone _ c.in_err-read_next.ensures.fault)
