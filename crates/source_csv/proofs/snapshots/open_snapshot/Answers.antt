use Rattle.std.proofs.Common.{◌∙◌, Some, ap, inr, refl, sym}
use Rattle.std.proofs.lemmas.Result.{err_from_is_err_and}
use Rattle.csv.specs.Reading.{reader_config, reader_state}
use Rattle.csv.specs.Records.{fields_of}
use Rattle.source_csv.specs.Snapshots.{ignored_of}
use Rattle.source_csv.proofs.StreamLemmas.{header_refused, header_taken, opens, takes_none, takes_one}
use Rattle.source_csv.proofs.snapshots.open_snapshot.Goals as goal

pub returns-then-not-branch-clause-err : goal.returns-then-not-branch-clause-err
returns-then-not-branch-clause-err c records are =
    let start = c.reader_over-reader.ensures in
    let left = opens (Some c.args.bytes.now) _ c.args.layout.now.separator (reader_config c.reader_over-reader.result) (reader_state c.reader_over-reader.result) c.args.bytes.now records start.source refl are start.config start.state in
    let taken = c.in_ok-read_into.ensures.records records left in
    inr (rw (takes_none c.in_ok-read_into.field-0 (fields_of c.read_into.new.raw) (reader_config c.read_into.new.reader) _ (reader_state c.read_into.new.reader) records c.if-not-branch.true taken) refl)

pub returns-in_err-header-clause-err : goal.returns-in_err-header-clause-err
returns-in_err-header-clause-err c records are =
    let start = c.reader_over-reader.ensures in
    let left = opens (Some c.args.bytes.now) _ c.args.layout.now.separator (reader_config c.reader_over-reader.result) (reader_state c.reader_over-reader.result) c.args.bytes.now records start.source refl are start.config start.state in
    let taken = c.in_ok-read_into.ensures.records records left in
    let (rest, first, more) = takes_one c.in_ok-read_into.field-0 (fields_of c.read_into.new.raw) (reader_config c.read_into.new.reader) _ (reader_state c.read_into.new.reader) records c.if-not-branch.false taken in
    let made = err_from_is_err_and c.from_residual-in_err-header.result c.from_residual-in_err-header.ensures.1 in
    rw (made.1, made.2) (header_refused c.args.kind c.args.layout.now.aliases.items records rest (fields_of c.read_into.new.raw) _ first (rw c.deref.ensures.value at c.in_err-header.ensures.columns))

pub returns-clause-ok : goal.returns-clause-ok
returns-clause-ok c records are =
    let start = c.reader_over-reader.ensures in
    let left = opens (Some c.args.bytes.now) _ c.args.layout.now.separator (reader_config c.reader_over-reader.result) (reader_state c.reader_over-reader.result) c.args.bytes.now records start.source refl are start.config start.state in
    let taken = c.in_ok-read_into.ensures.records records left in
    let (rest, first, more) = takes_one c.in_ok-read_into.field-0 (fields_of c.read_into.new.raw) (reader_config c.read_into.new.reader) _ (reader_state c.read_into.new.reader) records c.if-not-branch.false taken in
    let found = header_taken _ _ (rw c.deref.ensures.value at c.in_ok-header.ensures.columns) in
    let ignored = rw c.deref.ensures.value at c.in_ok-header.ensures.ignored in
    ((fields_of c.read_into.new.raw, rest, first, found, more), ignored ∙ ap (ignored_of c.args.kind c.args.layout.now.aliases.items) (sym first))
