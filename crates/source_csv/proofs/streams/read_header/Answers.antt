use Rattle.std.proofs.Common.{◌≡◌, None, Some, refl, sym}
use Rattle.csv.specs.Reading.{reader_config, reader_state, source_of}
use Rattle.csv.specs.Records.{fields_of}
use Rattle.source_csv.specs.Files.{columns_of}
use Rattle.source_csv.proofs.StreamLemmas.{takes_none, takes_one}
use Rattle.source_csv.proofs.streams.read_header.Goals as goal

pub returns-then-not-branch-clause-err : goal.returns-then-not-branch-clause-err
returns-then-not-branch-clause-err g c records left =
    let taken = c.in_ok-read_into.ensures.records records left in
    rw (takes_none c.in_ok-read_into.field-0 (fields_of c.read_into.new.raw) (reader_config c.read_into.new.reader) (source_of g.R.Read.remaining c.read_into.new.reader) (reader_state c.read_into.new.reader) records c.if-not-branch.true taken) refl

pub returns-in-Some-clause-ok : goal.returns-in-Some-clause-ok
returns-in-Some-clause-ok g c records left =
    let taken = c.in_ok-read_into.ensures.records records left in
    let (rest, first, more) = takes_one c.in_ok-read_into.field-0 (fields_of c.read_into.new.raw) (reader_config c.read_into.new.reader) (source_of g.R.Read.remaining c.read_into.new.reader) (reader_state c.read_into.new.reader) records c.if-not-branch.false taken in
    let columns : columns_of c.args.kind (fields_of c.read_into.new.raw) ≡ Some c.in-Some.columns = rw c.in-Some.is at (sym c.columns_of.ensures) in
    (fields_of c.read_into.new.raw, rest, first, columns, more)

pub returns-in-None-clause-err : goal.returns-in-None-clause-err
returns-in-None-clause-err g c records left =
    let taken = c.in_ok-read_into.ensures.records records left in
    let (rest, first, more) = takes_one c.in_ok-read_into.field-0 (fields_of c.read_into.new.raw) (reader_config c.read_into.new.reader) (source_of g.R.Read.remaining c.read_into.new.reader) (reader_state c.read_into.new.reader) records c.if-not-branch.false taken in
    let other : columns_of c.args.kind (fields_of c.read_into.new.raw) ≡ None = rw c.in-None.is at (sym c.columns_of.ensures) in
    rw (first, other) refl
