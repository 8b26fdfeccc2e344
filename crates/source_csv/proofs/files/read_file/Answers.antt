use Rattle.std.proofs.Common.{refl}
use Rattle.std.proofs.lemmas.Result.{err_from_is_err_and}
use Rattle.source_csv.specs.Files.{columns_of}
use Rattle.source_csv.proofs.StreamLemmas.{marks_after, not_opened, rows_after}
use Rattle.source_csv.proofs.files.read_file.Goals as goal

pub returns-in_err-file-clause-rows : goal.returns-in_err-file-clause-rows
returns-in_err-file-clause-rows c records are =
    let made = err_from_is_err_and c.from_residual.result c.from_residual.ensures.1 in
    rw (made.1, made.2) (not_opened c.args.kind records _ (c.in_err-file.ensures.records c.args.bytes.now refl records are))

pub returns-clause-rows : goal.returns-clause-rows
returns-clause-rows c records are =
    let opened = c.in_ok-file.ensures in
    rw c.in_ok-rows.ensures (rows_after c.args.kind records c.in_ok-file.file c.in_ok-said.said.records.items opened.rows.0 opened.rows.1
    (opened.records c.args.bytes.now refl records are) c.in_ok-said.ensures.records)

pub returns-clause-multiline : goal.returns-clause-multiline
returns-clause-multiline c records are =
    let opened = c.in_ok-file.ensures in
    marks_after records c.in_ok-file.file (columns_of c.args.kind) c.in_ok-said.said.multiline.items opened.rows.1
    (opened.records c.args.bytes.now refl records are) c.in_ok-said.ensures.multiline
