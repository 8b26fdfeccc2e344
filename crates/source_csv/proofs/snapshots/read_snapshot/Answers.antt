use Rattle.source_csv.specs.Layouts.{snapshot_columns_of}
use Rattle.source_csv.proofs.StreamLemmas.{marks_after, snapshot_after}
use Rattle.source_csv.proofs.snapshots.read_snapshot.Goals as goal

pub returns-clause-records : goal.returns-clause-records
returns-clause-records c records are =
    let opened = c.in_ok-opened.ensures in
    let header = opened.ok records are in
    snapshot_after c.args.kind c.args.layout.now.aliases.items records c.in_ok-opened.opened.file c.in_ok-said.said.records.items opened.file.0 opened.file.1 header.0 c.in_ok-said.ensures.records

pub returns-clause-multiline : goal.returns-clause-multiline
returns-clause-multiline c records are =
    let opened = c.in_ok-opened.ensures in
    let header = opened.ok records are in
    marks_after records c.in_ok-opened.opened.file (snapshot_columns_of c.args.kind c.args.layout.now.aliases.items) c.in_ok-said.said.multiline.items opened.file.1 header.0 c.in_ok-said.ensures.multiline
