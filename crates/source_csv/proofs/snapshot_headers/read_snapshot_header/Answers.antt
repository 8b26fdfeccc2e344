use Rattle.std.proofs.Common.{◌≡◌, ◌∙◌, ap, sym, inr}
use Rattle.std.specs.Option.{ok_or}
use Rattle.csv.specs.Records.{fields_of}
use Rattle.source_csv.specs.Columns.{named}
use Rattle.source_csv.specs.Layouts.{snapshot_columns_of}
use Rattle.source_csv.specs.declared.faults.SourceFault.TheVariants.{Header}
use Rattle.source_csv.proofs.snapshot_headers.read_snapshot_header.Goals as goal

pub returns-in-Some-clause-columns : goal.returns-in-Some-clause-columns
returns-in-Some-clause-columns c =
    let names : named c.deref.result.now ≡ fields_of c.args.header.now = ap named c.deref.ensures.value ∙ c.in_ok-names.ensures in
    let found = ap (snapshot_columns_of c.args.kind c.args.aliases.now) (sym names) ∙ sym c.snapshot_columns_of.ensures ∙ c.in-Some.is in
    ap (λ columns. ok_or columns Header) found

pub returns-clause-columns : goal.returns-clause-columns
returns-clause-columns c =
    let names : named c.deref.result.now ≡ fields_of c.args.header.now = ap named c.deref.ensures.value ∙ c.in_ok-names.ensures in
    let found = ap (snapshot_columns_of c.args.kind c.args.aliases.now) (sym names) ∙ sym c.snapshot_columns_of.ensures ∙ c.in-None.is in
    inr (ap (λ columns. ok_or columns Header) found)
