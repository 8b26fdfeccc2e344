use Rattle.std.proofs.Common.{◌≡◌, ◌∙◌, ◌+◌, ◌<◌, ℕ, List, [], Option, Bor, ap, drop, length, map, rules, sym}
use Rattle.std.proofs.Math.ListN.{get_or}
use Rattle.std.proofs.lemmas.List.{at_drop_more}
use Rattle.std.specs.Option.{option_or}
use Rattle.scim_key.specs.declared.records.Kind.{Kind}
use Rattle.source_csv.specs.Fields.{Record, named}
use Rattle.source_csv.specs.Files.{rows_of}
use Rattle.source_csv.specs.declared.rows.Row.{Row}
use Rattle.world_sim.specs.Schedules.{file_of, only_row, row_under}
use Rattle.world_sim.proofs.schedules.row_under.Goals as goal

abbrev Header : Type 0
Header = Bor (List (Bor (List ℕ)))

abbrev no_header : Header
no_header = record { ref_ptr = (0, 0); now = [] }

abbrev rows_under : (List ℕ → List Record) → Kind → List ℕ → List Header → Option Row
rows_under records_in of text headers = row_under records_in of text (map (λ columns. named columns.now) headers)

pub returns-in-Some : goal.returns-in-Some
returns-in-Some c records_in reads =
    let headers = c.args.headers.now in
    let i = c.loop-columns.columns-index in
    let less : i < length headers = search rules in
    let next = at_drop_more (rows_under records_in c.args.kind c.args.text.now) headers i no_header less in
    let file : c.as_bytes.result.now ≡ file_of (named (get_or headers i no_header).now) c.args.text.now = search rules in
    let row = sym c.in-Some.is ∙ c.in_ok-row.ensures (records_in c.as_bytes.result.now) (reads c.as_bytes.result.now) ∙ ap (λ bytes. only_row (rows_of c.args.kind (records_in bytes))) file in
    ap (λ found. option_or found (rows_under records_in c.args.kind c.args.text.now (drop (i + 1) headers))) row ∙ sym next ∙ sym (c.loop-columns.invariant records_in reads)

pub loop-columns-preserved : goal.loop-columns-preserved
loop-columns-preserved c records_in reads =
    let headers = c.args.headers.now in
    let i = c.loop-columns.columns-index in
    let less : i < length headers = search rules in
    let next = at_drop_more (rows_under records_in c.args.kind c.args.text.now) headers i no_header less in
    let file : c.as_bytes.result.now ≡ file_of (named (get_or headers i no_header).now) c.args.text.now = search rules in
    let row = sym c.in_default.is ∙ c.in_ok-row.ensures (records_in c.as_bytes.result.now) (reads c.as_bytes.result.now) ∙ ap (λ bytes. only_row (rows_of c.args.kind (records_in bytes))) file in
    c.loop-columns.invariant records_in reads ∙ next ∙ ap (λ found. option_or found (rows_under records_in c.args.kind c.args.text.now (drop (i + 1) headers))) (sym row)
