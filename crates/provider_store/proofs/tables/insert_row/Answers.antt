use Rattle.std.proofs.Common.{◌∙◌, ap, arith, pos, w64}
use Rattle.std.proofs.lemmas.Int.{to_z_pos}
use Rattle.sqlite.specs.Held.{state}
use Rattle.sqlite.specs.State.{HasCleanDisk}
use Rattle.scim_resource.specs.Contents.{content_name}
use Rattle.scim_key.specs.declared.records.RecordName.{RecordName}
use Rattle.provider_store.specs.Rows.{kind_code}
use Rattle.provider_store.specs.Connections.{IsSpelled, content_text}
use Rattle.provider_store.proofs.Finding.{code_small}
use Rattle.provider_store.proofs.Written.{lawful_row, insert_edits, insert_made, insert_stops, same_params}
use Rattle.sql_tables.proofs.Values.{bound_int}
use Rattle.provider_store.proofs.tables.insert_row.Goals as goal

pub write-requires-clause-edit : goal.write-requires-clause-edit
write-requires-clause-edit g c = insert_edits

pub returns-in-Ok-clause-made : goal.returns-in-Ok-clause-made
returns-in-Ok-clause-made g c clean =
    let early : HasCleanDisk (state g.S.Store c.args.conn.now) = omega (arith, clean, c.in-Ok.ensures.stop.clean) in
    let ran = c.in-Ok.ensures.ran clean in
    let name = c.in_ok-name.ensures ∙ ap content_name c.content.ensures in
    let spelled : IsSpelled c.args.row.now = rw c.content-2.ensures at c.in_ok-text.ensures.spelled in
    let lawful = lawful_row c.args.row.now c.number.result c.version.result c.number.ensures.value c.version.ensures.value c.number.ensures.from c.number.ensures.to c.version.ensures.from c.version.ensures.to in
    let number_is = bound_int c.from.result c.number.result c.from.ensures (omega (arith, c.number.ensures.to)) ∙ ap pos c.number.ensures.value in
    let code_is = bound_int c.code_of.result (kind_code c.in_ok-name.name.kind) c.code_of.ensures (code_small c.in_ok-name.name.kind) in
    let version_is = to_z_pos w64 c.version.result (omega (arith, c.version.ensures.to)) ∙ ap pos c.version.ensures.value in
    insert_made _ _ c.args.row.now _ spelled lawful
    (same_params _ _ _ _ _ _ _ _ _ _ number_is (code_is ∙ ap (λ (n : RecordName). pos (kind_code n.kind)) name)
    (c.as_bytes.ensures.value ∙ c.as_str.ensures.value ∙ ap (λ (n : RecordName). n.key) name) version_is (c.as_slice.ensures.value ∙ c.in_ok-text.ensures.text ∙ ap content_text c.content-2.ensures))
    (c.requires.laid early ran.was_open) ran

pub returns-in-Ok-clause-stop : goal.returns-in-Ok-clause-stop
returns-in-Ok-clause-stop g c =
    let name = c.in_ok-name.ensures ∙ ap content_name c.content.ensures in
    let spelled : IsSpelled c.args.row.now = rw c.content-2.ensures at c.in_ok-text.ensures.spelled in
    let lawful = lawful_row c.args.row.now c.number.result c.version.result c.number.ensures.value c.version.ensures.value c.number.ensures.from c.number.ensures.to c.version.ensures.from c.version.ensures.to in
    let number_is = bound_int c.from.result c.number.result c.from.ensures (omega (arith, c.number.ensures.to)) ∙ ap pos c.number.ensures.value in
    let code_is = bound_int c.code_of.result (kind_code c.in_ok-name.name.kind) c.code_of.ensures (code_small c.in_ok-name.name.kind) in
    let version_is = to_z_pos w64 c.version.result (omega (arith, c.version.ensures.to)) ∙ ap pos c.version.ensures.value in
    insert_stops _ _ c.args.row.now _ spelled lawful
    (same_params _ _ _ _ _ _ _ _ _ _ number_is (code_is ∙ ap (λ (n : RecordName). pos (kind_code n.kind)) name)
    (c.as_bytes.ensures.value ∙ c.as_str.ensures.value ∙ ap (λ (n : RecordName). n.key) name) version_is (c.as_slice.ensures.value ∙ c.in_ok-text.ensures.text ∙ ap content_text c.content-2.ensures))
    c.requires.laid c.in-Ok.ensures.stop

pub returns-clause-stop : goal.returns-clause-stop
returns-clause-stop g c =
    let name = c.in_ok-name.ensures ∙ ap content_name c.content.ensures in
    let spelled : IsSpelled c.args.row.now = rw c.content-2.ensures at c.in_ok-text.ensures.spelled in
    let lawful = lawful_row c.args.row.now c.number.result c.version.result c.number.ensures.value c.version.ensures.value c.number.ensures.from c.number.ensures.to c.version.ensures.from c.version.ensures.to in
    let number_is = bound_int c.from.result c.number.result c.from.ensures (omega (arith, c.number.ensures.to)) ∙ ap pos c.number.ensures.value in
    let code_is = bound_int c.code_of.result (kind_code c.in_ok-name.name.kind) c.code_of.ensures (code_small c.in_ok-name.name.kind) in
    let version_is = to_z_pos w64 c.version.result (omega (arith, c.version.ensures.to)) ∙ ap pos c.version.ensures.value in
    insert_stops _ _ c.args.row.now _ spelled lawful
    (same_params _ _ _ _ _ _ _ _ _ _ number_is (code_is ∙ ap (λ (n : RecordName). pos (kind_code n.kind)) name)
    (c.as_bytes.ensures.value ∙ c.as_str.ensures.value ∙ ap (λ (n : RecordName). n.key) name) version_is (c.as_slice.ensures.value ∙ c.in_ok-text.ensures.text ∙ ap content_text c.content-2.ensures))
    c.requires.laid c.write.ensures.stop
