use Rattle.std.proofs.Common.{◌≡◌, ◌++◌, map, take}
use Rattle.std.specs.List.{flat_map}
use Rattle.httparse.specs.Grammar.{print_field}
use Rattle.http_text.specs.Response.{field_line, line_of, written_lines}
use Rattle.http_text.proofs.writing.write_fields.Given as goal

-- the lines so far are written
abbrev pub invariant-loop-field : goal.invariant-loop-field
invariant-loop-field l = l.text.items ≡ l.initial.text.items ++ flat_map print_field (map field_line (written_lines (map line_of (take l.field-index l.fields))))
