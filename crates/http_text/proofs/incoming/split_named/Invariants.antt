use Rattle.std.proofs.Common.{◌≡◌, map, drop}
use Rattle.httparse.specs.Spans.{header_bytes}
use Rattle.http_text.specs.Message.{values}
use Rattle.http_text.proofs.incoming.split_named.Given as goal

-- the lines so far don't have the name
abbrev pub invariant-loop-i : goal.invariant-loop-i
invariant-loop-i l = values l.name (map (header_bytes l.head) (drop l.i l.fields)) ≡ values l.name (map (header_bytes l.head) l.fields)
