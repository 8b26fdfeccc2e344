-- How far the lines of a head are, by its line ends alone.
use Rattle.std.specs.Prelude.{ℕ, ◌==◌, ◌||◌, List, [], ◌∷◌, if◌then◌else◌}
use Rattle.connection.specs.declared.lines.HeadLines.{HeadLines}
use Rattle.connection.specs.declared.lines.HeadLines.TheVariants.{Blank, Inside, Start, Return, Ended}

-- after one more byte; line feed is 10, carriage return 13
abbrev pub line_after : HeadLines → ℕ → HeadLines
line_after Blank byte = if byte == 10 || byte == 13 then Blank else Inside
line_after Inside byte = if byte == 10 then Start else Inside
line_after Start byte = if byte == 10 then Ended else (if byte == 13 then Return else Inside)
line_after Return byte = if byte == 10 then Ended else Inside
line_after Ended byte = Ended

-- after these bytes
abbrev pub lines_after : HeadLines → List ℕ → HeadLines
lines_after lines [] = lines
lines_after lines (byte ∷ bytes) = lines_after (line_after lines byte) bytes
