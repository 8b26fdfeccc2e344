-- The array of the bytes that are read ahead.
use Rattle.std.specs.Prelude.{ℕ, List}
use Rattle.http_text.specs.declared.arrays.AheadArray.{AheadArray}
use Rattle.http_text.specs.declared.arrays.AheadArray.TheVariants.{Short, Long}

abbrev pub bytes_of : AheadArray → List ℕ
bytes_of (Short bytes) = bytes
bytes_of (Long bytes) = bytes.value
