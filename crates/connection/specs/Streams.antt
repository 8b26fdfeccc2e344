-- What a stream still gives, and what a writer holds, if some bytes are kept beside them.
use Rattle.std.specs.Prelude.{ℕ, List, drop, Option}
use Rattle.std.specs.Io.KnownBytes.{prepend_known, append_known}

-- the bytes that were read ahead, but for those that were given, and then the stream's
abbrev pub after_ahead : List ℕ → ℕ → Option (List ℕ) → Option (List ℕ)
after_ahead ahead given remaining = prepend_known (drop given ahead) remaining

-- what a writer holds, and then the bytes that it wasn't given yet
abbrev pub with_unsent : Option (List ℕ) → List ℕ → ℕ → Option (List ℕ)
with_unsent contents unsent sent = append_known contents (drop sent unsent)
