-- Why the system gives no connection.
use Rattle.std.specs.Prelude.{◌≡◌, ◌⊎◌, ℤ, pos, Option, Some, None}

-- Linux's numbers of the errors that say that memory or descriptors are short: ENOMEM, ENFILE, EMFILE, ENOBUFS
abbrev pub IsShortage : Option ℤ → Type 0
IsShortage None = ⊥
IsShortage (Some code) = (code ≡ pos 12) ⊎ (code ≡ pos 23) ⊎ (code ≡ pos 24) ⊎ (code ≡ pos 105)
