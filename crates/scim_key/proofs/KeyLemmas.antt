-- Keys: lowering twice is lowering once.
use Rattle.std.proofs.Common.{◌≡◌, ℕ, List, [], ◌∷◌, refl}
use Rattle.std.proofs.lemmas.Str.Ascii.{lowercase-lowercase}
use Rattle.scim_key.specs.Names.{key_of}

pub key_of-key_of : (bs : List ℕ) → key_of (key_of bs) ≡ key_of bs
key_of-key_of [] = refl
key_of-key_of (b ∷ bs) = rw (lowercase-lowercase b, key_of-key_of bs)
