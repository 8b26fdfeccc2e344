-- What a location has behind its base.
use Rattle.std.proofs.Common.{◌≡◌, ℕ, List, ◌++◌, ap, sym, subst, ◌∙◌, arith, length, take, drop, length-append, append_assoc}
use Rattle.std.proofs.Math.Seq.{take-append_seam, drop-append_seam}
use Rattle.std.specs.Str.{IsUtf8, IsCharBoundary}
use Rattle.std.proofs.lemmas.Str.{IsCharBoundary-from_take}
use Rattle.scim_key.specs.declared.records.Kind.{Kind}
use Rattle.scim_resource.specs.Locations.{collection_path, escaped, location_text}

-- the text after the base
abbrev pub below : Kind → List ℕ → List ℕ
below kind id = collection_path kind ++ escaped id

pub location_is : (base uri : List ℕ) (kind : Kind) (id : List ℕ) → uri ≡ location_text base kind id → uri ≡ base ++ below kind id
unfolding location_text
location_is base uri kind id is = is ∙ append_assoc base (collection_path kind) (escaped id)

pub may_cut : (base uri rest : List ℕ) → uri ≡ base ++ rest → IsUtf8 base → IsUtf8 uri → IsCharBoundary uri (length base)
may_cut base uri rest is front whole =
    let taken : take (length base) uri ≡ base = ap (take (length base)) is ∙ take-append_seam base rest in
    let long : length uri ≡ length (base ++ rest) = ap length is in
    IsCharBoundary-from_take uri (length base) whole (omega (arith, long, length-append base rest)) (subst IsUtf8 (sym taken) front)

pub cut : (base uri rest : List ℕ) → uri ≡ base ++ rest → drop (length base) uri ≡ rest
cut base uri rest is = ap (drop (length base)) is ∙ drop-append_seam base rest

pub location_below : (path : List ℕ) (kind : Kind) (id : List ℕ) → path ++ below kind id ≡ location_text path kind id
unfolding location_text
location_below path kind id = sym (append_assoc path (collection_path kind) (escaped id))
