-- What the code keeps of the state of the grammar says whether a quote is open.
use Rattle.std.proofs.Common.{◌≡◌, ℕ, ◌+◌, List, [], ◌∷◌, true, false, ◌==◌, ◌&&◌, cond, Option, Some, None, MatchOption, Bor, drop, take, length, unwrap_or, refl, ap, sym, subst, inl, inr, ◌∙◌}
use Rattle.std.proofs.lemmas.Bool.{and_parts, cases_Bool, false≢true}
use Rattle.std.proofs.lemmas.Bool.Decides.{Decides-eqb}
use Rattle.std.specs.Cmp.Lexicographic.{pointwise}
use Rattle.csv.specs.Machine.{in_field, start_field, start_record, step}
use Rattle.csv.specs.Reading.{strip_bom}
use Rattle.csv.specs.declared.parser.Action.{Action}
use Rattle.csv.specs.declared.parser.Action.TheVariants as action
use Rattle.csv.specs.declared.parser.State.{State}
use Rattle.csv.specs.declared.parser.State.TheVariants as state
use Rattle.source_csv.specs.Files.{config_of, separator_byte}
use Rattle.source_csv.specs.Quotes.{after, is_open, is_quoted, opening, outside, quoting_after, quoting_of, state_after, within}
use Rattle.source_csv.specs.declared.layouts.Separator.{Separator}
use Rattle.source_csv.specs.declared.layouts.Separator.TheVariants.{Comma, Semicolon, Tab}
use Rattle.source_csv.specs.declared.quotes.Quoting.{Quoting}
use Rattle.source_csv.specs.declared.quotes.Quoting.TheVariants.{Start, Plain, Quoted, AfterQuote}

field_step : (separator : Separator) (byte : ℕ) → quoting_of (in_field (config_of separator) byte).0 ≡ Some (outside separator byte)
field_step separator byte = elim (cases_Bool (byte == separator_byte separator)) [
  | inl ends ↦ rw ends refl
  | inr goes ↦ elim (cases_Bool (byte == 13)) [
    | inl return ↦ rw (goes, return) refl
    | inr other ↦ elim (cases_Bool (byte == 10)) [
      | inl feed ↦ rw (goes, other, feed) refl
      | inr plain ↦ rw (goes, other, plain) refl
    ]
  ]
]

start_step : (separator : Separator) (byte : ℕ) → quoting_of (start_field (config_of separator) byte).0 ≡ Some (opening separator byte)
start_step separator byte = elim (cases_Bool (byte == 34)) [
  | inl quote ↦ rw quote refl
  | inr other ↦ rw other (field_step separator byte)
]

at_return : (separator : Separator) → quoting_of (start_record (config_of separator) 13).0 ≡ Some (opening separator 13)
at_return Comma = refl
at_return Semicolon = refl
at_return Tab = refl

at_feed : (separator : Separator) → quoting_of (start_record (config_of separator) 10).0 ≡ Some (opening separator 10)
at_feed Comma = refl
at_feed Semicolon = refl
at_feed Tab = refl

after_return : (separator : Separator) → quoting_of (step (config_of separator) state.AfterCr 10).0 ≡ Some (opening separator 10)
after_return Comma = refl
after_return Semicolon = refl
after_return Tab = refl

record_step : (separator : Separator) (byte : ℕ) → quoting_of (start_record (config_of separator) byte).0 ≡ Some (opening separator byte)
record_step separator byte = elim (cases_Bool (byte == 13)) [
  | inl return ↦ subst (λ b. quoting_of (start_record (config_of separator) b).0 ≡ Some (opening separator b)) (sym ((Decides-eqb byte 13).0 return)) (at_return separator)
  | inr other ↦ elim (cases_Bool (byte == 10)) [
    | inl feed ↦ subst (λ b. quoting_of (start_record (config_of separator) b).0 ≡ Some (opening separator b)) (sym ((Decides-eqb byte 10).0 feed)) (at_feed separator)
    | inr plain ↦ begins other plain
  ]
]
  where
    begins : (byte == 13) ≡ false → (byte == 10) ≡ false → quoting_of (start_record (config_of separator) byte).0 ≡ Some (opening separator byte)
    begins other plain =
        let same : start_record (config_of separator) byte ≡ start_field (config_of separator) byte = rw (other, plain) refl in
        ap (λ (p : State × Action). quoting_of p.0) same ∙ start_step separator byte

return_step : (separator : Separator) (byte : ℕ) → quoting_of (step (config_of separator) state.AfterCr byte).0 ≡ Some (opening separator byte)
return_step separator byte = elim (cases_Bool (byte == 10)) [
  | inl feed ↦ subst (λ b. quoting_of (step (config_of separator) state.AfterCr b).0 ≡ Some (opening separator b)) (sym ((Decides-eqb byte 10).0 feed)) (after_return separator)
  | inr other ↦ begins other
]
  where
    begins : (byte == 10) ≡ false → quoting_of (step (config_of separator) state.AfterCr byte).0 ≡ Some (opening separator byte)
    begins other =
        let same : step (config_of separator) state.AfterCr byte ≡ start_record (config_of separator) byte = by (start_record (config_of separator) byte) other in
        ap (λ (p : State × Action). quoting_of p.0) same ∙ record_step separator byte
      where
        by : (next : State × Action) → (byte == 10) ≡ false → cond (byte == 10) (state.StartRecord, action.Skip) next ≡ next
        by next other = rw other refl

quoted_step : (separator : Separator) (byte : ℕ) → quoting_of (step (config_of separator) state.InQuoted byte).0 ≡ Some (within byte)
quoted_step separator byte = elim (cases_Bool (byte == 34)) [
  | inl quote ↦ rw quote refl
  | inr other ↦ rw other refl
]

closing_step : (separator : Separator) (byte : ℕ) → quoting_of (step (config_of separator) state.AfterQuote byte).0 ≡ Some (opening separator byte)
closing_step separator byte = elim (cases_Bool (byte == 34)) [
  | inl quote ↦ rw quote refl
  | inr other ↦ rw other (field_step separator byte)
]

from_some : {X : Type 0} {a b : X} → Some a ≡ Some b → a ≡ b
from_some e = cc e

-- a byte leads the state and what is kept of it to the same place
one_step : (separator : Separator) (before : State) (quoting : Quoting) (byte : ℕ) → quoting_of before ≡ Some quoting
    → quoting_of (step (config_of separator) before byte).0 ≡ Some (after separator quoting byte)
one_step separator before quoting byte e = by before e
  where
    to : (here : Quoting) → Some here ≡ Some quoting → (there : Option Quoting) → there ≡ Some (after separator here byte) → there ≡ Some (after separator quoting byte)
    to here same there leads = leads ∙ ap (λ q. Some (after separator q byte)) (from_some same)

    by : (before : State) → quoting_of before ≡ Some quoting → quoting_of (step (config_of separator) before byte).0 ≡ Some (after separator quoting byte)
    by state.StartRecord e = to Start e _ (record_step separator byte)
    by state.StartField e = to Start e _ (start_step separator byte)
    by state.InField e = to Plain e _ (field_step separator byte)
    by state.InQuoted e = to Quoted e _ (quoted_step separator byte)
    by state.AfterQuote e = to AfterQuote e _ (closing_step separator byte)
    by state.InEscape e = absurd (cc e)
    by state.InComment e = absurd (cc e)
    by state.AfterCr e = to Start e _ (return_step separator byte)

open_is : (before : State) (quoting : Quoting) → quoting_of before ≡ Some quoting → is_open quoting ≡ is_quoted before
open_is state.StartRecord quoting e = ap is_open (sym (from_some e))
open_is state.StartField quoting e = ap is_open (sym (from_some e))
open_is state.InField quoting e = ap is_open (sym (from_some e))
open_is state.InQuoted quoting e = ap is_open (sym (from_some e))
open_is state.AfterQuote quoting e = ap is_open (sym (from_some e))
open_is state.InEscape quoting e = absurd (cc e)
open_is state.InComment quoting e = absurd (cc e)
open_is state.AfterCr quoting e = ap is_open (sym (from_some e))

open_after : (separator : Separator) (before : State) (quoting : Quoting) (bytes : List ℕ) → quoting_of before ≡ Some quoting
    → is_open (quoting_after separator quoting bytes) ≡ is_quoted (state_after (config_of separator) before bytes)
open_after separator before quoting [] e = open_is before quoting e
open_after separator before quoting (byte ∷ bytes) e =
    open_after separator (step (config_of separator) before byte).0 (after separator quoting byte) bytes (one_step separator before quoting byte e)

-- so the end of a file is within quotes exactly if the code says so
pub open_at_end : (separator : Separator) (bytes : List ℕ)
    → is_open (quoting_after separator Start bytes) ≡ is_quoted (state_after (config_of separator) state.StartRecord bytes)
open_at_end separator bytes = open_after separator state.StartRecord Start bytes refl

-- ---- the byte order mark

abbrev mark : List ℕ
mark = 239 ∷ 187 ∷ 191 ∷ []

mark_here : (bytes : List ℕ) → pointwise ◌==◌ (take 3 bytes) mark ≡ true → drop 3 bytes ≡ strip_bom bytes
unfolding strip_bom
mark_here [] e = refl
mark_here (a ∷ []) e = absurd (false≢true (and_parts (a == 239) false e).1)
mark_here (a ∷ b ∷ []) e = absurd (false≢true (and_parts (b == 187) false (and_parts (a == 239) ((b == 187) && false) e).1).1)
mark_here (a ∷ b ∷ c ∷ rest) e =
    let one = and_parts (a == 239) ((b == 187) && ((c == 191) && true)) e in
    let two = and_parts (b == 187) ((c == 191) && true) one.1 in
    let three = and_parts (c == 191) true two.1 in
    rw (one.0, two.0, three.0) refl

mark_other : (bytes : List ℕ) → pointwise ◌==◌ (take 3 bytes) mark ≡ false → bytes ≡ strip_bom bytes
unfolding strip_bom
mark_other [] e = refl
mark_other (a ∷ []) e = refl
mark_other (a ∷ b ∷ []) e = refl
mark_other (a ∷ b ∷ c ∷ rest) e = elim (cases_Bool (a == 239)) [
  | inr other ↦ rw other refl
  | inl one ↦ elim (cases_Bool (b == 187)) [
    | inr other ↦ rw (one, other) refl
    | inl two ↦ elim (cases_Bool (c == 191)) [
      | inr other ↦ rw (one, two, other) refl
      | inl three ↦ absurd (false≢true (sym (rw (one, two, three) at e)))
    ]
  ]
]

-- the bytes after a mark that is there
pub mark_off : (found : Option (Bor (List ℕ))) (bytes rest : Bor (List ℕ)) → rest ≡ unwrap_or found bytes
    → MatchOption found (pointwise ◌==◌ (take 3 bytes.now) mark ≡ false)
    (λ x. (pointwise ◌==◌ (take 3 bytes.now) mark ≡ true) × (x.now ≡ drop 3 bytes.now) × (length x.now + 3 ≡ length bytes.now))
    → rest.now ≡ strip_bom bytes.now
mark_off None bytes rest is other = rw is (mark_other bytes.now other)
mark_off (Some x) bytes rest is here = rw is (here.1 ∙ mark_here bytes.now here.0)
