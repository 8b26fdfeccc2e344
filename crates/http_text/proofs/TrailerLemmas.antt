-- The places of trailers accept the trailers of the grammar and nothing else.
use Rattle.std.proofs.Common.{◌≡◌, ℕ, ◌+◌, ◌<◌, ◌≤◌, ◌⊎◌, Bool, true, false, cond, List, [], ◌∷◌, ◌++◌, length, get_or, take, length-append, Option, refl, ap, sym, ◌∙◌, subst, inl, inr, ⊎_elim, arith, append_assoc}
use Rattle.std.specs.Prelude.{flat_map, ⊤}
use Rattle.std.specs.List.{list_all, AllByRecursion}
use Rattle.std.proofs.lemmas.Bool.{and_parts, and_from, eqb-true}
use Rattle.httparse.specs.Ascii.{crlf_bytes}
use Rattle.httparse.specs.Grammar.{is_token_byte, is_value_byte}
use Rattle.http_text.specs.declared.trailers.TrailerPlace.{TrailerPlace}
use Rattle.http_text.specs.declared.trailers.TrailerPlace.TheVariants.{LineStart, Name, Value, LineFeed, LastFeed, End, Malformed}
use Rattle.http_text.specs.Trailers.{place_after}
use Rattle.http_text.specs.Chunks.{TrailerLine, IsTrailerLine, print_trailer, print_trailers, ReadsTrailers}
use Rattle.http_text.specs.ChunkSteps.{HasNoTrailers, IsPartOfTrailers, CutsTrailers}
use Rattle.std.specs.Io.KnownBytes.{Consumes, Keeps}
use Rattle.std.proofs.lemmas.Bool.Decides.{leb_tells}
use Rattle.http_text.specs.declared.fault.ReadFault.{ReadFault}
use Rattle.http_text.specs.declared.fault.ReadFault.TheVariants as faults
use Rattle.http_text.specs.Counts.{Reading}
use Rattle.http_text.specs.Steps.{SpendsTurns, GivesNone}
use Rattle.http_text.proofs.KnownLemmas.{Consumes-kept, Consumes-then}
use Rattle.http_text.proofs.ListLemmas.{front_of}

-- the place after some bytes
abbrev pub places : TrailerPlace → List ℕ → TrailerPlace
places p [] = p
places p (b ∷ bytes) = places (place_after p b) bytes

pub places-append : (p : TrailerPlace) (a b : List ℕ) → places p (a ++ b) ≡ places (places p a) b
places-append p [] b = refl
places-append p (x ∷ a) b = places-append (place_after p x) a b

-- nothing leads out of malformed trailers, and nothing follows their end
pub stays_malformed : (bytes : List ℕ) → places Malformed bytes ≡ Malformed
stays_malformed [] = refl
stays_malformed (b ∷ bytes) = stays_malformed bytes

-- ---- the trailers of the grammar end

when_true : (t : Bool) (p q : TrailerPlace) → t ≡ true → cond t p q ≡ p
when_true t p q e = ap (λ k. cond k p q) e

names : (name rest : List ℕ) → list_all is_token_byte name ≡ true → places Name (name ++ rest) ≡ places Name rest
names [] rest ok = refl
names (b ∷ name) rest ok =
    let parts = and_parts _ _ ok in
    ap (λ p. places p (name ++ rest)) (when_true (is_token_byte b) Name _ parts.0) ∙ names name rest parts.1

name_first : (name rest : List ℕ) → 0 < length name → list_all is_token_byte name ≡ true → places LineStart (name ++ rest) ≡ places Name rest
name_first [] rest some ok = absurd (omega arith)
name_first (b ∷ name) rest some ok =
    let parts = and_parts _ _ ok in
    ap (λ p. places p (name ++ rest)) (when_true (is_token_byte b) Name _ parts.0) ∙ names name rest parts.1

values_end : (value rest : List ℕ) → list_all is_value_byte value ≡ true → places Value (value ++ 13 ∷ 10 ∷ rest) ≡ places LineStart rest
values_end [] rest ok = refl
values_end (b ∷ value) rest ok =
    let parts = and_parts _ _ ok in
    ap (λ p. places p (value ++ 13 ∷ 10 ∷ rest)) (when_true (is_value_byte b) Value _ parts.0) ∙ values_end value rest parts.1

colon_next : (rest : List ℕ) → places Name (58 ∷ rest) ≡ places Value rest
unfolding is_token_byte
colon_next rest = refl

return_next : (rest : List ℕ) → places LineStart (13 ∷ rest) ≡ places LastFeed rest
unfolding is_token_byte
return_next rest = refl

line_over : (line : TrailerLine) (rest : List ℕ) → IsTrailerLine line → places LineStart (print_trailer line ++ rest) ≡ places LineStart rest
line_over line rest is =
    let regrouped : print_trailer line ++ rest ≡ line.name ++ 58 ∷ (line.value ++ 13 ∷ 10 ∷ rest) =
    append_assoc line.name (58 ∷ (line.value ++ crlf_bytes)) rest ∙ ap (λ t. line.name ++ 58 ∷ t) (append_assoc line.value crlf_bytes rest) in
    ap (places LineStart) regrouped
    ∙ name_first line.name _ is.some is.name
    ∙ colon_next (line.value ++ 13 ∷ 10 ∷ rest)
    ∙ values_end line.value rest is.value

lines_over : (lines : List TrailerLine) (rest : List ℕ) → AllByRecursion IsTrailerLine lines → places LineStart (flat_map print_trailer lines ++ rest) ≡ places LineStart rest
lines_over [] rest are = refl
lines_over (line ∷ lines) rest are =
    ap (places LineStart) (append_assoc (print_trailer line) (flat_map print_trailer lines) rest)
    ∙ line_over line (flat_map print_trailer lines ++ rest) are.0
    ∙ lines_over lines rest are.1

ends : (lines : List TrailerLine) → AllByRecursion IsTrailerLine lines → places LineStart (print_trailers lines) ≡ End
ends lines are = lines_over lines crlf_bytes are ∙ return_next (10 ∷ [])

-- ---- and nothing else

-- what is left of trailers at each place
abbrev Left : TrailerPlace → List ℕ → Type 0
Left LineStart bytes = ReadsTrailers bytes []
Left Name bytes = (name value more : List ℕ) × (list_all is_token_byte name ≡ true) × (list_all is_value_byte value ≡ true)
    × (bytes ≡ name ++ 58 ∷ (value ++ 13 ∷ 10 ∷ more)) × ReadsTrailers more []
Left Value bytes = (value more : List ℕ) × (list_all is_value_byte value ≡ true)
    × (bytes ≡ value ++ 13 ∷ 10 ∷ more) × ReadsTrailers more []
Left LineFeed bytes = (more : List ℕ) × (bytes ≡ 10 ∷ more) × ReadsTrailers more []
Left LastFeed bytes = bytes ≡ 10 ∷ []
Left End bytes = bytes ≡ []
Left Malformed bytes = ⊥

chosen : (P : TrailerPlace → Type 0) (t : Bool) (x y : TrailerPlace) → P (cond t x y) → ((t ≡ true) × P x) ⊎ ((t ≡ false) × P y)
chosen P true x y h = inl (refl, h)
chosen P false x y h = inr (refl, h)

one_more : (name value more : List ℕ) → 0 < length name → list_all is_token_byte name ≡ true → list_all is_value_byte value ≡ true → ReadsTrailers more []
    → ReadsTrailers (name ++ 58 ∷ (value ++ 13 ∷ 10 ∷ more)) []
one_more name value more some named valued trailers =
    let line : TrailerLine = record { name = name; value = value } in
    let lines = trailers.0 in
    let is : IsTrailerLine line = record { some = some; name = named; value = valued } in
    let text : name ++ 58 ∷ (value ++ 13 ∷ 10 ∷ (print_trailers lines ++ [])) ≡ print_trailers (line ∷ lines) ++ [] = simp append_assoc in
    (line ∷ lines, (is, trailers.1), ap (λ (t : List ℕ). name ++ 58 ∷ (value ++ 13 ∷ 10 ∷ t)) trailers.2 ∙ text)

module _ (b : ℕ) (bytes : List ℕ) where
  abbrev Next : TrailerPlace → Type 0
  Next p = Left p bytes

  back_start : Next (place_after LineStart b) → ReadsTrailers (b ∷ bytes) []
  back_start h =
      ⊎_elim
      (λ w. let n = w.1 in
      subst (λ (t : List ℕ). ReadsTrailers t []) (ap (λ (t : List ℕ). b ∷ t) (sym n.5)) (one_more (b ∷ n.0) n.1 n.2 (omega arith) (and_from _ _ w.0 n.3) n.4 n.6))
      (λ w. ⊎_elim
      (λ v. ([], tt, (λ i. eqb-true b 13 v.0 i ∷ v.1 i)))
      (λ v. absurd v.1)
      (chosen Next _ LastFeed Malformed w.1))
      (chosen Next (is_token_byte b) Name _ h)

  back_name : Next (place_after Name b) → Left Name (b ∷ bytes)
  back_name h =
      ⊎_elim
      (λ w. let n = w.1 in (b ∷ n.0, n.1, n.2, and_from _ _ w.0 n.3, n.4, ap (λ (t : List ℕ). b ∷ t) n.5, n.6))
      (λ w. ⊎_elim
      (λ v. let n = v.1 in ([], n.0, n.1, refl, n.2, (λ i. eqb-true b 58 v.0 i ∷ n.3 i), n.4))
      (λ v. absurd v.1)
      (chosen Next _ Value Malformed w.1))
      (chosen Next (is_token_byte b) Name _ h)

  back_value : Next (place_after Value b) → Left Value (b ∷ bytes)
  back_value h =
      ⊎_elim
      (λ w. let n = w.1 in (b ∷ n.0, n.1, and_from _ _ w.0 n.2, ap (λ (t : List ℕ). b ∷ t) n.3, n.4))
      (λ w. ⊎_elim
      (λ v. let n = v.1 in ([], n.0, refl, (λ i. eqb-true b 13 v.0 i ∷ n.1 i), n.2))
      (λ v. absurd v.1)
      (chosen Next _ LineFeed Malformed w.1))
      (chosen Next (is_value_byte b) Value _ h)

  back_line_feed : Next (place_after LineFeed b) → Left LineFeed (b ∷ bytes)
  back_line_feed h =
      ⊎_elim (λ w. (bytes, (λ i. eqb-true b 10 w.0 i ∷ bytes), w.1)) (λ w. absurd w.1) (chosen Next _ LineStart Malformed h)

  back_last_feed : Next (place_after LastFeed b) → Left LastFeed (b ∷ bytes)
  back_last_feed h =
      ⊎_elim (λ w. (λ i. eqb-true b 10 w.0 i ∷ w.1 i)) (λ w. absurd w.1) (chosen Next _ End Malformed h)

back : (p : TrailerPlace) (b : ℕ) (bytes : List ℕ) → Left (place_after p b) bytes → Left p (b ∷ bytes)
back LineStart b bytes h = back_start b bytes h
back Name b bytes h = back_name b bytes h
back Value b bytes h = back_value b bytes h
back LineFeed b bytes h = back_line_feed b bytes h
back LastFeed b bytes h = back_last_feed b bytes h
back End b bytes h = absurd h
back Malformed b bytes h = absurd h

accepts : (bytes : List ℕ) (p : TrailerPlace) → places p bytes ≡ End → Left p bytes
accepts [] p done = subst (λ q. Left q []) (sym done) refl
accepts (b ∷ bytes) p done = back p b bytes (accepts bytes (place_after p b) done)

-- ---- trailers and places

pub trailers_from_places : (bytes : List ℕ) → places LineStart bytes ≡ End → ReadsTrailers bytes []
trailers_from_places bytes done = accepts bytes LineStart done

pub trailers_are_places : (bytes rest : List ℕ) → ReadsTrailers bytes rest → (front : List ℕ) × (bytes ≡ front ++ rest) × (places LineStart front ≡ End)
trailers_are_places bytes rest t = (print_trailers t.0, t.2, ends t.0 t.1)

abbrev pub IsOpen : TrailerPlace → Type 0
IsOpen LineStart = ⊤
IsOpen Name = ⊤
IsOpen Value = ⊤
IsOpen LineFeed = ⊤
IsOpen LastFeed = ⊤
IsOpen End = ⊥
IsOpen Malformed = ⊥

-- some bytes lead from each open place to the end
finishes : (p : TrailerPlace) → IsOpen p → (more : List ℕ) × (places p more ≡ End)
unfolding is_token_byte
finishes LineStart open_ = (13 ∷ 10 ∷ [], refl)
finishes Name open_ = (58 ∷ 13 ∷ 10 ∷ 13 ∷ 10 ∷ [], refl)
finishes Value open_ = (13 ∷ 10 ∷ 13 ∷ 10 ∷ [], refl)
finishes LineFeed open_ = (10 ∷ 13 ∷ 10 ∷ [], refl)
finishes LastFeed open_ = (10 ∷ [], refl)
finishes End open_ = absurd open_
finishes Malformed open_ = absurd open_

after_end : (bytes : List ℕ) → IsOpen (places End bytes) → ⊥
after_end [] h = h
after_end (b ∷ bytes) h = subst IsOpen (stays_malformed bytes) h

-- at an open place there are no trailers yet
pub part_of_trailers : (bytes : List ℕ) → IsOpen (places LineStart bytes) → IsPartOfTrailers bytes
part_of_trailers bytes is_open =
    let f = finishes (places LineStart bytes) is_open in
    record {
      none = λ rest t.
          let p = trailers_are_places bytes rest t in
          let at : places LineStart bytes ≡ places End rest = ap (places LineStart) p.1 ∙ places-append LineStart p.0 rest ∙ ap (λ q. places q rest) p.2 in
          after_end rest (subst IsOpen at is_open);
      more = f.0;
      whole = trailers_from_places (bytes ++ f.0) (places-append LineStart bytes f.0 ∙ f.1);
    }

abbrev IsEnd : TrailerPlace → Type 0
IsEnd LineStart = ⊥
IsEnd Name = ⊥
IsEnd Value = ⊥
IsEnd LineFeed = ⊥
IsEnd LastFeed = ⊥
IsEnd End = ⊤
IsEnd Malformed = ⊥

not_malformed : (bytes : List ℕ) → places LineStart bytes ≡ Malformed → places LineStart bytes ≡ End → ⊥
not_malformed bytes bad done = subst IsEnd (sym done ∙ bad) tt

-- ---- reading them

-- some bytes of trailers were taken, which lead to this place
pub record HasTrailers (old now : Reading) (place : TrailerPlace) (all left turns turns_left : ℕ) : Type 0 where
  pub bytes : List ℕ
  pub taken : Consumes old.remaining now.remaining bytes
  pub at : places LineStart bytes ≡ place
  pub go_on : IsOpen place ⊎ (place ≡ End)
  pub counted : left + length bytes ≡ all
  pub counts : SpendsTurns old now turns turns_left
  pub clean : now.failures ≡ old.failures

pub not_at_end : (place : TrailerPlace) → IsOpen place ⊎ (place ≡ End) → (place ≡ End → ⊥) → IsOpen place
not_at_end place (inl h) other = h
not_at_end place (inr h) other = absurd (other h)

pub open_part : (place : TrailerPlace) (bytes : List ℕ) → places LineStart bytes ≡ place → IsOpen place → IsPartOfTrailers bytes
open_part place bytes at is_open = part_of_trailers bytes (subst IsOpen (sym at) is_open)

-- no more bytes came
pub cut_none : (old now new : Option (List ℕ)) (bytes : List ℕ) (room : ℕ) (fault : ReadFault) → Consumes old now bytes → IsPartOfTrailers bytes → GivesNone now new fault → CutsTrailers room old new fault
cut_none old now new bytes room (faults.Malformed is_head) taken part none = absurd none
cut_none old now new bytes room (faults.HostMissingOrRepeated is_head) taken part none = absurd none
cut_none old now new bytes room (faults.LengthMissing is_head) taken part none = absurd none
cut_none old now new bytes room (faults.BodyTooLong is_head) taken part none = absurd none
cut_none old now new bytes room (faults.HeadTooLong is_head) taken part none = absurd none
cut_none old now new bytes room (faults.TransferCoding is_head) taken part none = absurd none
cut_none old now new bytes room (faults.Expectation is_head) taken part none = absurd none
cut_none old now new bytes room faults.EndedEarly taken part none = (bytes, Consumes-kept old now new bytes taken none.0, (part, none.1))
cut_none old now new bytes room faults.ReadFailed taken part none = (bytes, Consumes-kept old now new bytes taken none, part)
cut_none old now new bytes room faults.OutOfMemory taken part none = absurd none
cut_none old now new bytes room faults.TurnsExhausted taken part none = (bytes, Consumes-kept old now new bytes taken none, part)

-- a byte more
pub places_more : (bytes : List ℕ) (b : ℕ) (place : TrailerPlace) → places LineStart bytes ≡ place → places LineStart (bytes ++ b ∷ []) ≡ place_after place b
places_more bytes b place at = places-append LineStart bytes (b ∷ []) ∙ ap (λ p. place_after p b) at

pub one_taken : (old now kept new : Option (List ℕ)) (bytes ahead : List ℕ) → Consumes old now bytes → Keeps now kept → 0 < length ahead → Consumes kept new (take 1 ahead)
    → Consumes old new (bytes ++ get_or ahead 0 0 ∷ [])
one_taken old now kept new bytes [] taken keeps some more = absurd (omega arith)
one_taken old now kept new bytes (b ∷ ahead) taken keeps some more = Consumes-then old kept new bytes (b ∷ []) (Consumes-kept old now kept bytes taken keeps) more

-- a byte that nothing can follow
pub never_trailers : (t : List ℕ) (last : ℕ) → IsOpen (places LineStart t) → places LineStart (t ++ last ∷ []) ≡ Malformed → (more : List ℕ) → HasNoTrailers ((t ++ last ∷ []) ++ more)
never_trailers t last is_open bad more rest trailers =
    let bytes = t ++ last ∷ [] in
    let p = trailers_are_places (bytes ++ more) rest trailers in
    let split : p.0 ++ rest ≡ bytes ++ more = sym p.1 in
    let size : length bytes ≡ length t + 1 = length-append t (last ∷ []) in
    elim (leb_tells (length p.0) (length t)) [
      | inl short ↦
          let q = front_of p.0 rest t (last ∷ more) (split ∙ append_assoc t (last ∷ []) more) short.1 in
          let at : places LineStart t ≡ places End q.0 = ap (places LineStart) q.1 ∙ places-append LineStart p.0 q.0 ∙ ap (λ k. places k q.0) p.2 in
          after_end q.0 (subst IsOpen at is_open)
      | inr long ↦
          let more_than = long.1 in
          let q = front_of bytes more p.0 rest (sym split) (omega arith) in
          let at : places LineStart p.0 ≡ Malformed = ap (places LineStart) q.1 ∙ places-append LineStart bytes q.0 ∙ ap (λ k. places k q.0) bad ∙ stays_malformed q.0 in
          not_malformed p.0 at p.2
    ]

pub open_or_end : (place : TrailerPlace) → (place ≡ Malformed → ⊥) → IsOpen place ⊎ (place ≡ End)
open_or_end LineStart other = inl tt
open_or_end Name other = inl tt
open_or_end Value other = inl tt
open_or_end LineFeed other = inl tt
open_or_end LastFeed other = inl tt
open_or_end End other = inr refl
open_or_end Malformed other = absurd (other refl)

nothing_after_end : (bytes : List ℕ) → places End bytes ≡ End → bytes ≡ []
nothing_after_end [] h = refl
nothing_after_end (b ∷ bytes) h = absurd (subst IsEnd (sym h ∙ stays_malformed bytes) tt)

same_rest : (a r b q : List ℕ) → a ++ r ≡ b ++ q → length a ≤ length b → places LineStart a ≡ End → places LineStart b ≡ End → r ≡ q
same_rest a r b q e short x y =
    let p = front_of a r b q e short in
    let at : places End p.0 ≡ End = sym (ap (places LineStart) p.1 ∙ places-append LineStart a p.0 ∙ ap (λ k. places k p.0) x) ∙ y in
    p.2 ∙ ap (λ (t : List ℕ). t ++ q) (nothing_after_end p.0 at)

-- trailers end at one place
pub one_rest : (input r q : List ℕ) → ReadsTrailers input r → ReadsTrailers input q → r ≡ q
one_rest input r q x y =
    let a = trailers_are_places input r x in
    let b = trailers_are_places input q y in
    let e : a.0 ++ r ≡ b.0 ++ q = sym a.1 ∙ b.1 in
    elim (leb_tells (length a.0) (length b.0)) [
      | inl short ↦ same_rest a.0 r b.0 q e short.1 a.2 b.2
      | inr long ↦ let more = long.1 in sym (same_rest b.0 q a.0 r (sym e) (omega arith) b.2 a.2)
    ]
