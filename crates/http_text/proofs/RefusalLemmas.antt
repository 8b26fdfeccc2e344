-- Bytes that are refused: none of their fronts is a head, and how often they are halved.
use Rattle.std.proofs.Common.{◌≡◌, ℕ, zero, suc, ◌+◌, ◌-◌, ◌/◌, ◌^◌, ◌<◌, ◌≤◌, List, [], ◌++◌, length, take, drop, ap, sym, ◌∙◌, arith, subst, length-take, inl, inr}
use Rattle.std.proofs.Math.Nat.{pow-suc}
use Rattle.std.proofs.lemmas.List.{length-map, take-take, take-append-drop}
use Rattle.httparse.specs.declared.spans.HeaderSpan.{HeaderSpan}
use Rattle.httparse.specs.Spans.{header_bytes, name_and_value}
use Rattle.http_text.specs.declared.parsing.HeadSpans.{HeadSpans}
use Rattle.http_text.specs.declared.fault.ReadFault.{ReadFault}
use Rattle.http_text.specs.declared.fault.ReadFault.TheVariants.{Malformed, HostMissingOrRepeated, LengthMissing, BodyTooLong, HeadTooLong, TransferCoding, Expectation, EndedEarly, ReadFailed, OutOfMemory, TurnsExhausted}
use Rattle.http_text.specs.Message.{field_limit}
use Rattle.http_text.specs.Forms.{Form}
use Rattle.http_text.specs.Parsing.{AreWithin, IsHeadOf}
use Rattle.http_text.specs.Steps.{RefusesHead}
use Rattle.http_text.proofs.FormLaws.{Laws}

module _ (F : Form) (laws : Laws F) where
  refused_reads : (all : List ℕ) (tree : F.Tree) (rest : List ℕ) (fault : ReadFault) → RefusesHead F all fault
      → F.Reads all tree rest → length (F.lines tree) ≤ field_limit → ⊥
  refused_reads all tree rest (Malformed is_head) h reads few = h.0 [] tree (rest ++ []) (laws.append all tree rest [] reads)
  refused_reads all tree rest (HostMissingOrRepeated is_head) h reads few = h
  refused_reads all tree rest (LengthMissing is_head) h reads few = h
  refused_reads all tree rest (BodyTooLong is_head) h reads few = h
  refused_reads all tree rest (HeadTooLong is_head) h reads few =
      elim h.0 [
        | inl limit ↦ limit.undecided.none tree rest reads
        | inr fields ↦
            let many = fields.1 [] tree (rest ++ []) (laws.append all tree rest [] reads) in
            omega arith
      ]
  refused_reads all tree rest (TransferCoding is_head) h reads few = h
  refused_reads all tree rest (Expectation is_head) h reads few = h
  refused_reads all tree rest EndedEarly h reads few = h
  refused_reads all tree rest ReadFailed h reads few = h
  refused_reads all tree rest OutOfMemory h reads few = h
  refused_reads all tree rest TurnsExhausted h reads few = h

  -- no front of bytes that are refused is a head
  pub refused_front : (bytes : List ℕ) (n k : ℕ) (fault : ReadFault) (fields : List HeaderSpan) (spans : HeadSpans)
      → n ≤ k → RefusesHead F (take k bytes) fault → IsHeadOf F (take n bytes) fields spans
      → AreWithin (take n bytes) fields spans → length fields ≡ field_limit → ⊥
  refused_front bytes n k fault fields spans le refused head within room =
      let tree = head.0 in
      let at = head.1 in
      let rest = drop spans.len (take n bytes) in
      let more = drop n (take k bytes) in
      let whole : take n bytes ++ more ≡ take k bytes =
      ap (λ (t : List ℕ). t ++ more) (sym (take-take n k bytes le)) ∙ take-append-drop n (take k bytes) in
      let reads = laws.append (take n bytes) tree rest more at.reads in
      let counted : length (F.lines tree) ≡ length (take spans.count fields) =
      sym (length-map (F.lines tree) name_and_value) ∙ sym (ap length at.lines)
      ∙ length-map (take spans.count fields) (header_bytes (take n bytes)) in
      let few : length (F.lines tree) ≤ field_limit = omega (arith, length-take spans.count fields) in
      refused_reads (take k bytes) tree (rest ++ more) fault refused
      (subst (λ (t : List ℕ). F.Reads t tree (rest ++ more)) whole reads) few

-- what is left of a width after it is halved
pub halved : (n w : ℕ) → 1 < w → w ≤ 2 ^ n → (m : ℕ) × (n ≡ m + 1) × (w - w / 2 ≤ 2 ^ m)
halved zero w some within = absurd (omega arith)
halved (suc m) w some within = (m, omega arith, omega (arith, pow-suc 2 m))
