-- What reading requires of a form of messages, and that both forms have it.
use Rattle.std.proofs.Common.{◌≡◌, ℕ, List, [], ◌++◌, length, refl, ap, arith, Ok, Err, inl, length-append}
use Rattle.httparse.specs.Grammar.{HasNoRequest, HasNoResponse, print_request, print_response}
use Rattle.httparse.proofs.GrammarLemmas.{request_unique, ReadsRequest-append, response_unique, ReadsResponse-append}
use Rattle.httparse.proofs.OpenLemmas.{BlankLines_after, line_blank, status_blank, request_may_from_line, response_may, Completes_first, some_newline, some_section}
use Rattle.http_text.specs.declared.fault.ReadFault.{ReadFault}
use Rattle.http_text.specs.declared.parsing.MessageKind.{MessageKind}
use Rattle.http_text.specs.declared.parsing.MessageKind.TheVariants.{Request, Response}
use Rattle.http_text.specs.Message.{Head}
use Rattle.http_text.specs.Forms.{Form, request_form, response_form}
use Rattle.http_text.specs.Heads.{IsUndecided}
use Rattle.http_text.specs.Parsing.{form_of}
use Rattle.http_text.proofs.JudgeLemmas.{IsHeadFault, judged_fault, accepted_length, response_judged_fault, response_accepted_length}

pub record Laws (F : Form) : Type 0 where
  -- bytes begin with one head at most, whatever follows
  pub unique : (bytes : List ℕ) (h k : F.Tree) (r q : List ℕ) → F.Reads bytes h r → F.Reads bytes k q → (h ≡ k) × (r ≡ q)
  pub append : (bytes : List ℕ) (h : F.Tree) (rest more : List ℕ) → F.Reads bytes h rest → F.Reads (bytes ++ more) h (rest ++ more)
  -- what is read is what is printed, and whatever begins with it is read again
  pub printed : (bytes : List ℕ) (h : F.Tree) (rest : List ℕ) → F.Reads bytes h rest → bytes ≡ F.print h ++ rest
  pub again : (bytes : List ℕ) (h : F.Tree) (rest : List ℕ) → F.Reads bytes h rest → (text left : List ℕ) → text ≡ F.print h ++ left → F.Reads text h left
  -- no bytes are a part of a head
  pub undecided : IsUndecided F []
  -- a refusal is one of heads, and as many bytes follow an accepted head as the form says
  pub judged : (head : Head) (fault : ReadFault) → F.judge head ≡ Err fault → IsHeadFault fault
  pub accepted : (head : Head) (n : ℕ) → F.judge head ≡ Ok n → n ≡ F.body head

no_request : HasNoRequest []
unfolding print_request
no_request h rest reads =
    let some = reads.0.method.0 in
    let none = simp length-append at (ap length reads.1) in
    omega arith

no_response : HasNoResponse []
unfolding print_response
no_response h rest reads =
    let some = reads.0.digits.0 in
    let none = simp length-append at (ap length reads.1) in
    omega arith

pub request_laws : Laws request_form
request_laws = record {
  unique = request_unique;
  append = ReadsRequest-append;
  printed = λ bytes h rest reads. reads.1;
  again = λ bytes h rest reads text left is. (reads.0, is);
  undecided = record { none = no_request; open_end = request_may_from_line (inl (line_blank (BlankLines_after [] refl some_newline))) };
  judged = judged_fault;
  accepted = accepted_length;
}

pub response_laws : Laws response_form
response_laws = record {
  unique = response_unique;
  append = ReadsResponse-append;
  printed = λ bytes h rest reads. reads.1;
  again = λ bytes h rest reads text left is. (reads.0, is);
  undecided = record { none = no_response; open_end = inl (response_may (Completes_first (status_blank (BlankLines_after [] refl some_newline)) some_section)) };
  judged = response_judged_fault;
  accepted = response_accepted_length;
}

pub laws_of : (kind : MessageKind) → Laws (form_of kind)
laws_of Request = request_laws
laws_of Response = response_laws
