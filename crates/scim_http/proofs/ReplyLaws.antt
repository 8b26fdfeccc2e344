-- The text of 304, and the fixed reply, which is a reply as any other.
use Rattle.std.proofs.Common.{◌≡◌, ℕ, Bool, true, false, List, Some, None, length, refl, ap, sym, ◌∙◌, arith}
use Rattle.std.specs.Prelude.{codes}
use Rattle.std.specs.Fmt.{decimal}
use Rattle.std.proofs.lemmas.Fmt.{decimal_digit, decimal_step}
use Rattle.serde_json.proofs.OnLiterals.{serde_json_on_literals}
use Rattle.httparse.specs.Grammar.{print_response}
use Rattle.scim_key.specs.declared.records.Kind.{Kind}
use Rattle.scim_message.specs.declared.messages.Answer.TheVariants.{NotModified, Error}
use Rattle.scim_message.specs.Bodies.{body_text, error_data, error_message}
use Rattle.http_text.specs.Response.{response_text, written_lines}
use Rattle.scim_http.specs.Replies.{lines_of, answer_text, fixed_text}
use Rattle.scim_http.specs.Laws.{fixed_error, not_modified_text, RepliesAreLawful}

five_hundred : decimal 500 ≡ codes "500"
five_hundred = rw (decimal_step 500 (omega arith) (omega arith), decimal_step 50 (omega arith) (omega arith), decimal_digit 5 (omega arith)) refl

body_length : decimal 129 ≡ codes "129"
body_length = rw (decimal_step 129 (omega arith) (omega arith), decimal_step 12 (omega arith) (omega arith), decimal_digit 1 (omega arith)) refl

fixed_body : List ℕ
fixed_body = codes "{\"detail\":\"the provider could not complete the request\",\"schemas\":[\"urn:ietf:params:scim:api:messages:2.0:Error\"],\"status\":\"500\"}"

body_is : (base : List ℕ) → body_text base (Error fixed_error) ≡ fixed_body
unfolding error_data error_message serde_json_on_literals fixed_body
body_is base = rw five_hundred refl

fixed : (base : List ℕ) → fixed_text ≡ answer_text base false (Error fixed_error)
unfolding fixed_text fixed_body print_response
fixed base = sym (
    ap (λ (b : List ℕ). response_text 500 (written_lines (lines_of (Some (decimal (length b))) None None false)) b) (body_is base)
    ∙ ap (λ (d : List ℕ). response_text 500 (written_lines (lines_of (Some d) None None false)) fixed_body) body_length)

not_modified : (base : List ℕ) (leaves_body_out : Bool) (kind : Kind) (id version : List ℕ)
    → answer_text base leaves_body_out (NotModified kind id version) ≡ not_modified_text base kind id version
not_modified base true kind id version = refl
not_modified base false kind id version = refl

pub replies_are_lawful : RepliesAreLawful
replies_are_lawful = record { not_modified = not_modified; fixed = fixed }
