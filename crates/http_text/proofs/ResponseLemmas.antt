-- A response's text, part by part.
use Rattle.std.proofs.Common.{◌≡◌, ℕ, List, [], ◌∷◌, ◌++◌, map, append_assoc, append-nil}
use Rattle.std.specs.Prelude.{codes}
use Rattle.std.specs.List.{flat_map}
use Rattle.http.specs.StatusCode.{code_digits}
use Rattle.httparse.specs.Grammar.{print_field, print_response}
use Rattle.http_text.specs.Message.{NamedValue}
use Rattle.http_text.specs.Response.{phrase_of, field_line, message_text, response_text}

-- v the version, s a space, d the digits, p the phrase, e the line's end, l the field lines
regroup : (v s d p e l body : List ℕ)
    → ((v ++ s) ++ (d ++ (s ++ (p ++ [])))) ++ (e ++ (l ++ (e ++ body)))
    ≡ (((((([] ++ v) ++ (s ++ d)) ++ (s ++ p)) ++ e) ++ (l ++ e)) ++ body)
regroup v s d p e l body = simp (append_assoc, append-nil)

pub response_parts : (status : ℕ) (fields : List NamedValue) (body : List ℕ)
    → message_text (codes "HTTP/1.1 " ++ (code_digits status ++ (codes " " ++ (phrase_of status ++ [])))) fields body
    ≡ response_text status fields body
unfolding print_response
response_parts status fields body =
    regroup (codes "HTTP/1.1") (32 ∷ []) (code_digits status) (phrase_of status) (13 ∷ 10 ∷ []) (flat_map print_field (map field_line fields)) body
