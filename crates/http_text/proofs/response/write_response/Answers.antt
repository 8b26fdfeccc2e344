use Rattle.std.proofs.Common.{◌≡◌, ◌∙◌, ◌++◌, [], map, subst}
use Rattle.std.specs.Prelude.{IfOk, codes}
use Rattle.http_text.specs.Response.{line_of, message_text, written_lines}
use Rattle.http_text.proofs.ResponseLemmas.{response_parts}
use Rattle.http_text.proofs.response.write_response.Goals as goal

pub returns : goal.returns
returns c =
    let lines = written_lines (map line_of c.args.fields.now) in
    let body = c.args.body.now in
    subst (λ t. IfOk c.write_message.result (λ text. text.items ≡ t))
    ((λ i. message_text (codes "HTTP/1.1 " ++ (c.as_str.ensures i ++ (codes " " ++ (c.phrase.ensures i ++ [])))) lines body)
    ∙ response_parts c.args.status lines body)
    c.write_message.ensures
