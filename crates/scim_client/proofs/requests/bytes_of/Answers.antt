use Rattle.std.proofs.Common.{◌≡◌, ap, subst, sym, ◌∙◌, List, ℕ, [], length, map}
use Rattle.std.specs.Prelude.{IfOk, decimal, option_map}
use Rattle.std.specs.Option.{option_map_or}
use Rattle.scim_key.specs.Bases.{IsAuthority, authority_of}
use Rattle.http_text.specs.Response.{line_of, written_lines}
use Rattle.http_text.specs.Texts.{request_text}
use Rattle.scim_http.proofs.SearchLemmas.{if_ok}
use Rattle.scim_client.specs.Requests.{condition_value, lines_of, request_lines, text_at, stated_length, body_text}
use Rattle.scim_client.specs.Spelling.{HasEntityTags, HasLawfulParts, SpellsRequest}
use Rattle.scim_client.proofs.Spelled.{spelled_by}
use Rattle.scim_client.proofs.requests.bytes_of.Goals as goal

pub returns : goal.returns
returns c =
    let at = authority_of c.args.base.now in
    let path = c.args.path.now in
    let request = c.args.request.now in
    let host = c.authority.ensures.value in
    let long : option_map (λ t. t.now) c.length_of.result ≡ stated_length request =
    c.length_of.ensures ∙ ap (option_map (λ (t : List ℕ). decimal (length t))) (c.lent.ensures ∙ c.in_ok-body.ensures.text) in
    let first = c.lent-2.ensures ∙ c.in_ok-if_match.ensures.value ∙ ap condition_value c.if_match_of.ensures in
    let second = c.lent-3.ensures ∙ c.in_ok-if_none_match.ensures.value ∙ ap condition_value c.if_none_match_of.ensures in
    let method = c.method_of.ensures in
    let target = c.as_str.ensures.value ∙ c.in_ok-target.ensures.text in
    let fields : written_lines (map line_of c.fields_of-fields.result) ≡ written_lines (request_lines at request) =
    ap written_lines (c.fields_of-fields.ensures ∙ (λ i. lines_of (host i) (long i) (first i) (second i))) in
    let body : c.sent.result.now ≡ body_text request =
    c.sent.ensures ∙ ap (λ t. option_map_or (λ text. text) t []) (c.lent-4.ensures ∙ c.in_ok-body.ensures.text) in
    let whole : IfOk c.write_request.result (λ text. text.items ≡ text_at at path request) =
    subst (λ t. IfOk c.write_request.result (λ text. text.items ≡ t)) (λ i. request_text (method i) (target i) (fields i) (body i)) c.write_request.ensures in
    let authority = subst IsAuthority host c.authority.ensures.lawful in
    let parts : HasLawfulParts request = (
      c.in_ok-target.ensures.lawful,
      c.in_ok-body.ensures.lawful,
      subst HasEntityTags c.if_match_of.ensures c.in_ok-if_match.ensures.lawful,
      subst HasEntityTags c.if_none_match_of.ensures c.in_ok-if_none_match.ensures.lawful,
    ) in
    record {
      text = whole;
      spelled = if_ok c.write_request.result (λ text is seen keeps. subst (λ t. SpellsRequest t request) (sym is) (spelled_by at path request authority parts seen keeps)) whole;
    }
