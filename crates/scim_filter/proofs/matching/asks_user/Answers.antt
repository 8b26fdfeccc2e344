use Rattle.std.proofs.Common.{◌∙◌, List, map, ap}
use Rattle.std.specs.List.{filter_map}
use Rattle.scim_resource.specs.declared.emails.Email.{Email}
use Rattle.scim_filter.specs.Matching.{some_compares}
use Rattle.scim_filter.proofs.Values.{emails_asked, types_asked}
use Rattle.scim_filter.proofs.matching.asks_user.Goals as goal

pub returns-in-EmailValue : goal.returns-in-EmailValue
returns-in-EmailValue c =
    let q = c.args.question.now in
    rw c.in-EmailValue.is (c.of_emails.ensures ∙ emails_asked q.exact q.operator q.given.now c.emails.result.now
    ∙ ap (λ (es : List Email). some_compares q.exact q.operator q.given.now (map (λ e. e.value) es)) c.emails.ensures)

pub returns-in-EmailType : goal.returns-in-EmailType
returns-in-EmailType c =
    let q = c.args.question.now in
    rw c.in-EmailType.is (c.of_email_types.ensures ∙ types_asked q.exact q.operator q.given.now c.emails-in-EmailType.result.now
    ∙ ap (λ (es : List Email). some_compares q.exact q.operator q.given.now (filter_map (λ e. e.type_text) es)) c.emails-in-EmailType.ensures)
