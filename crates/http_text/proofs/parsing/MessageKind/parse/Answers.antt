use Rattle.http_text.proofs.parsing.MessageKind.parse.Goals as goal

pub returns-in-Request-clause-parsed : goal.returns-in-Request-clause-parsed
returns-in-Request-clause-parsed c = rw c.in-Request.is c.parse_request_head.ensures

pub returns-in-Response-clause-parsed : goal.returns-in-Response-clause-parsed
returns-in-Response-clause-parsed c = rw c.in-Response.is c.parse_response_head.ensures
