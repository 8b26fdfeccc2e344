use Rattle.http_text.proofs.InterimLemmas.{finds_response, finds_refused_response, finds_response_end, finds_long_response, finds_malformed_response, finds_malformed_body, finds_interims}
use Rattle.http_text.proofs.response_reading.read_response.Goals as goal

pub returns-clause-found : goal.returns-clause-found
returns-clause-found g c = finds_response _ _ _ c.read_within.ensures.message c.read_within.ensures.refused

pub returns-clause-refused_head : goal.returns-clause-refused_head
returns-clause-refused_head g c = finds_refused_response _ _ _ c.read_within.ensures.message c.read_within.ensures.refused

pub returns-clause-ended : goal.returns-clause-ended
returns-clause-ended g c = finds_response_end _ _ _ c.read_within.ensures.message c.read_within.ensures.refused

pub returns-clause-long : goal.returns-clause-long
returns-clause-long g c = finds_long_response _ _ _ c.read_within.ensures.message c.read_within.ensures.refused

pub returns-clause-malformed : goal.returns-clause-malformed
returns-clause-malformed g c = finds_malformed_response _ _ _ c.read_within.ensures.message c.read_within.ensures.refused

pub returns-clause-malformed_body : goal.returns-clause-malformed_body
returns-clause-malformed_body g c = finds_malformed_body _ _ _ c.read_within.ensures.message c.read_within.ensures.refused

pub returns-clause-interims : goal.returns-clause-interims
returns-clause-interims g c = finds_interims _ _ _ c.read_within.ensures.message c.read_within.ensures.refused
