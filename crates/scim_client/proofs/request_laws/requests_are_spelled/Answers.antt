use Rattle.scim_client.proofs.Spelled as spelled
use Rattle.scim_client.proofs.request_laws.requests_are_spelled.Goals as goal

pub returns : goal.returns
returns c = spelled.requests_are_spelled
