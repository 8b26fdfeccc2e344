use Rattle.scim_client.proofs.RequestLaws.{one_request}
use Rattle.scim_client.proofs.request_laws.one_request.Goals as goal

pub returns : goal.returns
returns c = one_request
