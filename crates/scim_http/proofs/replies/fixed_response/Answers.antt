use Rattle.std.proofs.Common.{refl}
use Rattle.httparse.specs.Grammar.{print_response}
use Rattle.scim_http.specs.Replies.{fixed_text}
use Rattle.scim_http.proofs.replies.fixed_response.Goals as goal

pub returns : goal.returns
unfolding fixed_text print_response
returns c = refl
