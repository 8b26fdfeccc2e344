use Rattle.http_text.specs.Forms.{request_form}
use Rattle.http_text.proofs.FormLaws.{request_laws}
use Rattle.http_text.proofs.MessageLemmas.{messages_apart}
use Rattle.http_text.proofs.request.messages_are_apart.Goals as goal

pub returns : goal.returns
returns c = messages_apart request_form request_laws
