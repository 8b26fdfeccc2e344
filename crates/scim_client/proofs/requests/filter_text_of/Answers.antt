use Rattle.std.proofs.Common.{subst}
use Rattle.std.specs.Str.{IsUtf8}
use Rattle.std.proofs.lemmas.Str.{IsUtf8-string_bytes}
use Rattle.scim_client.proofs.requests.filter_text_of.Goals as goal

pub returns-in_ok-to_text-in-Some-clause-lawful : goal.returns-in_ok-to_text-in-Some-clause-lawful
returns-in_ok-to_text-in-Some-clause-lawful c =
    rw c.in-Some.is (subst IsUtf8 c.in_ok-to_text-in-Some.ensures.text (IsUtf8-string_bytes c.in_ok-to_text-in-Some.field-0))
