use Rattle.scim_resource.proofs.EmailLists.{no_emails}
use Rattle.scim_resource.proofs.emails.Emails.new.Goals as goal

pub invariant_of-result : goal.invariant_of-result
invariant_of-result c = no_emails _ c.new.ensures.items
