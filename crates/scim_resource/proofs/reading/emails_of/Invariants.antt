use Rattle.std.proofs.Common.{◌≡◌, drop}
use Rattle.serde_json.specs.View.{items_view}
use Rattle.scim_resource.specs.Emails.{AreEmails}
use Rattle.scim_resource.specs.Reading as spec
use Rattle.scim_resource.proofs.EmailLists.{after_emails}
use Rattle.scim_resource.proofs.reading.emails_of.Given as goal

abbrev pub invariant-loop-item : goal.invariant-loop-item
invariant-loop-item l = record {
  so_far : after_emails l.emails.items (spec.emails_of (items_view (drop l.item-index l.items))) ≡ spec.emails_of (items_view l.items);
  lawful : AreEmails l.emails.items;
}
