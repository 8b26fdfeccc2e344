use Rattle.std.proofs.Common.{◌≡◌, drop}
use Rattle.serde_json.specs.View.{items_view}
use Rattle.scim_message.specs.Answers as spec
use Rattle.scim_message.proofs.Pages.{after_page}
use Rattle.scim_message.proofs.answers.page_of.Given as goal

abbrev pub invariant-loop-item : goal.invariant-loop-item
invariant-loop-item l = after_page l.page.items (spec.page_of l.kind (items_view (drop l.item-index l.items))) ≡ spec.page_of l.kind (items_view l.items)
