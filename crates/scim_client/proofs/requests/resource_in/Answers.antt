use Rattle.std.proofs.Common.{◌≡◌, ◌++◌, ap, subst, sym, ◌∙◌, List, ℕ}
use Rattle.std.specs.Str.{IsUtf8}
use Rattle.scim_key.specs.Identifiers.{IsId}
use Rattle.scim_client.proofs.Paths.{below, location_is, may_cut, cut, location_below}
use Rattle.scim_client.proofs.requests.resource_in.Goals as goal

pub range_from-requires : goal.range_from-requires
range_from-requires c =
    let rest = below c.args.kind c.args.id.now in
    let is : c.as_str-2.result.now ≡ c.as_str-3.result.now ++ rest =
    location_is c.args.base.now c.as_str-2.result.now c.args.kind c.args.id.now (c.as_str-2.ensures.value ∙ c.in_ok-uri.ensures)
    ∙ ap (λ (b : List ℕ). b ++ rest) (sym c.as_str-3.ensures.value) in
    λ _. may_cut c.as_str-3.result.now c.as_str-2.result.now rest is c.as_str-3.utf8 c.as_str-2.utf8

pub returns : goal.returns
returns c =
    let rest = below c.args.kind c.args.id.now in
    let is : c.as_str-2.result.now ≡ c.as_str-3.result.now ++ rest =
    location_is c.args.base.now c.as_str-2.result.now c.args.kind c.args.id.now (c.as_str-2.ensures.value ∙ c.in_ok-uri.ensures)
    ∙ ap (λ (b : List ℕ). b ++ rest) (sym c.as_str-3.ensures.value) in
    let found : c.range_from.result.now ≡ rest = c.range_from.ensures.value ∙ cut c.as_str-3.result.now c.as_str-2.result.now rest is in
    record {
      path = rw (c.in_ok-push_str-2.ensures.bytes, found, c.in_ok-push_str.ensures.bytes, c.in_ok-text.ensures.bytes) (location_below c.args.path.now c.args.kind c.args.id.now);
      lawful = (subst IsUtf8 c.as_str.ensures.value c.as_str.utf8, subst IsId c.as_str.ensures.value c.as_str.ensures.lawful);
    }
