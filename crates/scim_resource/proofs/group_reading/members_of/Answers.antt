use Rattle.std.proofs.Common.{inr, arith}
use Rattle.scim_resource.proofs.MemberLists.{Kept-none, Kept-more, one_too_many}
use Rattle.scim_resource.proofs.group_reading.members_of.Goals as goal

pub loop-item-init : goal.loop-item-init
loop-item-init c = Kept-none c.args.items.now c.new-values.result.items c.new-values.ensures.items

pub loop-item-preserved : goal.loop-item-preserved
loop-item-preserved c =
    Kept-more c.args.items.now c.loop-item.item-index c.item-item.result c.loop-item.values.items c.keep.new.values.items c.in_ok-value.value c.loop-item-test.true c.item-item.is c.in_ok-value.ensures.given c.in_ok-value.ensures.lawful c.in_ok-keep.ensures.kept (omega (arith, c.len.ensures, c.if-len-gt-MEMBER_LIMIT.false, c.keep.new.values.ok)) c.loop-item.invariant

pub returns-then-len-gt-MEMBER_LIMIT-clause-given : goal.returns-then-len-gt-MEMBER_LIMIT-clause-given
returns-then-len-gt-MEMBER_LIMIT-clause-given c =
    inr
    (one_too_many c.args.items.now c.loop-item.item-index c.item-item.result c.loop-item.values.items c.keep.new.values.items c.in_ok-value.value c.loop-item-test.true c.item-item.is c.in_ok-value.ensures.given c.in_ok-keep.ensures.kept
    (omega (arith, c.len.ensures, c.if-len-gt-MEMBER_LIMIT.true, c.keep.new.values.ok)) c.loop-item.invariant)
