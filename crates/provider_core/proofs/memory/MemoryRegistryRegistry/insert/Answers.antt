use Rattle.std.proofs.Common.{◌∙◌, ap}
use Rattle.scim_resource.specs.Contents.{content_name}
use Rattle.provider_core.proofs.MemoryLaws.{indexed-calls}
use Rattle.provider_core.proofs.memory.MemoryRegistryRegistry.insert.Goals as goal

pub invariant_of-self-2 : goal.invariant_of-self-2
invariant_of-self-2 c =
    indexed-calls c.self.inside.numbers c.insert.new.self c.self.inside.rows.items c.args.self.now.rows c.reserve.new.self.items c.push.new.self.items c.args.row c.in_ok-name.name c.number.result
    c.self.invariant (ap (λ v. v.rows) c.self.view_is) (c.requires.next tt) (c.requires.free tt) c.number.ensures.value c.number.ensures.to
    (c.in_ok-name.ensures ∙ ap content_name c.content.ensures) c.in_ok-insert.ensures.updates c.in_ok-reserve.ensures.items c.in_ok-push.ensures.items
