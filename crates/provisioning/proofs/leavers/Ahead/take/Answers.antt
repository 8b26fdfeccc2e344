use Rattle.std.proofs.Common.{◌≡◌, ◌∙◌, true, false, Some, subst, sym}
use Rattle.std.specs.BTreeMap.{Updates}
use Rattle.scim_key.specs.Records.{name_cmp}
use Rattle.scim_key.specs.declared.records.RecordName.{RecordName}
use Rattle.provisioning.specs.Leavers.{is_later, last_in, last_of}
use Rattle.provisioning.specs.declared.leavers.Last.{Last}
use Rattle.provisioning.proofs.LeaverLemmas.{later_goes, other_goes}
use Rattle.provisioning.proofs.leavers.Ahead.take.Goals as goal

pub returns-then-is_later : goal.returns-then-is_later
returns-then-is_later g c =
    let book = c.args.connector.now.book in
    let is = subst (λ (n : RecordName). is_later (last_in c.args.self.now book n) c.args.row.now ≡ true)
    c.in_ok-name.ensures (sym c.is_later.ensures ∙ c.if-is_later.true) in
    let updates = subst (λ (n : RecordName). Updates name_cmp c.args.self.now.later c.insert.new.self n (Some (last_of c.args.row.now)))
    c.in_ok-name.ensures
    (subst (λ (l : Last). Updates name_cmp c.args.self.now.later c.insert.new.self c.in_ok-name.name (Some l)) c.of.ensures
    c.in_ok-insert.ensures.updates) in
    later_goes book c.args.self.now c.args.row.now (record { later = c.insert.new.self }) is updates

pub returns : goal.returns
returns g c =
    let book = c.args.connector.now.book in
    let is = subst (λ (n : RecordName). is_later (last_in c.args.self.now book n) c.args.row.now ≡ false)
    c.in_ok-name.ensures (sym c.is_later.ensures ∙ c.if-is_later.false) in
    other_goes book c.args.self.now c.args.row.now is
