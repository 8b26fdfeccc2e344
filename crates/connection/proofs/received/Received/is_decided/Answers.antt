use Rattle.std.proofs.Common.{◌≡◌, inl, sym, subst}
use Rattle.http_text.specs.Forms.{request_form}
use Rattle.http_text.specs.Heads.{IsUnfinished}
use Rattle.connection.specs.Arriving.{Waits}
use Rattle.connection.proofs.received.Received.is_decided.Goals as goal

pub returns-clause-waits : goal.returns-clause-waits
returns-clause-waits c =
    let unfinished : IsUnfinished request_form c.args.self.now.bytes.items =
    subst (IsUnfinished request_form) c.deref.ensures.value (c.is_part.ensures c.if-not-is_part.false) in
    let same : c.note.new.self.bytes.items ≡ c.args.self.now.bytes.items = cc in
    ∣ subst Waits (sym same) (inl unfinished) ∣₁
