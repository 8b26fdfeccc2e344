use Rattle.std.proofs.Common.{false, arith}
use Rattle.provisioning.proofs.CarryLemmas.{carries_as}
use Rattle.provisioning.proofs.InTurnLemmas.{one_stream}
use Rattle.provisioning.specs.Paces.{PushesAt}
use Rattle.provisioning.specs.Runs.{PushesAll}
use Rattle.provisioning.specs.declared.paces.Pace.{Pace}
use Rattle.provisioning.proofs.carrying.carry.Goals as goal

-- one record after another, in the order of keys
abbrev in_turn : Pace
in_turn = record { streams = 1; leavers_first = false; give_up_after = 0 }

pub returns : goal.returns
returns g c =
    let carried = c.carry_at.ensures in (
      carried.0,
      carried.1,
      carries_as (PushesAt g.D.Reader.Read.remaining g.D.Writer.Write.contents g.J.Journal c.args.service.now in_turn) (PushesAll g.D.Reader.Read.remaining g.D.Writer.Write.contents g.J.Journal c.args.service.now)
          (λ opened old new before after result. one_stream g.D.Reader.Read.remaining g.D.Writer.Write.contents g.J.Journal c.args.service.now in_turn opened old new before after result (omega arith))
          g.J.Journal g.T.Hear.heard g.T.Tell.told c.args.sources.now carried.0 c.args.connector.now c.carry_at.new.connector c.args.teller.now c.carry_at.new.teller c.carry_at.result carried.2,
    )
