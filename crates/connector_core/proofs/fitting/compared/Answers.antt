use Rattle.std.proofs.Common.{subst, sym}
use Rattle.scim_key.proofs.RevisionLaws.{reflexive_up_to}
use Rattle.scim_key.specs.Revisions.{IsRevision, RevisionValue, ◌≼◌}
use Rattle.source_csv.specs.Records.{row_revision}
use Rattle.connector_core.proofs.fitting.compared.Goals as goal

pub sighted-requires : goal.sighted-requires
sighted-requires c =
    let wanted = row_revision c.args.known.now.wanted in
    let W : RevisionValue → Type 0 = λ r. r ≼ wanted in record {
      lawful = subst IsRevision (sym c.revision.ensures.value) c.revision.ensures.lawful;
      within = subst W (sym c.revision.ensures.value) (reflexive_up_to wanted);
    }
