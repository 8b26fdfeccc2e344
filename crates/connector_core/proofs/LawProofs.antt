-- The laws of the connector.
use Rattle.std.proofs.Common.{◌≢◌, Ok, Err, refl, arith, inl, inr}
use Rattle.std.specs.FinMap.{get}
use Rattle.source_csv.specs.Records.{row_name}
use Rattle.journal_core.specs.Stores.{HasRisen}
use Rattle.connector_core.specs.declared.accepting.Verdict.TheVariants as verdicts
use Rattle.connector_core.specs.Book.{wanting}
use Rattle.connector_core.specs.Changing.{CountsChange, MapsAccept}
use Rattle.connector_core.specs.Laws.{NoStoreFaults}
use Rattle.connector_core.specs.Noting.{CountsLearn}
use Rattle.connector_core.specs.State.{CountsOpen}
use Rattle.connector_core.specs.declared.changing.ChangeFault.{ChangeFault}
use Rattle.connector_core.specs.declared.changing.ChangeFault.TheVariants as change
use Rattle.connector_core.specs.declared.learning.LearnFault.{LearnFault}
use Rattle.connector_core.specs.declared.learning.LearnFault.TheVariants as learn
use Rattle.connector_core.specs.declared.opening.ConnectorOpenFault.{ConnectorOpenFault}
use Rattle.connector_core.specs.declared.opening.ConnectorOpenFault.TheVariants as opening
use Rattle.connector_core.proofs.Keeping.{maps_are_books}

pub maps_accept : MapsAccept
maps_accept book row (Ok verdicts.New) = (maps_are_books book (row_name row) (wanting (get book (row_name row)) row)).book
maps_accept book row (Ok verdicts.Known) = refl
maps_accept book row (Ok verdicts.Older) = refl
maps_accept book row (Err fault) = refl

never-risen : HasRisen 0 0 → ⊥
never-risen (inl less) = omega arith
never-risen (inr full) = omega arith

opening-counts : (fault : ConnectorOpenFault) → CountsOpen 0 0 fault → fault ≢ opening.Store
opening-counts opening.Store counts = λ _. never-risen counts.1
opening-counts opening.Memory counts = λ e. cc

change-counts : (fault : ChangeFault) → CountsChange 0 0 fault → fault ≢ change.Store
change-counts change.Differs counts = λ e. cc
change-counts (change.NoSuchMember key) counts = λ e. cc
change-counts change.TooMany counts = λ e. cc
change-counts change.Store counts = λ _. never-risen counts.1
change-counts change.Memory counts = λ e. cc

learn-counts : (fault : LearnFault) → CountsLearn 0 0 fault → fault ≢ learn.Store
learn-counts learn.Unfit counts = λ e. cc
learn-counts learn.Unversioned counts = λ e. cc
learn-counts (learn.Refused status) counts = λ e. cc
learn-counts learn.NoSuchRecord counts = λ e. cc
learn-counts learn.Store counts = λ _. never-risen counts.1
learn-counts learn.Memory counts = λ e. cc

pub no_store_faults : NoStoreFaults
no_store_faults = record {
  opening = λ old new fault counts. opening-counts fault counts;
  changing = λ old new fault counts. change-counts fault counts;
  learning = λ old new fault counts. learn-counts fault counts;
}
