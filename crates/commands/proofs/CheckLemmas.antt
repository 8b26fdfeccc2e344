-- A check that came to its end.
use Rattle.std.specs.Prelude.{◌≡◌, ℕ, Bool, List, Option, Result, Ok, Err, IfOk, codes}
use Rattle.std.specs.declared.io.Error.{Error}
use Rattle.clap.specs.Matches.{first_value, one_text}
use Rattle.clap.specs.declared.parser.matches.Found.{Found}
use Rattle.journal_core.specs.Entries.{EntryMap}
use Rattle.journal_core.specs.declared.journals.Journal.{Ghosts as Journals}
use Rattle.connector_core.specs.State.{State}
use Rattle.provisioning.specs.Services.{service_at}
use Rattle.provisioning.specs.declared.services.ProviderKeeps.{ProviderKeeps}
use Rattle.commands.specs.Comparing.{EndsChecking, IsCheckedFrom, IsCopyOf, OffersFiles}
use Rattle.commands.specs.Manners.{GivesStreams, wanted_keeps}
use Rattle.commands.specs.Words.{wanted_service}
use Rattle.commands.specs.declared.status.CommandFault.{CommandFault}
use Rattle.commands.specs.declared.status.Status.{Status}

-- if it has a status, the records of the journal were checked
pub checked : {I O J L M : Type 0} (remaining : I → Option (List ℕ)) (contents : O → Option (List ℕ)) (g : Journals J)
    (h : Journals M) (finds : EntryMap → Type 0) (is_closed : J → L → Type 0) (found : Found) (base : List ℕ) (keeps : ProviderKeeps)
    (streams : ℕ) (copy offered : State M) (taken : Bool) (last : Option Error) (ended : Result Status CommandFault)
    → wanted_service (first_value found (codes "base")) (first_value found (codes "path")) ≡ Ok base
    → wanted_keeps (first_value found (codes "provider-keeps")) ≡ Ok keeps
    → GivesStreams (first_value found (codes "streams")) (one_text found (codes "streams")) (Ok streams)
    → IsCopyOf g finds is_closed copy.book → OffersFiles h found copy offered taken
    → EndsChecking remaining contents (service_at keeps base) offered.book taken last ended
    → IfOk ended (IsCheckedFrom remaining contents g h finds is_closed found)
checked remaining contents g h finds is_closed found base keeps streams copy offered taken last (Ok status)
    at kept counted copied offers ends = record {
      base = base;
      keeps = keeps;
      streams = streams;
      copy = copy;
      offered = offered;
      taken = taken;
      last = last;
      service_is = at;
      keeps_is = kept;
      streams_are = counted;
      copied = copied;
      offers = offers;
      ends = ends;
    }
checked remaining contents g h finds is_closed found base keeps streams copy offered taken last (Err why)
    at kept counted copied offers ends = tt
