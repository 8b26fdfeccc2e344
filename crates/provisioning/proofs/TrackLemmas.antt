-- How a record goes on while several are under way.
use Rattle.std.proofs.Common.{◌≡◌, ◌<◌, ◌≤◌, ℕ, true, false, List, [], ◌∷◌, Option, Some, None, Result, Ok, Err, inl, inr, refl, ap, sym, ◌∙◌, subst}
use Rattle.std.specs.Option.{ok_or}
use Rattle.scim_message.specs.declared.messages.Answer.{Answer}
use Rattle.scim_message.specs.declared.messages.Request.{Request}
use Rattle.scim_client.specs.declared.exchange.ExchangeFault.{ExchangeFault}
use Rattle.journal_core.specs.declared.journals.Journal.{Ghosts}
use Rattle.connector_core.specs.Asking.{asking}
use Rattle.connector_core.specs.Book.{Book}
use Rattle.connector_core.specs.Maps.{book_of}
use Rattle.connector_core.specs.State.{State}
use Rattle.connector_core.specs.declared.asking.Ask.{Ask}
use Rattle.connector_core.specs.declared.asking.Ask.TheVariants.{Send}
use Rattle.connector_core.specs.declared.asking.AskFault.TheVariants as faults
use Rattle.provisioning.specs.Exchanges.{IsTaken}
use Rattle.provisioning.specs.Openings.{Opening}
use Rattle.provisioning.specs.Records.{Stands, most_exchanges}
use Rattle.provisioning.specs.Services.{Service, is_held_back, kept_for}
use Rattle.provisioning.specs.Tracks.{Advances, ComesOfOpening, GoesOn, IsAtEnd, IsHeard, IsLearnt, IsReadFrom, IsSetOut, StandsAt, faulted, may_wait, put_off}
use Rattle.provisioning.specs.declared.faults.RecordFault.{RecordFault}
use Rattle.provisioning.specs.declared.faults.RunFault.{RunFault}
use Rattle.provisioning.specs.declared.records.Standing.{Standing}
use Rattle.provisioning.specs.declared.tracks.Account.{Account}
use Rattle.provisioning.specs.declared.tracks.Flight.{Flight}
use Rattle.provisioning.specs.declared.tracks.Track.{Track}
use Rattle.provisioning.specs.declared.tracks.Track.TheVariants.{UnderWay, Delayed}

-- what was asked
pub was_asked : (o : Option Ask) (a : Ask) → ok_or o faults.NoSuchRecord ≡ Ok a → o ≡ Some a
was_asked None a is = absurd (cc)
was_asked (Some b) a is = cc

pub spent_at : (service : Service) (book : Book) (a : Account) (standing : Standing) → IsAtEnd service a → Stands true book a.name most_exchanges a.last standing → StandsAt service book a standing
spent_at service book a standing at_end (inl rests) = inl rests
spent_at service book a standing at_end (inr s) = inr (record { at_end = at_end; unconfirmed = s.unconfirmed; last_is = s.last_is })

pub went_on : {I O : Type 0} (contents : O → Option (List ℕ)) (service : Service) (a : Account) (book : Book) (request : Request) (opening : Opening I O) (result : Result (Track I O) RunFault)
    → a.exchanges < most_exchanges → is_held_back service.is_versioned a.last ≡ false → asking book a.name ≡ Some (Send request) → ComesOfOpening contents service a request opening result
    → GoesOn contents service a (opening ∷ []) book result
went_on {I} {O} contents service a book request (Ok stream) result left free asked (f, set, is) =
    subst (λ (r : Result (Track I O) RunFault). GoesOn contents service a (Ok stream ∷ []) book r) (sym is) (record {
      stream = stream;
      left = left;
      free = free;
      asked = asked ∙ ap (λ (r : Request). Some (Send r)) (sym set.request_is);
      opened_are = refl;
      set_out = subst (λ (r : Request). IsSetOut contents service r stream f) (sym set.request_is) set;
      later_is = refl;
    })
went_on {I} {O} contents service a book request (Err error) result left free asked is =
    subst (λ (r : Result (Track I O) RunFault). GoesOn contents service a (Err error ∷ []) book r) (sym is) (left, inl (error, refl, refl))

pub learnt_by : {I O J : Type 0} (remaining : I → Option (List ℕ)) (g : Ghosts J) (service : Service) (f : Flight I O) (came : Result Answer ExchangeFault) (old new : State J) (result : Result (Option RecordFault) RunFault)
    → IsHeard remaining (kept_for service.keeps f.request) f.reader f.sent came → IsTaken g service f.request came old new result → IsLearnt remaining g service f old new result
learnt_by remaining g service f came old new result heard taken = record {
  came = taken.came;
  heard = subst (λ (said : Result Answer ExchangeFault). IsHeard remaining (kept_for service.keeps f.request) f.reader f.sent said) (sym taken.answer_is) heard;
  becomes = taken.becomes;
  result_is = taken.result_is;
}

pub heard_whole : {I : Type 0} (remaining : I → Option (List ℕ)) (request : Request) (reader : I) (sent : Result (Unit {0}) ExchangeFault) (done : Unit {0}) (came : Result Answer ExchangeFault)
    → sent ≡ Ok done → IsReadFrom remaining request reader came → IsHeard remaining request reader sent came
heard_whole remaining request reader sent done came is read = subst (λ (s : Result (Unit {0}) ExchangeFault). IsHeard remaining request reader s came) (sym is) read

pub heard_fault : {I : Type 0} (remaining : I → Option (List ℕ)) (request : Request) (reader : I) (sent : Result (Unit {0}) ExchangeFault) (fault : ExchangeFault)
    → sent ≡ Err fault → IsHeard remaining request reader sent (Err fault)
heard_fault remaining request reader sent fault is = subst (λ (s : Result (Unit {0}) ExchangeFault). IsHeard remaining request reader s (Err fault)) (sym is) refl

pub ends_learning : {I O J : Type 0} (remaining : I → Option (List ℕ)) (contents : O → Option (List ℕ)) (g : Ghosts J) (service : Service) (track : Track I O) (a : Account) (f : Flight I O) (fault : RunFault) (old new : State J) (said : Result (Option RecordFault) RunFault)
    → track ≡ UnderWay a f → said ≡ Err fault → IsLearnt remaining g service f old new said → Advances remaining contents g service track [] old new (Err fault)
ends_learning {I} {O} remaining contents g service track a f fault old new said is ends heard =
    let learnt = subst (λ (r : Result (Option RecordFault) RunFault). IsLearnt remaining g service f old new r) ends heard in
    subst (λ (t : Track I O). Advances remaining contents g service t [] old new (Err fault)) (sym is) (inr (inr (fault, learnt, refl, refl)))

pub continues : {I O J : Type 0} (remaining : I → Option (List ℕ)) (contents : O → Option (List ℕ)) (g : Ghosts J) (service : Service) (track : Track I O) (a : Account) (f : Flight I O) (fault : Option RecordFault) (opened : List (Opening I O)) (old new : State J)
    (later : Account) (result : Result (Track I O) RunFault) → track ≡ UnderWay a f → IsLearnt remaining g service f old new (Ok fault) → later ≡ faulted fault a → GoesOn contents service later opened (book_of new.book) result
    → Advances remaining contents g service track opened old new result
continues {I} {O} remaining contents g service track a f fault opened old new later result is learnt same goes =
    subst (λ (t : Track I O). Advances remaining contents g service t opened old new result) (sym is)
    (inl (record { fault = fault; learnt = learnt; goes_on = subst (λ (x : Account). GoesOn contents service x opened (book_of new.book) result) same goes }))

pub delays : {I O J : Type 0} (remaining : I → Option (List ℕ)) (contents : O → Option (List ℕ)) (g : Ghosts J) (service : Service) (track : Track I O) (a : Account) (f : Flight I O) (fault : Option RecordFault) (old new : State J)
    (said : Result (Option RecordFault) RunFault) (later last : Account) → track ≡ UnderWay a f → said ≡ Ok fault → IsLearnt remaining g service f old new said → may_wait fault a ≡ true → later ≡ faulted fault a → last ≡ put_off later
    → Advances remaining contents g service track [] old new (Ok (Delayed last))
delays {I} {O} remaining contents g service track a f fault old new said later last is ok heard may same put =
    let learnt = subst (λ (r : Result (Option RecordFault) RunFault). IsLearnt remaining g service f old new r) ok heard in
    subst (λ (t : Track I O). Advances remaining contents g service t [] old new (Ok (Delayed last))) (sym is)
    (inr (inl (record { fault = fault; learnt = learnt; may = may; opened_none = refl; result_is = ap (λ (x : Account). Ok (Delayed x)) (put ∙ ap put_off same) })))

pub resumes : {I O J : Type 0} (remaining : I → Option (List ℕ)) (contents : O → Option (List ℕ)) (g : Ghosts J) (service : Service) (track : Track I O) (a : Account) (opened : List (Opening I O)) (state : State J)
    (result : Result (Track I O) RunFault) → track ≡ Delayed a → GoesOn contents service a opened (book_of state.book) result → Advances remaining contents g service track opened state state result
resumes {I} {O} remaining contents g service track a opened state result is goes =
    subst (λ (t : Track I O). Advances remaining contents g service t opened state state result) (sym is) (refl, goes)
