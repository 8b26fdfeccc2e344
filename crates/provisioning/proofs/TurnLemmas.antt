-- One exchange more for a record.
use Rattle.std.proofs.Common.{◌≡◌, ◌+◌, ◌<◌, ◌≤◌, ℕ, List, [], ◌∷◌, ◌++◌, length, Option, Some, None, Result, Ok, IsOk, refl, ap, sym, ◌∙◌, subst, length-append, arith}
use Rattle.std.proofs.lemmas.List.{map_push}
use Rattle.std.specs.Option.{option_or}
use Rattle.scim_key.specs.declared.records.RecordName.{RecordName}
use Rattle.journal_core.specs.declared.journals.Journal.{Ghosts}
use Rattle.connector_core.specs.Maps.{book_of}
use Rattle.connector_core.specs.State.{State}
use Rattle.provisioning.specs.Exchanges.{Exchange, IsExchange, opening_of, openings_of, outcome}
use Rattle.provisioning.specs.Openings.{Opening}
use Rattle.provisioning.specs.Records.{AreExchanges, Ends, EndsRun, IsPushed, Stands, fault_in, last_fault, most_exchanges}
use Rattle.provisioning.specs.Services.{Service}
use Rattle.provisioning.specs.declared.faults.RunFault.{RunFault}
use Rattle.provisioning.specs.declared.faults.RecordFault.{RecordFault}
use Rattle.provisioning.specs.declared.records.Standing.{Standing}

-- ---- the last fault

or_none : {T : Type 0} (a : Option T) → option_or None a ≡ option_or a None
or_none None = refl
or_none (Some x) = refl

or_assoc : {T : Type 0} (a b c : Option T) → option_or (option_or a b) c ≡ option_or a (option_or b c)
or_assoc None b c = refl
or_assoc (Some x) b c = refl

pub last_fault_more : {I O : Type 0} (es : List (Exchange I O)) (e : Exchange I O) → last_fault (es ++ e ∷ []) ≡ option_or (fault_in (outcome e.came)) (last_fault es)
last_fault_more [] e = or_none (fault_in (outcome e.came))
last_fault_more (first ∷ es) e = ap (λ o. option_or o (fault_in (outcome first.came))) (last_fault_more es e)
    ∙ or_assoc (fault_in (outcome e.came)) (last_fault es) (fault_in (outcome first.came))

-- ---- the exchanges so far

-- the exchanges so far, each on a stream of its own, with this as their last fault
pub record IsSoFar {I O J : Type 0} (remaining : I → Option (List ℕ)) (contents : O → Option (List ℕ)) (g : Ghosts J) (service : Service) (name : RecordName) (opened : List (Opening I O)) (old new : State J) (count : ℕ) (last : Option RecordFault) : Type 0 where
  pub exchanges : List (Exchange I O)
  pub are : AreExchanges remaining contents g service name exchanges old new
  pub opened_are : opened ≡ openings_of exchanges
  pub count_is : length exchanges ≡ count
  pub most : count ≤ most_exchanges
  pub last_is : last ≡ last_fault exchanges

module _ {I O J : Type 0} (remaining : I → Option (List ℕ)) (contents : O → Option (List ℕ)) (g : Ghosts J) (service : Service) (name : RecordName) where
  abbrev SoFar : (opened : List (Opening I O)) → (old new : State J) → (count : ℕ) → (last : Option RecordFault) → Type 0
  SoFar opened old new count last = IsSoFar remaining contents g service name opened old new count last

  exchanges_more : (es : List (Exchange I O)) (e : Exchange I O) (old between new : State J)
      → AreExchanges remaining contents g service name es old between → IsExchange remaining contents g service name e between new → IsOk (outcome e.came)
      → AreExchanges remaining contents g service name (es ++ e ∷ []) old new
  exchanges_more [] e old between new are is ok = (new, subst (λ (s : State J). IsExchange remaining contents g service name e s new) are is, ok, refl)
  exchanges_more (first ∷ es) e old between new are is ok = (are.0, are.1, are.2, exchanges_more es e are.0 between new are.3 is ok)

  pub none_so_far : (state : State J) → SoFar [] state state 0 None
  none_so_far state = record { exchanges = []; are = refl; opened_are = refl; count_is = refl; most = omega arith; last_is = refl }

  -- one exchange more, on one stream more
  pub exchange_more : (first then : List (Opening I O)) (old between new : State J) (count : ℕ) (last fault : Option RecordFault) (e : Exchange I O)
      → SoFar first old between count last → count < most_exchanges → then ≡ opening_of e ∷ [] → IsExchange remaining contents g service name e between new → outcome e.came ≡ Ok fault
      → SoFar (first ++ then) old new (count + 1) (option_or fault last)
  exchange_more first then old between new count last fault e so less one is came = record {
    exchanges = so.exchanges ++ e ∷ [];
    are = exchanges_more so.exchanges e old between new so.are is (subst (λ (r : Result (Option RecordFault) RunFault). IsOk r) (sym came) refl);
    opened_are = ap (λ xs. xs ++ then) so.opened_are ∙ ap (λ xs. openings_of so.exchanges ++ xs) one ∙ sym (map_push opening_of so.exchanges e);
    count_is = length-append so.exchanges (e ∷ []) ∙ ap (λ n. n + 1) so.count_is;
    most = omega (arith, less);
    last_is = ap (option_or fault) so.last_is ∙ ap (λ r. option_or (fault_in r) (last_fault so.exchanges)) (sym came) ∙ sym (last_fault_more so.exchanges e);
  }

  -- ---- the end

  pub so_pushed : (opened : List (Opening I O)) (old new : State J) (count : ℕ) (last : Option RecordFault) (standing : Standing) → SoFar opened old new count last
      → Stands service.is_versioned (book_of new.book) name count last standing → IsPushed remaining contents g service name opened old new (record { exchanges = count; standing = standing })
  so_pushed opened old new count last standing so stands = record {
    exchanges = so.exchanges;
    are = so.are;
    opened_are = so.opened_are;
    count = sym so.count_is;
    most = subst (λ n. n ≤ most_exchanges) (sym so.count_is) so.most;
    stands = subst (λ l. Stands service.is_versioned (book_of new.book) name count l standing) so.last_is stands;
  }

  pub so_ends : (first last : List (Opening I O)) (old between new : State J) (count : ℕ) (fault : Option RecordFault) (end : RunFault) → SoFar first old between count fault
      → count < most_exchanges → Ends remaining contents g service name last between new end → EndsRun remaining contents g service name (first ++ last) old new end
  so_ends first last old between new count fault end so less ends = record {
    exchanges = so.exchanges;
    last = last;
    between = between;
    are = so.are;
    opened_are = ap (λ xs. xs ++ last) so.opened_are;
    most = subst (λ n. n < most_exchanges) (sym so.count_is) less;
    ends = ends;
  }
