-- What valid events lead to, and that each message there is read from its bytes as exactly that message.
use Rattle.std.proofs.Common.{◌≡◌, ℕ, Bool, true, false, zero, suc, List, [], ◌∷◌, ◌++◌, Option, Some, None, map, refl, ap, sym, ◌∙◌, subst}
use Rattle.std.specs.List.{AllByRecursion, slice_get}
use Rattle.std.specs.Option.{option_map}
use Rattle.scim_key.specs.Bases.{IsBase}
use Rattle.provider_core.specs.Stories.{Entry, Numbered, entry_with_id, reading_entry, retrieving_entry}
use Rattle.provider_core.specs.declared.registry.Registry.{Ghosts as Registries}
use Rattle.journal_core.specs.declared.journals.Journal.{Ghosts as Journals}
use Rattle.world_model.specs.Safe.{Has, IsAt}
use Rattle.world_model.specs.Untroubled.{IsLawful}
use Rattle.world_model.specs.Invariant.{Names, all_names}
use Rattle.world_model.specs.Others.{Act, Ours, Theirs, acts, run_among, IsApart, KeepsApart, LeavesAlone, OfOurs}
use Rattle.world_model.specs.Room.{IsLawfulAct}
use Rattle.world_model.specs.World.{World, Message, Event, happens, empty, message_at, run}
use Rattle.world_model.proofs.Alone.{room_without_others}
use Rattle.world_model.proofs.Others.{without_others}
use Rattle.scim_version.specs.declared.conditions.Condition.{Condition}
use Rattle.scim_message.specs.declared.messages.Request.{Request}
use Rattle.scim_message.specs.declared.messages.Request.TheVariants.{Create, Retrieve, Search, Replace}
use Rattle.world_sim.specs.Fitting.{IsFitStart, IsFormed}
use Rattle.world_sim.specs.Messages.{message_text, messages_of, text_at, texts_of}
use Rattle.world_sim.specs.Reading.{IsReadAs}
use Rattle.world_sim.specs.Running.{Is, IsAlone, IsAmong, IsReached, IsReachedAmong, Mirrors, Scope, from_empty}
use Rattle.world_sim.specs.declared.worlds.World.{World as Running}
use Rattle.world_sim.proofs.Fitting.{messages_are_read_from}
use Rattle.world_sim.proofs.Given.{fit_empty}

pub at_map : {X Y : Type 0} (f : X → Y) (xs : List X) (place : ℕ) → option_map f (slice_get xs place) ≡ slice_get (map f xs) place
at_map f [] place = refl
at_map f (x ∷ xs) zero = refl
at_map f (x ∷ xs) (suc place) = at_map f xs place

pub run-more : (w : World) (events : List Event) (event : Event) → run w (events ++ event ∷ []) ≡ happens (run w events) event
run-more w [] event = refl
run-more w (e ∷ events) event = run-more (happens w e) events event

pub all_more : {X : Type 0} (P : X → Type 0) (xs : List X) (x : X) → AllByRecursion P xs → P x → AllByRecursion P (xs ++ x ∷ [])
all_more P [] x all last = (last, tt)
all_more P (y ∷ xs) x all last = (all.0, all_more P xs x all.1 last)

run_among-more : (w : World) (all : List Act) (act : Act) → run_among w (all ++ act ∷ []) ≡ acts (run_among w all) act
run_among-more w [] act = refl
run_among-more w (a ∷ all) act = run_among-more (acts w a) all act

-- one more act
pub reaches : {scope : Scope} (w : World) (act : Act) → IsApart scope.ours act → IsLawfulAct act → IsReachedAmong scope w → IsReachedAmong scope (acts w act)
reaches {scope} w act apart law from = record {
  begins = from.begins;
  acts = from.acts ++ act ∷ [];
  apart = all_more (IsApart scope.ours) from.acts act from.apart apart;
  lawful = all_more IsLawfulAct from.acts act from.lawful law;
  is = run_among-more scope.start from.acts act ∙ ap (λ v. acts v act) from.is;
}

-- a start is reached by no act
pub begun : (ours : Names) (start : World) → IsFitStart ours start → IsReachedAmong (record { ours = ours; start = start }) start
begun ours start fit = record { begins = fit; acts = []; apart = tt; lawful = tt; is = refl }

-- ---- without others

-- a Retrieve changes nothing
reading : (match_holds none_match_holds : Bool) (n : Numbered) (es : List Entry) → (reading_entry match_holds none_match_holds n es).entries ≡ es
reading false false n es = refl
reading false true n es = refl
reading true false n es = refl
reading true true n es = refl

retrieving : (o : Option Numbered) (es : List Entry) (if_match if_none_match : Condition) → (retrieving_entry o es if_match if_none_match).entries ≡ es
retrieving None es if_match if_none_match = refl
retrieving (Some n) es if_match if_none_match = reading _ _ n es

-- others who leave all records alone change nothing
reads_only : (w : World) (request : Request) → LeavesAlone all_names request → acts w (Theirs request) ≡ w
reads_only w (Create content) alone = absurd (cc alone)
reads_only w (Retrieve kind id if_match if_none_match) alone =
    ap (λ es. record w { entries = es }) (retrieving (entry_with_id kind id w.entries) w.entries if_match if_none_match)
reads_only w (Search kind wanted start count) alone = refl
reads_only w (Replace id content if_match if_none_match) alone = absurd (cc alone)

-- our events among these acts
abbrev ours_in : List Act → List Event
ours_in [] = []
ours_in (Ours event ∷ acts) = event ∷ ours_in acts
ours_in (Theirs request ∷ acts) = ours_in acts

ours_lawful : (all : List Act) → AllByRecursion IsLawfulAct all → AllByRecursion IsLawful (ours_in all)
ours_lawful [] law = tt
ours_lawful (Ours event ∷ all) law = (law.0, ours_lawful all law.1)
ours_lawful (Theirs request ∷ all) law = ours_lawful all law.1

ours_same : (w : World) (all : List Act) → KeepsApart all_names all → run w (ours_in all) ≡ run_among w all
ours_same w [] apart = refl
ours_same w (Ours event ∷ all) apart = ours_same (happens w event) all apart.1
ours_same w (Theirs request ∷ all) apart = ours_same w all apart.1 ∙ ap (λ v. run_among v all) (sym (reads_only w request apart.0))

pub alone_reached : (w : World) → IsReachedAmong (from_empty all_names) w → IsReached w
alone_reached w r = record { events = ours_in r.acts; lawful = ours_lawful r.acts r.lawful; is = ours_same empty r.acts r.apart ∙ r.is }

pub among_reached : (w : World) → IsReached w → IsReachedAmong (from_empty all_names) w
among_reached w r = record {
  begins = fit_empty all_names;
  acts = map Ours r.events;
  apart = without_others.apart r.events;
  lawful = room_without_others.lawful r.events r.lawful;
  is = without_others.runs empty r.events ∙ r.is;
}

none_formed : (base : List ℕ) (place : ℕ) (message : Message) → IsAt [] place message → IsFormed base message
none_formed base place message at = absurd (cc at)

formed_at : (base : List ℕ) (messages : List Message) (last : Message) → ((place : ℕ) (message : Message) → IsAt messages place message → IsFormed base message) → IsFormed base last
    → (place : ℕ) (message : Message) → IsAt (messages ++ last ∷ []) place message → IsFormed base message
formed_at base [] last all new zero message at = let e : last ≡ message = cc at in subst (IsFormed base) e new
formed_at base [] last all new (suc place) message at = absurd (cc at)
formed_at base (m ∷ messages) last all new zero message at = all zero message at
formed_at base (m ∷ messages) last all new (suc place) message at = formed_at base messages last (λ p x e. all (suc p) x e) new place message at

-- one message more that is formed
pub formed_more : (old new : List ℕ) (messages : List Message) (last : Message) → new ≡ old → ((message : Message) → Has messages message → IsFormed old message) → IsFormed old last
    → (message : Message) → Has (messages ++ last ∷ []) message → IsFormed new message
formed_more old new messages last same all formed message has =
    subst (λ b. IsFormed b message) (sym same) (formed_at old messages last (λ p x e. all x (p, e)) formed has.0 message has.1)

pub formed_same : (old new : List ℕ) (messages : List Message) → new ≡ old → ((message : Message) → Has messages message → IsFormed old message)
    → (message : Message) → Has messages message → IsFormed new message
formed_same old new messages same all message has = subst (λ b. IsFormed b message) (sym same) (all message has)

module _ {R J : Type 0} (g : Registries R) (h : Journals J) where
  -- without others
  pub is_among : (r : Running R J) (w : World) → Is g h r w → IsAmong g h (from_empty all_names) r w
  is_among r w is = record { mirrors = is.mirrors; base = is.base; reached = among_reached w is.reached }

  pub is_of_ours : (r : Running R J) (w : World) → IsAmong g h (from_empty all_names) r w → Is g h r w
  is_of_ours r w is = record { mirrors = is.mirrors; base = is.base; reached = alone_reached w is.reached }

  pub is_alone : IsAlone g h
  is_alone r w = (is_among r w, is_of_ours r w)

  -- an empty world at a valid base
  pub is_empty : (ours : Names) (r : Running R J) → IsBase r.service → Mirrors g h r empty → IsAmong g h (from_empty ours) r empty
  is_empty ours r base mirrors = record { mirrors = mirrors; base = base; reached = begun ours empty (fit_empty ours) }

  pub formed_none : (r : Running R J) (message : Message) → Has [] message → IsFormed r.service message
  formed_none r message has = none_formed r.service has.0 message has.1

  -- in the same world, told otherwise
  pub is_at : {scope : Scope} (r : Running R J) (w v : World) → v ≡ w → IsAmong g h scope r w → IsAmong g h scope r v
  is_at {scope} r w v same is = subst (λ u. IsAmong g h scope r u) (sym same) is

  module _ (old : Running R J) where
    -- what has the parts of a world after a valid event is that world
    pub is_after : {scope : Scope} (new : Running R J) (w : World) (event : Event) → OfOurs scope.ours event → IsLawful event → new.service ≡ old.service → IsAmong g h scope old w → Mirrors g h new (happens w event)
        → IsAmong g h scope new (happens w event)
    is_after new w event own law same is mirrors = record { mirrors = mirrors; base = subst IsBase (sym same) is.base; reached = reaches w (Ours event) own law is.reached }

    pub is_still : {scope : Scope} (new : Running R J) (w : World) → new.service ≡ old.service → IsAmong g h scope old w → Mirrors g h new w → IsAmong g h scope new w
    is_still new w same is mirrors = record { mirrors = mirrors; base = subst IsBase (sym same) is.base; reached = is.reached }

    -- the bytes with a number are those of the message with that number
    pub text_is : (number : ℕ) (message : Message) (bytes : List ℕ) → message_at (messages_of old.sent.items) number ≡ Some message → text_at (texts_of old.sent.items) number ≡ Some bytes
        → {scope : Scope} (w : World) → IsAmong g h scope old w → bytes ≡ message_text old.service message
    text_is zero message bytes said text w is = absurd (cc said)
    text_is (suc place) message bytes said text w is =
        let m = is.mirrors in
        let there : slice_get w.messages place ≡ Some message = ap (λ ms. slice_get ms place) (sym m.messages) ∙ said in
        let formed : Some bytes ≡ Some (message_text old.service message) =
        sym text ∙ ap (λ (ts : List (List ℕ)). slice_get ts place) m.texts ∙ sym (at_map (message_text old.service) w.messages place) ∙ ap (option_map (message_text old.service)) there in
        cc formed

    -- and they are read as just that message
    pub sent_is_read : (number : ℕ) (message : Message) (bytes : List ℕ) → message_at (messages_of old.sent.items) number ≡ Some message → text_at (texts_of old.sent.items) number ≡ Some bytes
        → {scope : Scope} (w : World) → IsAmong g h scope old w → IsReadAs bytes message
    sent_is_read zero message bytes said text w is = absurd (cc said)
    sent_is_read (suc place) message bytes said text {scope} w is =
        let there : slice_get w.messages place ≡ Some message = ap (λ ms. slice_get ms place) (sym is.mirrors.messages) ∙ said in
        let ran : slice_get (run_among scope.start is.reached.acts).messages place ≡ Some message = ap (λ (v : World). slice_get v.messages place) is.reached.is ∙ there in
        subst (λ (t : List ℕ). IsReadAs t message) (sym (text_is (suc place) message bytes said text w is))
        (messages_are_read_from old.service scope.ours scope.start is.reached.acts message is.base is.reached.begins is.reached.apart is.reached.lawful (place, ran) (is.mirrors.formed message (place, there)))
