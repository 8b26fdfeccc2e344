-- The laws at a provider without versions.
use Rattle.std.proofs.Common.{◌≡◌, ℕ, List, [], ◌∷◌, ◌++◌, map, Option, Some, None, refl, ap, sym, ◌∙◌, subst}
use Rattle.std.proofs.lemmas.List.{map-append}
use Rattle.scim_key.specs.declared.records.RecordName.{RecordName}
use Rattle.scim_message.specs.Messages.{unconditional}
use Rattle.provider_core.specs.Stories.{Entry, step}
use Rattle.provider_core.proofs.StoryLaws.{stories_only_grow}
use Rattle.connector_core.specs.History.{rows_of}
use Rattle.connector_core.specs.declared.keeps.Keeps.TheVariants.{Versions}
use Rattle.connector_core.specs.declared.knowledge.Known.{Known}
use Rattle.connector_core.specs.declared.knowledge.Seen.{Seen}
use Rattle.connector_core.specs.declared.knowledge.Seen.TheVariants.{Unknown, Absent, At}
use Rattle.world_model.specs.World.{World, Message, Asked, Answered, Event, Changes, Sends, Delivers, Cuts, Restarts_provider, Restarts_connector, Doubts, message_at, empty}
use Rattle.world_model.specs.Safe.{Onward}
use Rattle.world_model.specs.Providers.{SeenTrulyAt}
use Rattle.world_model.specs.Invariant.{all_names, Follows}
use Rattle.world_model.specs.Others.{Act, Ours, Theirs, KeepsApart, HeadlineAmong}
use Rattle.world_model.specs.Unversioned.{KeepsOrderAmong, KnownTrulyWithoutVersions, SafeWithoutVersions, SeenTrulyWithoutVersions, acts_without_versions, delivers_without_versions, happens_without_versions, run_without_versions, run_without_versions_among, taken_for, AlwaysOnwardWithoutVersions, AlwaysOnwardWithoutVersionsAmong, AlwaysSafeWithoutVersions, HeadlineHoldsWithoutVersions, HeadlineHoldsWithoutVersionsAmong, JudgesBySourceWithoutVersions}
use Rattle.world_model.proofs.Headlines.{apart_early, headline_now}
use Rattle.world_model.proofs.Judging.{event_follows_at, judged_by_source, learn_keeps}
use Rattle.world_model.proofs.Onwards.{act_on as act_on_among, and_on, delivers_on_at, event_on_at, here_still, none_falls, stays}
use Rattle.world_model.proofs.Others.{without_others}
use Rattle.world_model.proofs.Safety.{inactive, known_truly}
use Rattle.world_model.proofs.UnversionedInvariant.{InvariantWithoutVersions, always_without_versions, always_without_versions_among, follows_history, order_alone, runs_alone, tagged, tagged_known}
use Rattle.world_model.proofs.UnversionedLearning.{retagged, under_tag}

-- ---- in whatever order requests arrive

delivers_on : (w : World) (o : Option Message) → Onward w (delivers_without_versions w o)
delivers_on w None = here_still w
delivers_on w (Some (Asked request)) =
    let after = step w.entries (unconditional request) in
    record {
      rows = λ name. stays (rows_of w.history name);
      stories = stories_only_grow w.entries (unconditional request);
      messages = (Answered request (taken_for after.answer) ∷ [], refl);
      confirmed = none_falls w.book;
    }
delivers_on w (Some (Answered request answer)) = delivers_on_at Versions w (Some (Answered request answer))

event_on : (w : World) (event : Event) → Onward w (happens_without_versions w event)
event_on w (Changes row) = event_on_at Versions w (Changes row)
event_on w (Sends name) = event_on_at Versions w (Sends name)
event_on w (Delivers number) = delivers_on w (message_at w.messages number)
event_on w (Cuts number length) = event_on_at Versions w (Cuts number length)
event_on w Restarts_provider = event_on_at Versions w Restarts_provider
event_on w Restarts_connector = event_on_at Versions w Restarts_connector
event_on w (Doubts name) = event_on_at Versions w (Doubts name)

act_on : (w : World) (act : Act) → Onward w (acts_without_versions w act)
act_on w (Ours event) = event_on w event
act_on w (Theirs request) = act_on_among w (Theirs (unconditional request))

among_on : (w : World) (later : List Act) → Onward w (run_without_versions_among w later)
among_on w [] = here_still w
among_on w (act ∷ later) = and_on w (acts_without_versions w act) (run_without_versions_among (acts_without_versions w act) later) (act_on w act) (among_on (acts_without_versions w act) later)

among-append : (w : World) (early late : List Act) → run_without_versions_among w (early ++ late) ≡ run_without_versions_among (run_without_versions_among w early) late
among-append w [] late = refl
among-append w (act ∷ early) late = among-append (acts_without_versions w act) early late

pub always_onward_among : AlwaysOnwardWithoutVersionsAmong
always_onward_among early late =
    subst (Onward (run_without_versions_among empty early)) (sym (among-append empty early late)) (among_on (run_without_versions_among empty early) late)

-- without others, what is true between two moments of acts is true between two moments of events
between : (P : World → World → Type 0) (early late : List Event)
    → P (run_without_versions_among empty (map Ours early)) (run_without_versions_among empty (map Ours early ++ map Ours late))
    → P (run_without_versions empty early) (run_without_versions empty (early ++ late))
between P early late holds =
    let same : run_without_versions_among empty (map Ours early ++ map Ours late) ≡ run_without_versions empty (early ++ late) =
    ap (run_without_versions_among empty) (sym (map-append Ours early late)) ∙ runs_alone empty (early ++ late) in
    subst (P (run_without_versions empty early)) same (subst (λ (u : World). P u (run_without_versions_among empty (map Ours early ++ map Ours late))) (runs_alone empty early) holds)

pub always_onward : AlwaysOnwardWithoutVersions
always_onward early late = between Onward early late (always_onward_among (map Ours early) (map Ours late))

delivers_follows : (w : World) (o : Option Message) → Follows w.book w.history → Follows (delivers_without_versions w o).book (delivers_without_versions w o).history
delivers_follows w None follows = follows
delivers_follows w (Some (Asked request)) follows = follows
delivers_follows w (Some (Answered request answer)) follows = λ q. learn_keeps Versions w.book request answer q ∙ follows q

event_follows : (w : World) (event : Event) → Follows w.book w.history → Follows (happens_without_versions w event).book (happens_without_versions w event).history
event_follows w (Changes row) follows = event_follows_at Versions w (Changes row) follows
event_follows w (Sends name) follows = event_follows_at Versions w (Sends name) follows
event_follows w (Delivers number) follows = delivers_follows w (message_at w.messages number) follows
event_follows w (Cuts number length) follows = follows
event_follows w Restarts_provider follows = follows
event_follows w Restarts_connector follows = event_follows_at Versions w Restarts_connector follows
event_follows w (Doubts name) follows = event_follows_at Versions w (Doubts name) follows

run_follows : (w : World) (events : List Event) → Follows w.book w.history → Follows (run_without_versions w events).book (run_without_versions w events).history
run_follows w [] follows = follows
run_follows w (event ∷ events) follows = run_follows (happens_without_versions w event) events (event_follows w event follows)

pub judges_by_source : JudgesBySourceWithoutVersions
judges_by_source events row = judged_by_source (run_without_versions empty events) row (run_follows empty events (λ name. refl))

-- ---- in order

seen_truly : (es : List Entry) (name : RecordName) (tag : List ℕ) (seen : Seen) → SeenTrulyAt Versions es name (under_tag tag seen) → SeenTrulyWithoutVersions es name seen
seen_truly es name tag Unknown truly = tt
seen_truly es name tag Absent truly = tt
seen_truly es name tag (At id other revision) truly = (tag, truly)

module _ (w : World) (i : InvariantWithoutVersions all_names w) where
  known_without_versions : (name : RecordName) (known : Known) → w.book name ≡ Some known → KnownTrulyWithoutVersions w.entries name known
  known_without_versions name known in_book =
      let truly = known_truly (tagged i.tags w) i.inv name (retagged (i.tags name) known) (tagged_known w i name known in_book) in
      record { id = truly.id; confirmed = truly.confirmed; within = truly.within; seen = seen_truly w.entries name (i.tags name) known.seen truly.seen }

  safe_now : SafeWithoutVersions w
  safe_now = record {
    rows_rise = i.inv.rising;
    one_each = i.inv.kept.whole.distinct;
    stories_rise = λ e has. i.inv.kept.rises has.0 e has.1 refl;
    images = λ e content has in_story. i.inv.kept.imaged has.0 in_story.0 e content has.1 refl in_story.1;
    wanted = follows_history w i;
    known = known_without_versions;
    leavers = λ name known e of_kind in_book of_record left.
        inactive (tagged i.tags w) i.inv name (retagged (i.tags name) known) (tagged_known w i name known in_book) e of_record left;
  }

pub always_safe : AlwaysSafeWithoutVersions
always_safe events order = safe_now (run_without_versions empty events) (always_without_versions events order)

among_early : (w : World) (early late : List Act) → KeepsOrderAmong w (early ++ late) → KeepsOrderAmong w early
among_early w [] late order = tt
among_early w (act ∷ early) late order = (order.0, among_early (acts_without_versions w act) early late order.1)

pub headline_holds_among : HeadlineHoldsWithoutVersionsAmong
headline_holds_among ours early late apart order =
    let w = run_without_versions_among empty early in
    let v = run_without_versions_among empty (early ++ late) in
    let i = always_without_versions_among ours early (apart_early ours early late apart) (among_early empty early late order) in
    let j = always_without_versions_among ours (early ++ late) apart order in
    let headline = headline_now (tagged i.tags w) (tagged j.tags v) i.inv j.inv (always_onward_among early late).stories in
    record {
      one_per_name = headline.one_per_name;
      its_image = headline.its_image;
      never_back = headline.never_back;
      reached = λ name known in_book some. headline.reached name (retagged (i.tags name) known) (tagged_known w i name known in_book) some;
    }

pub headline_holds : HeadlineHoldsWithoutVersions
headline_holds early late order =
    let apart = subst (KeepsApart all_names) (map-append Ours early late) (without_others.apart (early ++ late)) in
    let in_order = subst (KeepsOrderAmong empty) (map-append Ours early late) (order_alone empty (early ++ late) order) in
    (without_others.headline (run_without_versions empty early) (run_without_versions empty (early ++ late))).0
    (between (HeadlineAmong all_names) early late (headline_holds_among all_names (map Ours early) (map Ours late) apart in_order))
