-- What others do before an exchange, and after all: the entries of our records stay as they are.
use Rattle.std.proofs.Common.{◌≡◌, ℕ, true, false, List, [], ◌∷◌, ◌++◌, map, Some, inl, inr, refl, ap, sym, ◌∙◌, subst}
use Rattle.std.specs.List.{AllByRecursion, slice_get}
use Rattle.scim_key.specs.declared.records.RecordName.{RecordName}
use Rattle.scim_resource.specs.Contents.{content_name}
use Rattle.scim_resource.specs.declared.contents.Content.{Content}
use Rattle.scim_message.specs.declared.messages.Request.{Request}
use Rattle.provider_core.specs.Stories.{Entry, first_entry, renew_at, step, AllGoOn}
use Rattle.provider_core.specs.Tables.{Writes, Writes.nothing, Writes.created, Writes.replaced}
use Rattle.provider_core.proofs.StoryLaws.{stories_only_grow}
use Rattle.provider_core.proofs.TableLaws.{at_push, at_more, at_renew, go_on_at, steps_write}
use Rattle.mapping.specs.Readiness.{GoesOn}
use Rattle.connector_core.specs.Book.{Book}
use Rattle.connector_core.specs.Changing.{names_of}
use Rattle.connector_core.specs.History.{History, rows_of, last_row}
use Rattle.connector_core.specs.declared.knowledge.Known.{Known}
use Rattle.world_model.specs.World.{World, empty}
use Rattle.world_model.specs.Safe.{IsAt, Has, id_in}
use Rattle.world_model.specs.Settled.{IsSettledOf, IsSettled}
use Rattle.world_model.specs.Invariant.{Names, InvariantOf}
use Rattle.world_model.specs.Others.{Theirs, acts, LeavesAlone, KeepsApart, run_among}
use Rattle.world_model.specs.Room.{HasRoom, IsLawfulAct, after_them, StaysSettled}
use Rattle.world_model.proofs.Calm.{CalmAmong, among_calm}
use Rattle.world_model.proofs.Growing.{ids_grow}
use Rattle.world_model.proofs.Imaging.{image_more}
use Rattle.world_model.proofs.Invariant.{among_inv, always_inv_among}
use Rattle.world_model.proofs.Lists.{last_has}
use Rattle.world_model.proofs.Onwards.{among_on}
use Rattle.world_model.proofs.Ranking.{record_ours}
use Rattle.world_model.proofs.Phases.{Near, Near.truly_absent, Near.at_current}

-- ---- one request

-- the record's entries are the same
pub record SameOf (name : RecordName) (es fs : List Entry) : Type 0 where
  pub onward : (i : ℕ) (e : Entry) → e.name ≡ name → IsAt es i e → IsAt fs i e
  pub back : (i : ℕ) (e : Entry) → e.name ≡ name → IsAt fs i e → IsAt es i e

not_theirs : (ours : Names) (name theirs : RecordName) → ours name ≡ true → ours theirs ≡ false → theirs ≡ name → ⊥
not_theirs ours name theirs mine alone same = let clash : false ≡ true = sym alone ∙ ap ours same ∙ mine in cc

module _ (ours : Names) (name : RecordName) (mine : ours name ≡ true) where
  created_alone : (es : List Entry) (content : Content) → ours (content_name content) ≡ false → SameOf name es (es ++ first_entry content ∷ [])
  created_alone es content alone = record {
    onward = λ i e named at. at_more es (first_entry content ∷ []) i e at;
    back = λ i e named at. elim (at_push es (first_entry content) i e at) [
      | inl old ↦ old
      | inr new ↦ absurd (not_theirs ours name (content_name content) mine alone (ap (λ (x : Entry). x.name) new.1 ∙ named))
    ];
  }

  module _ (es : List Entry) (i : ℕ) (e : Entry) (content : Content) (alone : ours (content_name content) ≡ false) (there : IsAt es i e) (its : e.name ≡ content_name content) where
    -- the entry that goes on is theirs
    not_renewed : (d : Entry) → IsAt es i d → d.name ≡ name → ⊥
    not_renewed d at named =
        let same : Some e ≡ Some d = sym there ∙ at in
        let entry : e ≡ d = cc in
        not_theirs ours name (content_name content) mine alone (sym its ∙ ap (λ (x : Entry). x.name) entry ∙ named)

    renewed_back : (k : ℕ) (f : Entry) → f.name ≡ name → IsAt (renew_at i content es) k f → IsAt es k f
    renewed_back k f named at =
        let (d, here, which) = at_renew i content es k f at in
        elim which [
          | inl old ↦ subst (λ (x : Entry). IsAt es k x) (sym old) here
          | inr new ↦ absurd (not_renewed d (ap (slice_get es) (sym new.0) ∙ here) (ap (λ (x : Entry). x.name) (sym new.1) ∙ named))
        ]

    renewed_onward : AllGoOn es (renew_at i content es) → (k : ℕ) (d : Entry) → d.name ≡ name → IsAt es k d → IsAt (renew_at i content es) k d
    renewed_onward on k d named at =
        let (f, after, goes) = go_on_at es (renew_at i content es) k d on at in
        let old : IsAt es k f = renewed_back k f (goes.name ∙ named) after in
        let same : Some f ≡ Some d = sym old ∙ at in
        let entry : f ≡ d = cc in
        subst (λ (x : Entry). IsAt (renew_at i content es) k x) entry after

  by_writes : {es : List Entry} {request : Request} {fs : List Entry} → Writes es request fs → AllGoOn es fs → LeavesAlone ours request → SameOf name es fs
  by_writes nothing on alone = record { onward = λ i e named at. at; back = λ i e named at. at }
  by_writes (created {es = es} content free) on alone = created_alone es content alone
  by_writes (replaced {es = es} i e content m n there its below holds) on alone =
      record { onward = renewed_onward es i e content alone there its on; back = renewed_back es i e content alone there its }

  step_alone : (es : List Entry) (request : Request) → LeavesAlone ours request → SameOf name es (step es request).entries
  step_alone es request alone = by_writes (steps_write es request) (stories_only_grow es request) alone

  near_on : (es fs : List Entry) (known : Known) → SameOf name es fs → Near es name known → Near fs name known
  near_on es fs known same (truly_absent is none) = truly_absent is (λ i e at named. none i e (same.back i e named at) named)
  near_on es fs known same (at_current i e id revision at named is) = at_current i e id revision (same.onward i e named at) named is

  -- ---- all their requests

  pub all_alone : (w : World) (requests : List Request) → AllByRecursion (LeavesAlone ours) requests → SameOf name w.entries (after_them w requests).entries
  all_alone w [] alone = record { onward = λ i e named at. at; back = λ i e named at. at }
  all_alone w (request ∷ requests) alone =
      let first = step_alone w.entries request alone.0 in
      let rest = all_alone (acts w (Theirs request)) requests alone.1 in
      record {
        onward = λ i e named at. rest.onward i e named (first.onward i e named at);
        back = λ i e named at. first.back i e named (rest.back i e named at);
      }

  pub near_stays : (w : World) (requests : List Request) (known : Known) → AllByRecursion (LeavesAlone ours) requests → Near w.entries name known → Near (after_them w requests).entries name known
  near_stays w requests known alone near = near_on w.entries (after_them w requests).entries known (all_alone w requests alone) near

pub same_history : (w : World) (requests : List Request) → (after_them w requests).history ≡ w.history
same_history w [] = refl
same_history w (request ∷ requests) = same_history (acts w (Theirs request)) requests

pub same_book : (w : World) (requests : List Request) → (after_them w requests).book ≡ w.book
same_book w [] = refl
same_book w (request ∷ requests) = same_book (acts w (Theirs request)) requests

all_apart : (ours : Names) (requests : List Request) → AllByRecursion (LeavesAlone ours) requests → KeepsApart ours (map Theirs requests)
all_apart ours [] alone = tt
all_apart ours (request ∷ requests) alone = (alone.0, all_apart ours requests alone.1)

all_lawful : (requests : List Request) → AllByRecursion IsLawfulAct (map Theirs requests)
all_lawful [] = tt
all_lawful (request ∷ requests) = (tt, all_lawful requests)

pub still_calm : {ours : Names} (w : World) (requests : List Request) → AllByRecursion (LeavesAlone ours) requests → HasRoom (after_them w requests) → CalmAmong ours w
    → CalmAmong ours (after_them w requests)
still_calm {ours} w requests alone room c = among_calm w (map Theirs requests) (all_apart ours requests alone) (all_lawful requests) room c

-- ---- what is settled

module _ {ours : Names} (w : World) (inv : InvariantOf ours w) (requests : List Request) (alone : AllByRecursion (LeavesAlone ours) requests) where
  abbrev then : World
  then = after_them w requests

  same_ids : GoesOn (id_in w.entries) (id_in then.entries)
  same_ids =
      let theirs = map Theirs requests in
      ids_grow w.entries then.entries (among_on w theirs).stories (among_inv w theirs (all_apart ours requests alone) inv).kept.whole

  still_settled : (name : RecordName) → IsSettledOf w name → IsSettledOf then name
  still_settled name s =
      let mine = record_ours ours w.history inv.mine name s.known.wanted (last_has (rows_of w.history name) s.known.wanted s.wanted) in
      let same = all_alone ours name mine w requests alone in
      let (has, named) = s.of_record in
      record {
        known = s.known;
        entry = s.entry;
        in_book = ap (λ (b : Book). b name) (same_book w requests) ∙ s.in_book;
        wanted = ap (λ (h : History). last_row h name) (same_history w requests) ∙ s.wanted;
        confirmed = s.confirmed;
        of_record = ((has.0, same.onward has.0 s.entry named has.1), named);
        held = image_more (id_in w.entries) (id_in then.entries) same_ids s.known.wanted s.entry.held s.held;
      }

  all_settled : IsSettled w → IsSettled then
  all_settled settled name has =
      still_settled name (settled name (subst (λ (h : History). Has (names_of h) name) (same_history w requests) has))

pub stays_settled : StaysSettled
stays_settled ours acts requests apart alone settled = all_settled (run_among empty acts) (always_inv_among ours acts apart) requests alone settled
