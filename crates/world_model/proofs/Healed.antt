-- Whatever the provider holds, doubting all records and at most two exchanges for each heal them all.
use Rattle.std.proofs.Common.{◌≡◌, ℕ, zero, suc, ◌+◌, Bool, true, false, cond, List, [], ◌∷◌, ◌++◌, map, length, Option, Some, None, Result, Ok, Err, ◌⊎◌, inl, inr, refl, ap, sym, ◌∙◌, subst}
use Rattle.std.proofs.lemmas.Bool.{cases_Bool}
use Rattle.std.specs.List.{AllByRecursion, slice_get}
use Rattle.std.specs.Option.{option_and_then, option_map}
use Rattle.std.specs.Ordering.{is_eq}
use Rattle.std.specs.Result.{result_ok}
use Rattle.scim_key.proofs.RecordLaws.{same as same_names}
use Rattle.scim_key.specs.Identifiers.{id_text}
use Rattle.scim_key.specs.RecordOrder.{tied}
use Rattle.scim_key.specs.Revisions.{◌≼◌}
use Rattle.scim_key.specs.declared.records.Kind.{Kind}
use Rattle.scim_key.specs.declared.records.Kind.TheVariants as kinds
use Rattle.scim_key.specs.declared.records.RecordName.{RecordName}
use Rattle.scim_resource.specs.declared.contents.Content.{Content}
use Rattle.scim_message.specs.declared.messages.Request.{Request}
use Rattle.provider_core.specs.Stories.{Entry, step}
use Rattle.source_csv.specs.Records.{row_name, row_revision}
use Rattle.source_csv.specs.declared.rows.Row.{Row}
use Rattle.source_csv.specs.declared.rows.Row.TheVariants.{User, Group}
use Rattle.comparing.specs.Aspects.{is_same}
use Rattle.mapping.specs.Images.{image, imaged}
use Rattle.mapping.specs.Readiness.{GoesOn}
use Rattle.mapping.specs.declared.groups.ImageFault.{ImageFault}
use Rattle.connector_core.specs.History.{History, AllAreUsers, is_user, last_row, members_of, rows_of, same_name, user}
use Rattle.connector_core.specs.Asking.{search_for}
use Rattle.connector_core.specs.Book.{Book, doubting, known_id, put}
use Rattle.connector_core.specs.Changing.{names_of}
use Rattle.connector_core.specs.Learning.{Shows, is_image, is_wanted, after_learning, agreeing, shown_revision}
use Rattle.connector_core.specs.declared.knowledge.Known.{Known}
use Rattle.connector_core.specs.declared.knowledge.Seen.TheVariants.{Unknown}
use Rattle.world_model.specs.Healing.{doubts_all, TurnsInTwo, Healable, HealableOf, IsHealedOf, Heals, HealsAmong, HealsAfterAnything, AgreesOf, OnlySearched, TouchesOnlyWhatDiffers, HealingIsActs, OldAnswersConfirm}
use Rattle.world_model.specs.Invariant.{Names, all_names}
use Rattle.world_model.specs.Others.{Act, Ours, Theirs, run_among}
use Rattle.world_model.specs.Room.{Meanwhile, LeavesRoom, ExchangesAmong, after_them}
use Rattle.world_model.specs.Safe.{IsAt, Has, IsEntryOf, id_in}
use Rattle.world_model.specs.Settled.{exchange, Rests}
use Rattle.world_model.specs.World.{World, Message, Delivers, Doubts, Sends, delivers, happens, names, run}
use Rattle.world_model.proofs.Asked.{HasImage, user_imaged, members_imaged, asks_nothing}
use Rattle.world_model.proofs.Calm.{all_at, each_passes, last_known, named_row, some_known}
use Rattle.world_model.proofs.Counting.{InOrder, Comes, all_has, names_ordered}
use Rattle.world_model.proofs.Exchanging.{answer_to}
use Rattle.world_model.proofs.Finding.{Finds, Finds.finds, Finds.lacks, search_keeps}
use Rattle.world_model.proofs.Growing.{id_at, ids_grow}
use Rattle.world_model.proofs.Healing.{accepted, its_name, its_place, agreeing_is, agreeing_done, shown_taught, Last, holds_it, finding_is, sends, image_stays, Turn, one_record}
use Rattle.world_model.proofs.Imaging.{image_more}
use Rattle.world_model.proofs.InOrder.{event_in_order, run_in_order}
use Rattle.world_model.proofs.Leading.{learn_is}
use Rattle.world_model.proofs.Learned.{taught}
use Rattle.world_model.proofs.Lists.{has_last, kept_has}
use Rattle.world_model.proofs.Making.{doubted_ids}
use Rattle.world_model.proofs.Onwards.{among-append}
use Rattle.world_model.proofs.Ranking.{record_ours, row_there}
use Rattle.world_model.proofs.Settling.{no_user_later, nobody, nobody_leaves_room, put_here}

-- ---- doubting

-- what was known before has the same wanted row
record IsFrom (o : Option Known) (k : Known) : Type 0 where
  before : Known
  was : o ≡ Some before
  wanted : k.wanted ≡ before.wanted

from_doubted : (b : Bool) (o : Option Known) (k : Known) → cond b (option_map doubting o) o ≡ Some k → IsFrom o k
from_doubted true None k is = absurd (cc)
from_doubted true (Some known) k is =
    let same : doubting known ≡ k = cc in
    record { before = known; was = refl; wanted = ap (λ (x : Known). x.wanted) (sym same) }
from_doubted false o k is = record { before = k; was = is; wanted = refl }

module _ (w : World) (doubt : RecordName) where
  abbrev doubtful : World
  doubtful = happens w (Doubts doubt)

  pub healable_doubtful : Healable w → Healable doubtful
  healable_doubtful h = record { in_order = event_in_order w (Doubts doubt) tt h.in_order; room = h.room }

  of_doubtful : (q : RecordName) → HealableOf w q → HealableOf doubtful q
  of_doubtful q ho = record {
    not_above = λ e k has is.
        let f = from_doubted (same_name doubt q) (w.book q) k is in
        subst (λ (row : Row). shown_revision e.held ≼ row_revision row) (sym f.wanted) (ho.not_above e f.before has f.was);
    short = ho.short;
  }

-- the record is doubted, and nothing was seen of it
abbrev Unsure : World → RecordName → Type 0
Unsure w q = (k : Known) × (w.book q ≡ Some k) × (k.is_doubted ≡ true) × (k.seen ≡ Unknown)

abbrev Unsure_if : Option Known → Type 0
Unsure_if o = (k : Known) × (o ≡ Some k) × (k.is_doubted ≡ true) × (k.seen ≡ Unknown)

made_unsure : (b : Bool) (o : Option Known) (known : Known) → b ≡ true → o ≡ Some known → Unsure_if (cond b (option_map doubting o) o)
made_unsure true None known same is = absurd (cc)
made_unsure true (Some k) known same is = (doubting k, refl, refl, refl)
made_unsure false o known same is = absurd (cc)

still_unsure : (b : Bool) (o : Option Known) → Unsure_if o → Unsure_if (cond b (option_map doubting o) o)
still_unsure true None unsure = absurd (cc unsure.1)
still_unsure true (Some k) unsure = (doubting k, refl, refl, refl)
still_unsure false o unsure = unsure

still_known : (b : Bool) (o : Option Known) → (k : Known) × (o ≡ Some k) → (k : Known) × (cond b (option_map doubting o) o ≡ Some k)
still_known true None there = absurd (cc there.1)
still_known true (Some k) there = (doubting k, refl)
still_known false o there = there

abbrev after_doubts : World → List RecordName → World
after_doubts w all = run w (map Doubts all)

doubts_history : (all : List RecordName) (w : World) → (after_doubts w all).history ≡ w.history
doubts_history [] w = refl
doubts_history (name ∷ all) w = doubts_history all (happens w (Doubts name))

doubts_entries : (all : List RecordName) (w : World) → (after_doubts w all).entries ≡ w.entries
doubts_entries [] w = refl
doubts_entries (name ∷ all) w = doubts_entries all (happens w (Doubts name))

doubts_healable : (all : List RecordName) (w : World) → Healable w → Healable (after_doubts w all)
doubts_healable [] w h = h
doubts_healable (name ∷ all) w h = doubts_healable all (happens w (Doubts name)) (healable_doubtful w name h)

doubts_of : (all : List RecordName) (w : World) (q : RecordName) → HealableOf w q → HealableOf (after_doubts w all) q
doubts_of [] w q ho = ho
doubts_of (name ∷ all) w q ho = doubts_of all (happens w (Doubts name)) q (of_doubtful w name q ho)

doubts_unsure : (all : List RecordName) (w : World) (q : RecordName) → Unsure w q → Unsure (after_doubts w all) q
doubts_unsure [] w q unsure = unsure
doubts_unsure (name ∷ all) w q unsure = doubts_unsure all (happens w (Doubts name)) q (still_unsure (same_name name q) (w.book q) unsure)

each_unsure : (all : List RecordName) (w : World) (i : ℕ) (q : RecordName) → IsAt all i q → (k : Known) × (w.book q ≡ Some k) → Unsure (after_doubts w all) q
each_unsure [] w i q at there = absurd (cc)
each_unsure (name ∷ all) w zero q at there =
    let same : name ≡ q = cc in
    doubts_unsure all (happens w (Doubts name)) q (made_unsure (same_name name q) (w.book q) there.0 ((same_names name q).1 same) there.1)
each_unsure (name ∷ all) w (suc i) q at there = each_unsure all (happens w (Doubts name)) i q at (still_known (same_name name q) (w.book q) there)

doubted_here : (w : World) (name : RecordName) (known : Known) → w.book name ≡ Some known → (happens w (Doubts name)).book name ≡ Some (doubting known)
doubted_here w name known in_book =
    ap (λ (b : Bool). cond b (option_map doubting (w.book name)) (w.book name)) ((same_names name name).1 refl) ∙ ap (option_map doubting) in_book

-- ---- images by true ids

abbrev by_kind : Kind → Option (List ℕ) → Option (List ℕ)
by_kind kinds.User o = o
by_kind kinds.Group o = None

-- the ids of users alone
abbrev of_users : (RecordName → Option (List ℕ)) → RecordName → Option (List ℕ)
of_users f q = by_kind q.kind (f (user q.key))

users_go_on : (f g : RecordName → Option (List ℕ)) → ((key id : List ℕ) → f (user key) ≡ Some id → g (user key) ≡ Some id) → GoesOn (of_users f) g
users_go_on f g true_ids q id is = go q.kind refl is
  where
    go : (kind : Kind) → q.kind ≡ kind → by_kind kind (f (user q.key)) ≡ Some id → g q ≡ Some id
    go kinds.User of_user has =
        let same : user q.key ≡ q = λ i. record { kind = sym of_user i; key = q.key } in
        subst (λ (n : RecordName). g n ≡ Some id) same (true_ids q.key id has)
    go kinds.Group of_group has = absurd (cc)

of_users_image : (f : RecordName → Option (List ℕ)) (row : Row) → image (of_users f) row ≡ image f row
of_users_image f (User row) = refl
of_users_image f (Group row) = refl

-- the image of a user's row asks for no ids
user_image_by : (f g : RecordName → Option (List ℕ)) (row : Row) → (row_name row).kind ≡ kinds.User → (content : Content) → image f row ≡ Some content → image g row ≡ Some content
user_image_by f g (User row) of_user content is = is
user_image_by f g (Group row) of_user content is = absurd (cc)

-- an image stays if the ids of users do
users_image : (f g : RecordName → Option (List ℕ)) → ((key id : List ℕ) → f (user key) ≡ Some id → g (user key) ≡ Some id) → (row : Row) (content : Content) → image f row ≡ Some content
    → image g row ≡ Some content
users_image f g true_ids row content is = image_more (of_users f) g (users_go_on f g true_ids) row content (of_users_image f row ∙ is)

-- ---- all records in turn

-- the known id is that of the record's entry
abbrev HasTrueId : List Entry → RecordName → Known → Type 0
HasTrueId es q known = (id : List ℕ) × (known.id ≡ Some id) × (id_in es q ≡ Some id)

-- each record has its true id, or has its turn yet
abbrev Rest : World → List RecordName → Type 0
Rest w names = (q : RecordName) (known : Known) → w.book q ≡ Some known → HasTrueId w.entries q known ⊎ Has names q

-- each of these records is in the book, and doubted
abbrev AllUnsure : World → List RecordName → Type 0
AllUnsure w names = (i : ℕ) (q : RecordName) → IsAt names i q → Unsure w q

abbrev EachHealable : World → List RecordName → Type 0
EachHealable w names = (i : ℕ) (q : RecordName) → IsAt names i q → HealableOf w q

apart_if : (a b : RecordName) → Comes a b → same_name a b ≡ false
apart_if a b comes = sym (tied a b) ∙ ap is_eq comes

clashing : (name q : RecordName) (e : Entry) → same_name name q ≡ false → e.name ≡ q → e.name ≡ name → ⊥
clashing name q e other of_q of_name =
    let tested : same_name name q ≡ true = (same_names name q).1 (sym of_name ∙ of_q) in
    let clash : true ≡ false = sym tested ∙ other in
    cc

pub known_with_id : (o : Option Known) (id : List ℕ) → option_and_then (λ (k : Known). k.id) o ≡ Some id → (known : Known) × (o ≡ Some known) × (known.id ≡ Some id)
known_with_id None id is = absurd (cc)
known_with_id (Some known) id is = (known, refl, is)

-- the image of the wanted row by the ids that the connector knows, which are true
abbrev TrueImage : World → Known → Type 0
TrueImage w known = (content : Content) × HasImage w.book known content × (image (id_in w.entries) known.wanted ≡ Some content)

module _ (w : World) (h : Healable w) (name : RecordName) (names : List RecordName) (order : AllByRecursion (Comes name) names) (rest : Rest w (name ∷ names)) (known : Known) (in_book : w.book name ≡ Some known) where
  -- before a group has its turn, each user had it
  user_id : name.kind ≡ kinds.Group → (key : List ℕ) (k : Known) → w.book (user key) ≡ Some k → HasTrueId w.entries (user key) k
  user_id of_group key k there = elim (rest (user key) k there) [
    | inl its ↦ its
    | inr later ↦ absurd (no_user_later name names (user key) order of_group refl later)
  ]

  member_id : name.kind ≡ kinds.Group → (i : ℕ) (key : List ℕ) → IsAt (members_of known.wanted) i key → (id : List ℕ) × (known_id w.book (user key) ≡ Some id)
  member_id of_group i key at =
      let has = row_there w.history name known.wanted (accepted w h name known in_book) in
      let users = all_at (AllAreUsers w.history) w.history has.0 known.wanted h.in_order.members has.1 in
      let (member, there) = last_known (w.book (user key)) (last_row w.history (user key)) (h.in_order.follows (user key)) (each_passes (is_user w.history) (members_of known.wanted) i key users at) in
      let (id, has_id, is_true) = user_id of_group key member there in
      (id, ap (option_and_then (λ (k : Known). k.id)) there ∙ has_id)

  true_id : name.kind ≡ kinds.Group → (key id : List ℕ) → known_id w.book (user key) ≡ Some id → id_in w.entries (user key) ≡ Some id
  true_id of_group key id is =
      let (member, there, has) = known_with_id (w.book (user key)) id is in
      let (its, has_its, is_true) = user_id of_group key member there in
      is_true ∙ sym has_its ∙ has

  true_image : (kind : Kind) → name.kind ≡ kind → TrueImage w known
  true_image kinds.User is =
      let of_user = ap (λ (n : RecordName). n.kind) (its_name w h name known in_book) ∙ is in
      let (content, has) = user_imaged (known_id w.book) known.wanted of_user in
      (content, has, user_image_by (known_id w.book) (id_in w.entries) known.wanted of_user content (ap result_ok has))
  true_image kinds.Group is =
      let (content, has) = members_imaged (known_id w.book) known.wanted (member_id is) in
      (content, has, users_image (known_id w.book) (id_in w.entries) (true_id is) known.wanted content (ap result_ok has))

module _ {ours : Names} (theirs : Meanwhile) (leave : LeavesRoom ours theirs) where
  -- a number of exchanges, after which these records are healed, and others that were healed still are
  record Round (w : World) (names : List RecordName) : Type 0 where
    count : ℕ
    after : World
    turns : TurnsInTwo theirs w names count after
    history : after.history ≡ w.history
    healed : (q : RecordName) → Has names q → IsHealedOf after q
    keeps : (q : RecordName) → ours q ≡ true → ((i : ℕ) → IsAt names i q → ⊥) → IsHealedOf w q → IsHealedOf after q

  module _ (w : World) (h : Healable w) (name : RecordName) (t : Turn theirs leave w name 2) where
    ids_on : GoesOn (id_in w.entries) (id_in t.after.entries)
    ids_on = ids_grow w.entries t.after.entries t.leaves.grows t.healable.in_order.whole

    still_healed : (q : RecordName) → ours q ≡ true → same_name name q ≡ false → IsHealedOf w q → IsHealedOf t.after q
    still_healed q mine other s =
        let place = s.of_record.0.0 in
        let there = t.leaves.there place s.entry s.of_record.0.1 (ap ours s.of_record.1 ∙ mine) (clashing name q s.entry other s.of_record.1) in
        record {
          known = s.known;
          entry = s.entry;
          content = s.content;
          in_book = t.others q other ∙ s.in_book;
          wanted = ap (λ (history : History). last_row history q) t.history ∙ s.wanted;
          confirmed = s.confirmed;
          sure = s.sure;
          of_record = ((place, there), s.of_record.1);
          its_id = s.its_id ∙ id_at w.entries q place s.entry h.in_order.whole s.of_record.0.1 s.of_record.1 ∙ sym (id_at t.after.entries q place s.entry t.healable.in_order.whole there s.of_record.1);
          imaged = image_more (id_in w.entries) (id_in t.after.entries) ids_on s.known.wanted s.content s.imaged;
          held = s.held;
        }

    entry_before : (q : RecordName) → ours q ≡ true → same_name name q ≡ false → (e : Entry) → IsEntryOf t.after.entries q e → IsEntryOf w.entries q e
    entry_before q mine other e has = ((has.0.0, t.leaves.back has.0.0 e has.0.1 (ap ours has.1 ∙ mine) (clashing name q e other has.1)), has.1)

    healable_of_after : (q : RecordName) → ours q ≡ true → same_name name q ≡ false → HealableOf w q → HealableOf t.after q
    healable_of_after q mine other ho = record {
      not_above = λ e known has in_book. ho.not_above e known (entry_before q mine other e has) (sym (t.others q other) ∙ in_book);
      short = λ e has. ho.short e (entry_before q mine other e has);
    }

    -- the record's id is true
    has_id : HasTrueId t.after.entries name t.healed.known
    has_id =
        let s = t.healed in
        let its = id_at t.after.entries name s.of_record.0.0 s.entry t.healable.in_order.whole s.of_record.0.1 s.of_record.1 in
        (id_text (suc s.of_record.0.0), s.its_id ∙ its, its)

    module _ (names : List RecordName) (order : AllByRecursion (Comes name) names) (all_ours : (i : ℕ) (q : RecordName) → IsAt (name ∷ names) i q → ours q ≡ true) where
      apart : (i : ℕ) (q : RecordName) → IsAt names i q → same_name name q ≡ false
      apart i q at = apart_if name q (all_has (Comes name) names i q order at)

      unsure_after : AllUnsure w (name ∷ names) → AllUnsure t.after names
      unsure_after all i q at =
          let (known, in_book, doubted, unknown) = all (suc i) q at in
          (known, t.others q (apart i q at) ∙ in_book, doubted, unknown)

      healable_after : EachHealable w (name ∷ names) → EachHealable t.after names
      healable_after all i q at = healable_of_after q (all_ours (suc i) q at) (apart i q at) (all (suc i) q at)

      rest_after : Rest w (name ∷ names) → Rest t.after names
      rest_after rest q known in_book = elim (cases_Bool (same_name name q)) [
        | inl same ↦
            let equal_name : name ≡ q = (same_names name q).0 same in
            let both : Some t.healed.known ≡ Some known = sym t.healed.in_book ∙ ap t.after.book equal_name ∙ in_book in
            let equal : t.healed.known ≡ known = cc in
            inl (subst (λ (n : RecordName). HasTrueId t.after.entries n known) equal_name (subst (λ (k : Known). HasTrueId t.after.entries name k) equal has_id))
        | inr other ↦ go other (rest q known (sym (t.others q other) ∙ in_book))
      ]
        where
          go : same_name name q ≡ false → HasTrueId w.entries q known ⊎ Has (name ∷ names) q → HasTrueId t.after.entries q known ⊎ Has names q
          go other (inl has) = inl (has.0, has.1, ids_on q has.0 has.2)
          go other (inr (zero, at)) =
              let same : name ≡ q = cc in
              let tested : same_name name q ≡ true = (same_names name q).1 same in
              absurd (cc)
          go other (inr (suc i, at)) = inr (i, at)

      onwards : Round t.after names → Round w (name ∷ names)
      onwards r = record {
        count = t.count + r.count;
        after = r.after;
        turns = (t.count, r.count, t.after, t.within, t.exchanges, t.rests, r.turns, refl);
        history = r.history ∙ t.history;
        healed = λ q has. its_healed q has;
        keeps = λ q mine nowhere s. r.keeps q mine (λ i at. nowhere (suc i) at) (still_healed q mine (other_name q nowhere) s);
      }
        where
          other_name : (q : RecordName) → ((i : ℕ) → IsAt (name ∷ names) i q → ⊥) → same_name name q ≡ false
          other_name q nowhere = elim (cases_Bool (same_name name q)) [
            | inl same ↦ absurd (nowhere 0 (ap Some ((same_names name q).0 same)))
            | inr other ↦ other
          ]

          not_later : (i : ℕ) → IsAt names i name → ⊥
          not_later i at =
              let clash : true ≡ false = sym ((same_names name name).1 refl) ∙ apart i name at in
              cc

          its_healed : (q : RecordName) → Has (name ∷ names) q → IsHealedOf r.after q
          its_healed q (zero, at) =
              let same : name ≡ q = cc in
              subst (λ (n : RecordName). IsHealedOf r.after n) same (r.keeps name (all_ours 0 name refl) not_later t.healed)
          its_healed q (suc i, at) = r.healed q (i, at)

  all_records : (names : List RecordName) (w : World) → Healable w → InOrder names → ((i : ℕ) (q : RecordName) → IsAt names i q → ours q ≡ true) → AllUnsure w names → Rest w names → EachHealable w names
      → Round w names
  all_records [] w h order all_ours all rest healable = record {
    count = zero;
    after = w;
    turns = (refl, refl);
    history = refl;
    healed = λ q has. absurd (cc has.1);
    keeps = λ q mine nowhere s. s;
  }
  all_records (name ∷ names) w h order all_ours all rest healable =
      let (known, in_book, doubted, unknown) = all 0 name refl in
      let (content, has, is_true) = true_image w h name names order.0 rest known in_book name.kind refl in
      let t = one_record theirs leave w h name known (all_ours 0 name refl) in_book doubted unknown content has is_true (healable 0 name refl) in
      onwards w h name t names order.0 all_ours
      (all_records names t.after t.healable order.1 (λ i q at. all_ours (suc i) q at) (unsure_after w h name t names order.0 all_ours all)
      (rest_after w h name t names order.0 all_ours rest) (healable_after w h name t names order.0 all_ours healable))

-- each record of the source is in the book
name_in_book : (w : World) → Healable w → (q : RecordName) → Has (names w) q → (known : Known) × (w.book q ≡ Some known)
name_in_book w h q has = elim (named_row [] w.history q has) [
  | inl none ↦ absurd (cc none.1)
  | inr there ↦
      let its = kept_has (λ r. same_name (row_name r) q) w.history there.1.0 there.0 there.1.1 ((same_names (row_name there.0) q).1 there.2) in
      let (last, is_last) = has_last (rows_of w.history q) there.0 its in
      some_known (w.book q) last (h.in_order.follows q ∙ is_last)
]

pub heals_among : HealsAmong
heals_among ours theirs w leave mine h each =
    let u = doubts_all w in
    let hu = doubts_healable (names w) w h in
    let same = doubts_history (names w) w in
    let r = all_records theirs leave (names w) u hu (names_ordered w.history)
    (λ i q at. let (known, in_book) = name_in_book w h q (i, at) in record_ours ours w.history mine q known.wanted (accepted w h q known in_book))
    (λ i q at. each_unsure (names w) w i q at (name_in_book w h q (i, at)))
    (λ q known in_book. inr (subst (λ (history : History). Has (names_of history) q) same (its_place u hu q known in_book)))
    (λ i q at. doubts_of (names w) w q (each q (i, at))) in
    (r.count, r.after, r.turns, λ q has. r.healed q (subst (λ (history : History). Has (names_of history) q) (r.history ∙ same) has))

pub heals : Heals
heals w h each = heals_among all_names nobody w nobody_leaves_room (λ row has. refl) h each

pub heals_after_anything : HealsAfterAnything
heals_after_anything start all is law room each = heals (run_among start all) (record { in_order = run_in_order start all law is.in_order; room = room }) each

-- ---- what is as it is wanted

module _ (w : World) (name : RecordName) (h : Healable w) (agrees : AgreesOf w name) where
  abbrev u : World
  u = happens w (Doubts name)

  hu : Healable u
  hu = healable_doubtful w name h

  image_there : (r : Result Content ImageFault) → imaged (known_id w.book) agrees.known.wanted ≡ r → is_image r agrees.entry.held ≡ true
      → (content : Content) × HasImage w.book agrees.known content × (is_same content agrees.entry.held ≡ true)
  image_there (Ok content) has test = (content, has, test)
  image_there (Err fault) has test = absurd (cc)

  abbrev its : (content : Content) × HasImage w.book agrees.known content × (is_same content agrees.entry.held ≡ true)
  its = image_there (imaged (known_id w.book) agrees.known.wanted) refl agrees.held

  here : u.book name ≡ Some (doubting agrees.known)
  here = doubted_here w name agrees.known agrees.in_book

  image_here : HasImage u.book (doubting agrees.known) its.0
  image_here = image_stays (known_id w.book) (known_id u.book) agrees.known.wanted its.0 (doubted_ids w.book name) its.1

  -- the last exchange is the search
  only_searched : (l : Last u name (doubting agrees.known) its.0) → l.request ≡ search_for agrees.known.wanted → OnlySearched u name agrees.known.wanted
  only_searched l is_search =
      let now = (agreeing (doubting agrees.known) l.id l.tag).known in
      record {
        sends = (search_for agrees.known.wanted, sends u hu name (doubting agrees.known) here refl its.0 image_here refl);
        is_search = refl;
        rests = subst (λ (v : World). Rests v name) (sym l.is)
            (asks_nothing (put u.book name now) name now (put_here u.book name now) (agreeing_done (doubting agrees.known) l.id l.tag (h.in_order.within name agrees.known agrees.in_book)));
        entries = ap (λ (v : World). v.entries) l.is ∙ ap (λ (r : Request). (step u.entries r).entries) is_search ∙ search_keeps u.entries agrees.known.wanted;
      }

  -- what the search finds is the record's resource, which is as it is wanted
  agreed : Finds u.entries name (search_for agrees.known.wanted) (answer_to u (search_for agrees.known.wanted)) → OnlySearched u name agrees.known.wanted
  agreed (finds i e at e_named says) =
      let place = h.in_order.whole.distinct i agrees.of_record.0.0 e agrees.entry at agrees.of_record.0.1 (e_named ∙ sym agrees.of_record.1) in
      let entries : Some e ≡ Some agrees.entry = sym at ∙ ap (slice_get w.entries) place ∙ agrees.of_record.0.1 in
      let same : e ≡ agrees.entry = cc in
      let test : is_same its.0 e.held ≡ true = ap (λ (x : Entry). is_same its.0 x.held) same ∙ its.2 in
      only_searched (holds_it u hu name (doubting agrees.known) here refl its.0 image_here refl i e at e_named says test) (refl {a = search_for agrees.known.wanted})
  agreed (lacks nowhere says) = absurd (nowhere agrees.of_record.0.0 agrees.entry agrees.of_record.0.1 agrees.of_record.1)

pub touches_only_what_differs : TouchesOnlyWhatDiffers
touches_only_what_differs w name h agrees =
    agreed w name h agrees (finding_is (happens w (Doubts name)) (healable_doubtful w name h) name (doubting agrees.known) (doubted_here w name agrees.known agrees.in_book) refl (its w name h agrees).0 (image_here w name h agrees) refl)

-- ---- an old answer

still_wanted : (w : World) (name : RecordName) (known : Known) (content : Content) → is_wanted w.book known content ≡ true → is_wanted (happens w (Doubts name)).book (doubting known) content ≡ true
still_wanted w name known content is = go (imaged (known_id w.book) known.wanted) refl is
  where
    go : (r : Result Content ImageFault) → imaged (known_id w.book) known.wanted ≡ r → is_image r content ≡ true → is_wanted (happens w (Doubts name)).book (doubting known) content ≡ true
    go (Ok image) has test =
        let stays = image_stays (known_id w.book) (known_id (happens w (Doubts name)).book) known.wanted image (doubted_ids w.book name) has in
        ap (λ (r : Result Content ImageFault). is_image r content) stays ∙ test
    go (Err fault) has test = absurd (cc)

pub old_answers_confirm : OldAnswersConfirm
old_answers_confirm w name known number request answer s tag in_book up arrives about says wanted tagged =
    let u = happens w (Doubts name) in
    let k = doubting known in
    let here = doubted_here w name known in_book in
    let now = (agreeing k s.id tag).known in
    let learnt : after_learning u.book (taught u.book name k (Shows s)) ≡ put u.book name now =
    shown_taught u.book name k refl s true (agreeing k s.id tag) (still_wanted w name known s.content wanted) (agreeing_is name k s tag tagged) in
    let book_is : (happens u (Delivers number)).book ≡ put u.book name now =
    ap (λ (o : Option Message). (delivers u o).book) arrives
    ∙ ap (after_learning u.book) (learn_is u.book request answer name k (Shows s) about here says) ∙ learnt in
    asks_nothing (happens u (Delivers number)).book name now (ap (λ (b : Book). b name) book_is ∙ put_here u.book name now) (agreeing_done k s.id tag up)

-- ---- the acts of a recheck

abbrev ByActs : World → World → Type 0
ByActs w v = (later : List Act) × (run_among w later ≡ v)

then_acts : (u w v : World) → ByActs u w → ByActs w v → ByActs u v
then_acts u w v one two = (one.0 ++ two.0, among-append u one.0 two.0 ∙ ap (λ (x : World). run_among x two.0) one.1 ∙ two.1)

doubts_acts : (all : List RecordName) (w : World) → ByActs w (after_doubts w all)
doubts_acts [] w = ([], refl)
doubts_acts (name ∷ all) w = let rest = doubts_acts all (happens w (Doubts name)) in (Ours (Doubts name) ∷ rest.0, rest.1)

exchanges_acts : (theirs : Meanwhile) (count : ℕ) (w : World) (name : RecordName) (v : World) → ExchangesAmong theirs w name count v → ByActs w v
exchanges_acts theirs zero w name v made = ([], sym made)
exchanges_acts theirs (suc count) w name v made =
    let u = after_them w (theirs w) in
    let n = length u.messages in
    then_acts w u v (map Theirs (theirs w), refl)
    (then_acts u (exchange u name) v (Ours (Sends name) ∷ Ours (Delivers (suc n)) ∷ Ours (Delivers (suc (suc n))) ∷ [], refl) (exchanges_acts theirs count (exchange u name) name v made.1))

turns_acts : (theirs : Meanwhile) (all : List RecordName) (w : World) (count : ℕ) (v : World) → TurnsInTwo theirs w all count v → ByActs w v
turns_acts theirs [] w count v turns = ([], sym turns.0)
turns_acts theirs (name ∷ all) w count v turns =
    let (here, there, u, within, exchanges, rests, more, sum) = turns in
    then_acts w u v (exchanges_acts theirs here w name u exchanges) (turns_acts theirs all u there v more)

pub healing_is_acts : HealingIsActs
healing_is_acts theirs w count v turns = then_acts w (doubts_all w) v (doubts_acts (names w) w) (turns_acts theirs (names w) (doubts_all w) count v turns)
