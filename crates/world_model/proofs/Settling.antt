-- From each world of a run, at most three exchanges for each record settle it: users first, and then groups, whose members are done.
use Rattle.std.proofs.Common.{◌≡◌, ℕ, zero, suc, ◌+◌, ◌≤◌, Bool, true, false, cond, List, [], ◌∷◌, Some, ◌⊎◌, inl, inr, refl, ap, sym, ◌∙◌, subst, arith}
use Rattle.std.proofs.lemmas.Bool.{cases_Bool}
use Rattle.std.specs.List.{AllByRecursion}
use Rattle.std.specs.Option.{option_and_then}
use Rattle.std.specs.declared.cmp.Ordering.TheVariants.{Less}
use Rattle.scim_key.proofs.RecordLaws.{same as same_names}
use Rattle.scim_key.specs.declared.records.Kind.{Kind}
use Rattle.scim_key.specs.declared.records.Kind.TheVariants as kinds
use Rattle.scim_key.specs.declared.records.RecordName.{RecordName}
use Rattle.scim_key.specs.Records.{name_cmp}
use Rattle.scim_resource.specs.declared.contents.Content.{Content}
use Rattle.provider_core.specs.Stories.{Entry, step}
use Rattle.connector_core.specs.History.{MembersAreUsers, members_of, same_name, user}
use Rattle.connector_core.specs.Asking.{is_done}
use Rattle.connector_core.specs.Book.{Book, known_id, put}
use Rattle.connector_core.specs.Changing.{names_of}
use Rattle.connector_core.specs.declared.keeps.Keeps.{Keeps}
use Rattle.connector_core.specs.declared.keeps.Keeps.TheVariants.{Revisions}
use Rattle.connector_core.specs.declared.knowledge.Known.{Known}
use Rattle.connector_core.specs.declared.knowledge.Seen.TheVariants.{Unknown}
use Rattle.world_model.specs.Safe.{IsAt, Has}
use Rattle.world_model.specs.Settled.{exchange, Exchanges, Turns, Settles}
use Rattle.world_model.specs.Invariant.{Names, all_names}
use Rattle.world_model.specs.Others.{run_among}
use Rattle.world_model.specs.Room.{Meanwhile, after_them, LeavesRoom, ExchangesAmong, TurnsAmong, SettlesFrom, SettlesAmong}
use Rattle.world_model.specs.World.{World, empty, run}
use Rattle.world_model.proofs.Asked.{IsDone, HasImage, user_imaged, members_imaged, asks_nothing}
use Rattle.world_model.proofs.Calm.{CalmAmong, always_calm, calm_among, member_known_by, name_known}
use Rattle.world_model.proofs.Counting.{InOrder, Comes, all_has}
use Rattle.world_model.proofs.Done.{has_version, settled_of}
use Rattle.world_model.proofs.Exchanging.{exchange_quiet, exchange_room}
use Rattle.world_model.proofs.Meanwhile.{near_stays, same_history, same_book, still_calm}
use Rattle.world_model.proofs.Phases.{Near, Near.truly_absent, Near.at_current, Goes, Goes.ends, Goes.nears, Goes.forgets, Advance, SoundAt, sound_of, accepted, its_name, its_ours, one_exchange}
use Rattle.world_model.proofs.Quiet.{row_counted}
use Rattle.world_model.proofs.Ranking.{row_there}

-- ---- which rows have images

-- every user is done
abbrev pub UsersDone : World → Type 0
UsersDone w = (q : RecordName) (known : Known) → q.kind ≡ kinds.User → w.book q ≡ Some known → IsDone known

-- a user is ready to be sent at all times, a group once every user is done
abbrev pub IsReady : Kind → World → Type 0
IsReady kinds.User w = Unit {0}
IsReady kinds.Group w = UsersDone w

module _ {keeps : Keeps} {ours : Names} (w : World) (q : SoundAt keeps ours w) (members : MembersAreUsers w.history) (name : RecordName) (known : Known) (in_book : w.book name ≡ Some known) where
  member_id : UsersDone w → (i : ℕ) (key : List ℕ) → IsAt (members_of known.wanted) i key → (id : List ℕ) × (known_id w.book (user key) ≡ Some id)
  member_id users i key at =
      let row = row_there w.history name known.wanted (accepted w q name known in_book) in
      let (member, there) = member_known_by w q.inv.follows members known.wanted row i key at in
      let has = has_version w q (user key) member there (users (user key) member refl there) in
      (has.id, ap (option_and_then (λ k. k.id)) there ∙ has.known)

  pub has_image : (kind : Kind) → name.kind ≡ kind → IsReady kind w → (content : Content) × HasImage w.book known content
  has_image kinds.User is ready = user_imaged (known_id w.book) known.wanted (ap (λ n. n.kind) (its_name w q name known in_book) ∙ is)
  has_image kinds.Group is ready = members_imaged (known_id w.book) known.wanted (member_id ready)

-- ---- one record

-- how far it is at most from done
abbrev pub Phase : (left : ℕ) → List Entry → RecordName → Known → Type 0
Phase zero es name known = IsDone known
Phase (suc zero) es name known = IsDone known ⊎ Near es name known
Phase (suc (suc zero)) es name known = (IsDone known ⊎ Near es name known) ⊎ (known.seen ≡ Unknown)
Phase (suc (suc (suc left))) es name known = Unit {0}

seen_near : (es : List Entry) (name : RecordName) (known : Known) → Near es name known → known.seen ≡ Unknown → ⊥
seen_near es name known (truly_absent is none) unknown = absurd (cc)
seen_near es name known (at_current i e id revision at named is) unknown = absurd (cc)

done_clash : (b : Bool) → b ≡ false → b ≡ true → ⊥
done_clash b undone done = absurd (cc)

pub next_phase : (left : ℕ) (es fs : List Entry) (name : RecordName) (known now : Known) → is_done known ≡ false → Phase (suc left) es name known → Goes es name known fs now
    → Phase left fs name now
next_phase zero es fs name known now undone (inl done) goes = absurd (done_clash (is_done known) undone done)
next_phase zero es fs name known now undone (inr near) (ends done) = done
next_phase zero es fs name known now undone (inr near) (nears unknown next) = absurd (seen_near es name known near unknown)
next_phase zero es fs name known now undone (inr near) (forgets is not_unknown not_near) = absurd (not_near near)
next_phase (suc zero) es fs name known now undone phase (ends done) = inl done
next_phase (suc zero) es fs name known now undone phase (nears unknown next) = inr next
next_phase (suc zero) es fs name known now undone (inl (inl done)) (forgets is not_unknown not_near) = absurd (done_clash (is_done known) undone done)
next_phase (suc zero) es fs name known now undone (inl (inr near)) (forgets is not_unknown not_near) = absurd (not_near near)
next_phase (suc zero) es fs name known now undone (inr unknown) (forgets is not_unknown not_near) = absurd (not_unknown unknown)
next_phase (suc (suc zero)) es fs name known now undone phase (ends done) = inl (inl done)
next_phase (suc (suc zero)) es fs name known now undone phase (nears unknown next) = inl (inr next)
next_phase (suc (suc zero)) es fs name known now undone phase (forgets is not_unknown not_near) = inr is
next_phase (suc (suc (suc left))) es fs name known now undone phase goes = tt

phase_stays : (left : ℕ) (es fs : List Entry) (name : RecordName) (known : Known) → (Near es name known → Near fs name known) → Phase left es name known → Phase left fs name known
phase_stays zero es fs name known stays done = done
phase_stays (suc zero) es fs name known stays (inl done) = inl done
phase_stays (suc zero) es fs name known stays (inr near) = inr (stays near)
phase_stays (suc (suc zero)) es fs name known stays (inl (inl done)) = inl (inl done)
phase_stays (suc (suc zero)) es fs name known stays (inl (inr near)) = inl (inr (stays near))
phase_stays (suc (suc zero)) es fs name known stays (inr unknown) = inr unknown
phase_stays (suc (suc (suc left))) es fs name known stays phase = tt

-- only what is known about this record changes
pub record Alone (w : World) (name : RecordName) (v : World) : Type 0 where
  pub history : v.history ≡ w.history
  pub others : (q : RecordName) → same_name name q ≡ false → v.book q ≡ w.book q

pub put_here : (book : Book) (name : RecordName) (now : Known) → put book name now name ≡ Some now
put_here book name now = ap (λ (b : Bool). cond b (Some now) (book name)) ((same_names name name).1 refl)

pub put_others : (book : Book) (name q : RecordName) (now : Known) → same_name name q ≡ false → put book name now q ≡ book q
put_others book name q now other = ap (λ (b : Bool). cond b (Some now) (book q)) other

kinds_apart : (name q : RecordName) → name.kind ≡ kinds.Group → q.kind ≡ kinds.User → same_name name q ≡ false
kinds_apart name q is_group is_user = elim (cases_Bool (same_name name q)) [
  | inl same ↦
      let clash : kinds.Group ≡ kinds.User = sym is_group ∙ ap (λ n. n.kind) ((same_names name q).0 same) ∙ is_user in
      absurd (cc)
  | inr apart ↦ apart
]

pub stays_ready : (kind : Kind) (w v : World) (name : RecordName) → name.kind ≡ kind → Alone w name v → IsReady kind w → IsReady kind v
stays_ready kinds.User w v name is alone ready = tt
stays_ready kinds.Group w v name is alone ready = λ q known of_user in_book. ready q known of_user (sym (alone.others q (kinds_apart name q is of_user)) ∙ in_book)

-- while others act, every user stays done
users_stay : (kind : Kind) (w v : World) → v.book ≡ w.book → IsReady kind w → IsReady kind v
users_stay kinds.User w v same ready = tt
users_stay kinds.Group w v same ready = λ q known of_user in_book. ready q known of_user (sym (ap (λ (b : Book). b q) same) ∙ in_book)

-- ---- while others act

module _ {ours : Names} (theirs : Meanwhile) (leave : LeavesRoom ours theirs) where
  -- the world when the next exchange begins
  abbrev next : World → World
  next w = after_them w (theirs w)

  next_calm : (w : World) → CalmAmong ours w → CalmAmong ours (next w)
  next_calm w c = still_calm w (theirs w) (leave.alone w) (leave.room w c.room) c

  -- at most `left` exchanges for a record, after which it is done
  record Turn (w : World) (name : RecordName) (left : ℕ) : Type 0 where
    count : ℕ
    after : World
    within : count ≤ left
    exchanges : ExchangesAmong theirs w name count after
    calm : CalmAmong ours after
    alone : Alone w name after
    known : Known
    in_book : after.book name ≡ Some known
    done : IsDone known

  stands : (left : ℕ) (w : World) → CalmAmong ours w → (name : RecordName) (known : Known) → w.book name ≡ Some known → IsDone known → Turn w name left
  stands left w c name known in_book done = record {
    count = zero;
    after = w;
    within = omega arith;
    exchanges = refl;
    calm = c;
    alone = record { history = refl; others = λ q other. refl };
    known = known;
    in_book = in_book;
    done = done;
  }

  module _ (w : World) (c : CalmAmong ours w) (name : RecordName) (known : Known) (x : Advance Revisions (next w) name known) where
    abbrev then : World
    then = exchange (next w) name

    then_calm : CalmAmong ours then
    then_calm =
        let u = next_calm w c in
        record {
          quiet = exchange_quiet (next w) name x.leads.wants.0 x.leads.wants.1 u.room u.quiet;
          room = exchange_room (next w) name x.leads.wants.0 x.leads.wants.1 u.room u.quiet;
          members = subst MembersAreUsers (sym x.leads.history) u.members;
        }

    then_alone : Alone w name then
    then_alone = record {
      history = x.leads.history ∙ same_history w (theirs w);
      others = λ q other. ap (λ (b : Book). b q) x.leads.book ∙ put_others (next w).book name q x.now other ∙ ap (λ (b : Book). b q) (same_book w (theirs w));
    }

    then_known : then.book name ≡ Some x.now
    then_known = ap (λ (b : Book). b name) x.leads.book ∙ put_here (next w).book name x.now

    then_at : (left : ℕ) → ours name ≡ true → is_done known ≡ false → Phase (suc left) w.entries name known → Phase left then.entries name x.now
    then_at left mine undone phase =
        let now = phase_stays (suc left) w.entries (next w).entries name known (near_stays ours name mine w (theirs w) known (leave.alone w)) phase in
        subst (λ (es : List Entry). Phase left es name x.now) (sym x.leads.entries)
        (next_phase left (next w).entries (step (next w).entries x.request).entries name known x.now undone now x.goes)

    longer : (left : ℕ) → Turn then name left → Turn w name (suc left)
    longer left t = record {
      count = suc t.count;
      after = t.after;
      within = omega (arith, t.within);
      exchanges = (x.leads.wants, t.exchanges);
      calm = t.calm;
      alone = record { history = t.alone.history ∙ then_alone.history; others = λ q other. t.alone.others q other ∙ then_alone.others q other };
      known = t.known;
      in_book = t.in_book;
      done = t.done;
    }

  one_record : (left : ℕ) (w : World) (c : CalmAmong ours w) (name : RecordName) (known : Known) → w.book name ≡ Some known → IsReady name.kind w → Phase left w.entries name known
      → Turn w name left
  one_record zero w c name known in_book ready phase = stands zero w c name known in_book phase
  one_record (suc left) w c name known in_book ready phase = elim (cases_Bool (is_done known)) [
    | inl done ↦ stands (suc left) w c name known in_book done
    | inr undone ↦
        let u = next_calm w c in
        let still : (next w).book name ≡ Some known = ap (λ (b : Book). b name) (same_book w (theirs w)) ∙ in_book in
        let (content, has) = has_image (next w) (sound_of (next w) u.quiet) u.members name known still name.kind refl (users_stay name.kind w (next w) (same_book w (theirs w)) ready) in
        let x = one_exchange (next w) u.room (sound_of (next w) u.quiet) name known still undone content has in
        longer w c name known x left
        (one_record left (then w c name known x) (then_calm w c name known x) name x.now (then_known w c name known x)
        (stays_ready name.kind w (then w c name known x) name refl (then_alone w c name known x) ready)
        (then_at w c name known x left (its_ours w (sound_of w c.quiet) name known in_book) undone phase))
  ]

-- ---- all records in turn

-- each record is done or has its turn yet
abbrev pub Rest : World → List RecordName → Type 0
Rest w names = (q : RecordName) (known : Known) → w.book q ≡ Some known → IsDone known ⊎ Has names q

abbrev pub AllKnown : World → List RecordName → Type 0
AllKnown w names = (i : ℕ) (q : RecordName) → IsAt names i q → (known : Known) × (w.book q ≡ Some known)

abbrev of : Kind → List ℕ → RecordName
of kind key = record { kind = kind; key = key }

after_group : (k l : Kind) (x y : List ℕ) → k ≡ kinds.Group → l ≡ kinds.User → name_cmp (of k x) (of l y) ≡ Less → ⊥
after_group kinds.User l x y is_group is_user comes = absurd (cc)
after_group kinds.Group kinds.User x y is_group is_user comes = absurd (cc)
after_group kinds.Group kinds.Group x y is_group is_user comes = absurd (cc)

-- no user comes after a group
pub no_user_later : (name : RecordName) (names : List RecordName) (q : RecordName) → AllByRecursion (Comes name) names → name.kind ≡ kinds.Group → q.kind ≡ kinds.User → Has (name ∷ names) q → ⊥
no_user_later name names q order is_group is_user (zero, at) =
    let same : name ≡ q = cc in
    let clash : kinds.Group ≡ kinds.User = sym is_group ∙ ap (λ n. n.kind) same ∙ is_user in
    cc
no_user_later name names q order is_group is_user (suc i, at) =
    after_group name.kind q.kind name.key q.key is_group is_user (all_has (Comes name) names i q order at)

pub is_ready : (kind : Kind) (w : World) (name : RecordName) (names : List RecordName) → name.kind ≡ kind → AllByRecursion (Comes name) names → Rest w (name ∷ names) → IsReady kind w
is_ready kinds.User w name names is order rest = tt
is_ready kinds.Group w name names is order rest = λ q known of_user in_book. elim (rest q known in_book) [
  | inl done ↦ done
  | inr later ↦ absurd (no_user_later name names q order is of_user later)
]

same_known : (a b : Known) → Some a ≡ Some b → IsDone a → IsDone b
same_known a b same done = let equal : a ≡ b = cc in subst IsDone equal done

-- after the turn of a record
module _ (w after : World) (name : RecordName) (names : List RecordName) (alone : Alone w name after) (known_now : Known) (in_book_now : after.book name ≡ Some known_now) (done : IsDone known_now) where
  pub rest_after : Rest w (name ∷ names) → Rest after names
  rest_after rest q known in_book = elim (cases_Bool (same_name name q)) [
    | inl same ↦
        let here : after.book q ≡ Some known_now = ap after.book (sym ((same_names name q).0 same)) ∙ in_book_now in
        inl (same_known known_now known (sym here ∙ in_book) done)
    | inr other ↦ go other (rest q known (sym (alone.others q other) ∙ in_book))
  ]
    where
      go : same_name name q ≡ false → IsDone known ⊎ Has (name ∷ names) q → IsDone known ⊎ Has names q
      go other (inl was) = inl was
      go other (inr (zero, at)) =
          let same : name ≡ q = cc in
          let tested : same_name name q ≡ true = (same_names name q).1 same in
          absurd (cc)
      go other (inr (suc i, at)) = inr (i, at)

  pub known_after : AllKnown w (name ∷ names) → AllKnown after names
  known_after all i q at = elim (cases_Bool (same_name name q)) [
    | inl same ↦ (known_now, ap after.book (sym ((same_names name q).0 same)) ∙ in_book_now)
    | inr other ↦ let (known, in_book) = all (suc i) q at in (known, alone.others q other ∙ in_book)
  ]

module _ {ours : Names} (theirs : Meanwhile) (leave : LeavesRoom ours theirs) where
  -- a number of exchanges, after which every record is done
  record Round (w : World) (names : List RecordName) : Type 0 where
    count : ℕ
    after : World
    turns : TurnsAmong theirs w names count after
    calm : CalmAmong ours after
    history : after.history ≡ w.history
    done : (q : RecordName) (known : Known) → after.book q ≡ Some known → IsDone known

  module _ (w : World) (name : RecordName) (names : List RecordName) (t : Turn theirs leave w name 3) where
    onwards : Round t.after names → Round w (name ∷ names)
    onwards r = record {
      count = t.count + r.count;
      after = r.after;
      turns = (t.count, r.count, t.after, t.within, t.exchanges, asks_nothing t.after.book name t.known t.in_book t.done, r.turns, refl);
      calm = r.calm;
      history = r.history ∙ t.alone.history;
      done = r.done;
    }

  all_records : (names : List RecordName) (w : World) → CalmAmong ours w → InOrder names → AllKnown w names → Rest w names → Round w names
  all_records [] w c order all rest = record {
    count = zero;
    after = w;
    turns = (refl, refl);
    calm = c;
    history = refl;
    done = λ q known in_book. elim (rest q known in_book) [
      | inl done ↦ done
      | inr later ↦ absurd (cc later.1)
    ];
  }
  all_records (name ∷ names) w c order all rest =
      let (known, in_book) = all 0 name refl in
      let t = one_record theirs leave 3 w c name known in_book (is_ready name.kind w name names refl order.0 rest) tt in
      onwards w name names t (all_records names t.after t.calm order.1 (known_after w t.after name names t.alone t.known t.in_book t.done all) (rest_after w t.after name names t.alone t.known t.in_book t.done rest))

-- ---- all runs

known_named : {ours : Names} (w : World) → CalmAmong ours w → Rest w (names_of w.history)
known_named w c q known in_book =
    inr (row_counted w.history c.quiet.counted q known.wanted (accepted w (sound_of w c.quiet) q known in_book))

pub settles_from : {ours : Names} (theirs : Meanwhile) → LeavesRoom ours theirs → (w : World) → CalmAmong ours w → SettlesFrom theirs w
settles_from theirs leave w c =
    let r = all_records theirs leave (names_of w.history) w c c.quiet.counted.order (λ i q at. name_known w c q (i, at)) (known_named w c) in (
      r.count,
      r.after,
      r.turns,
      λ name has.
          let (known, in_book) = name_known r.after r.calm name has in
          settled_of r.after (sound_of r.after r.calm.quiet) name known in_book (r.done name known in_book),
    )

pub settles_among : SettlesAmong
settles_among ours acts theirs apart law room leave = settles_from theirs leave (run_among empty acts) (calm_among ours acts apart law room)

-- ---- without others

abbrev pub nobody : Meanwhile
nobody w = []

pub nobody_leaves_room : LeavesRoom all_names nobody
nobody_leaves_room = record { alone = λ w. tt; room = λ w room. room }

exchanges_alone : (count : ℕ) (w : World) (name : RecordName) (v : World) → ExchangesAmong nobody w name count v → Exchanges w name count v
exchanges_alone zero w name v made = made
exchanges_alone (suc count) w name v made = (made.0, exchanges_alone count (exchange w name) name v made.1)

exchanges_among : (count : ℕ) (w : World) (name : RecordName) (v : World) → Exchanges w name count v → ExchangesAmong nobody w name count v
exchanges_among zero w name v made = made
exchanges_among (suc count) w name v made = (made.0, exchanges_among count (exchange w name) name v made.1)

pub turns_alone : (names : List RecordName) (w : World) (count : ℕ) (v : World) → TurnsAmong nobody w names count v → Turns w names count v
turns_alone [] w count v turns = turns
turns_alone (name ∷ names) w count v turns =
    let (here, there, u, within, exchanges, rests, more, sum) = turns in
    (here, there, u, within, exchanges_alone here w name u exchanges, rests, turns_alone names u there v more, sum)

pub turns_among : (names : List RecordName) (w : World) (count : ℕ) (v : World) → Turns w names count v → TurnsAmong nobody w names count v
turns_among [] w count v turns = turns
turns_among (name ∷ names) w count v turns =
    let (here, there, u, within, exchanges, rests, more, sum) = turns in
    (here, there, u, within, exchanges_among here w name u exchanges, rests, turns_among names u there v more, sum)

pub settles : Settles
settles events law =
    let w = run empty events in
    let (count, v, turns, settled) = settles_from nobody nobody_leaves_room w (always_calm events law) in
    (count, v, turns_alone (names_of w.history) w count v turns, settled)
