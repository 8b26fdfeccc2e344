-- What convergence needs besides the invariant: members are user records of the book, and each name is one of the book.
use Rattle.std.proofs.Common.{◌≡◌, ℕ, zero, suc, Bool, true, List, [], ◌∷◌, Option, Some, None, Result, Ok, Err, is_some, ◌⊎◌, inl, inr, refl, ap, sym, ◌∙◌, subst}
use Rattle.std.proofs.lemmas.Bool.{and_parts}
use Rattle.std.specs.BTreeSet.{insert_key}
use Rattle.std.specs.List.{AllByRecursion, list_all}
use Rattle.std.specs.Option.{option_map}
use Rattle.std.specs.Ordering.{match_ordering}
use Rattle.std.specs.declared.cmp.Ordering.{Ordering}
use Rattle.std.specs.declared.cmp.Ordering.TheVariants.{Less, Equal, Greater}
use Rattle.scim_key.proofs.RecordLaws.{same as same_names}
use Rattle.scim_key.specs.declared.records.RecordName.{RecordName}
use Rattle.scim_key.specs.Records.{name_cmp}
use Rattle.source_csv.specs.Records.{row_name}
use Rattle.source_csv.specs.declared.rows.Row.{Row}
use Rattle.connector_core.proofs.Rising.{goes_on}
use Rattle.connector_core.specs.History.{History, AllAreUsers, MembersAreUsers, is_user, last_row, members_of, rows_of, same_name, user}
use Rattle.connector_core.specs.declared.accepting.Verdict.{Verdict}
use Rattle.connector_core.specs.declared.accepting.Verdict.TheVariants as verdicts
use Rattle.connector_core.specs.Asking.{asking}
use Rattle.connector_core.specs.Changing.{names_of, names_with}
use Rattle.connector_core.specs.declared.asking.Ask.{Ask}
use Rattle.connector_core.specs.declared.asking.Ask.TheVariants.{Nothing, Waits, Send}
use Rattle.connector_core.specs.declared.changing.ChangeFault.{ChangeFault}
use Rattle.connector_core.specs.declared.knowledge.Known.{Known}
use Rattle.world_model.specs.World.{World, Message, Asked, Answered, Event, Changes, Sends, Delivers, Cuts, Restarts_provider, Restarts_connector, Doubts, changes, sends, delivers, message_at, happens, empty, judged, run}
use Rattle.world_model.specs.Safe.{IsAt, Has}
use Rattle.world_model.specs.Untroubled.{IsLawful}
use Rattle.world_model.proofs.Accepting.{new_by_source}
use Rattle.world_model.specs.Invariant.{Names, all_names, Follows, InvariantOf, Invariant}
use Rattle.world_model.specs.Others.{Act, Ours, Theirs, acts, run_among, KeepsApart}
use Rattle.world_model.specs.Room.{HasRoom, IsLawfulAct}
use Rattle.world_model.proofs.Invariant.{event_inv, empty_inv, act_inv}
use Rattle.world_model.proofs.Judging.{judged_by_source}
use Rattle.world_model.proofs.Lists.{has_last, kept_has}
use Rattle.world_model.proofs.Quiet.{QuietAmong, room_alone, always_quiet, none_quiet, among_quiet}
use Rattle.world_model.proofs.Room.{room_was_there}

pub record CalmAmong (ours : Names) (w : World) : Type 0 where
  pub quiet : QuietAmong ours w
  pub room : HasRoom w
  pub members : MembersAreUsers w.history

abbrev pub Calm : World → Type 0
Calm w = CalmAmong all_names w

-- ---- members

changes_members : {ours : Names} (w : World) (row : Row) (v : Result Verdict ChangeFault) → InvariantOf ours w → judged w row ≡ v → MembersAreUsers w.history → MembersAreUsers (changes w row v).history
changes_members w row (Ok verdicts.New) inv is members = (goes_on w.history row (new_by_source w.history row (sym (judged_by_source w row inv.follows) ∙ is))).members members
changes_members w row (Ok verdicts.Known) inv is members = members
changes_members w row (Ok verdicts.Older) inv is members = members
changes_members w row (Err fault) inv is members = members

sends_members : (w : World) (o : Option Ask) → MembersAreUsers w.history → MembersAreUsers (sends w o).history
sends_members w None members = members
sends_members w (Some Nothing) members = members
sends_members w (Some (Waits member)) members = members
sends_members w (Some (Send request)) members = members

delivers_members : (w : World) (o : Option Message) → MembersAreUsers w.history → MembersAreUsers (delivers w o).history
delivers_members w None members = members
delivers_members w (Some (Asked request)) members = members
delivers_members w (Some (Answered request answer)) members = members

event_members : {ours : Names} (w : World) (event : Event) → InvariantOf ours w → MembersAreUsers w.history → MembersAreUsers (happens w event).history
event_members w (Changes row) inv members = changes_members w row (judged w row) inv refl members
event_members w (Sends name) inv members = sends_members w (asking w.book name) members
event_members w (Delivers number) inv members = delivers_members w (message_at w.messages number) members
event_members w (Cuts number length) inv members = members
event_members w Restarts_provider inv members = members
event_members w Restarts_connector inv members = members
event_members w (Doubts name) inv members = members

run_members : (w : World) (events : List Event) → Invariant w → MembersAreUsers w.history → MembersAreUsers (run w events).history
run_members w [] inv members = members
run_members w (event ∷ events) inv members = run_members (happens w event) events (event_inv w event inv) (event_members w event inv members)

pub always_calm : (events : List Event) → AllByRecursion IsLawful events → Calm (run empty events)
always_calm events law =
    let quiet = always_quiet events law in
    record { quiet = quiet; room = room_alone (run empty events) quiet; members = run_members empty events empty_inv tt }

-- among others
act_members : {ours : Names} (w : World) (act : Act) → InvariantOf ours w → MembersAreUsers w.history → MembersAreUsers (acts w act).history
act_members w (Ours event) inv members = event_members w event inv members
act_members w (Theirs request) inv members = members

among_members : {ours : Names} (w : World) (later : List Act) → KeepsApart ours later → InvariantOf ours w → MembersAreUsers w.history → MembersAreUsers (run_among w later).history
among_members w [] apart inv members = members
among_members w (act ∷ later) apart inv members = among_members (acts w act) later apart.1 (act_inv w act apart.0 inv) (act_members w act inv members)

pub among_calm : {ours : Names} (w : World) (later : List Act) → KeepsApart ours later → AllByRecursion IsLawfulAct later → HasRoom (run_among w later) → CalmAmong ours w
    → CalmAmong ours (run_among w later)
among_calm w later apart law room c =
    record { quiet = among_quiet w later apart law room c.quiet; room = room; members = among_members w later apart c.quiet.inv c.members }

pub calm_among : (ours : Names) (all : List Act) → KeepsApart ours all → AllByRecursion IsLawfulAct all → HasRoom (run_among empty all) → CalmAmong ours (run_among empty all)
calm_among ours all apart law room =
    among_calm empty all apart law room (record { quiet = none_quiet ours; room = room_was_there empty all room; members = tt })

pub all_at : {X : Type 0} (P : X → Type 0) (xs : List X) (i : ℕ) (x : X) → AllByRecursion P xs → IsAt xs i x → P x
all_at P [] i x all at = absurd (cc)
all_at P (y ∷ ys) zero x all at = let same : y ≡ x = cc in subst P same all.0
all_at P (y ∷ ys) (suc i) x all at = all_at P ys i x all.1 at

pub each_passes : {X : Type 0} (p : X → Bool) (xs : List X) (i : ℕ) (x : X) → list_all p xs ≡ true → IsAt xs i x → p x ≡ true
each_passes p [] i x all at = absurd (cc)
each_passes p (y ∷ ys) zero x all at = let same : y ≡ x = cc in ap p (sym same) ∙ (and_parts (p y) (list_all p ys) all).0
each_passes p (y ∷ ys) (suc i) x all at = each_passes p ys i x (and_parts (p y) (list_all p ys) all).1 at

pub last_known : (o : Option Known) (q : Option Row) → option_map (λ k. k.wanted) o ≡ q → is_some q ≡ true → (known : Known) × (o ≡ Some known)
last_known None q is there = absurd (cc)
last_known (Some known) q is there = (known, refl)

-- each member of an accepted row is in the book
pub member_known_by : (w : World) → Follows w.book w.history → MembersAreUsers w.history → (row : Row) → Has w.history row → (i : ℕ) (key : List ℕ) → IsAt (members_of row) i key
    → (known : Known) × (w.book (user key) ≡ Some known)
member_known_by w follows members row has i key at =
    let users = all_at (AllAreUsers w.history) w.history has.0 row members has.1 in
    last_known (w.book (user key)) (last_row w.history (user key)) (follows (user key)) (each_passes (is_user w.history) (members_of row) i key users at)

pub member_known : {ours : Names} (w : World) → CalmAmong ours w → (row : Row) → Has w.history row → (i : ℕ) (key : List ℕ) → IsAt (members_of row) i key → (known : Known) × (w.book (user key) ≡ Some known)
member_known w c row has i key at = member_known_by w c.quiet.inv.follows c.members row has i key at

-- ---- names

has_with : (xs : List RecordName) (name q : RecordName) → Has (insert_key name_cmp xs name) q → (name ≡ q) ⊎ Has xs q
has_with [] name q (zero, at) = inl (cc)
has_with [] name q (suc i, at) = absurd (cc)
has_with (x ∷ xs) name q has = go (name_cmp name x) (has_with xs name q) has
  where
    go : (r : Ordering) → (Has (insert_key name_cmp xs name) q → (name ≡ q) ⊎ Has xs q)
        → Has (match_ordering r (name ∷ x ∷ xs) (x ∷ xs) (x ∷ insert_key name_cmp xs name)) q → (name ≡ q) ⊎ Has (x ∷ xs) q
    go Less rest (zero, at) = inl (cc)
    go Less rest (suc i, at) = inr (i, at)
    go Equal rest has = inr has
    go Greater rest (zero, at) = inr (0, at)
    go Greater rest (suc i, at) = elim (rest (i, at)) [
      | inl new ↦ inl new
      | inr old ↦ inr (suc old.0, old.1)
    ]

abbrev IsNamed : History → RecordName → Type 0
IsNamed history q = (row : Row) × Has history row × (row_name row ≡ q)

later_named : (row : Row) (rows : History) (q : RecordName) → IsNamed rows q → IsNamed (row ∷ rows) q
later_named row rows q (r, has, named) = (r, (suc has.0, has.1), named)

pub named_row : (names : List RecordName) (rows : History) (q : RecordName) → Has (names_with names rows) q → Has names q ⊎ IsNamed rows q
named_row names [] q has = inl has
named_row names (row ∷ rows) q has = elim (named_row (insert_key name_cmp names (row_name row)) rows q has) [
  | inl before ↦ elim (has_with names (row_name row) q before) [
    | inl new ↦ inr (row, (0, refl), new)
    | inr old ↦ inl old
  ]
  | inr later ↦ inr (later_named row rows q later)
]

pub some_known : (o : Option Known) (row : Row) → option_map (λ k. k.wanted) o ≡ Some row → (known : Known) × (o ≡ Some known)
some_known None row is = absurd (cc)
some_known (Some known) row is = (known, refl)

-- each record of the source is in the book
pub name_known_by : (w : World) → Follows w.book w.history → (q : RecordName) → Has (names_of w.history) q → (known : Known) × (w.book q ≡ Some known)
name_known_by w follows q has = elim (named_row [] w.history q has) [
  | inl none ↦ absurd (cc none.1)
  | inr there ↦
      let its = kept_has (λ r. same_name (row_name r) q) w.history there.1.0 there.0 there.1.1 ((same_names (row_name there.0) q).1 there.2) in
      let (last, is_last) = has_last (rows_of w.history q) there.0 its in
      some_known (w.book q) last (follows q ∙ is_last)
]

pub name_known : {ours : Names} (w : World) → CalmAmong ours w → (q : RecordName) → Has (names_of w.history) q → (known : Known) × (w.book q ≡ Some known)
name_known w c q has = name_known_by w c.quiet.inv.follows q has
