-- With a provider that shows no revision, too, at most three exchanges for each record settle it, from each world of a
-- run that leaves versions.
use Rattle.std.proofs.Common.{◌≡◌, ℕ, zero, suc, ◌+◌, ◌*◌, ◌<◌, ◌≤◌, false, List, [], ◌∷◌, length, Option, Some, None, Result, Ok, Err, inl, inr, refl, ap, sym, ◌∙◌, subst, arith, length-append}
use Rattle.std.proofs.lemmas.Bool.{cases_Bool}
use Rattle.std.specs.List.{AllByRecursion}
use Rattle.scim_key.specs.declared.records.RecordName.{RecordName}
use Rattle.scim_resource.specs.Rows.{last_version}
use Rattle.scim_message.specs.declared.messages.Request.{Request}
use Rattle.provider_core.specs.Stories.{Entry, story, first_entry, step}
use Rattle.provider_core.specs.Tables.{Writes, Writes.nothing, Writes.created, Writes.replaced}
use Rattle.provider_core.proofs.TableLaws.{at_push, at_renew, held_at, steps_write}
use Rattle.source_csv.specs.Records.{IsRow}
use Rattle.source_csv.specs.declared.rows.Row.{Row}
use Rattle.connector_core.proofs.Rising.{goes_on}
use Rattle.connector_core.specs.Asking.{asking, is_done}
use Rattle.connector_core.specs.Book.{Book}
use Rattle.connector_core.specs.History.{History, MembersAreUsers}
use Rattle.connector_core.specs.declared.keeps.Keeps.TheVariants.{Versions}
use Rattle.connector_core.specs.declared.accepting.Verdict.{Verdict}
use Rattle.connector_core.specs.declared.accepting.Verdict.TheVariants as verdicts
use Rattle.connector_core.specs.declared.asking.Ask.{Ask}
use Rattle.connector_core.specs.declared.asking.Ask.TheVariants.{Nothing, Waits, Send}
use Rattle.connector_core.specs.declared.changing.ChangeFault.{ChangeFault}
use Rattle.connector_core.specs.declared.knowledge.Known.{Known}
use Rattle.world_model.specs.World.{World, Message, Asked, Answered, Event, Changes, Sends, Delivers, Cuts, Restarts_provider, Restarts_connector, Doubts, changes, sends, message_at, empty, judged, names}
use Rattle.world_model.specs.Safe.{IsAt, Has}
use Rattle.world_model.specs.Providers.{delivers_at, happens_at, run_at, exchange_at, ExchangesAt, TurnsAt, SettlesByAnswers}
use Rattle.world_model.specs.Untroubled.{IsLawful}
use Rattle.world_model.specs.Room.{HasRoom}
use Rattle.world_model.specs.Invariant.{all_names, Follows, InvariantAt}
use Rattle.world_model.proofs.Accepting.{new_by_source}
use Rattle.world_model.proofs.Asked.{IsDone, asks_nothing}
use Rattle.world_model.proofs.Calm.{name_known_by}
use Rattle.world_model.proofs.Counting.{Counted, InOrder, none_counted, push_counted}
use Rattle.world_model.proofs.Done.{settled_of}
use Rattle.world_model.proofs.Invariant.{event_inv_at, none_inv_at, run_inv_at}
use Rattle.world_model.proofs.Judging.{judged_by_source}
use Rattle.world_model.proofs.Phases.{Advance, SoundAt, accepted, one_exchange}
use Rattle.world_model.proofs.Quiet.{lawful_push, room_for, row_counted}
use Rattle.world_model.proofs.Ranking.{AllLawful}
use Rattle.world_model.proofs.Room.{places_few}
use Rattle.world_model.proofs.Settling.{IsReady, has_image, Phase, next_phase, Alone, put_here, put_others, stays_ready, Rest, AllKnown, is_ready, rest_after, known_after}

-- ---- versions that are left

-- each story, and one that begins, may have this many versions more
pub record Space (left : ℕ) (es : List Entry) : Type 0 where
  pub first : left < last_version
  pub each : (i : ℕ) (e : Entry) → IsAt es i e → length (story e) + left < last_version

pub space_of : (m n : ℕ) (es : List Entry) → n ≤ m → Space m es → Space n es
space_of m n es up s = record { first = omega (arith, up, s.first); each = λ i e at. omega (arith, up, s.each i e at) }

pub less_space : (n : ℕ) (es : List Entry) → Space (suc n) es → Space n es
less_space n es s = space_of (suc n) n es (omega arith) s

writes_space : (n : ℕ) {es : List Entry} {request : Request} {fs : List Entry} → Writes es request fs → Space (suc n) es → Space n fs
writes_space n (nothing {es = es}) s = less_space n es s
writes_space n (created {es = es} content free) s = record {
  first = omega (arith, s.first);
  each = λ i e at. elim (at_push es (first_entry content) i e at) [
    | inl old ↦ omega (arith, s.each i e old)
    | inr new ↦ subst (λ (x : Entry). length (story x) + n < last_version) new.1 (omega (arith, s.first))
  ];
}
writes_space n (replaced {es = es} place d content m k there named below holds) s = record {
  first = omega (arith, s.first);
  each = λ i e at.
      let (old, here, which) = at_renew place content es i e at in
      elim which [
        | inl same ↦ subst (λ (x : Entry). length (story x) + n < last_version) (sym same) (omega (arith, s.each i old here))
        | inr new ↦ subst (λ (x : Entry). length (story x) + n < last_version) (sym new.1) (omega (arith, s.each i old here, length-append (story old) (content ∷ [])))
      ];
}

pub step_space : (n : ℕ) (es : List Entry) (request : Request) → Space (suc n) es → Space n (step es request).entries
step_space n es request s = writes_space n (steps_write es request) s

sends_space : (n : ℕ) (w : World) (o : Option Ask) → Space n w.entries → Space n (sends w o).entries
sends_space n w None s = s
sends_space n w (Some Nothing) s = s
sends_space n w (Some (Waits member)) s = s
sends_space n w (Some (Send request)) s = s

delivers_space : (n : ℕ) (w : World) (o : Option Message) → Space (suc n) w.entries → Space n (delivers_at Versions w o).entries
delivers_space n w None s = less_space n w.entries s
delivers_space n w (Some (Asked request)) s = step_space n w.entries request s
delivers_space n w (Some (Answered request answer)) s = less_space n w.entries s

pub event_space : (n : ℕ) (w : World) (event : Event) → Space (suc n) w.entries → Space n (happens_at Versions w event).entries
event_space n w (Changes row) s = less_space n w.entries s
event_space n w (Sends name) s = sends_space n w (asking w.book name) (less_space n w.entries s)
event_space n w (Delivers number) s = delivers_space n w (message_at w.messages number) s
event_space n w (Cuts number length) s = less_space n w.entries s
event_space n w Restarts_provider s = less_space n w.entries s
event_space n w Restarts_connector s = less_space n w.entries s
event_space n w (Doubts name) s = less_space n w.entries s

-- ---- the source

pub record Source (history : History) : Type 0 where
  pub lawful : AllLawful history
  pub counted : Counted history
  pub members : MembersAreUsers history

changes_source : (w : World) (row : Row) (v : Result Verdict ChangeFault) → IsRow row → Follows w.book w.history → judged w row ≡ v → Source w.history → Source (changes w row v).history
changes_source w row (Ok verdicts.New) law follows is s = record {
  lawful = lawful_push w.history row law s.lawful;
  counted = push_counted w.history row s.counted (room_for w row follows s.counted is);
  members = (goes_on w.history row (new_by_source w.history row (sym (judged_by_source w row follows) ∙ is))).members s.members;
}
changes_source w row (Ok verdicts.Known) law follows is s = s
changes_source w row (Ok verdicts.Older) law follows is s = s
changes_source w row (Err fault) law follows is s = s

sends_source : (w : World) (o : Option Ask) → Source w.history → Source (sends w o).history
sends_source w None s = s
sends_source w (Some Nothing) s = s
sends_source w (Some (Waits member)) s = s
sends_source w (Some (Send request)) s = s

delivers_source : (w : World) (o : Option Message) → Source w.history → Source (delivers_at Versions w o).history
delivers_source w None s = s
delivers_source w (Some (Asked request)) s = s
delivers_source w (Some (Answered request answer)) s = s

pub event_source : (w : World) (event : Event) → IsLawful event → Follows w.book w.history → Source w.history → Source (happens_at Versions w event).history
event_source w (Changes row) law follows s = changes_source w row (judged w row) law follows refl s
event_source w (Sends name) law follows s = sends_source w (asking w.book name) s
event_source w (Delivers number) law follows s = delivers_source w (message_at w.messages number) s
event_source w (Cuts number length) law follows s = s
event_source w Restarts_provider law follows s = s
event_source w Restarts_connector law follows s = s
event_source w (Doubts name) law follows s = s

-- ---- a world from which this many exchanges may be made

record Fine (left : ℕ) (w : World) : Type 0 where
  inv : InvariantAt Versions all_names w
  source : Source w.history
  space : Space left w.entries

fine_of : (m n : ℕ) (w : World) → n ≤ m → Fine m w → Fine n w
fine_of m n w up f = record { inv = f.inv; source = f.source; space = space_of m n w.entries up f.space }

run_fine : (n : ℕ) (w : World) (events : List Event) → AllByRecursion IsLawful events → Fine (length events + n) w → Fine n (run_at Versions w events)
run_fine n w [] law f = fine_of _ n w (omega arith) f
run_fine n w (event ∷ events) law f =
    run_fine n (happens_at Versions w event) events law.1 (record {
      inv = event_inv_at Versions w event f.inv;
      source = event_source w event law.0 f.inv.follows f.source;
      space = event_space (length events + n) w event (space_of _ _ w.entries (omega arith) f.space);
    })

module _ {left : ℕ} (w : World) (f : Fine left w) where
  sound : SoundAt Versions all_names w
  sound = record { inv = f.inv; lawful = f.source.lawful; counted = f.source.counted; short = λ i e at mine. omega (arith, f.space.each i e at) }

  entry_counted : (i : ℕ) (e : Entry) → IsAt w.entries i e → Has (names w) e.name
  entry_counted i e at =
      let image = f.inv.kept.imaged i (length e.earlier) e e.held at refl (held_at e) in
      row_counted w.history f.source.counted e.name image.row image.accepted

  room : HasRoom w
  room = omega (arith, places_few w f.source.counted f.inv.kept.whole entry_counted)

-- ---- one record

record Turn (w : World) (name : RecordName) (left rest : ℕ) : Type 0 where
  count : ℕ
  after : World
  within : count ≤ left
  exchanges : ExchangesAt Versions w name count after
  fine : Fine rest after
  alone : Alone w name after
  known : Known
  in_book : after.book name ≡ Some known
  done : IsDone known

stands : (left rest : ℕ) (w : World) → Fine (left + rest) w → (name : RecordName) (known : Known) → w.book name ≡ Some known → IsDone known → Turn w name left rest
stands left rest w f name known in_book done = record {
  count = zero;
  after = w;
  within = omega arith;
  exchanges = refl;
  fine = fine_of (left + rest) rest w (omega arith) f;
  alone = record { history = refl; others = λ q other. refl };
  known = known;
  in_book = in_book;
  done = done;
}

module _ (w : World) (name : RecordName) (known : Known) (x : Advance Versions w name known) where
  abbrev then : World
  then = exchange_at Versions w name

  then_fine : (left : ℕ) → Fine (suc left) w → Fine left then
  then_fine left f = record {
    inv = run_inv_at Versions w (Sends name ∷ Delivers (suc (length w.messages)) ∷ Delivers (suc (suc (length w.messages))) ∷ []) f.inv;
    source = subst Source (sym x.leads.history) f.source;
    space = subst (Space left) (sym x.leads.entries) (step_space left w.entries x.request f.space);
  }

  then_alone : Alone w name then
  then_alone = record { history = x.leads.history; others = λ q other. ap (λ (b : Book). b q) x.leads.book ∙ put_others w.book name q x.now other }

  then_known : then.book name ≡ Some x.now
  then_known = ap (λ (b : Book). b name) x.leads.book ∙ put_here w.book name x.now

  then_at : (left : ℕ) → is_done known ≡ false → Phase (suc left) w.entries name known → Phase left then.entries name x.now
  then_at left undone phase = subst (λ (es : List Entry). Phase left es name x.now) (sym x.leads.entries)
      (next_phase left w.entries (step w.entries x.request).entries name known x.now undone phase x.goes)

  longer : (left rest : ℕ) → Turn then name left rest → Turn w name (suc left) rest
  longer left rest t = record {
    count = suc t.count;
    after = t.after;
    within = omega (arith, t.within);
    exchanges = (x.leads.wants, t.exchanges);
    fine = t.fine;
    alone = record { history = t.alone.history ∙ then_alone.history; others = λ q other. t.alone.others q other ∙ then_alone.others q other };
    known = t.known;
    in_book = t.in_book;
    done = t.done;
  }

one_record : (left rest : ℕ) (w : World) → Fine (left + rest) w → (name : RecordName) (known : Known) → w.book name ≡ Some known → IsReady name.kind w → Phase left w.entries name known
    → Turn w name left rest
one_record zero rest w f name known in_book ready phase = stands zero rest w f name known in_book phase
one_record (suc left) rest w f name known in_book ready phase = elim (cases_Bool (is_done known)) [
  | inl done ↦ stands (suc left) rest w f name known in_book done
  | inr undone ↦
      let (content, has) = has_image w (sound w f) f.source.members name known in_book name.kind refl ready in
      let x = one_exchange w (room w f) (sound w f) name known in_book undone content has in
      longer w name known x left rest
      (one_record left rest (then w name known x) (then_fine w name known x (left + rest) (fine_of _ _ w (omega arith) f)) name x.now (then_known w name known x)
      (stays_ready name.kind w (then w name known x) name refl (then_alone w name known x) ready)
      (then_at w name known x left undone phase))
]

-- ---- all records in turn

record Round (w : World) (names : List RecordName) : Type 0 where
  count : ℕ
  after : World
  turns : TurnsAt Versions w names count after
  fine : Fine 0 after
  done : (q : RecordName) (known : Known) → after.book q ≡ Some known → IsDone known

onwards : (w : World) (name : RecordName) (names : List RecordName) {rest : ℕ} (t : Turn w name 3 rest) → Round t.after names → Round w (name ∷ names)
onwards w name names t r = record {
  count = t.count + r.count;
  after = r.after;
  turns = (t.count, r.count, t.after, t.within, t.exchanges, asks_nothing t.after.book name t.known t.in_book t.done, r.turns, refl);
  fine = r.fine;
  done = r.done;
}

all_records : (names : List RecordName) (w : World) → Fine (3 * length names) w → InOrder names → AllKnown w names → Rest w names → Round w names
all_records [] w f order all rest = record {
  count = zero;
  after = w;
  turns = (refl, refl);
  fine = f;
  done = λ q known in_book. elim (rest q known in_book) [
    | inl done ↦ done
    | inr later ↦ absurd (cc later.1)
  ];
}
all_records (name ∷ names) w f order all rest =
    let (known, in_book) = all 0 name refl in
    let t = one_record 3 (3 * length names) w (fine_of _ _ w (omega arith) f) name known in_book (is_ready name.kind w name names refl order.0 rest) tt in
    onwards w name names t
    (all_records names t.after t.fine order.1 (known_after w t.after name names t.alone t.known t.in_book t.done all) (rest_after w t.after name names t.alone t.known t.in_book t.done rest))

none_fine : (left : ℕ) → left < last_version → Fine left empty
none_fine left few = record {
  inv = none_inv_at Versions all_names;
  source = record { lawful = λ i row at. absurd (cc); counted = none_counted; members = tt };
  space = record { first = few; each = λ i e at. absurd (cc) };
}

pub settles_by_answers : SettlesByAnswers
settles_by_answers events law leaves =
    let w = run_at Versions empty events in
    let f = run_fine (3 * length (names w)) empty events law (none_fine (length events + 3 * length (names w)) leaves) in
    let r = all_records (names w) w f f.source.counted.order (λ i q at. name_known_by w f.inv.follows q (i, at))
    (λ q known in_book. inr (row_counted w.history f.source.counted q known.wanted (accepted w (sound w f) q known in_book))) in (
      r.count,
      r.after,
      r.turns,
      λ name has.
          let (known, in_book) = name_known_by r.after r.fine.inv.follows name has in
          settled_of r.after (sound r.after r.fine) name known in_book (r.done name known in_book),
    )
