-- With a provider without versions, too, at most three exchanges for each record settle it, from each world of a run that
-- keeps the order and leaves versions.
use Rattle.std.proofs.Common.{◌≡◌, ℕ, zero, suc, ◌+◌, ◌*◌, ◌<◌, ◌≤◌, false, List, [], ◌∷◌, length, Option, Some, None, inl, inr, refl, ap, sym, ◌∙◌, subst, arith}
use Rattle.std.proofs.lemmas.Bool.{cases_Bool}
use Rattle.std.specs.List.{AllByRecursion}
use Rattle.std.specs.Option.{option_map}
use Rattle.scim_key.specs.declared.records.Kind.{Kind}
use Rattle.scim_key.specs.declared.records.Kind.TheVariants as kinds
use Rattle.scim_key.specs.declared.records.RecordName.{RecordName}
use Rattle.scim_resource.specs.Rows.{last_version}
use Rattle.scim_resource.specs.declared.contents.Content.{Content}
use Rattle.scim_message.specs.Messages.{unconditional}
use Rattle.provider_core.specs.Stories.{Entry, step}
use Rattle.provider_core.proofs.TableLaws.{held_at}
use Rattle.source_csv.specs.Records.{row_revision}
use Rattle.mapping.specs.Images.{image, imaged}
use Rattle.connector_core.specs.Asking.{is_done}
use Rattle.connector_core.specs.Book.{Book}
use Rattle.connector_core.specs.declared.keeps.Keeps.TheVariants.{Versions}
use Rattle.connector_core.specs.declared.knowledge.Known.{Known}
use Rattle.world_model.specs.World.{World, Message, Asked, Answered, Event, Changes, Sends, Delivers, Cuts, Restarts_provider, Restarts_connector, Doubts, message_at, empty, names}
use Rattle.world_model.specs.Safe.{IsAt, Has, id_in}
use Rattle.world_model.specs.Settled.{IsSettledOf}
use Rattle.world_model.specs.Untroubled.{IsLawful}
use Rattle.world_model.specs.Room.{HasRoom}
use Rattle.world_model.specs.Invariant.{all_names}
use Rattle.world_model.specs.Unversioned.{IsInOrder, KeepsOrder, ExchangesWithoutVersions, SettlesWithoutVersions, TurnsWithoutVersions, delivers_without_versions, exchange_without_versions, happens_without_versions, run_without_versions}
use Rattle.world_model.proofs.Asked.{IsDone, HasImage, asks_nothing}
use Rattle.world_model.proofs.Calm.{name_known_by}
use Rattle.world_model.proofs.Counting.{InOrder, none_counted}
use Rattle.world_model.proofs.Done.{settled_of}
use Rattle.world_model.proofs.Invariant.{all_of_ours}
use Rattle.world_model.proofs.Phases.{SoundAt, accepted}
use Rattle.world_model.proofs.Quiet.{row_counted}
use Rattle.world_model.proofs.Room.{places_few}
use Rattle.world_model.proofs.Settling.{IsReady, has_image, Phase, next_phase, Alone, put_here, put_others, stays_ready, Rest, AllKnown, is_ready, rest_after, known_after}
use Rattle.world_model.proofs.Unshown.{Source, Space, event_source, event_space, less_space, space_of, step_space}
use Rattle.world_model.proofs.UnversionedExchange.{AdvanceWithoutVersions, advance, exchange_keeps}
use Rattle.world_model.proofs.UnversionedInvariant.{InvariantWithoutVersions, event_without_versions, follows_history, none_without_versions, tagged, tagged_known}
use Rattle.world_model.proofs.UnversionedLearning.{retagged, same_ids}

-- ---- a world from which this many exchanges may be made

record Fine (left : ℕ) (w : World) : Type 0 where
  i : InvariantWithoutVersions all_names w
  source : Source w.history
  space : Space left w.entries

fine_of : (m n : ℕ) (w : World) → n ≤ m → Fine m w → Fine n w
fine_of m n w up f = record { i = f.i; source = f.source; space = space_of m n w.entries up f.space }

delivers_source : (w : World) (o : Option Message) → Source w.history → Source (delivers_without_versions w o).history
delivers_source w None s = s
delivers_source w (Some (Asked request)) s = s
delivers_source w (Some (Answered request answer)) s = s

delivers_space : (n : ℕ) (w : World) (o : Option Message) → Space (suc n) w.entries → Space n (delivers_without_versions w o).entries
delivers_space n w None s = less_space n w.entries s
delivers_space n w (Some (Asked request)) s = step_space n w.entries (unconditional request) s
delivers_space n w (Some (Answered request answer)) s = less_space n w.entries s

event_fine : (n : ℕ) (w : World) (event : Event) → IsLawful event → IsInOrder w event → Fine (suc n) w → Fine n (happens_without_versions w event)
event_fine n w event law order f = record { i = event_without_versions w event (all_of_ours event) order f.i; source = source event law; space = space event }
  where
    source : (event : Event) → IsLawful event → Source (happens_without_versions w event).history
    source (Changes row) l = event_source w (Changes row) l (follows_history w f.i) f.source
    source (Sends name) l = event_source w (Sends name) l (follows_history w f.i) f.source
    source (Delivers number) l = delivers_source w (message_at w.messages number) f.source
    source (Cuts number length) l = f.source
    source Restarts_provider l = f.source
    source Restarts_connector l = f.source
    source (Doubts name) l = f.source

    space : (event : Event) → Space n (happens_without_versions w event).entries
    space (Changes row) = event_space n w (Changes row) f.space
    space (Sends name) = event_space n w (Sends name) f.space
    space (Delivers number) = delivers_space n w (message_at w.messages number) f.space
    space (Cuts number length) = less_space n w.entries f.space
    space Restarts_provider = less_space n w.entries f.space
    space Restarts_connector = less_space n w.entries f.space
    space (Doubts name) = less_space n w.entries f.space

run_fine : (n : ℕ) (w : World) (events : List Event) → AllByRecursion IsLawful events → KeepsOrder w events → Fine (length events + n) w → Fine n (run_without_versions w events)
run_fine n w [] law order f = fine_of _ n w (omega arith) f
run_fine n w (event ∷ events) law order f =
    run_fine n (happens_without_versions w event) events law.1 order.1 (event_fine (length events + n) w event law.0 order.0 (fine_of _ _ w (omega arith) f))

module _ {left : ℕ} (w : World) (f : Fine left w) where
  abbrev there : World
  there = tagged f.i.tags w

  sound : SoundAt Versions all_names there
  sound = record { inv = f.i.inv; lawful = f.source.lawful; counted = f.source.counted; short = λ i e at mine. omega (arith, f.space.each i e at) }

  entry_counted : (i : ℕ) (e : Entry) → IsAt w.entries i e → Has (names w) e.name
  entry_counted i e at =
      let image = f.i.inv.kept.imaged i (length e.earlier) e e.held at refl (held_at e) in
      row_counted w.history f.source.counted e.name image.row image.accepted

  room : HasRoom w
  room = omega (arith, places_few w f.source.counted f.i.inv.kept.whole entry_counted)

  untagged : (tag : List ℕ) (o : Option Known) (known : Known) → option_map (retagged tag) o ≡ Some known → (k : Known) × (o ≡ Some k) × (retagged tag k ≡ known)
  untagged tag None known is = absurd (cc)
  untagged tag (Some k) known is = (k, refl, cc)

  ready_there : (kind : Kind) → IsReady kind w → IsReady kind there
  ready_there kinds.User ready = tt
  ready_there kinds.Group ready = λ q known of_user in_book.
      let (k, here, same) = untagged (f.i.tags q) (w.book q) known in_book in
      subst IsDone same (ready q k of_user here)

  its_image : (name : RecordName) (known : Known) → w.book name ≡ Some known → IsReady name.kind w → (content : Content) × HasImage w.book known content
  its_image name known in_book ready =
      let (content, has) = has_image there sound f.source.members name (retagged (f.i.tags name) known) (tagged_known w f.i name known in_book) name.kind refl (ready_there name.kind ready) in
      (content, ap (λ (ids : RecordName → Option (List ℕ)). imaged ids known.wanted) (sym (same_ids f.i.tags w.book)) ∙ has)

-- ---- one record

record Turn (w : World) (name : RecordName) (left rest : ℕ) : Type 0 where
  count : ℕ
  after : World
  within : count ≤ left
  exchanges : ExchangesWithoutVersions w name count after
  fine : Fine rest after
  alone : Alone w name after
  known : Known
  in_book : after.book name ≡ Some known
  done : IsDone known

stands : (left rest : ℕ) (w : World) → Fine (left + rest) w → (name : RecordName) (known : Known) → w.book name ≡ Some known → IsDone known → Turn w name left rest
stands left rest w f name known in_book done = record {
  count = zero;
  after = w;
  within = omega arith;
  exchanges = refl;
  fine = fine_of (left + rest) rest w (omega arith) f;
  alone = record { history = refl; others = λ q other. refl };
  known = known;
  in_book = in_book;
  done = done;
}

module _ (w : World) (name : RecordName) (known : Known) (old : List ℕ) (x : AdvanceWithoutVersions w name known old) where
  abbrev then : World
  then = exchange_without_versions w name

  then_fine : (left : ℕ) → Fine (suc left) w → InvariantWithoutVersions all_names then → Fine left then
  then_fine left f i = record {
    i = i;
    source = subst Source (sym x.led.history) f.source;
    space = subst (Space left) (sym x.led.entries) (step_space left w.entries (unconditional x.request) f.space);
  }

  then_alone : Alone w name then
  then_alone = record { history = x.led.history; others = λ q other. ap (λ (b : Book). b q) x.led.book ∙ put_others w.book name q x.now other }

  then_known : then.book name ≡ Some x.now
  then_known = ap (λ (b : Book). b name) x.led.book ∙ put_here w.book name x.now

  then_at : (left : ℕ) → is_done known ≡ false → Phase (suc left) w.entries name (retagged old known) → Phase left then.entries name (retagged x.tag x.now)
  then_at left undone phase = subst (λ (es : List Entry). Phase left es name (retagged x.tag x.now)) (sym x.led.entries)
      (next_phase left w.entries (step w.entries (unconditional x.request)).entries name (retagged old known) (retagged x.tag x.now) undone phase x.goes)

  longer : (left rest : ℕ) → Turn then name left rest → Turn w name (suc left) rest
  longer left rest t = record {
    count = suc t.count;
    after = t.after;
    within = omega (arith, t.within);
    exchanges = (x.led.wants, t.exchanges);
    fine = t.fine;
    alone = record { history = t.alone.history ∙ then_alone.history; others = λ q other. t.alone.others q other ∙ then_alone.others q other };
    known = t.known;
    in_book = t.in_book;
    done = t.done;
  }

one_record : (left rest : ℕ) (w : World) → Fine (left + rest) w → (name : RecordName) (known : Known) (tag : List ℕ) → w.book name ≡ Some known → IsReady name.kind w
    → Phase left w.entries name (retagged tag known) → Turn w name left rest
one_record zero rest w f name known tag in_book ready phase = stands zero rest w f name known in_book phase
one_record (suc left) rest w f name known tag in_book ready phase = elim (cases_Bool (is_done known)) [
  | inl done ↦ stands (suc left) rest w f name known in_book done
  | inr undone ↦
      let (content, has) = its_image w f name known in_book ready in
      let x = advance w f.i (room w f) (sound w f) name known in_book tag content has undone in
      let i = exchange_keeps w name x.led.wants.0 x.led.wants.1 f.i in
      longer w name known tag x left rest
      (one_record left rest (then w name known tag x) (then_fine w name known tag x (left + rest) (fine_of _ _ w (omega arith) f) i) name x.now x.tag (then_known w name known tag x)
      (stays_ready name.kind w (then w name known tag x) name refl (then_alone w name known tag x) ready)
      (then_at w name known tag x left undone phase))
]

-- ---- all records in turn

record Round (w : World) (names : List RecordName) : Type 0 where
  count : ℕ
  after : World
  turns : TurnsWithoutVersions w names count after
  fine : Fine 0 after
  done : (q : RecordName) (known : Known) → after.book q ≡ Some known → IsDone known

onwards : (w : World) (name : RecordName) (names : List RecordName) {rest : ℕ} (t : Turn w name 3 rest) → Round t.after names → Round w (name ∷ names)
onwards w name names t r = record {
  count = t.count + r.count;
  after = r.after;
  turns = (t.count, r.count, t.after, t.within, t.exchanges, asks_nothing t.after.book name t.known t.in_book t.done, r.turns, refl);
  fine = r.fine;
  done = r.done;
}

all_records : (names : List RecordName) (w : World) → Fine (3 * length names) w → InOrder names → AllKnown w names → Rest w names → Round w names
all_records [] w f order all rest = record {
  count = zero;
  after = w;
  turns = (refl, refl);
  fine = f;
  done = λ q known in_book. elim (rest q known in_book) [
    | inl done ↦ done
    | inr later ↦ absurd (cc later.1)
  ];
}
all_records (name ∷ names) w f order all rest =
    let (known, in_book) = all 0 name refl in
    let t = one_record 3 (3 * length names) w (fine_of _ _ w (omega arith) f) name known [] in_book (is_ready name.kind w name names refl order.0 rest) tt in
    onwards w name names t
    (all_records names t.after t.fine order.1 (known_after w t.after name names t.alone t.known t.in_book t.done all) (rest_after w t.after name names t.alone t.known t.in_book t.done rest))

none_fine : (left : ℕ) → left < last_version → Fine left empty
none_fine left few = record {
  i = none_without_versions all_names;
  source = record { lawful = λ i row at. absurd (cc); counted = none_counted; members = tt };
  space = record { first = few; each = λ i e at. absurd (cc) };
}

-- what is settled under some tags is settled
is_settled : (w : World) (f : Fine 0 w) (name : RecordName) (known : Known) → w.book name ≡ Some known → IsDone known → IsSettledOf w name
is_settled w f name known in_book done =
    let tag = f.i.tags name in
    let in_book_there = tagged_known w f.i name known in_book in
    let s = settled_of (there w f) (sound w f) name (retagged tag known) in_book_there done in
    let both : Some s.known ≡ Some (retagged tag known) = sym s.in_book ∙ in_book_there in
    let same : s.known ≡ retagged tag known = cc in
    record {
      known = known;
      entry = s.entry;
      in_book = in_book;
      wanted = s.wanted ∙ ap (λ (k : Known). Some k.wanted) same;
      confirmed = ap (λ (k : Known). k.confirmed) (sym same) ∙ s.confirmed ∙ ap (λ (k : Known). row_revision k.wanted) same;
      of_record = s.of_record;
      held = ap (λ (k : Known). image (id_in w.entries) k.wanted) (sym same) ∙ s.held;
    }

pub settles_without_versions : SettlesWithoutVersions
settles_without_versions events law order leaves =
    let w = run_without_versions empty events in
    let f = run_fine (3 * length (names w)) empty events law order (none_fine (length events + 3 * length (names w)) leaves) in
    let r = all_records (names w) w f f.source.counted.order (λ i q at. name_known_by w (follows_history w f.i) q (i, at))
    (λ q known in_book. inr (row_counted w.history f.source.counted q known.wanted
    (accepted (there w f) (sound w f) q (retagged (f.i.tags q) known) (tagged_known w f.i q known in_book)))) in (
      r.count,
      r.after,
      r.turns,
      λ name has.
          let (known, in_book) = name_known_by r.after (follows_history r.after r.fine.i) name has in
          is_settled r.after r.fine name known in_book (r.done name known in_book),
    )
