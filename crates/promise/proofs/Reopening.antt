-- The connector is opened again after exchanges that were under way at once.
use Rattle.std.proofs.Common.{◌≡◌, ℕ, Bool, true, false, cond, List, [], ◌∷◌, Option, Some, None, Result, Ok, Err, refl, ap, sym, subst, ◌∙◌, inl, inr}
use Rattle.std.specs.FinMap.{get, insert, keys, get-insert}
use Rattle.std.specs.BTreeSet.{insert_key}
use Rattle.std.specs.List.{AllByRecursion}
use Rattle.std.specs.Option.{option_map}
use Rattle.std.specs.Ordering.{is_eq}
use Rattle.scim_key.specs.Outcome.{◌>>=◌}
use Rattle.scim_key.specs.RecordOrder.{names_total}
use Rattle.scim_key.specs.Records.{name_cmp}
use Rattle.scim_key.specs.declared.records.RecordName.{RecordName}
use Rattle.scim_message.specs.declared.messages.Answer.{Answer}
use Rattle.scim_message.specs.declared.messages.Request.{Request}
use Rattle.provider_core.specs.declared.registry.Registry.{Ghosts as Registries}
use Rattle.journal_core.specs.Entries.{EntryMap}
use Rattle.journal_core.specs.declared.entries.Entry.{Entry}
use Rattle.journal_core.specs.declared.journals.Journal.{Ghosts as Journals}
use Rattle.connector_core.specs.Book.{Book}
use Rattle.connector_core.specs.Learning.{Finding, Learning, Lesson, after_learning, finding, learn, lesson, or_fault, subject}
use Rattle.connector_core.specs.Maps.{BookMap, book_of}
use Rattle.connector_core.specs.Noting.{Note, note_at, noted_entries, noted_in}
use Rattle.connector_core.specs.State.{AreOf, IsOpened, LeavesBook, State as Connector, entry_of}
use Rattle.connector_core.specs.declared.knowledge.Known.{Known}
use Rattle.connector_core.specs.declared.learning.LearnFault.{LearnFault}
use Rattle.connector_core.specs.declared.learning.LearnFault.TheVariants.{NoSuchRecord, Unfit}
use Rattle.connector_core.specs.declared.learning.Learnt.{Learnt}
use Rattle.connector_core.proofs.Keeping.{maps_are_books, names-put}
use Rattle.connector_core.proofs.Lessons.{again, learns_by_notes}
use Rattle.connector_core.specs.declared.keeps.Keeps.TheVariants.{Revisions}
use Rattle.provisioning.specs.Exchanges.{Becomes, Came, Learns, answered, lost, answer_in}
use Rattle.world_model.specs.Safe.{Has}
use Rattle.promise.specs.Calls.{AreOver, Asking, BringsReply, FlightsAreExchanges, IsOver, ReopeningAfterSeveral}
use Rattle.promise.specs.Traces.{LeavesBook as LeavesTaught, State, Step, Step.reopens, Trace, Trace.here, Trace.next}
use Rattle.promise.proofs.Calls.{over_step}
use Rattle.provisioning.proofs.AskedLemmas.{asked_of}
use Rattle.provisioning.specs.Services.{keeping_at}

-- ---- what is noted is noted of a record of the book

bound : {A B F : Type 0} (r : Result A F) (f : A → Result B F) (y : B) → (r >>= f) ≡ Ok y → (x : A) × (f x ≡ Ok y) × (r ≡ Ok x)
bound (Ok x) f y is = (x, is, refl)
bound (Err fault) f y is = absurd (cc)

there : {A : Type 0} (fault : LearnFault) (o : Option A) (x : A) → or_fault fault o ≡ Ok x → o ≡ Some x
there fault (Some y) x is = cc
there fault None x is = absurd (cc)

abbrev one_note : RecordName → Lesson → Result Note LearnFault
one_note name l = Ok (record { name = name; lesson = l })

note_named : (name : RecordName) (l : Lesson) (n : Note) → one_note name l ≡ Ok n → name ≡ n.name
note_named name l n is =
    let same : record { name = name; lesson = l } ≡ n = cc in ap (λ (x : Note). x.name) same

noted_there : (book : Book) (request : Request) (answer : Answer) (n : Note) → note_at Revisions book request answer ≡ Ok n → (known : Known) × (book n.name ≡ Some known)
noted_there book request answer n is =
    let said : RecordName → Known → Finding → Result Note LearnFault = λ name known f. lesson book name known f >>= one_note name in
    let known : RecordName → Known → Result Note LearnFault = λ name k. finding request answer >>= said name k in
    let one = bound (or_fault Unfit (subject request)) (λ name. or_fault NoSuchRecord (book name) >>= known name) n is in
    let two = bound (or_fault NoSuchRecord (book one.0)) (known one.0) n one.1 in
    let three = bound (finding request answer) (said one.0 two.0) n two.1 in
    let four = bound (lesson book one.0 two.0 three.0) (one_note one.0) n three.1 in
    (two.0, subst (λ (name : RecordName). book name ≡ Some two.0) (note_named one.0 four.0 n four.1) (there NoSuchRecord (book one.0) two.0 two.2))

-- ---- the entries with a note are those of the book with it

kept_so : (b : Bool) (known : Known) (entry : Option Entry) (old : Option Known) → entry ≡ option_map entry_of old → cond b (Some (entry_of known)) entry ≡ option_map entry_of (cond b (Some known) old)
kept_so true known entry old same = refl
kept_so false known entry old same = same

put_so : (kept : EntryMap) (book : BookMap) (name : RecordName) (old known : Known) → get book name ≡ Some old → AreOf kept (book_of book) (keys book) → AreOf (insert kept name (entry_of known)) (book_of (insert book name known)) (keys book)
put_so kept book name old known is are = record {
  same = λ q. get-insert names_total kept name (entry_of known) q ∙ kept_so (is_eq (name_cmp q name)) known (get kept q) (get book q) (are.same q)
      ∙ ap (option_map entry_of) (sym (get-insert names_total book name known q));
  listed = names-put kept name (entry_of known) ∙ ap (λ (names : List RecordName). insert_key name_cmp names name) are.listed ∙ sym (names-put book name old) ∙ ap keys (again book name old is);
}

noted_so : (kept : EntryMap) (book : BookMap) (request : Request) (answer : Answer) (r : Result Note LearnFault) → note_at Revisions (book_of book) request answer ≡ r → AreOf kept (book_of book) (keys book)
    → AreOf (noted_entries kept r) (after_learning (book_of book) (noted_in (book_of book) r)) (keys book)
noted_so kept book request answer (Ok n) is are =
    let old = noted_there (book_of book) request answer n is in
    subst (λ (b : Book). AreOf (insert kept n.name (entry_of n.lesson.known)) b (keys book)) (maps_are_books book n.name n.lesson.known).book (put_so kept book n.name old.0 n.lesson.known old.1 are)
noted_so kept book request answer (Err fault) is are = are

taught : (kept : EntryMap) (book : BookMap) (request : Request) (answer : Answer) → AreOf kept (book_of book) (keys book)
    → AreOf (noted_entries kept (note_at Revisions (book_of book) request answer)) (after_learning (book_of book) (learn (book_of book) request answer)) (keys book)
taught kept book request answer are =
    subst (λ (r : Result Learning LearnFault). AreOf (noted_entries kept (note_at Revisions (book_of book) request answer)) (after_learning (book_of book) r) (keys book)) (sym (learns_by_notes Revisions (book_of book) request answer))
    (noted_so kept book request answer (note_at Revisions (book_of book) request answer) refl are)

-- ---- one exchange after another

module _ {R J I O P Q : Type 0} (g : Registries R) (h : Journals J) (received : I → Option (List ℕ)) (posted : O → Option (List ℕ)) (remaining : P → Option (List ℕ)) (contents : Q → Option (List ℕ)) where
  pub flights_are_exchanges : FlightsAreExchanges g h received posted remaining contents
  flights_are_exchanges base name stream f before after result set learnt =
      (learnt.came, record { sent = asked_of received posted (keeping_at base) f stream set (answer_in learnt.came) learnt.heard; becomes = learnt.becomes })

  module _ (base : List ℕ) (mid : State) where
    abbrev Leads : BookMap → Type 0
    Leads book = Trace g h received posted remaining contents base mid (record mid { book = book })

    abbrev Came_for : Asking I O → Type 0
    Came_for e = Has mid.sent e.1.request × BringsReply received mid.written e.1.request e.1.reader

    -- the trace leads to the book so far, and to whatever is opened after a stop
    record Stands (s : Connector J) : Type 0 where
      pub trace : Leads s.book
      pub held : h.is_faithful s.journal → AreOf (h.entries s.journal) (book_of s.book) (keys s.book)
      pub leaves : (found : EntryMap) → h.may_hold s.journal found → (book : BookMap) → IsOpened found book → Leads book

    at_first : ((s : J) → h.is_faithful s → h.may_hold s (h.entries s)) → (s : Connector J) → s.book ≡ mid.book → LeavesBook h s → Stands s
    at_first stays s was left =
        let trace : Leads s.book = subst Leads (sym was) here in
        record {
          trace = trace;
          held = λ faithful. left (h.entries s.journal) (stays s.journal faithful);
          leaves = λ found may book opened. next trace (reopens found book (left found may) opened);
        }

    learnt_held : (s t : Connector J) (request : Request) (answer : Answer) (learnt : Result Learnt LearnFault) → Learns h Revisions request answer learnt s t → Stands s → h.is_faithful t.journal
        → AreOf (h.entries t.journal) (book_of t.book) (keys t.book)
    learnt_held s t request answer (Ok said) learns stands faithful =
        subst (λ (names : List RecordName). AreOf (h.entries t.journal) (book_of t.book) names) (sym learns.names)
        (subst (λ (b : Book). AreOf (h.entries t.journal) b (keys s.book)) (sym learns.ok)
        (subst (λ (es : EntryMap). AreOf es (after_learning (book_of s.book) (learn (book_of s.book) request answer)) (keys s.book)) (sym (learns.journal.done faithful))
        (taught (h.entries s.journal) s.book request answer (stands.held (learns.journal.was faithful)))))
    learnt_held s t request answer (Err fault) learns stands faithful =
        subst (λ (b : BookMap). AreOf (h.entries t.journal) (book_of b) (keys b)) (sym learns.err)
        (subst (λ (es : EntryMap). AreOf es (book_of s.book) (keys s.book)) (sym (learns.journal.same faithful)) (stands.held (learns.journal.was faithful)))

    module _ (e : Asking I O) (s t : Connector J) (has : Has mid.sent e.1.request) (brings : BringsReply received mid.written e.1.request e.1.reader) where
      over_to : IsOver h received posted base e s t → (book : BookMap) → LeavesTaught e.1.request e.1.came s t book → Step g h received posted remaining contents base (record mid { book = s.book }) (record mid { book = book })
      over_to over book leaves = over_step g h received posted remaining contents base (record mid { book = s.book }) e s t over refl has brings book leaves

      stands_more : (came : Came) → e.1.came ≡ came → IsOver h received posted base e s t → Becomes h (keeping_at base) e.1.request came s t → h.is_honest t.journal → Stands s → Stands t
      stands_more (lost fault) is over same honest stands = subst Stands (sym same) stands
      stands_more (answered answer learnt) is over learns honest stands = record {
        trace = next stands.trace (over_to over t.book (inl refl));
        held = learnt_held s t e.1.request answer learnt learns stands;
        leaves = λ found may book opened. elim (learns.journal.stop honest found may) [
          | inl before ↦ stands.leaves found before book opened
          | inr made ↦ next stands.trace (over_to over book (inr (
            answer,
            learnt,
            found,
            is,
            subst (λ (es : EntryMap). AreOf es (after_learning (book_of s.book) (learn (book_of s.book) e.1.request answer)) (keys s.book)) (sym made.1)
                (taught (h.entries s.journal) s.book e.1.request answer (stands.held made.0)),
            opened,
          )))
        ];
      }

    honest_more : (request : Request) (came : Came) (s t : Connector J) → Becomes h (keeping_at base) request came s t → h.is_honest t.journal → h.is_honest s.journal
    honest_more request (lost fault) s t same honest = subst (λ (c : Connector J). h.is_honest c.journal) same honest
    honest_more request (answered answer learnt) s t learns honest = learns.journal.honest honest

    honest_before : (es : List (Asking I O)) (s t : Connector J) → AreOver h received posted base es s t → h.is_honest t.journal → h.is_honest s.journal
    honest_before [] s t same honest = subst (λ (c : Connector J). h.is_honest c.journal) same honest
    honest_before (e ∷ es) s t (between, over, more) honest = honest_more e.1.request e.1.came s between over.becomes (honest_before es between t more honest)

    stands_all : (es : List (Asking I O)) (s t : Connector J) → AreOver h received posted base es s t → AllByRecursion Came_for es → h.is_honest t.journal → Stands s → Stands t
    stands_all [] s t same all honest stands = subst Stands (sym same) stands
    stands_all (e ∷ es) s t (between, over, more) all honest stands =
        stands_all es between t more all.1 honest
        (stands_more e s between all.0.0 all.0.1 e.1.came refl over over.becomes (honest_before es between t more honest) stands)

  pub reopening_after_several : ((s : J) → h.is_faithful s → h.may_hold s (h.entries s)) → ReopeningAfterSeveral g h received posted remaining contents
  reopening_after_several stays base mid es before after over was all left honest found book may opened =
      (stands_all base mid es before after over all honest (at_first base mid stays before was left)).leaves found may book opened
