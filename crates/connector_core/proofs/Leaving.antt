-- What a stop leaves of the book, after each call that changes it.
use Rattle.std.proofs.Common.{◌≡◌, Bool, true, false, cond, List, [], ◌∷◌, ◌++◌, Option, Some, Result, Ok, Err, OnOk, refl, ap, sym, subst, ◌∙◌, inl, inr}
use Rattle.std.specs.FinMap.{get, keys, get-insert}
use Rattle.std.specs.Option.{option_map}
use Rattle.std.specs.Ordering.{is_eq}
use Rattle.scim_key.specs.RecordOrder.{names_total, tied}
use Rattle.scim_key.specs.Records.{name_cmp}
use Rattle.scim_key.specs.declared.records.RecordName.{RecordName}
use Rattle.scim_message.specs.declared.messages.Answer.{Answer}
use Rattle.scim_message.specs.declared.messages.Request.{Request}
use Rattle.source_csv.specs.declared.rows.Row.{Row}
use Rattle.journal_core.specs.Entries.{EntryMap, with_row}
use Rattle.journal_core.specs.Stores.{LeavesOr}
use Rattle.journal_core.specs.declared.journals.Journal.{Ghosts as Journals}
use Rattle.journal_core.proofs.Trees.{name_from_test}
use Rattle.connector_core.specs.declared.accepting.Verdict.{Verdict}
use Rattle.connector_core.specs.declared.accepting.Verdict.TheVariants as verdicts
use Rattle.connector_core.specs.Book.{Book, seeing}
use Rattle.connector_core.specs.Changing.{accepted_map, book_after, if_new, judged, judging, new_rows, taking_all}
use Rattle.connector_core.specs.Keeps.{learn_at}
use Rattle.connector_core.specs.declared.keeps.Keeps.{Keeps}
use Rattle.connector_core.specs.Learning.{after_learning}
use Rattle.connector_core.specs.Maps.{BookMap, book_of, changed}
use Rattle.connector_core.specs.Noting.{IsNewsOf, IsNoted, after_news, entries_with}
use Rattle.connector_core.specs.State.{AreOf, IsKept, Leaves, LeavesBook, State, entry_of}
use Rattle.connector_core.specs.declared.changing.ChangeFault.{ChangeFault}
use Rattle.connector_core.specs.declared.fitting.News.{News}
use Rattle.connector_core.specs.declared.fitting.News.TheVariants as news
use Rattle.connector_core.specs.declared.knowledge.Known.{Known}
use Rattle.connector_core.specs.declared.learning.Learnt.TheVariants as learnt
use Rattle.connector_core.specs.declared.knowledge.Seen.{Seen}
use Rattle.connector_core.proofs.Keeping.{kept-row}
use Rattle.connector_core.proofs.LawProofs.{maps_accept}
use Rattle.connector_core.proofs.Lessons.{book-after, changed-is, kept-learnt, kept-seen, same-book, same-names}
use Rattle.connector_core.proofs.Verdicts.{new-row, not-below}

-- entries that keep a book are those of the book
pub are-of : (kept : EntryMap) (book : BookMap) → IsKept kept book → AreOf kept (book_of book) (keys book)
are-of kept book is = record { same = is.same; listed = is.names }

-- ---- only what was seen changes

seen-cond : (b : Bool) (new old : Known) (o here : Option Known) → (b ≡ true → o ≡ here) → here ≡ Some old → entry_of new ≡ entry_of old → option_map entry_of (cond b (Some new) o) ≡ option_map entry_of o
seen-cond true new old o here same is alike = ap Some alike ∙ sym (ap (option_map entry_of) (same refl ∙ is))
seen-cond false new old o here same is alike = refl

seen-entry : (book : BookMap) (name : RecordName) (known : Known) (seen : Seen) (doubt : Bool) → get book name ≡ Some known → (q : RecordName)
    → option_map entry_of (get (changed (seeing seen doubt) book name) q) ≡ option_map entry_of (get book q)
seen-entry book name known seen doubt there q =
    ap (λ (b : BookMap). option_map entry_of (get b q)) (changed-is (seeing seen doubt) book name known there)
    ∙ ap (option_map entry_of) (get-insert names_total book name (seeing seen doubt known) q)
    ∙ seen-cond (is_eq (name_cmp q name)) (seeing seen doubt known) known (get book q) (get book name) (λ same. ap (get book) (name_from_test q name (sym (tied q name) ∙ same))) there refl

pub of-seen : (found : EntryMap) (book : BookMap) (name : RecordName) (known : Known) (seen : Seen) (doubt : Bool) → get book name ≡ Some known → AreOf found (book_of book) (keys book)
    → AreOf found (book_of (changed (seeing seen doubt) book name)) (keys (changed (seeing seen doubt) book name))
of-seen found book name known seen doubt there are = record {
  same = λ q. are.same q ∙ sym (seen-entry book name known seen doubt there q);
  listed = are.listed ∙ sym (same-names (seeing seen doubt) book name known there);
}

-- ---- no row is new

taking-none : (book : BookMap) (rows : List Row) → new_rows book rows ≡ [] → taking_all book rows ≡ book
taking-none book [] none = refl
taking-none book (row ∷ rows) none = one (judged book row) (λ b rest. taking-none b rows rest) none
  where
    one : (v : Result Verdict ChangeFault) → ((b : BookMap) → new_rows b rows ≡ [] → taking_all b rows ≡ b) → if_new row v ++ new_rows (accepted_map book row v) rows ≡ [] → taking_all (accepted_map book row v) rows ≡ book
    one (Ok verdicts.New) more e = absurd (cc)
    one (Ok verdicts.Known) more e = more book e
    one (Ok verdicts.Older) more e = more book e
    one (Err fault) more e = more book e

pub of-none : (found : EntryMap) (book new : BookMap) (rows : List Row) → new ≡ taking_all book rows → new_rows book rows ≡ [] → AreOf found (book_of book) (keys book) → AreOf found (book_of new) (keys new)
of-none found book new rows is none are =
    let B : BookMap → Type 0 = λ b. AreOf found (book_of b) (keys b) in
    subst B (sym (is ∙ taking-none book rows none)) are

-- ---- what is learnt

module _ (keeps : Keeps) (book : BookMap) (request : Request) (answer : Answer) (name : RecordName) (n : News) (is : IsNoted keeps book request answer name n) where
  news-of : (entries : EntryMap) → IsKept entries book → (m : News) → IsNewsOf is.known m → AreOf (entries_with entries name m) (book_of (changed (after_news m) book name)) (keys (changed (after_news m) book name))
  news-of entries kept (news.Lasting confirmed id seen learnt) keeps = are-of _ _ (kept-learnt entries book name is.known kept is.there confirmed id seen keeps)
  news-of entries kept (news.Passing seen doubt learnt) keeps = are-of _ _ (kept-seen entries book name is.known kept is.there seen doubt)
  news-of entries kept news.Nothing keeps =
      let B : BookMap → Type 0 = λ b. AreOf entries (book_of b) (keys b) in
      subst B (same-book book name is.known is.there) (are-of entries book kept)

  pub of-news : (entries : EntryMap) → IsKept entries book → AreOf (entries_with entries name n) (after_learning (book_of book) (learn_at keeps (book_of book) request answer)) (keys book)
  of-news entries kept =
      let made = news-of entries kept n is.is_news in
      let after : book_of (changed (after_news n) book name) ≡ after_learning (book_of book) (learn_at keeps (book_of book) request answer) =
      book-after keeps book request answer name n is (changed (after_news n) book name) (Ok learnt.Nothing) refl in
      record { same = λ q. made.same q ∙ ap (λ b. option_map entry_of (b q)) after; listed = made.listed ∙ same-names (after_news n) book name is.known is.there }

-- ---- calls

module _ {J : Type 0} (h : Journals J) where
  -- the journal is as it was
  pub failed-still : {T F : Type 0} (old new : State J) (later : Book) (names : List RecordName) (fault : F) → new.journal ≡ old.journal → LeavesBook h old → Leaves {T = T} h old new later names (Err fault)
  failed-still old new later names fault same was = record { done = tt; failed = λ found holds. inl (was found (subst (λ j. h.may_hold j found) same holds)) }

  pub done-still : {T F : Type 0} (s : State J) (later : Book) (names : List RecordName) (said : T) → LeavesBook h s → Leaves {F = F} h s s later names (Ok said)
  done-still s later names said was = record { done = was; failed = tt }

  -- a store that is open leaves what it holds
  pub open-leaves : (s : State J) → ((found : EntryMap) → h.is_faithful s.journal → h.may_hold s.journal found → found ≡ h.entries s.journal)
      → (h.is_faithful s.journal → IsKept (h.entries s.journal) s.book) → h.is_faithful s.journal → LeavesBook h s
  open-leaves s settled kept faithful found holds =
      subst (λ es. AreOf es (book_of s.book) (keys s.book)) (sym (settled found faithful holds)) (are-of (h.entries s.journal) s.book (kept faithful))

  pub open-done : {T F : Type 0} (s : State J) (result : Result T F) → ((found : EntryMap) → h.is_faithful s.journal → h.may_hold s.journal found → found ≡ h.entries s.journal)
      → (h.is_faithful s.journal → IsKept (h.entries s.journal) s.book) → OnOk result (h.is_faithful s.journal) → OnOk result (LeavesBook h s)
  open-done s (Ok said) settled kept faithful = open-leaves s settled kept faithful
  open-done s (Err fault) settled kept faithful = tt

  -- a write was made, or failed: it would have made the entries `made`, which are those of the later book
  pub written : {T F : Type 0} (old new : State J) (made : EntryMap) (later : Book) (names : List RecordName) (result : Result T F) → OnOk result (LeavesBook h new)
      → (h.is_faithful old.journal → AreOf made later names)
      → LeavesOr (h.may_hold old.journal) (h.may_hold new.journal) (λ found. h.is_faithful old.journal × (found ≡ made))
      → LeavesBook h old → Leaves h old new later names result
  written old new made later names (Ok said) done are stop was = record { done = done; failed = tt }
  written old new made later names (Err fault) done are stop was = record {
    done = tt;
    failed = λ found holds. elim (stop found holds) [
      | inl before ↦ inl (was found before)
      | inr after ↦ inr (subst (λ es. AreOf es later names) (sym after.1) (are after.0))
    ];
  }

-- the entries with a new row
pub of-row : (entries : EntryMap) (book : BookMap) (row : Row) → judging (book_of book) (keys book) row ≡ Ok verdicts.New → IsKept entries book
    → AreOf (with_row entries row) (book_after (book_of book) row (judging (book_of book) (keys book) row)) (keys (accepted_map book row (judging (book_of book) (keys book) row)))
of-row entries book row new kept =
    let V : Result Verdict ChangeFault → Type 0 = λ v. AreOf (with_row entries row) (book_after (book_of book) row v) (keys (accepted_map book row v)) in
    let made = kept-row entries book row kept (not-below entries book row kept (new-row book row new)) in
    subst V (sym new) (record { same = λ q. made.same q ∙ ap (λ b. option_map entry_of (b q)) (maps_accept book row (Ok verdicts.New)); listed = made.names })
