-- What is made of rows that are offered together, and what takes them back.
use Rattle.std.proofs.Common.{◌≡◌, ◌∙◌, ◌++◌, ◌==◌, Bool, true, false, cond, List, [], ◌∷◌, Option, Some, None, IsSome, Result, Ok, Err, length, refl, ap, sym, subst, append_assoc, append-nil, arith}
use Rattle.std.proofs.lemmas.Bool.Decides.{nat_tests}
use Rattle.std.proofs.lemmas.List.{nil_from_length}
use Rattle.std.specs.FinMap.{get, insert, get-insert, same_map}
use Rattle.std.specs.Option.{option_map}
use Rattle.std.specs.Ordering.{is_eq}
use Rattle.scim_key.proofs.RecordLaws.{same as same_names}
use Rattle.scim_key.specs.RecordOrder.{names_total, tied}
use Rattle.scim_key.specs.Records.{name_cmp}
use Rattle.scim_key.specs.declared.records.RecordName.{RecordName}
use Rattle.source_csv.specs.declared.rows.Row.{Row}
use Rattle.journal_core.proofs.Trees.{name_from_test, names_same}
use Rattle.journal_core.specs.Entries.{EntryMap, CanPutRows, with_rows}
use Rattle.connector_core.specs.declared.accepting.Verdict.{Verdict}
use Rattle.connector_core.specs.declared.accepting.Verdict.TheVariants as verdict
use Rattle.connector_core.specs.Book.{wanting_now}
use Rattle.connector_core.specs.Changing.{accepted_entries, accepted_map, entries_all, if_new, judged, new_rows, taking, taking_all, verdicts}
use Rattle.connector_core.specs.Maps.{BookMap, changed, changed_at}
use Rattle.connector_core.specs.Offering.{AreOffered, all_back, row_back, taken_back}
use Rattle.connector_core.specs.State.{IsKept}
use Rattle.connector_core.specs.declared.changing.ChangeFault.{ChangeFault}
use Rattle.connector_core.specs.declared.knowledge.Known.{Known}
use Rattle.connector_core.specs.declared.taking.Note.{Note}
use Rattle.connector_core.specs.declared.offering.Offered.{Offered}
use Rattle.connector_core.proofs.Keeping.{kept-row}
use Rattle.connector_core.proofs.Verdicts.{can-put, new-row, not-below}

-- ---- what takes a row back

-- the last note is the first that is gone by
pub back-more : (notes : List Note) (note : Note) (book : BookMap) → all_back (notes ++ note ∷ []) book ≡ all_back notes (taken_back book note)
back-more [] note book = refl
back-more (n ∷ notes) note book = ap (λ b. taken_back b n) (back-more notes note book)

-- a note that takes a change back is put after the others
pub back-noted : (notes more : List Note) (note : Note) (book later : BookMap) → more ≡ notes ++ note ∷ [] → taken_back later note ≡ book → all_back more later ≡ all_back notes book
back-noted notes more note book later put back = ap (λ ns. all_back ns later) put ∙ back-more notes note later ∙ ap (all_back notes) back

again-cond : (b : Bool) (put known : Known) (o here : Option Known) → (b ≡ true → o ≡ here) → here ≡ Some known → cond b (Some known) (cond b (Some put) o) ≡ o
again-cond true put known o here same there = sym (same refl ∙ there)
again-cond false put known o here same there = refl

-- what was under a name is put there again
again : (book : BookMap) (name : RecordName) (put known : Known) → get book name ≡ Some known → insert (insert book name put) name known ≡ book
again book name put known there = same_map names_total names_same _ _ (λ q.
    get-insert names_total (insert book name put) name known q ∙ ap (cond (is_eq (name_cmp q name)) (Some known)) (get-insert names_total book name put q)
    ∙ again-cond (is_eq (name_cmp q name)) put known (get book q) (get book name) (λ same. ap (get book) (name_from_test q name (sym (tied q name) ∙ same))) there)

found-put : (book : BookMap) (name : RecordName) (put : Known) → get (insert book name put) name ≡ Some put
found-put book name put = get-insert names_total book name put name ∙ ap (λ b. cond b (Some put) (get book name)) (tied name name ∙ (same_names name name).1 refl)

next-at : (book : BookMap) (name : RecordName) (row : Row) (o : Option Known) → get book name ≡ o → IsSome o
    → row_back (changed_at (wanting_now row) book name o) name (option_map (λ (k : Known). k.wanted) o) ≡ book
next-at book name row None is there = absurd (cc)
next-at book name row (Some k) is there =
    ap (changed_at (wanting_now k.wanted) (insert book name (wanting_now row k)) name) (found-put book name (wanting_now row k))
    ∙ again book name (wanting_now row k) k is

-- a later row is taken back
pub next-back : (book later : BookMap) (name : RecordName) (row : Row) (last : Option Row) → IsSome (get book name) → last ≡ option_map (λ (k : Known). k.wanted) (get book name)
    → later ≡ changed (wanting_now row) book name → row_back later name last ≡ book
next-back book later name row last there is put =
    ap (row_back later name) is ∙ ap (λ b. row_back b name (option_map (λ (k : Known). k.wanted) (get book name))) put ∙ next-at book name row (get book name) refl there

-- ---- one row more

taking-more : (book : BookMap) (rows : List Row) (row : Row) → taking_all book (rows ++ row ∷ []) ≡ taking (taking_all book rows) row
taking-more book [] row = refl
taking-more book (r ∷ rows) row = taking-more (taking book r) rows row

verdicts-more : (book : BookMap) (rows : List Row) (row : Row) → verdicts book (rows ++ row ∷ []) ≡ verdicts book rows ++ judged (taking_all book rows) row ∷ []
verdicts-more book [] row = refl
verdicts-more book (r ∷ rows) row = ap (λ vs. judged book r ∷ vs) (verdicts-more (taking book r) rows row)

new-more : (book : BookMap) (rows : List Row) (row : Row) → new_rows book (rows ++ row ∷ []) ≡ new_rows book rows ++ if_new row (judged (taking_all book rows) row)
new-more book [] row = append-nil (if_new row (judged book row))
new-more book (r ∷ rows) row = ap (λ rest. if_new r (judged book r) ++ rest) (new-more (taking book r) rows row) ∙ sym (append_assoc (if_new r (judged book r)) (new_rows (taking book r) rows) _)

pub offered-more : (old now later : BookMap) (rows : List Row) (row : Row) (offered more : Offered) → AreOffered old now rows offered
    → more.said.items ≡ offered.said.items ++ judged now row ∷ [] → more.fresh.items ≡ offered.fresh.items ++ if_new row (judged now row) → later ≡ taking now row
    → AreOffered old later (rows ++ row ∷ []) more
offered-more old now later rows row offered more are said fresh taken = record {
  said = said ∙ ap (λ vs. vs ++ judged now row ∷ []) are.said ∙ ap (λ b. verdicts old rows ++ judged b row ∷ []) are.taken ∙ sym (verdicts-more old rows row);
  fresh = fresh ∙ ap (λ rs. rs ++ if_new row (judged now row)) are.fresh ∙ ap (λ b. new_rows old rows ++ if_new row (judged b row)) are.taken ∙ sym (new-more old rows row);
  taken = taken ∙ ap (λ b. taking b row) are.taken ∙ sym (taking-more old rows row);
}

-- ---- what the journal keeps of them

kept-next : (kept : EntryMap) (book : BookMap) (row : Row) (v : Result Verdict ChangeFault) → judged book row ≡ v → IsKept kept book → IsKept (accepted_entries kept row v) (accepted_map book row v)
kept-next kept book row (Ok verdict.New) said is = kept-row kept book row is (not-below kept book row is (new-row book row said))
kept-next kept book row (Ok verdict.Known) said is = is
kept-next kept book row (Ok verdict.Older) said is = is
kept-next kept book row (Err fault) said is = is

pub kept-all : (kept : EntryMap) (book : BookMap) (rows : List Row) → IsKept kept book → IsKept (entries_all kept book rows) (taking_all book rows)
kept-all kept book [] is = is
kept-all kept book (row ∷ rows) is = kept-all (accepted_entries kept row (judged book row)) (taking book row) rows (kept-next kept book row (judged book row) refl is)

can-next : (kept : EntryMap) (book : BookMap) (row : Row) (rest : List Row) (v : Result Verdict ChangeFault) → judged book row ≡ v → IsKept kept book → CanPutRows (accepted_entries kept row v) rest
    → CanPutRows kept (if_new row v ++ rest)
can-next kept book row rest (Ok verdict.New) said is can = (can-put kept book row is (new-row book row said), can)
can-next kept book row rest (Ok verdict.Known) said is can = can
can-next kept book row rest (Ok verdict.Older) said is can = can
can-next kept book row rest (Err fault) said is can = can

-- the new rows may be put
pub can-put-all : (kept : EntryMap) (book : BookMap) (rows : List Row) → IsKept kept book → CanPutRows kept (new_rows book rows)
can-put-all kept book [] is = tt
can-put-all kept book (row ∷ rows) is =
    can-next kept book row (new_rows (taking book row) rows) (judged book row) refl is
    (can-put-all (accepted_entries kept row (judged book row)) (taking book row) rows (kept-next kept book row (judged book row) refl is))

put-next : (kept : EntryMap) (row : Row) (rest : List Row) (v : Result Verdict ChangeFault) → with_rows (accepted_entries kept row v) rest ≡ with_rows kept (if_new row v ++ rest)
put-next kept row rest (Ok verdict.New) = refl
put-next kept row rest (Ok verdict.Known) = refl
put-next kept row rest (Ok verdict.Older) = refl
put-next kept row rest (Err fault) = refl

-- putting the new rows makes the entries that all of the rows leave
pub puts-all : (kept : EntryMap) (book : BookMap) (rows : List Row) → with_rows kept (new_rows book rows) ≡ entries_all kept book rows
puts-all kept book [] = refl
puts-all kept book (row ∷ rows) =
    sym (put-next kept row (new_rows (taking book row) rows) (judged book row)) ∙ puts-all (accepted_entries kept row (judged book row)) (taking book row) rows

-- ---- one write of the new rows

pub nothing : (rows : List Row) → (length rows == 0) ≡ true → rows ≡ []
nothing rows none = nil_from_length rows (grind (arith, nat_tests))

-- what is put, if these are the new rows
module _ (held : EntryMap) (old new : BookMap) (rows : List Row) (offered : Offered) (are : AreOffered old new rows offered) where
  pub puts-fresh : (put : List Row) → put ≡ offered.fresh.items → with_rows held put ≡ entries_all held old rows
  puts-fresh put is = ap (with_rows held) (is ∙ are.fresh) ∙ puts-all held old rows

  pub can-put-fresh : (put : List Row) → put ≡ offered.fresh.items → IsKept held old → CanPutRows held put
  can-put-fresh put is kept = subst (CanPutRows held) (sym (is ∙ are.fresh)) (can-put-all held old rows kept)

  pub keeps-fresh : (put : List Row) (entries : EntryMap) → put ≡ offered.fresh.items → entries ≡ with_rows held put → IsKept held old → IsKept entries new
  keeps-fresh put entries is done kept =
      let K : BookMap → Type 0 = λ b. IsKept (entries_all held old rows) b in
      subst (λ e. IsKept e new) (sym (done ∙ puts-fresh put is)) (subst K (sym are.taken) (kept-all held old rows kept))
