-- One record more is planned, and the end of a plan.
use Rattle.std.proofs.Common.{◌≡◌, ◌&&◌, Bool, Result, Ok, Err, IfOk, IfErr, inl, inr, ℕ, ◌+◌, ◌<◌, List, [], ◌∷◌, ◌++◌, Option, Some, None, length, take, get_or, sym, ap, subst, ◌∙◌, append-nil, append_assoc}
use Rattle.std.proofs.lemmas.Grind.{flat_map-append}
use Rattle.std.proofs.lemmas.List.{take_more}
use Rattle.std.specs.Io.KnownBytes.{Appends}
use Rattle.scim_key.specs.declared.records.RecordName.{RecordName}
use Rattle.std.specs.List.{count_by}
use Rattle.journal_core.specs.declared.journals.Journal.{Ghosts}
use Rattle.connector_core.specs.Book.{Book}
use Rattle.source_csv.specs.declared.rows.Row.{Row}
use Rattle.connector_core.specs.Maps.{BookMap, book_of}
use Rattle.connector_core.specs.State.{State}
use Rattle.provisioning.specs.Leavers.{is_switched_off, names_in_use}
use Rattle.provisioning.specs.Offering.{OffersAll}
use Rattle.provisioning.specs.Bases.{IsBasis, confirmed_row, is_absent, is_among, row_in}
use Rattle.provisioning.specs.Plans.{Plans, WritesPlan, plan_line, plan_lines}
use Rattle.provisioning.specs.Runs.{IsUntold}
use Rattle.provisioning.specs.Sources.{are_whole}
use Rattle.provisioning.specs.declared.bases.Basis.{Basis}
use Rattle.provisioning.specs.declared.faults.RunFault.{RunFault}
use Rattle.provisioning.specs.declared.offering.Judged.{Judged}
use Rattle.provisioning.specs.declared.planning.Plan.{Plan}
use Rattle.provisioning.specs.declared.sources.Sources.{Sources}

pub if_ok : {T F : Type 0} {P Q : T → Type 0} (r : Result T F) → ((x : T) → P x → Q x) → IfOk r P → IfOk r Q
if_ok (Ok x) changes p = changes x p
if_ok (Err e) changes p = tt

-- beside the same confirmed rows, of which the same records are absent
pub beside : (confirmed rows : RecordName → Option Row) (absent among : RecordName → Bool) (book : BookMap) (before after : Option (List ℕ))
    → ((name : RecordName) → rows name ≡ confirmed name) → ((name : RecordName) → among name ≡ absent name)
    → WritesPlan rows among book before after → WritesPlan confirmed absent book before after
beside confirmed rows absent among book before after same_rows same_absent writes =
    subst (λ a. WritesPlan confirmed a book before after) (λ i name. same_absent name i)
    (subst (λ c. WritesPlan c among book before after) (λ i name. same_rows name i) writes)

-- the lines were written, or the run ended there
module _ {J : Type 0} (g : Ghosts J) (sources : Sources) (old new : State J) (heard later : Option (List Judged)) (before after : Option (List ℕ)) (taken : Bool) (names : List RecordName) (basis : Basis) where
  pub planned : (r : Result Plan RunFault) → OffersAll g sources old new heard later (Ok taken) → names ≡ names_in_use old.book → IsBasis sources old.book basis
      → IfOk r (λ plan. (plan ≡ record { is_taken = taken && are_whole sources; leavers = count_by (is_switched_off (book_of new.book)) names }) × WritesPlan (row_in basis) (is_among basis) new.book before after)
      → IfErr r IsUntold → Plans g sources old new heard later before after r
  planned (Ok plan) offers are is plans fault = (
    taken,
    offers,
    beside (confirmed_row (book_of old.book)) (row_in basis) (is_absent sources) (is_among basis) new.book before after is.rows is.absent plans.1,
    plans.0 ∙ ap (λ (xs : List RecordName). record { is_taken = taken && are_whole sources; leavers = count_by (is_switched_off (book_of new.book)) xs }) are,
  )
  planned (Err ending) offers are is plans fault = inr (inl (taken, offers, fault))

pub appends_more : (before middle after : Option (List ℕ)) (first second : List ℕ) → Appends before middle first → Appends middle after second → Appends before after (first ++ second)
appends_more None middle after first second one two = tt
appends_more (Some o) None after first second one two = absurd one
appends_more (Some o) (Some m) None first second one two = absurd two
appends_more (Some o) (Some m) (Some n) first second one two = two ∙ ap (λ t. t ++ second) one ∙ append_assoc o first second

pub one_more : (confirmed : RecordName → Option Row) (absent : RecordName → Bool) (book : Book) (before middle now : Option (List ℕ)) (list : List RecordName) (n : ℕ) (name : RecordName)
    → n < length list → name ≡ get_or list n name
    → Appends before middle (plan_lines confirmed absent book (take n list)) → Appends middle now (plan_line confirmed absent book name) → Appends before now (plan_lines confirmed absent book (take (n + 1) list))
one_more confirmed absent book before middle now list n name within is so_far written =
    let more : take (n + 1) list ≡ take n list ++ name ∷ [] = take_more list n name within ∙ ap (λ e. take n list ++ e ∷ []) (sym is) in
    let lines : plan_lines confirmed absent book (take (n + 1) list) ≡ plan_lines confirmed absent book (take n list) ++ plan_line confirmed absent book name =
    ap (plan_lines confirmed absent book) more ∙ flat_map-append (plan_line confirmed absent book) (take n list) (name ∷ []) ∙ ap (λ l. plan_lines confirmed absent book (take n list) ++ l) (append-nil (plan_line confirmed absent book name)) in
    subst (Appends before now) (sym lines) (appends_more before middle now (plan_lines confirmed absent book (take n list)) (plan_line confirmed absent book name) so_far written)
