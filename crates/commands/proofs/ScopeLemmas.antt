-- Words that name records, and how a reset of them ends.
use Rattle.std.proofs.Common.{◌≡◌, ◌<◌, ◌&&◌, ◌+◌, ℕ, Bool, true, false, List, [], ◌∷◌, ◌++◌, Option, None, Result, Ok, Err, IfOk, drop, get_or, length, refl, sym, ap, ◌∙◌, subst, take}
use Rattle.std.proofs.lemmas.List.{drop_more, take-append-drop}
use Rattle.std.specs.Prelude.{is_some}
use denote.Ref.{Bor}
use Rattle.std.specs.declared.io.Error.{Error}
use Rattle.journal_core.specs.Entries.{EntryMap}
use Rattle.journal_core.specs.declared.journals.Journal.{Ghosts as Journals}
use Rattle.journal_store.specs.declared.scopes.ResetResult.TheVariants.{Absent, Changed}
use Rattle.journal_store.specs.declared.scopes.Scope.{Scope}
use Rattle.storage.specs.Resetting.{ShowsReset}
use Rattle.source_csv.specs.Columns.{named}
use Rattle.commands.specs.Running.{EndsResetting, IsReset}
use Rattle.commands.specs.Scopes.{are_records, record_in}
use Rattle.commands.specs.declared.status.CommandFault.{CommandFault}
use Rattle.commands.specs.declared.status.Status.{Status}

none_among : (front back : List (Bor (List ℕ))) (text : Bor (List ℕ)) → record_in text.now ≡ None → are_records (named (front ++ text ∷ back)) ≡ false
none_among [] back text none = ap (λ r. is_some r && are_records (named back)) none
none_among (first ∷ front) back text none =
    let later = none_among front back text none in
    elim (is_some (record_in first.now)) as (λ (b : Bool). (b && are_records (named (front ++ text ∷ back))) ≡ false) [ true ↦ later | false ↦ refl ]

-- a word that names none is among them
pub wrong_at : (texts : List (Bor (List ℕ))) (at : ℕ) (d : Bor (List ℕ)) → at < length texts → record_in (get_or texts at d).now ≡ None → are_records (named texts) ≡ false
wrong_at texts at d within none =
    let parts : texts ≡ take at texts ++ get_or texts at d ∷ drop (at + 1) texts =
    sym (take-append-drop at texts) ∙ ap (λ l. take at texts ++ l) (drop_more texts at d within) in
    subst (λ l. are_records (named l) ≡ false) (sym parts) (none_among (take at texts) (drop (at + 1) texts) (get_or texts at d) none)

-- ---- the end

-- if the answer is shown, it gives the status
pub reset_ended : {J : Type 0} (g : Journals J) (finds : EntryMap → Type 0) (scope : Scope) (before after : Option (List ℕ)) (last : Option Error) (ended : Result Status CommandFault)
    → EndsResetting (ShowsReset g finds scope before after) last ended → IfOk ended (IsReset g finds scope)
reset_ended g finds scope before after last ended (Ok (Changed count), shows, is) = subst (λ r. IfOk r (IsReset g finds scope)) (sym is) (Changed count, shows.resets, refl)
reset_ended g finds scope before after last ended (Ok (Absent name), shows, is) = subst (λ r. IfOk r (IsReset g finds scope)) (sym is) (Absent name, shows.resets, refl)
reset_ended g finds scope before after last ended (Err why, shows, is) = subst (λ r. IfOk r (IsReset g finds scope)) (sym is) tt
