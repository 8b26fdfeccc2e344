-- What a reset leaves of a journal, and what it prints.
use Rattle.std.specs.Prelude.{◌≡◌, ℕ, List, ◌++◌, Option, codes}
use Rattle.std.specs.Fmt.{decimal}
use Rattle.std.specs.Io.KnownBytes.{Appends}
use Rattle.journal_core.specs.Entries.{EntryMap}
use Rattle.journal_core.specs.declared.journals.Journal.{Ghosts}
use Rattle.journal_store.specs.Scopes.{after_reset, reset_answer}
use Rattle.journal_store.specs.declared.scopes.ResetResult.{ResetResult}
use Rattle.journal_store.specs.declared.scopes.ResetResult.TheVariants.{Absent, Changed}
use Rattle.journal_store.specs.declared.scopes.Scope.{Scope}
use Rattle.storage.specs.JournalOpened.{IsOpenedAt}

-- the line of a reset that changed this many entries
abbrev pub reset_line : ℕ → List ℕ
reset_line count = codes "reset " ++ (decimal count ++ codes " records\n")

-- the journal that was opened is reset, and this is the answer
pub record ResetsFrom {J : Type 0} (g : Ghosts J) (finds : EntryMap → Type 0) (scope : Scope) (answer : ResetResult)
    : Type 0 where
  pub first : J
  pub last : J
  pub opened : IsOpenedAt g finds first
  pub faithful : g.is_honest last → g.is_faithful last
  pub entries : g.is_faithful last → g.entries last ≡ after_reset scope (g.entries first)
  pub answer_is : g.is_faithful last → answer ≡ reset_answer scope (g.entries first)

-- the line of a reset says how many entries it changed; if a record isn't in the journal, there is no line
abbrev pub ShowsAnswer : (before after : Option (List ℕ)) → ResetResult → Type 0
ShowsAnswer before after (Changed count) = Appends before after (reset_line count)
ShowsAnswer before after (Absent name) = after ≡ before

-- the journal is reset, and the answer is shown
pub record ShowsReset {J : Type 0} (g : Ghosts J) (finds : EntryMap → Type 0) (scope : Scope)
    (before after : Option (List ℕ)) (answer : ResetResult) : Type 0 where
  pub resets : ResetsFrom g finds scope answer
  pub shows : ShowsAnswer before after answer
