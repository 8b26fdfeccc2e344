-- One entry more is shown.
use Rattle.std.proofs.Common.{◌≡◌, ℕ, ◌+◌, ◌<◌, List, [], ◌∷◌, ◌++◌, Option, length, take, get_or, sym, ap, subst, ◌∙◌, append-nil}
use Rattle.std.proofs.lemmas.Grind.{flat_map-append}
use Rattle.std.proofs.lemmas.List.{take_more}
use Rattle.std.specs.Io.KnownBytes.{Appends}
use Rattle.journal_core.specs.declared.entries.Entry.{Entry}
use Rattle.storage.proofs.StoreShowingLemmas.{appends_more}
use Rattle.storage.specs.JournalLines.{entry_line, lines_of}

pub one_more : (before middle now : Option (List ℕ)) (list : List Entry) (n : ℕ) (entry : Entry) (line : List ℕ)
    → n < length list → entry ≡ get_or list n entry → line ≡ entry_line entry
    → Appends before middle (lines_of (take n list)) → Appends middle now line → Appends before now (lines_of (take (n + 1) list))
one_more before middle now list n entry line within is said so_far written =
    let more : take (n + 1) list ≡ take n list ++ entry ∷ [] = take_more list n entry within ∙ ap (λ e. take n list ++ e ∷ []) (sym is) in
    let lines : lines_of (take (n + 1) list) ≡ lines_of (take n list) ++ line =
    ap lines_of more ∙ flat_map-append entry_line (take n list) (entry ∷ []) ∙ ap (λ l. lines_of (take n list) ++ l) (append-nil (entry_line entry) ∙ sym said) in
    subst (Appends before now) (sym lines) (appends_more before middle now (lines_of (take n list)) line so_far written)
