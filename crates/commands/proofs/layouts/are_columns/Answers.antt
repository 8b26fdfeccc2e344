use Rattle.std.proofs.Common.{◌≡◌, ◌∙◌, ◌&&◌, Bool, List, [], ◌∷◌, ℕ, ap, refl, sym, rules, tests}
use denote.Ref.{Bor}
use Rattle.std.proofs.lemmas.Iterator.{YieldsList-from_slice}
use Rattle.std.proofs.lemmas.Iterator.Search.{all_from_yields_List}
use Rattle.std.specs.List.{list_all}
use Rattle.source_csv.specs.Columns.{named}
use Rattle.commands.specs.Layouts.{is_column, is_once}
use Rattle.commands.proofs.layouts.are_columns.Goals as goal

all-named : (test : List ℕ → Bool) (texts : List (Bor (List ℕ))) → list_all test (named texts) ≡ list_all (λ text. test text.now) texts
all-named test [] = refl
all-named test (text ∷ texts) = ap (λ (b : Bool). test text.now && b) (all-named test texts)

pub returns : goal.returns
returns c =
    let test = λ (text : List ℕ). is_column text && is_once (named c.args.texts.now) text in
    all_from_yields_List (λ text. test text.now) _ _ c.all.result c.all.ensures.ran (YieldsList-from_slice _ c.iter.ensures.rest) (λ x b q k. search (rules, tests))
    ∙ sym (all-named test c.args.texts.now)
