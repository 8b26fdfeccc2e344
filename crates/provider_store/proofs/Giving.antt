-- The queries are whole, and aren't refused.
use Rattle.std.proofs.Common.{◌≡◌, ℕ, ℤ, true, List, [], ◌∷◌, refl}
use Rattle.sqlite_value.specs.declared.value.Value.TheVariants.{Int, Text}
use Rattle.sqlite_typing.specs.Types.{accepts_program}
use Rattle.sqlite_tied.specs.Compute.{everything}
use Rattle.provider_store.specs.Format.{Form, provider_schema, marked_text, named_text, numbered_text, outside_text, page_text, unnumbered_text}
use Rattle.sql_tables.proofs.Marking.{marked_shown}
use Rattle.sql_tables.proofs.Queries.{given_by, query}
use Rattle.provider_store.proofs.Texts.{marked_is, name_terms, named_is, number_is, numbered_is, by_number, outside_is, outside_shown, outside_term, page_is, page_terms, shown_terms, unnumbered_is, unnumbered_term}
use Rattle.sql_tables.specs.Statements.{IsGiven}

numbered_accepted : (n : ℤ) (f : Form) → accepts_program (provider_schema f) [] (query 1 (number_is ∷ []) shown_terms []) (Int n ∷ []) ≡ true
unfolding everything
numbered_accepted n f = refl

page_accepted : (m n : ℤ) (f : Form) → accepts_program (provider_schema f) [] (query 1 page_terms shown_terms by_number) (Int m ∷ Int n ∷ []) ≡ true
unfolding everything
page_accepted m n f = refl

named_accepted : (code : ℤ) (key : List ℕ) (f : Form) → accepts_program (provider_schema f) [] (query 1 name_terms shown_terms []) (Int code ∷ Text key ∷ []) ≡ true
unfolding everything
named_accepted code key f = refl

marked_accepted : (f : Form) → accepts_program (provider_schema f) [] (query 0 [] marked_shown []) [] ≡ true
unfolding everything
marked_accepted f = refl

outside_accepted : (n : ℤ) (f : Form) → accepts_program (provider_schema f) [] (query 1 (outside_term ∷ []) outside_shown []) (Int n ∷ []) ≡ true
unfolding everything
outside_accepted n f = refl

unnumbered_accepted : (f : Form) → accepts_program (provider_schema f) [] (query 1 (unnumbered_term ∷ []) outside_shown []) [] ≡ true
unfolding everything
unnumbered_accepted f = refl

pub numbered_given : (n : ℤ) → IsGiven provider_schema numbered_text (Int n ∷ [])
numbered_given n = given_by (Int n ∷ []) numbered_is refl (numbered_accepted n)

pub page_given : (m n : ℤ) → IsGiven provider_schema page_text (Int m ∷ Int n ∷ [])
page_given m n = given_by (Int m ∷ Int n ∷ []) page_is refl (page_accepted m n)

pub named_given : (code : ℤ) (key : List ℕ) → IsGiven provider_schema named_text (Int code ∷ Text key ∷ [])
named_given code key = given_by (Int code ∷ Text key ∷ []) named_is refl (named_accepted code key)

pub marked_given : IsGiven provider_schema marked_text []
marked_given = given_by [] marked_is refl marked_accepted

pub outside_given : (n : ℤ) → IsGiven provider_schema outside_text (Int n ∷ [])
outside_given n = given_by (Int n ∷ []) outside_is refl (outside_accepted n)

pub unnumbered_given : IsGiven provider_schema unnumbered_text []
unnumbered_given = given_by [] unnumbered_is refl unnumbered_accepted
