-- What the statements mean over the tables.
use Rattle.std.proofs.Common.{ℕ, pos, false, List, [], ◌∷◌, codes, refl}
use Rattle.sqlite_value.specs.declared.value.Value.TheVariants.{Null, Int}
use Rattle.sqlite_value.specs.declared.keys.Collation.TheVariants.{Binary}
use Rattle.sqlite_value.specs.declared.keys.Key.{Key}
use Rattle.sqlite_sql.specs.Term.{Term, lit, col, op1, op2}
use Rattle.sqlite_sql.specs.declared.ops.UnaryOp.TheVariants.{ToNumeric}
use Rattle.sqlite_sql.specs.declared.ops.BinaryOp.TheVariants.{Compare, Is, Or}
use Rattle.sqlite_sql.specs.declared.ops.CompareOp.TheVariants.{Eq, Lt, Gt, Le, Ge}
use Rattle.sqlite_schema.specs.declared.command.Source.TheVariants.{Values}
use Rattle.sqlite_schema.specs.declared.command.Command.TheVariants.{Insert, Update}
use Rattle.sqlite_tied.specs.Compute.{everything}
use Rattle.sqlite.specs.Listing.{understood}
use Rattle.sqlite_schema.specs.declared.command.Command.{Command}
use Rattle.sql_tables.proofs.Queries.{IsSelect, query}
use Rattle.sql_tables.proofs.Editing.{IsWrite}
use Rattle.sql_tables.proofs.Marking.{marked_shown}
use Rattle.provider_store.specs.Format.{provider_schema, insert_text, update_text, named_text, numbered_text, page_text, marked_text, outside_text, unnumbered_text}

abbrev pub insert_terms : List Term
insert_terms = col 0 0 ∷ lit Null ∷ col 0 1 ∷ col 0 2 ∷ col 0 3 ∷ col 0 4 ∷ []

abbrev pub update_terms : List Term
update_terms = col 1 0 ∷ col 1 0 ∷ lit Null ∷ col 1 2 ∷ col 1 3 ∷ col 0 1 ∷ col 0 2 ∷ []

abbrev pub insert_command : Command
insert_command = Insert 1 (Values insert_terms 6)

pub insert_is : IsWrite provider_schema insert_text insert_command
unfolding understood everything
insert_is = record { means = λ f. refl; plain = λ f. (refl, refl) }

abbrev pub shown_terms : List Term
shown_terms = col 1 0 ∷ col 1 2 ∷ col 1 3 ∷ col 1 4 ∷ col 1 5 ∷ []

abbrev pub number_is : Term
number_is = op2 (Compare Eq Binary) (col 1 0) (col 0 0)

abbrev pub update_command : Command
update_command = Update 1 (record { lets = []; body = query 1 (number_is ∷ []) update_terms [] })

pub update_is : IsWrite provider_schema update_text update_command
unfolding understood everything
update_is = record { means = λ f. refl; plain = λ f. (refl, refl) }

-- the kind and the key are these
abbrev pub name_terms : List Term
name_terms = op2 (Compare Eq Binary) (col 1 2) (op1 ToNumeric (col 0 0)) ∷ op2 (Compare Eq Binary) (col 1 3) (col 0 1) ∷ []

abbrev pub names : List (List ℕ)
names = codes "number" ∷ codes "kind" ∷ codes "name_key" ∷ codes "version" ∷ codes "content" ∷ []

pub named_is : IsSelect provider_schema named_text 1 name_terms shown_terms [] names 2
unfolding understood everything
named_is = record { means = λ f. refl; reads = λ f. ((refl, refl), refl); fits = λ f. (refl, refl) }

pub numbered_is : IsSelect provider_schema numbered_text 1 (number_is ∷ []) shown_terms [] names 1
unfolding understood everything
numbered_is = record { means = λ f. refl; reads = λ f. ((refl, refl), refl); fits = λ f. (refl, refl) }

-- the number is from the first one of a page to the last one
abbrev pub page_terms : List Term
page_terms = op2 (Compare Ge Binary) (col 1 0) (col 0 0) ∷ op2 (Compare Le Binary) (col 1 0) (col 0 1) ∷ []

abbrev pub by_number : List (Term × Key)
by_number = (col 1 0, record { collation = Binary; descending = false }) ∷ []

pub page_is : IsSelect provider_schema page_text 1 page_terms shown_terms by_number names 2
unfolding understood everything
page_is = record { means = λ f. refl; reads = λ f. ((refl, refl), refl); fits = λ f. (refl, refl) }

pub marked_is : IsSelect provider_schema marked_text 0 [] marked_shown [] (codes "number" ∷ []) 0
unfolding understood everything
marked_is = record { means = λ f. refl; reads = λ f. ((refl, refl), refl); fits = λ f. (refl, refl) }

-- a number outside the first ones
abbrev pub outside_term : Term
outside_term = op2 Or (op2 (Compare Lt Binary) (col 1 0) (lit (Int (pos 1)))) (op2 (Compare Gt Binary) (col 1 0) (col 0 0))

abbrev pub outside_shown : List Term
outside_shown = col 1 0 ∷ []

pub outside_is : IsSelect provider_schema outside_text 1 (outside_term ∷ []) outside_shown [] (codes "number" ∷ []) 1
unfolding understood everything
outside_is = record { means = λ f. refl; reads = λ f. ((refl, refl), refl); fits = λ f. (refl, refl) }

-- no number
abbrev pub unnumbered_term : Term
unnumbered_term = op2 (Is Binary) (col 1 0) (lit Null)

pub unnumbered_is : IsSelect provider_schema unnumbered_text 1 (unnumbered_term ∷ []) outside_shown [] (codes "number" ∷ []) 0
unfolding understood everything
unnumbered_is = record { means = λ f. refl; reads = λ f. ((refl, refl), refl); fits = λ f. (refl, refl) }
