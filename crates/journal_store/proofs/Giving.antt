-- The queries are whole, and aren't refused.
use Rattle.std.proofs.Common.{◌≡◌, true, [], refl}
use Rattle.sqlite_typing.specs.Types.{accepts_program}
use Rattle.sqlite_tied.specs.Compute.{everything}
use Rattle.scim_key.specs.declared.records.Kind.{Kind}
use Rattle.scim_key.specs.declared.records.Kind.TheVariants.{User, Group}
use Rattle.sql_tables.specs.Statements.{IsGiven}
use Rattle.sql_tables.specs.Layouts.{format_tree}
use Rattle.journal_store.specs.Format.{Form, all_text, entry_tree, journal_schema, marked_text, numbers_text}
use Rattle.sql_tables.proofs.Marking.{marked_shown}
use Rattle.sql_tables.proofs.Queries.{given_by, query}
use Rattle.journal_store.proofs.Texts.{all_is, all_order, marked_is, number_order, number_shown, numbers_is, shown_terms}

all_accepted : (kind : Kind) (f : Form) → accepts_program (journal_schema f) [] (query (entry_tree kind) [] (shown_terms kind) all_order) [] ≡ true
unfolding everything
all_accepted User f = refl
all_accepted Group f = refl

marked_accepted : (f : Form) → accepts_program (journal_schema f) [] (query format_tree [] marked_shown []) [] ≡ true
unfolding everything
marked_accepted f = refl

numbers_accepted : (kind : Kind) (f : Form) → accepts_program (journal_schema f) [] (query (entry_tree kind) [] number_shown number_order) [] ≡ true
unfolding everything
numbers_accepted User f = refl
numbers_accepted Group f = refl

pub all_given : (kind : Kind) → IsGiven journal_schema (all_text kind) []
all_given kind = given_by [] (all_is kind) refl (all_accepted kind)

pub marked_given : IsGiven journal_schema marked_text []
marked_given = given_by [] marked_is refl marked_accepted

pub numbers_given : (kind : Kind) → IsGiven journal_schema (numbers_text kind) []
numbers_given kind = given_by [] (numbers_is kind) refl (numbers_accepted kind)
