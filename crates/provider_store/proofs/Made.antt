-- The tables that one transaction makes, and what its end leaves.
use Rattle.std.proofs.Common.{◌≡◌, ℕ, ℤ, pos, false, List, [], ◌∷◌, map, Ok, IsTrue, refl, sym, ap, ◌∙◌, subst}
use Rattle.sqlite_value.specs.declared.value.Value.TheVariants.{Int}
use Rattle.sqlite_value.specs.Order.{Row, column}
use Rattle.sqlite.specs.Effect.{Database}
use Rattle.sqlite.specs.State.{State, Executes, Shows}
use Rattle.provider_store.specs.Format.{Form, format_name, provider_schema, resource_table, format_number, format_text, mark_text, resource_text}
use Rattle.provider_store.specs.Rows.{Holds}
use Rattle.provider_store.specs.Opening.{IsStore}
use Rattle.provider_store.specs.Lawful.{AreAllLawful}
use Rattle.provider_store.proofs.Refusing.{none_lawful}
use Rattle.provider_store.proofs.Holding.{holds_nothing}
use Rattle.provider_store.proofs.Making.{format_made, mark_is, resource_made, resource_schema}
use Rattle.sql_tables.specs.Layouts.{format_table, no_schema, IsBlank, format_schema}
use Rattle.sql_tables.proofs.Making.{creates, marks}

-- both tables are there: the one with the number of the format, the other empty
pub record AreMade (db : Database) (mark : ℤ) : Type 0 where
  pub form : Form
  pub schema : db.schema ≡ provider_schema form
  pub none : db.trees 1 ≡ []
  pub format : map (λ (r : Row). column r 2) (db.trees 0) ≡ Int mark ∷ []

pub tables_made : (b m1 m2 m3 : State) (n1 n2 n3 : ℕ) (mark : ℤ) → b.now.schema ≡ no_schema → Executes format_text [] b m1 (Ok n1) → Executes mark_text (Int mark ∷ []) m1 m2 (Ok n2) → Executes resource_text [] m2 m3 (Ok n3)
    → AreMade m3.now mark
tables_made b m1 m2 m3 n1 n2 n3 mark blank one two three =
    let a = format_made.0 in
    let first = creates format_text no_schema (format_table format_name a) b m1 n1 format_made.1 refl blank one in
    let second = marks format_name mark_text a m1 m2 mark n2 (mark_is a) first.0 first.1 two in
    let r = resource_made a in
    let third = creates resource_text (format_schema format_name a) (record (resource_table r.0 r.1) { tree = 0 }) m2 m3 n3 r.2 refl second.0 three in
    record {
      form = record { format_checks = a; resource_checks = r.0; order = r.1 };
      schema = third.0 ∙ resource_schema a r.0 r.1;
      none = third.1;
      format = ap (map (λ (r : Row). column r 2)) (third.2.0 ∙ second.1);
    }

pub tables_kept : (old m3 end : State) → IsBlank old → AreMade m3.now (pos format_number) → Shows m3 end m3.now m3.now false → IsTrue end.is_open × IsBlank old × IsStore end []
tables_kept old m3 end blank made shows = (
  shows.is_open,
  blank,
  record {
    laid = record {
      form = made.form;
      schema = ap (λ (d : Database). d.schema) shows.now_is ∙ made.schema;
      committed = shows.committed_is ∙ sym shows.now_is;
      autocommit = shows.mode;
    };
    format = ap (λ (d : Database). map (λ (r : Row). column r 2) (d.trees 0)) shows.now_is ∙ made.format;
    holds = subst (λ (table : List Row). Holds table []) (sym (ap (λ (d : Database). d.trees 1) shows.now_is ∙ made.none)) holds_nothing;
    lawful = subst (λ (table : List Row). AreAllLawful table 0) (sym (ap (λ (d : Database). d.trees 1) shows.now_is ∙ made.none)) (record { each = none_lawful []; within = refl });
  },
)
