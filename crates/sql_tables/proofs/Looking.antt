-- Calls that only look, and the tables that they leave.
use Rattle.std.proofs.Common.{◌≡◌, false, IsTrue, refl, sym, arith, inl}
use Rattle.sqlite_trees.specs.Tree.{Trees}
use Rattle.sqlite_schema.specs.declared.schema.Schema.{Schema}
use Rattle.sqlite.specs.State.{State, HasCleanDisk, Survives}
use Rattle.sqlite.proofs.StateLemmas.{survives_then}
use Rattle.sql_tables.specs.Layouts.{IsLaid, IsOne}
use Rattle.sql_tables.specs.Statements.{LeavesStore, Looks}
use Rattle.sql_tables.proofs.Keeping.{keeps_then, kept_now, laid_still}
use Rattle.sql_tables.proofs.Leaving.{keeps_leaves}

pub survives_same : (s : State) (P : Trees → Type 0) → Survives s s P
survives_same s P = record { clean = omega arith; shield = λ h. h; counts = omega arith; limit = refl; closes = λ clean still. inl still; crash = λ clean db may. inl may }

pub looks_same : (s : State) → Looks s s
looks_same s = record { keeps = λ _. record { was_open = λ still. still; same = λ still settled autocommit. (refl, settled, autocommit) }; quiet = survives_same s (λ _. ⊥) }

pub looks_then : (a b c : State) → Looks a b → Looks b c → Looks a c
looks_then a b c first second = record {
  keeps = λ clean. keeps_then a b c (first.keeps (omega (arith, clean, second.quiet.clean))) (second.keeps clean);
  quiet = survives_then a b c _ _ (λ _. ⊥) (λ _ db none. none) (λ _ db none. none) first.quiet second.quiet;
}

module _ {Form : Type 0} {layout : Form → Schema} where
  module _ (old new : State) (looks : Looks old new) (laid : HasCleanDisk old → IsTrue old.is_open → IsLaid layout old) where
    pub was_clean : HasCleanDisk new → HasCleanDisk old
    was_clean clean = omega (arith, clean, looks.quiet.clean)

    pub was_laid : HasCleanDisk new → IsTrue new.is_open → IsLaid layout old
    was_laid clean still = laid (was_clean clean) ((looks.keeps clean).was_open still)

    pub laid_on : HasCleanDisk new → IsTrue new.is_open → IsLaid layout new
    laid_on clean still = laid_still old new (looks.keeps clean) still (was_laid clean still)

    pub same_now : HasCleanDisk new → IsTrue new.is_open → new.now ≡ old.now
    same_now clean still = (kept_now old new (looks.keeps clean) still (was_laid clean still)).0

    pub looks_leaves : HasCleanDisk new → LeavesStore old new
    looks_leaves clean = keeps_leaves old new (looks.keeps clean) (laid (was_clean clean))

  pub laid_from : (s : State) → s.in_transaction ≡ false → (IsTrue s.is_open → s.now ≡ s.committed) → IsOne layout s.now.schema → IsTrue s.is_open → IsLaid layout s
  laid_from s autocommit settled one still = record { form = one.form; schema = one.is; committed = sym (settled still); autocommit = autocommit }

  pub one_of_laid : (s : State) → IsLaid layout s → IsOne layout s.now.schema
  one_of_laid s laid = record { form = laid.form; is = laid.schema }
