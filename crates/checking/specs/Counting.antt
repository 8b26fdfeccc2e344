-- How many records were checked.
use Rattle.std.specs.Prelude.{◌+◌, ◌-◌, ◌^◌, ◌==◌, ◌&&◌, ℕ, Bool, List, [], ◌∷◌, min, if◌then◌else◌}
use Rattle.checking.specs.Findings.{is_differing, is_unchecked}
use Rattle.checking.specs.declared.counts.Counts.{Counts}
use Rattle.checking.specs.declared.findings.Finding.{Finding}

abbrev pub greatest : ℕ
greatest = 2 ^ 64 - 1

-- one more, up to the greatest number
abbrev pub one_more : ℕ → ℕ
one_more count = min (count + 1) greatest

abbrev pub one_more_if : Bool → ℕ → ℕ
one_more_if more count = if more then one_more count else count

abbrev pub no_counts : Counts
no_counts = record { checked = 0; differing = 0; unchecked = 0 }

-- the counts with one record more
abbrev pub with_finding : Counts → Finding → Counts
with_finding counts finding = if is_unchecked finding
    then record counts { unchecked = one_more counts.unchecked }
    else record counts {
      checked = one_more counts.checked;
      differing = one_more_if (is_differing finding) counts.differing;
    }

-- the counts after these records
abbrev pub counts_after : Counts → List Finding → Counts
counts_after counts [] = counts
counts_after counts (finding ∷ findings) = counts_after (with_finding counts finding) findings

-- nothing differs, and nothing is unchecked
abbrev pub are_in_step : Counts → Bool
are_in_step counts = (counts.differing == 0) && (counts.unchecked == 0)
