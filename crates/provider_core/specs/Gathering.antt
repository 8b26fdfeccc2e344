-- The state of a search while it looks through the rows: one page and a count.
use Rattle.std.specs.Prelude.{◌≡◌, ℕ, ◌≤◌, ◌-◌, ◌^◌, min, List, [], ◌∷◌, ◌++◌, length, Option}
use Rattle.scim_key.specs.declared.records.Kind.{Kind}
use Rattle.scim_resource.specs.Rows.{StoredRecord, ShownRecord}
use Rattle.scim_filter.specs.Expressions.{Expression}
use Rattle.scim_message.specs.declared.messages.Answer.{Answer}
use Rattle.scim_message.specs.declared.messages.Answer.TheVariants as answers
use Rattle.provider_core.specs.Searches.{found, page_from}

pub record Gathered : Type 0 where
  pub first : ℕ
  pub size : ℕ
  pub total : ℕ
  pub page : List ShownRecord

-- no count goes above this
abbrev pub greatest_total : ℕ
greatest_total = 2 ^ 64 - 1

-- a place, counted from 1
abbrev pub IsPlace : ℕ → Type 0
IsPlace first = (1 ≤ first) × (first ≤ greatest_total)

-- the state of a search that found these resources, for the page from a place on
abbrev pub gathered : ℕ → ℕ → List ShownRecord → Gathered
gathered first size resources = record {
  first = first;
  size = size;
  total = min (length resources) greatest_total;
  page = page_from first size resources;
}

-- one more resource was found
abbrev pub Adds : ShownRecord → Gathered → Gathered → Type 0
Adds resource old new = (first size : ℕ) (resources : List ShownRecord)
    → IsPlace first → old ≡ gathered first size resources → new ≡ gathered first size (resources ++ resource ∷ [])

-- if these rows come after others, the state for the others became the state for all of them
abbrev pub GoesThrough : Kind → Option Expression → List StoredRecord → Gathered → Gathered → Type 0
GoesThrough kind wanted rows old new = (first size : ℕ) (before : List StoredRecord)
    → IsPlace first → old ≡ gathered first size (found kind wanted before)
    → new ≡ gathered first size (found kind wanted (before ++ rows))

-- all rows were looked through, and the rows that were found can be counted
pub record Gathers (kind : Kind) (wanted : Option Expression) (rows : List StoredRecord)
    (old new : Gathered) : Type 0 where
  pub through : GoesThrough kind wanted rows old new
  pub few : length (found kind wanted rows) ≤ greatest_total

-- the list message of a state
abbrev pub listed : Gathered → Answer
listed g = answers.List (record { total = g.total; start = g.first; resources = g.page })
