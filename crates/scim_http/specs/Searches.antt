-- What GET on a collection asks for (RFC 7644 section 3.4.2).
use Rattle.std.specs.Prelude.{◌≡◌, ℕ, ℤ, pos, List, Option, Some, None, Result, Ok, Err, codes}
use Rattle.scim_key.specs.Outcome.{◌>>=◌}
use Rattle.scim_key.specs.declared.records.Kind.{Kind}
use Rattle.scim_filter.specs.Expressions.{Expression}
use Rattle.scim_filter.specs.Grammar.{Spells}
use Rattle.scim_message.specs.declared.messages.Request.{Request}
use Rattle.scim_message.specs.declared.messages.Request.TheVariants.{Search}
use Rattle.scim_message.specs.declared.refusals.Refusal.{Refusal}
use Rattle.scim_message.specs.declared.refusals.Refusal.TheVariants.{ValueNotAllowed, FilterNotSupported}
use Rattle.scim_http.specs.Numbers.{number_in}
use Rattle.scim_http.specs.Queries.{parameter}

-- ---- the page

-- a text that isn't a number is refused as a value that isn't allowed
abbrev pub number_read : Option ℤ → Result ℤ Refusal
number_read None = Err ValueNotAllowed
number_read (Some number) = Ok number

-- without a parameter the page starts with the first resource
abbrev pub start_in : Option (List ℕ) → Result ℤ Refusal
start_in None = Ok (pos 1)
start_in (Some text) = number_read (number_in text)

-- without a parameter, the query doesn't limit the number of resources
abbrev pub count_in : Option (List ℕ) → Result (Option ℤ) Refusal
count_in None = Ok None
count_in (Some text) = do
  count ← number_read (number_in text)
  Ok (Some count)

abbrev pub start_of : List ℕ → Result ℤ Refusal
start_of query = start_in (parameter (codes "startIndex") query)

abbrev pub count_of : List ℕ → Result (Option ℤ) Refusal
count_of query = count_in (parameter (codes "count") query)

-- where the page starts, and the most resources on it
abbrev pub page_of : List ℕ → Result (ℤ × Option ℤ) Refusal
page_of query = do
  start ← start_of query
  count ← count_of query
  Ok (start, count)

-- ---- the filter

-- a text is the filter that it spells, and is refused if it spells none
abbrev pub IsRead : List ℕ → Result Expression Refusal → Type 0
IsRead text (Ok filter) = Spells text filter
IsRead text (Err refusal) = (refusal ≡ FilterNotSupported) × ((filter : Expression) → Spells text filter → ⊥)

-- without a parameter there is no filter
abbrev pub IsFilter : Option (List ℕ) → Result (Option Expression) Refusal → Type 0
IsFilter None answer = Ok None ≡ answer
IsFilter (Some text) (Ok None) = ⊥
IsFilter (Some text) (Ok (Some filter)) = IsRead text (Ok filter)
IsFilter (Some text) (Err refusal) = IsRead text (Err refusal)

-- ---- the search

-- the search for the resources of this filter on this page, or the refusal of the filter
abbrev pub search_with : Kind → ℤ × Option ℤ → Result (Option Expression) Refusal → Result Request Refusal
search_with kind page (Err refusal) = Err refusal
search_with kind page (Ok filter) = Ok (Search kind filter page.0 page.1)

-- the page is checked before the filter
abbrev pub IsSearchOn : Kind → List ℕ → Result (ℤ × Option ℤ) Refusal → Result Request Refusal → Type 0
IsSearchOn kind query (Err refusal) answer = Err refusal ≡ answer
IsSearchOn kind query (Ok page) answer =
    (filter : Result (Option Expression) Refusal) × IsFilter (parameter (codes "filter") query) filter
    × (search_with kind page filter ≡ answer)

-- What a query asks of the resources of a type, or the first refusal
abbrev pub IsSearch : Kind → List ℕ → Result Request Refusal → Type 0
IsSearch kind query answer = IsSearchOn kind query (page_of query) answer
