-- The refusals of a search, and what it asks for if it isn't refused.
use Rattle.std.proofs.Common.{◌≡◌, ℕ, List, inl, inr, refl, sym, subst, Option, Some, Result, Ok, Err}
use Rattle.std.specs.Prelude.{ℤ, IfOk, codes}
use Rattle.scim_key.specs.Outcome.{Gives}
use Rattle.scim_key.specs.declared.records.Kind.{Kind}
use Rattle.scim_filter.specs.Expressions.{Expression}
use Rattle.scim_filter.specs.declared.filters.FilterFault.{FilterFault}
use Rattle.scim_filter.specs.declared.filters.FilterFault.TheVariants.{Unsupported, Memory}
use Rattle.scim_http.specs.declared.requests.MeaningFault.{MeaningFault}
use Rattle.scim_http.specs.declared.requests.MeaningFault.TheVariants.{Refused, OutOfMemory}
use Rattle.scim_http.specs.Meaning.{TellsOf}
use Rattle.scim_http.specs.Queries.{parameter}
use Rattle.scim_http.specs.Searches.{IsRead, IsFilter, IsSearch, IsSearchOn, page_of}

-- a filter that isn't read is none that the text spells
pub not_given : (fault : FilterFault) (filter : Expression) → fault ≡ Unsupported → Gives Memory (Err fault) (Ok filter) → ⊥
not_given fault filter is (inl same) = cc
not_given fault filter is (inr same) = cc

pub filter_refused : (text : List ℕ) (fault : MeaningFault) → TellsOf (IsRead text) (Err fault) → TellsOf (IsFilter (Some text)) (Err fault)
filter_refused text (Refused refusal) told = told
filter_refused text OutOfMemory told = tt

pub search_refused : (kind : Kind) (query : List ℕ) (page : ℤ × Option ℤ) (fault : MeaningFault) → page_of query ≡ Ok page
    → TellsOf (IsFilter (parameter (codes "filter") query)) (Err fault) → TellsOf (IsSearch kind query) (Err fault)
search_refused kind query page (Refused refusal) is told = subst (λ p. IsSearchOn kind query p (Err refusal)) (sym is) (Err refusal, told, refl)
search_refused kind query page OutOfMemory is told = tt

pub if_ok : {T E : Type 0} {P Q : T → Type 0} (r : Result T E) → ((x : T) → P x → Q x) → IfOk r P → IfOk r Q
if_ok (Ok x) step holds = step x holds
if_ok (Err e) step holds = tt
