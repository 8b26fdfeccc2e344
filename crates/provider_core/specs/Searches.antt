-- What a search finds, and which part of it is shown (RFC 7644 sections 3.4.2.2 and 3.4.2.4).
use Rattle.std.specs.Prelude.{ℕ, ◌-◌, min, max, ℤ, pos, negsuc, Bool, true, false, ◌&&◌, List, map, length, take, drop, Option, Some, None, is_none}
use Rattle.std.specs.List.{filter}
use Rattle.std.specs.Option.{option_and_then}
use Rattle.scim_key.specs.declared.records.Kind.{Kind}
use Rattle.scim_resource.specs.Contents.{content_kind}
use Rattle.scim_resource.specs.Rows.{StoredRecord, ShownRecord, shown}
use Rattle.scim_filter.specs.Expressions.{Expression}
use Rattle.scim_filter.specs.Matching.{satisfies}
use Rattle.scim_filter.specs.Names.{single_key}
use Rattle.scim_message.specs.declared.lists.ListResponse.{ListResponse}
use Rattle.scim_message.specs.declared.messages.Request.{Request}
use Rattle.scim_message.specs.declared.messages.Request.TheVariants.{Create, Retrieve, Search, Replace}
use Rattle.provider_core.specs.Rows.{same_kind}
use Rattle.provider_core.specs.declared.searching.TheConstants.{MOST_LISTED}

-- whether a filter holds for a row; without a filter, all rows are wanted
abbrev pub is_wanted : Option Expression → StoredRecord → Bool
is_wanted None row = true
is_wanted (Some wanted) row = satisfies wanted row

abbrev pub is_hit : Kind → Option Expression → StoredRecord → Bool
is_hit kind wanted row = same_kind kind (content_kind row.content) && is_wanted wanted row

-- The resources of this type that a filter finds, in order of creation
abbrev pub found : Kind → Option Expression → List StoredRecord → List ShownRecord
found kind wanted rows = map shown (filter (is_hit kind wanted) rows)

-- the place of the first resource on the page, counted from 1; a start below 1 counts as 1
abbrev pub first_place : ℤ → ℕ
first_place (pos n) = max 1 n
first_place (negsuc n) = 1

-- the most resources on the page; without a count, as many as a list may show; a count below 0 counts as 0
abbrev pub page_size : Option ℤ → ℕ
page_size None = MOST_LISTED
page_size (Some (pos n)) = min n MOST_LISTED
page_size (Some (negsuc n)) = 0

-- at most `size` resources, from the place `first` on, counted from 1
abbrev pub page_from : ℕ → ℕ → List ShownRecord → List ShownRecord
page_from first size resources = take size (drop (first - 1) resources)

-- The list message for the resources that were found: how many there are, and one page of them
abbrev pub listing : ℤ → Option ℤ → List ShownRecord → ListResponse
listing start count resources = record {
  total = length resources;
  start = first_place start;
  resources = page_from (first_place start) (page_size count) resources;
}

-- whether a request may ask for all rows: a search does, unless its filter names one record
abbrev pub reads_all : Request → Bool
reads_all (Create content) = false
reads_all (Retrieve kind id if_match if_none_match) = false
reads_all (Search kind wanted start count) = is_none (option_and_then single_key wanted)
reads_all (Replace id content if_match if_none_match) = false
