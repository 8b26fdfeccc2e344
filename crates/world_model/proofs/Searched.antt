-- What a Search for a record's name finds: only its entry, or nothing.
use Rattle.std.proofs.Common.{◌≡◌, Bool, true, List, [], ◌∷◌, map, length, Some, None, Ok, refl, ap, sym, ◌∙◌, subst, arith}
use Rattle.std.specs.List.{filter, slice_get}
use Rattle.std.specs.Prelude.{pos}
use Rattle.std.proofs.lemmas.Bool.{and_parts}
use Rattle.scim_key.specs.declared.records.Kind.{Kind}
use Rattle.scim_key.specs.declared.records.Kind.TheVariants as kinds
use Rattle.scim_key.specs.declared.records.RecordName.{RecordName}
use Rattle.scim_resource.specs.Contents.{content_name}
use Rattle.scim_resource.specs.Rows.{ShownRecord, shown}
use Rattle.scim_filter.proofs.Keys.{keys_decide}
use Rattle.scim_filter.specs.Matching.{satisfies}
use Rattle.provider_core.specs.Rows.{same_kind}
use Rattle.scim_filter.specs.Expressions.{Expression}
use Rattle.scim_filter.specs.Names.{name_filter, single_key}
use Rattle.scim_filter.specs.declared.terms.TextAttribute.TheVariants.{UserName, DisplayName}
use Rattle.scim_message.specs.declared.messages.Answer.{Answer}
use Rattle.scim_message.specs.declared.messages.Answer.TheVariants as answers
use Rattle.scim_message.specs.declared.messages.Request.{Request}
use Rattle.scim_message.specs.declared.messages.Request.TheVariants.{Search}
use Rattle.provider_core.specs.Searches.{listing}
use Rattle.provider_core.specs.Stories.{Entry, Numbered, numbered_from, row_of, is_entry_hit, found_entries}
use Rattle.provider_core.specs.Tables.{IsWholeTable}
use Rattle.provider_core.proofs.TableLaws.{held_at, at_numbered}
use Rattle.source_csv.specs.Records.{IsRow, row_name}
use Rattle.source_csv.specs.declared.rows.Row.{Row}
use Rattle.source_csv.specs.declared.rows.Row.TheVariants.{User, Group}
use Rattle.connector_core.specs.Asking.{search_for}
use Rattle.connector_core.specs.Learning.{Finding, Shows, Shows_none, finding, subject}
use Rattle.world_model.proofs.Lists.{two_kept, at_passes}

-- ---- the search for a row's name

abbrev pub kind_of : Row → Kind
kind_of (User row) = kinds.User
kind_of (Group row) = kinds.Group

abbrev pub filter_of : Row → Expression
filter_of (User row) = name_filter UserName row.login
filter_of (Group row) = name_filter DisplayName row.name

pub search_is : (row : Row) → search_for row ≡ Search (kind_of row) (Some (filter_of row)) (pos 1) None
search_is (User row) = refl
search_is (Group row) = refl

pub search_subject : (row : Row) → IsRow row → subject (search_for row) ≡ Some (row_name row)
search_subject (User row) law = rw law.login refl
search_subject (Group row) law = rw law.name refl

abbrev pub hits : Row → Numbered → Bool
hits row n = is_entry_hit (kind_of row) (Some (filter_of row)) n

pub names_row : (row : Row) → IsRow row → single_key (filter_of row) ≡ Some (row_name row)
names_row (User row) law = rw law.login refl
names_row (Group row) law = rw law.name refl

hit_named : (row : Row) (n : Numbered) → IsRow row → hits row n ≡ true → content_name n.entry.held ≡ row_name row
hit_named row n law hit =
    (keys_decide (filter_of row) (row_name row) (row_of n.number n.entry) (names_row row law)).0
    (and_parts (same_kind (kind_of row) n.entry.name.kind) (satisfies (filter_of row) (row_of n.number n.entry)) hit).1

-- what the answer to the search says
pub record Says (request : Request) (said : Finding) (name : RecordName) (answer : Answer) : Type 0 where
  pub says : finding request answer ≡ Ok said
  pub its : (s : ShownRecord) → said ≡ Shows s → content_name s.content ≡ name

pub shown_name : (x s : ShownRecord) (name : RecordName) → Shows x ≡ Shows s → content_name x.content ≡ name → content_name s.content ≡ name
shown_name x s name shows is = let same : x ≡ s = cc in subst (λ (r : ShownRecord). content_name r.content ≡ name) same is

module _ (es : List Entry) (row : Row) (law : IsRow row) (whole : IsWholeTable es) where
  abbrev pub all_hits : List Numbered
  all_hits = filter (hits row) (numbered_from 1 es)

  abbrev pub answer_to : List ShownRecord → Answer
  answer_to found = answers.List (listing (pos 1) None found)

  -- no two entries are found
  pub only_one : (x y : Numbered) (more : List Numbered) → all_hits ≡ x ∷ y ∷ more → ⊥
  only_one x y more is =
      let (i, j, lt, at_x, at_y, hit_x, hit_y) = two_kept (hits row) (numbered_from 1 es) x y more is in
      let x_there = (at_numbered 1 es i x at_x).1 in
      let y_there = (at_numbered 1 es j y at_y).1 in
      let x_named = whole.named i (length x.entry.earlier) x.entry x.entry.held x_there (held_at x.entry) in
      let y_named = whole.named j (length y.entry.earlier) y.entry y.entry.held y_there (held_at y.entry) in
      let same = whole.distinct i j x.entry y.entry x_there y_there (sym x_named ∙ hit_named row x law hit_x ∙ sym (hit_named row y law hit_y) ∙ y_named) in
      omega (arith, lt, same)

  pub one_hit : (n : Numbered) (more : List Numbered) → all_hits ≡ n ∷ more → content_name n.entry.held ≡ row_name row
  one_hit n more is = hit_named row n law (at_passes (hits row) (numbered_from 1 es) 0 n (ap (λ l. slice_get l 0) is))

  abbrev IsSaid : List ShownRecord → Type 0
  IsSaid found = (said : Finding) × Says (Search (kind_of row) (Some (filter_of row)) (pos 1) None) said (row_name row) (answer_to found)

  found_said : (ns : List Numbered) → all_hits ≡ ns → IsSaid (map (λ n. shown (row_of n.number n.entry)) ns)
  found_said [] is = (Shows_none, record { says = refl; its = λ s shows. absurd (cc) })
  found_said (n ∷ []) is = (
    Shows (shown (row_of n.number n.entry)),
    record {
      says = refl;
      its = λ s shows. shown_name (shown (row_of n.number n.entry)) s (row_name row) shows (one_hit n [] is);
    },
  )
  found_said (x ∷ y ∷ more) is = absurd (only_one x y more is)

  pub search_said : IsSaid (found_entries (kind_of row) (Some (filter_of row)) es)
  search_said = found_said all_hits refl
