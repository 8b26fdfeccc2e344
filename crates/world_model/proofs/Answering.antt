-- What the provider answers to each request that was ever sent says something that the connector can learn from.
use Rattle.std.proofs.Common.{◌≡◌, ◌≢◌, ℕ, zero, suc, ◌+◌, ◌<◌, ◌≤◌, Bool, true, false, cond, List, [], ◌∷◌, length, Option, Some, None, Ok, refl, ap, sym, ◌∙◌, subst, arith, nat_le}
use Rattle.std.specs.List.{find, slice_get}
use Rattle.std.specs.Str.{bytes_eq}
use Rattle.std.proofs.lemmas.Bool.{lt-leb}
use Rattle.std.proofs.lemmas.Option.{slice_get_within}
use Rattle.std.proofs.lemmas.Slice.Eq.{bytes_eq-Decides}
use Rattle.scim_key.proofs.IdLemmas.{ids_differ}
use Rattle.scim_key.specs.Identifiers.{id_text}
use Rattle.scim_key.specs.Revisions.{most_revisions}
use Rattle.scim_key.specs.declared.records.Kind.{Kind}
use Rattle.scim_key.specs.declared.records.Kind.TheVariants as kinds
use Rattle.scim_key.specs.declared.records.RecordName.{RecordName}
use Rattle.scim_version.specs.declared.conditions.Condition.{Condition}
use Rattle.scim_resource.specs.Contents.{content_kind, content_name}
use Rattle.scim_resource.specs.Rows.{shown, last_version}
use Rattle.scim_resource.specs.declared.contents.Content.{Content}
use Rattle.scim_message.specs.declared.messages.Answer.{Answer}
use Rattle.scim_message.specs.declared.messages.Answer.TheVariants.{Error}
use Rattle.scim_message.specs.declared.messages.Request.{Request}
use Rattle.scim_message.specs.declared.messages.Request.TheVariants.{Create, Retrieve, Search, Replace}
use Rattle.scim_message.specs.declared.refusals.Refusal.TheVariants.{LimitReached}
use Rattle.scim_message.specs.Refusals.{error_of}
use Rattle.provider_core.specs.Rows.{same_kind}
use Rattle.provider_core.specs.Outcomes.{most_resources}
use Rattle.provider_core.specs.Stories.{Entry, story, row_of, is_entry_of, first_entry, renewed, Numbered, numbered_from, has_entry_id, if_entry_of_kind, entry_with_id, creating_entry, writing_entry, replacing_entry, step}
use Rattle.provider_core.proofs.RowLaws.{find-passes}
use Rattle.provider_core.proofs.TableLaws.{found_at, same_if_eq}
use Rattle.source_csv.specs.Records.{row_name}
use Rattle.source_csv.specs.declared.rows.Row.{Row}
use Rattle.connector_core.specs.History.{History, rows_of}
use Rattle.connector_core.specs.Learning.{Finding, Shows, Taken, Stale, finding, subject}
use Rattle.world_model.specs.Safe.{IsAt, Has}
use Rattle.world_model.proofs.Ranking.{AllLawful, row_lawful, record_ours, versions_few_of}
use Rattle.world_model.proofs.Room.{Lacks}
use Rattle.world_model.proofs.Searched.{Says, search_is, search_subject, search_said, shown_name}
use Rattle.world_model.specs.Invariant.{Names, AllOurs, Kept, Overwrites, AskedTruly}

-- an answer that says something of a record with accepted rows
pub record Answers (history : History) (request : Request) (answer : Answer) : Type 0 where
  pub name : RecordName
  pub about : subject request ≡ Some name
  pub row : Row
  pub accepted : Has (rows_of history name) row
  pub said : Finding
  pub says : Says request said name answer

-- ---- a Create

create_said : (taken : Option Entry) (full : Bool) (es : List Entry) (content : Content) → (taken ≡ None → full ≡ false)
    → (said : Finding) × Says (Create content) said (content_name content) (creating_entry taken full es content).answer
create_said (Some e) full es content room = (Taken, record { says = refl; its = λ s shows. absurd (cc) })
create_said None true es content room = let free : true ≡ false = room refl in absurd (cc)
create_said None false es content room =
    let x = shown (row_of (suc (length es)) (first_entry content)) in
    (Shows x, record { says = refl; its = λ s shows. shown_name x s (content_name content) shows refl })

-- ---- a Replace

cond_none : {X : Type 0} (b : Bool) (x : X) (rest : Option X) → cond b (Some x) rest ≡ None → (b ≡ false) × (rest ≡ None)
cond_none true x rest none = absurd (cc)
cond_none false x rest none = (refl, none)

-- no entry has a name that isn't found
pub none_found : (name : RecordName) (es : List Entry) → find (is_entry_of name) es ≡ None → Lacks es name
none_found name [] none i e at named = absurd (cc)
none_found name (d ∷ es) none zero e at named =
    let same : d ≡ e = cc in
    let tested : is_entry_of name d ≡ true = same_if_eq name d.name (sym named ∙ ap (λ (x : Entry). x.name) (sym same)) in
    let clash : true ≡ false = sym tested ∙ (cond_none (is_entry_of name d) d (find (is_entry_of name) es) none).0 in
    absurd (cc)
none_found name (d ∷ es) none (suc i) e at named = none_found name es (cond_none (is_entry_of name d) d (find (is_entry_of name) es) none).1 i e at named

-- the entry of an id is found
with_id : (id : List ℕ) (m : ℕ) (es : List Entry) (i : ℕ) (e : Entry) → IsAt es i e → id ≡ id_text (m + i) → find (has_entry_id id) (numbered_from m es) ≡ None → ⊥
with_id id m [] i e at is none = absurd (cc)
with_id id m (f ∷ es) zero e at is none =
    let parts = cond_none (bytes_eq id (id_text m)) (record { number = m; entry = f }) _ none in
    let number : m + 0 ≡ m = omega arith in
    let tested : bytes_eq id (id_text m) ≡ true = (bytes_eq-Decides id (id_text m)).1 (is ∙ ap id_text number) in
    absurd (cc (sym tested ∙ parts.0))
with_id id m (f ∷ es) (suc i) e at is none =
    let parts = cond_none (bytes_eq id (id_text m)) (record { number = m; entry = f }) _ none in
    let number : m + suc i ≡ suc m + i = omega arith in
    with_id id (suc m) es i e at (is ∙ ap id_text number) parts.1

pub kind_itself : (k : Kind) → same_kind k k ≡ true
kind_itself kinds.User = refl
kind_itself kinds.Group = refl

-- the entry at a place, found by its id
pub record Found (es : List Entry) (id : List ℕ) (e : Entry) : Type 0 where
  pub n : Numbered
  pub found : find (has_entry_id id) (numbered_from 1 es) ≡ Some n
  pub same : n.entry ≡ e

pub found_by_id : (es : List Entry) (i : ℕ) (e : Entry) (id : List ℕ) → length es ≤ most_resources → IsAt es i e → id ≡ id_text (suc i) → Found es id e
found_by_id es i e id few at is = go (find (has_entry_id id) (numbered_from 1 es)) refl
  where
    first : suc i ≡ 1 + i
    first = omega arith

    go : (o : Option Numbered) → find (has_entry_id id) (numbered_from 1 es) ≡ o → Found es id e
    go None none = absurd (with_id id 1 es i e at (is ∙ ap id_text first) none)
    go (Some n) found =
        let (j, number, there) = found_at (has_entry_id id) 1 es n found in
        let has_id = (bytes_eq-Decides id (id_text n.number)).0 (find-passes (has_entry_id id) (numbered_from 1 es) n found) in
        let i_within = slice_get_within es i e at in
        let j_within = slice_get_within es j n.entry there in
        let numbers : suc i ≡ n.number = ids_differ (suc i) n.number (omega (arith, few, i_within)) (omega (arith, few, j_within, number)) (sym is ∙ has_id) in
        let place : j ≡ i = omega (arith, numbers, number) in
        let entries : Some n.entry ≡ Some e = sym there ∙ ap (slice_get es) place ∙ at in
        record { n = n; found = found; same = cc }

pub of_its_kind : (kind : Kind) (n : Numbered) → n.entry.name.kind ≡ kind → if_entry_of_kind kind (Some n) ≡ Some n
of_its_kind kind n is = ap (λ k. cond (same_kind kind k) (Some n) None) is ∙ ap (λ b. cond b (Some n) None) (kind_itself kind)

write_said : (same at_last holds : Bool) (n : Numbered) (es : List Entry) (id : List ℕ) (content : Content) (if_match if_none_match : Condition) → same ≡ true → at_last ≡ false
    → (said : Finding) × Says (Replace id content if_match if_none_match) said (content_name content) (writing_entry same at_last holds n es content).answer
write_said false at_last holds n es id content if_match if_none_match is_same short = absurd (cc)
write_said true true holds n es id content if_match if_none_match is_same short = absurd (cc)
write_said true false false n es id content if_match if_none_match is_same short = (Stale if_match, record { says = refl; its = λ s shows. absurd (cc) })
write_said true false true n es id content if_match if_none_match is_same short =
    let x = shown (row_of n.number (renewed n.entry content)) in
    (Shows x, record { says = refl; its = λ s shows. shown_name x s (content_name content) shows refl })

pub below_last : (count : ℕ) → count ≤ most_revisions → count < last_version
below_last count few = omega (arith, few)

abbrev Replaces : List Entry → List ℕ → Content → Condition → Condition → Option Numbered → Type 0
Replaces es id content if_match if_none_match o =
    (said : Finding) × Says (Replace id content if_match if_none_match) said (content_name content) (replacing_entry o es content if_match if_none_match).answer

-- a record with accepted rows has an entry, or there is a free place for it
abbrev pub HasPlaces : History → List Entry → Type 0
HasPlaces history es = (name : RecordName) (row : Row) → Has (rows_of history name) row → Lacks es name → length es < most_resources

module _ {ours : Names} (history : History) (es : List Entry) (kept : Kept ours history es) (mine : AllOurs ours history) (lawful : AllLawful history) (few : length es ≤ most_resources)
    (free : HasPlaces history es) where
  replace_said : (id : List ℕ) (content : Content) (if_match if_none_match : Condition) → Overwrites history es id content if_match
      → Replaces es id content if_match if_none_match (entry_with_id (content_kind content) id es)
  replace_said id content if_match if_none_match asked =
      let v = asked.version in
      let its : ours v.entry.name ≡ true = ap ours v.of_record ∙ record_ours ours history mine (content_name content) asked.image.row asked.image.accepted in
      let f = found_by_id es v.place v.entry id few v.here v.has_id in
      let n = f.n in
      let named : n.entry.name ≡ content_name content = ap (λ e. e.name) f.same ∙ v.of_record in
      let of_kind : n.entry.name.kind ≡ content_kind content = ap (λ name. name.kind) named in
      let is : entry_with_id (content_kind content) id es ≡ Some n = ap (if_entry_of_kind (content_kind content)) f.found ∙ of_its_kind (content_kind content) n of_kind in
      let short : length (story n.entry) < last_version =
      subst (λ (e : Entry). length (story e) < last_version) (sym f.same) (below_last (length (story v.entry)) (versions_few_of history es kept lawful v.place v.entry v.here its)) in
      subst (Replaces es id content if_match if_none_match) (sym is)
      (write_said _ _ _ n es id content if_match if_none_match (same_if_eq n.entry.name (content_name content) named) (lt-leb last_version (length (story n.entry)) short))

  -- ---- every request

  pub request_answers : (request : Request) → AskedTruly history es request → Answers history request (step es request).answer
  request_answers (Create content) asked =
      let (said, says) = create_said (find (is_entry_of (content_name content)) es) (nat_le most_resources (length es)) es content (λ none.
      lt-leb most_resources (length es) (free (content_name content) asked.row asked.accepted (none_found (content_name content) es none))) in
      record { name = content_name content; about = refl; row = asked.row; accepted = asked.accepted; said = said; says = says }
  request_answers (Retrieve kind id if_match if_none_match) asked = absurd asked
  request_answers (Search kind wanted start count) asked =
      let row = asked.row in
      let P : Request → Type 0 = λ r. Answers history r (step es r).answer in
      let law = row_lawful history lawful (row_name row) row asked.accepted in
      let (said, says) = search_said es row law kept.whole in
      let its_subject = search_subject row law in
      subst P (sym (asked.is ∙ search_is row))
      (record { name = row_name row; about = ap subject (sym (search_is row)) ∙ its_subject; row = row; accepted = asked.accepted; said = said; says = says })
  request_answers (Replace id content if_match if_none_match) asked =
      let (said, says) = replace_said id content if_match if_none_match asked in
      record { name = content_name content; about = refl; row = asked.image.row; accepted = asked.image.accepted; said = said; says = says }

-- no such answer says that a limit is reached
pub no_limit : (history : History) (request : Request) (answer : Answer) → Answers history request answer → answer ≢ Error (error_of LimitReached)
no_limit history request answer a is = says_nothing request a.said (subst (λ (x : Answer). finding request x ≡ Ok a.said) is a.says.says)
  where
    says_nothing : (request : Request) (said : Finding) → finding request (Error (error_of LimitReached)) ≡ Ok said → ⊥
    says_nothing (Create content) said says = cc
    says_nothing (Retrieve kind id if_match if_none_match) said says = cc
    says_nothing (Search kind wanted start count) said says = cc
    says_nothing (Replace id content if_match if_none_match) said says = cc
