-- What the provider answers, given its current entries: a Search for a row's name finds the record's entry or nothing;
-- a Create meets the record's entry or makes it; and a Replace with one tag is decided by the current version alone.
use Rattle.std.proofs.Common.{◌≡◌, ℕ, zero, suc, ◌<◌, ◌≤◌, Bool, true, false, cond, ◌&&◌, List, [], ◌∷◌, map, length, Option, Some, None, Ok, refl, ap, sym, ◌∙◌, subst, arith}
use Rattle.std.specs.List.{find, slice_get}
use Rattle.std.specs.Prelude.{pos, nat_le}
use Rattle.std.proofs.lemmas.Bool.{lt-leb}
use Rattle.scim_key.specs.Identifiers.{id_text}
use Rattle.scim_key.specs.declared.records.RecordName.{RecordName}
use Rattle.scim_version.specs.Conditions.{holds_match}
use Rattle.scim_version.specs.declared.conditions.Condition.{Condition}
use Rattle.scim_version.specs.declared.conditions.Condition.TheVariants.{Always}
use Rattle.scim_resource.specs.Contents.{content_kind, content_name}
use Rattle.scim_resource.specs.Rows.{ShownRecord, shown, last_version}
use Rattle.scim_resource.specs.declared.contents.Content.{Content}
use Rattle.scim_filter.proofs.Keys.{keys_decide}
use Rattle.scim_filter.specs.Matching.{satisfies}
use Rattle.scim_message.specs.declared.messages.Answer.{Answer}
use Rattle.scim_message.specs.declared.messages.Request.{Request}
use Rattle.scim_message.specs.declared.messages.Request.TheVariants.{Create, Search, Replace}
use Rattle.provider_core.specs.Outcomes.{most_resources}
use Rattle.provider_core.specs.Rows.{same_kind}
use Rattle.provider_core.specs.Stories.{Entry, story, Numbered, numbered_from, row_of, is_entry_of, first_entry, renewed, if_entry_of_kind, entry_with_id, creating_entry, writing_entry, replacing_entry, step}
use Rattle.provider_core.specs.Tables.{IsWholeTable}
use Rattle.provider_core.proofs.RowLaws.{find-passes, same_name-eq}
use Rattle.provider_core.proofs.TableLaws.{held_at, at_numbered, same_if_eq}
use Rattle.source_csv.specs.Records.{IsRow, row_name}
use Rattle.source_csv.specs.declared.rows.Row.{Row}
use Rattle.source_csv.specs.declared.rows.Row.TheVariants.{User, Group}
use Rattle.connector_core.specs.Asking.{search_for}
use Rattle.connector_core.specs.Learning.{Shows, Shows_none, Taken, Stale, finding}
use Rattle.world_model.specs.Safe.{IsAt, Has}
use Rattle.world_model.proofs.Answering.{kind_itself, none_found, found_by_id, of_its_kind}
use Rattle.world_model.proofs.Lists.{filter_has, kept_has}
use Rattle.world_model.proofs.Room.{Lacks}
use Rattle.world_model.proofs.Searched.{kind_of, filter_of, hits, names_row, all_hits, only_one, one_hit, answer_to, search_is}

-- ---- a Search

-- the record's current entry is shown; or nothing is shown, and there is none
pub data Finds (es : List Entry) (name : RecordName) (request : Request) (answer : Answer) : Type 0 where
  finds : (i : ℕ) (e : Entry) → IsAt es i e → e.name ≡ name → finding request answer ≡ Ok (Shows (shown (row_of (suc i) e))) → Finds es name request answer
  lacks : Lacks es name → finding request answer ≡ Ok Shows_none → Finds es name request answer

numbered_at : (m : ℕ) (es : List Entry) (i : ℕ) (e : Entry) → IsAt es i e → (n : Numbered) × IsAt (numbered_from m es) i n × (n.entry ≡ e)
numbered_at m [] i e at = absurd (cc)
numbered_at m (d ∷ es) zero e at = (record { number = m; entry = d }, refl, cc)
numbered_at m (d ∷ es) (suc i) e at = numbered_at (suc m) es i e at

both : (a b : Bool) → a ≡ true → b ≡ true → (a && b) ≡ true
both a b is_a is_b = rw (is_a, is_b) refl

kind_is : (row : Row) → kind_of row ≡ (row_name row).kind
kind_is (User row) = refl
kind_is (Group row) = refl

module _ (es : List Entry) (row : Row) (law : IsRow row) (whole : IsWholeTable es) where
  abbrev request : Request
  request = Search (kind_of row) (Some (filter_of row)) (pos 1) None

  held_named : (i : ℕ) (e : Entry) → IsAt es i e → content_name e.held ≡ e.name
  held_named i e at = whole.named i (length e.earlier) e e.held at (held_at e)

  is_hit : (n : Numbered) → content_name n.entry.held ≡ row_name row → n.entry.name ≡ row_name row → hits row n ≡ true
  is_hit n held named =
      let kinds : n.entry.name.kind ≡ kind_of row = ap (λ x. x.kind) named ∙ sym (kind_is row) in
      both (same_kind (kind_of row) n.entry.name.kind) (satisfies (filter_of row) (row_of n.number n.entry))
      (ap (same_kind (kind_of row)) kinds ∙ kind_itself (kind_of row))
      ((keys_decide (filter_of row) (row_name row) (row_of n.number n.entry) (names_row row law)).1 held)

  none_there : all_hits es row law whole ≡ [] → Lacks es (row_name row)
  none_there none i e at named =
      let (n, there, same) = numbered_at 1 es i e at in
      let its_name : n.entry.name ≡ row_name row = ap (λ x. x.name) same ∙ named in
      let held : content_name n.entry.held ≡ row_name row = ap (λ x. content_name x.held) same ∙ held_named i e at ∙ named in
      let kept : Has (all_hits es row law whole) n = kept_has (hits row) (numbered_from 1 es) i n there (is_hit n held its_name) in
      let clash : Has [] n = subst (λ (l : List Numbered). Has l n) none kept in
      absurd (cc clash.1)

  found_by : (ns : List Numbered) → all_hits es row law whole ≡ ns → Finds es (row_name row) request (answer_to es row law whole (map (λ n. shown (row_of n.number n.entry)) ns))
  found_by [] is = lacks (none_there is) refl
  found_by (n ∷ []) is =
      let (k, there) = filter_has (hits row) (numbered_from 1 es) 0 n (ap (λ l. slice_get l 0) is) in
      let (number, at) = at_numbered 1 es k n there in
      let counted : n.number ≡ suc k = omega (arith, number) in
      finds k n.entry at (sym (held_named k n.entry at) ∙ one_hit es row law whole n [] is) (ap (λ m. Ok (Shows (shown (row_of m n.entry)))) counted)
  found_by (x ∷ y ∷ more) is = absurd (only_one es row law whole x y more is)

  pub search_finds : Finds es (row_name row) (search_for row) (step es (search_for row)).answer
  search_finds = subst (λ (r : Request). Finds es (row_name row) r (step es r).answer) (sym (search_is row)) (found_by (all_hits es row law whole) refl)

pub search_keeps : (es : List Entry) (row : Row) → (step es (search_for row)).entries ≡ es
search_keeps es (User row) = refl
search_keeps es (Group row) = refl

-- ---- a Create

pub data Creates (es : List Entry) (content : Content) (answer : Answer) : Type 0 where
  creates : (s : ShownRecord) → s.content ≡ content → finding (Create content) answer ≡ Ok (Shows s) → Creates es content answer
  meets : (i : ℕ) (e : Entry) → IsAt es i e → e.name ≡ content_name content → finding (Create content) answer ≡ Ok Taken → Creates es content answer

find_there : {X : Type 0} (p : X → Bool) (xs : List X) (x : X) → find p xs ≡ Some x → Has xs x
find_there p [] x is = absurd (cc)
find_there {X} p (y ∷ ys) x is = go (p y) (find_there p ys x) is
  where
    go : (b : Bool) → (find p ys ≡ Some x → Has ys x) → cond b (Some y) (find p ys) ≡ Some x → Has (y ∷ ys) x
    go true later was = (0, was)
    go false later was = let rest = later was in (suc rest.0, rest.1)

create_gives : (taken : Option Entry) (full : Bool) (es : List Entry) (content : Content) → find (is_entry_of (content_name content)) es ≡ taken → (taken ≡ None → full ≡ false)
    → Creates es content (creating_entry taken full es content).answer
create_gives (Some e) full es content found room =
    let there = find_there (is_entry_of (content_name content)) es e found in
    let named = same_name-eq (content_name content) e.name (find-passes (is_entry_of (content_name content)) es e found) in
    meets there.0 e there.1 (sym named) refl
create_gives None true es content found room = let free : true ≡ false = room refl in absurd (cc)
create_gives None false es content found room = creates (shown (row_of (suc (length es)) (first_entry content))) refl refl

pub create_answers : (es : List Entry) (content : Content) → (Lacks es (content_name content) → length es < most_resources) → Creates es content (step es (Create content)).answer
create_answers es content free =
    create_gives (find (is_entry_of (content_name content)) es) (nat_le most_resources (length es)) es content refl
    (λ none. lt-leb most_resources (length es) (free (none_found (content_name content) es none)))

-- ---- a Replace

pub data Replaces (request : Request) (if_match : Condition) (content : Content) (e : Entry) (answer : Answer) : Type 0 where
  renews : (s : ShownRecord) → s.content ≡ content → finding request answer ≡ Ok (Shows s) → Replaces request if_match content e answer
  misses : holds_match if_match (Some (length (story e))) ≡ false → finding request answer ≡ Ok (Stale if_match) → Replaces request if_match content e answer

and_true : (b : Bool) → (b && true) ≡ false → b ≡ false
and_true true is = absurd (cc)
and_true false is = refl

write_gives : (same at_last holds : Bool) (n : Numbered) (es : List Entry) (id : List ℕ) (content : Content) (if_match : Condition) → same ≡ true → at_last ≡ false
    → (holds ≡ false → holds_match if_match (Some (length (story n.entry))) ≡ false)
    → Replaces (Replace id content if_match Always) if_match content n.entry (writing_entry same at_last holds n es content).answer
write_gives false at_last holds n es id content if_match is_same short fails = absurd (cc)
write_gives true true holds n es id content if_match is_same short fails = absurd (cc)
write_gives true false false n es id content if_match is_same short fails = misses (fails refl) refl
write_gives true false true n es id content if_match is_same short fails = renews (shown (row_of n.number (renewed n.entry content))) refl refl

module _ (es : List Entry) (i : ℕ) (e : Entry) (id : List ℕ) (content : Content) (if_match : Condition) where
  abbrev replace : Request
  replace = Replace id content if_match Always

  pub replace_answers : length es ≤ most_resources → IsAt es i e → id ≡ id_text (suc i) → e.name ≡ content_name content → length (story e) < last_version
      → Replaces replace if_match content e (step es replace).answer
  replace_answers few at is named short =
      let f = found_by_id es i e id few at is in
      let n = f.n in
      let its_name : n.entry.name ≡ content_name content = ap (λ x. x.name) f.same ∙ named in
      let of_kind : n.entry.name.kind ≡ content_kind content = ap (λ name. name.kind) its_name in
      let found : entry_with_id (content_kind content) id es ≡ Some n = ap (if_entry_of_kind (content_kind content)) f.found ∙ of_its_kind (content_kind content) n of_kind in
      let its_length : length (story n.entry) < last_version = subst (λ (x : Entry). length (story x) < last_version) (sym f.same) short in
      subst (λ (x : Entry). Replaces replace if_match content x (step es replace).answer) f.same
      (subst (λ (o : Option Numbered). Replaces replace if_match content n.entry (replacing_entry o es content if_match Always).answer) (sym found)
      (write_gives _ _ _ n es id content if_match (same_if_eq n.entry.name (content_name content) its_name) (lt-leb last_version (length (story n.entry)) its_length)
      (and_true (holds_match if_match (Some (length (story n.entry)))))))
