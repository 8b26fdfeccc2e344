-- A provider that never gets a revision answers as one that gets revisions and shows none.
use Rattle.std.proofs.Common.{◌≡◌, ℕ, ℤ, zero, suc, ◌-◌, ◌&&◌, Bool, true, false, cond, List, [], ◌∷◌, ◌++◌, map, length, Option, Some, None, refl, ap, sym, ◌∙◌, nat_lt, nat_le, not, take, drop}
use Rattle.std.proofs.lemmas.List.{map-append, length-map, take-map, drop-map}
use Rattle.std.specs.List.{find, filter}
use Rattle.std.specs.Option.{option_map}
use Rattle.scim_key.specs.Identifiers.{id_text}
use Rattle.scim_key.specs.Revisions.{RevisionValue}
use Rattle.scim_key.specs.declared.records.Kind.{Kind}
use Rattle.scim_key.specs.declared.records.RecordName.{RecordName}
use Rattle.scim_version.specs.Tags.{version_tag}
use Rattle.scim_version.specs.Conditions.{holds_match, holds_none_match}
use Rattle.scim_version.specs.declared.conditions.Condition.{Condition}
use Rattle.scim_resource.specs.Contents.{content_kind, content_name, content_with}
use Rattle.scim_resource.specs.Rows.{ShownRecord, StoredRecord, shown, last_version}
use Rattle.scim_resource.specs.declared.contents.Content.{Content}
use Rattle.scim_resource.specs.declared.contents.Content.TheVariants as contents
use Rattle.scim_filter.specs.Expressions.{Expression, Only, Both, Either, Negated}
use Rattle.scim_filter.specs.Matching.{content_texts, texts_of, content_flags, is_exact, text_holds, flag_holds, test_holds, satisfies}
use Rattle.scim_filter.specs.declared.terms.TextAttribute.{TextAttribute}
use Rattle.scim_filter.specs.declared.terms.TextAttribute.TheVariants.{UserName, DisplayName, GivenName, FamilyName, EmailValue, EmailType, Member, Id, ExternalId, Version}
use Rattle.scim_filter.specs.declared.terms.FlagAttribute.{FlagAttribute}
use Rattle.scim_filter.specs.declared.terms.FlagAttribute.TheVariants.{Active, EmailPrimary}
use Rattle.scim_filter.specs.declared.terms.Attribute.TheVariants.{OfText, OfFlag}
use Rattle.scim_filter.specs.declared.terms.Test.{Test}
use Rattle.scim_filter.specs.declared.terms.Test.TheVariants as tests
use Rattle.scim_message.specs.Messages.{request_with}
use Rattle.scim_message.specs.declared.messages.Request.{Request}
use Rattle.scim_message.specs.declared.messages.Request.TheVariants.{Create, Retrieve, Search, Replace}
use Rattle.scim_message.specs.declared.messages.Answer.{Answer}
use Rattle.scim_message.specs.declared.messages.Answer.TheVariants.{Created, Found, Replaced, NotModified}
use Rattle.scim_message.specs.declared.messages.Answer.TheVariants as answers
use Rattle.provider_core.specs.Rows.{same_kind, same_name}
use Rattle.provider_core.specs.Outcomes.{most_resources}
use Rattle.provider_core.specs.Searches.{is_wanted, listing, page_from, first_place, page_size}
use Rattle.provider_core.specs.Stories.{Entry, story, first_entry, row_of, is_entry_of, Numbered, numbered_from, has_entry_id, if_entry_of_kind, entry_with_id, renew_at, is_entry_hit, found_entries, Step, creating_entry, writing_entry, replacing_entry, reading_entry, retrieving_entry, step}
use Rattle.connector_core.specs.Keeps.{shown_with, forgot}
use Rattle.world_model.specs.Providers.{forgot_entry, forgot_entries, AlwaysForgets}
use Rattle.world_model.proofs.Hearing.{name_with}

-- ---- filters see no revision

content_texts_with : (r : Option RevisionValue) (a : TextAttribute) (c : Content) → content_texts a (content_with r c) ≡ content_texts a c
content_texts_with r UserName (contents.User c) = refl
content_texts_with r UserName (contents.Group c) = refl
content_texts_with r DisplayName (contents.User c) = refl
content_texts_with r DisplayName (contents.Group c) = refl
content_texts_with r GivenName (contents.User c) = refl
content_texts_with r GivenName (contents.Group c) = refl
content_texts_with r FamilyName (contents.User c) = refl
content_texts_with r FamilyName (contents.Group c) = refl
content_texts_with r EmailValue (contents.User c) = refl
content_texts_with r EmailValue (contents.Group c) = refl
content_texts_with r EmailType (contents.User c) = refl
content_texts_with r EmailType (contents.Group c) = refl
content_texts_with r Member (contents.User c) = refl
content_texts_with r Member (contents.Group c) = refl
content_texts_with r Id (contents.User c) = refl
content_texts_with r Id (contents.Group c) = refl
content_texts_with r ExternalId (contents.User c) = refl
content_texts_with r ExternalId (contents.Group c) = refl
content_texts_with r Version (contents.User c) = refl
content_texts_with r Version (contents.Group c) = refl

abbrev row_with : (number version : ℕ) → Content → StoredRecord
row_with number version c = record { number = number; version = version; content = c }

texts_with : (r : Option RevisionValue) (a : TextAttribute) (number version : ℕ) (c : Content) → texts_of a (row_with number version (content_with r c)) ≡ texts_of a (row_with number version c)
texts_with r UserName number version c = content_texts_with r UserName c
texts_with r DisplayName number version c = content_texts_with r DisplayName c
texts_with r GivenName number version c = content_texts_with r GivenName c
texts_with r FamilyName number version c = content_texts_with r FamilyName c
texts_with r EmailValue number version c = content_texts_with r EmailValue c
texts_with r EmailType number version c = content_texts_with r EmailType c
texts_with r Member number version c = content_texts_with r Member c
texts_with r Id number version c = refl
texts_with r ExternalId number version c = content_texts_with r ExternalId c
texts_with r Version number version c = refl

flags_with : (r : Option RevisionValue) (a : FlagAttribute) (c : Content) → content_flags a (content_with r c) ≡ content_flags a c
flags_with r Active (contents.User c) = refl
flags_with r Active (contents.Group c) = refl
flags_with r EmailPrimary (contents.User c) = refl
flags_with r EmailPrimary (contents.Group c) = refl

test_with : (r : Option RevisionValue) (t : Test) (number version : ℕ) (c : Content) → test_holds t (row_with number version (content_with r c)) ≡ test_holds t (row_with number version c)
test_with r (tests.Present (OfText a)) number version c = ap (λ (texts : List (List ℕ)). nat_lt 0 (length texts)) (texts_with r a number version c)
test_with r (tests.Present (OfFlag a)) number version c = ap (λ (flags : List Bool). nat_lt 0 (length flags)) (flags_with r a c)
test_with r (tests.Text a o given) number version c = ap (text_holds o (is_exact a) given) (texts_with r a number version c)
test_with r (tests.Flag a o value) number version c = ap (flag_holds o value) (flags_with r a c)

satisfies_with : (r : Option RevisionValue) (wanted : Expression) (number version : ℕ) (c : Content) → satisfies wanted (row_with number version (content_with r c)) ≡ satisfies wanted (row_with number version c)
satisfies_with r (Only t) number version c = test_with r t number version c
satisfies_with r (Both a b) number version c = rw (satisfies_with r a number version c, satisfies_with r b number version c) refl
satisfies_with r (Either a b) number version c = rw (satisfies_with r a number version c, satisfies_with r b number version c) refl
satisfies_with r (Negated a) number version c = ap not (satisfies_with r a number version c)

wanted_with : (r : Option RevisionValue) (wanted : Option Expression) (number version : ℕ) (c : Content) → is_wanted wanted (row_with number version (content_with r c)) ≡ is_wanted wanted (row_with number version c)
wanted_with r None number version c = refl
wanted_with r (Some wanted) number version c = satisfies_with r wanted number version c

kind_with : (r : Option RevisionValue) (c : Content) → content_kind (content_with r c) ≡ content_kind c
kind_with r (contents.User u) = refl
kind_with r (contents.Group g) = refl

-- ---- lists

cond_mapped : {X Y : Type 0} (f : X → Y) (b c : Bool) (x : X) (ys : List Y) (xs : List X) → b ≡ c → ys ≡ map f xs → cond b (f x ∷ ys) ys ≡ map f (cond c (x ∷ xs) xs)
cond_mapped f true true x ys xs test same = ap (λ (l : List _). f x ∷ l) same
cond_mapped f true false x ys xs test same = absurd (cc)
cond_mapped f false true x ys xs test same = absurd (cc)
cond_mapped f false false x ys xs test same = same

filter_mapped : {X Y : Type 0} (p : Y → Bool) (q : X → Bool) (f : X → Y) → ((x : X) → p (f x) ≡ q x) → (xs : List X) → filter p (map f xs) ≡ map f (filter q xs)
filter_mapped p q f same [] = refl
filter_mapped p q f same (x ∷ xs) = cond_mapped f (p (f x)) (q x) x _ _ (same x) (filter_mapped p q f same xs)

cond_found : {X Y : Type 0} (f : X → Y) (b c : Bool) (x : X) (y : Option Y) (o : Option X) → b ≡ c → y ≡ option_map f o → cond b (Some (f x)) y ≡ option_map f (cond c (Some x) o)
cond_found f true true x y o test same = refl
cond_found f true false x y o test same = absurd (cc)
cond_found f false true x y o test same = absurd (cc)
cond_found f false false x y o test same = same

find_mapped : {X Y : Type 0} (p : Y → Bool) (q : X → Bool) (f : X → Y) → ((x : X) → p (f x) ≡ q x) → (xs : List X) → find p (map f xs) ≡ option_map f (find q xs)
find_mapped p q f same [] = refl
find_mapped p q f same (x ∷ xs) = cond_found f (p (f x)) (q x) x _ _ (same x) (find_mapped p q f same xs)

map_map : {X Y Z U : Type 0} (f : X → Y) (g : Y → Z) (h : X → U) (k : U → Z) → ((x : X) → g (f x) ≡ k (h x)) → (xs : List X) → map g (map f xs) ≡ map k (map h xs)
map_map f g h k same [] = refl
map_map f g h k same (x ∷ xs) = rw (same x, map_map f g h k same xs) refl

-- ---- entries

abbrev fc : Content → Content
fc c = content_with None c

abbrev fe : Entry → Entry
fe e = forgot_entry e

abbrev fn : Numbered → Numbered
fn n = record { number = n.number; entry = forgot_entry n.entry }

abbrev forgot_step : Step → Step
forgot_step s = record { entries = forgot_entries s.entries; answer = forgot s.answer }

abbrev made : List Entry → Answer → Step
made es answer = record { entries = es; answer = answer }

step_eq : (es fs : List Entry) (a b : Answer) → es ≡ fs → a ≡ b → made es a ≡ made fs b
step_eq es fs a b same_entries same_answer = rw (same_entries, same_answer) refl

story_with : (e : Entry) → story (fe e) ≡ map fc (story e)
story_with e = sym (map-append fc e.earlier (e.held ∷ []))

story_length : (e : Entry) → length (story (fe e)) ≡ length (story e)
story_length e = ap length (story_with e) ∙ length-map (story e) fc

numbered_with : (m : ℕ) (es : List Entry) → numbered_from m (map forgot_entry es) ≡ map fn (numbered_from m es)
numbered_with m [] = refl
numbered_with m (e ∷ es) = ap (λ (l : List Numbered). fn (record { number = m; entry = e }) ∷ l) (numbered_with (suc m) es)

kind_found : (kind : Kind) (o : Option Numbered) → if_entry_of_kind kind (option_map fn o) ≡ option_map fn (if_entry_of_kind kind o)
kind_found kind None = refl
kind_found kind (Some n) = go (same_kind kind n.entry.name.kind)
  where
    go : (b : Bool) → cond b (Some (fn n)) None ≡ option_map fn (cond b (Some n) None)
    go true = refl
    go false = refl

id_found : (kind : Kind) (id : List ℕ) (es : List Entry) → entry_with_id kind id (forgot_entries es) ≡ option_map fn (entry_with_id kind id es)
id_found kind id es =
    ap (λ (ns : List Numbered). if_entry_of_kind kind (find (has_entry_id id) ns)) (numbered_with 1 es)
    ∙ ap (if_entry_of_kind kind) (find_mapped (has_entry_id id) (has_entry_id id) fn (λ n. refl) (numbered_from 1 es))
    ∙ kind_found kind (find (has_entry_id id) (numbered_from 1 es))

-- ---- a Create

first_with : (c : Content) → first_entry (fc c) ≡ fe (first_entry c)
first_with c = ap (λ (name : RecordName). record { name = name; earlier = []; held = fc c }) (name_with None c)

create_step : (taken : Option Entry) (full : Bool) (es : List Entry) (c : Content) → creating_entry (option_map forgot_entry taken) full (forgot_entries es) (fc c) ≡ forgot_step (creating_entry taken full es c)
create_step (Some e) full es c = refl
create_step None true es c = refl
create_step None false es c =
    step_eq _ _ _ _ (ap (λ (e : Entry). forgot_entries es ++ e ∷ []) (first_with c) ∙ sym (map-append forgot_entry es (first_entry c ∷ [])))
    (ap (λ (n : ℕ). Created (shown (row_of (suc n) (first_entry (fc c))))) (length-map es forgot_entry))

-- ---- a Replace

renew_with : (place : ℕ) (c : Content) (es : List Entry) → renew_at place (fc c) (map forgot_entry es) ≡ map forgot_entry (renew_at place c es)
renew_with place c [] = refl
renew_with zero c (e ∷ es) = ap (λ (earlier : List Content). record { name = e.name; earlier = earlier; held = fc c } ∷ map forgot_entry es) (story_with e)
renew_with (suc place) c (e ∷ es) = ap (λ (l : List Entry). fe e ∷ l) (renew_with place c es)

write_step : (same at_last holds : Bool) (n : Numbered) (es : List Entry) (c : Content) → writing_entry same at_last holds (fn n) (forgot_entries es) (fc c) ≡ forgot_step (writing_entry same at_last holds n es c)
write_step false at_last holds n es c = refl
write_step true true holds n es c = refl
write_step true false false n es c = refl
write_step true false true n es c =
    step_eq _ _ _ _ (renew_with (n.number - 1) c es)
    (ap (λ (l : ℕ). Replaced (shown (row_with n.number (suc l) (fc c)))) (story_length n.entry))

replace_step : (found : Option Numbered) (es : List Entry) (c : Content) (m k : Condition) → replacing_entry (option_map fn found) (forgot_entries es) (fc c) m k ≡ forgot_step (replacing_entry found es c m k)
replace_step None es c m k = refl
replace_step (Some n) es c m k =
    ap (λ (name : RecordName). writing_entry (same_name n.entry.name name) (nat_le last_version (length (story (fe n.entry))))
    (holds_match m (Some (length (story (fe n.entry)))) && holds_none_match k (Some (length (story (fe n.entry))))) (fn n) (forgot_entries es) (fc c)) (name_with None c)
    ∙ ap (λ (l : ℕ). writing_entry (same_name n.entry.name (content_name c)) (nat_le last_version l) (holds_match m (Some l) && holds_none_match k (Some l)) (fn n) (forgot_entries es) (fc c)) (story_length n.entry)
    ∙ write_step _ _ _ n es c

-- ---- a Retrieve

shown_row : (n : Numbered) → shown (row_of n.number (fe n.entry)) ≡ shown_with None (shown (row_of n.number n.entry))
shown_row n = ap (λ (l : ℕ). shown (row_with n.number (suc l) (fc n.entry.held))) (length-map n.entry.earlier fc)

read_step : (matches fresh : Bool) (n : Numbered) (es : List Entry) → reading_entry matches fresh (fn n) (forgot_entries es) ≡ forgot_step (reading_entry matches fresh n es)
read_step false fresh n es = refl
read_step true false n es = step_eq _ _ _ _ refl (ap (λ (l : ℕ). NotModified n.entry.name.kind (id_text n.number) (version_tag l)) (story_length n.entry))
read_step true true n es = step_eq _ _ _ _ refl (ap (λ (s : ShownRecord). Found s) (shown_row n))

retrieve_step : (found : Option Numbered) (es : List Entry) (m k : Condition) → retrieving_entry (option_map fn found) (forgot_entries es) m k ≡ forgot_step (retrieving_entry found es m k)
retrieve_step None es m k = refl
retrieve_step (Some n) es m k =
    ap (λ (l : ℕ). reading_entry (holds_match m (Some l)) (holds_none_match k (Some l)) (fn n) (forgot_entries es)) (story_length n.entry) ∙ read_step _ _ n es

-- ---- a Search

hit_with : (kind : Kind) (wanted : Option Expression) (n : Numbered) → is_entry_hit kind wanted (fn n) ≡ is_entry_hit kind wanted n
hit_with kind wanted n =
    ap (λ (l : ℕ). same_kind kind n.entry.name.kind && is_wanted wanted (row_with n.number (suc l) (fc n.entry.held))) (length-map n.entry.earlier fc)
    ∙ ap (λ (b : Bool). same_kind kind n.entry.name.kind && b) (wanted_with None wanted n.number (suc (length n.entry.earlier)) n.entry.held)

abbrev show : Numbered → ShownRecord
show n = shown (row_of n.number n.entry)

found_with : (kind : Kind) (wanted : Option Expression) (es : List Entry) → found_entries kind wanted (forgot_entries es) ≡ map (shown_with None) (found_entries kind wanted es)
found_with kind wanted es =
    ap (λ (ns : List Numbered). map show (filter (is_entry_hit kind wanted) ns)) (numbered_with 1 es)
    ∙ ap (map show) (filter_mapped (is_entry_hit kind wanted) (is_entry_hit kind wanted) fn (hit_with kind wanted) (numbered_from 1 es))
    ∙ map_map fn show show (shown_with None) shown_row (filter (is_entry_hit kind wanted) (numbered_from 1 es))

page_with : (f : ShownRecord → ShownRecord) (first size : ℕ) (xs : List ShownRecord) → page_from first size (map f xs) ≡ map f (page_from first size xs)
page_with f first size xs = ap (take size) (drop-map f (first - 1) xs) ∙ take-map f size (drop (first - 1) xs)

abbrev listed : ℕ → ℕ → List ShownRecord → Answer
listed total start resources = answers.List (record { total = total; start = start; resources = resources })

list_with : (start : ℤ) (count : Option ℤ) (xs : List ShownRecord) → answers.List (listing start count (map (shown_with None) xs)) ≡ forgot (answers.List (listing start count xs))
list_with start count xs =
    ap (λ (total : ℕ). listed total (first_place start) (page_from (first_place start) (page_size count) (map (shown_with None) xs))) (length-map xs (shown_with None))
    ∙ ap (listed (length xs) (first_place start)) (page_with (shown_with None) (first_place start) (page_size count) xs)

-- ---- every request

forgets : (es : List Entry) (request : Request) → step (forgot_entries es) (request_with None request) ≡ forgot_step (step es request)
forgets es (Create c) =
    ap (λ (name : RecordName). creating_entry (find (is_entry_of name) (forgot_entries es)) (nat_le most_resources (length (forgot_entries es))) (forgot_entries es) (fc c)) (name_with None c)
    ∙ ap (λ (taken : Option Entry). creating_entry taken (nat_le most_resources (length (forgot_entries es))) (forgot_entries es) (fc c))
    (find_mapped (is_entry_of (content_name c)) (is_entry_of (content_name c)) forgot_entry (λ e. refl) es)
    ∙ ap (λ (l : ℕ). creating_entry (option_map forgot_entry (find (is_entry_of (content_name c)) es)) (nat_le most_resources l) (forgot_entries es) (fc c)) (length-map es forgot_entry)
    ∙ create_step _ _ es c
forgets es (Retrieve kind id m k) =
    ap (λ (found : Option Numbered). retrieving_entry found (forgot_entries es) m k) (id_found kind id es) ∙ retrieve_step (entry_with_id kind id es) es m k
forgets es (Search kind wanted start count) =
    step_eq _ _ _ _ refl (ap (λ (xs : List ShownRecord). answers.List (listing start count xs)) (found_with kind wanted es) ∙ list_with start count (found_entries kind wanted es))
forgets es (Replace id c m k) =
    ap (λ (kind : Kind). replacing_entry (entry_with_id kind id (forgot_entries es)) (forgot_entries es) (fc c) m k) (kind_with None c)
    ∙ ap (λ (found : Option Numbered). replacing_entry found (forgot_entries es) (fc c) m k) (id_found (content_kind c) id es)
    ∙ replace_step (entry_with_id (content_kind c) id es) es c m k

pub always_forgets : AlwaysForgets
always_forgets es request = record {
  entries = ap (λ (s : Step). s.entries) (forgets es request);
  answer = ap (λ (s : Step). s.answer) (forgets es request);
}
