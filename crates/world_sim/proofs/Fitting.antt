-- Every message of a run, also among others, fits its limits, and is read as it was sent.
use Rattle.std.proofs.Common.{◌≡◌, ℕ, suc, ◌≤◌, Bool, true, false, cond, ◌==◌, List, [], ◌∷◌, length, Option, Some, None, Ok, Err, refl, ap, sym, ◌∙◌, subst, arith, eqb-true}
use Rattle.std.specs.Prelude.{ℤ, pos}
use Rattle.std.specs.List.{AllByRecursion, slice_get}
use Rattle.std.proofs.lemmas.Bool.Decides.{nat_tests}
use Rattle.std.specs.Str.{IsUtf8}
use Rattle.std.proofs.lemmas.Option.{slice_get_within}
use Rattle.serde_json.specs.Written.{compact_text}
use Rattle.scim_key.specs.Bases.{IsBase}
use Rattle.scim_key.specs.Identifiers.{IsId, id_fault, id_text}
use Rattle.scim_key.specs.Revisions.{RevisionValue}
use Rattle.scim_key.specs.declared.records.Kind.{Kind}
use Rattle.scim_key.specs.declared.records.Kind.TheVariants as kinds
use Rattle.scim_key.specs.declared.records.RecordName.{RecordName}
use Rattle.scim_version.specs.Tags.{version_tag}
use Rattle.scim_version.specs.declared.conditions.Condition.{Condition}
use Rattle.scim_version.specs.declared.conditions.Condition.TheVariants.{Always, Tags}
use Rattle.scim_resource.specs.Contents.{content_kind, content_name}
use Rattle.scim_resource.specs.Rows.{ShownRecord, shown}
use Rattle.scim_resource.specs.Locations.{location_text}
use Rattle.scim_resource.specs.Writing.{content_data, shown_data}
use Rattle.scim_resource.specs.declared.contents.Content.{Content}
use Rattle.scim_resource.proofs.Tags.{id_is_text}
use Rattle.scim_filter.specs.Expressions.{Expression}
use Rattle.scim_filter.specs.Names.{name_filter}
use Rattle.scim_filter.specs.declared.terms.TextAttribute.TheVariants.{UserName, DisplayName}
use Rattle.scim_message.specs.Bodies.{body_text as answer_body, list_data, error_data}
use Rattle.scim_message.specs.Fitting.{Fits, Fits.created, Fits.listed as listed_so, Fits.replaced, Fits.refused, AreLawful, ShowsLawfully, AreShownOf}
use Rattle.scim_message.specs.Refusals.{error_of}
use Rattle.scim_message.specs.declared.lists.ListResponse.{ListResponse}
use Rattle.scim_message.specs.declared.messages.Answer.{Answer}
use Rattle.scim_message.specs.declared.messages.Answer.TheVariants.{Created, Replaced, Error}
use Rattle.scim_message.specs.declared.messages.Answer.TheVariants as answers
use Rattle.scim_message.specs.declared.messages.Request.{Request}
use Rattle.scim_message.specs.declared.messages.Request.TheVariants.{Create, Retrieve, Search, Replace}
use Rattle.scim_message.specs.declared.refusals.Refusal.{Refusal}
use Rattle.scim_message.specs.declared.refusals.Refusal.TheVariants.{NameFixed, NoSuchResource, NameTaken, OtherVersion, LimitReached}
use Rattle.provider_core.specs.Searches.{listing}
use Rattle.provider_core.specs.Stories.{Entry, Numbered, story, step, row_of, first_entry, renewed, found_entries, creating_entry, writing_entry, replacing_entry}
use Rattle.provider_core.specs.Tables.{IsFact, IsWholeTable}
use Rattle.source_csv.specs.Records.{IsRow, row_name}
use Rattle.source_csv.specs.declared.rows.Row.{Row}
use Rattle.source_csv.specs.declared.rows.Row.TheVariants as rows
use Rattle.connector_core.specs.Asking.{search_for}
use Rattle.connector_core.specs.declared.learning.LearnFault.TheVariants as faults
use Rattle.scim_filter.specs.Texts.{filter_text, nesting}
use Rattle.connector_core.specs.History.{rows_of}
use Rattle.connector_core.specs.Learning.{Finding, Shows, Shows_none, listed}
use Rattle.world_model.specs.Safe.{Has, IsAt, IsImage}
use Rattle.world_model.specs.World.{World, Message, Asked, Answered, empty, run}
use Rattle.world_model.specs.Invariant.{Names, ShowsTruly}
use Rattle.world_model.specs.Others.{Act, run_among, KeepsApart}
use Rattle.world_model.specs.Room.{IsLawfulAct}
use Rattle.world_model.specs.Resetting.{Happening, run_through, StayApart, IsLawfulHappening}
use Rattle.world_model.proofs.Durable.{AskedFairly, IsShownVersion}
use Rattle.world_model.proofs.Ranking.{record_ours, row_lawful}
use Rattle.world_model.proofs.Searched.{filter_of, kind_of, search_is, search_said as row_found}
use Rattle.world_model.proofs.Sizes.{quoted_most, user_name_short, group_name_short}
use Rattle.scim_client.specs.AnswerLaws.{KeepsAnswerLimits}
use Rattle.scim_client.specs.Answers.{AnswersSo}
use Rattle.scim_client.specs.Spelling.{IsWritable, KeepsLimits, IsIdText}
use Rattle.scim_client.proofs.AnswerLaws.{answers_are_read}
use Rattle.scim_client.proofs.FilterLemmas.{any_filter}
use Rattle.scim_http.specs.Replies.{answer_text}
use Rattle.world_sim.specs.Fitting.{IsWithinLimits, IsFormed, MessagesKeepLimits, MessagesAreRead, MessagesAreReadFrom}
use Rattle.world_sim.specs.Messages.{message_text}
use Rattle.world_sim.specs.Reading.{IsReadAs}
use Rattle.world_sim.proofs.BodySizes.{IsBrief as IsBriefShown, shown_most, list_most, error_most, error_lawful}
use Rattle.world_sim.proofs.TextSizes.{IsWithin}
use Rattle.world_sim.proofs.Given.{IsHeard, IsPlain, always_spoken, always_spoken_among, fit_empty, heard, heard_from, heard_through, image_most}
use Rattle.world_sim.proofs.HeadSizes.{base_short, id_short, tag_short, keeps_limits, create_brief, replace_brief, search_brief, within, nothing_within, location_within, length_within, id_length, IsBriefAnswer, keeps_answer_limits}

-- ---- the search for a row

user_filter : (name : List ℕ) → length name ≤ 128 → length (filter_text (name_filter UserName name)) ≤ 900
user_filter name short = omega (arith, quoted_most name, short)

group_filter : (name : List ℕ) → length name ≤ 128 → length (filter_text (name_filter DisplayName name)) ≤ 900
group_filter name short = omega (arith, quoted_most name, short)

search_writable : (kind : Kind) (wanted : Expression) → length (filter_text wanted) ≤ 900 → nesting wanted ≡ 0 → IsWritable (Search kind (Some wanted) (pos 1) None)
search_writable kind wanted short flat = ((omega (arith, short), omega (arith, flat)), omega arith, tt)

search_fits : (base : List ℕ) → IsBase base → (row : Row) → IsRow row → IsWritable (search_for row) × KeepsLimits base (search_for row)
search_fits base is_base (rows.User row) law =
    let text = user_filter row.login (user_name_short row.login law.login) in
    (search_writable kinds.User (name_filter UserName row.login) text refl, keeps_limits base is_base (search_for (rows.User row)) (search_brief kinds.User (name_filter UserName row.login) text))
search_fits base is_base (rows.Group row) law =
    let text = group_filter row.name (group_name_short row.name law.name) in
    (search_writable kinds.Group (name_filter DisplayName row.name) text refl, keeps_limits base is_base (search_for (rows.Group row)) (search_brief kinds.Group (name_filter DisplayName row.name) text))

row_kind : (row : Row) → (row_name row).kind ≡ kind_of row
row_kind (rows.User row) = refl
row_kind (rows.Group row) = refl

-- ---- what an answer of the table is

-- a list that says something has one resource at most
record IsFew (total : ℕ) (page : List ShownRecord) : Type 0 where
  total_few : total ≤ 1
  page_few : length page ≤ 1

few_if : (b : Bool) (total : ℕ) (expected : ℕ) (page : List ShownRecord) (found said : Finding) → (total == expected) ≡ b → expected ≤ 1 → length page ≤ 1 → cond b (Ok found) (Err faults.Unfit) ≡ Ok said → IsFew total page
few_if true total expected page found said same small few is = let e = eqb-true total expected same in record { total_few = omega (arith, e, small); page_few = few }
few_if false total expected page found said same small few is = absurd (cc)

listed_few : (total : ℕ) (page : List ShownRecord) (said : Finding) → listed total page ≡ Ok said → IsFew total page
listed_few total [] said is = few_if (total == 0) total 0 [] Shows_none said refl (omega arith) (omega arith) is
listed_few total (s ∷ []) said is = few_if (total == 1) total 1 (s ∷ []) (Shows s) said refl (omega arith) (omega arith) is
listed_few total (s ∷ other ∷ more) said is = absurd (cc)

-- a page shows the record alone
abbrev IsOnly : RecordName → List ShownRecord → Type 0
IsOnly name page = (s : ShownRecord) → page ≡ s ∷ [] → content_name s.content ≡ name

one_found : (b : Bool) (s : ShownRecord) (said : Finding) → cond b (Ok (Shows s)) (Err faults.Unfit) ≡ Ok said → said ≡ Shows s
one_found true s said is = cc
one_found false s said is = absurd (cc)

only_one : (name : RecordName) (total : ℕ) (page : List ShownRecord) (said : Finding) → listed total page ≡ Ok said
    → ((s : ShownRecord) → said ≡ Shows s → content_name s.content ≡ name) → IsOnly name page
only_one name total [] said is its s page = absurd (cc)
only_one name total (x ∷ []) said is its s page =
    let same : x ≡ s = cc in
    subst (λ (r : ShownRecord). content_name r.content ≡ name) same (its x (one_found (total == 1) x said is))
only_one name total (x ∷ other ∷ more) said is its s page = absurd (cc)

-- A table's answer to what is asked for a record: it shows the record, or it is an error
data Tells (name : RecordName) : Request → Answer → Type 0 where
  makes : (content : Content) (s : ShownRecord) → content_name content ≡ name → content_name s.content ≡ name → Tells name (Create content) (Created s)
  writes : (id : List ℕ) (content : Content) (if_match if_none_match : Condition) (s : ShownRecord) → content_name content ≡ name → content_name s.content ≡ name
      → Tells name (Replace id content if_match if_none_match) (Replaced s)
  lists : (kind : Kind) (wanted : Option Expression) (start : ℤ) (count : Option ℤ) (list : ListResponse) → name.kind ≡ kind → list.start ≡ 1 → IsFew list.total list.resources
      → IsOnly name list.resources → Tells name (Search kind wanted start count) (answers.List list)
  errs : (request : Request) (r : Refusal) → Tells name request (Error (error_of r))

creating_tells : (taken : Option Entry) (full : Bool) (es : List Entry) (content : Content) → Tells (content_name content) (Create content) (creating_entry taken full es content).answer
creating_tells (Some e) full es content = errs (Create content) NameTaken
creating_tells None true es content = errs (Create content) LimitReached
creating_tells None false es content = makes content (shown (row_of (suc (length es)) (first_entry content))) refl refl

module _ (id : List ℕ) (content : Content) (if_match if_none_match : Condition) where
  abbrev Writes : Answer → Type 0
  Writes answer = Tells (content_name content) (Replace id content if_match if_none_match) answer

  writing_tells : (same at_last holds : Bool) (n : Numbered) (es : List Entry) → Writes (writing_entry same at_last holds n es content).answer
  writing_tells false at_last holds n es = errs (Replace id content if_match if_none_match) NameFixed
  writing_tells true true holds n es = errs (Replace id content if_match if_none_match) LimitReached
  writing_tells true false false n es = errs (Replace id content if_match if_none_match) OtherVersion
  writing_tells true false true n es = writes id content if_match if_none_match (shown (row_of n.number (renewed n.entry content))) refl refl

  replacing_tells : (o : Option Numbered) (es : List Entry) → Writes (replacing_entry o es content if_match if_none_match).answer
  replacing_tells None es = errs (Replace id content if_match if_none_match) NoSuchResource
  replacing_tells (Some n) es = writing_tells _ _ _ n es

searching_tells : (es : List Entry) (row : Row) → IsRow row → IsWholeTable es → Tells (row_name row) (search_for row) (step es (search_for row)).answer
searching_tells es row law whole =
    let P : Request → Type 0 = λ r. Tells (row_name row) r (step es r).answer in
    let (said, says) = row_found es row law whole in
    let list : ListResponse = listing (pos 1) None (found_entries (kind_of row) (Some (filter_of row)) es) in
    subst P (sym (search_is row))
    (lists (kind_of row) (Some (filter_of row)) (pos 1) None list (row_kind row) refl (listed_few list.total list.resources said says.says)
    (only_one (row_name row) list.total list.resources said says.says says.its))

-- ---- a search is read without its filter

without_filter : (kind : Kind) (wanted : Option Expression) (start : ℤ) (count : Option ℤ) (answer : Answer) → Fits (Search kind wanted start count) answer
    → Fits (Search kind None start count) answer
without_filter _ _ _ _ _ (listed_so kind wanted start count list is) = listed_so kind None start count list is
without_filter kind wanted start count _ (refused request error is) = refused (Search kind None start count) error is

-- ---- ids

pub id_lawful : (n : ℕ) → IsId (id_text n)
unfolding id_fault
id_lawful n = grind (arith, nat_tests, id_length n)

module _ {ours : Names} (base : List ℕ) (is_base : IsBase base) (w : World) (q : IsHeard ours w) where
  short : length base ≤ 110
  short = base_short base is_base

  image_short : (name : RecordName) (c : Content) → IsImage w.history w.entries name c → length (compact_text (content_data c)) ≤ 21000
  image_short name c is = image_most w.history w.entries name c q.lawful is

  -- a record with an accepted row is ours
  own_record : (name : RecordName) (row : Row) → Has (rows_of w.history name) row → ours name ≡ true
  own_record = record_ours ours w.history q.mine

  abbrev Keeps : Request → Type 0
  Keeps request = IsWritable request × KeepsLimits base request

  version_most : (name : RecordName) (id tag : List ℕ) (revision : RevisionValue) → ours name ≡ true → IsShownVersion w.entries name id tag revision → (length id ≤ 36) × (length tag ≤ 22)
  version_most name id tag revision own v =
      let turn = slice_get_within (story v.entry) v.turn v.content v.held in
      let few = q.short v.place v.entry v.here in (
        subst (λ (t : List ℕ). length t ≤ 36) (sym v.has_id) (id_short (suc v.place)),
        subst (λ (t : List ℕ). length t ≤ 22) (sym v.has_tag) (tag_short (suc v.turn) (omega (arith, turn, few))),
      )

  replaced_fits : (id : List ℕ) (content : Content) (if_match if_none_match : Condition) (tag : List ℕ) → if_match ≡ Tags (tag ∷ []) → if_none_match ≡ Always
      → Keeps (Replace id content (Tags (tag ∷ [])) Always) → Keeps (Replace id content if_match if_none_match)
  replaced_fits id content if_match if_none_match tag alone plain keeps =
      subst (λ (c : Condition). Keeps (Replace id content c if_none_match)) (sym alone)
      (subst (λ (c : Condition). Keeps (Replace id content (Tags (tag ∷ [])) c)) (sym plain) keeps)

  pub asked_fits : (request : Request) → AskedFairly w.history w.entries request → IsPlain request → Keeps request
  asked_fits (Create content) asked plain = (tt, keeps_limits base is_base (Create content) (create_brief content (image_short (content_name content) content asked)))
  asked_fits (Retrieve kind id if_match if_none_match) asked plain = absurd asked
  asked_fits (Search kind wanted start count) asked plain =
      subst Keeps (sym asked.is) (search_fits base is_base asked.row (row_lawful w.history q.lawful (row_name asked.row) asked.row asked.accepted))
  asked_fits (Replace id content if_match if_none_match) asked plain =
      let own = own_record (content_name content) asked.image.row asked.image.accepted in
      let sizes = version_most (content_name content) id asked.tag asked.older own asked.version in
      let brief = replace_brief id asked.tag content sizes.0 sizes.1 (image_short (content_name content) content asked.image) in
      replaced_fits id content if_match if_none_match asked.tag asked.alone plain
      ((omega arith, tt), keeps_limits base is_base (Replace id content (Tags (asked.tag ∷ [])) Always) brief)

  -- ---- what answers show

  -- it shows a version of a resource of ours
  abbrev IsOwnFact : ShownRecord → Type 0
  IsOwnFact s = (fact : IsFact w.entries s) × (ours fact.entry.name ≡ true)

  own_fact : (s : ShownRecord) (name : RecordName) → ours name ≡ true → content_name s.content ≡ name → IsFact w.entries s → IsOwnFact s
  own_fact s name own its fact = (fact, ap ours (sym (q.whole.named fact.place fact.turn fact.entry s.content fact.here fact.held) ∙ its) ∙ own)

  brief_shown : (s : ShownRecord) → IsOwnFact s → IsBriefShown base s
  brief_shown s (fact, own) =
      let turn = slice_get_within (story fact.entry) fact.turn s.content fact.held in
      let few = q.short fact.place fact.entry fact.here in
      record {
        at = short;
        id = subst (λ (t : List ℕ). length t ≤ 36) (sym fact.id) (id_short (suc fact.place));
        tag = subst (IsWithin 22) (sym fact.version) (within (version_tag (suc fact.turn)) 22 (tag_short (suc fact.turn) (omega (arith, turn, few))));
      }

  shown_short : (s : ShownRecord) → IsOwnFact s → length (compact_text (shown_data base s)) ≤ 22797
  shown_short s (fact, own) =
      let content = q.sized fact.place fact.turn fact.entry s.content fact.here own fact.held in
      omega (arith, shown_most base s (brief_shown s (fact, own)), content)

  location_brief : (s : ShownRecord) → IsOwnFact s → IsWithin 226 (Some (location_text base (content_kind s.content) s.id))
  location_brief s fact = location_within base (content_kind s.content) s.id short (brief_shown s fact).id

  body_brief : (s : ShownRecord) → IsOwnFact s → length (compact_text (shown_data base s)) ≤ 30000
  body_brief s fact = omega (arith, shown_short s fact)

  created_brief : (s : ShownRecord) → IsOwnFact s → IsBriefAnswer base (Created s)
  created_brief s fact =
      record { body = body_brief s fact; long = length_within (compact_text (shown_data base s)) (body_brief s fact); location = location_brief s fact; tag = (brief_shown s fact).tag }

  replaced_brief : (s : ShownRecord) → IsOwnFact s → IsBriefAnswer base (Replaced s)
  replaced_brief s fact =
      record { body = body_brief s fact; long = length_within (compact_text (shown_data base s)) (body_brief s fact); location = location_brief s fact; tag = (brief_shown s fact).tag }

  error_brief : (r : Refusal) → IsBriefAnswer base (Error (error_of r))
  error_brief r =
      let body : length (compact_text (error_data (error_of r))) ≤ 30000 = omega (arith, error_most r) in
      record { body = body; long = length_within (compact_text (error_data (error_of r))) body; location = nothing_within 226; tag = nothing_within 22 }

  list_brief : (name : RecordName) → ours name ≡ true → (list : ListResponse) → list.start ≡ 1 → IsFew list.total list.resources → IsOnly name list.resources
      → ShowsTruly w.entries (answers.List list) → IsBriefAnswer base (answers.List list)
  list_brief name own list start few only shows =
      let each : (s : ShownRecord) → list.resources ≡ s ∷ [] → length (compact_text (shown_data base s)) ≤ 22797 =
      λ s is. shown_short s (own_fact s name own (only s is) (shows 0 s (ap (λ (l : List ShownRecord). slice_get l 0) is))) in
      let most = list_most base list 22797 few.page_few (omega (arith, start)) few.total_few each in
      let body : length (compact_text (list_data base list)) ≤ 30000 = omega (arith, most) in
      record { body = body; long = length_within (compact_text (list_data base list)) body; location = nothing_within 226; tag = nothing_within 22 }

  -- ---- answers of a run

  record IsFitAnswer (request : Request) (answer : Answer) : Type 0 where
    brief : IsBriefAnswer base answer
    fits : ShowsLawfully answer → Fits request answer

  page_fits : (kind : Kind) (name : RecordName) → name.kind ≡ kind → (page : List ShownRecord) → length page ≤ 1 → IsOnly name page → AreLawful page → AreShownOf kind page
  page_fits kind name of_kind [] few only lawful = tt
  page_fits kind name of_kind (s ∷ []) few only lawful =
      (record { of_kind = ap (λ (n : RecordName). n.kind) (only s refl) ∙ of_kind; shown = lawful.0.shown; content = lawful.0.content }, tt)
  page_fits kind name of_kind (s ∷ other ∷ more) few only lawful = absurd (omega (arith, few))

  answer_fits : (name : RecordName) → ours name ≡ true → (request : Request) (answer : Answer) → Tells name request answer → ShowsTruly w.entries answer → IsFitAnswer request answer
  answer_fits name own _ _ (makes content s named its) shows = record {
    brief = created_brief s (own_fact s name own its (shows 0 s refl));
    fits = λ lawful. created content s (record { of_kind = ap (λ (n : RecordName). n.kind) (its ∙ sym named); shown = lawful.shown; content = lawful.content });
  }
  answer_fits name own _ _ (writes id content if_match if_none_match s named its) shows = record {
    brief = replaced_brief s (own_fact s name own its (shows 0 s refl));
    fits = λ lawful. replaced id content if_match if_none_match s
        (record { of_kind = ap (λ (n : RecordName). n.kind) (its ∙ sym named); shown = lawful.shown; content = lawful.content });
  }
  answer_fits name own _ _ (lists kind wanted start count list of_kind first few only) shows = record {
    brief = list_brief name own list first few only shows;
    fits = λ lawful. listed_so kind wanted start count list (record {
      page = page_fits kind name of_kind list.resources few.page_few only lawful;
      on_page = omega (arith, few.page_few);
      total = omega (arith, few.total_few);
      from_one = omega (arith, first);
      start = omega (arith, first);
    });
  }
  answer_fits name own _ _ (errs request r) shows = record { brief = error_brief r; fits = λ lawful. refused request (error_of r) (error_lawful r) }

  -- ---- what is answered

  -- what a whole table answers to a request of ours
  record IsOwnAnswer (request : Request) (answer : Answer) : Type 0 where
    name : RecordName
    own : ours name ≡ true
    tells : Tells name request answer

  answers_own : (request : Request) (es : List Entry) → IsWholeTable es → AskedFairly w.history w.entries request → IsOwnAnswer request (step es request).answer
  answers_own (Create content) es whole asked =
      record { name = content_name content; own = own_record (content_name content) asked.row asked.accepted; tells = creating_tells _ _ es content }
  answers_own (Retrieve kind id if_match if_none_match) es whole asked = absurd asked
  answers_own (Search kind wanted start count) es whole asked =
      let row = asked.row in
      let law = row_lawful w.history q.lawful (row_name row) row asked.accepted in
      let P : Request → Type 0 = λ r. IsOwnAnswer r (step es r).answer in
      subst P (sym asked.is) (record { name = row_name row; own = own_record (row_name row) row asked.accepted; tells = searching_tells es row law whole })
  answers_own (Replace id content if_match if_none_match) es whole asked = record {
    name = content_name content;
    own = own_record (content_name content) asked.image.row asked.image.accepted;
    tells = replacing_tells id content if_match if_none_match _ es;
  }

  -- ---- every message

  answered_fits : (i : ℕ) (request : Request) (answer : Answer) → IsAt w.messages i (Answered request answer) → IsFitAnswer request answer
  answered_fits i request answer at =
      let given = q.said i (Answered request answer) at in
      let its = answers_own request given.entries given.whole (q.asked given.asked.0 request given.asked.1) in
      answer_fits its.name its.own request answer (subst (Tells its.name request) (sym given.is) its.tells) (q.shown i request answer at)

  pub within_limits : (i : ℕ) (message : Message) → IsAt w.messages i message → IsWithinLimits base message
  within_limits i (Asked request) at = asked_fits request (q.asked i request at) (q.said i (Asked request) at)
  within_limits i (Answered request answer) at = keeps_answer_limits base answer (answered_fits i request answer at).brief

  -- an answer is read by its request, whose filter doesn't matter
  read_by : (request : Request) (answer : Answer) → AskedFairly w.history w.entries request → Fits request answer → IsUtf8 (answer_body base answer) → KeepsAnswerLimits base answer
      → AnswersSo (answer_text base false answer) request answer
  read_by (Create content) answer asked fits utf8 limits = answers_are_read base (Create content) answer is_base tt fits utf8 limits
  read_by (Retrieve kind id if_match if_none_match) answer asked fits utf8 limits = absurd asked
  read_by (Search kind wanted start count) answer asked fits utf8 limits =
      any_filter (answer_text base false answer) kind None wanted start count answer
      (answers_are_read base (Search kind None start count) answer is_base tt (without_filter kind wanted start count answer fits) utf8 limits)
  read_by (Replace id content if_match if_none_match) answer asked fits utf8 limits =
      let v = asked.version in
      answers_are_read base (Replace id content if_match if_none_match) answer is_base (subst IsIdText (sym v.has_id) (id_is_text (suc v.place), id_lawful (suc v.place))) fits utf8 limits

  pub is_read : (i : ℕ) (message : Message) → IsAt w.messages i message → IsFormed base message → IsReadAs (message_text base message) message
  is_read i (Asked request) at formed = let keeps = asked_fits request (q.asked i request at) (q.said i (Asked request) at) in formed keeps.0 keeps.1
  is_read i (Answered request answer) at formed =
      let fit = answered_fits i request answer at in
      let given = q.said i (Answered request answer) at in
      read_by request answer (q.asked given.asked.0 request given.asked.1) (fit.fits formed.0) formed.1 (keeps_answer_limits base answer fit.brief)

pub messages_keep_limits : MessagesKeepLimits
messages_keep_limits base events message is_base law has = within_limits base is_base (run empty events) (heard (run empty events) (always_spoken events law)) has.0 message has.1

pub messages_are_read : MessagesAreRead
messages_are_read base events message is_base law has = is_read base is_base (run empty events) (heard (run empty events) (always_spoken events law)) has.0 message has.1

-- among others too, whether the provider has room or not
pub messages_are_read_among : (base : List ℕ) (ours : Names) (all : List Act) (message : Message) → IsBase base → KeepsApart ours all → AllByRecursion IsLawfulAct all
    → Has (run_among empty all).messages message → IsFormed base message → IsReadAs (message_text base message) message
messages_are_read_among base ours all message is_base apart law has =
    is_read base is_base (run_among empty all) (heard (run_among empty all) (always_spoken_among ours all apart law)) has.0 message has.1

-- through resets too
pub messages_are_read_through : (base : List ℕ) (ours : Names) (all : List Happening) (message : Message) → IsBase base → StayApart ours all → AllByRecursion IsLawfulHappening all
    → Has (run_through empty all).messages message → IsFormed base message → IsReadAs (message_text base message) message
messages_are_read_through base ours all message is_base apart law has =
    is_read base is_base (run_through empty all) (heard_through ours empty all (fit_empty ours) apart law) has.0 message has.1

-- from any start
pub messages_are_read_from : MessagesAreReadFrom
messages_are_read_from base ours start all message is_base fit apart law has = is_read base is_base (run_among start all) (heard_from ours start all fit apart law) has.0 message has.1
