-- Whatever the provider's rows are, its answer fits the request.
use Rattle.std.proofs.Common.{◌≡◌, ℕ, ℤ, pos, negsuc, zero, suc, ◌<◌, ◌≤◌, ◌^◌, ◌-◌, ◌&&◌, Bool, true, false, cond, List, [], ◌∷◌, length, map, take, drop, Option, Some, None, inl, inr, refl, sym, subst, arith, length-take, nat_le}
use Rattle.std.proofs.lemmas.Bool.Decides.{nat_tests}
use Rattle.std.proofs.lemmas.Slice.Eq.{bytes_eq-Decides}
use Rattle.std.specs.List.{AllByRecursion, filter, find}
use Rattle.scim_key.specs.Identifiers.{id_text}
use Rattle.scim_key.specs.declared.records.Kind.{Kind}
use Rattle.scim_key.specs.declared.records.Kind.TheVariants as kinds
use Rattle.scim_version.specs.Tags.{version_tag}
use Rattle.scim_version.specs.Conditions.{holds_match, holds_none_match}
use Rattle.scim_version.specs.declared.conditions.Condition.{Condition}
use Rattle.scim_resource.specs.Contents.{IsContent, content_kind, content_name}
use Rattle.scim_resource.specs.Rows.{StoredRecord, ShownRecord, IsShownOf, shown, last_version}
use Rattle.scim_resource.specs.declared.contents.Content.{Content}
use Rattle.scim_resource.proofs.Tags.{id_is_text, version_tag_is_tag, version_tag_is_short, version_tag_is_text}
use Rattle.scim_filter.specs.Expressions.{Expression}
use Rattle.scim_message.specs.Fitting.{Fits, Fits.created, Fits.found as found_so, Fits.unmodified, Fits.listed, Fits.replaced, Fits.refused as refused_so, AreShownOf}
use Rattle.scim_message.specs.Refusals.{error_of}
use Rattle.scim_message.specs.declared.messages.Answer.TheVariants.{NotModified, Error}
use Rattle.scim_message.specs.declared.messages.Request.{Request}
use Rattle.scim_message.specs.declared.messages.Request.TheVariants.{Create, Retrieve, Search, Replace}
use Rattle.scim_message.specs.declared.refusals.Refusal.{Refusal}
use Rattle.scim_message.specs.declared.refusals.Refusal.TheVariants.{NameTaken, LimitReached, NoSuchResource, NameFixed, OtherVersion}
use Rattle.provider_core.specs.Outcomes.{outcome, creating, reading, retrieving, writing, replacing, first_row, next_row, most_resources}
use Rattle.provider_core.specs.Rows.{same_kind, has_id, row_named, row_with_id, if_of_kind, resource}
use Rattle.provider_core.specs.Searches.{is_hit, is_wanted, found, first_place, page_size, listing}
use Rattle.provider_core.proofs.RowLaws.{find-passes}
use Rattle.scim_http.specs.Laws.{fixed_error}
use Rattle.scim_client.specs.Spelling.{IsShortNumber}
use Rattle.scim_client.proofs.AnswerLaws.{answers_are_read}
use Rattle.world_sim.specs.Answering.{IsHeld, AreHeld, IsAskable, AnswersFit, AnswersAreReadBack}
use Rattle.world_sim.proofs.BodySizes.{error_lawful}
use Rattle.world_sim.proofs.Fitting.{id_lawful}

-- ---- what a row shows

kinds_same : (k l : Kind) → same_kind k l ≡ true → k ≡ l
kinds_same kinds.User kinds.User same = refl
kinds_same kinds.User kinds.Group same = absurd (cc)
kinds_same kinds.Group kinds.User same = absurd (cc)
kinds_same kinds.Group kinds.Group same = refl

shown_so : (kind : Kind) (row : StoredRecord) → IsHeld row → content_kind row.content ≡ kind → IsShownOf kind (shown row)
shown_so kind row held of_kind = record {
  of_kind = of_kind;
  shown = record {
    id = id_lawful row.number;
    id_text = id_is_text row.number;
    tag = version_tag_is_tag row.version held.stored.version_within;
    short = version_tag_is_short row.version held.stored.version_within;
    text = version_tag_is_text row.version held.stored.version_within;
  };
  content = held.content;
}

-- ---- the row of an id

found_held : (p : StoredRecord → Bool) (rows : List StoredRecord) (row : StoredRecord) → AllByRecursion IsHeld rows → find p rows ≡ Some row → IsHeld row
found_held p [] row held is = absurd (cc)
found_held p (r ∷ rows) row held is = here (p r) (found_held p rows row held.1) is
  where
    here : (b : Bool) → (find p rows ≡ Some row → IsHeld row) → cond b (Some r) (find p rows) ≡ Some row → IsHeld row
    here true later was = let same : r ≡ row = cc in subst IsHeld same held.0
    here false later was = later was

-- the row is the resource of this type with this id
record IsResource (kind : Kind) (id : List ℕ) (row : StoredRecord) : Type 0 where
  held : IsHeld row
  of_kind : content_kind row.content ≡ kind
  has_id : id_text row.number ≡ id

resource_is : (kind : Kind) (id : List ℕ) (rows : List StoredRecord) (row : StoredRecord) → AllByRecursion IsHeld rows → resource kind id rows ≡ Some row → IsResource kind id row
resource_is kind id rows row held is = go (row_with_id id rows) refl is
  where
    passed : (r : StoredRecord) → row_with_id id rows ≡ Some r → (b : Bool) → same_kind kind (content_kind r.content) ≡ b → cond b (Some r) None ≡ Some row → IsResource kind id row
    passed r there true of_kind was =
        let same : r ≡ row = cc in
        subst (IsResource kind id) same (record {
          held = found_held (has_id id) rows r held there;
          of_kind = sym (kinds_same kind (content_kind r.content) of_kind);
          has_id = sym ((bytes_eq-Decides id (id_text r.number)).0 (find-passes (has_id id) rows r there));
        })
    passed r there false of_kind was = absurd (cc)

    go : (o : Option StoredRecord) → row_with_id id rows ≡ o → if_of_kind kind o ≡ Some row → IsResource kind id row
    go None there was = absurd (cc)
    go (Some r) there was = passed r there (same_kind kind (content_kind r.content)) refl was

-- ---- refusals

refusal_fits : (request : Request) (refusal : Refusal) → Fits request (Error (error_of refusal))
refusal_fits request refusal = refused_so request (error_of refusal) (error_lawful refusal)

fixed_fits : (request : Request) → Fits request (Error fixed_error)
fixed_fits request = refused_so request fixed_error (record { status = (omega arith, omega arith); scim_type = tt; detail = omega arith })

module _ (rows : List StoredRecord) (held : AreHeld rows) where
  -- ---- a Create

  first_held : (content : Content) → IsContent content → nat_le most_resources (length rows) ≡ false → IsHeld (first_row (length rows) content)
  first_held content lawful room = record {
    stored = record { numbered = omega arith; number_within = grind (arith, nat_tests, room); versioned = omega arith; version_within = omega arith };
    content = lawful;
  }

  creating_fits : (taken : Option StoredRecord) (full : Bool) (content : Content) → IsContent content → nat_le most_resources (length rows) ≡ full
      → Fits (Create content) (creating taken full (length rows) content).answer
  creating_fits (Some row) full content lawful is = refusal_fits (Create content) NameTaken
  creating_fits None true content lawful is = refusal_fits (Create content) LimitReached
  creating_fits None false content lawful is =
      created content (shown (first_row (length rows) content)) (shown_so (content_kind content) (first_row (length rows) content) (first_held content lawful is) refl)

  -- ---- a Retrieve

  reading_fits : (matches fresh : Bool) (kind : Kind) (id : List ℕ) (m n : Condition) (row : StoredRecord) → IsResource kind id row
      → Fits (Retrieve kind id m n) (reading matches fresh row).answer
  reading_fits false fresh kind id m n row is = refusal_fits (Retrieve kind id m n) OtherVersion
  reading_fits true true kind id m n row is = found_so kind id m n (shown row) (shown_so kind row is.held is.of_kind)
  reading_fits true false kind id m n row is =
      let tag = version_tag row.version in
      subst (λ (k : Kind). Fits (Retrieve kind id m n) (NotModified k (id_text row.number) tag)) (sym is.of_kind)
      (subst (λ (i : List ℕ). Fits (Retrieve kind id m n) (NotModified kind i tag)) (sym is.has_id)
      (unmodified kind id m n tag (version_tag_is_tag row.version is.held.stored.version_within)))

  retrieving_fits : (kind : Kind) (id : List ℕ) (m n : Condition) (o : Option StoredRecord) → resource kind id rows ≡ o → Fits (Retrieve kind id m n) (retrieving o m n).answer
  retrieving_fits kind id m n None is = refusal_fits (Retrieve kind id m n) NoSuchResource
  retrieving_fits kind id m n (Some row) is =
      reading_fits (holds_match m (Some row.version)) (holds_none_match n (Some row.version)) kind id m n row (resource_is kind id rows row held.each is)

  -- ---- a Replace

  next_held : (row : StoredRecord) (content : Content) → IsHeld row → IsContent content → nat_le last_version row.version ≡ false → IsHeld (next_row row content)
  next_held row content of_row lawful room = record {
    stored = record {
      numbered = of_row.stored.numbered;
      number_within = of_row.stored.number_within;
      versioned = omega arith;
      version_within = grind (arith, nat_tests, room);
    };
    content = lawful;
  }

  writing_fits : (same at_last holds : Bool) (id : List ℕ) (content : Content) (m n : Condition) (row : StoredRecord) → IsHeld row → IsContent content
      → nat_le last_version row.version ≡ at_last → Fits (Replace id content m n) (writing same at_last holds row content).answer
  writing_fits false at_last holds id content m n row of_row lawful is = refusal_fits (Replace id content m n) NameFixed
  writing_fits true true holds id content m n row of_row lawful is = refusal_fits (Replace id content m n) LimitReached
  writing_fits true false false id content m n row of_row lawful is = refusal_fits (Replace id content m n) OtherVersion
  writing_fits true false true id content m n row of_row lawful is =
      replaced id content m n (shown (next_row row content)) (shown_so (content_kind content) (next_row row content) (next_held row content of_row lawful is) refl)

  replacing_fits : (id : List ℕ) (content : Content) (m n : Condition) (o : Option StoredRecord) → IsContent content → resource (content_kind content) id rows ≡ o
      → Fits (Replace id content m n) (replacing o content m n).answer
  replacing_fits id content m n None lawful is = refusal_fits (Replace id content m n) NoSuchResource
  replacing_fits id content m n (Some row) lawful is =
      writing_fits _ _ _ id content m n row (resource_is (content_kind content) id rows row held.each is).held lawful refl

-- ---- a Search

hits_shown : (kind : Kind) (wanted : Option Expression) (rows : List StoredRecord) → AllByRecursion IsHeld rows → AreShownOf kind (found kind wanted rows)
hits_shown kind wanted [] held = tt
hits_shown kind wanted (row ∷ rows) held = here (same_kind kind (content_kind row.content)) (is_wanted wanted row) refl (hits_shown kind wanted rows held.1)
  where
    here : (b c : Bool) → same_kind kind (content_kind row.content) ≡ b → AreShownOf kind (found kind wanted rows)
        → AreShownOf kind (map shown (cond (b && c) (row ∷ filter (is_hit kind wanted) rows) (filter (is_hit kind wanted) rows)))
    here true true of_kind later = (shown_so kind row held.0 (sym (kinds_same kind (content_kind row.content) of_kind)), later)
    here true false of_kind later = later
    here false c of_kind later = later

dropped : (kind : Kind) (n : ℕ) (page : List ShownRecord) → AreShownOf kind page → AreShownOf kind (drop n page)
dropped kind zero page are = are
dropped kind (suc n) [] are = tt
dropped kind (suc n) (s ∷ page) are = dropped kind n page are.1

taken_first : (kind : Kind) (n : ℕ) (page : List ShownRecord) → AreShownOf kind page → AreShownOf kind (take n page)
taken_first kind zero page are = tt
taken_first kind (suc n) [] are = tt
taken_first kind (suc n) (s ∷ page) are = (are.0, taken_first kind n page are.1)

page_small : (count : Option ℤ) → page_size count ≤ 200
page_small None = omega arith
page_small (Some (pos n)) = omega arith
page_small (Some (negsuc n)) = omega arith

few_hits : (p : StoredRecord → Bool) (rows : List StoredRecord) → length (map shown (filter p rows)) ≤ length rows
few_hits p [] = omega arith
few_hits p (row ∷ rows) = here (p row) (few_hits p rows)
  where
    here : (b : Bool) → length (map shown (filter p rows)) ≤ length rows → length (map shown (cond b (row ∷ filter p rows) (filter p rows))) ≤ suc (length rows)
    here true few = omega (arith, few)
    here false few = omega (arith, few)

starts_from_one : (start : ℤ) → 1 ≤ first_place start
starts_from_one (pos n) = omega arith
starts_from_one (negsuc n) = omega arith

starts_within : (start : ℤ) → IsShortNumber start → first_place start < 2 ^ 64
starts_within (pos n) short = omega (arith, short)
starts_within (negsuc n) short = omega arith

search_fits : (rows : List StoredRecord) → AreHeld rows → (kind : Kind) (wanted : Option Expression) (start : ℤ) (count : Option ℤ) → IsShortNumber start
    → Fits (Search kind wanted start count) (outcome rows (Search kind wanted start count)).answer
search_fits rows held kind wanted start count short =
    let hits = found kind wanted rows in
    let from = drop (first_place start - 1) hits in
    listed kind wanted start count (listing start count hits) (record {
      page = taken_first kind (page_size count) from (dropped kind (first_place start - 1) hits (hits_shown kind wanted rows held.each));
      on_page = omega (arith, length-take (page_size count) from, page_small count);
      total = omega (arith, few_hits (is_hit kind wanted) rows, held.few);
      from_one = starts_from_one start;
      start = starts_within start short;
    })

-- ---- every request

outcome_fits : (rows : List StoredRecord) (request : Request) → AreHeld rows → IsAskable request → Fits request (outcome rows request).answer
outcome_fits rows (Create content) held askable = creating_fits rows held (row_named (content_name content) rows) _ content askable.parts.1.0 refl
outcome_fits rows (Retrieve kind id m n) held askable = retrieving_fits rows held kind id m n (resource kind id rows) refl
outcome_fits rows (Search kind wanted start count) held askable = search_fits rows held kind wanted start count askable.start
outcome_fits rows (Replace id content m n) held askable = replacing_fits rows held id content m n (resource (content_kind content) id rows) askable.parts.1.0 refl

pub answers_fit : AnswersFit
answers_fit rows request answer held askable may = elim may [
  | inl by_rows ↦ subst (Fits request) (sym by_rows) (outcome_fits rows request held askable)
  | inr other ↦ elim other [
    | inl refuses ↦ subst (Fits request) (sym refuses.1) (refusal_fits request refuses.0)
    | inr fixed ↦ subst (Fits request) (sym fixed) (fixed_fits request)
  ]
]

pub answers_are_read_back : AnswersAreReadBack
answers_are_read_back base rows request answer is_base held askable may utf8 limits =
    answers_are_read base request answer is_base askable.parts.0 (answers_fit rows request answer held askable may) utf8 limits
