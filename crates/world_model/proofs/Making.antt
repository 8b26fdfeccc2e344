-- The connector knows the ids of all members of each image that it asked for, or that the provider holds of our records.
use Rattle.std.proofs.Common.{◌≡◌, ℕ, Bool, true, false, cond, List, [], ◌∷◌, ◌++◌, Option, Some, None, inl, inr, refl, ap, sym, ◌∙◌, subst}
use Rattle.std.proofs.lemmas.Bool.{cases_Bool}
use Rattle.std.specs.Option.{option_map, option_and_then}
use Rattle.std.specs.List.{slice_get}
use Rattle.scim_key.proofs.RecordLaws.{same as same_names}
use Rattle.scim_key.specs.declared.records.RecordName.{RecordName}
use Rattle.scim_resource.specs.Contents.{content_name}
use Rattle.scim_resource.specs.declared.contents.Content.{Content}
use Rattle.scim_message.specs.declared.messages.Request.{Request}
use Rattle.scim_message.specs.declared.messages.Request.TheVariants.{Create, Retrieve, Search, Replace}
use Rattle.provider_core.specs.Stories.{Entry, story, first_entry, renewed, renew_at, step}
use Rattle.provider_core.specs.Tables.{Writes, Writes.nothing, Writes.created, Writes.replaced}
use Rattle.provider_core.proofs.TableLaws.{at_one, at_push, at_renew, steps_write}
use Rattle.source_csv.specs.Records.{row_name}
use Rattle.source_csv.specs.declared.rows.Row.{Row}
use Rattle.source_csv.specs.declared.rows.Row.TheVariants.{User, Group}
use Rattle.mapping.specs.Images.{image, imaged}
use Rattle.mapping.specs.Readiness.{GoesOn}
use Rattle.connector_core.specs.History.{History, same_name, rows_of}
use Rattle.connector_core.specs.Asking.{asking, asking_of, is_done, request_for, search_for}
use Rattle.connector_core.specs.Book.{Book, known_id, put, wanting, with_row, undoubted, doubting, doubted, reopened}
use Rattle.connector_core.specs.declared.asking.Ask.TheVariants.{Send}
use Rattle.connector_core.specs.declared.knowledge.Known.{Known}
use Rattle.connector_core.specs.declared.knowledge.Seen.{Seen}
use Rattle.connector_core.specs.declared.knowledge.Seen.TheVariants.{Unknown, Absent, At}
use Rattle.world_model.specs.World.{Message, Asked}
use Rattle.world_model.specs.Untroubled.{request_content}
use Rattle.world_model.specs.Safe.{IsAt, Has}
use Rattle.world_model.specs.Invariant.{Names, Follows, IsMade, AllMade}
use Rattle.world_model.specs.Others.{LeavesAlone}
use Rattle.world_model.proofs.Imaging.{image_name, image_more}
use Rattle.world_model.proofs.Lists.{last_has}
use Rattle.world_model.proofs.Sending.{asked_of, sends_of, row_of_record, wanted_of}

-- ---- more rows, and more ids

abbrev pub KeepsRows : History → History → Type 0
KeepsRows history history' = (name : RecordName) (row : Row) → Has (rows_of history name) row → Has (rows_of history' name) row

made_more : (history history' : History) (book book' : Book) (name : RecordName) (content : Content) → KeepsRows history history' → GoesOn (known_id book) (known_id book')
    → IsMade history book name content → IsMade history' book' name content
made_more history history' book book' name content rows ids made =
    record { row = made.row; accepted = rows name made.row made.accepted; image = image_more (known_id book) (known_id book') ids made.row content made.image }

pub all_made_more : {ours : Names} (history history' : History) (es : List Entry) (book book' : Book) (messages : List Message) → KeepsRows history history' → GoesOn (known_id book) (known_id book')
    → AllMade ours history es book messages → AllMade ours history' es book' messages
all_made_more history history' es book book' messages rows ids all = record {
  asked = λ request content has is. made_more history history' book book' (content_name content) content rows ids (all.asked request content has is);
  held = λ e content has mine in_story. made_more history history' book book' e.name content rows ids (all.held e content has mine in_story);
}

pub with_row_ids : (book : Book) (row : Row) → GoesOn (known_id book) (known_id (with_row book row))
with_row_ids book row name id is = go (same_name (row_name row) name) refl
  where
    wanting_id : (o : Option Known) → option_and_then (λ (k : Known). k.id) o ≡ Some id → (wanting o row).id ≡ Some id
    wanting_id None has = absurd (cc)
    wanting_id (Some known) has = has

    go : (b : Bool) → same_name (row_name row) name ≡ b → option_and_then (λ (k : Known). k.id) (cond b (Some (wanting (book (row_name row)) row)) (book name)) ≡ Some id
    go true same = wanting_id (book (row_name row)) (ap (option_and_then (λ (k : Known). k.id)) (ap book ((same_names (row_name row) name).0 same)) ∙ is)
    go false other = is

pub reopened_ids : (book : Book) → GoesOn (known_id book) (known_id (reopened book))
reopened_ids book name id is = go (book name) is
  where
    go : (o : Option Known) → option_and_then (λ (k : Known). k.id) o ≡ Some id → option_and_then (λ (k : Known). k.id) (option_map undoubted o) ≡ Some id
    go None has = absurd (cc)
    go (Some known) has = has

pub doubted_ids : (book : Book) (doubt : RecordName) → GoesOn (known_id book) (known_id (doubted book doubt))
doubted_ids book doubt name id is = go (same_name doubt name) (book name) is
  where
    go : (b : Bool) (o : Option Known) → option_and_then (λ (k : Known). k.id) o ≡ Some id → option_and_then (λ (k : Known). k.id) (cond b (option_map doubting o) o) ≡ Some id
    go true None has = absurd (cc)
    go true (Some known) has = has
    go false o has = has

-- what was put in the place of a record
pub put_one : (b : Bool) (now k : Known) (o : Option Known) → b ≡ true → cond b (Some now) o ≡ Some k → now ≡ k
put_one true now k o same is = cc
put_one false now k o same is = absurd (cc)

-- if the record's id stays, every id does
pub put_ids : (book : Book) (name : RecordName) (known now : Known) → book name ≡ Some known → ((id : List ℕ) → known.id ≡ Some id → now.id ≡ Some id)
    → GoesOn (known_id book) (known_id (put book name now))
put_ids book name known now in_book stays q id is = elim (cases_Bool (same_name name q)) [
  | inl same ↦
      let here : book q ≡ Some known = ap book (sym ((same_names name q).0 same)) ∙ in_book in
      let has : known.id ≡ Some id = sym (ap (option_and_then (λ (k : Known). k.id)) here) ∙ is in
      ap (λ (b : Bool). option_and_then (λ (k : Known). k.id) (cond b (Some now) (book q))) same ∙ stays id has
  | inr other ↦ ap (λ (b : Bool). option_and_then (λ (k : Known). k.id) (cond b (Some now) (book q))) other ∙ is
]

-- ---- a message is sent

-- what is asked for is an image of the wanted row
module _ (history : History) (book : Book) (follows : Follows book history) where
  search_asks_none : (row : Row) (content : Content) → request_content (search_for row) ≡ Some content → ⊥
  search_asks_none (User row) content is = absurd (cc)
  search_asks_none (Group row) content is = absurd (cc)

  pub its_content : (seen : Seen) (row : Row) (c content : Content) → request_content (request_for seen row c) ≡ Some content → c ≡ content
  its_content Unknown row c content is = absurd (search_asks_none row content is)
  its_content Absent row c content is = cc
  its_content (At id tag revision) row c content is = cc

  pub asks_made : (name : RecordName) (request : Request) (content : Content) → asking book name ≡ Some (Send request) → request_content request ≡ Some content
      → IsMade history book (content_name content) content
  asks_made name request content is asked =
      let (known, in_book, asks) = asked_of (book name) (asking_of book) (Send request) is in
      let sends = sends_of book known (is_done known) (imaged (known_id book) known.wanted) request refl refl asks in
      let same : sends.content ≡ content = its_content known.seen known.wanted sends.content content (ap request_content sends.is ∙ asked) in
      let image : image (known_id book) known.wanted ≡ Some content = sends.has_image ∙ ap Some same in
      let accepted : Has (rows_of history name) known.wanted = last_has (rows_of history name) known.wanted (sym (follows name) ∙ wanted_of (book name) known in_book) in
      let named : name ≡ content_name content = sym (image_name (known_id book) known.wanted content image ∙ row_of_record history name known.wanted accepted) in
      record { row = known.wanted; accepted = subst (λ (n : RecordName). Has (rows_of history n) known.wanted) named accepted; image = image }

pub sent_made : {ours : Names} (history : History) (es : List Entry) (book : Book) (messages : List Message) (message : Message)
    → ((request : Request) (content : Content) → message ≡ Asked request → request_content request ≡ Some content → IsMade history book (content_name content) content)
    → AllMade ours history es book messages → AllMade ours history es book (messages ++ message ∷ [])
sent_made history es book messages message new all = record {
  asked = λ request content has is. elim (at_push messages message has.0 (Asked request) has.1) [
    | inl old ↦ all.asked request content (has.0, old) is
    | inr last ↦ new request content last.1 is
  ];
  held = all.held;
}

-- ---- a request comes to the provider

-- what a request writes of our records is made
abbrev pub WritesMade : Names → History → Book → Request → Type 0
WritesMade ours history book request = (content : Content) → request_content request ≡ Some content → ours (content_name content) ≡ true → IsMade history book (content_name content) content

-- who leaves our records alone writes none of them
pub writes_none : (ours : Names) (request : Request) → LeavesAlone ours request → (content : Content) → request_content request ≡ Some content → ours (content_name content) ≡ true → ⊥
writes_none ours (Create c) alone content is mine =
    let same : c ≡ content = cc in
    let clash : false ≡ true = sym alone ∙ ap (λ (x : Content). ours (content_name x)) same ∙ mine in
    absurd (cc)
writes_none ours (Retrieve kind id m n) alone content is mine = absurd (cc)
writes_none ours (Search kind wanted start count) alone content is mine = absurd (cc)
writes_none ours (Replace id c m n) alone content is mine =
    let same : c ≡ content = cc in
    let clash : false ≡ true = sym alone ∙ ap (λ (x : Content). ours (content_name x)) same ∙ mine in
    absurd (cc)

pub alone_made : (ours : Names) (history : History) (book : Book) (request : Request) → LeavesAlone ours request → WritesMade ours history book request
alone_made ours history book request alone content is mine = absurd (writes_none ours request alone content is mine)

abbrev Held : Names → History → List Entry → Book → Type 0
Held ours history es book = (e : Entry) (content : Content) → Has es e → ours e.name ≡ true → Has (story e) content → IsMade history book e.name content

module _ (ours : Names) (history : History) (book : Book) where
  created_made : (es : List Entry) (content : Content) → Held ours history es book → WritesMade ours history book (Create content) → Held ours history (es ++ first_entry content ∷ []) book
  created_made es content held writes e c has mine in_story = elim (at_push es (first_entry content) has.0 e has.1) [
    | inl old ↦ held e c (has.0, old) mine in_story
    | inr new ↦ subst (λ (x : Entry). ours x.name ≡ true → Has (story x) c → IsMade history book x.name c) new.1 (λ its in_first.
        subst (λ (x : Content). IsMade history book (content_name content) x) (at_one content in_first.0 c in_first.1) (writes content refl its)) mine in_story
  ]

  renewed_made : (es : List Entry) (i : ℕ) (e : Entry) (content : Content) → IsAt es i e → e.name ≡ content_name content → Held ours history es book
      → ((its : Content) → content ≡ its → ours (content_name its) ≡ true → IsMade history book (content_name its) its) → Held ours history (renew_at i content es) book
  renewed_made es i e content there named held writes f c has mine in_story =
      let (d, here, which) = at_renew i content es has.0 f has.1 in
      elim which [
        | inl old ↦ held f c (has.0, subst (λ (x : Entry). IsAt es has.0 x) (sym old) here) mine in_story
        | inr new ↦
            let same : Some d ≡ Some e = sym here ∙ ap (slice_get es) new.0 ∙ there in
            let entry : d ≡ e = cc in
            subst (λ (x : Entry). ours x.name ≡ true → Has (story x) c → IsMade history book x.name c) (sym (new.1 ∙ ap (λ x. renewed x content) entry)) renewed_one mine in_story
      ]
    where
      renewed_one : ours e.name ≡ true → Has (story e ++ content ∷ []) c → IsMade history book e.name c
      renewed_one its in_renewed = elim (at_push (story e) content in_renewed.0 c in_renewed.1) [
        | inl old ↦ held e c (i, there) its (in_renewed.0, old)
        | inr new ↦ subst (λ (x : Content). IsMade history book e.name x) new.1
            (subst (λ (n : RecordName). IsMade history book n content) (sym named) (writes content refl (ap ours (sym named) ∙ its)))
      ]

  made_by : {es : List Entry} {request : Request} {fs : List Entry} → Writes es request fs → Held ours history es book → WritesMade ours history book request → Held ours history fs book
  made_by nothing held writes = held
  made_by (created {es = es} content free) held writes = created_made es content held writes
  made_by (replaced {es = es} i e content m n there named below holds) held writes = renewed_made es i e content there named held (λ its same mine. writes its (ap Some same) mine)

  pub step_made : (es : List Entry) (messages : List Message) (request : Request) → WritesMade ours history book request → AllMade ours history es book messages
      → AllMade ours history (step es request).entries book messages
  step_made es messages request writes all = record { asked = all.asked; held = made_by (steps_write es request) all.held writes }
