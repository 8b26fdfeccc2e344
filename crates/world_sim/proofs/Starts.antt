-- What is held at the start: whatever images somebody wrote by valid rows, that is a start.
use Rattle.std.proofs.Common.{arith, ◌≡◌, ℕ, ◌≤◌, true, List, [], ◌∷◌, ◌++◌, length, Some, None, Option, Ok, inl, inr, refl, ap, sym, ◌∙◌, subst, length-append}
use Rattle.std.specs.List.{slice_get}
use Rattle.std.specs.Result.{result_ok}
use Rattle.scim_key.specs.Identifiers.{id_text}
use Rattle.scim_key.specs.declared.records.RecordName.{RecordName}
use Rattle.scim_resource.specs.Rows.{StoredRecord, last_version}
use Rattle.scim_resource.specs.declared.contents.Content.{Content}
use Rattle.scim_message.specs.declared.messages.Request.{Request}
use Rattle.scim_message.specs.declared.messages.Request.TheVariants.{Create, Retrieve, Search, Replace}
use Rattle.provider_core.specs.Rows.{row_named}
use Rattle.provider_core.specs.Stories.{Entry, story, first_entry, renewed, renew_at, step}
use Rattle.provider_core.specs.Tables.{Writes, Writes.nothing, Writes.created, Writes.replaced}
use Rattle.provider_core.proofs.TableLaws.{at_one, at_push, at_renew, steps_write}
use Rattle.source_csv.specs.Records.{IsRow, row_name}
use Rattle.source_csv.specs.Rows.{GroupFields}
use Rattle.source_csv.specs.declared.rows.Row.{Row}
use Rattle.source_csv.specs.declared.rows.Row.TheVariants.{User, Group}
use Rattle.mapping.specs.Images.{group_image, image, image_by, user_image}
use Rattle.mapping.specs.Ready.{ready}
use Rattle.mapping.specs.declared.ids.Ready.{Ready}
use Rattle.mapping.specs.declared.ids.Ready.TheVariants.{Ids, Waits}
use Rattle.world_model.specs.Invariant.{Names}
use Rattle.world_model.specs.Others.{Theirs, acts, run_among}
use Rattle.world_model.specs.Safe.{Has, IsAt, rows as world_rows}
use Rattle.world_model.specs.World.{World}
use Rattle.world_model.proofs.Growing.{ids_grow}
use Rattle.world_model.proofs.InOrder.{act_in_order}
use Rattle.world_model.proofs.Keeping.{step_grows}
use Rattle.world_model.proofs.Sizes.{image_size}
use Rattle.world_sim.specs.Acts.{write_request}
use Rattle.world_sim.specs.Amid.{after_act, asked_by}
use Rattle.world_sim.specs.Fitting.{IsFitStart, IsShort}
use Rattle.world_sim.specs.Imaging.{id_found, id_in, request_told, row_request}
use Rattle.world_sim.specs.declared.acting.Act.TheVariants.{Holds}
use Rattle.world_sim.specs.declared.imaging.RowRequest.{RowRequest}
use Rattle.world_sim.specs.declared.imaging.RowRequest.TheVariants as requests

-- ---- a short content is written

abbrev AsksShort : Request → Type 0
AsksShort (Create content) = IsShort content
AsksShort (Retrieve kind id if_match if_none_match) = Unit {0}
AsksShort (Search kind wanted start count) = Unit {0}
AsksShort (Replace id content if_match if_none_match) = IsShort content

abbrev HoldShort : Names → List Entry → Type 0
HoldShort ours es = (e : Entry) (content : Content) → Has es e → ours e.name ≡ true → Has (story e) content → IsShort content

abbrev HaveFew : List Entry → Type 0
HaveFew es = (e : Entry) → Has es e → length (story e) ≤ last_version

-- one content more
push_short : (contents : List Content) (last : Content) → ((c : Content) → Has contents c → IsShort c) → IsShort last → (c : Content) → Has (contents ++ last ∷ []) c → IsShort c
push_short contents last all short c has = elim (at_push contents last has.0 c has.1) [
  | inl old ↦ all c (has.0, old)
  | inr new ↦ subst IsShort new.1 short
]

short_by : (ours : Names) {es : List Entry} {request : Request} {fs : List Entry} → Writes es request fs → AsksShort request → HoldShort ours es → HoldShort ours fs
short_by ours (nothing {es = es}) asks short = short
short_by ours (created {es = es} content free) asks short = λ e c has mine held. elim (at_push es (first_entry content) has.0 e has.1) [
  | inl old ↦ short e c (has.0, old) mine held
  | inr new ↦ subst IsShort (at_one content held.0 c (subst (λ (x : Entry). IsAt (story x) held.0 c) (sym new.1) held.1)) asks
]
short_by ours (replaced {es = es} i e content m n there named below holds) asks short = λ f c has mine held.
    let (d, here, which) = at_renew i content es has.0 f has.1 in
    elim which [
      | inl old ↦ short d c (has.0, here) (ap (λ (x : Entry). ours x.name) (sym old) ∙ mine) (subst (λ (x : Entry). Has (story x) c) old held)
      | inr new ↦
          let its : ours d.name ≡ true = ap (λ (x : Entry). ours x.name) (sym new.1) ∙ mine in
          push_short (story d) content (λ x is. short d x (has.0, here) its is) asks c (subst (λ (x : Entry). Has (story x) c) new.1 held)
    ]

few_by : {es : List Entry} {request : Request} {fs : List Entry} → Writes es request fs → HaveFew es → HaveFew fs
few_by (nothing {es = es}) few = few
few_by (created {es = es} content free) few = λ e has. elim (at_push es (first_entry content) has.0 e has.1) [
  | inl old ↦ few e (has.0, old)
  | inr new ↦ subst (λ (x : Entry). length (story x) ≤ last_version) new.1 (omega arith)
]
few_by (replaced {es = es} i e content m n there named below holds) few = λ f has.
    let (d, here, which) = at_renew i content es has.0 f has.1 in
    elim which [
      | inl old ↦ subst (λ (x : Entry). length (story x) ≤ last_version) (sym old) (few d (has.0, here))
      | inr new ↦
          let same : Some d ≡ Some e = sym here ∙ ap (slice_get es) new.0 ∙ there in
          let entry : d ≡ e = cc in
          subst (λ (x : Entry). length (story x) ≤ last_version) (sym (new.1 ∙ ap (λ x. renewed x content) entry)) (omega (arith, below, length-append (story e) (content ∷ [])))
    ]

fit_theirs : (ours : Names) (w : World) (request : Request) → AsksShort request → IsFitStart ours w → IsFitStart ours (acts w (Theirs request))
fit_theirs ours w request asks fit =
    let whole = fit.is_start.in_order.whole in
    let grows = step_grows w.history w.entries request whole in
    record {
      is_start = record {
        in_order = act_in_order w (Theirs request) tt fit.is_start.in_order;
        ids = λ name known id is its. ids_grow w.entries (step w.entries request).entries grows.entries grows.whole name id (fit.is_start.ids name known id is its);
        unseen = fit.is_start.unseen;
        unsent = fit.is_start.unsent;
      };
      mine = fit.mine;
      short = short_by ours (steps_write w.entries request) asks fit.short;
      few = few_by (steps_write w.entries request) fit.few;
    }

-- ---- an image is written

-- the ids of rows are spelled from numbers
ids_spelled : (rows : List StoredRecord) (name : RecordName) (id : List ℕ) → id_in rows name ≡ Some id → (n : ℕ) × (id ≡ id_text n)
ids_spelled rows name id is = go (row_named name rows) is
  where
    go : (o : Option StoredRecord) → id_found o ≡ Some id → (n : ℕ) × (id ≡ id_text n)
    go None was = absurd (cc)
    go (Some row) was = (row.number, cc)

asks_short : (found : Option StoredRecord) (content : Content) → IsShort content → AsksShort (write_request found content)
asks_short None content short = short
asks_short (Some row) content short = short

module _ (ours : Names) (w : World) (fit : IsFitStart ours w) where
  fit_group : (row : GroupFields) (held : Option StoredRecord) (found : Ready) → ((content : Content) → image_by found row ≡ Ok content → IsShort content)
      → IsFitStart ours (run_among w (asked_by (request_told (Group row) held (image_by found row))))
  fit_group row held (Ids ids) short = fit_theirs ours w (write_request held (group_image ids row)) (asks_short held (group_image ids row) (short (group_image ids row) refl)) fit
  fit_group row held (Waits place) short = fit

  fit_row : (rows : List StoredRecord) (row : Row) → IsRow row → IsFitStart ours (run_among w (asked_by (row_request rows row)))
  fit_row rows (User row) law =
      let held = row_named (row_name (User row)) rows in
      let short : IsShort (user_image row) = image_size (id_in rows) (ids_spelled rows) (User row) (user_image row) law refl in
      fit_theirs ours w (write_request held (user_image row)) (asks_short held (user_image row) short) fit
  fit_row rows (Group row) law =
      fit_group row (row_named (row_name (Group row)) rows) (ready (id_in rows) row.members)
      (λ content is. image_size (id_in rows) (ids_spelled rows) (Group row) content law (ap result_ok is))

  -- what is held by a valid row belongs to a start
  pub fit_held : (row : Row) → IsRow row → IsFitStart ours (after_act w (Holds row))
  fit_held row law = fit_row (world_rows w) row law
