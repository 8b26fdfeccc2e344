-- What the connector learns of a provider without versions: it takes each resource under the same tag, and what it knows is
-- true under the tag of some version.
use Rattle.std.proofs.Common.{◌≡◌, ℕ, zero, suc, Bool, true, false, cond, List, [], ◌∷◌, ◌++◌, map, Option, Some, None, inl, inr, refl, ap, sym, ◌∙◌, subst}
use Rattle.std.specs.Option.{option_map, option_and_then}
use Rattle.scim_key.specs.Revisions.{no_revision}
use Rattle.scim_key.specs.declared.records.RecordName.{RecordName}
use Rattle.scim_resource.specs.Rows.{ShownRecord, shown_under}
use Rattle.scim_message.specs.Messages.{unconditional}
use Rattle.scim_message.specs.declared.messages.Request.{Request}
use Rattle.scim_message.specs.declared.messages.Request.TheVariants.{Create, Retrieve, Search, Replace}
use Rattle.scim_message.specs.declared.messages.Answer.{Answer}
use Rattle.provider_core.specs.Stories.{Entry, AllGoOn, step}
use Rattle.provider_core.specs.Tables.{IsWholeTable, shown_in}
use Rattle.provider_core.proofs.TableLaws.{at_push}
use Rattle.source_csv.specs.declared.rows.Row.{Row}
use Rattle.connector_core.specs.Book.{Book, forgotten, known_id, wanted_row, put, wanting, undoubted, doubting, doubted, reopened}
use Rattle.connector_core.specs.History.{same_name}
use Rattle.connector_core.specs.Keeps.{filling, forgot, heard, no_version}
use Rattle.connector_core.specs.declared.keeps.Keeps.TheVariants.{Versions}
use Rattle.connector_core.specs.Learning.{Finding, Shows, Sight, Lesson, absent, nothing_new, agreeing, differing, forgetting, is_absent, is_image, is_under, none_sighted, sighted}
use Rattle.mapping.specs.Images.{imaged}
use Rattle.connector_core.specs.declared.knowledge.Known.{Known}
use Rattle.connector_core.specs.declared.knowledge.Seen.{Seen}
use Rattle.connector_core.specs.declared.knowledge.Seen.TheVariants.{Unknown, Absent, At}
use Rattle.world_model.specs.World.{Message, Answered}
use Rattle.world_model.specs.Safe.{IsAt}
use Rattle.world_model.specs.Invariant.{NotedAt, StandsFor}
use Rattle.world_model.specs.Unversioned.{taken_for}
use Rattle.world_model.proofs.Hearing.{at_with, shown_in_with, forgot_truly}
use Rattle.world_model.proofs.Learned.{LearnsShown, LearnsShown.sees, LearnsShown.agrees, LearnsShown.differs, LearnsShown.only, LearnsShown.hides, Learns, Learns.shows, Learns.misses, Learns.is_taken, Learns.is_stale}
use Rattle.world_model.proofs.Noting.{Compares, its_tag, shown_noted, none_sighted_noted, forgetting_noted, shown_keeps_id, none_sighted_id, forgetting_id}
use Rattle.world_model.proofs.Telling.{stands_grow}

-- ---- under another tag

abbrev pub under_tag : List ℕ → Seen → Seen
under_tag tag Unknown = Unknown
under_tag tag Absent = Absent
under_tag tag (At id other revision) = At id tag revision

-- the same, but what was seen is under this tag
abbrev pub retagged : List ℕ → Known → Known
retagged tag known = record known { seen = under_tag tag known.seen }

-- a tag for each record
abbrev pub Tagging : Type 0
Tagging = RecordName → List ℕ

abbrev pub retagged_book : Tagging → Book → Book
retagged_book tags book name = option_map (retagged (tags name)) (book name)

-- this tag for this record, and the others as before
abbrev pub with_tag : Tagging → RecordName → List ℕ → Tagging
with_tag tags name tag other = cond (same_name name other) tag (tags other)

same_books : (a b : Book) → ((name : RecordName) → a name ≡ b name) → a ≡ b
same_books a b same = λ i. λ name. same name i

-- ---- the tags and the book

module _ (tags : Tagging) (book : Book) where
  pub same_ids : known_id (retagged_book tags book) ≡ known_id book
  same_ids = λ i. λ name. go (tags name) (book name) i
    where
      go : (tag : List ℕ) (o : Option Known) → option_and_then (λ (k : Known). k.id) (option_map (retagged tag) o) ≡ option_and_then (λ (k : Known). k.id) o
      go tag None = refl
      go tag (Some known) = refl

  pub same_wanted : (name : RecordName) → wanted_row (retagged_book tags book) name ≡ wanted_row book name
  same_wanted name = go (tags name) (book name)
    where
      go : (tag : List ℕ) (o : Option Known) → option_map (λ (k : Known). k.wanted) (option_map (retagged tag) o) ≡ option_map (λ (k : Known). k.wanted) o
      go tag None = refl
      go tag (Some known) = refl

  pub put_retagged : (name : RecordName) (tag : List ℕ) (now : Known) → put (retagged_book tags book) name (retagged tag now) ≡ retagged_book (with_tag tags name tag) (put book name now)
  put_retagged name tag now = same_books _ _ (λ q. go (same_name name q) (tags q) (book q))
    where
      go : (b : Bool) (old : List ℕ) (o : Option Known) → cond b (Some (retagged tag now)) (option_map (retagged old) o) ≡ option_map (retagged (cond b tag old)) (cond b (Some now) o)
      go true old o = refl
      go false old o = refl

  pub row_retagged : (row : Row) (name : RecordName) → put (retagged_book tags book) name (wanting (retagged_book tags book name) row)
      ≡ retagged_book (with_tag tags name (tags name)) (put book name (wanting (book name) row))
  row_retagged row name = ap (put (retagged_book tags book) name) (go (tags name) (book name)) ∙ put_retagged name (tags name) (wanting (book name) row)
    where
      go : (tag : List ℕ) (o : Option Known) → wanting (option_map (retagged tag) o) row ≡ retagged tag (wanting o row)
      go tag None = refl
      go tag (Some known) = refl

  pub reopened_retagged : reopened (retagged_book tags book) ≡ retagged_book tags (reopened book)
  reopened_retagged = same_books _ _ (λ q. go (tags q) (book q))
    where
      go : (tag : List ℕ) (o : Option Known) → option_map undoubted (option_map (retagged tag) o) ≡ option_map (retagged tag) (option_map undoubted o)
      go tag None = refl
      go tag (Some known) = refl

  pub doubted_retagged : (name : RecordName) → doubted (retagged_book tags book) name ≡ retagged_book tags (doubted book name)
  doubted_retagged name = same_books _ _ (λ q. go (same_name name q) (tags q) (book q))
    where
      go : (b : Bool) (tag : List ℕ) (o : Option Known) → cond b (option_map doubting (option_map (retagged tag) o)) (option_map (retagged tag) o)
          ≡ option_map (retagged tag) (cond b (option_map doubting o) o)
      go true tag None = refl
      go true tag (Some known) = refl
      go false tag o = refl

-- ---- what an answer stands for

-- under the tag of some version, it stands for that version
abbrev pub StandsUnder : List Entry → ShownRecord → Type 0
StandsUnder es s = (tag : List ℕ) × StandsFor es (shown_under tag s)

abbrev pub RepliesTruly : List Entry → Request → Answer → Type 0
RepliesTruly es request answer = (i : ℕ) (s : ShownRecord) → IsAt (shown_in (heard Versions request answer)) i s → StandsUnder es s

abbrev pub AllReplyTruly : List Entry → List Message → Type 0
AllReplyTruly es messages = (i : ℕ) (request : Request) (answer : Answer) → IsAt messages i (Answered request answer) → RepliesTruly es request answer

pub replies_grow : (es fs : List Entry) (messages : List Message) → AllGoOn es fs → AllReplyTruly es messages → AllReplyTruly fs messages
replies_grow es fs messages all told i request answer at j s shown =
    let stands = told i request answer at j s shown in
    (stands.0, stands_grow Versions es fs (shown_under stands.0 s) all stands.1)

pub replies_push : (es : List Entry) (messages : List Message) (message : Message) → AllReplyTruly es messages
    → ((request : Request) (answer : Answer) → message ≡ Answered request answer → RepliesTruly es request answer) → AllReplyTruly es (messages ++ message ∷ [])
replies_push es messages message told new i request answer at = elim (at_push messages message i (Answered request answer) at) [
  | inl old ↦ told i request answer old
  | inr last ↦ new request answer last.1
]

at_mapped : {X Y : Type 0} (f : X → Y) (xs : List X) (i : ℕ) (x : X) → IsAt xs i x → IsAt (map f xs) i (f x)
at_mapped f [] i x at = absurd (cc)
at_mapped f (y ∷ xs) zero x at = let same : y ≡ x = cc in ap (λ z. Some (f z)) same
at_mapped f (y ∷ xs) (suc i) x at = at_mapped f xs i x at

-- what stands in the place of a resource doesn't depend on conditions, and has the version that is shown
same_filling : (request : Request) (s : ShownRecord) → filling (unconditional request) s ≡ filling request s
same_filling (Create c) s = refl
same_filling (Retrieve kind id m n) s = refl
same_filling (Search kind wanted start count) s = refl
same_filling (Replace id c m n) s = refl

filling_under : (request : Request) (tag other : List ℕ) (s : ShownRecord) → shown_under tag (filling request (shown_under other s)) ≡ shown_under tag (filling request s)
filling_under (Create c) tag other s = refl
filling_under (Retrieve kind id m n) tag other s = refl
filling_under (Search kind wanted start count) tag other s = refl
filling_under (Replace id c m n) tag other s = refl

under_its_own : (s : ShownRecord) (tag : List ℕ) → s.version ≡ Some tag → shown_under tag s ≡ s
under_its_own s tag is = λ i. record s { version = sym is i }

pub taken_truly : (es : List Entry) (request : Request) → RepliesTruly (step es (unconditional request)).entries request (taken_for (step es (unconditional request)).answer)
taken_truly es request i s at =
    let after = step es (unconditional request) in
    let asked = unconditional request in
    let (y, at_y, same_y) = at_with (filling request) (taken_for after.answer) i s at in
    let (x, at_x, same_x) = at_with (shown_under no_version) (forgot after.answer) i y at_y in
    let there : IsAt (shown_in (heard Versions asked (forgot after.answer))) i (filling asked x) =
    subst (λ (xs : List ShownRecord). IsAt xs i (filling asked x)) (sym (shown_in_with (filling asked) (forgot after.answer))) (at_mapped (filling asked) (shown_in (forgot after.answer)) i x at_x) in
    let stands = forgot_truly es asked i (filling asked x) there in
    let (tag, tagged) = its_tag after.entries (filling asked x) stands in
    let same : shown_under tag s ≡ filling asked x =
    ap (shown_under tag) (sym same_y ∙ ap (filling request) (sym same_x)) ∙ filling_under request tag no_version x ∙ ap (shown_under tag) (sym (same_filling request x))
    ∙ under_its_own (filling asked x) tag tagged in
    (tag, subst (StandsFor after.entries) (sym same) stands)

-- ---- what is learnt

-- what is known of a record afterwards is true under the tag of some version, and a known id stays
pub record IsTaught (es : List Entry) (name : RecordName) (known now : Known) : Type 0 where
  pub tag : List ℕ
  pub noted : NotedAt Versions es name (retagged tag now)
  pub keeps : (id : List ℕ) → known.id ≡ Some id → now.id ≡ Some id

none_sighted_retagged : (tag : List ℕ) (id : Option (List ℕ)) (known : Known) → (none_sighted id (retagged tag known)).known ≡ retagged tag (none_sighted id known).known
none_sighted_retagged tag None known = refl
none_sighted_retagged tag (Some id) known = go known.is_doubted
  where
    go : (doubted : Bool) → (cond doubted (absent (retagged tag known)) (nothing_new (retagged tag known))).known ≡ retagged tag (cond doubted (absent known) (nothing_new known)).known
    go true = refl
    go false = refl

forgetting_retagged : (tag : List ℕ) (concerned : Bool) (known : Known) → (forgetting concerned (retagged tag known)).known ≡ retagged tag (forgetting concerned known).known
forgetting_retagged tag true known = refl
forgetting_retagged tag false known = refl

-- what isn't in sight any more is true as well
hidden_taught : (es : List Entry) (name : RecordName) (known now : Known) → IsTaught es name known now → IsTaught es name known (forgotten now)
hidden_taught es name known now t = record {
  tag = t.tag;
  noted = subst (NotedAt Versions es name) (forgetting_retagged t.tag true now) (forgetting_noted es name true (retagged t.tag now) t.noted);
  keeps = t.keeps;
}

module _ (es : List Entry) (tags : Tagging) (book : Book) (name : RecordName) (known : Known) (whole : IsWholeTable es) (old : List ℕ) (n : NotedAt Versions es name (retagged old known))
    (compares : Compares es (retagged_book tags book) name (retagged old known)) where
  -- what is learnt from a resource is learnt from it under another tag
  module _ (tag : List ℕ) where
    abbrev LearnsThere : ShownRecord → Lesson → Type 0
    LearnsThere s l = LearnsShown Versions (retagged_book tags book) name (retagged old known) (shown_under tag s) l

    taught : (s : ShownRecord) → StandsFor es (shown_under tag s) → (now : Known) {l : Lesson} → LearnsThere s l → l.known ≡ retagged tag now → IsTaught es name known now
    taught s stands now {l} learns same =
        let noted = shown_noted es (retagged_book tags book) name (retagged old known) whole compares Versions (shown_under tag s) n stands learns in
        record {
          tag = tag;
          noted = subst (NotedAt Versions es name) same noted;
          keeps = λ id has. ap (λ (k : Known). k.id) (sym same) ∙ shown_keeps_id es (retagged_book tags book) name (retagged old known) n id has (shown_under tag s) noted.id learns;
        }

    shown_taught : (s : ShownRecord) → StandsFor es (shown_under tag s) → {l : Lesson} → LearnsShown Versions book name known s l → IsTaught es name known l.known
    shown_taught s stands (sees sight fits) =
        let there : Sight = record sight { tag = tag } in
        taught s stands (sighted known sight).known
        (sees there (record { named = fits.named; its_id = fits.its_id; revision = fits.revision; within = fits.within; tag = refl; id = fits.id })) refl
    shown_taught s stands (agrees other wanted tagged) =
        let same : is_image (imaged (known_id (retagged_book tags book)) known.wanted) s.content ≡ true =
        ap (λ (ids : RecordName → Option (List ℕ)). is_image (imaged ids known.wanted) s.content) (same_ids tags book) ∙ wanted in
        taught s stands (agreeing known s.id other).known (agrees tag same refl) refl
    shown_taught s stands (differs sight d) =
        let there : Sight = record sight { tag = tag } in
        let same : is_image (imaged (known_id (retagged_book tags book)) known.wanted) s.content ≡ false =
        ap (λ (ids : RecordName → Option (List ℕ)). is_image (imaged ids known.wanted) s.content) (same_ids tags book) ∙ d.other in
        taught s stands (differing known sight).known
        (differs there (record { doubted = d.doubted; other = same; named = d.named; revision = d.revision; within = d.within; tag = refl; id = d.id })) refl
    shown_taught s stands (only other o) =
        taught s stands (differing known (record { id = s.id; revision = no_revision; tag = other })).known (only tag (record { kind = o.kind; named = o.named; revision = o.revision; tagged = refl })) refl
    shown_taught s stands (hides u learns) = hidden_taught es name known _ (shown_taught (shown_under no_version s) stands learns)

  pub lesson_taught : {said : Finding} {l : Lesson} → ((s : ShownRecord) → said ≡ Shows s → StandsUnder es s) → Learns Versions book name known said l → IsTaught es name known l.known
  lesson_taught shown (shows s l learns) = let stands = shown s refl in shown_taught stands.0 s stands.1 learns
  lesson_taught shown misses = record {
    tag = old;
    noted = subst (NotedAt Versions es name) (none_sighted_retagged old known.id known) (none_sighted_noted es name known.id (retagged old known) n);
    keeps = λ id has. none_sighted_id known.id known ∙ has;
  }
  lesson_taught shown is_taken = record {
    tag = old;
    noted = subst (NotedAt Versions es name) (forgetting_retagged old (is_absent known.seen) known) (forgetting_noted es name (is_absent known.seen) (retagged old known) n);
    keeps = λ id has. forgetting_id (is_absent known.seen) known ∙ has;
  }
  lesson_taught shown (is_stale if_match) = record {
    tag = old;
    noted = subst (NotedAt Versions es name) (forgetting_retagged old (is_under if_match known.seen) known) (forgetting_noted es name (is_under if_match known.seen) (retagged old known) n);
    keeps = λ id has. forgetting_id (is_under if_match known.seen) known ∙ has;
  }
