-- What the connector asks for is true: a Create and a Replace carry an image, and a Replace overwrites an older version.
use Rattle.std.proofs.Common.{◌≡◌, ℕ, Bool, true, false, not, ◌&&◌, cond, List, Option, Some, None, Result, Ok, Err, refl, ap, sym, ◌∙◌, subst}
use Rattle.std.specs.Option.{option_map, option_and_then}
use Rattle.std.specs.Result.{result_ok}
use Rattle.scim_key.proofs.RecordLaws.{same as same_names}
use Rattle.scim_key.proofs.RevisionLaws.{same, total}
use Rattle.scim_key.specs.Revisions.{RevisionValue, before, same_revision, ◌≺◌, ◌≼◌}
use Rattle.scim_key.specs.declared.records.RecordName.{RecordName}
use Rattle.scim_resource.specs.Contents.{content_name}
use Rattle.scim_resource.specs.declared.contents.Content.{Content}
use Rattle.scim_message.specs.declared.messages.Request.{Request}
use Rattle.provider_core.specs.Stories.{Entry}
use Rattle.source_csv.specs.Records.{row_name, row_revision}
use Rattle.source_csv.specs.declared.rows.Row.{Row}
use Rattle.source_csv.specs.declared.rows.Row.TheVariants.{User, Group}
use Rattle.mapping.specs.Readiness.{GoesOn}
use Rattle.mapping.specs.Images.{image, imaged}
use Rattle.mapping.specs.declared.groups.ImageFault.{ImageFault}
use Rattle.mapping.specs.declared.groups.ImageFault.TheVariants.{MemberWithoutId, Memory}
use Rattle.connector_core.specs.History.{History, same_name, rows_of}
use Rattle.connector_core.specs.Book.{Book, known_id}
use Rattle.connector_core.specs.Asking.{asking, asking_of, asking_with, is_done, request_for, search_for, replacement}
use Rattle.connector_core.specs.declared.asking.Ask.{Ask}
use Rattle.connector_core.specs.declared.asking.Ask.TheVariants.{Nothing, Send}
use Rattle.connector_core.specs.declared.keeps.Keeps.{Keeps}
use Rattle.connector_core.specs.declared.keeps.Keeps.TheVariants.{Revisions, Versions}
use Rattle.connector_core.specs.Learning.{content_revision}
use Rattle.connector_core.specs.declared.knowledge.Known.{Known}
use Rattle.connector_core.specs.declared.knowledge.Seen.{Seen}
use Rattle.connector_core.specs.declared.knowledge.Seen.TheVariants.{Unknown, Absent, At}
use Rattle.world_model.specs.Safe.{Has, id_in, IsImage, IsVersion}
use Rattle.world_model.proofs.Lists.{at_passes, last_has}
use Rattle.world_model.proofs.Order.{at_most_before}
use Rattle.world_model.proofs.Imaging.{image_name, image_revision, image_more}
use Rattle.world_model.specs.Providers.{RisesAt}
use Rattle.world_model.specs.Invariant.{Follows, InSight, InSightAt, AllNoted, AllNotedAt, AskedTruly, AskedTrulyAt}

-- the rows of a record are of that record
pub row_of_record : (history : History) (name : RecordName) (row : Row) → Has (rows_of history name) row → row_name row ≡ name
row_of_record history name row has = (same_names (row_name row) name).0 (at_passes (λ r. same_name (row_name r) name) history has.0 row has.1)

-- what isn't confirmed is of a lower revision than the wanted row
not_done : (c w : RevisionValue) → c ≼ w → same_revision c w ≡ false → c ≺ w
not_done c w within unsettled = go (before c w) refl
  where
    go : (b : Bool) → before c w ≡ b → before c w ≡ true
    go true is = is
    go false is =
        let settled : same_revision c w ≡ true = (same c w).1 (total c w within is) in
        absurd (cc)

-- the case in which something is sent
pub record Sends (book : Book) (known : Known) (request : Request) : Type 0 where
  pub unsettled : is_done known ≡ false
  pub content : Content
  pub has_image : image (known_id book) known.wanted ≡ Some content
  pub is : request_for known.seen known.wanted content ≡ request

pub sends_of : (book : Book) (known : Known) (done : Bool) (found : Result Content ImageFault) (request : Request) → is_done known ≡ done → imaged (known_id book) known.wanted ≡ found
    → cond done Nothing (asking_with found known) ≡ Send request → Sends book known request
sends_of book known true found request unsettled has is = absurd (cc)
sends_of book known false (Err (MemberWithoutId place)) request unsettled has is = absurd (cc)
sends_of book known false (Err Memory) request unsettled has is = absurd (cc)
sends_of book known false (Ok content) request unsettled has is = record { unsettled = unsettled; content = content; has_image = ap result_ok has; is = cc }

pub asked_of : (o : Option Known) (f : Known → Ask) (ask : Ask) → option_map f o ≡ Some ask → (known : Known) × (o ≡ Some known) × (f known ≡ ask)
asked_of None f ask is = absurd (cc)
asked_of (Some known) f ask is = (known, refl, cc)

pub wanted_of : (o : Option Known) (known : Known) → o ≡ Some known → option_map (λ k. k.wanted) o ≡ Some known.wanted
wanted_of o known is = ap (option_map (λ k. k.wanted)) is

search_asked : (keeps : Keeps) (history : History) (es : List Entry) (row : Row) → Has (rows_of history (row_name row)) row → AskedTrulyAt keeps history es (search_for row)
search_asked keeps history es (User row) has = record { row = User row; accepted = has; is = refl }
search_asked keeps history es (Group row) has = record { row = Group row; accepted = has; is = refl }

module _ (keeps : Keeps) (history : History) (es : List Entry) (book : Book) (follows : Follows book history) (noted : AllNotedAt keeps es book) where
  pub knows : GoesOn (known_id book) (id_in es)
  knows name id is = go (book name) refl is
    where
      go : (o : Option Known) → book name ≡ o → option_and_then (λ known. known.id) o ≡ Some id → id_in es name ≡ Some id
      go None in_book has = absurd (cc)
      go (Some known) in_book has = (noted name known in_book).id id has

  module _ (name : RecordName) (known : Known) (in_book : book name ≡ Some known) where
    accepted : Has (rows_of history name) known.wanted
    accepted = last_has (rows_of history name) known.wanted (sym (follows name) ∙ wanted_of (book name) known in_book)

    its_name : row_name known.wanted ≡ name
    its_name = row_of_record history name known.wanted accepted

    wanted_there : Has (rows_of history (row_name known.wanted)) known.wanted
    wanted_there = subst (λ (n : RecordName). Has (rows_of history n) known.wanted) (sym its_name) accepted

    module _ (content : Content) (has_image : image (known_id book) known.wanted ≡ Some content) where
      at_revision : content_revision content ≡ Some (row_revision known.wanted)
      at_revision = image_revision (known_id book) known.wanted content has_image

      content_named : name ≡ content_name content
      content_named = sym (image_name (known_id book) known.wanted content has_image ∙ its_name)

      is_image : IsImage history es name content
      is_image = record {
        row = known.wanted;
        accepted = accepted;
        revision = at_revision;
        image = image_more (known_id book) (id_in es) knows known.wanted content has_image;
      }

      wanted_image : IsImage history es (content_name content) content
      wanted_image = subst (λ (n : RecordName). IsImage history es n content) content_named is_image

      -- what is to be replaced is of a lower revision
      lower : (id tag : List ℕ) (revision : RevisionValue) → is_done known ≡ false → known.confirmed ≼ row_revision known.wanted → InSight es name known id tag revision → (doubted : Bool) → known.is_doubted ≡ doubted
          → revision ≺ row_revision known.wanted
      lower id tag revision unsettled within sight true doubted = sight.lower doubted
      lower id tag revision unsettled within sight false sure =
          at_most_before revision known.confirmed (row_revision known.wanted) (sight.counted sure) (not_done known.confirmed (row_revision known.wanted) within
          (ap (λ (b : Bool). not b && same_revision known.confirmed (row_revision known.wanted)) (sym sure) ∙ unsettled))

      -- so it is, or it isn't higher where no revision is shown
      rises : (kind : Keeps) (id tag : List ℕ) (revision : RevisionValue) → is_done known ≡ false → known.confirmed ≼ row_revision known.wanted → InSightAt kind es name known id tag revision
          → (older : RevisionValue) × IsVersion es name id tag older × RisesAt kind older (row_revision known.wanted)
      rises Revisions id tag revision unsettled within sight = (revision, sight.version, lower id tag revision unsettled within sight known.is_doubted refl)
      rises Versions id tag revision unsettled within sight = (sight.held, sight.version, sight.up)

      overwrites : (id tag : List ℕ) (revision : RevisionValue) → is_done known ≡ false → InSightAt keeps es name known id tag revision → AskedTrulyAt keeps history es (replacement id tag content)
      overwrites id tag revision unsettled sight =
          let (older, version, up) = rises keeps id tag revision unsettled (noted name known in_book).within sight in
          record {
            image = wanted_image;
            tag = tag;
            alone = refl;
            older = older;
            newer = row_revision known.wanted;
            version = subst (λ (n : RecordName). IsVersion es n id tag older) content_named version;
            revision = at_revision;
            rises = up;
          }

      request_asked : (seen : Seen) → known.seen ≡ seen → is_done known ≡ false → AskedTrulyAt keeps history es (request_for seen known.wanted content)
      request_asked Unknown is_seen unsettled = search_asked keeps history es known.wanted wanted_there
      request_asked Absent is_seen unsettled = wanted_image
      request_asked (At id tag revision) is_seen unsettled = overwrites id tag revision unsettled ((noted name known in_book).seen id tag revision is_seen)

  pub what_is_asked_at : (name : RecordName) (request : Request) → asking book name ≡ Some (Send request) → AskedTrulyAt keeps history es request
  what_is_asked_at name request is =
      let (known, in_book, asks) = asked_of (book name) (asking_of book) (Send request) is in
      let sends = sends_of book known (is_done known) (imaged (known_id book) known.wanted) request refl refl asks in
      subst (λ (r : Request). AskedTrulyAt keeps history es r) sends.is (request_asked name known in_book sends.content sends.has_image known.seen refl sends.unsettled)

pub what_is_asked : (history : History) (es : List Entry) (book : Book) → Follows book history → AllNoted es book → (name : RecordName) (request : Request) → asking book name ≡ Some (Send request)
    → AskedTruly history es request
what_is_asked = what_is_asked_at Revisions
