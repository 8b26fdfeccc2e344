-- When a record is done, and what the connector asks for until then.
use Rattle.std.proofs.Common.{◌≡◌, ℕ, suc, Bool, true, false, not, ◌&&◌, cond, List, [], ◌∷◌, map, Option, Some, Result, Ok, refl, ap, inl, inr, ◌∙◌, subst}
use Rattle.std.proofs.lemmas.Bool.{and_parts}
use Rattle.std.specs.Option.{option_map}
use Rattle.std.specs.Result.{result_ok}
use Rattle.scim_key.proofs.RevisionLaws.{same, total, later_above_second, later_is_one}
use Rattle.scim_key.specs.Revisions.{RevisionValue, later, same_revision, ◌≼◌}
use Rattle.scim_key.specs.declared.records.Kind.TheVariants as kinds
use Rattle.scim_key.specs.declared.records.RecordName.{RecordName}
use Rattle.scim_resource.specs.Contents.{content_name}
use Rattle.scim_resource.specs.declared.contents.Content.{Content}
use Rattle.source_csv.specs.Records.{row_name, row_revision}
use Rattle.source_csv.specs.declared.rows.Row.{Row}
use Rattle.source_csv.specs.declared.rows.Row.TheVariants.{User, Group}
use Rattle.mapping.specs.Readiness.{HaveIds}
use Rattle.mapping.proofs.ReadyLemmas.{means}
use Rattle.mapping.specs.declared.ids.Ready.{Ready}
use Rattle.mapping.specs.Images.{group_image, image_by, imaged, user_image}
use Rattle.mapping.specs.declared.groups.ImageFault.{ImageFault}
use Rattle.connector_core.specs.History.{members_of, user}
use Rattle.connector_core.specs.Book.{Book, known_id}
use Rattle.connector_core.specs.Asking.{asking, asking_of, asking_with, is_done, request_for}
use Rattle.connector_core.specs.Learning.{content_revision}
use Rattle.connector_core.specs.declared.asking.Ask.TheVariants.{Nothing, Send}
use Rattle.connector_core.specs.declared.knowledge.Known.{Known}
use Rattle.world_model.specs.Safe.{IsAt}
use Rattle.world_model.proofs.Imaging.{image_name, image_revision}

-- ---- done

abbrev pub IsDone : Known → Type 0
IsDone known = is_done known ≡ true

pub done_if : (known : Known) → known.is_doubted ≡ false → known.confirmed ≡ row_revision known.wanted → IsDone known
done_if known sure equal =
    ap (λ (b : Bool). not b && same_revision known.confirmed (row_revision known.wanted)) sure ∙ (same known.confirmed (row_revision known.wanted)).1 equal

pub if_done : (known : Known) → IsDone known → known.confirmed ≡ row_revision known.wanted
if_done known done =
    (same known.confirmed (row_revision known.wanted)).0 (and_parts (not known.is_doubted) (same_revision known.confirmed (row_revision known.wanted)) done).1

-- if c is up to w, w is the later of the two
pub later_top : (c w : RevisionValue) → c ≼ w → later c w ≡ w
later_top c w within = elim (later_is_one c w) [
  | inl first ↦ first ∙ total c w within (subst (λ (r : RevisionValue). w ≼ r) first (later_above_second c w))
  | inr second ↦ second
]

-- ---- the image of the wanted row

-- with the ids that the book knows
abbrev pub HasImage : Book → Known → Content → Type 0
HasImage book known content = imaged (known_id book) known.wanted ≡ Ok content

pub image_named : (book : Book) (known : Known) (content : Content) → HasImage book known content → content_name content ≡ row_name known.wanted
image_named book known content has = image_name (known_id book) known.wanted content (ap result_ok has)

pub image_revised : (book : Book) (known : Known) (content : Content) → HasImage book known content → content_revision content ≡ Some (row_revision known.wanted)
image_revised book known content has = image_revision (known_id book) known.wanted content (ap result_ok has)

abbrev HasId : (id_of : RecordName → Option (List ℕ)) → (key : List ℕ) → Type 0
HasId id_of key = (id : List ℕ) × (id_of (user key) ≡ Some id)

have_ids : (id_of : RecordName → Option (List ℕ)) (keys : List (List ℕ)) → ((i : ℕ) (key : List ℕ) → IsAt keys i key → HasId id_of key) → (ids : List (List ℕ)) × HaveIds id_of keys ids
have_ids id_of [] each = ([], refl)
have_ids id_of (key ∷ keys) each =
    let (id, has) = each 0 key refl in
    let (ids, rest) = have_ids id_of keys (λ i k at. each (suc i) k at) in
    (id ∷ ids, ap (λ o. o ∷ map (λ k. id_of (user k)) keys) has ∙ ap (λ (os : List (Option (List ℕ))). Some id ∷ os) rest)

-- a row of a user has an image, and so has one of a group whose members all have an id
pub user_imaged : (id_of : RecordName → Option (List ℕ)) (row : Row) → (row_name row).kind ≡ kinds.User → (content : Content) × (imaged id_of row ≡ Ok content)
user_imaged id_of (User row) is = (user_image row, refl)
user_imaged id_of (Group row) is = absurd (cc)

pub members_imaged : (id_of : RecordName → Option (List ℕ)) (row : Row) → ((i : ℕ) (key : List ℕ) → IsAt (members_of row) i key → HasId id_of key)
    → (content : Content) × (imaged id_of row ≡ Ok content)
members_imaged id_of (User row) each = (user_image row, refl)
members_imaged id_of (Group row) each =
    let (ids, all) = have_ids id_of row.members each in
    (group_image ids row, ap (λ (r : Ready). image_by r row) ((means.ids id_of row.members ids).1 all))

-- ---- asked for

pub asked : (book : Book) (name : RecordName) (known : Known) (content : Content) → book name ≡ Some known → is_done known ≡ false → HasImage book known content
    → asking book name ≡ Some (Send (request_for known.seen known.wanted content))
asked book name known content in_book undone has =
    ap (option_map (asking_of book)) in_book
    ∙ ap (λ (b : Bool). Some (cond b Nothing (asking_with (imaged (known_id book) known.wanted) known))) undone
    ∙ ap (λ (r : Result Content ImageFault). Some (asking_with r known)) has

pub asks_nothing : (book : Book) (name : RecordName) (known : Known) → book name ≡ Some known → IsDone known → asking book name ≡ Some Nothing
asks_nothing book name known in_book done =
    ap (option_map (asking_of book)) in_book
    ∙ ap (λ (b : Bool). Some (cond b Nothing (asking_with (imaged (known_id book) known.wanted) known))) done
