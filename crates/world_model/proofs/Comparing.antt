-- What it says of a content that it is as it is wanted: its name and its revision are those of the wanted row.
use Rattle.std.proofs.Common.{◌≡◌, ℕ, Bool, true, ◌&&◌, List, Option, Some, None, Result, Ok, Err, refl, ap, sym, ◌∙◌}
use Rattle.std.proofs.lemmas.Bool.{and_parts}
use Rattle.std.proofs.lemmas.Slice.Eq.{bytes_eq-Decides}
use Rattle.std.specs.Result.{result_ok}
use Rattle.scim_key.proofs.RevisionLaws.{same}
use Rattle.scim_key.specs.Names.{key_of}
use Rattle.scim_key.specs.Records.{same_kind}
use Rattle.scim_key.specs.Revisions.{RevisionValue}
use Rattle.scim_key.specs.declared.records.Kind.{Kind}
use Rattle.scim_key.specs.declared.records.Kind.TheVariants as kinds
use Rattle.scim_key.specs.declared.records.RecordName.{RecordName}
use Rattle.scim_resource.specs.Contents.{content_kind, content_name, spelled_name}
use Rattle.scim_resource.specs.declared.contents.Content.{Content}
use Rattle.scim_resource.specs.declared.user_texts.UserText.TheVariants as texts
use Rattle.source_csv.specs.Records.{row_name, row_revision}
use Rattle.source_csv.specs.declared.rows.Row.{Row}
use Rattle.comparing.proofs.SameLemmas.{agrees_with_itself}
use Rattle.comparing.specs.Aspects.{agree, is_same, same_revision_if}
use Rattle.comparing.specs.declared.aspects.Aspect.TheVariants as aspect
use Rattle.mapping.specs.Images.{image, imaged}
use Rattle.mapping.specs.declared.groups.ImageFault.{ImageFault}
use Rattle.connector_core.specs.Book.{Book, known_id}
use Rattle.connector_core.specs.Learning.{content_revision, is_image, is_wanted}
use Rattle.connector_core.specs.declared.knowledge.Known.{Known}
use Rattle.world_model.proofs.Imaging.{image_name, image_revision}

-- ---- two contents that agree

abbrev all_nine : (a b c d e f g h i : Bool) → Bool
all_nine a b c d e f g h i = a && (b && (c && (d && (e && (f && (g && (h && (i && true))))))))

second_and_last : (a b c d e f g h i : Bool) → all_nine a b c d e f g h i ≡ true → (b ≡ true) × (i ≡ true)
second_and_last a b c d e f g h i all =
    let p = and_parts a (b && (c && (d && (e && (f && (g && (h && (i && true)))))))) all in
    let q = and_parts b (c && (d && (e && (f && (g && (h && (i && true))))))) p.1 in
    let r = and_parts c (d && (e && (f && (g && (h && (i && true)))))) q.1 in
    let s = and_parts d (e && (f && (g && (h && (i && true))))) r.1 in
    let t = and_parts e (f && (g && (h && (i && true)))) s.1 in
    let u = and_parts f (g && (h && (i && true))) t.1 in
    let v = and_parts g (h && (i && true)) u.1 in
    let w = and_parts h (i && true) v.1 in
    (q.0, (and_parts i true w.1).0)

in_name_and_revision : (wanted found : Content) → is_same wanted found ≡ true
    → (agree wanted found aspect.Name ≡ true) × (agree wanted found aspect.Revision ≡ true)
in_name_and_revision wanted found all = second_and_last (agree wanted found aspect.Active) (agree wanted found aspect.Name)
    (agree wanted found (aspect.Text texts.GivenName)) (agree wanted found (aspect.Text texts.FamilyName))
    (agree wanted found (aspect.Text texts.ExternalId)) (agree wanted found (aspect.Text texts.Department))
    (agree wanted found aspect.Emails) (agree wanted found aspect.Members) (agree wanted found aspect.Revision) all

kinds_same : (k l : Kind) → same_kind k l ≡ true → l ≡ k
kinds_same kinds.User kinds.User is = refl
kinds_same kinds.User kinds.Group is = absurd (cc)
kinds_same kinds.Group kinds.User is = absurd (cc)
kinds_same kinds.Group kinds.Group is = refl

revisions_same : (a b : Option RevisionValue) → same_revision_if a b ≡ true → b ≡ a
revisions_same None None is = refl
revisions_same None (Some r) is = absurd (cc)
revisions_same (Some r) None is = absurd (cc)
revisions_same (Some r) (Some s) is = ap Some (sym ((same r s).0 is))

pub same_named : (wanted found : Content) → is_same wanted found ≡ true → content_name found ≡ content_name wanted
same_named wanted found is =
    let parts = and_parts (same_kind (content_kind wanted) (content_kind found)) _ (in_name_and_revision wanted found is).0 in
    let kind = kinds_same (content_kind wanted) (content_kind found) parts.0 in
    let spelled = sym ((bytes_eq-Decides (spelled_name wanted) (spelled_name found)).0 parts.1) in
    λ i. record { kind = kind i; key = key_of (spelled i) }

pub same_revised : (wanted found : Content) → is_same wanted found ≡ true → content_revision found ≡ content_revision wanted
same_revised wanted found is = revisions_same (content_revision wanted) (content_revision found) (in_name_and_revision wanted found is).1

-- ---- a content that is as it is wanted

image_if : (r : Result Content ImageFault) (content : Content) → is_image r content ≡ true → (image : Content) × (r ≡ Ok image) × (is_same image content ≡ true)
image_if (Ok image) content is = (image, refl, is)
image_if (Err fault) content is = absurd (cc)

pub wanted_named : (book : Book) (known : Known) (content : Content) → is_wanted book known content ≡ true → content_name content ≡ row_name known.wanted
wanted_named book known content is =
    let (image, has, agrees) = image_if (imaged (known_id book) known.wanted) content is in
    same_named image content agrees ∙ image_name (known_id book) known.wanted image (ap result_ok has)

pub wanted_revised : (book : Book) (known : Known) (content : Content) → is_wanted book known content ≡ true → content_revision content ≡ Some (row_revision known.wanted)
wanted_revised book known content is =
    let (image, has, agrees) = image_if (imaged (known_id book) known.wanted) content is in
    same_revised image content agrees ∙ image_revision (known_id book) known.wanted image (ap result_ok has)

-- the image itself is as it is wanted
pub image_wanted : (book : Book) (known : Known) (content : Content) → imaged (known_id book) known.wanted ≡ Ok content → is_wanted book known content ≡ true
image_wanted book known content has = ap (λ (r : Result Content ImageFault). is_image r content) has ∙ agrees_with_itself content

pub imaged_if : (id_of : RecordName → Option (List ℕ)) (row : Row) (content : Content) → image id_of row ≡ Some content → imaged id_of row ≡ Ok content
imaged_if id_of row content is = go (imaged id_of row) is
  where
    go : (r : Result Content ImageFault) → result_ok r ≡ Some content → r ≡ Ok content
    go (Ok c) has = cc
    go (Err fault) has = absurd (cc)
