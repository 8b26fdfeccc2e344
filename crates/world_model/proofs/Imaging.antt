-- Images: which record and revision they are of, and that they stay if more ids become known.
use Rattle.std.proofs.Common.{◌≡◌, ℕ, List, [], Option, Some, refl, ap, sym, ◌∙◌}
use Rattle.std.specs.Result.{result_ok}
use Rattle.scim_key.specs.declared.records.RecordName.{RecordName}
use Rattle.scim_resource.specs.Contents.{content_name}
use Rattle.scim_resource.specs.declared.contents.Content.{Content}
use Rattle.source_csv.specs.Records.{row_name, row_revision}
use Rattle.source_csv.specs.Rows.{GroupFields}
use Rattle.source_csv.specs.declared.rows.Row.{Row}
use Rattle.source_csv.specs.declared.rows.Row.TheVariants.{User, Group}
use Rattle.mapping.specs.Readiness.{GoesOn}
use Rattle.mapping.specs.Ready.{ready}
use Rattle.mapping.specs.declared.ids.Ready.{Ready}
use Rattle.mapping.specs.declared.ids.Ready.TheVariants.{Ids, Waits}
use Rattle.mapping.specs.Images.{group_image, image, image_by, user_image}
use Rattle.mapping.proofs.ImageLemmas.{images_stay}
use Rattle.connector_core.specs.History.{members_of}
use Rattle.connector_core.specs.Learning.{content_revision}

abbrev IdOf : Type 0
IdOf = RecordName → Option (List ℕ)

-- the image of a row whose members have these ids
abbrev pub image_with : List (List ℕ) → Row → Content
image_with ids (User row) = user_image row
image_with ids (Group row) = group_image ids row

of_ready : (r : Ready) (row : GroupFields) (c : Content) → result_ok (image_by r row) ≡ Some c → (ids : List (List ℕ)) × (group_image ids row ≡ c) × (r ≡ Ids ids)
of_ready (Ids ids) row c is = (ids, cc, refl)
of_ready (Waits place) row c is = absurd (cc)

-- a row that has an image has the ids of all its members
pub of_image : (id_of : IdOf) (row : Row) (c : Content) → image id_of row ≡ Some c → (ids : List (List ℕ)) × (image_with ids row ≡ c) × (ready id_of (members_of row) ≡ Ids ids)
of_image id_of (User row) c is = ([], cc, refl)
of_image id_of (Group row) c is = of_ready (ready id_of row.members) row c is

name_with : (ids : List (List ℕ)) (row : Row) → content_name (image_with ids row) ≡ row_name row
name_with ids (User row) = refl
name_with ids (Group row) = refl

revision_with : (ids : List (List ℕ)) (row : Row) → content_revision (image_with ids row) ≡ Some (row_revision row)
revision_with ids (User row) = refl
revision_with ids (Group row) = refl

pub image_name : (id_of : IdOf) (row : Row) (c : Content) → image id_of row ≡ Some c → content_name c ≡ row_name row
image_name id_of row c is = let (ids, same, _) = of_image id_of row c is in ap content_name (sym same) ∙ name_with ids row

pub image_revision : (id_of : IdOf) (row : Row) (c : Content) → image id_of row ≡ Some c → content_revision c ≡ Some (row_revision row)
image_revision id_of row c is = let (ids, same, _) = of_image id_of row c is in ap content_revision (sym same) ∙ revision_with ids row

pub image_more : (f g : IdOf) → GoesOn f g → (row : Row) (c : Content) → image f row ≡ Some c → image g row ≡ Some c
image_more f g more row c is = images_stay f g row c more is
