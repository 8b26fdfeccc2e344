-- What stays true if rows are accepted and stories go on.
use Rattle.std.proofs.Common.{◌≡◌, ℕ, suc, List, Option, Some, None, refl, ap, sym, ◌∙◌, subst}
use Rattle.std.specs.Option.{option_map}
use Rattle.scim_key.specs.Identifiers.{id_text}
use Rattle.scim_key.specs.Revisions.{RevisionValue}
use Rattle.scim_key.specs.declared.records.RecordName.{RecordName}
use Rattle.scim_resource.specs.Rows.{ShownRecord}
use Rattle.scim_resource.specs.declared.contents.Content.{Content}
use Rattle.provider_core.specs.Stories.{Entry, story, Numbered, AllGoOn}
use Rattle.provider_core.specs.Tables.{entry_named, IsWholeTable, IsFact}
use Rattle.provider_core.proofs.TableLaws.{at_more, go_on_at, named_found, entry_here}
use Rattle.source_csv.specs.declared.rows.Row.{Row}
use Rattle.mapping.specs.Readiness.{GoesOn}
use Rattle.connector_core.specs.History.{History, rows_of}
use Rattle.world_model.specs.Safe.{IsAt, Has, id_in, IsImage, IsVersion}
use Rattle.world_model.proofs.Imaging.{image_more}

-- no accepted row is lost, and every story goes on in a whole table
pub record Grows (history : History) (es : List Entry) (history' : History) (fs : List Entry) : Type 0 where
  pub rows : (name : RecordName) (row : Row) → Has (rows_of history name) row → Has (rows_of history' name) row
  pub entries : AllGoOn es fs
  pub whole : IsWholeTable fs

abbrev id_of : Numbered → List ℕ
id_of n = id_text n.number

mapped : (o : Option Numbered) (id : List ℕ) → option_map id_of o ≡ Some id → (n : Numbered) × (o ≡ Some n) × (id_text n.number ≡ id)
mapped None id is = absurd (cc)
mapped (Some n) id is = (n, refl, cc)

-- the id of a record is that of its entry's place
pub id_at : (es : List Entry) (name : RecordName) (i : ℕ) (e : Entry) → IsWholeTable es → IsAt es i e → e.name ≡ name → id_in es name ≡ Some (id_text (suc i))
id_at es name i e whole at named = ap (option_map id_of) (entry_here name es i e whole at named)

pub ids_grow : (es fs : List Entry) → AllGoOn es fs → IsWholeTable fs → GoesOn (id_in es) (id_in fs)
ids_grow es fs all whole name id is =
    let (n, found, same) = mapped (entry_named name es) id is in
    let (i, number, there, of_name) = named_found name es n found in
    let (f, at, goes) = go_on_at es fs i n.entry all there in
    id_at fs name i f whole at (goes.name ∙ of_name) ∙ ap Some (ap id_text (sym number) ∙ same)

module _ (history : History) (es : List Entry) (history' : History) (fs : List Entry) (grows : Grows history es history' fs) where
  pub image_grows : (name : RecordName) (c : Content) → IsImage history es name c → IsImage history' fs name c
  image_grows name c is = record {
    row = is.row;
    accepted = grows.rows name is.row is.accepted;
    revision = is.revision;
    image = image_more (id_in es) (id_in fs) (ids_grow es fs grows.entries grows.whole) is.row c is.image;
  }

pub version_grows : (es fs : List Entry) (name : RecordName) (id tag : List ℕ) (r : RevisionValue) → AllGoOn es fs → IsVersion es name id tag r → IsVersion fs name id tag r
version_grows es fs name id tag r all v =
    let (f, at, goes) = go_on_at es fs v.place v.entry all v.here in
    record {
      place = v.place;
      turn = v.turn;
      entry = f;
      content = v.content;
      here = at;
      of_record = goes.name ∙ v.of_record;
      held = subst (λ (contents : List Content). IsAt contents v.turn v.content) (sym goes.story) (at_more (story v.entry) goes.more v.turn v.content v.held);
      has_id = v.has_id;
      has_tag = v.has_tag;
      at_revision = v.at_revision;
    }

pub fact_grows : (es fs : List Entry) (s : ShownRecord) → AllGoOn es fs → IsFact es s → IsFact fs s
fact_grows es fs s all fact =
    let (f, at, goes) = go_on_at es fs fact.place fact.entry all fact.here in
    record {
      place = fact.place;
      turn = fact.turn;
      entry = f;
      here = at;
      held = subst (λ (contents : List Content). IsAt contents fact.turn s.content) (sym goes.story) (at_more (story fact.entry) goes.more fact.turn s.content fact.held);
      id = fact.id;
      version = fact.version;
    }
