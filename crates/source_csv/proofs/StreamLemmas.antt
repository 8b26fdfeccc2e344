-- One more record of a file that is read one record at a time.
use Rattle.std.proofs.Common.{◌≡◌, ℕ, ◌+◌, List, [], ◌∷◌, ◌++◌, ◌⊎◌, None, Bool, true, false, Option, Some, Result, Ok, Err, map, refl, ap, sym, subst, inl, inr, append_assoc, ◌∙◌}
use Rattle.std.proofs.lemmas.Bool.{cases_Bool}
use Rattle.std.specs.Prelude.{option_to_list}
use Rattle.std.specs.Option.{ok_or, option_map}
use Rattle.csv.specs.Reading.{AreRecords, ExplainsRead, Reached, ReadRecord, has_failed, is_flexible, reader_config, reader_state, source_of, stops_reader, strip_bom, took_first}
use Rattle.csv.specs.declared.parser.Config.{Config}
use Rattle.csv.specs.declared.parser.State.{State}
use Rattle.csv.specs.declared.parser.State.TheVariants.{StartRecord}
use Rattle.csv.specs.declared.error.ErrorKind.{ErrorKind}
use Rattle.csv.specs.declared.error.ErrorKind.TheVariants as kind
use Rattle.csv.specs.declared.reader.Reader.{Reader}
use Rattle.csv.proofs.ReadFacts.{rows-end, rows-more}
use Rattle.source_csv.specs.Columns.{Record}
use Rattle.source_csv.specs.Fields.{name_of}
use Rattle.source_csv.specs.Layouts.{snapshot_columns_of}
use Rattle.source_csv.specs.Rejections.{record_at, records_from, with_name, without_name}
use Rattle.source_csv.specs.Snapshots.{snapshot_in, snapshot_of}
use Rattle.source_csv.specs.declared.columns.Columns.{Columns}
use Rattle.source_csv.specs.declared.faults.Rejected.{Rejected}
use Rattle.source_csv.specs.declared.layouts.Alias.{Alias}
use Rattle.source_csv.specs.declared.layouts.Separator.{Separator}
use Rattle.scim_key.specs.Outcome.{Gives}
use Rattle.scim_key.specs.declared.records.RecordName.{RecordName}
use Rattle.scim_key.specs.declared.records.Kind.{Kind}
use Rattle.source_csv.specs.Files.{AreRecordsOf, at_place, columns_of, config_of, read_row, rows_from, rows_of}
use Rattle.source_csv.specs.Opening.{HeaderRead, HeaderUnread, IsReadFault, source_fault}
use Rattle.source_csv.specs.Streams.{Adds, HasLeft, IsPlain, Leaves, Standing, Takes, last_record, multiline_next, place_after, records_next}
use Rattle.source_csv.specs.Lines.{multiline_at, multiline_of, record_lines}
use Rattle.source_csv.specs.declared.faults.RowFault.{RowFault}
use Rattle.source_csv.specs.declared.faults.SourceFault.{SourceFault}
use Rattle.source_csv.specs.declared.faults.SourceFault.TheVariants.{Header, Memory}
use Rattle.source_csv.specs.declared.missing_quotes.Multiline.{Multiline}
use Rattle.source_csv.specs.declared.rows.Row.{Row}
use Rattle.source_csv.specs.declared.streams.ReadFault.{ReadFault}
use Rattle.source_csv.specs.declared.streams.ReadFault.TheVariants.{Source, Input}
use Rattle.source_csv.proofs.FileLemmas.{first_record, no_record}
use Rattle.source_csv.proofs.LineLemmas.{multiline_more}

-- a read takes the first of the records that are left, or there are none
pub takes : {R : Type 0} (rem : R → Option (List ℕ)) (a b : Reader R) (fields : Record) (found : Bool) (records : List Record)
    → IsPlain a → Leaves (reader_config a) (source_of rem a) (reader_state a) records → ReadRecord rem a b found fields
    → Takes found fields (reader_config b) (source_of rem b) (reader_state b) records
unfolding Reached
takes rem a b fields true records plain (bytes, source, are) read =
    let more = rows-more rem a b fields (reader_config a) (reader_state a) bytes bytes [] refl source (refl, refl) read in
    let (rest, first, after) = first_record (reader_config a) (reader_state a) bytes more.2.0 records are more.2.1 in (
      rest,
      first ∙ ap (λ (f : Record). f ∷ rest) (sym more.2.2),
      (more.0, more.1, subst (λ (config : Config). AreRecords config (reader_state b) more.0 rest) (sym read.2) (rw (more.2.3.0, more.2.3.1) at after)),
    )
takes rem a b fields false records plain (bytes, source, are) read =
    no_record (reader_config a) (reader_state a) bytes records are (rows-end rem a b fields (reader_config a) bytes refl source read)

-- no other error comes of records with any number of fields, which needn't be text
pub stops : {R : Type 0} (rem : R → Option (List ℕ)) (a b : Reader R) (why : ErrorKind) → is_flexible a ≡ true → ExplainsRead rem a b false why → stops_reader why ≡ true
stops rem a b (kind.Io e) flexible explained = refl
stops rem a b kind.OutOfMemory flexible explained = refl
stops rem a b (kind.UnequalLengths pos expected len) flexible explained = absurd (cc (flexible, explained.0))
stops rem a b (kind.Utf8 pos err) flexible explained = absurd (cc explained.0)
stops rem a b (kind.Serialize text) flexible explained = absurd explained
stops rem a b (kind.Deserialize pos err) flexible explained = absurd explained

-- a reader that gave a record, or none, reads on as it did
pub stays_plain : {R : Type 0} (rem : R → Option (List ℕ)) (a b : Reader R) (fields : Record) (found : Bool)
    → IsPlain a → ReadRecord rem a b found fields → took_first b ≡ true → is_flexible b ≡ is_flexible a → IsPlain b
stays_plain rem a b fields found plain read first flexible = record {
  trim = read.3 ∙ plain.trim;
  ready = inl first;
  flexible = flexible ∙ plain.flexible;
}

-- a reader that has failed has no known bytes
pub not_failed : {R : Type 0} (rem : R → Option (List ℕ)) (a : Reader R) (bytes : List ℕ) → source_of rem a ≡ Some bytes → has_failed a ≡ false
not_failed rem a bytes e = elim (cases_Bool (has_failed a)) [
  | inl failed ↦ absurd (cc (rw failed at e))
  | inr goes ↦ goes
]

-- at first, all records are left
pub opens : (remaining after : Option (List ℕ)) (separator : Separator) (config : Config) (state : State) (bytes : List ℕ) (records : List Record)
    → after ≡ option_map strip_bom remaining → remaining ≡ Some bytes → AreRecordsOf separator bytes records → config ≡ config_of separator → state ≡ StartRecord
    → Leaves config after state records
opens remaining after separator config state bytes records source known are grammar start =
    (strip_bom bytes, source ∙ ap (option_map strip_bom) known, rw (grammar, start) are)

-- a step that took a record, and one that took none
pub takes_one : (found : Bool) (fields : Record) (config : Config) (remaining : Option (List ℕ)) (state : State) (records : List Record)
    → found ≡ true → Takes found fields config remaining state records
    → (rest : List Record) × (records ≡ fields ∷ rest) × Leaves config remaining state rest
takes_one found fields config remaining state records e taken = rw e at taken

pub takes_none : (found : Bool) (fields : Record) (config : Config) (remaining : Option (List ℕ)) (state : State) (records : List Record)
    → found ≡ false → Takes found fields config remaining state records → records ≡ []
takes_none found fields config remaining state records e taken = rw e at taken

-- ---- a file in memory

-- what the first record says, and the records after it
said_first : (old mid new : Standing) (fields : Record) (rest records : List Record) (said : Result Row Rejected)
    → mid.kind ≡ old.kind → new.kind ≡ mid.kind → mid.columns ≡ old.columns → new.columns ≡ mid.columns → mid.place ≡ old.place + 1 → new.place ≡ mid.place
    → said ≡ record_at mid.kind mid.columns mid.place fields → records ≡ fields ∷ rest → records_next old records ≡ said ∷ records_next new rest
said_first old mid new fields rest records said a b c d e f is first = rw (is, first, b, a, d, c, f, e) refl

left_too : (a b : Standing) (records : List Record) → b.config ≡ a.config → b.remaining ≡ a.remaining → b.state ≡ a.state → HasLeft a records → HasLeft b records
left_too a b records grammar same state left = rw (grammar, same, state) left

-- the mark of the first record, and those of the records after it
marks_of_first : (old mid new : Standing) (rest records : List Record) → mid.place ≡ old.place + 1 → new.place ≡ mid.place → records ≡ mid.fields ∷ rest
    → multiline_next old records ≡ option_to_list (multiline_at mid.place mid.fields) ++ multiline_next new rest
marks_of_first old mid new rest records e f first =
    rw (first, sym e, f) (multiline_more mid.place mid.fields (map record_lines rest))

pub adds_one : (old mid new : Standing) (found : Bool) (said : Result Row Rejected) (before after : List (Result Row Rejected)) (marked marks : List Multiline) (records : List Record)
    → found ≡ true → mid.kind ≡ old.kind → mid.columns ≡ old.columns → mid.place ≡ place_after found old.place → new ≡ record mid { fields = new.fields } → said ≡ last_record mid
    → after ≡ before ++ said ∷ [] → marks ≡ marked ++ option_to_list (multiline_at mid.place mid.fields) → Takes found mid.fields mid.config mid.remaining mid.state records
    → Adds true old new before after marked marks records
adds_one old mid new found said before after marked marks records one kind columns step same is items noted taken =
    let (rest, first, left) = takes_one found mid.fields mid.config mid.remaining mid.state records one taken in
    let place : mid.place ≡ old.place + 1 = rw one at step in
    let stays = ap (λ (s : Standing). s.place) same in
    let all = said_first old mid new mid.fields rest records said kind (ap (λ (s : Standing). s.kind) same) columns (ap (λ (s : Standing). s.columns) same) place stays is first in
    let lines = marks_of_first old mid new rest records place stays first in (
      rest,
      left_too mid new rest (ap (λ (s : Standing). s.config) same) (ap (λ (s : Standing). s.remaining) same) (ap (λ (s : Standing). s.state) same) left,
      rw (items, append_assoc) (ap (λ (l : List (Result Row Rejected)). before ++ l) all),
      rw (noted, append_assoc) (ap (λ (l : List Multiline). marked ++ l) lines),
    )

-- a read fault in memory is that memory ran out
pub memory_alone : (fault : ReadFault) → IsReadFault fault → source_fault fault ≡ Memory
memory_alone (Source Header) is = absurd is
memory_alone (Source Memory) is = refl
memory_alone (Input why) is = refl

-- a file whose header wasn't read
pub not_opened : (of : Kind) (records : List Record) (fault : ReadFault) → HeaderUnread of records fault → Gives Memory (Err (source_fault fault)) (rows_of of records)
not_opened of records (Source Header) is = inr is
not_opened of records (Source Memory) is = inl refl
not_opened of records (Input why) is = inl refl

-- the records without their names are the rows
pub rows_without_names : (of : Kind) (columns : Columns) (place : ℕ) (records : List Record) → map without_name (records_from of columns place records) ≡ rows_from of columns place records
rows_without_names of columns place [] = refl
rows_without_names of columns place (fields ∷ records) =
    rw (row_without_name (name_of of columns fields) (at_place place (read_row of columns fields)), rows_without_names of columns (place + 1) records) refl
  where
    row_without_name : (name : Option RecordName) (row : Result Row RowFault) → without_name (with_name name row) ≡ row
    row_without_name name (Ok row) = refl
    row_without_name name (Err fault) = refl

-- what a file says whose header was read is what the records say that are left
pub rows_after : (of : Kind) (records : List Record) (file : Standing) (said : List (Result Row Rejected)) → file.kind ≡ of → file.place ≡ 0
    → HeaderRead (columns_of of) records file.columns file.config file.remaining file.state
    → ((left : List Record) → HasLeft file left → ◌≡◌ {A = Result (List (Result Row Rejected)) SourceFault} (Ok (records_next file left)) (Ok said))
    → rows_of of records ≡ Ok (map without_name said)
rows_after of records file said kind place (header, rest, first, known, left) all =
    let same : records_next file rest ≡ said = cc (all rest left) in
    rw (first, known, sym same, kind, place, rows_without_names of file.columns 1 rest) refl

pub marks_after : (records : List Record) (file : Standing) (found : Record → Option Columns) (marks : List Multiline) → file.place ≡ 0
    → HeaderRead found records file.columns file.config file.remaining file.state
    → ((left : List Record) → HasLeft file left → marks ≡ multiline_next file left)
    → marks ≡ multiline_of records
marks_after records file found marks place (header, rest, first, known, left) all =
    rw first (rw place at (all rest left))

-- what a snapshot says whose header was read
pub snapshot_after : (of : Kind) (aliases : List Alias) (records : List Record) (file : Standing) (said : List (Result Row Rejected)) → file.kind ≡ of → file.place ≡ 0
    → HeaderRead (snapshot_columns_of of aliases) records file.columns file.config file.remaining file.state
    → ((left : List Record) → HasLeft file left → ◌≡◌ {A = Result (List (Result Row Rejected)) SourceFault} (Ok (records_next file left)) (Ok said))
    → snapshot_of of aliases records ≡ Ok said
snapshot_after of aliases records file said kind place (header, rest, first, known, left) all =
    let same : records_next file rest ≡ said = cc (all rest left) in
    rw (first, known, sym same, kind, place) refl

-- the header of a snapshot that was refused, and one that was taken
pub header_refused : (of : Kind) (aliases : List Alias) (records rest : List Record) (header : Record) (fault : SourceFault) → records ≡ header ∷ rest
    → (fault ≡ Memory) ⊎ (◌≡◌ {A = Result Columns SourceFault} (ok_or (snapshot_columns_of of aliases header) Header) (Err fault))
    → (fault ≡ Memory) ⊎ (snapshot_of of aliases records ≡ Err fault)
header_refused of aliases records rest header fault first (inl memory) = inl memory
header_refused of aliases records rest header fault first (inr other) = inr (rw first (by (snapshot_columns_of of aliases header) other))
  where
    by : (columns : Option Columns) → ◌≡◌ {A = Result Columns SourceFault} (ok_or columns Header) (Err fault) → snapshot_in of columns rest ≡ Err fault
    by None e = ap Err (cc e)
    by (Some columns) e = absurd (cc e)

pub header_taken : (columns : Option Columns) (taken : Columns) → ◌≡◌ {A = Result Columns SourceFault} (ok_or columns Header) (Ok taken) → columns ≡ Some taken
header_taken None taken e = absurd (cc e)
header_taken (Some columns) taken e = ap Some (cc e)
