-- A row that shows an entry is written as it is shown.
use Rattle.std.proofs.Common.{◌≡◌, ◌+◌, ℕ, List, [], ◌∷◌, ◌++◌, map, Option, Some, None, refl, ap}
use Rattle.std.specs.Option.{option_and_then}
use Rattle.sqlite_value.specs.declared.value.Value.{Value}
use Rattle.sqlite_value.specs.declared.value.Value.TheVariants.{Null, Int, Real, Text, Blob}
use Rattle.sqlite_value.specs.Order.{Row, column}
use Rattle.sqlite_schema.specs.declared.schema.Kind.TheVariants as column_kind
use Rattle.sqlite_rules.specs.Cast.{cast, cast_all}
use Rattle.scim_key.specs.Revisions.{RevisionValue, confirmed_of_parts, revision_of_parts}
use Rattle.scim_key.specs.declared.records.Kind.{Kind}
use Rattle.scim_key.specs.declared.records.Kind.TheVariants.{User, Group}
use Rattle.source_csv.specs.declared.rows.Row as source
use Rattle.journal_store.specs.declared.places.TheConstants.{ACTIVE, CONFIRMED_EPOCH, EPOCH, GROUP_CONFIRMED, ID, KEY, MEMBERS, NAME, REVISION, USER_CONFIRMED}
use Rattle.journal_core.specs.declared.entries.Entry.{Entry}
use Rattle.journal_store.specs.Format.{column_count, entry_tables}
use Rattle.journal_store.specs.Tables.{places}
use Rattle.journal_store.specs.Rows.{active_in, active_of, all_texts, columns_at, confirmed_in, entry_by, entry_in, fields_in, group_in, id_in, keyed, members_in, number_in, parts_in, revision_in, text_columns, text_in, texts_in, user_in}
use Rattle.sql_tables.proofs.Values.{cast_int}
use Rattle.journal_store.proofs.Decoding.{keyed_same}

-- ---- values that a column keeps

pub some_then : {A B : Type 0} (o : Option A) (f : A → Option B) (b : B) → option_and_then f o ≡ Some b → (a : A) × (o ≡ Some a) × (f a ≡ Some b)
some_then None f b is = absurd (cc)
some_then (Some a) f b is = (a, refl, is)

text_kept : (v : Value) (t : List ℕ) → text_in v ≡ Some t → cast column_kind.Text v ≡ v
text_kept Null t is = absurd (cc)
text_kept (Int n) t is = absurd (cc)
text_kept (Real x) t is = absurd (cc)
text_kept (Text s) t is = refl
text_kept (Blob b) t is = absurd (cc)

number_kept : (v : Value) (n : ℕ) → number_in v ≡ Some n → cast column_kind.Integer v ≡ v
number_kept Null n is = absurd (cc)
number_kept (Int m) n is = cast_int m
number_kept (Real x) n is = absurd (cc)
number_kept (Text s) n is = absurd (cc)
number_kept (Blob b) n is = absurd (cc)

number_cast : {A : Type 0} (v : Value) (f : ℕ → Option A) (a : A) → option_and_then f (number_in v) ≡ Some a → cast column_kind.Integer v ≡ v
number_cast v f a is = let it = some_then (number_in v) f a is in number_kept v it.0 it.1

members_kept : (v : Value) (members : List (List ℕ)) → members_in v ≡ Some members → cast column_kind.Text v ≡ v
members_kept Null members is = absurd (cc)
members_kept (Int n) members is = absurd (cc)
members_kept (Real x) members is = absurd (cc)
members_kept (Text s) members is = refl
members_kept (Blob b) members is = absurd (cc)

id_kept : (v : Value) (id : Option (List ℕ)) → id_in v ≡ Some id → cast column_kind.Text v ≡ v
id_kept Null id is = refl
id_kept (Int n) id is = absurd (cc)
id_kept (Real x) id is = absurd (cc)
id_kept (Text t) id is = refl
id_kept (Blob b) id is = absurd (cc)

texts_kept : (vs : List Value) (texts : List (List ℕ)) → all_texts vs ≡ Some texts → map (cast column_kind.Text) vs ≡ vs
texts_kept [] texts is = refl
texts_kept (v ∷ vs) texts is =
    let first = some_then (text_in v) _ texts is in
    let later = some_then (all_texts vs) _ texts first.2 in
    λ i. text_kept v first.0 first.1 i ∷ texts_kept vs later.0 later.1 i

-- both columns of a revision are numbers
parts_kept : (epoch number : Value) (of : ℕ → ℕ → Option RevisionValue) (r : RevisionValue) → parts_in epoch number of ≡ Some r → (cast column_kind.Integer epoch ≡ epoch) × (cast column_kind.Integer number ≡ number)
parts_kept epoch number of r is =
    let e = some_then (number_in epoch) _ r is in
    let n = some_then (number_in number) (of e.0) r e.2 in
    (number_kept epoch e.0 e.1, number_kept number n.0 n.1)

-- ---- the columns of an entry

parts_there : (row : Option source.Row) (confirmed : Option RevisionValue) (id : Option (Option (List ℕ))) (x : Entry) → entry_by row confirmed id ≡ Some x
    → (row ≡ Some x.row) × (confirmed ≡ Some x.confirmed) × (id ≡ Some x.id)
parts_there None confirmed id x is = absurd (cc)
parts_there (Some row) None id x is = absurd (cc)
parts_there (Some row) (Some confirmed) None x is = absurd (cc)
parts_there (Some row) (Some confirmed) (Some id) x is =
    let same : ◌≡◌ {A = Entry} (record { row = row; confirmed = confirmed; id = id }) x = cc in
    (ap (λ (e : Entry). Some e.row) same, ap (λ (e : Entry). Some e.confirmed) same, ap (λ (e : Entry). Some e.id) same)

pub columns_kept : (kind : Kind) (s : Row) (e : Entry) → entry_in kind s ≡ Some e → cast_all (entry_tables kind).columns (columns_at (places 0 (column_count kind)) s) ≡ columns_at (places 0 (column_count kind)) s
unfolding texts_in text_columns
columns_kept User s e is =
    let key = some_then (text_in (column s KEY)) (λ k. keyed User k (fields_in User s)) e is in
    let fields = keyed_same User key.0 (fields_in User s) e key.2 in
    let parts = parts_there (user_in s) (confirmed_in (column s (USER_CONFIRMED + CONFIRMED_EPOCH)) (column s USER_CONFIRMED)) (id_in (column s (USER_CONFIRMED + ID))) e fields in
    let login = some_then (text_in (column s NAME)) _ e.row parts.0 in
    let revision = some_then (revision_in (column s (USER_CONFIRMED + EPOCH)) (column s REVISION)) _ e.row login.2 in
    let texts = some_then (texts_in s) _ e.row revision.2 in
    let active = some_then (active_in (column s ACTIVE)) _ e.row texts.2 in
    let latest = parts_kept (column s (USER_CONFIRMED + EPOCH)) (column s REVISION) revision_of_parts revision.0 revision.1 in
    let confirmed = parts_kept (column s (USER_CONFIRMED + CONFIRMED_EPOCH)) (column s USER_CONFIRMED) confirmed_of_parts e.confirmed parts.1 in
    let name_is = text_kept (column s KEY) key.0 key.1 in
    let login_is = text_kept (column s NAME) login.0 login.1 in
    let texts_are = texts_kept (text_columns s) texts.0 texts.1 in
    let active_is = number_cast (column s ACTIVE) active_of active.0 active.1 in
    let id_is = id_kept (column s (USER_CONFIRMED + ID)) e.id parts.2 in
    λ i. name_is i ∷ login_is i ∷ latest.1 i ∷ (texts_are i ++ active_is i ∷ confirmed.1 i ∷ id_is i ∷ latest.0 i ∷ confirmed.0 i ∷ [])
columns_kept Group s e is =
    let key = some_then (text_in (column s KEY)) (λ k. keyed Group k (fields_in Group s)) e is in
    let fields = keyed_same Group key.0 (fields_in Group s) e key.2 in
    let parts = parts_there (group_in s) (confirmed_in (column s (GROUP_CONFIRMED + CONFIRMED_EPOCH)) (column s GROUP_CONFIRMED)) (id_in (column s (GROUP_CONFIRMED + ID))) e fields in
    let name = some_then (text_in (column s NAME)) _ e.row parts.0 in
    let revision = some_then (revision_in (column s (GROUP_CONFIRMED + EPOCH)) (column s REVISION)) _ e.row name.2 in
    let members = some_then (members_in (column s MEMBERS)) _ e.row revision.2 in
    let latest = parts_kept (column s (GROUP_CONFIRMED + EPOCH)) (column s REVISION) revision_of_parts revision.0 revision.1 in
    let confirmed = parts_kept (column s (GROUP_CONFIRMED + CONFIRMED_EPOCH)) (column s GROUP_CONFIRMED) confirmed_of_parts e.confirmed parts.1 in
    let key_is = text_kept (column s KEY) key.0 key.1 in
    let name_is = text_kept (column s NAME) name.0 name.1 in
    let members_are = members_kept (column s MEMBERS) members.0 members.1 in
    let id_is = id_kept (column s (GROUP_CONFIRMED + ID)) e.id parts.2 in
    λ i. key_is i ∷ name_is i ∷ latest.1 i ∷ members_are i ∷ confirmed.1 i ∷ id_is i ∷ latest.0 i ∷ confirmed.0 i ∷ []
