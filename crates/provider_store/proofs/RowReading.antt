-- A row whose columns were read shows the record that was made of them.
use Rattle.std.proofs.Common.{◌≡◌, ℕ, pos, List, [], ◌∷◌, length, Option, Some, None, Ok, IfSome, IfNone, refl, sym, ap, ◌∙◌, subst, arith}
use Rattle.sqlite_value.specs.declared.value.Value.TheVariants.{Int, Text}
use Rattle.sqlite_value.specs.Order.{Row, column}
use Rattle.scim_key.specs.declared.records.Kind.{Kind}
use Rattle.scim_key.specs.declared.records.Kind.TheVariants.{User, Group}
use Rattle.scim_key.specs.declared.records.RecordName.{RecordName}
use Rattle.scim_resource.specs.declared.contents.Content.{Content}
use Rattle.scim_resource.specs.Contents.{content_kind, content_name}
use Rattle.scim_resource.specs.Reading.{content_in}
use Rattle.scim_resource.specs.Rows.{StoredRecord, IsStored}
use Rattle.provider_store.specs.Rows.{kind_code, row_of, IsRowOf}

five : (row : Row) → length row ≡ 5 → row ≡ column row 0 ∷ column row 1 ∷ column row 2 ∷ column row 3 ∷ column row 4 ∷ []
five [] len = absurd (omega arith)
five (a ∷ []) len = absurd (omega arith)
five (a ∷ b ∷ []) len = absurd (omega arith)
five (a ∷ b ∷ c ∷ []) len = absurd (omega arith)
five (a ∷ b ∷ c ∷ d ∷ []) len = absurd (omega arith)
five (a ∷ b ∷ c ∷ d ∷ e ∷ []) len = refl
five (a ∷ b ∷ c ∷ d ∷ e ∷ f ∷ more) len = absurd (omega arith)

abbrev made_of : ℕ → ℕ → Content → StoredRecord
made_of n v content = record { number = n; version = v; content = content }

one_kind : (k l : Kind) → kind_code k ≡ kind_code l → k ≡ l
one_kind User User same = refl
one_kind User Group same = absurd (omega (arith, same))
one_kind Group User same = absurd (omega (arith, same))
one_kind Group Group same = refl

-- a single row that shows no record is damaged
pub row_damaged : (rows : List Row) (row : Row) → rows ≡ row ∷ [] → ((s : StoredRecord) → IsRowOf row s → ⊥) → (rows ≡ [] → ⊥) × ((r : Row) (s : StoredRecord) → rows ≡ r ∷ [] → IsRowOf r s → ⊥)
row_damaged rows row is unread = (
  λ none. absurd (let clash : [] ≡ row ∷ [] = sym none ∙ is in cc),
  λ r s one shows. unread s (let e : r ∷ [] ≡ row ∷ [] = sym one ∙ is in let same : r ≡ row = cc in subst (λ x. IsRowOf x s) same shows),
)

module _ (row : Row) (n k v : ℕ) (key text : List ℕ) (kind : Kind) (content : Content) (len : length row ≡ 5) (number : column row 0 ≡ Int (pos n)) (code : column row 1 ≡ Int (pos k)) (name : column row 2 ≡ Text key)
    (version : column row 3 ≡ Int (pos v)) (spelled : column row 4 ≡ Text text) (kind_is : k ≡ kind_code kind) (reads : content_in kind text ≡ Ok content) (named : content_name content ≡ record { kind = kind; key = key }) where
  made : StoredRecord
  made = record { number = n; version = v; content = content }

  shown : row ≡ row_of (record { number = n; version = v; content = content }) text
  shown =
      let of_kind : kind_code kind ≡ kind_code (content_kind content) = ap (λ (r : RecordName). kind_code r.kind) (sym named) in
      let of_key : key ≡ (content_name content).key = ap (λ (r : RecordName). r.key) (sym named) in
      five row len ∙ rw (number, code, name, version, spelled, kind_is, of_kind, of_key) refl

  pub row_read : (o : Option StoredRecord) → IfSome o (λ s. s ≡ record { number = n; version = v; content = content }) → IfSome o IsStored → IfSome o (IsRowOf row)
  row_read None is lawful = tt
  row_read (Some s) is lawful = subst (IsRowOf row) (sym is) (record {
    text = text;
    shows = shown;
    reads = subst (λ (x : Kind). content_in x text ≡ Ok content) (ap (λ (r : RecordName). r.kind) (sym named)) reads;
    lawful = subst IsStored is lawful;
  })

  -- and if it isn't within its limits, the row shows none
  pub row_unread : (o : Option StoredRecord) → IfNone o (IsStored (record { number = n; version = v; content = content }) → ⊥) → IfNone o ((s : StoredRecord) → IsRowOf row s → ⊥)
  row_unread (Some s) unlawful = tt
  row_unread None unlawful = λ s it. unlawful (subst IsStored (same_made s it) it.lawful)
    where
      same_made : (s : StoredRecord) → IsRowOf row s → s ≡ record { number = n; version = v; content = content }
      same_made s it =
          let numbers : Int (pos s.number) ≡ Int (pos n) = sym (ap (λ r. column r 0) it.shows) ∙ number in
          let codes : Int (pos (kind_code (content_kind s.content))) ≡ Int (pos k) = sym (ap (λ r. column r 1) it.shows) ∙ code in
          let versions : Int (pos s.version) ≡ Int (pos v) = sym (ap (λ r. column r 3) it.shows) ∙ version in
          let texts : Text it.text ≡ Text text = sym (ap (λ r. column r 4) it.shows) ∙ spelled in
          let number_is : s.number ≡ n = cc in
          let version_is : s.version ≡ v = cc in
          let text_is : it.text ≡ text = cc in
          let code_is : kind_code (content_kind s.content) ≡ kind_code kind = (let e : kind_code (content_kind s.content) ≡ k = cc in e ∙ kind_is) in
          let kinds = one_kind (content_kind s.content) kind code_is in
          let read : content_in kind text ≡ Ok s.content = subst (λ (x : Kind). content_in x text ≡ Ok s.content) kinds (subst (λ t. content_in (content_kind s.content) t ≡ Ok s.content) text_is it.reads) in
          let contents : s.content ≡ content = (let e = sym read ∙ reads in cc) in
          ap (λ m. made_of m s.version s.content) number_is ∙ ap (λ m. made_of n m s.content) version_is ∙ ap (made_of n v) contents
