-- What is written of an entry is read as that entry.
use Rattle.std.proofs.Common.{◌≡◌, ◌==◌, ◌<◌, ℕ, zero, suc, ℤ, Bool, true, false, List, [], ◌∷◌, ◌++◌, ◌+◌, get_or, length, take, nat_lt, All, Option, Some, None, refl, sym, ap, ◌∙◌, inl, inr, arith}
use Rattle.std.proofs.lemmas.Bool.{cases_Bool, eqb-true, false_from_ne_true}
use Rattle.std.proofs.lemmas.List.{append_assoc, take_more}
use Rattle.std.proofs.lemmas.List.Folds.{list_all_at}
use Rattle.sqlite_trees.proofs.ListLemmas.{all-append}
use Rattle.std.proofs.lemmas.Bool.Decides.{nat_tests}
use Rattle.std.proofs.lemmas.List.Splits.{slice_split_none, slice_split_at}
use Rattle.std.specs.List.{list_all, slice_split}
use Rattle.std.specs.Option.{option_and_then}
use Rattle.sqlite_value.specs.declared.value.Value.TheVariants.{Int, Text}
use Rattle.sqlite_value.specs.Order.{Row, column}
use Rattle.scim_key.proofs.RecordLaws.{same as same_names}
use Rattle.scim_key.proofs.RevisionLaws.{are_read_back}
use Rattle.scim_key.specs.Names.{IsUserName, is_user_name_byte, user_name_fault}
use Rattle.scim_key.specs.Records.{same_name}
use Rattle.scim_key.specs.Revisions.{RevisionValue, IsNoneOrRevision, confirmed_of_parts, revision_epoch, revision_number}
use Rattle.scim_key.specs.declared.records.Kind.{Kind}
use Rattle.scim_key.specs.declared.records.Kind.TheVariants as kind
use Rattle.scim_key.specs.declared.records.RecordName.{RecordName}
use Rattle.source_csv.proofs.MemberLemmas.{pieces-some}
use Rattle.source_csv.specs.Fields.{pieces}
use Rattle.source_csv.specs.Records.{IsRow, row_name}
use Rattle.source_csv.specs.Rows.{AreUserKeys, IsUserKey}
use Rattle.source_csv.specs.declared.rows.Row as source
use Rattle.journal_store.specs.declared.places.TheConstants.{CONFIRMED_EPOCH, GROUP_CONFIRMED, ID, KEY, USER_CONFIRMED}
use Rattle.source_csv.specs.declared.rows.Row.TheVariants.{User, Group}
use Rattle.journal_core.proofs.Trees.{name_from_test}
use Rattle.journal_core.specs.declared.entries.Entry.{Entry}
use Rattle.journal_store.specs.Rows.{active_number, active_of, confirmed_in, entry_by, entry_in, fields_in, group_in, id_in, id_value, keyed, members_text, number_in, row_by, shown_row, text_columns, text_in, texts_in, user_in}
use Rattle.journal_store.proofs.UserTexts.{row_texts, text_from}
use Rattle.journal_store.specs.Connections.{stored_row}

-- ---- columns

active_back : (active : Bool) → active_of (active_number active) ≡ Some active
active_back true = refl
active_back false = refl

pub id_back : (id : Option (List ℕ)) → id_in (id_value id) ≡ Some id
id_back None = refl
id_back (Some id) = refl

-- the columns show none or a valid revision
columns_known : (epoch number : Option ℕ) (r : RevisionValue) → option_and_then (λ e. option_and_then (confirmed_of_parts e) number) epoch ≡ Some r → IsNoneOrRevision r
columns_known None number r is = absurd (cc)
columns_known (Some e) None r is = absurd (cc)
columns_known (Some e) (Some n) r is = are_read_back.known_from_parts e n r is

-- ---- members

no_space : (b : ℕ) → is_user_name_byte b ≡ true → (b == 32) ≡ false
no_space b is = grind (arith, nat_tests)

no_spaces : (text : List ℕ) → list_all is_user_name_byte text ≡ true → All (λ b. (b == 32) ≡ false) text
no_spaces text is i d low = no_space (get_or text i d) (elim (cases_Bool (is_user_name_byte (get_or text i d))) [
  | inl lawful ↦ lawful
  | inr other ↦ absurd (let fails = list_all_at is_user_name_byte text i d low other in cc)
])

named_bytes : (text : List ℕ) → IsUserName text → (list_all is_user_name_byte text ≡ true) × ((length text == 0) ≡ false)
unfolding user_name_fault
named_bytes text is = elim (cases_Bool (length text == 0)) [
  | inl none ↦ absurd (cc (rw none at is))
  | inr some ↦ elim (cases_Bool (nat_lt 128 (length text))) [
    | inl long ↦ absurd (cc (rw (some, long) at is))
    | inr short ↦ elim (cases_Bool (list_all is_user_name_byte text)) [
      | inl lawful ↦ (lawful, some)
      | inr other ↦ absurd (cc (rw (some, short, other) at is))
    ]
  ]
]

split_join : (key : List ℕ) (keys : List (List ℕ)) → AreUserKeys (key ∷ keys) → slice_split (λ c. c == 32) (members_text (key ∷ keys)) ≡ key ∷ keys
split_join key [] are = slice_split_none (λ c. c == 32) key (no_spaces key (named_bytes key are.0.named).0)
split_join key (next ∷ keys) are =
    slice_split_at (λ c. c == 32) key 32 (members_text (next ∷ keys)) (no_spaces key (named_bytes key are.0.named).0) refl ∙ ap (λ l. key ∷ l) (split_join next keys are.1)

not_empty : (key : List ℕ) (keys : List (List ℕ)) → (length key == 0) ≡ false → (length (members_text (key ∷ keys)) == 0) ≡ false
not_empty [] keys some = absurd (cc)
not_empty (b ∷ key) [] some = some
not_empty (b ∷ key) (next ∷ keys) some = false_from_ne_true _ (λ none. absurd (omega (arith, eqb-true _ 0 none)))

members_back : (keys : List (List ℕ)) → AreUserKeys keys → pieces (members_text keys) ≡ keys
members_back [] are = refl
members_back (key ∷ keys) are = pieces-some (members_text (key ∷ keys)) (not_empty key keys (named_bytes key are.0.named).1) ∙ split_join key keys are

-- ---- entries

same_self : (name : RecordName) → same_name name name ≡ true
same_self name = (same_names name name).1 refl

pub reads_back : (row : source.Row) (confirmed : RevisionValue) (id : Option (List ℕ)) → IsRow row → confirmed_of_parts (revision_epoch confirmed) (revision_number confirmed) ≡ Some confirmed
    → entry_in (row_name row).kind (row_by row confirmed id) ≡ Some (record { row = row; confirmed = confirmed; id = id })
unfolding texts_in text_columns
reads_back (User u) confirmed id lawful confirms =
    rw (row_texts u lawful.count, are_read_back.from_parts u.revision lawful.revision, active_back u.active, confirms, id_back id, same_self (row_name (User u))) refl
reads_back (Group g) confirmed id lawful confirms =
    rw (are_read_back.from_parts g.revision lawful.revision, members_back g.members lawful.keys, confirms, id_back id, same_self (row_name (Group g))) refl

pub shown_stored : (n : ℤ) (row : source.Row) (confirmed : RevisionValue) (id : Option (List ℕ)) → shown_row (row_name row).kind (Int n ∷ row_by row confirmed id) ≡ row_by row confirmed id
shown_stored n (User u) confirmed id = refl
shown_stored n (Group g) confirmed id = refl

pub stored_key : (n : ℤ) (entry : Entry) → column (stored_row n entry) 1 ≡ Text (row_name entry.row).key
stored_key n entry = by_row entry.row entry.confirmed entry.id
  where
    by_row : (row : source.Row) (confirmed : RevisionValue) (id : Option (List ℕ)) → column (Int n ∷ row_by row confirmed id) 1 ≡ Text (row_name row).key
    by_row (User u) confirmed id = refl
    by_row (Group g) confirmed id = refl

-- ---- what a row that shows an entry has

keyed_from : (type : Kind) (key : List ℕ) (o : Option Entry) (e : Entry) → keyed type key o ≡ Some e → row_name e.row ≡ record { kind = type; key = key }
keyed_from type key None e is = absurd (cc)
keyed_from type key (Some x) e is = elim (cases_Bool (same_name (row_name x.row) (record { kind = type; key = key }))) [
  | inl same ↦
      let found : x ≡ e = cc (rw same at is) in
      ap (λ (y : Entry). row_name y.row) (sym found) ∙ name_from_test (row_name x.row) (record { kind = type; key = key }) same
  | inr other ↦ absurd (cc (rw other at is))
]

pub key_from : (type : Kind) (shown : Row) (e : Entry) → entry_in type shown ≡ Some e → (column shown KEY ≡ Text (row_name e.row).key) × ((row_name e.row).kind ≡ type)
key_from type shown e is = go (text_in (column shown KEY)) refl is
  where
    go : (o : Option (List ℕ)) → text_in (column shown KEY) ≡ o → option_and_then (λ key. keyed type key (fields_in type shown)) o ≡ Some e
        → (column shown KEY ≡ Text (row_name e.row).key) × ((row_name e.row).kind ≡ type)
    go None at found = absurd (cc)
    go (Some key) at found =
        let name = keyed_from type key (fields_in type shown) e found in
        (text_from (column shown KEY) key at ∙ ap (λ (n : RecordName). Text n.key) (sym name), ap (λ (n : RecordName). n.kind) name)

-- an entry that a row shows has confirmed none or a valid revision
confirmed_from : (row : Option source.Row) (o : Option RevisionValue) (id : Option (Option (List ℕ))) (e : Entry) → entry_by row o id ≡ Some e → o ≡ Some e.confirmed
confirmed_from None o id e is = absurd (cc)
confirmed_from (Some s) None id e is = absurd (cc)
confirmed_from (Some s) (Some r) None e is = absurd (cc)
confirmed_from (Some s) (Some r) (Some given) e is = let same : record { row = s; confirmed = r; id = given } ≡ e = cc in ap (λ (x : Entry). Some x.confirmed) same

fields_known : (type : Kind) (shown : Row) (e : Entry) → fields_in type shown ≡ Some e → IsNoneOrRevision e.confirmed
fields_known kind.User shown e is =
    columns_known (number_in (column shown (USER_CONFIRMED + CONFIRMED_EPOCH))) (number_in (column shown USER_CONFIRMED)) e.confirmed
    (confirmed_from (user_in shown) (confirmed_in (column shown (USER_CONFIRMED + CONFIRMED_EPOCH)) (column shown USER_CONFIRMED)) (id_in (column shown (USER_CONFIRMED + ID))) e is)
fields_known kind.Group shown e is =
    columns_known (number_in (column shown (GROUP_CONFIRMED + CONFIRMED_EPOCH))) (number_in (column shown GROUP_CONFIRMED)) e.confirmed (confirmed_from (group_in shown) (confirmed_in (column shown (GROUP_CONFIRMED + CONFIRMED_EPOCH)) (column shown GROUP_CONFIRMED)) (id_in (column shown (GROUP_CONFIRMED + ID))) e is)

pub keyed_same : (type : Kind) (key : List ℕ) (o : Option Entry) (e : Entry) → keyed type key o ≡ Some e → o ≡ Some e
keyed_same type key None e is = absurd (cc)
keyed_same type key (Some x) e is = elim (cases_Bool (same_name (row_name x.row) (record { kind = type; key = key }))) [
  | inl same ↦ (let found : x ≡ e = cc (rw same at is) in ap Some found)
  | inr other ↦ absurd (cc (rw other at is))
]

pub known_from : (type : Kind) (shown : Row) (e : Entry) → entry_in type shown ≡ Some e → IsNoneOrRevision e.confirmed
known_from type shown e is = go (text_in (column shown KEY)) is
  where
    go : (o : Option (List ℕ)) → option_and_then (λ key. keyed type key (fields_in type shown)) o ≡ Some e → IsNoneOrRevision e.confirmed
    go None found = absurd (cc)
    go (Some key) found = fields_known type shown e (keyed_same type key (fields_in type shown) e found)

pub shown_key : (type : Kind) (r : Row) → column (shown_row type r) 0 ≡ column r 1
shown_key kind.User r = refl
shown_key kind.Group r = refl

-- ---- the members of a text, one by one

pub no_pieces : (text : List ℕ) → (length text == 0) ≡ true → pieces text ≡ []
no_pieces [] none = refl
no_pieces (b ∷ text) none = absurd (omega (arith, eqb-true (length (b ∷ text)) 0 none))

pub one_more : (names : List (List ℕ)) (n : ℕ) (name key : List ℕ) (keys : List (List ℕ)) → n < length names → name ≡ get_or names n name → key ≡ name → IsUserKey key
    → keys ≡ take n names → AreUserKeys keys → (keys ++ key ∷ [] ≡ take (n + 1) names) × AreUserKeys (keys ++ key ∷ [])
one_more names n name key keys fits at is lawful so_far are = (
  (λ i. so_far i ++ (is ∙ at) i ∷ []) ∙ sym (take_more names n name fits),
  all-append IsUserKey keys (key ∷ []) are (lawful, tt),
)

-- ---- the text of the members, key by key

join_push : (first : List ℕ) (keys : List (List ℕ)) (key : List ℕ) → members_text (first ∷ (keys ++ key ∷ [])) ≡ members_text (first ∷ keys) ++ (32 ∷ key)
join_push first [] key = refl
join_push first (next ∷ keys) key = ap (λ l. first ++ 32 ∷ l) (join_push next keys key) ∙ sym (append_assoc first (32 ∷ members_text (next ∷ keys)) (32 ∷ key))

pub join_first : (keys : List (List ℕ)) (n : ℕ) (key : List ℕ) → n < length keys → key ≡ get_or keys n key → n ≡ 0 → members_text (take (n + 1) keys) ≡ key
join_first [] n key fits at is = absurd (omega arith)
join_first (first ∷ keys) n key fits at is = rw is (sym (rw is at at))

pub join_later : (keys : List (List ℕ)) (n : ℕ) (key : List ℕ) → n < length keys → key ≡ get_or keys n key → 0 < n → members_text (take (n + 1) keys) ≡ members_text (take n keys) ++ (32 ∷ key)
join_later [] n key fits at some = absurd (omega arith)
join_later (first ∷ keys) zero key fits at some = absurd (omega arith)
join_later (first ∷ keys) (suc n) key fits at some =
    let more : take (n + 1) keys ≡ take n keys ++ key ∷ [] = take_more keys n key (omega arith) ∙ ap (λ k. take n keys ++ k ∷ []) (sym at) in
    let here : take (suc n + 1) (first ∷ keys) ≡ first ∷ (take n keys ++ key ∷ []) = (let step : suc n + 1 ≡ suc (n + 1) = omega arith in ap (λ m. take m (first ∷ keys)) step ∙ ap (λ l. first ∷ l) more) in
    ap members_text here ∙ join_push first (take n keys) key

no_keys : (keys : List (List ℕ)) → members_text (take 0 keys) ≡ []
no_keys [] = refl
no_keys (key ∷ keys) = refl

pub text_first : (keys : List (List ℕ)) (n : ℕ) (key old new : List ℕ) → n < length keys → key ≡ get_or keys n key → n ≡ 0 → old ≡ members_text (take n keys) → new ≡ old ++ key
    → new ≡ members_text (take (n + 1) keys)
text_first keys n key old new fits at is so_far pushed =
    pushed ∙ ap (λ (b : List ℕ). b ++ key) (so_far ∙ ap (λ m. members_text (take m keys)) is ∙ no_keys keys) ∙ sym (join_first keys n key fits at is)

pub text_later : (keys : List (List ℕ)) (n : ℕ) (key old new : List ℕ) → n < length keys → key ≡ get_or keys n key → 0 < n → old ≡ members_text (take n keys) → new ≡ (old ++ 32 ∷ []) ++ key
    → new ≡ members_text (take (n + 1) keys)
text_later keys n key old new fits at some so_far pushed =
    pushed ∙ append_assoc old (32 ∷ []) key ∙ ap (λ (b : List ℕ). b ++ 32 ∷ key) so_far ∙ sym (join_later keys n key fits at some)
