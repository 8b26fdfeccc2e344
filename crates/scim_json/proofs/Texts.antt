-- The compact text of plain data spells that data.
use Rattle.std.proofs.Common.{◌≡◌, ℕ, suc, ◌≤◌, List, [], Some, option_map, option_and_then, Less, Greater, nat_cmp, refl, sym, ap, ◌∙◌, append-nil}
use Rattle.std.proofs.lemmas.Cmp.{nat_list_cmp_total}
use Rattle.std.specs.Prelude.{⊤}
use Rattle.std.specs.Cmp.Lexicographic.{slice_cmp}
use Rattle.std.specs.Ordering.{ordering_reverse}
use Rattle.json.specs.Json as json
use Rattle.json.specs.Lex.{tokens}
use Rattle.json.specs.Tree as tree
use Rattle.json.specs.Tree.{json_tokens}
use Rattle.json.proofs.Printed.Tokens.{tokens-print}
use Rattle.json.proofs.Printed.Trees.{value-json_tokens, ArePrintable-json_tokens}
use Rattle.json.proofs.Printed.Decimals.{IsNumber-decimal}
use Rattle.serde_json.specs.Data.{Num, unsigned, negative, float, Data, null, boolean, number, string, array, object, Items, no_items, item, Members, no_members, member, put, depth, items_depth, members_depth}
use Rattle.serde_json.specs.Read.{of_json, of_items, of_members, max_depth, read}
use Rattle.serde_json.specs.Written.{outline, items_outline, members_outline, compact_text}
use Rattle.serde_json.proofs.Numbers.{number_of-decimal}
use Rattle.serde_json.proofs.Texts.{print-outline}
use Rattle.scim_json.specs.Plain.{IsWhole, IsBelow, IsPlain, ItemsArePlain, MembersArePlain}

-- ---- the tokens

HasNumber-outline : (n : Num) → IsWhole n → tree.HasNumbers (outline (number n))
HasNumber-outline (unsigned n) h = IsNumber-decimal n h
HasNumber-outline (negative z) h = absurd h
HasNumber-outline (float x) h = absurd h

mutual
  HasNumbers-outline : (d : Data) → IsPlain d → tree.HasNumbers (outline d)
  HasNumbers-outline null h = tt
  HasNumbers-outline (boolean b) h = tt
  HasNumbers-outline (number n) h = HasNumber-outline n h
  HasNumbers-outline (string s) h = tt
  HasNumbers-outline (array ds) h = ItemsHaveNumbers-outline ds h
  HasNumbers-outline (object ms) h = MembersHaveNumbers-outline ms h

  ItemsHaveNumbers-outline : (ds : Items) → ItemsArePlain ds → tree.ItemsHaveNumbers (items_outline ds)
  ItemsHaveNumbers-outline no_items h = tt
  ItemsHaveNumbers-outline (item d ds) h = (HasNumbers-outline d h.0, ItemsHaveNumbers-outline ds h.1)

  MembersHaveNumbers-outline : (ms : Members) → MembersArePlain ms → tree.MembersHaveNumbers (members_outline ms)
  MembersHaveNumbers-outline no_members h = tt
  MembersHaveNumbers-outline (member k d ms) h = (HasNumbers-outline d h.1, MembersHaveNumbers-outline ms h.2)

mutual
  depth-outline : (d : Data) → tree.depth (outline d) ≡ depth d
  depth-outline null = refl
  depth-outline (boolean b) = refl
  depth-outline (number n) = refl
  depth-outline (string s) = refl
  depth-outline (array ds) = ap suc (items_depth-outline ds)
  depth-outline (object ms) = ap suc (members_depth-outline ms)

  items_depth-outline : (ds : Items) → tree.items_depth (items_outline ds) ≡ items_depth ds
  items_depth-outline no_items = refl
  items_depth-outline (item d ds) = rw (depth-outline d, items_depth-outline ds)

  members_depth-outline : (ms : Members) → tree.members_depth (members_outline ms) ≡ members_depth ms
  members_depth-outline no_members = refl
  members_depth-outline (member k d ms) = rw (depth-outline d, members_depth-outline ms)

-- ---- the data

-- the second object's members after the first's
abbrev joined : Members → Members → Members
joined no_members more = more
joined (member k d ms) more = member k d (joined ms more)

-- each name of the first comes before this one
abbrev AreBelow : Members → List ℕ → Type 0
AreBelow no_members name = ⊤
AreBelow (member k d ms) name = (slice_cmp nat_cmp k name ≡ Less) × AreBelow ms name

-- each name of the first comes before each of the second
abbrev AllBelow : Members → Members → Type 0
AllBelow done no_members = ⊤
AllBelow done (member k d ms) = AreBelow done k × AllBelow done ms

put-AreBelow : (k : List ℕ) (d : Data) (done : Members) → AreBelow done k → put k d done ≡ joined done (member k d no_members)
put-AreBelow k d no_members h = refl
put-AreBelow k d (member l e ms) h =
    let above : slice_cmp nat_cmp k l ≡ Greater = nat_list_cmp_total.antisymm k l ∙ ap ordering_reverse h.0 in
    rw above (ap (member l e) (put-AreBelow k d ms h.1))

joined_twice : (a b c : Members) → joined (joined a b) c ≡ joined a (joined b c)
joined_twice no_members b c = refl
joined_twice (member k d ms) b c = ap (member k d) (joined_twice ms b c)

joined-nil : (ms : Members) → joined ms no_members ≡ ms
joined-nil no_members = refl
joined-nil (member k d ms) = ap (member k d) (joined-nil ms)

AreBelow-joined : (done : Members) (k name : List ℕ) (d : Data) → AreBelow done name → slice_cmp nat_cmp k name ≡ Less → AreBelow (joined done (member k d no_members)) name
AreBelow-joined no_members k name d h below = (below, tt)
AreBelow-joined (member l e ms) k name d h below = (h.0, AreBelow-joined ms k name d h.1 below)

AllBelow-joined : (done ms : Members) (k : List ℕ) (d : Data) → AllBelow done ms → IsBelow k ms → AllBelow (joined done (member k d no_members)) ms
AllBelow-joined done no_members k d h below = tt
AllBelow-joined done (member l e ms) k d h below = (AreBelow-joined done k l d h.0 below.0, AllBelow-joined done ms k d h.1 below.1)

AllBelow-none : (ms : Members) → AllBelow no_members ms
AllBelow-none no_members = tt
AllBelow-none (member k d ms) = (tt, AllBelow-none ms)

number-outline : (n : Num) → IsWhole n → of_json (outline (number n)) ≡ Some (number n)
number-outline (unsigned n) h = ap (option_map number) (number_of-decimal n h)
number-outline (negative z) h = absurd h
number-outline (float x) h = absurd h

mutual
  of_json-outline : (d : Data) → IsPlain d → of_json (outline d) ≡ Some d
  of_json-outline null h = refl
  of_json-outline (boolean b) h = refl
  of_json-outline (number n) h = number-outline n h
  of_json-outline (string s) h = refl
  of_json-outline (array ds) h = ap (option_map array) (of_items-outline ds h)
  of_json-outline (object ms) h = ap (option_map object) (of_members-outline ms no_members h (AllBelow-none ms))

  of_items-outline : (ds : Items) → ItemsArePlain ds → of_items (items_outline ds) ≡ Some ds
  of_items-outline no_items h = refl
  of_items-outline (item d ds) h =
      ap (option_and_then (λ e. option_map (item e) (of_items (items_outline ds)))) (of_json-outline d h.0)
      ∙ ap (option_map (item d)) (of_items-outline ds h.1)

  of_members-outline : (ms done : Members) → MembersArePlain ms → AllBelow done ms → of_members (members_outline ms) done ≡ Some (joined done ms)
  of_members-outline no_members done h below = ap Some (sym (joined-nil done))
  of_members-outline (member k d ms) done h below =
      ap (option_and_then (λ e. of_members (members_outline ms) (put k e done))) (of_json-outline d h.1)
      ∙ ap (of_members (members_outline ms)) (put-AreBelow k d done below.0)
      ∙ of_members-outline ms (joined done (member k d no_members)) h.2 (AllBelow-joined done ms k d below.1 h.0)
      ∙ ap Some (joined_twice done (member k d no_members) ms)

-- ---- the law

tokens-compact_text : (d : Data) → IsPlain d → tokens (compact_text d) ≡ json_tokens (outline d)
tokens-compact_text d h =
    ap tokens (sym (print-outline d)) ∙ tokens-print (json_tokens (outline d)) (ArePrintable-json_tokens (outline d) (HasNumbers-outline d h))

pub read-compact_text : (d : Data) → IsPlain d → depth d ≤ max_depth → read (compact_text d) ≡ Some d
read-compact_text d h shallow =
    let fits : tree.depth (outline d) ≤ max_depth = rw (depth-outline d) shallow in
    let whole = tokens-compact_text d h ∙ sym (append-nil (json_tokens (outline d))) in
    let parsed = ap (json.value max_depth) whole ∙ value-json_tokens (outline d) max_depth [] fits in
    ap (λ o. option_and_then of_json (option_and_then (λ p. json.if_last p.0 p.1) o)) parsed ∙ of_json-outline d h
