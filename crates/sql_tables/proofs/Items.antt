-- A list of known length is the list of its items.
use Rattle.std.proofs.Common.{◌≡◌, ◌≤◌, ◌<◌, List, [], ◌∷◌, length, get_or, sym, ap, arith}

pub one_item : {X : Type 0} (xs : List X) (a : X) → 1 ≤ length xs → length xs < 2 → a ≡ get_or xs 0 a → xs ≡ a ∷ []
one_item [] a least below is = absurd (omega arith)
one_item (x ∷ []) a least below is = ap (λ y. y ∷ []) (sym is)
one_item (x ∷ y ∷ xs) a least below is = absurd (omega arith)

pub two_items : {X : Type 0} (xs : List X) (a b : X) → 2 ≤ length xs → length xs < 3 → a ≡ get_or xs 0 a → b ≡ get_or xs 1 b → xs ≡ a ∷ b ∷ []
two_items [] a b least below i0 i1 = absurd (omega arith)
two_items (x ∷ xs) a b least below i0 i1 = λ i. sym i0 i ∷ one_item xs b (omega (arith, least)) (omega (arith, below)) i1 i

pub three_items : {X : Type 0} (xs : List X) (a b c : X) → 3 ≤ length xs → length xs < 4 → a ≡ get_or xs 0 a → b ≡ get_or xs 1 b → c ≡ get_or xs 2 c → xs ≡ a ∷ b ∷ c ∷ []
three_items [] a b c least below i0 i1 i2 = absurd (omega arith)
three_items (x ∷ xs) a b c least below i0 i1 i2 = λ i. sym i0 i ∷ two_items xs b c (omega (arith, least)) (omega (arith, below)) i1 i2 i

pub four_items : {X : Type 0} (xs : List X) (a b c d : X) → 4 ≤ length xs → length xs < 5 → a ≡ get_or xs 0 a → b ≡ get_or xs 1 b → c ≡ get_or xs 2 c → d ≡ get_or xs 3 d → xs ≡ a ∷ b ∷ c ∷ d ∷ []
four_items [] a b c d least below i0 i1 i2 i3 = absurd (omega arith)
four_items (x ∷ xs) a b c d least below i0 i1 i2 i3 = λ i. sym i0 i ∷ three_items xs b c d (omega (arith, least)) (omega (arith, below)) i1 i2 i3 i

pub five_items : {X : Type 0} (xs : List X) (a b c d e : X) → 5 ≤ length xs → length xs < 6 → a ≡ get_or xs 0 a → b ≡ get_or xs 1 b → c ≡ get_or xs 2 c → d ≡ get_or xs 3 d → e ≡ get_or xs 4 e → xs ≡ a ∷ b ∷ c ∷ d ∷ e ∷ []
five_items [] a b c d e least below i0 i1 i2 i3 i4 = absurd (omega arith)
five_items (x ∷ xs) a b c d e least below i0 i1 i2 i3 i4 = λ i. sym i0 i ∷ four_items xs b c d e (omega (arith, least)) (omega (arith, below)) i1 i2 i3 i4 i

pub six_items : {X : Type 0} (xs : List X) (a b c d e f : X) → 6 ≤ length xs → length xs < 7 → a ≡ get_or xs 0 a → b ≡ get_or xs 1 b → c ≡ get_or xs 2 c → d ≡ get_or xs 3 d → e ≡ get_or xs 4 e → f ≡ get_or xs 5 f → xs ≡ a ∷ b ∷ c ∷ d ∷ e ∷ f ∷ []
six_items [] a b c d e f least below i0 i1 i2 i3 i4 i5 = absurd (omega arith)
six_items (x ∷ xs) a b c d e f least below i0 i1 i2 i3 i4 i5 = λ i. sym i0 i ∷ five_items xs b c d e f (omega (arith, least)) (omega (arith, below)) i1 i2 i3 i4 i5 i
