-- A list of bytes has one message of a form at most at its front, whatever follows.
use Rattle.std.proofs.Common.{◌≡◌, ℕ, List, [], ◌++◌, length, ap, sym, ◌∙◌, append_assoc}
use Rattle.std.proofs.lemmas.List.{append-nil}
use Rattle.http_text.specs.Message.{Head, Message}
use Rattle.http_text.specs.Forms.{Form, head_in, IsHead, IsMessage}
use Rattle.http_text.specs.Heads.{AreApart}
use Rattle.http_text.proofs.FormLaws.{Laws}
use Rattle.http_text.proofs.ListLemmas.{same_split}

module _ (F : Form) (laws : Laws F) where
  -- a head is read off whatever it begins
  pub reads_before : (front rest : List ℕ) (tree : F.Tree) → F.Reads front tree [] → F.Reads (front ++ rest) tree rest
  reads_before front rest tree h = laws.append front tree [] rest h

  -- two heads at the front of one list are one
  pub heads_same : (a b c d : List ℕ) (m n : Head) → a ++ b ≡ c ++ d → IsHead F a m → IsHead F c n → (a ≡ c) × (b ≡ d) × (m ≡ n)
  heads_same a b c d m n h x y =
      let same = laws.unique (a ++ b) x.tree y.tree b d (reads_before a b x.tree x.reads) (rw h (reads_before c d y.tree y.reads)) in
      let fronts : length a ≡ length c = ap length (laws.printed a x.tree [] x.reads ∙ ap (λ t. F.print t ++ []) same.0 ∙ sym (laws.printed c y.tree [] y.reads)) in
      let parts = same_split a b c d h fronts in
      (parts.0, parts.1, x.parts ∙ ap (head_in F) same.0 ∙ sym y.parts)

  -- two messages at the front of one list are one
  pub messages_same : (a b c d : List ℕ) (m n : Message) → a ++ b ≡ c ++ d → IsMessage F a m → IsMessage F c n → (a ≡ c) × (b ≡ d) × (m ≡ n)
  messages_same a b c d m n h x y =
      let whole : x.front ++ (m.body ++ b) ≡ y.front ++ (n.body ++ d) =
      sym (append_assoc x.front m.body b) ∙ ap (λ (t : List ℕ). t ++ b) (sym x.split) ∙ h ∙ ap (λ (t : List ℕ). t ++ d) y.split ∙ append_assoc y.front n.body d in
      let heads = heads_same x.front (m.body ++ b) y.front (n.body ++ d) m.head n.head whole x.head y.head in
      let long : length m.body ≡ length n.body = x.body ∙ ap F.body heads.2 ∙ sym y.body in
      let bodies = same_split m.body b n.body d heads.1 long in (
        x.split ∙ (λ i. heads.0 i ++ bodies.0 i) ∙ sym y.split,
        bodies.1,
        λ i. record { head = heads.2 i; body = bodies.0 i },
      )

  pub messages_apart : AreApart F
  messages_apart bytes more m n x y =
      let same = messages_same bytes more (bytes ++ more) [] m n (sym (append-nil (bytes ++ more))) x y in
      (same.2, same.1)
