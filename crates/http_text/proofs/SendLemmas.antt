-- How far a message was sent.
use Rattle.std.proofs.Common.{◌≡◌, ℕ, ◌+◌, ◌<◌, ◌≤◌, List, ◌++◌, length, take, drop, ap, ◌∙◌, sym, arith}
use Rattle.std.proofs.Common.{append_assoc}
use Rattle.std.proofs.lemmas.List.{take-append-drop}
use Rattle.std.specs.Io.KnownBytes.{Keeps, Appends}
use Rattle.http_text.specs.Counts.{Writing, count_up}
use Rattle.http_text.proofs.CountLemmas.{count_up-then, count_up-zero}
use Rattle.http_text.proofs.KnownLemmas.{Appends-kept, Appends-then}

-- the bytes before the rest are written in n turns, with nothing failed and nothing flushed
pub record HasSent (old new : Writing) (bytes rest : List ℕ) (n : ℕ) : Type 0 where
  pub front : List ℕ
  pub split : bytes ≡ front ++ rest
  pub appends : Appends old.contents new.contents front
  pub calls : new.calls ≡ count_up old.calls n
  pub failures : new.failures ≡ old.failures
  pub flushes : new.flushes ≡ old.flushes

-- one more turn was counted
pub count_more : (n limit old now new : ℕ) → n < limit → now ≡ count_up old n → new ≡ count_up now 1
    → (k : ℕ) × (k ≤ limit) × (new ≡ count_up old k)
count_more n limit old now new below before after = (n + 1, omega arith, after ∙ ap (λ k. count_up k 1) before ∙ count_up-then old n 1)

-- a turn that took nothing
pub HasSent-kept : (old now new : Writing) (bytes rest : List ℕ) (n : ℕ) → HasSent old now bytes rest n
    → Keeps now.contents new.contents → new.calls ≡ count_up now.calls 1 → new.failures ≡ count_up now.failures 0 → new.flushes ≡ now.flushes
    → HasSent old new bytes rest (n + 1)
HasSent-kept old now new bytes rest n h keeps calls failures flushes = record {
  front = h.front;
  split = h.split;
  appends = Appends-kept old.contents now.contents new.contents h.front h.appends keeps;
  calls = calls ∙ ap (λ k. count_up k 1) h.calls ∙ count_up-then old.calls n 1;
  failures = failures ∙ count_up-zero now.failures ∙ h.failures;
  flushes = flushes ∙ h.flushes;
}

-- a turn that took the front of the rest
pub HasSent-more : (old now new : Writing) (bytes rest : List ℕ) (n count : ℕ) → HasSent old now bytes rest n → count ≤ length rest
    → Appends now.contents new.contents (take count rest) → new.calls ≡ count_up now.calls 1 → new.failures ≡ count_up now.failures 0 → new.flushes ≡ now.flushes
    → HasSent old new bytes (drop count rest) (n + 1)
HasSent-more old now new bytes rest n count h fits appends calls failures flushes = record {
  front = h.front ++ take count rest;
  split = h.split ∙ ap (λ (t : List ℕ). h.front ++ t) (sym (take-append-drop count rest)) ∙ sym (append_assoc h.front (take count rest) (drop count rest));
  appends = Appends-then old.contents now.contents new.contents h.front (take count rest) h.appends appends;
  calls = calls ∙ ap (λ k. count_up k 1) h.calls ∙ count_up-then old.calls n 1;
  failures = failures ∙ count_up-zero now.failures ∙ h.failures;
  flushes = flushes ∙ h.flushes;
}
