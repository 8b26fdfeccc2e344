use Rattle.std.proofs.Common.{◌≡◌, ◌∙◌, ◌↔◌, ℕ, Bool, true, false, List, refl, subst, sym}
use Rattle.std.specs.Str.{bytes_eq}
use Rattle.std.proofs.lemmas.Slice.Eq.{bytes_eq-Decides}
use Rattle.scim_key.specs.Names.{IsKey, key_of}
use Rattle.connector_core.proofs.fitting.is_key_of.Goals as goal

-- tests of one fact are the same
same-tests : (a b : Bool) → (a ≡ true → b ≡ true) → (b ≡ true → a ≡ true) → a ≡ b
same-tests true b there back = sym (there refl)
same-tests false true there back = back refl
same-tests false false there back = refl

of-name : (test : Bool) (key name : List ℕ) → key_of key ≡ key → ((test ≡ true) ↔ (key_of key ≡ key_of name)) → test ≡ bytes_eq key (key_of name)
of-name test key name own same =
    let decides = bytes_eq-Decides key (key_of name) in
    same-tests test (bytes_eq key (key_of name)) (λ yes. decides.1 (sym own ∙ same.0 yes)) (λ yes. same.1 (own ∙ decides.0 yes))

pub returns : goal.returns
returns c = of-name c.eq_ignore_ascii_case.result c.args.key.now c.args.name.now (subst IsKey c.as_str.ensures.value c.as_str.ensures.lawful) (subst (λ (text : List ℕ). (c.eq_ignore_ascii_case.result ≡ true) ↔ (key_of text ≡ key_of c.args.name.now)) c.as_str.ensures.value c.eq_ignore_ascii_case.ensures.test)
