use Rattle.std.proofs.Common.{rules, ◌≡◌, ◌∙◌, [], ◌∷◌}
use Rattle.std.specs.Prelude.{string_bytes}
use Rattle.std.proofs.lemmas.Str.{IsUtf8-string_bytes}
use Rattle.json.specs.Token.{string}
use Rattle.scim_filter.proofs.Written.{written}
use Rattle.scim_filter.proofs.texts.write_quoted.Goals as goal

pub unwrap-requires : goal.unwrap-requires
unwrap-requires c =
    let same : c.string.new.self.before ≡ string_bytes c.args.out.now = search rules in
    let one : c.string.new.self.tokens ≡ string c.args.text.now ∷ [] = search rules in
    let is = written c.into_inner.result.items _ (string_bytes c.args.out.now) c.args.text.now _ c.into_inner.ensures.items same one (IsUtf8-string_bytes c.args.out.now) c.into_inner.ensures.utf8 in
    c.from_utf8.ensures.succeeds is.utf8

pub returns : goal.returns
returns c =
    let same : c.string.new.self.before ≡ string_bytes c.args.out.now = search rules in
    let one : c.string.new.self.tokens ≡ string c.args.text.now ∷ [] = search rules in
    let is = written c.into_inner.result.items _ (string_bytes c.args.out.now) c.args.text.now _ c.into_inner.ensures.items same one (IsUtf8-string_bytes c.args.out.now) c.into_inner.ensures.utf8 in
    let made : string_bytes c.unwrap.result ≡ c.into_inner.result.items = search rules in
    made ∙ is.value
