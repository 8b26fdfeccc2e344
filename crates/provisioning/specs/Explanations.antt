-- What the fault of an exchange was, in words.
use Rattle.std.specs.Prelude.{ℕ, List, codes}
use Rattle.provisioning.specs.declared.explanations.Phrase.{Phrase}
use Rattle.provisioning.specs.declared.explanations.Phrase.TheVariants as phrases

abbrev pub phrase_text : Phrase → List ℕ
phrase_text phrases.NoRevision = codes "no revision of the source"
phrase_text phrases.OtherAnswer = codes "an answer to another request"
phrase_text phrases.NoTag = codes "no entity tag in meta.version"
