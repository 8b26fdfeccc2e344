use Rattle.http_text.proofs.TextLemmas as lemmas
use Rattle.http_text.proofs.texts.texts_are_read.Goals as goal

pub returns : goal.returns
returns c = lemmas.texts_are_read
