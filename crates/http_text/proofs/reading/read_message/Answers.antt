use Rattle.http_text.specs.Parsing.{form_of}
use Rattle.http_text.proofs.FindLemmas.{finds_message_at, finds_refused_head, finds_end, finds_long, finds_malformed}
use Rattle.http_text.proofs.FormLaws.{laws_of}
use Rattle.http_text.proofs.reading.read_message.Goals as goal

pub returns-clause-found : goal.returns-clause-found
returns-clause-found g c = finds_message_at (form_of c.args.kind) (laws_of c.args.kind) _ _ _ c.read_whole.ensures.message c.read_whole.ensures.refused

pub returns-clause-refused_head : goal.returns-clause-refused_head
returns-clause-refused_head g c = finds_refused_head (form_of c.args.kind) (laws_of c.args.kind) _ _ _ c.read_whole.ensures.message c.read_whole.ensures.refused

pub returns-clause-ended : goal.returns-clause-ended
returns-clause-ended g c = finds_end (form_of c.args.kind) (laws_of c.args.kind) _ _ _ c.read_whole.ensures.message c.read_whole.ensures.refused

pub returns-clause-long : goal.returns-clause-long
returns-clause-long g c = finds_long (form_of c.args.kind) (laws_of c.args.kind) _ _ _ c.read_whole.ensures.message c.read_whole.ensures.refused

pub returns-clause-malformed : goal.returns-clause-malformed
returns-clause-malformed g c = finds_malformed (form_of c.args.kind) (laws_of c.args.kind) _ _ _ c.read_whole.ensures.message c.read_whole.ensures.refused
