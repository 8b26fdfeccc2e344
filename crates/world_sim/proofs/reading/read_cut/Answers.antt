use Rattle.std.proofs.Common.{◌++◌, rules}
use Rattle.scim_client.specs.Answers.{AnswersSo}
use Rattle.scim_client.specs.Spelling.{SpellsRequest}
use Rattle.world_sim.proofs.Readings.{answer_unread, request_unread}
use Rattle.world_sim.proofs.reading.read_cut.Goals as goal

pub returns-in-Asked : goal.returns-in-Asked
returns-in-Asked c = λ more some whole.
    let spelt : SpellsRequest (c.args.front.now ++ more) c.in-Asked.field-0.request = search rules in
    request_unread c.args.front.now more some c.read_asked.result c.is_read.result c.in-Asked.field-0.request c.read_asked.ensures.ok c.is_read.ensures spelt

pub returns-in-Answered : goal.returns-in-Answered
returns-in-Answered c = λ more some whole.
    let answers : AnswersSo (c.args.front.now ++ more) c.in-Answered.asked.request c.in-Answered.field-1 = search rules in
    answer_unread c.args.front.now more some c.read_answered.result c.is_read-in-Answered.result c.in-Answered.asked.request c.in-Answered.field-1 c.read_answered.ensures.ok c.is_read-in-Answered.ensures answers
