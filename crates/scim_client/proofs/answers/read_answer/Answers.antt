use Rattle.std.proofs.Common.{Err}
use Rattle.scim_client.specs.declared.answers.AnswerFault.TheVariants.{NotOneResponse}
use Rattle.scim_client.proofs.AnswerLemmas.{says_ok, says_refused, only, only_refusal}
use Rattle.scim_client.proofs.answers.read_answer.Goals as goal

pub returns-in-Ok-Some-clause-only : goal.returns-in-Ok-Some-clause-only
returns-in-Ok-Some-clause-only c =
    let is = rw c.in-Ok-Some.field-0-is at c.in-Ok-Some.ensures in
    only _ _ _ (says_ok _ _ _ is _ c.answer_in.ensures) (says_refused _ _ _ is _ c.answer_in.ensures)

pub returns-in-Ok-Some-clause-only_refusal : goal.returns-in-Ok-Some-clause-only_refusal
returns-in-Ok-Some-clause-only_refusal c =
    let is = rw c.in-Ok-Some.field-0-is at c.in-Ok-Some.ensures in
    only_refusal _ _ _ (says_ok _ _ _ is _ c.answer_in.ensures) (says_refused _ _ _ is _ c.answer_in.ensures)

pub returns-in-Ok-None-clause-only : goal.returns-in-Ok-None-clause-only
returns-in-Ok-None-clause-only c =
    let none = rw c.in-Ok-None.field-0-is at c.in-Ok-None.ensures in
    only c.args.bytes.now c.args.request.now (Err NotOneResponse) tt none

pub returns-in-Ok-None-clause-only_refusal : goal.returns-in-Ok-None-clause-only_refusal
returns-in-Ok-None-clause-only_refusal c =
    let none = rw c.in-Ok-None.field-0-is at c.in-Ok-None.ensures in
    only_refusal c.args.bytes.now c.args.request.now (Err NotOneResponse) tt none
