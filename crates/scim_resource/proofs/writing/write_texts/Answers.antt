use Rattle.scim_resource.proofs.Written.{texts_written}
use Rattle.scim_resource.proofs.writing.write_texts.Goals as goal

pub returns : goal.returns
returns c = texts_written c.args.user.now.texts c.args.texts.now c.loop-which.which-index c.args.out.now c.loop-which.out c.loop-which-test.false c.loop-which.invariant
