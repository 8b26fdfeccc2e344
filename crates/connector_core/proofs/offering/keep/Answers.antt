use Rattle.std.proofs.Common.{◌∙◌, ap}
use Rattle.connector_core.specs.Offering.{all_back, taken_back}
use Rattle.connector_core.proofs.Offered.{back-more}
use Rattle.connector_core.proofs.offering.keep.Goals as goal

pub returns-clause-back : goal.returns-clause-back
returns-clause-back c = ap (λ notes. all_back notes c.args.book.now) c.in_default.ensures.items ∙ back-more c.args.notes.now.items c.args.note c.args.book.now

pub returns-in-Err-clause-back : goal.returns-in-Err-clause-back
returns-in-Err-clause-back c =
    ap (λ notes. all_back notes c.take_back.new.book) c.in-Err.ensures.items
    ∙ ap (all_back c.args.notes.now.items) (c.take_back.ensures ∙ ap (taken_back c.args.book.now) c.in-Err.ensures.value_returned)
