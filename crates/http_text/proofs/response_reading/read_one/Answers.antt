use Rattle.std.proofs.Common.{rules, ◌≡◌, true, false}
use Rattle.http_text.specs.Judging.{has_chunks}
use Rattle.http_text.proofs.ResponseReading.{takes_bare, takes_chunked, refused_behind}
use Rattle.http_text.proofs.response_reading.read_one.Goals as goal

pub returns-then-not-has_chunks-clause-message : goal.returns-then-not-has_chunks-clause-message
returns-then-not-has_chunks-clause-message g c =
    let none : has_chunks c.in_ok-message.message.head ≡ false = search rules in
    takes_bare _ _ c.in_ok-message.message none c.in_ok-message.ensures.message

pub returns-in-Ok-clause-message : goal.returns-in-Ok-clause-message
returns-in-Ok-clause-message g c =
    let chunks : has_chunks c.in_ok-message.message.head ≡ true = search rules in
    takes_chunked _ _ _ c.in_ok-message.message chunks c.in_ok-message.ensures.message _ c.in-Ok.ensures.body

pub returns-in-Err-clause-refused : goal.returns-in-Err-clause-refused
returns-in-Err-clause-refused g c =
    let chunks : has_chunks c.in_ok-message.message.head ≡ true = search rules in
    refused_behind _ _ _ c.in_ok-message.message chunks c.in_ok-message.ensures.message c.in-Err.fault c.in-Err.ensures.cut
