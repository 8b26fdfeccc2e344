use Rattle.std.proofs.Common.{drop, slice_range, ap, ◌∙◌}
use Rattle.http_text.specs.Arrays.{bytes_of}
use Rattle.http_text.specs.Counts.{Reading}
use Rattle.http_text.proofs.AheadLemmas.{slice_from, Consumes-ahead}
use Rattle.http_text.proofs.input.Input.take.Goals as goal

pub returns-clause-bytes : goal.returns-clause-bytes
returns-clause-bytes g c =
    let before = slice_range (bytes_of c.self.inside.array) c.self.inside.start c.self.inside.end in
    let left = g.R.Read.remaining c.self.inside.reader in
    rw (slice_from, ← c.self.view_is) (Consumes-ahead before left c.args.count)

pub returns-clause-ahead : goal.returns-clause-ahead
returns-clause-ahead g c =
    slice_from (bytes_of c.self.inside.array) c.self.inside.start c.args.count c.self.inside.end ∙ ap (λ (r : Reading). drop c.args.count r.ahead) c.self.view_is
