use Rattle.std.proofs.Common.{◌≡◌, map}
use Rattle.form_urlencoded.specs.Parse.{raw_pairs_left}
use Rattle.scim_http.specs.Queries.{pair_of, value_in, parameter}
use Rattle.scim_http.proofs.queries.parameter.Given as goal

-- none of the pairs that were passed has the name
abbrev pub invariant-loop-written_name : goal.invariant-loop-written_name
invariant-loop-written_name l = value_in l.name (map pair_of (raw_pairs_left l.written_name-iterator)) ≡ parameter l.name l.query
