use Rattle.std.proofs.Common.{ap, arith}
use Rattle.sqlite_value.specs.declared.value.Value.TheVariants.{Int}
use Rattle.sql_tables.proofs.Values.{bound_int}
use Rattle.journal_store.proofs.tables.number_param.Goals as goal

pub returns : goal.returns
returns c = ap Int (bound_int c.from.result c.args.number c.from.ensures (omega (arith, c.ranges.number.fits)))
