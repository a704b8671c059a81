use Rattle.plain.specs.Table.{at_of}
use Rattle.plain.proofs.Tables.{blanks}
use Rattle.std.proofs.Common.{rules}
use Rattle.plain.proofs.table.Table.new.Goals as goal

pub returns : goal.returns
unfolding at_of
returns c = search (rules, blanks)
