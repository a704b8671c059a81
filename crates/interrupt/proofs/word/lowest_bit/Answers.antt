use Rattle.std.proofs.Common.{arith}
use Rattle.std.specs.Int.{w32}
use Rattle.interrupt.proofs.Bits.{trailing_lowest}
use Rattle.interrupt.proofs.word.lowest_bit.Goals as goal

pub returns-clause-value : goal.returns-clause-value
returns-clause-value c = trailing_lowest w32 c.args.word (omega arith)
