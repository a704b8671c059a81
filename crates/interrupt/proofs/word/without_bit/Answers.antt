use Rattle.std.proofs.Common.{arith}
use Rattle.std.specs.Int.{w32}
use Rattle.interrupt.proofs.Bits.{removed}
use Rattle.interrupt.proofs.word.without_bit.Goals as goal

pub returns : goal.returns
returns c = removed w32 c.args.word c.args.p.level c.level.result c.level.ensures.value c.level.ensures.within (omega arith)
