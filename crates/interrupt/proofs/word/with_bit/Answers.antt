use Rattle.std.specs.Int.{w32}
use Rattle.interrupt.proofs.Bits.{inserted}
use Rattle.interrupt.proofs.word.with_bit.Goals as goal

pub returns : goal.returns
returns c = inserted w32 c.args.word c.args.p.level c.level.result c.level.ensures.value c.level.ensures.within
