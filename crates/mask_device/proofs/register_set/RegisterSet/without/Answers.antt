use Rattle.std.proofs.Common.{refl, arith}
use Rattle.std.specs.Int.{w64}
use Rattle.interrupt.proofs.Bits.{removed}
use Rattle.mask_device.proofs.register_set.RegisterSet.without.Goals as goal

pub returns : goal.returns
returns c = removed w64 c.args.self.word c.args.register.index c.args.register.index refl c.args.register.within (omega arith)
