use Rattle.std.proofs.Common.{refl}
use Rattle.std.specs.Int.{w64}
use Rattle.interrupt.proofs.Bits.{inserted}
use Rattle.mask_device.proofs.register_set.RegisterSet.with.Goals as goal

pub returns : goal.returns
returns c = inserted w64 c.args.self.word c.args.register.index c.args.register.index refl c.args.register.within
