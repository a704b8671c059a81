use Rattle.interrupt.proofs.Bits.{no_member}
use Rattle.interrupt.proofs.word.no_bits.Goals as goal

pub returns : goal.returns
returns c = no_member
