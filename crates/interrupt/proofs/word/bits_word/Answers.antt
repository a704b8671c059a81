use Rattle.std.proofs.Common.{sym, arith}
use Rattle.interrupt.proofs.Words.{word_of_member}
use Rattle.interrupt.proofs.word.bits_word.Goals as goal

pub returns : goal.returns
returns c = sym (word_of_member 32 c.args.word (omega arith))
