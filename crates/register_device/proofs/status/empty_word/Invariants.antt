use Rattle.std.proofs.Common.{◌≡◌, not}
use Rattle.interrupt.specs.Sets.{word_of}
use Rattle.list_register.specs.Entries.{is_valid}
use Rattle.register_file.specs.Registers.{entries_of}
use Rattle.register_device.specs.Words.{held_in}
use Rattle.register_device.proofs.status.empty_word.Given as goal

-- the word of the registers so far
abbrev pub invariant-loop-k : goal.invariant-loop-k
invariant-loop-k l = l.word ≡ word_of l.k (λ j. not (is_valid (entries_of held_in l.list j).state))
