use Rattle.std.proofs.Common.{◌≡◌, ℕ, ◌<◌}
use Rattle.interrupt.specs.Meaning.{members}
use Rattle.interrupt.specs.Sets.{some}
use Rattle.register_file.specs.Registers.{entries_of, pending_at}
use Rattle.register_device.specs.Words.{held_in}
use Rattle.register_device.proofs.pending.pending_levels.Given as goal

-- the priorities at which one of the registers so far is pending
abbrev pub invariant-loop-word : goal.invariant-loop-word
invariant-loop-word l = (p : ℕ) → p < 32 → members l.levels p ≡ some l.word-index (pending_at (entries_of held_in l.list) p)
